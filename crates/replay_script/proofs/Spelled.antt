-- What is read at a place is a part that is spelled there.
use Rattle.std.proofs.Common.{◌≡◌, ◌≢◌, inl, inr, ℕ, ◌+◌, ◌<◌, true, cond, ◌&&◌, ◌==◌, List, [], ◌∷◌, ◌++◌, length, get_or, take, drop, Option, Some, None, refl, sym, ap, subst, ◌∙◌, arith, append_assoc, append-nil, bytes_eq, codes, nat_lt, slice_index}
use Rattle.std.specs.Prelude.{IfSome, IfNone}
use Rattle.std.specs.Fmt.{decimal}
use Rattle.std.proofs.lemmas.Bool.{and_parts, ltb-true, eqb-true}
use Rattle.std.proofs.lemmas.Option.{same_Some, none-some}
use Rattle.std.proofs.lemmas.List.{take-append-drop, drop_more, length-take}
use Rattle.std.proofs.lemmas.Slice.Eq.{bytes_eq-Decides}
use Rattle.label_sets.specs.Lists.{◌>>=◌, when_true}
use Rattle.page_model.specs.declared.format.Format.{Format}
use Rattle.page_model.specs.declared.format.Format.TheVariants as formats
use Rattle.plain_words.specs.WholeNumbers.{number_in}
use Rattle.plain_words.specs.Places.{place_in}
use Rattle.plain_words.specs.HeadLines.{head_line, words_at}
use Rattle.plain_words.proofs.Laws.{bind_some, when_some, chosen, first_gives, number_spelled, place_spelled, words_spelled}
use Rattle.replay_script.specs.declared.header.HeaderLine.{HeaderLine}
use Rattle.replay_script.specs.HeaderLines.{header_lines, header_row}
use Rattle.replay_script.specs.declared.ending.Ending.{Ending}
use Rattle.replay_script.specs.declared.ending.Ending.TheVariants.{ConnectFails, WriteFails, ReadFails, PeerEnds}
use Rattle.replay_script.specs.ScriptParts.{ending_word, format_word, Part, opening, header, target, page, scrape, post, record_words, part_words, record_bytes, body_text, part_text}
use Rattle.replay_script.specs.ScriptReading.{most_number, body_at, header_line_in, ending_in, format_in, header_in, target_in, record_in, record_at, target_or_record, part_with, front_part}

-- a word that compares as another is that word
same_word : (a b : List ℕ) → bytes_eq a b ≡ true → a ≡ b
same_word a b e = (bytes_eq-Decides a b).0 e

-- ---- bodies

body_spelled : (count : ℕ) (text : List ℕ) (found : List ℕ × List ℕ) → body_at count text ≡ Some found → (text ≡ (found.0 ++ 10 ∷ []) ++ found.1) × (length found.0 ≡ count)
unfolding body_at
body_spelled count text found e =
    let made : List ℕ × List ℕ = (take count text, drop (count + 1) text) in
    let both = when_some (nat_lt count (length text) && slice_index text count == 10) made found e in
    let tests = and_parts (nat_lt count (length text)) (slice_index text count == 10) both.0 in
    let inside : count < length text = ltb-true count (length text) tests.0 in
    let feed : get_or text count 0 ≡ 10 = eqb-true (slice_index text count) 10 tests.1 in
    let whole : text ≡ take count text ++ 10 ∷ drop (count + 1) text =
    sym (take-append-drop count text) ∙ ap (λ t. take count text ++ t) (drop_more text count 0 inside) ∙ ap (λ c. take count text ++ c ∷ drop (count + 1) text) feed in
    let here : (text ≡ (made.0 ++ 10 ∷ []) ++ made.1) × (length made.0 ≡ count) = (whole ∙ sym (append_assoc made.0 (10 ∷ []) made.1), length_take count text inside) in
    subst (λ (f : List ℕ × List ℕ). (text ≡ (f.0 ++ 10 ∷ []) ++ f.1) × (length f.0 ≡ count)) both.1 here
  where
    length_take : (n : ℕ) (xs : List ℕ) → n < length xs → length (take n xs) ≡ n
    length_take n xs l = omega (arith, length-take n xs)

-- ---- parts without bytes

-- the part has these words and no bytes
record IsLine (p : Part) (ws : List (List ℕ)) : Type 0 where
  words : part_words p ≡ ws
  no_bytes : record_bytes p ≡ None

-- the part has these words and these bytes
record IsRecord (p : Part) (ws : List (List ℕ)) (bytes : List ℕ) : Type 0 where
  words : part_words p ≡ ws
  some_bytes : record_bytes p ≡ Some bytes

header_line_spelled : (word : List ℕ) (line : HeaderLine) → header_line_in word ≡ Some line → (header_row line).word ≡ word
unfolding header_line_in
header_line_spelled word line e =
    let found = first_gives (λ l. when_true (bytes_eq word (header_row l).word) l) header_lines line e in
    let both = when_some (bytes_eq word (header_row found.0).word) found.0 line found.1 in
    ap (λ l. (header_row l).word) (sym both.1) ∙ sym (same_word word (header_row found.0).word both.0)

header_spelled : (a b : List ℕ) (p : Part) → header_in a b ≡ Some p → IsLine p (a ∷ b ∷ [])
unfolding header_in part_words
header_spelled a b p e =
    let numbered : HeaderLine → Option Part = λ line. number_in most_number b >>= λ n. Some (header line n) in
    elim (chosen (bytes_eq a (codes "bridge-script")) (when_true (bytes_eq b (codes "1")) opening) (header_line_in a >>= numbered) (Some p) e) [
      | inl h ↦
          let both = when_some (bytes_eq b (codes "1")) opening p h.1 in
          let first : a ≡ codes "bridge-script" = same_word a (codes "bridge-script") h.0 in
          let second : b ≡ codes "1" = same_word b (codes "1") both.0 in
          let words : part_words opening ≡ a ∷ b ∷ [] = ap (λ w. w ∷ codes "1" ∷ []) (sym first) ∙ ap (λ w. a ∷ w ∷ []) (sym second) in
          let one : IsLine opening (a ∷ b ∷ []) = record { words = words; no_bytes = refl } in
          subst (λ q. IsLine q (a ∷ b ∷ [])) both.1 one
      | inr h ↦
          let line = bind_some (header_line_in a) numbered p h.1 in
          let n = bind_some (number_in most_number b) (λ n. Some (header line.0 n)) p line.2 in
          let word = header_line_spelled a line.0 line.1 in
          let number = (number_spelled most_number b n.0 n.1).0 in
          let words : part_words (header line.0 n.0) ≡ a ∷ b ∷ [] = ap (λ w. w ∷ decimal n.0 ∷ []) word ∙ ap (λ w. a ∷ w ∷ []) (sym number) in
          let one : IsLine (header line.0 n.0) (a ∷ b ∷ []) = record { words = words; no_bytes = refl } in
          subst (λ q. IsLine q (a ∷ b ∷ [])) (same_Some (header line.0 n.0) p n.2) one
    ]

target_spelled : (b c d : List ℕ) (p : Part) → target_in b c d ≡ Some p → IsLine p (codes "target" ∷ b ∷ c ∷ d ∷ [])
unfolding target_in part_words
target_spelled b c d p e =
    let made : List ℕ × ℕ → Part = λ f. target (record { job = b; host = f.0; port = f.1; path = d }) in
    let place = bind_some (place_in 256 c) (λ f. Some (made f)) p e in
    let spelled = place_spelled 256 c place.0 place.1 in
    let words : part_words (made place.0) ≡ codes "target" ∷ b ∷ c ∷ d ∷ [] = ap (λ w. codes "target" ∷ b ∷ w ∷ d ∷ []) (sym spelled.0) in
    let one : IsLine (made place.0) (codes "target" ∷ b ∷ c ∷ d ∷ []) = record { words = words; no_bytes = refl } in
    subst (λ q. IsLine q (codes "target" ∷ b ∷ c ∷ d ∷ [])) (same_Some (made place.0) p place.2) one

-- ---- records

format_spelled : (word : List ℕ) (format : Format) → format_in word ≡ Some format → format_word format ≡ word
unfolding format_in
format_spelled word format e =
    let found = first_gives (λ f. when_true (bytes_eq word (format_word f)) f) (formats.Text ∷ formats.OpenMetrics ∷ []) format e in
    let both = when_some (bytes_eq word (format_word found.0)) found.0 format found.1 in
    ap format_word (sym both.1) ∙ sym (same_word word (format_word found.0) both.0)

-- a format is read as itself
format_read : (format : Format) → format_in (format_word format) ≡ Some format
unfolding format_in
format_read formats.Text = refl
format_read formats.OpenMetrics = refl

-- the format that a word names is that of the word
pub format_told : (word : List ℕ) (found : Option Format) → found ≡ format_in word → IfSome found (λ format. word ≡ format_word format)
format_told word None e = tt
format_told word (Some format) e = sym (format_spelled word format (sym e))

-- a word that names no format is that of none
pub format_untold : (word : List ℕ) (found : Option Format) → found ≡ format_in word → IfNone found ((format : Format) → word ≢ format_word format)
format_untold word None e = λ format is. none-some format (e ∙ ap format_in is ∙ format_read format)
format_untold word (Some format) e = tt

ending_spelled : (word : List ℕ) (ending : Ending) → ending_in word ≡ Some ending → ending_word ending ≡ word
unfolding ending_in
ending_spelled word ending e =
    let found = first_gives (λ x. when_true (bytes_eq word (ending_word x)) x) (ConnectFails ∷ WriteFails ∷ ReadFails ∷ PeerEnds ∷ []) ending e in
    let both = when_some (bytes_eq word (ending_word found.0)) found.0 ending found.1 in
    ap ending_word (sym both.1) ∙ sym (same_word word (ending_word found.0) both.0)

-- a part of a sort and a form is a record of them
record_of : {F : Type 0} (make : F → Part) (word_of : F → List ℕ) (name : List ℕ) (at : ℕ) (bytes : List ℕ)
    → ((f : F) → IsRecord (make f) (record_words name at (word_of f) bytes) bytes)
    → (sort form : List ℕ) (read : Option F) (p : Part) → sort ≡ name → ((f : F) → read ≡ Some f → word_of f ≡ form) → (read >>= λ f. Some (make f)) ≡ Some p
    → IsRecord p (record_words sort at form bytes) bytes
record_of make word_of name at bytes is sort form read p named spelled e =
    let f = bind_some read (λ f. Some (make f)) p e in
    let made = is f.0 in
    let words : part_words (make f.0) ≡ record_words sort at form bytes =
    made.words ∙ ap (λ w. record_words name at w bytes) (spelled f.0 f.1) ∙ ap (λ s. record_words s at form bytes) (sym named) in
    let one : IsRecord (make f.0) (record_words sort at form bytes) bytes = record { words = words; some_bytes = made.some_bytes } in
    subst (λ q. IsRecord q (record_words sort at form bytes) bytes) (same_Some (make f.0) p f.2) one

record_spelled : (sort form : List ℕ) (at : ℕ) (bytes : List ℕ) (p : Part) → record_in sort at form bytes ≡ Some p → IsRecord p (record_words sort at form bytes) bytes
unfolding record_in part_words
record_spelled sort form at bytes p e =
    let pages = format_in form >>= λ format. Some (page at format bytes) in
    let scrapes = ending_in form >>= λ ending. Some (scrape at ending bytes) in
    let posts = ending_in form >>= λ ending. Some (post at ending bytes) in
    elim (chosen (bytes_eq sort (codes "page")) pages
    (cond (bytes_eq sort (codes "scrape")) scrapes (cond (bytes_eq sort (codes "post")) posts None)) (Some p) e) [
      | inl h ↦ record_of (λ format. page at format bytes) format_word (codes "page") at bytes (λ f. record { words = refl; some_bytes = refl })
          sort form (format_in form) p (same_word sort (codes "page") h.0) (format_spelled form) h.1
      | inr h ↦ elim (chosen (bytes_eq sort (codes "scrape")) scrapes (cond (bytes_eq sort (codes "post")) posts None) (Some p) h.1) [
        | inl k ↦ record_of (λ ending. scrape at ending bytes) ending_word (codes "scrape") at bytes (λ f. record { words = refl; some_bytes = refl })
            sort form (ending_in form) p (same_word sort (codes "scrape") k.0) (ending_spelled form) k.1
        | inr k ↦ elim (chosen (bytes_eq sort (codes "post")) posts None (Some p) k.1) [
          | inl m ↦ record_of (λ ending. post at ending bytes) ending_word (codes "post") at bytes (λ f. record { words = refl; some_bytes = refl })
              sort form (ending_in form) p (same_word sort (codes "post") m.0) (ending_spelled form) m.1
          | inr m ↦ absurd (none-some p m.1)
        ]
      ]
    ]

-- ---- parts

-- a line and what is left
line_whole : (p : Part) (ws : List (List ℕ)) (rest : List ℕ) → IsLine p ws → head_line ws ++ rest ≡ part_text p ++ rest
line_whole p ws rest is =
    ap (λ w. head_line w ++ rest) (sym is.words) ∙ ap (λ t. t ++ rest) (sym (append-nil (head_line (part_words p)))) ∙ ap (λ o. (head_line (part_words p) ++ body_text o) ++ rest) (sym is.no_bytes)

-- a record and what is left
record_whole : (p : Part) (ws : List (List ℕ)) (bytes rest more : List ℕ) → IsRecord p ws bytes → rest ≡ (bytes ++ 10 ∷ []) ++ more → head_line ws ++ rest ≡ part_text p ++ more
record_whole p ws bytes rest more is text =
    ap (λ w. head_line w ++ rest) (sym is.words) ∙ ap (λ t. head_line (part_words p) ++ t) text ∙ sym (append_assoc (head_line (part_words p)) (bytes ++ 10 ∷ []) more)
    ∙ ap (λ o. (head_line (part_words p) ++ body_text o) ++ more) (sym is.some_bytes)

-- a line's part, and the text behind the line
kept_rest : (ws : List (List ℕ)) (rest : List ℕ) (o : Option Part) (found : Part × List ℕ) → ((p : Part) → o ≡ Some p → IsLine p ws) → (o >>= λ p. Some (p, rest)) ≡ Some found
    → head_line ws ++ rest ≡ part_text found.0 ++ found.1
kept_rest ws rest o found is e =
    let p = bind_some o (λ p. Some (p, rest)) found e in
    let pair : Part × List ℕ = (p.0, rest) in
    subst (λ (f : Part × List ℕ). head_line ws ++ rest ≡ part_text f.0 ++ f.1) (same_Some pair found p.2) (line_whole p.0 ws rest (is p.0 p.1))

record_at_spelled : (a b c d rest : List ℕ) (found : Part × List ℕ) → record_at a b c d rest ≡ Some found → head_line (a ∷ b ∷ c ∷ d ∷ []) ++ rest ≡ part_text found.0 ++ found.1
unfolding record_at
record_at_spelled a b c d rest found e =
    let last : ℕ → List ℕ × List ℕ → Option (Part × List ℕ) = λ at body. record_in a at c body.0 >>= λ part. Some (part, body.1) in
    let third : ℕ → ℕ → Option (Part × List ℕ) = λ at len. body_at len rest >>= last at in
    let at = bind_some (number_in most_number b) (λ at. number_in most_number d >>= third at) found e in
    let len = bind_some (number_in most_number d) (third at.0) found at.2 in
    let body = bind_some (body_at len.0 rest) (last at.0) found len.2 in
    let part = bind_some (record_in a at.0 c body.0.0) (λ part. Some (part, body.0.1)) found body.2 in
    let text = body_spelled len.0 rest body.0 body.1 in
    let is = record_spelled a c at.0 body.0.0 part.0 part.1 in
    let words : a ∷ b ∷ c ∷ d ∷ [] ≡ record_words a at.0 c body.0.0 =
    ap (λ w. a ∷ w ∷ c ∷ d ∷ []) (number_spelled most_number b at.0 at.1).0 ∙ ap (λ w. a ∷ decimal at.0 ∷ c ∷ w ∷ []) ((number_spelled most_number d len.0 len.1).0 ∙ ap decimal (sym text.1)) in
    let pair : Part × List ℕ = (part.0, body.0.1) in
    let first : head_line (a ∷ b ∷ c ∷ d ∷ []) ++ rest ≡ head_line (record_words a at.0 c body.0.0) ++ rest = ap (λ ws. head_line ws ++ rest) words in
    let whole : head_line (record_words a at.0 c body.0.0) ++ rest ≡ part_text part.0 ++ body.0.1 = record_whole part.0 (record_words a at.0 c body.0.0) body.0.0 rest body.0.1 is text.0 in
    let both : head_line (a ∷ b ∷ c ∷ d ∷ []) ++ rest ≡ part_text pair.0 ++ pair.1 = first ∙ whole in
    subst (λ (f : Part × List ℕ). head_line (a ∷ b ∷ c ∷ d ∷ []) ++ rest ≡ part_text f.0 ++ f.1) (same_Some pair found part.2) both

with_spelled : (ws : List (List ℕ)) (rest : List ℕ) (found : Part × List ℕ) → part_with ws rest ≡ Some found → head_line ws ++ rest ≡ part_text found.0 ++ found.1
unfolding part_with target_or_record
with_spelled [] rest found e = absurd (none-some found e)
with_spelled (a ∷ []) rest found e = absurd (none-some found e)
with_spelled (a ∷ b ∷ []) rest found e = kept_rest (a ∷ b ∷ []) rest (header_in a b) found (header_spelled a b) e
with_spelled (a ∷ b ∷ c ∷ []) rest found e = absurd (none-some found e)
with_spelled (a ∷ b ∷ c ∷ d ∷ []) rest found e =
    elim (chosen (bytes_eq a (codes "target")) (target_in b c d >>= λ part. Some (part, rest)) (record_at a b c d rest) (Some found) e) [
      | inl h ↦ ap (λ w. head_line (w ∷ b ∷ c ∷ d ∷ []) ++ rest) (same_word a (codes "target") h.0) ∙ kept_rest (codes "target" ∷ b ∷ c ∷ d ∷ []) rest (target_in b c d) found (target_spelled b c d) h.1
      | inr h ↦ record_at_spelled a b c d rest found h.1
    ]
with_spelled (a ∷ b ∷ c ∷ d ∷ f ∷ ws) rest found e = absurd (none-some found e)

-- what is read at the front is spelled there
pub part_spelled : (text : List ℕ) (found : Part × List ℕ) → front_part text ≡ Some found → text ≡ part_text found.0 ++ found.1
unfolding front_part
part_spelled text found e =
    let line = bind_some (words_at text) (λ line. part_with line.0 line.1) found e in
    words_spelled text line.0 line.1 ∙ with_spelled line.0.0 line.0.1 found line.2
