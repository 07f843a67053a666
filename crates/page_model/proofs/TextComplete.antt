-- What a line spells is what is read.
use Rattle.std.proofs.Common.{◌≡◌, ◌≢◌, ℕ, zero, suc, ◌≤◌, ◌<◌, Bool, true, false, not, List, [], ◌∷◌, ◌++◌, length, length-append, Option, Some, None, refl, sym, ap, subst, ◌∙◌, append_assoc, codes, ◌⊎◌, inl, inr, arith, eqb}
use Rattle.std.specs.Prelude.{take_while, ◌==◌}
use Rattle.std.specs.List.{list_all}
use Rattle.std.specs.Str.{bytes_eq}
use Rattle.std.specs.Cmp.Lexicographic.{bytes_decides}
use Rattle.std.proofs.lemmas.List.{append-nil}
use Rattle.std.proofs.Common.{eq-eqb}
use Rattle.std.proofs.lemmas.Bool.{eqb-true, and_parts, or_from}
use Rattle.std.proofs.lemmas.Option.{none-some, same_Some}
use Rattle.label_sets.specs.declared.kind.Kind.{Kind}
use Rattle.label_sets.specs.declared.kind.Kind.TheVariants.{Counter, Gauge, Histogram, Summary, Unknown}
use Rattle.label_sets.specs.declared.label.Label.{Label}
use Rattle.label_sets.specs.Lists.{rest_while, behind}
use Rattle.label_sets.specs.Names.{is_metric_name, is_metric_start, is_metric_char, is_label_name, is_label_start, is_label_char, is_blank}
use Rattle.label_sets.specs.Escapes.{help_escape, quote_escape, unescaped, is_quotable}
use Rattle.page_model.proofs.Fronts.{Stops, rest_stops, take_while-append, rest_while-append, quoted-append}
use Rattle.exact_decimal.specs.Tokens.{is_token_char, is_number_token}
use Rattle.exact_decimal.proofs.Laws.{all_mono, token_passes}
use Rattle.page_model.proofs.TokenChars.{metric_chars, label_chars, differs, integer_passes, no_empty_token, no_brace, first_differs}
use Rattle.page_model.specs.Written.{Written, WrittenSample, WrittenExemplar, blank, comment, eof, help, type_line, unit_line, sample}
use Rattle.page_model.specs.TextItems.{is_integer_token, without_leading_blanks, trimmed, AreBlanks, IsGap, is_not_blank, word_behind_mark, SpellsHelpText, text_kind_word, SpellsLabel, SpellsLabels, SpellsMiddle, SpellsStamp, SpellsSample, SpellsTrimmed, SpellsText}
use Rattle.page_model.specs.TextReading.{begins_blank, at_blank, label_at, labels_at, middle_from, middle_at, stamp_of, sample_of, kind_named, named_at, marked_of, trimmed_of, text_line_of}

-- ---- blanks, names and tokens

pub eqb_flip : (a b : ℕ) → eqb a b ≡ false → eqb b a ≡ false
eqb_flip a b h = go (eqb b a) refl
  where
    go : (r : Bool) → eqb b a ≡ r → eqb b a ≡ false
    go false e = e
    go true e = absurd (let same : b ≡ a = eqb-true b a e in let k : eqb a b ≡ true = subst (λ x. eqb x b ≡ true) same (eq-eqb b b refl) in let m : true ≡ false = sym k ∙ h in cc)

-- what passes a test that no blank passes is no blank
not_blank : (p : ℕ → Bool) → p 32 ≡ false → p 9 ≡ false → (c : ℕ) → p c ≡ true → is_blank c ≡ false
not_blank p space tab c h = or_from (c == 32) (c == 9) (eqb_flip 32 c (differs p 32 c space h)) (eqb_flip 9 c (differs p 9 c tab h))

not_false : (b : Bool) → b ≡ false → not b ≡ true
not_false true e = absurd cc
not_false false e = refl

-- a blank fails such a test
blank_fails : (p : ℕ → Bool) → p 32 ≡ false → p 9 ≡ false → (c : ℕ) → is_blank c ≡ true → p c ≡ false
blank_fails p space tab c h = go (p c) refl
  where
    go : (b : Bool) → p c ≡ b → p c ≡ false
    go false e = e
    go true e = absurd (let k : false ≡ true = sym (not_blank p space tab c e) ∙ h in cc)

blanks_stop : (p : ℕ → Bool) → p 32 ≡ false → p 9 ≡ false → (bs tail : List ℕ) → AreBlanks bs → Stops p tail → Stops p (bs ++ tail)
blanks_stop p space tab [] tail h s = s
blanks_stop p space tab (b ∷ bs) tail h s = blank_fails p space tab b (and_parts (is_blank b) (list_all is_blank bs) h).0

gap_stops : (p : ℕ → Bool) → p 32 ≡ false → p 9 ≡ false → (bs tail : List ℕ) → IsGap bs → Stops p (bs ++ tail)
gap_stops p space tab [] tail g = absurd (g.1 refl)
gap_stops p space tab (b ∷ bs) tail g = blank_fails p space tab b (and_parts (is_blank b) (list_all is_blank bs) g.0).0

blanks_dropped : (bs tail : List ℕ) → AreBlanks bs → Stops is_blank tail → without_leading_blanks (bs ++ tail) ≡ tail
blanks_dropped bs tail h s = rest_while-append is_blank bs tail h s

metric_starts : (name tail : List ℕ) → is_metric_name name ≡ true → Stops is_blank (name ++ tail)
metric_starts [] tail h = absurd (let e : false ≡ true = h in cc)
metric_starts (c ∷ cs) tail h = not_blank is_metric_start refl refl c (and_parts (is_metric_start c) (list_all is_metric_char cs) h).0

label_starts : (name tail : List ℕ) → is_label_name name ≡ true → Stops is_blank (name ++ tail)
label_starts [] tail h = absurd (let e : false ≡ true = h in cc)
label_starts (c ∷ cs) tail h = not_blank is_label_start refl refl c (and_parts (is_label_start c) (list_all is_label_char cs) h).0

token_char : (c : ℕ) → is_token_char c ≡ true → is_not_blank c ≡ true
token_char c h = not_false (is_blank c) (not_blank is_token_char refl refl c h)

number_chars : (token : List ℕ) → is_number_token token ≡ true → list_all is_not_blank token ≡ true
number_chars token h = all_mono is_token_char is_not_blank token_char token (token_passes token h)

number_starts : (token tail : List ℕ) → is_number_token token ≡ true → Stops is_blank (token ++ tail)
number_starts [] tail h = absurd (no_empty_token h)
number_starts (c ∷ cs) tail h = not_blank is_token_char refl refl c (and_parts (is_token_char c) (list_all is_token_char cs) (token_passes (c ∷ cs) h)).0

integer_starts : (token : List ℕ) → is_integer_token token ≡ true → Stops is_blank token
integer_starts [] h = tt
integer_starts (c ∷ cs) h = not_blank is_token_char refl refl c (and_parts (is_token_char c) (list_all is_token_char cs) (integer_passes (c ∷ cs) h)).0

-- ---- labels

-- a label from its name on, in front of what follows it
abbrev from_name : (front rest : List ℕ) (l : Label) → SpellsLabel front l → List ℕ
from_name front rest l s = l.name ++ (s.second ++ 61 ∷ (s.third ++ 34 ∷ (s.quoted ++ 34 ∷ (s.last ++ rest))))

label_base : (front rest : List ℕ) (l : Label) (s : SpellsLabel front l) → without_leading_blanks (front ++ rest) ≡ from_name front rest l s
label_base front rest l s =
    let regrouped : front ++ rest ≡ s.first ++ from_name front rest l s = rw s.whole (simp append_assoc refl) in
    ap without_leading_blanks regrouped ∙ blanks_dropped s.first (from_name front rest l s) s.blanks.0 (label_starts l.name (s.second ++ 61 ∷ (s.third ++ 34 ∷ (s.quoted ++ 34 ∷ (s.last ++ rest)))) s.label_name)

label_read : (name second third quoted last rest : List ℕ) → is_label_name name ≡ true → is_quotable quoted ≡ true → AreBlanks second → AreBlanks third → AreBlanks last → Stops is_blank rest
    → label_at (name ++ (second ++ 61 ∷ (third ++ 34 ∷ (quoted ++ 34 ∷ (last ++ rest))))) ≡ Some (record { name = name; value = unescaped quote_escape quoted }, rest)
unfolding label_at
label_read name second third quoted last rest named quotable b1 b2 b3 stops =
    let behind_quote : List ℕ = quoted ++ 34 ∷ (last ++ rest) in
    let behind_sign : List ℕ = third ++ 34 ∷ behind_quote in
    let behind_name : List ℕ = second ++ 61 ∷ behind_sign in
    let name_stops = blanks_stop is_label_char refl refl second (61 ∷ behind_sign) b1 refl in
    rw (
      take_while-append is_label_char name behind_name (label_chars name named) name_stops,
      rest_while-append is_label_char name behind_name (label_chars name named) name_stops,
      named,
      blanks_dropped second (61 ∷ behind_sign) b1 refl,
      blanks_dropped third (34 ∷ behind_quote) b2 refl,
      quoted-append quoted (last ++ rest) quotable,
      blanks_dropped last rest b3 stops,
    ) refl

label_again : (front rest : List ℕ) (l : Label) (s : SpellsLabel front l) → Stops is_blank rest → label_at (from_name front rest l s) ≡ Some (l, rest)
unfolding label_at
label_again front rest l s stops =
    label_read l.name s.second s.third s.quoted s.last rest s.label_name s.quotable s.blanks.1 s.blanks.2 s.blanks.3 stops
    ∙ ap (λ (v : List ℕ). Some (record { name = l.name; value = v }, rest)) (sym s.value)

-- one label up to the closing brace
one_again : (n : ℕ) (front tail : List ℕ) (l : Label) → SpellsLabel front l → labels_at (suc n) (front ++ 125 ∷ tail) ≡ Some (l ∷ [], tail)
unfolding labels_at
one_again n front tail l s =
    rw (label_base front (125 ∷ tail) l s, no_brace l.name (s.second ++ 61 ∷ (s.third ++ 34 ∷ (s.quoted ++ 34 ∷ (s.last ++ 125 ∷ tail)))) s.label_name, label_again front (125 ∷ tail) l s refl) refl

-- a label, a comma and what follows it
comma_again : (n : ℕ) (front more tail : List ℕ) (l : Label) (ls : List Label) → SpellsLabel front l → labels_at n (more ++ 125 ∷ tail) ≡ Some (ls, tail)
    → labels_at (suc n) (front ++ 44 ∷ (more ++ 125 ∷ tail)) ≡ Some (l ∷ ls, tail)
unfolding labels_at
comma_again n front more tail l ls s again =
    rw (
      label_base front (44 ∷ (more ++ 125 ∷ tail)) l s,
      no_brace l.name (s.second ++ 61 ∷ (s.third ++ 34 ∷ (s.quoted ++ 34 ∷ (s.last ++ 44 ∷ (more ++ 125 ∷ tail))))) s.label_name,
      label_again front (44 ∷ (more ++ 125 ∷ tail)) l s refl,
      again,
    ) refl

regroup_one : (text front rest tail : List ℕ) → text ≡ front ++ rest → rest ≡ [] → text ++ 125 ∷ tail ≡ front ++ 125 ∷ tail
regroup_one text front rest tail a b = rw (a, b) (simp append-nil refl)

regroup_comma : (text front rest more tail : List ℕ) → text ≡ front ++ rest → rest ≡ 44 ∷ more → text ++ 125 ∷ tail ≡ front ++ 44 ∷ (more ++ 125 ∷ tail)
regroup_comma text front rest more tail a b = rw (a, b) (simp append_assoc refl)

labels_again : (n : ℕ) (text tail : List ℕ) (ls : List Label) → length ls < n → SpellsLabels text ls → labels_at n (text ++ 125 ∷ tail) ≡ Some (ls, tail)
unfolding labels_at
labels_again zero text tail ls few s = absurd (omega arith)
labels_again (suc n) text tail [] few s = rw (blanks_dropped text (125 ∷ tail) s refl) refl
labels_again (suc n) text tail (l ∷ ls) few s = go s.4 (λ more f. labels_again n more tail ls (omega arith) f)
  where
    go : ((s.1 ≡ []) × (ls ≡ [])) ⊎ ((more : List ℕ) × (s.1 ≡ 44 ∷ more) × SpellsLabels more ls) → ((more : List ℕ) → SpellsLabels more ls → labels_at n (more ++ 125 ∷ tail) ≡ Some (ls, tail))
        → labels_at (suc n) (text ++ 125 ∷ tail) ≡ Some (l ∷ ls, tail)
    go (inl h) ih = ap (labels_at (suc n)) (regroup_one text s.0 s.1 tail s.2 h.0) ∙ one_again n s.0 tail l s.3 ∙ ap (λ (x : List Label). Some (l ∷ x, tail)) (sym h.1)
    go (inr h) ih = ap (labels_at (suc n)) (regroup_comma text s.0 s.1 h.0 tail s.2 h.1) ∙ comma_again n s.0 h.0 tail l ls s.3 (ih h.0 h.2)

-- each label takes a character at least
label_long : (front : List ℕ) (l : Label) → SpellsLabel front l → 1 ≤ length front
label_long front l s =
    let parts : length front ≡ length ((s.first ++ l.name ++ s.second ++ codes "=" ++ s.third ++ codes "\"" ++ s.quoted ++ codes "\"") ++ s.last) = ap length s.whole in
    let a = length-append (s.first ++ l.name ++ s.second ++ codes "=" ++ s.third ++ codes "\"" ++ s.quoted ++ codes "\"") s.last in
    let b = length-append (s.first ++ l.name ++ s.second ++ codes "=" ++ s.third ++ codes "\"" ++ s.quoted) (codes "\"") in
    let c : length (codes "\"") ≡ 1 = refl in
    omega arith

few_labels : (text : List ℕ) (ls : List Label) → SpellsLabels text ls → length ls ≤ length text
few_labels text [] s = omega arith
few_labels text (l ∷ ls) s = go s.4 (λ more f. few_labels more ls f)
  where
    go : ((s.1 ≡ []) × (ls ≡ [])) ⊎ ((more : List ℕ) × (s.1 ≡ 44 ∷ more) × SpellsLabels more ls) → ((more : List ℕ) → SpellsLabels more ls → length ls ≤ length more) → suc (length ls) ≤ length text
    go (inl h) ih =
        let a : length text ≡ length (s.0 ++ s.1) = ap length s.2 in
        let b = length-append s.0 s.1 in
        let c = label_long s.0 l s.3 in
        let d : length ls ≡ 0 = ap length h.1 in
        omega arith
    go (inr h) ih =
        let a : length text ≡ length (s.0 ++ s.1) = ap length s.2 in
        let b = length-append s.0 s.1 in
        let c = ih h.0 h.2 in
        let d : length s.1 ≡ suc (length h.0) = ap length h.1 in
        let e = label_long s.0 l s.3 in
        omega arith

-- ---- the parts of a sample

gap_begins : (gap tail : List ℕ) → IsGap gap → begins_blank (gap ++ tail) ≡ true
gap_begins [] tail g = absurd (g.1 refl)
gap_begins (c ∷ cs) tail g = (and_parts (is_blank c) (list_all is_blank cs) g.0).0

pub middle_again : (text tail : List ℕ) (ls : List Label) → Stops is_blank tail → behind (codes "{") tail ≡ None → SpellsMiddle text ls → middle_at (text ++ tail) ≡ Some (ls, tail)
unfolding middle_from middle_at
middle_again text tail ls stops plain (inl s) = rw (blanks_dropped text tail s.0.0 stops, plain, gap_begins text tail s.0, s.1) refl
middle_again text tail ls stops plain (inr s) =
    let behind_brace : List ℕ = s.inner ++ 125 ∷ (s.after ++ tail) in
    let regrouped : text ++ tail ≡ s.before ++ 123 ∷ behind_brace = rw s.whole (simp append_assoc refl) in
    let enough : length ls < length behind_brace = let few = few_labels s.inner ls s.labels in let a = length-append s.inner (125 ∷ (s.after ++ tail)) in omega arith in
    ap middle_at regrouped ∙ rw (blanks_dropped s.before (123 ∷ behind_brace) s.blanks.0 refl, labels_again (length behind_brace) s.inner (s.after ++ tail) ls enough s.labels, blanks_dropped s.after tail s.blanks.1 stops) refl

stamp_at_gap : (gap stamp : List ℕ) → IsGap gap → is_integer_token stamp ≡ true → stamp_of (gap ++ stamp) ≡ Some (Some stamp)
unfolding stamp_of
stamp_at_gap [] stamp g h = absurd (g.1 refl)
stamp_at_gap (c ∷ cs) stamp g h =
    let dropped : without_leading_blanks (c ∷ (cs ++ stamp)) ≡ stamp = blanks_dropped (c ∷ cs) stamp g.0 (integer_starts stamp h) in
    rw (dropped, h) refl

stamp_again : (rest : List ℕ) (stamp : Option (List ℕ)) → SpellsStamp rest stamp → stamp_of rest ≡ Some stamp
unfolding stamp_of
stamp_again rest None s = rw s refl
stamp_again rest (Some stamp) s = ap stamp_of s.3 ∙ stamp_at_gap s.0 stamp s.1 s.2

stamp_stops : (rest : List ℕ) (stamp : Option (List ℕ)) → SpellsStamp rest stamp → Stops is_not_blank rest
stamp_stops rest None s = rw s tt
stamp_stops rest (Some stamp) s = rw s.3 (gap_stops is_not_blank refl refl s.0 stamp s.1)

no_open_brace : (value rest : List ℕ) → is_number_token value ≡ true → behind (codes "{") (value ++ rest) ≡ None
no_open_brace [] rest h = absurd (no_empty_token h)
no_open_brace (c ∷ cs) rest h = first_differs 123 c [] (cs ++ rest) (differs is_token_char 123 c refl (and_parts (is_token_char c) (list_all is_token_char cs) (token_passes (c ∷ cs) h)).0)

pub middle_stops : (text tail : List ℕ) (ls : List Label) → SpellsMiddle text ls → Stops is_metric_char (text ++ tail)
middle_stops text tail ls (inl s) = gap_stops is_metric_char refl refl text tail s.0
middle_stops text tail ls (inr s) =
    let regrouped : text ++ tail ≡ s.before ++ 123 ∷ (s.inner ++ 125 ∷ (s.after ++ tail)) = rw s.whole (simp append_assoc refl) in
    rw regrouped (blanks_stop is_metric_char refl refl s.before (123 ∷ (s.inner ++ 125 ∷ (s.after ++ tail))) s.blanks.0 refl)

-- a line that begins with a metric name is read as a sample
sample_first : (name rest : List ℕ) → is_metric_name name ≡ true → trimmed_of (name ++ rest) ≡ sample_of (name ++ rest)
unfolding sample_of trimmed_of
sample_first [] rest h = absurd (let e : false ≡ true = h in cc)
sample_first (c ∷ cs) rest h =
    let plain : (c == 35) ≡ false = eqb_flip 35 c (differs is_metric_start 35 c refl (and_parts (is_metric_start c) (list_all is_metric_char cs) h).0) in
    rw plain refl

sample_again : (line : List ℕ) (s : WrittenSample) → SpellsSample line s → trimmed_of line ≡ Some (sample s)
unfolding trimmed_of sample_of
sample_again line s p =
    let behind_middle : List ℕ = s.value ++ p.rest in
    let behind_name : List ℕ = p.middle ++ behind_middle in
    let regrouped : line ≡ s.name ++ behind_name = rw p.whole (simp append_assoc refl) in
    let stops = middle_stops p.middle behind_middle s.labels p.labels in
    let value_stops = stamp_stops p.rest s.stamp p.stamp in
    ap trimmed_of regrouped ∙ sample_first s.name behind_name p.metric_name
    ∙ rw (
      take_while-append is_metric_char s.name behind_name (metric_chars s.name p.metric_name) stops,
      rest_while-append is_metric_char s.name behind_name (metric_chars s.name p.metric_name) stops,
      p.metric_name,
      middle_again p.middle behind_middle s.labels (number_starts s.value p.rest p.value) (no_open_brace s.value p.rest p.value) p.labels,
      take_while-append is_not_blank s.value p.rest (number_chars s.value p.value) value_stops,
      rest_while-append is_not_blank s.value p.rest (number_chars s.value p.value) value_stops,
      p.value,
      stamp_again p.rest s.stamp p.stamp,
    )
    (ap (λ (e : Option WrittenExemplar). Some (sample (record { name = s.name; labels = s.labels; value = s.value; stamp = s.stamp; exemplar = e }))) (sym p.no_exemplar))

-- ---- descriptors

not_equal : (word keyword : List ℕ) → word ≢ keyword → bytes_eq word keyword ≡ false
not_equal word keyword differ = go (bytes_eq word keyword) refl
  where
    go : (b : Bool) → bytes_eq word keyword ≡ b → bytes_eq word keyword ≡ false
    go false e = e
    go true e = absurd (differ ((bytes_decides word keyword).0 e))

comment_again : (cs : List ℕ) → word_behind_mark (35 ∷ cs) ≢ codes "HELP" → word_behind_mark (35 ∷ cs) ≢ codes "TYPE" → trimmed_of (35 ∷ cs) ≡ Some comment
unfolding trimmed_of marked_of
comment_again cs a b = rw (not_equal (word_behind_mark (35 ∷ cs)) (codes "HELP") a, not_equal (word_behind_mark (35 ∷ cs)) (codes "TYPE") b) refl

named_again : (gap name rest : List ℕ) → IsGap gap → is_metric_name name ≡ true → Stops is_metric_char rest → at_blank rest ≡ true → named_at (gap ++ (name ++ rest)) ≡ Some (name, without_leading_blanks rest)
unfolding named_at
named_again gap name rest g h stops blank_first =
    rw (blanks_dropped gap (name ++ rest) g.0 (metric_starts name rest h), take_while-append is_metric_char name rest (metric_chars name h) stops, rest_while-append is_metric_char name rest (metric_chars name h) stops, h, blank_first) refl

gap_at_blank : (gap tail : List ℕ) → IsGap gap → at_blank (gap ++ tail) ≡ true
gap_at_blank [] tail g = absurd (g.1 refl)
gap_at_blank (c ∷ cs) tail g = (and_parts (is_blank c) (list_all is_blank cs) g.0).0

-- the first word of a line that begins with `#`, and what stands behind it
keyword_read : (first keyword tail : List ℕ) → AreBlanks first → Stops is_blank (keyword ++ tail) → list_all is_not_blank keyword ≡ true → Stops is_not_blank tail
    → (take_while is_not_blank (without_leading_blanks (first ++ (keyword ++ tail))) ≡ keyword) × (rest_while is_not_blank (without_leading_blanks (first ++ (keyword ++ tail))) ≡ tail)
keyword_read first keyword tail b s h t =
    let dropped = blanks_dropped first (keyword ++ tail) b s in
    (ap (take_while is_not_blank) dropped ∙ take_while-append is_not_blank keyword tail h t, ap (rest_while is_not_blank) dropped ∙ rest_while-append is_not_blank keyword tail h t)

help_read : (first second name rest : List ℕ) → AreBlanks first → IsGap second → is_metric_name name ≡ true → Stops is_metric_char rest → at_blank rest ≡ true
    → trimmed_of (35 ∷ (first ++ (codes "HELP" ++ (second ++ (name ++ rest))))) ≡ Some (help name (unescaped help_escape (without_leading_blanks rest)))
unfolding trimmed_of marked_of named_at
help_read first second name rest b g h stops blank_first =
    let read = keyword_read first (codes "HELP") (second ++ (name ++ rest)) b refl refl (gap_stops is_not_blank refl refl second (name ++ rest) g) in
    rw (read.0, read.1, named_again second name rest g h stops blank_first) refl

type_read : (first second name rest word : List ℕ) (kind : Kind) → AreBlanks first → IsGap second → is_metric_name name ≡ true → Stops is_metric_char rest → at_blank rest ≡ true
    → without_leading_blanks rest ≡ word → kind_named word ≡ Some kind → trimmed_of (35 ∷ (first ++ (codes "TYPE" ++ (second ++ (name ++ rest))))) ≡ Some (type_line name kind)
unfolding kind_named trimmed_of marked_of named_at
type_read first second name rest word kind b g h stops blank_first dropped named =
    let read = keyword_read first (codes "TYPE") (second ++ (name ++ rest)) b refl refl (gap_stops is_not_blank refl refl second (name ++ rest) g) in
    rw (read.0, read.1, named_again second name rest g h stops blank_first, dropped, named) refl

help_rest_stops : (rest text : List ℕ) → SpellsHelpText rest text → Stops is_metric_char rest × (at_blank rest ≡ true) × (unescaped help_escape (without_leading_blanks rest) ≡ text)
help_rest_stops rest text (inl s) = rw s.0 (tt, refl, sym s.1)
help_rest_stops rest text (inr s) =
    let stops : Stops is_blank s.1 = subst (Stops is_blank) s.3 (rest_stops is_blank s.1) in
    let e : rest ≡ s.0 ++ s.1 = s.4 in
    rw e (gap_stops is_metric_char refl refl s.0 s.1 s.2, gap_at_blank s.0 s.1 s.2, ap (unescaped help_escape) (blanks_dropped s.0 s.1 s.2.0 stops) ∙ sym s.5)

kind_again : (kind : Kind) (word : List ℕ) → text_kind_word kind ≡ Some word → (kind_named word ≡ Some kind) × Stops is_blank word
unfolding kind_named
kind_again Counter word e = subst (λ w. (kind_named w ≡ Some Counter) × Stops is_blank w) (same_Some (codes "counter") word e) (refl, refl)
kind_again Gauge word e = subst (λ w. (kind_named w ≡ Some Gauge) × Stops is_blank w) (same_Some (codes "gauge") word e) (refl, refl)
kind_again Histogram word e = subst (λ w. (kind_named w ≡ Some Histogram) × Stops is_blank w) (same_Some (codes "histogram") word e) (refl, refl)
kind_again Summary word e = subst (λ w. (kind_named w ≡ Some Summary) × Stops is_blank w) (same_Some (codes "summary") word e) (refl, refl)
kind_again Unknown word e = subst (λ w. (kind_named w ≡ Some Unknown) × Stops is_blank w) (same_Some (codes "untyped") word e) (refl, refl)
kind_again _ word e = absurd (none-some word e)

-- ---- lines

trimmed_complete : (line : List ℕ) (w : Written) → SpellsTrimmed line w → trimmed_of line ≡ Some w
unfolding trimmed_of
trimmed_complete line blank p = rw p refl
trimmed_complete line comment p =
    let cs = p.mark.0 in
    let e : line ≡ 35 ∷ cs = p.mark.1 in
    ap trimmed_of e ∙ comment_again cs (subst (λ x. word_behind_mark x ≢ codes "HELP") e p.no_help) (subst (λ x. word_behind_mark x ≢ codes "TYPE") e p.no_type)
trimmed_complete line (help name text) p =
    let regrouped : line ≡ 35 ∷ (p.first ++ (codes "HELP" ++ (p.second ++ (name ++ p.rest)))) = rw p.whole (simp append_assoc refl) in
    let r = help_rest_stops p.rest text p.help_text in
    ap trimmed_of regrouped ∙ help_read p.first p.second name p.rest p.blanks p.gap p.metric_name r.0 r.1 ∙ ap (λ (t : List ℕ). Some (help name t)) r.2
trimmed_complete line (type_line name kind) p =
    let regrouped : line ≡ 35 ∷ (p.first ++ (codes "TYPE" ++ (p.second ++ (name ++ (p.third ++ p.word))))) = rw p.whole (simp append_assoc refl) in
    let k = kind_again kind p.word p.kind_word in
    ap trimmed_of regrouped ∙ type_read p.first p.second name (p.third ++ p.word) p.word kind p.blanks p.gap p.metric_name
    (gap_stops is_metric_char refl refl p.third p.word p.other_gap) (gap_at_blank p.third p.word p.other_gap) (blanks_dropped p.third p.word p.other_gap.0 k.1) k.0
trimmed_complete line (sample s) p = sample_again line s p
trimmed_complete line (unit_line name unit) p = absurd p
trimmed_complete line eof p = absurd p

-- what the line spells is what the reader of one line gives
pub text_line_complete : (line : List ℕ) (w : Written) → SpellsText line w → text_line_of line ≡ Some w
unfolding trimmed text_line_of
text_line_complete line w p = trimmed_complete (trimmed line) w p
