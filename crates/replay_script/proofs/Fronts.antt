-- The part at the front of a text, by the words of its head line.
use Rattle.std.proofs.Common.{◌≡◌, ◌≢◌, ℕ, suc, false, List, [], ◌∷◌, length, Option, Some, None, refl, sym, ap, ◌∙◌, arith, bytes_eq, codes}
use Rattle.std.specs.List.{slice_split}
use Rattle.std.proofs.lemmas.List.Splits.{length-slice_split}
use Rattle.label_sets.specs.Lists.{◌>>=◌}
use Rattle.plain_words.specs.WholeNumbers.{number_in}
use Rattle.plain_words.specs.HeadLines.{cut_first, is_space}
use Rattle.plain_words.proofs.Laws.{split_uncut, split_cut, words_cut, words_uncut}
use Rattle.replay_script.specs.declared.header.HeaderLine.{HeaderLine}
use Rattle.replay_script.specs.ScriptParts.{Part, header}
use Rattle.replay_script.specs.ScriptReading.{most_number, body_at, header_line_in, header_in, record_in, record_at, target_or_record, part_with, front_part}

-- ---- a record

pub record_no_time : (sort time form count text : List ℕ) → number_in most_number time ≡ None → record_at sort time form count text ≡ None
unfolding record_at
record_no_time sort time form count text e = rw e refl

pub record_no_count : (sort time form count text : List ℕ) (at : ℕ) → Some at ≡ number_in most_number time → number_in most_number count ≡ None → record_at sort time form count text ≡ None
unfolding record_at
record_no_count sort time form count text at a l = rw (sym a, l) refl

pub record_no_body : (sort time form count text : List ℕ) (at len : ℕ) → Some at ≡ number_in most_number time → Some len ≡ number_in most_number count → body_at len text ≡ None → record_at sort time form count text ≡ None
unfolding record_at
record_no_body sort time form count text at len a l b = rw (sym a, sym l, b) refl

pub record_made : (sort time form count text : List ℕ) (at len : ℕ) (bytes rest : List ℕ) (part : Option Part) → Some at ≡ number_in most_number time → Some len ≡ number_in most_number count
    → Some (bytes, rest) ≡ body_at len text → part ≡ record_in sort at form bytes → record_at sort time form count text ≡ (part >>= λ p. Some (p, rest))
unfolding record_at
record_made sort time form count text at len bytes rest part a l b p = rw (sym a, sym l, sym b, sym p) refl

-- ---- a header line

pub header_steps : (first second : List ℕ) (line : HeaderLine) (n : Option ℕ) → bytes_eq first (codes "bridge-script") ≡ false → Some line ≡ header_line_in first → n ≡ number_in most_number second
    → header_in first second ≡ (n >>= λ m. Some (header line m))
unfolding header_in
header_steps first second line n other is number = rw (other, ← is, ← number) refl

-- ---- the words of a line

pub one_word : (line : List ℕ) → None ≡ cut_first 32 line → (length (slice_split is_space line) ≢ 2) × (length (slice_split is_space line) ≢ 4)
one_word line e =
    let one : length (slice_split is_space line) ≡ 1 = ap length (split_uncut line (sym e)) in
    (λ two. omega (arith, one, two), λ four. omega (arith, one, four))

pub two_words : (line a b : List ℕ) → Some (a, b) ≡ cut_first 32 line → None ≡ cut_first 32 b → slice_split is_space line ≡ a ∷ b ∷ []
two_words line a b e f = split_cut line a b (sym e) ∙ ap (λ ws. a ∷ ws) (split_uncut b (sym f))

pub three_words : (line a r b c : List ℕ) → Some (a, r) ≡ cut_first 32 line → Some (b, c) ≡ cut_first 32 r → None ≡ cut_first 32 c
    → (length (slice_split is_space line) ≢ 2) × (length (slice_split is_space line) ≢ 4)
three_words line a r b c e f g =
    let all : slice_split is_space line ≡ a ∷ b ∷ c ∷ [] = split_cut line a r (sym e) ∙ ap (λ ws. a ∷ ws) (two_words r b c f g) in
    let three : length (slice_split is_space line) ≡ 3 = ap length all in
    (λ two. omega (arith, three, two), λ four. omega (arith, three, four))

pub more_words : (line a r b s c d x y : List ℕ) → Some (a, r) ≡ cut_first 32 line → Some (b, s) ≡ cut_first 32 r → Some (c, d) ≡ cut_first 32 s → Some (x, y) ≡ cut_first 32 d
    → (length (slice_split is_space line) ≢ 2) × (length (slice_split is_space line) ≢ 4)
more_words line a r b s c d x y e f g h =
    let all : slice_split is_space line ≡ a ∷ b ∷ c ∷ x ∷ slice_split is_space y =
    split_cut line a r (sym e) ∙ ap (λ ws. a ∷ ws) (split_cut r b s (sym f) ∙ ap (λ ws. b ∷ ws) (split_cut s c d (sym g) ∙ ap (λ ws. c ∷ ws) (split_cut d x y (sym h)))) in
    let many : length (slice_split is_space line) ≡ suc (suc (suc (suc (length (slice_split is_space y))))) = ap length all in
    let some = length-slice_split is_space y in
    (λ two. omega (arith, many, two), λ four. omega (arith, many, four, some))

pub four_words : (line a r b s c d : List ℕ) → Some (a, r) ≡ cut_first 32 line → Some (b, s) ≡ cut_first 32 r → Some (c, d) ≡ cut_first 32 s → None ≡ cut_first 32 d
    → slice_split is_space line ≡ a ∷ b ∷ c ∷ d ∷ []
four_words line a r b s c d e f g h = split_cut line a r (sym e) ∙ ap (λ ws. a ∷ ws) (split_cut r b s (sym f) ∙ ap (λ ws. b ∷ ws) (two_words s c d g h))

-- ---- the front of a text

pub no_line : (text : List ℕ) → None ≡ cut_first 10 text → front_part text ≡ None
unfolding front_part
no_line text e = rw (words_uncut text (sym e)) refl

pub line_front : (text line rest : List ℕ) → Some (line, rest) ≡ cut_first 10 text → front_part text ≡ part_with (slice_split is_space line) rest
unfolding front_part
line_front text line rest e = rw (words_cut text line rest (sym e)) refl

pub two_front : (text line rest a b : List ℕ) (part : Option Part) → Some (line, rest) ≡ cut_first 10 text → slice_split is_space line ≡ a ∷ b ∷ [] → part ≡ header_in a b
    → front_part text ≡ (part >>= λ p. Some (p, rest))
unfolding part_with
two_front text line rest a b part e words is = line_front text line rest e ∙ ap (λ ws. part_with ws rest) words ∙ ap (λ o. o >>= λ p. Some (p, rest)) (sym is)

pub four_front : (text line rest a b c d : List ℕ) → Some (line, rest) ≡ cut_first 10 text → slice_split is_space line ≡ a ∷ b ∷ c ∷ d ∷ [] → front_part text ≡ target_or_record a b c d rest
unfolding part_with
four_front text line rest a b c d e words = line_front text line rest e ∙ ap (λ ws. part_with ws rest) words

no_part : (ws : List (List ℕ)) (rest : List ℕ) → length ws ≢ 2 → length ws ≢ 4 → part_with ws rest ≡ None
unfolding part_with
no_part [] rest two four = refl
no_part (a ∷ []) rest two four = refl
no_part (a ∷ b ∷ []) rest two four = absurd (two refl)
no_part (a ∷ b ∷ c ∷ []) rest two four = refl
no_part (a ∷ b ∷ c ∷ d ∷ []) rest two four = absurd (four refl)
no_part (a ∷ b ∷ c ∷ d ∷ e ∷ ws) rest two four = refl

pub other_front : (text line rest : List ℕ) → Some (line, rest) ≡ cut_first 10 text → (length (slice_split is_space line) ≢ 2) × (length (slice_split is_space line) ≢ 4) → front_part text ≡ None
other_front text line rest e is = line_front text line rest e ∙ no_part (slice_split is_space line) rest is.0 is.1
