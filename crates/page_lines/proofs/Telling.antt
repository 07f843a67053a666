-- What is told as bytes come: one law for a line feed, and one for bytes that are none.
use Rattle.std.proofs.Common.{◌≡◌, ℕ, ◌+◌, ◌<◌, ◌≤◌, true, false, List, [], ◌∷◌, ◌++◌, refl, sym, ap, ◌∙◌, arith, length, length-append}
use Rattle.std.specs.Prelude.{map, nat_le, nat_lt}
use Rattle.std.proofs.lemmas.List.{append-nil, map-append}
use Rattle.std.proofs.lemmas.Bool.Decides.{nat_tests}
use Rattle.page_lines.specs.Lines.{Plain, ended_lines, open_line}
use Rattle.page_lines.specs.Told.{whole, too_long, told_line, told_open, told_of}
use Rattle.page_lines.proofs.Ends.{ended-feed, open-feed, ended-plain, open-plain}

pub told_line-short : (most : ℕ) (line : List ℕ) → length line ≤ most → told_line most line ≡ whole line
told_line-short most line h = let e : nat_le (length line) most ≡ true = grind (arith, nat_tests) in rw e refl

pub told_line-long : (most : ℕ) (line : List ℕ) → most < length line → told_line most line ≡ too_long
told_line-long most line h = let e : nat_le (length line) most ≡ false = grind (arith, nat_tests) in rw e refl

told_open-short : (most : ℕ) (line : List ℕ) → length line ≤ most → told_open most line ≡ []
told_open-short most line h = let e : nat_lt most (length line) ≡ false = grind (arith, nat_tests) in rw e refl

told_open-long : (most : ℕ) (line : List ℕ) → most < length line → told_open most line ≡ too_long ∷ []
told_open-long most line h = let e : nat_lt most (length line) ≡ true = grind (arith, nat_tests) in rw e refl

-- nothing is told of the open line while it is short
pub told-short : (most : ℕ) (a : List ℕ) → length (open_line a) ≤ most → told_of most a ≡ map (told_line most) (ended_lines a)
unfolding told_of
told-short most a h = rw (told_open-short most (open_line a) h) (append-nil (map (told_line most) (ended_lines a)))

pub told-long : (most : ℕ) (a : List ℕ) → most < length (open_line a) → told_of most a ≡ map (told_line most) (ended_lines a) ++ too_long ∷ []
unfolding told_of
told-long most a h = rw (told_open-long most (open_line a) h) refl

told-ended : (most : ℕ) (a : List ℕ) → told_of most (a ++ 10 ∷ []) ≡ map (told_line most) (ended_lines a) ++ told_line most (open_line a) ∷ []
told-ended most a =
    let none : length (open_line (a ++ 10 ∷ [])) ≤ most = rw (open-feed a) (omega arith) in
    told-short most (a ++ 10 ∷ []) none ∙ ap (map (told_line most)) (ended-feed a) ∙ map-append (told_line most) (ended_lines a) (open_line a ∷ [])

-- a line feed behind a line that is short
pub told-feed : (most : ℕ) (a : List ℕ) → length (open_line a) ≤ most → told_of most (a ++ 10 ∷ []) ≡ told_of most a ++ whole (open_line a) ∷ []
told-feed most a h =
    told-ended most a ∙ ap (λ t. map (told_line most) (ended_lines a) ++ t ∷ []) (told_line-short most (open_line a) h)
    ∙ ap (λ ts. ts ++ whole (open_line a) ∷ []) (sym (told-short most a h))

-- a line feed behind a line of which it is told already that it is too long
pub told-feed_long : (most : ℕ) (a : List ℕ) → most < length (open_line a) → told_of most (a ++ 10 ∷ []) ≡ told_of most a
told-feed_long most a h =
    told-ended most a ∙ ap (λ t. map (told_line most) (ended_lines a) ++ t ∷ []) (told_line-long most (open_line a) h)
    ∙ sym (told-long most a h)

-- bytes that leave the line short
pub told-plain : (most : ℕ) (a b : List ℕ) → Plain b → length (open_line a) + length b ≤ most → told_of most (a ++ b) ≡ told_of most a
told-plain most a b plain h =
    let short : length (open_line (a ++ b)) ≤ most = rw (open-plain a b plain, length-append) (omega arith) in
    told-short most (a ++ b) short ∙ ap (map (told_line most)) (ended-plain a b plain) ∙ sym (told-short most a (omega arith))

-- bytes that make the line too long
pub told-plain_past : (most : ℕ) (a b : List ℕ) → Plain b → length (open_line a) ≤ most → most < length (open_line a) + length b
    → told_of most (a ++ b) ≡ told_of most a ++ too_long ∷ []
told-plain_past most a b plain h k =
    let long : most < length (open_line (a ++ b)) = rw (open-plain a b plain, length-append) (omega arith) in
    told-long most (a ++ b) long ∙ ap (λ ls. map (told_line most) ls ++ too_long ∷ []) (ended-plain a b plain)
    ∙ ap (λ ts. ts ++ too_long ∷ []) (sym (told-short most a h))

-- bytes of a line that is too long
pub told-plain_long : (most : ℕ) (a b : List ℕ) → Plain b → most < length (open_line a) → told_of most (a ++ b) ≡ told_of most a
told-plain_long most a b plain h =
    let long : most < length (open_line (a ++ b)) = rw (open-plain a b plain, length-append) (omega arith) in
    told-long most (a ++ b) long ∙ ap (λ ls. map (told_line most) ls ++ too_long ∷ []) (ended-plain a b plain) ∙ sym (told-long most a h)
