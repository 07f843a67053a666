-- Ids of hexadecimal digits, as the library reads them.
use Rattle.std.proofs.Common.{◌≡◌, ◌≢◌, ℕ, ◌<◌, ◌≤◌, ◌^◌, Bool, true, false, not, List, [], ◌∷◌, filter, length, get_or, Result, Ok, Err, eqb-true, refl, sym, ap, subst, ◌∙◌, arith}
use Rattle.std.specs.Prelude.{◌==◌, ◌&&◌}
use Rattle.std.specs.Char.{is_ascii_hexdigit, digit_value}
use Rattle.std.specs.List.{list_all, list_any}
use Rattle.std.specs.Str.Parse.{AllDigits, IsNumeral, ParsesUnsigned, digits_value, without_leading_plus}
use Rattle.std.proofs.lemmas.Bool.{and_parts, or_parts}
use Rattle.std.proofs.lemmas.Bool.Decides.{nat_tests}
use Rattle.std.proofs.lemmas.Int.Digits.{digits_value-lt}
use Rattle.std.proofs.lemmas.List.Elements.{All-filter}
use Rattle.std.proofs.lemmas.List.Kept.{IsStrictlySortedBy-filter}
use Rattle.std.proofs.lemmas.Str.Parse.{without_leading_plus_none}
use Rattle.label_sets.specs.declared.label.Label.{Label}
use Rattle.label_sets.specs.Sets.{by_name, IsLabelSet}

-- so many hexadecimal digits
abbrev is_hexadecimal : ℕ → List ℕ → Bool
is_hexadecimal places text = length text == places && list_all is_ascii_hexdigit text

digit_small : (c : ℕ) → is_ascii_hexdigit c ≡ true → digit_value c < 16
digit_small c h = grind (arith, nat_tests)

all_digits : (ds : List ℕ) → list_all is_ascii_hexdigit ds ≡ true → AllDigits 16 ds
all_digits [] h = tt
all_digits (d ∷ ds) h = let tests = and_parts (is_ascii_hexdigit d) (list_all is_ascii_hexdigit ds) h in (digit_small d tests.0, all_digits ds tests.1)

no_plus : (c : ℕ) → is_ascii_hexdigit c ≡ true → c ≢ 43
no_plus c h = grind (arith, nat_tests)

not_plus : (ds : List ℕ) → list_all is_ascii_hexdigit ds ≡ true → get_or ds 0 0 ≢ 43
not_plus [] h = omega arith
not_plus (d ∷ ds) h = no_plus d (and_parts (is_ascii_hexdigit d) (list_all is_ascii_hexdigit ds) h).0

-- what the library reads of them
digits_read : {E : Type 0} (k : ℕ) (ds : List ℕ) (r : Result ℕ E) → ParsesUnsigned k 16 ds r → without_leading_plus ds ≡ ds → IsNumeral 16 ds → digits_value 16 ds < 2 ^ k → r ≡ Ok (digits_value 16 ds)
digits_read k ds (Ok n) h plain numeral fits = ap Ok (h.1 ∙ ap (digits_value 16) plain)
digits_read k ds (Err e) h plain numeral fits = absurd (h (subst (IsNumeral 16) (sym plain) numeral, subst (λ ts. digits_value 16 ts < 2 ^ k) (sym plain) fits))

hexadecimal_read : {E : Type 0} (k places : ℕ) (ds : List ℕ) (r : Result ℕ E) → 0 < places → 16 ^ places ≤ 2 ^ k → ParsesUnsigned k 16 ds r → is_hexadecimal places ds ≡ true → r ≡ Ok (digits_value 16 ds)
hexadecimal_read k places ds r some room h hex =
    let tests = and_parts (length ds == places) (list_all is_ascii_hexdigit ds) hex in
    let many : length ds ≡ places = eqb-true (length ds) places tests.0 in
    let digits = all_digits ds tests.1 in
    let small : digits_value 16 ds < 16 ^ places = subst (λ n. digits_value 16 ds < 16 ^ n) many (digits_value-lt 16 ds digits) in
    digits_read k ds r h (without_leading_plus_none ds (not_plus ds tests.1)) (omega (arith, many, some), digits) (omega (arith, small, room))

-- it does not fail
pub read_failed : {E : Type 0} (k places : ℕ) (ds : List ℕ) (r : Result ℕ E) (e : E) → 0 < places → 16 ^ places ≤ 2 ^ k → ParsesUnsigned k 16 ds r → is_hexadecimal places ds ≡ true → r ≡ Err e → ⊥
read_failed k places ds r e some room h hex failed = let f = sym failed ∙ hexadecimal_read k places ds r some room h hex in cc

-- ---- labels

-- a set stays one where labels are left out
pub left_is_set : (p : Label → Bool) (ls : List Label) → IsLabelSet ls → IsLabelSet (filter p ls)
left_is_set p ls h = record { ascending = IsStrictlySortedBy-filter by_name p ls h.ascending; valued = All-filter p (λ (l : Label). l.value ≢ []) ls h.valued }

-- where none passes a test, all are left
pub all_left : {A : Type 0} (p : A → Bool) (xs : List A) → list_any p xs ≡ false → filter (λ x. not (p x)) xs ≡ xs
all_left p [] h = refl
all_left p (x ∷ xs) h =
    let none = or_parts (p x) (list_any p xs) h in
    rw none.0 (ap (λ ys. x ∷ ys) (all_left p xs none.1))
