-- Words and numbers in values of fields.
use Rattle.std.proofs.Common.{◌≡◌, ℕ, ◌+◌, ◌*◌, ◌^◌, ◌≤◌, ◌<◌, Bool, true, List, length, take, get_or, sym, ◌∙◌, arith}
use Rattle.std.specs.Prelude.{◌↔◌, IsTrue, map}
use Rattle.std.specs.List.{list_all}
use Rattle.std.specs.Char.{to_ascii_lowercase, is_ascii_digit, digit_value}
use Rattle.std.specs.Str.{bytes_eq}
use Rattle.std.specs.Str.Parse.{digits_value}
use Rattle.std.proofs.Math.Nat.{pow-le-pow_right}
use Rattle.std.proofs.lemmas.Grind.{pow_more}
use Rattle.std.proofs.lemmas.Bool.{and_from}
use Rattle.std.proofs.lemmas.Slice.Eq.{bytes_eq-Decides}
use Rattle.std.proofs.lemmas.List.Folds.{list_all_more}
use Rattle.std.proofs.lemmas.Int.Digits.{digits_value_more}
use Rattle.label_sets.proofs.Laws.{same_tests}

-- `eq_ignore_ascii_case` with a word in small letters
pub same_word : (word bytes : List ℕ) (b : Bool) → map to_ascii_lowercase word ≡ word → (IsTrue b ↔ (map to_ascii_lowercase bytes ≡ map to_ascii_lowercase word)) → b ≡ bytes_eq (map to_ascii_lowercase bytes) word
same_word word bytes b small both = same_tests b (bytes_eq (map to_ascii_lowercase bytes) word)
    (λ yes. (bytes_eq-Decides (map to_ascii_lowercase bytes) word).1 (both.0 (true_is yes) ∙ small))
    (λ yes. is_true (both.1 ((bytes_eq-Decides (map to_ascii_lowercase bytes) word).0 yes ∙ sym small)))
  where
    true_is : {a : Bool} → a ≡ true → IsTrue a
    true_is e = grind (arith, e)

    is_true : {a : Bool} → IsTrue a → a ≡ true
    is_true e = grind (arith, e)

-- ---- numbers

pub number_fits : (number at : ℕ) → number < 10 ^ at → at < 18 → number * 10 + 9 < 2 ^ 64
number_fits number at small few =
    let more : 10 ^ (at + 1) ≡ 10 ^ at * 10 = pow_more 10 at in
    let most : 10 ^ (at + 1) ≤ 10 ^ 18 = pow-le-pow_right {n = 10} (omega arith) {i = at + 1} {j = 18} (omega (arith, few)) in
    omega (arith, more, most, small)

pub number_small : (number at digit : ℕ) → number < 10 ^ at → digit < 10 → number * 10 + digit < 10 ^ (at + 1)
number_small number at digit small few = omega (arith, pow_more 10 at, small, few)

pub number_more : (digits : List ℕ) (at number digit : ℕ) → at < length digits → number ≡ digits_value 10 (take at digits) → digit ≡ digit_value (get_or digits at 0)
    → number * 10 + digit ≡ digits_value 10 (take (at + 1) digits)
number_more digits at number digit within value is = rw (value, is) (sym (digits_value_more 10 digits at within))

pub digits_more : (digits : List ℕ) (at : ℕ) → at < length digits → list_all is_ascii_digit (take at digits) ≡ true → is_ascii_digit (get_or digits at 0) ≡ true → list_all is_ascii_digit (take (at + 1) digits) ≡ true
digits_more digits at within before here = list_all_more is_ascii_digit digits at 0 within ∙ and_from (list_all is_ascii_digit (take at digits)) (is_ascii_digit (get_or digits at 0)) before here
