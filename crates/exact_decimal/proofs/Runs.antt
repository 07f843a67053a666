-- Digits at the front of a list, one after the other.
use Rattle.std.proofs.Common.{◌≡◌, ℕ, ◌+◌, ◌-◌, ◌*◌, ◌<◌, ◌≤◌, min, true, false, not, List, [], ◌∷◌, ◌++◌, length, take, get_or, refl, sym, ap, ◌∙◌, arith}
use Rattle.std.specs.List.{list_all}
use Rattle.std.specs.Char.{is_ascii_digit, digit_value}
use Rattle.std.specs.Str.{bytes_eq}
use Rattle.std.specs.Str.Parse.{digits_value, digits_value_after}
use Rattle.std.proofs.lemmas.Bool.{and_from, and_right}
use Rattle.std.proofs.lemmas.List.{take_more, take_all}
use Rattle.std.proofs.lemmas.List.Folds.{list_all_more, list_all_at}
use Rattle.exact_decimal.specs.Tokens.{is_digits}
use Rattle.exact_decimal.specs.Scans.{AreDigits, IsCapped}
use Rattle.exact_decimal.proofs.Kept.{digit_is}

value_push : (xs : List ℕ) (before c : ℕ) → digits_value_after 10 before (xs ++ c ∷ []) ≡ digits_value_after 10 before xs * 10 + digit_value c
value_push [] before c = refl
value_push (x ∷ xs) before c = value_push xs (before * 10 + digit_value x) c

pub value_append : (xs ys : List ℕ) (before : ℕ) → digits_value_after 10 before (xs ++ ys) ≡ digits_value_after 10 (digits_value_after 10 before xs) ys
value_append [] ys before = refl
value_append (x ∷ xs) ys before = value_append xs ys (before * 10 + digit_value x)

-- ---- one digit more

module _ (bs : List ℕ) (n : ℕ) (within : n < length bs) where
  pub digits_more : AreDigits (take n bs) → is_ascii_digit (get_or bs n 0) ≡ true → AreDigits (take (n + 1) bs)
  digits_more h d = list_all_more is_ascii_digit bs n 0 within ∙ and_from (list_all is_ascii_digit (take n bs)) (is_ascii_digit (get_or bs n 0)) h d

  pub value_more : (before : ℕ) → is_ascii_digit (get_or bs n 0) ≡ true → digits_value_after 10 before (take (n + 1) bs) ≡ digits_value_after 10 before (take n bs) * 10 + (get_or bs n 0 - 48)
  value_more before d =
      ap (digits_value_after 10 before) (take_more bs n 0 within) ∙ value_push (take n bs) before (get_or bs n 0)
      ∙ ap (λ x. digits_value_after 10 before (take n bs) * 10 + x) (digit_is (get_or bs n 0) d).2

  pub capped_more : (value : ℕ) → is_ascii_digit (get_or bs n 0) ≡ true → value ≡ min (digits_value 10 (take n bs)) 10000 → min (value * 10 + (get_or bs n 0 - 48)) 10000 ≡ min (digits_value 10 (take (n + 1) bs)) 10000
  capped_more value d h = let e = value_more 0 d in omega arith

-- ---- the end of the digits

pub not_digits : (bs : List ℕ) (n : ℕ) → n < length bs → is_ascii_digit (get_or bs n 0) ≡ false → is_digits bs ≡ false
unfolding is_digits
not_digits bs n h d = and_right (not (bytes_eq bs [])) (list_all is_ascii_digit bs) (list_all_at is_ascii_digit bs n 0 h d)

pub no_digits : (bs : List ℕ) → length bs ≡ 0 → is_digits bs ≡ false
unfolding is_digits
no_digits [] h = refl
no_digits (b ∷ bs) h = absurd (omega arith)

pub some_digits : (bs : List ℕ) → 0 < length bs → AreDigits bs → is_digits bs ≡ true
unfolding is_digits
some_digits [] h d = absurd (omega arith)
some_digits (b ∷ bs) h d = d

pub capped_all : (bs : List ℕ) (n value : ℕ) → 0 < length bs → length bs ≤ n → AreDigits (take n bs) → value ≡ min (digits_value 10 (take n bs)) 10000 → IsCapped bs value
capped_all bs n value some all h e =
    let whole : take n bs ≡ bs = take_all n bs all in
    record { digits = some_digits bs some (ap (list_all is_ascii_digit) (sym whole) ∙ h); capped = e ∙ ap (λ (xs : List ℕ). min (digits_value 10 xs) 10000) whole }
