-- Digits of a timestamp.
use Rattle.std.proofs.Common.{◌≡◌, ℕ, zero, suc, ◌+◌, ◌-◌, ◌*◌, ◌^◌, ◌<◌, min, Bool, true, not, List, [], ◌∷◌, length, take, get_or, refl, arith}
use Rattle.std.specs.List.{list_all}
use Rattle.std.specs.Char.{is_ascii_digit}
use Rattle.std.specs.Str.Parse.{digits_value}
use Rattle.std.proofs.lemmas.Bool.{and_parts}
use Rattle.std.specs.Str.{bytes_eq}
use Rattle.exact_decimal.specs.Tokens.{is_digits, unsigned}
use Rattle.page_model.specs.TextItems.{is_integer_token}
use Rattle.exact_decimal.proofs.Laws.{value_more}

-- some digits are digits
pub digits_are : (bs : List ℕ) → 0 < length bs → is_digits bs ≡ list_all is_ascii_digit bs
unfolding is_digits
digits_are [] h = absurd (omega arith)
digits_are (b ∷ bs) h = refl

-- what all pass, each passes
pub passes_at : (p : ℕ → Bool) (xs : List ℕ) (n : ℕ) → list_all p xs ≡ true → n < length xs → p (get_or xs n 0) ≡ true
passes_at p [] n h within = absurd (omega arith)
passes_at p (x ∷ xs) zero h within = (and_parts (p x) (list_all p xs) h).0
passes_at p (x ∷ xs) (suc n) h within = passes_at p xs n (and_parts (p x) (list_all p xs) h).1 (omega arith)

-- one digit more, up to a limit
pub capped_on : (ds : List ℕ) (n value : ℕ) → n < length ds → list_all is_ascii_digit ds ≡ true → value ≡ min (digits_value 10 (take n ds)) (2 ^ 64)
    → min (value * 10 + (get_or ds n 0 - 48)) (2 ^ 64) ≡ min (digits_value 10 (take (n + 1) ds)) (2 ^ 64)
capped_on ds n value within h e = let more = value_more ds n within 0 (passes_at is_ascii_digit ds n h within) in omega arith

-- behind the sign of a whole number stand digits
pub integer_digits : (token : List ℕ) → is_integer_token token ≡ true → list_all is_ascii_digit (unsigned token) ≡ true
unfolding is_integer_token is_digits
integer_digits token h = (and_parts (not (bytes_eq (unsigned token) [])) (list_all is_ascii_digit (unsigned token)) h).1
