-- Tokens and what they are read as, by computation.
use Rattle.std.proofs.Common.{◌≡◌, ℕ, Bool, true, false, List, [], ◌∷◌, map, Result, Ok, Err, codes, refl}
use Rattle.exact_decimal.specs.declared.number.Number.{Number}
use Rattle.exact_decimal.specs.declared.number.Number.TheVariants.{Finite, Up, Down, NotANumber}
use Rattle.exact_decimal.specs.declared.number.NumberFault.{NumberFault}
use Rattle.exact_decimal.specs.declared.number.NumberFault.TheVariants as faults
use Rattle.exact_decimal.specs.Tokens.{unsigned, has_minus, mantissa, whole_part, fraction_part, has_exponent, exponent_part, is_digits, is_real, is_infinity, is_nan_token, multiplies_by, divides_by, without_leading_zeros, trailing_zeros, without_trailing_zeros, significant_digits, one_form, is_within, decimal_of, is_in_limits}
use Rattle.exact_decimal.specs.Numbers.{number_read}

-- a token, and what it is read as
record Case : Type 0 where
  text : List ℕ
  answer : Result Number NumberFault

abbrev token : List ℕ → Result Number NumberFault → Case
token text answer = record { text = text; answer = answer }

-- digits with a sign, times one power of ten and divided by another
abbrev decimal : Bool → ℕ → ℕ → ℕ → Result Number NumberFault
decimal negative digits up down = Ok (Finite (record { negative = negative; digits = digits; up = up; down = down }))

abbrev no_number : Result Number NumberFault
no_number = Err faults.NotANumber

abbrev out_of_range : Result Number NumberFault
out_of_range = Err faults.OutOfRange

abbrev tokens : List Case
tokens =
    -- infinities, and not a number
    token (codes "+Inf") (Ok Up) ∷
    token (codes "-inf") (Ok Down) ∷
    token (codes "nan") (Ok NotANumber) ∷
    token (codes "NaN") (Ok NotANumber) ∷
    token (codes "iNfInItY") (Ok Up) ∷
    token (codes "-INFINITY") (Ok Down) ∷
    token (codes "inf") (Ok Up) ∷
    -- words that are none of these
    token (codes "+nan") no_number ∷
    token (codes "-NaN") no_number ∷
    token (codes "infinit") no_number ∷
    token (codes "inf1") no_number ∷
    token (codes "inf ") no_number ∷
    token (codes "nan0") no_number ∷
    token (codes "i") no_number ∷
    token (codes "n") no_number ∷
    token [] no_number ∷
    -- what is no real
    token (codes ".") no_number ∷
    token (codes "+") no_number ∷
    token (codes "-") no_number ∷
    token (codes "+.") no_number ∷
    token (codes "-.e1") no_number ∷
    token (codes "e") no_number ∷
    token (codes "e5") no_number ∷
    token (codes ".e1") no_number ∷
    token (codes "1e") no_number ∷
    token (codes "1e+") no_number ∷
    token (codes "1e-") no_number ∷
    token (codes "1.2.3") no_number ∷
    token (codes "1e5.0") no_number ∷
    token (codes "1e5e3") no_number ∷
    token (codes "--1") no_number ∷
    token (codes "+-1") no_number ∷
    token (codes "1e++1") no_number ∷
    token (codes "1 ") no_number ∷
    token (codes " 1") no_number ∷
    token (codes "1_0") no_number ∷
    token (codes "_1") no_number ∷
    token (codes "1,5") no_number ∷
    token (codes "0x1p3") no_number ∷
    -- zero, whatever its sign and exponent
    token (codes "0") (decimal false 0 0 0) ∷
    token (codes "-0.0") (decimal false 0 0 0) ∷
    token (codes "0e999999") (decimal false 0 0 0) ∷
    token (codes "0.0e-99999999999999999999") (decimal false 0 0 0) ∷
    token (codes "00000000000000000000000000000000000000000000000000000000000000000000000000000000000000000000000000000000000000000000000000000000") (decimal false 0 0 0) ∷
    token (codes "000000000000000000000000000000000000000000000000000000000000000000000000000000000000000000000000000000000000000000000000000000000") out_of_range ∷
    -- reals
    token (codes ".5") (decimal false 5 0 1) ∷
    token (codes "5.") (decimal false 5 0 0) ∷
    token (codes "-.5") (decimal true 5 0 1) ∷
    token (codes "+.5e-2") (decimal false 5 0 3) ∷
    token (codes "5.e1") (decimal false 5 1 0) ∷
    token (codes "+5") (decimal false 5 0 0) ∷
    token (codes "007") (decimal false 7 0 0) ∷
    token (codes "36.6") (decimal false 366 0 1) ∷
    token (codes "100") (decimal false 1 2 0) ∷
    token (codes "0.1e1") (decimal false 1 0 0) ∷
    token (codes "-1.50e3") (decimal true 15 2 0) ∷
    token (codes "1E5") (decimal false 1 5 0) ∷
    token (codes "1e-0") (decimal false 1 0 0) ∷
    token (codes "1e+06") (decimal false 1 6 0) ∷
    token (codes "1e20") (decimal false 1 20 0) ∷
    token (codes "0.00001") (decimal false 1 0 5) ∷
    token (codes "0.000001") (decimal false 1 0 6) ∷
    token (codes "5e-324") (decimal false 5 0 324) ∷
    token (codes "1.7976931348623157e+308") (decimal false 17976931348623157 292 0) ∷
    token (codes "0.30000000000000004") (decimal false 30000000000000004 0 17) ∷
    token (codes "18446744073709551615") (decimal false 18446744073709551615 0 0) ∷
    token (codes "10000000000000000000000000000000000000000") (decimal false 1 40 0) ∷
    -- tokens of up to 128 bytes and past them
    token (codes "00000000000000000000000000000000000000000000000000000000000000000000000000000000000000000000000000000000000000000000000000000001") (decimal false 1 0 0) ∷
    token (codes "000000000000000000000000000000000000000000000000000000000000000000000000000000000000000000000000000000000000000000000000000000001") out_of_range ∷
    token (codes "10000000000000000000000000000000000000000000000000000000000000000000000000000000000000000000000000000000000000000000000000000000") (decimal false 1 127 0) ∷
    token (codes "1.000000000000000000000000000000000000000000000000000000000000000000000000000000000000000000000000000000000000000000000000e-5") (decimal false 1 0 5) ∷
    token (codes ".00000000000000000000000000000000000000000000000000000000000000000000000000000000000000000012300") (decimal false 123 0 93) ∷
    -- 38 significant digits, and 39
    token (codes "99999999999999999999999999999999999999") (decimal false 99999999999999999999999999999999999999 0 0) ∷
    token (codes "999999999999999999999999999999999999999") out_of_range ∷
    token (codes "11111111111111111111111111111111111111000") (decimal false 11111111111111111111111111111111111111 3 0) ∷
    token (codes "111111111111111111111111111111111111110001") out_of_range ∷
    token (codes "0.000011111111111111111111111111111111111111") (decimal false 11111111111111111111111111111111111111 0 42) ∷
    -- the leading digit at powers from -400 to 308, and past them
    token (codes "1e308") (decimal false 1 308 0) ∷
    token (codes "1e309") out_of_range ∷
    token (codes "10e307") (decimal false 1 308 0) ∷
    token (codes "10e308") out_of_range ∷
    token (codes "1e400") out_of_range ∷
    token (codes "1e-400") (decimal false 1 0 400) ∷
    token (codes "1e-401") out_of_range ∷
    token (codes "0.1e-399") (decimal false 1 0 400) ∷
    token (codes "0.1e-400") out_of_range ∷
    token (codes "9.99e-398") (decimal false 999 0 400) ∷
    token (codes "12345678901234567890123456789012345678e-437") (decimal false 12345678901234567890123456789012345678 0 437) ∷
    token (codes "1e-437") out_of_range ∷
    token (codes "1e0000000000000000000000000000000000000003") (decimal false 1 3 0) ∷
    token (codes "-1e99999999999999999999") out_of_range ∷
    []

-- each token is read so
answers : map (λ (c : Case). number_read c.text) tokens ≡ map (λ (c : Case). c.answer) tokens
unfolding number_read unsigned has_minus mantissa whole_part fraction_part has_exponent exponent_part is_digits is_real is_infinity is_nan_token multiplies_by divides_by without_leading_zeros trailing_zeros without_trailing_zeros significant_digits one_form is_within decimal_of is_in_limits
answers = refl
