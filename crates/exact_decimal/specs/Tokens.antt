-- Which bytes are a number, and which decimal they write down.
-- OpenMetrics 1.0, "ABNF" (number, realnumber, and the infinities and NaN in any case of letters);
-- Prometheus text format 0.0.4, "Text format details" (a value as Go's ParseFloat reads it). The limits are the bridge's own.
use Rattle.std.specs.Prelude.{ℕ, ◌+◌, ◌-◌, Bool, false, not, ◌&&◌, ◌||◌, List, [], ◌∷◌, ◌++◌, length, take, drop, codes, nat_le, ◌==◌, if◌then◌else◌}
use Rattle.std.specs.List.{list_all, list_any, before_first, after_first, prefix_len, suffix_len}
use Rattle.std.specs.Char.{is_ascii_digit, is_ascii_alphabetic}
use Rattle.std.specs.Str.{bytes_eq, str_to_ascii_lowercase}
use Rattle.std.specs.Str.Parse.{digits_value}
use Rattle.exact_decimal.specs.Decimals.{DecimalValue}

-- ---- the parts of a real, in the order of its text

-- `+` or `-`
abbrev pub is_sign : ℕ → Bool
is_sign c = c == 43 || c == 45

-- without the sign, where there is one
unfoldable pub unsigned : List ℕ → List ℕ
unsigned [] = []
unsigned (c ∷ cs) = if is_sign c then cs else c ∷ cs

-- the token begins with `-`
unfoldable pub has_minus : List ℕ → Bool
has_minus [] = false
has_minus (c ∷ cs) = c == 45

-- `.`
abbrev pub is_point : ℕ → Bool
is_point c = c == 46

-- `e` in either case
abbrev pub is_exponent_mark : ℕ → Bool
is_exponent_mark c = c == 101 || c == 69

-- what stands before the exponent
unfoldable pub mantissa : List ℕ → List ℕ
mantissa token = before_first is_exponent_mark (unsigned token)

-- what stands before the point
unfoldable pub whole_part : List ℕ → List ℕ
whole_part token = before_first is_point (mantissa token)

-- what stands behind the point
unfoldable pub fraction_part : List ℕ → List ℕ
fraction_part token = after_first is_point (mantissa token)

-- the digits on both sides of the point
abbrev pub digits_part : List ℕ → List ℕ
digits_part token = whole_part token ++ fraction_part token

-- the token has an `e`
unfoldable pub has_exponent : List ℕ → Bool
has_exponent token = list_any is_exponent_mark (unsigned token)

-- what stands behind the exponent's mark
unfoldable pub exponent_part : List ℕ → List ℕ
exponent_part token = after_first is_exponent_mark (unsigned token)

-- ---- the grammar

-- one digit or more
unfoldable pub is_digits : List ℕ → Bool
is_digits cs = not (bytes_eq cs []) && list_all is_ascii_digit cs

-- digits with an optional point anywhere but alone, and an optional exponent, all with optional signs
unfoldable pub is_real : List ℕ → Bool
is_real token = is_digits (digits_part token) && (not (has_exponent token) || is_digits (unsigned (exponent_part token)))

-- `inf` or `infinity` in any case, with an optional sign
unfoldable pub is_infinity : List ℕ → Bool
is_infinity token = let word = str_to_ascii_lowercase (unsigned token) in bytes_eq word (codes "inf") || bytes_eq word (codes "infinity")

-- `nan` in any case, without a sign
unfoldable pub is_nan_token : List ℕ → Bool
is_nan_token token = bytes_eq (str_to_ascii_lowercase token) (codes "nan")

-- a real, an infinity or NaN
unfoldable pub is_number_token : List ℕ → Bool
is_number_token token = is_real token || is_infinity token || is_nan_token token

-- a character that a number token may have: a digit, a sign, a point or a letter
abbrev pub is_token_char : ℕ → Bool
is_token_char c = is_ascii_digit c || is_sign c || is_point c || is_ascii_alphabetic c

-- ---- the value that is written

-- the power of ten that an exponent's sign and digits multiply by
unfoldable pub multiplies_by : List ℕ → ℕ
multiplies_by exponent = if has_minus exponent then 0 else digits_value 10 (unsigned exponent)

-- the power of ten that an exponent's sign and digits divide by
unfoldable pub divides_by : List ℕ → ℕ
divides_by exponent = if has_minus exponent then digits_value 10 (unsigned exponent) else 0

-- the power of ten that multiplies a real's digits
abbrev pub power_up : List ℕ → ℕ
power_up token = multiplies_by (exponent_part token)

-- the power of ten that divides a real's digits: its exponent's, and one for each digit behind the point
abbrev pub power_down : List ℕ → ℕ
power_down token = divides_by (exponent_part token) + length (fraction_part token)

-- a real as it is written
unfoldable pub written_decimal : List ℕ → DecimalValue
written_decimal token = record {
  negative = has_minus token;
  digits = digits_value 10 (digits_part token);
  up = power_up token;
  down = power_down token;
}

-- ---- the one form of each value, and the limits

-- `0`
abbrev pub is_zero_digit : ℕ → Bool
is_zero_digit c = c == 48

-- without the zeros at the front
unfoldable pub without_leading_zeros : List ℕ → List ℕ
without_leading_zeros ds = drop (prefix_len is_zero_digit ds) ds

-- how many zeros stand at the end
unfoldable pub trailing_zeros : List ℕ → ℕ
trailing_zeros ds = suffix_len is_zero_digit ds

-- without the zeros at the end
unfoldable pub without_trailing_zeros : List ℕ → List ℕ
without_trailing_zeros ds = take (length ds - trailing_zeros ds) ds

-- without the zeros at both ends
unfoldable pub significant_digits : List ℕ → List ℕ
significant_digits ds = without_trailing_zeros (without_leading_zeros ds)

-- zero
abbrev pub zero_decimal : DecimalValue
zero_decimal = record { negative = false; digits = 0; up = 0; down = 0 }

-- the one form of a sign and digits × 10 ^ up / 10 ^ down: each zero at the end of the digits is a power of ten more,
-- what multiplies and what divides by ten cancel, and zero has no sign and no power
unfoldable pub one_form : Bool → List ℕ → ℕ → ℕ → DecimalValue
one_form negative ds up down =
    let power = up + trailing_zeros ds in
    if digits_value 10 ds == 0 then zero_decimal else record {
      negative = negative;
      digits = digits_value 10 (significant_digits ds);
      up = power - down;
      down = down - power;
    }

-- the power of ten at which the first digit that isn't 0 stands, before it is divided
abbrev pub leading_power : List ℕ → ℕ → ℕ
leading_power ds up = up + (length (without_leading_zeros ds) - 1)

-- digits × 10 ^ up / 10 ^ down has at most 38 significant digits, the first of them at a power of ten from -400 to 308;
-- zero is free of both
unfoldable pub is_within : List ℕ → ℕ → ℕ → Bool
is_within ds up down = digits_value 10 ds == 0
    || (nat_le (length (significant_digits ds)) 38 && nat_le down (leading_power ds up + 400) && nat_le (leading_power ds up) (308 + down))

-- the decimal of a real
unfoldable pub decimal_of : List ℕ → DecimalValue
decimal_of token = one_form (has_minus token) (digits_part token) (power_up token) (power_down token)

-- the most bytes that a token may have
abbrev pub most_bytes : ℕ
most_bytes = 128

-- a real keeps the limits: that on its bytes, and those on its digits and power
unfoldable pub is_in_limits : List ℕ → Bool
is_in_limits token = nat_le (length token) most_bytes && is_within (digits_part token) (power_up token) (power_down token)
