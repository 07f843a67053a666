-- Literals, computed from their definition. What is expected was computed apart, by Python's whole numbers.
use Rattle.std.specs.Prelude.{◌≡◌, ℕ, true, false, List, [], ◌∷◌, map, codes, refl}
use Rattle.std.specs.Fmt.{digits}
use Rattle.exact_decimal.specs.declared.number.Number.TheVariants.{Up, Down, NotANumber}
use Rattle.exact_decimal.specs.Decimals.{DecimalValue}
use Rattle.exact_decimal.specs.Literals.{sign_text, pointed, plain_text, difference_text, exponent_text, is_plain, size_text, decimal_text, number_json, number_text}

-- digits × 10 ^ up / 10 ^ down
abbrev positive : ℕ → ℕ → ℕ → DecimalValue
positive n up down = record { negative = false; digits = n; up = up; down = down }

-- the same below zero
abbrev negative : ℕ → ℕ → ℕ → DecimalValue
negative n up down = record { negative = true; digits = n; up = up; down = down }

-- a decimal and its literal
record Case : Type 0 where
  value : DecimalValue
  literal : List ℕ

abbrev row : DecimalValue → List ℕ → Case
row value literal = record { value = value; literal = literal }

abbrev rows : List Case
rows =
    -- decimals of all sorts
    row (positive 0 0 0) (codes "0") ∷
    row (positive 5 0 1) (codes "0.5") ∷
    row (positive 5 0 0) (codes "5") ∷
    row (positive 1 6 0) (codes "1000000") ∷
    row (positive 17976931348623157 292 0) (codes "1.7976931348623157e308") ∷
    row (positive 5 0 324) (codes "5e-324") ∷
    row (positive 1 40 0) (codes "1e40") ∷
    row (positive 1 20 0) (codes "100000000000000000000") ∷
    row (positive 1 0 5) (codes "0.00001") ∷
    row (positive 1 0 6) (codes "1e-6") ∷
    row (positive 366 0 1) (codes "36.6") ∷
    row (positive 1 0 0) (codes "1") ∷
    row (negative 1 0 0) (codes "-1") ∷
    row (positive 9 0 0) (codes "9") ∷
    row (negative 9 0 0) (codes "-9") ∷
    row (positive 1 1 0) (codes "10") ∷
    row (negative 1 1 0) (codes "-10") ∷
    row (positive 7 3 0) (codes "7000") ∷
    row (positive 42 0 0) (codes "42") ∷
    row (positive 1000001 0 0) (codes "1000001") ∷
    row (negative 12345678 0 4) (codes "-1234.5678") ∷
    row (positive 1 0 1) (codes "0.1") ∷
    row (negative 1 0 1) (codes "-0.1") ∷
    row (positive 25 0 2) (codes "0.25") ∷
    row (positive 10025 0 2) (codes "100.25") ∷
    row (positive 123456789000000001 0 9) (codes "123456789.000000001") ∷
    row (positive 18446744073709551615 0 0) (codes "18446744073709551615") ∷
    row (positive 18446744073709551616 0 0) (codes "18446744073709551616") ∷
    row (positive 123456789012345678905 0 1) (codes "12345678901234567890.5") ∷
    -- leading digits at the powers -6, -5, 20 and 21
    row (positive 12345 0 9) (codes "0.000012345") ∷
    row (negative 12345 0 10) (codes "-1.2345e-6") ∷
    row (positive 15 0 6) (codes "0.000015") ∷
    row (positive 15 0 7) (codes "1.5e-6") ∷
    row (negative 1 0 5) (codes "-0.00001") ∷
    row (negative 1 0 6) (codes "-1e-6") ∷
    row (positive 5 0 10) (codes "5e-10") ∷
    row (positive 123 18 0) (codes "123000000000000000000") ∷
    row (positive 123 19 0) (codes "1.23e21") ∷
    row (negative 1 21 0) (codes "-1e21") ∷
    row (positive 999999999999999999999 0 0) (codes "999999999999999999999") ∷
    row (positive 9 20 0) (codes "900000000000000000000") ∷
    row (positive 9 21 0) (codes "9e21") ∷
    -- 38 digits, and the ends of the range
    row (positive 314159265358979323846264338327950288 0 35) (codes "3.14159265358979323846264338327950288") ∷
    row (positive 99999999999999999999999999999999999999 0 0) (codes "9.9999999999999999999999999999999999999e37") ∷
    row (negative 99999999999999999999999999999999999999 0 0) (codes "-9.9999999999999999999999999999999999999e37") ∷
    row (negative 12345678901234567890123456789012345678 0 42) (codes "-0.000012345678901234567890123456789012345678") ∷
    row (positive 10000000000000000000000000000000000001 0 42) (codes "0.000010000000000000000000000000000000000001") ∷
    row (positive 12345678901234567890123456789012345678 0 437) (codes "1.2345678901234567890123456789012345678e-400") ∷
    row (negative 12345678901234567890123456789012345678 0 437) (codes "-1.2345678901234567890123456789012345678e-400") ∷
    row (negative 12345678901234567890123456789012345678 0 137) (codes "-1.2345678901234567890123456789012345678e-100") ∷
    row (negative 12345678901234567890123456789012345678 0 43) (codes "-1.2345678901234567890123456789012345678e-6") ∷
    row (positive 12345678901234567890123456789012345678 0 17) (codes "123456789012345678901.23456789012345678") ∷
    row (positive 12345678901234567890123456789012345678 0 16) (codes "1.2345678901234567890123456789012345678e21") ∷
    row (negative 98765432109876543210987654321098765432 271 0) (codes "-9.8765432109876543210987654321098765432e308") ∷
    row (positive 1 0 400) (codes "1e-400") ∷
    row (positive 1 308 0) (codes "1e308") ∷
    row (negative 1 308 0) (codes "-1e308") ∷
    row (positive 2 0 399) (codes "2e-399") ∷
    row (positive 1 38 0) (codes "1e38") ∷
    row (positive 1 0 38) (codes "1e-38") ∷
    row (positive 15 299 0) (codes "1.5e300") ∷
    row (positive 10000000000000000000000000000000000001 0 37) (codes "1.0000000000000000000000000000000000001") ∷
    []

-- each decimal is printed so
literals : map (λ (c : Case). decimal_text c.value) rows ≡ map (λ (c : Case). c.literal) rows
unfolding decimal_text sign_text size_text is_plain plain_text exponent_text pointed difference_text digits
literals = refl

-- the numbers that are no decimals
symbols :
    (number_json Up ∷ number_json Down ∷ number_json NotANumber ∷ number_text Up ∷ number_text Down ∷ number_text NotANumber ∷ [])
    ≡ codes "\"Infinity\"" ∷ codes "\"-Infinity\"" ∷ codes "\"NaN\"" ∷ codes "+Inf" ∷ codes "-Inf" ∷ codes "NaN" ∷ []
unfolding number_json number_text
symbols = refl
