-- What the passes over a token know of it.
use Rattle.std.specs.Prelude.{◌≡◌, ◌≢◌, ℕ, ◌+◌, ◌-◌, ◌*◌, ◌^◌, ◌%◌, ◌<◌, ◌≤◌, min, Bool, true, ◌&&◌, List, [], ◌∷◌, ◌++◌, length, Option, Some, None, Result, Ok, Err, if◌then◌else◌}
use Rattle.std.specs.List.{list_all, prefix_len}
use Rattle.std.specs.Char.{is_ascii_digit}
use Rattle.std.specs.Str.Parse.{digits_value, digits_value_after}
use Rattle.exact_decimal.specs.declared.number.Number.{Number}
use Rattle.exact_decimal.specs.declared.number.Number.TheVariants.{Finite}
use Rattle.exact_decimal.specs.declared.number.NumberFault.{NumberFault}
use Rattle.exact_decimal.specs.declared.number.NumberFault.TheVariants as faults
use Rattle.exact_decimal.specs.Tokens.{unsigned, has_minus, is_point, is_exponent_mark, whole_part, fraction_part, exponent_part, is_digits, is_real, multiplies_by, divides_by, without_leading_zeros, trailing_zeros, significant_digits, one_form, is_within}

-- each byte is a digit
abbrev pub AreDigits : List ℕ → Type 0
AreDigits ds = list_all is_ascii_digit ds ≡ true

-- bytes are digits and a rest that begins with none; the value goes on from the one before, and is exact below 2 ^ 64 - 1
pub record IsRun (bytes : List ℕ) (before : ℕ) (digits rest : List ℕ) (value : ℕ) : Type 0 where
  pub text : bytes ≡ digits ++ rest
  pub are_digits : AreDigits digits
  pub stops : prefix_len is_ascii_digit rest ≡ 0
  pub exact : value < 2 ^ 64 - 1 → value ≡ digits_value_after 10 before digits
  pub grows : before ≤ value

-- what stands behind a point at the front
unfoldable pub behind_point : List ℕ → Option (List ℕ)
behind_point [] = None
behind_point (c ∷ cs) = if is_point c then Some cs else None

-- the digits behind a point at the front and their rest; where there is no point, no digits
pub data IsFraction : List ℕ → ℕ → List ℕ → List ℕ → ℕ → Type 0 where
  pointed : {bytes more : List ℕ} {before : ℕ} {digits rest : List ℕ} {value : ℕ} → behind_point bytes ≡ Some more → IsRun more before digits rest value → IsFraction bytes before digits rest value
  pointless : {bytes : List ℕ} {before : ℕ} → behind_point bytes ≡ None → IsFraction bytes before [] bytes before

-- what stands behind an exponent's mark at the front
unfoldable pub behind_mark : List ℕ → Option (List ℕ)
behind_mark [] = None
behind_mark (c ∷ cs) = if is_exponent_mark c then Some cs else None

-- nothing, or an exponent
unfoldable pub is_tail : List ℕ → Bool
is_tail [] = true
is_tail (c ∷ cs) = is_exponent_mark c && is_digits (unsigned cs)

-- an exponent without its mark
unfoldable pub tail_text : List ℕ → List ℕ
tail_text [] = []
tail_text (c ∷ cs) = cs

-- an exponent past this breaks a limit whatever the digits are
abbrev pub most_exponent : ℕ
most_exponent = 10000

-- the value of digits, up to the most exponent
pub record IsCapped (ds : List ℕ) (value : ℕ) : Type 0 where
  pub digits : is_digits ds ≡ true
  pub capped : value ≡ min (digits_value 10 ds) most_exponent

-- the powers of ten of a tail, up to the most exponent
pub record IsExponent (tail : List ℕ) (up down : ℕ) : Type 0 where
  pub tail_is : is_tail tail ≡ true
  pub up_is : up ≡ min (multiplies_by (tail_text tail)) most_exponent
  pub down_is : down ≡ min (divides_by (tail_text tail)) most_exponent

-- the parts of a real; its value is exact below 2 ^ 64 - 1, and its powers up to the most exponent
pub record IsScanned (token : List ℕ) (negative : Bool) (whole fraction : List ℕ) (value up down : ℕ) : Type 0 where
  pub real : is_real token ≡ true
  pub sign : negative ≡ has_minus token
  pub whole_is : whole ≡ whole_part token
  pub fraction_is : fraction ≡ fraction_part token
  pub are_digits : AreDigits (whole ++ fraction)
  pub fits : length whole + length fraction ≤ length token
  pub exact : value < 2 ^ 64 - 1 → value ≡ digits_value 10 (whole ++ fraction)
  pub up_is : up ≡ min (multiplies_by (exponent_part token)) most_exponent
  pub down_is : down ≡ min (divides_by (exponent_part token)) most_exponent

-- digits without their outer zeros, how many zeros were left out at the end, and how many digits are kept
pub record Keeps (ds : List ℕ) (digits zeros places : ℕ) : Type 0 where
  pub digits_are : digits ≡ digits_value 10 (significant_digits ds)
  pub places_are : places ≡ length (significant_digits ds)
  pub zeros_are : 0 < places → zeros ≡ trailing_zeros ds
  pub nothing : places ≡ 0 → zeros ≡ 0
  pub length_is : length (without_leading_zeros ds) ≡ places + zeros
  pub value : digits_value 10 ds ≡ digits * 10 ^ zeros
  pub low : 0 < places → 10 ^ (places - 1) ≤ digits
  pub high : digits < 10 ^ places
  pub last : 0 < places → digits % 10 ≢ 0

-- the number of a sign and digits × 10 ^ up / 10 ^ down, or out of range
unfoldable pub within_limits : Bool → List ℕ → ℕ → ℕ → Result Number NumberFault
within_limits negative ds up down = if is_within ds up down then Ok (Finite (one_form negative ds up down)) else Err faults.OutOfRange
