-- How a number is printed: plainly where its leading digit stands at a power of ten from -5 to 20, else with an exponent.
-- RFC 8259 (JSON), section 6; ProtoJSON, whose strings stand for the infinities and NaN; OpenMetrics 1.0, "ABNF" (number).
-- Which of a value's literals is taken is the bridge's own.
use Rattle.std.specs.Prelude.{◌≡◌, ℕ, ◌+◌, ◌-◌, ◌*◌, ◌^◌, ◌<◌, Bool, true, false, ◌&&◌, List, [], ◌∷◌, ◌++◌, length, take, drop, replicate, codes, nat_le, if◌then◌else◌}
use Rattle.std.specs.Fmt.{decimal}
use Rattle.exact_decimal.specs.declared.number.Number.{Number}
use Rattle.exact_decimal.specs.declared.number.Number.TheVariants.{Finite, Up, Down, NotANumber}
use Rattle.exact_decimal.specs.Decimals.{DecimalValue}

-- `-` where the value is negative
unfoldable pub sign_text : Bool → List ℕ
sign_text true = 45 ∷ []
sign_text false = []

-- so many digits `0`
abbrev pub zeros : ℕ → List ℕ
zeros count = replicate count 48

-- digits with so many of them before the point, and no point where none stands behind it
unfoldable pub pointed : List ℕ → ℕ → List ℕ
pointed digits before = if nat_le (length digits) before then digits else take before digits ++ (46 ∷ drop before digits)

-- plainly: zeros fill up to the point, and one digit at least stands before it
unfoldable pub plain_text : List ℕ → ℕ → ℕ → List ℕ
plain_text digits up down =
    let filled = zeros (down + 1 - length digits) ++ (digits ++ zeros up) in pointed filled (length filled - down)

-- the whole number up - down, with `-` where it is negative
unfoldable pub difference_text : ℕ → ℕ → List ℕ
difference_text up down = if nat_le down up then decimal (up - down) else 45 ∷ decimal (down - up)

-- with an exponent: one digit before the point, then `e` and the power of ten of that digit
unfoldable pub exponent_text : List ℕ → ℕ → ℕ → List ℕ
exponent_text digits up down = pointed digits 1 ++ (101 ∷ difference_text (up + (length digits - 1)) down)

-- the first of so many digits stands at a power of ten from -5 to 20, as that of zero does
unfoldable pub is_plain : ℕ → ℕ → ℕ → Bool
is_plain places up down = nat_le down (up + (places - 1) + 5) && nat_le (up + (places - 1)) (down + 20)

-- a digit at least and two powers of ten, of which one is 0, and whose sums 32 bits hold
abbrev pub IsSize : ℕ → ℕ → ℕ → Type 0
IsSize places up down = (0 < places) × (up + down + places < 2 ^ 32) × (up * down ≡ 0)

-- the most characters of a literal beside its digits and zeros: `0.` or a point, `e`, and a power with its sign
abbrev pub most_beside : ℕ
most_beside = 24

-- the literal of digits × 10 ^ up / 10 ^ down
unfoldable pub size_text : List ℕ → ℕ → ℕ → List ℕ
size_text digits up down = if is_plain (length digits) up down then plain_text digits up down else exponent_text digits up down

-- a decimal's literal
unfoldable pub decimal_text : DecimalValue → List ℕ
decimal_text d = sign_text d.negative ++ size_text (decimal d.digits) d.up d.down

-- a number in JSON: the three that are no decimals are strings
unfoldable pub number_json : Number → List ℕ
number_json (Finite d) = decimal_text d
number_json Up = codes "\"Infinity\""
number_json Down = codes "\"-Infinity\""
number_json NotANumber = codes "\"NaN\""

-- a number in a page of OpenMetrics
unfoldable pub number_text : Number → List ℕ
number_text (Finite d) = decimal_text d
number_text Up = codes "+Inf"
number_text Down = codes "-Inf"
number_text NotANumber = codes "NaN"
