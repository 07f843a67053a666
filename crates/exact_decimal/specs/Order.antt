-- The order of numbers, and the whole numbers that they are or begin with.
-- IEEE 754-2019, section 5.11 (comparison predicates: NaN is unordered), without signed zeros.
use Rattle.std.specs.Prelude.{ℕ, ◌+◌, ◌*◌, ◌/◌, ◌%◌, ◌^◌, Bool, true, false, not, ◌&&◌, ◌==◌, Option, Some, None, nat_lt, if◌then◌else◌}
use Rattle.std.specs.Ordering.{is_lt, is_eq}
use Rattle.exact_decimal.specs.declared.number.Number.{Number}
use Rattle.exact_decimal.specs.declared.number.Number.TheVariants.{Finite, Up, Down, NotANumber}
use Rattle.exact_decimal.specs.Decimals.{decimal_cmp}

-- the order with both infinities; nothing is less than, or more than, what isn't a number
unfoldable pub less : Number → Number → Bool
less (Finite a) (Finite b) = is_lt (decimal_cmp a b)
less (Finite a) Up = true
less Down (Finite b) = true
less Down Up = true
less _ _ = false

-- one value; what isn't a number equals nothing
unfoldable pub same : Number → Number → Bool
same (Finite a) (Finite b) = is_eq (decimal_cmp a b)
same Up Up = true
same Down Down = true
same _ _ = false

-- neither an infinity nor NaN
abbrev pub is_finite : Number → Bool
is_finite (Finite d) = true
is_finite _ = false

-- NaN
abbrev pub is_not_a_number : Number → Bool
is_not_a_number NotANumber = true
is_not_a_number _ = false

-- the greatest whole number not above digits × 10 ^ up / 10 ^ down
abbrev pub floor_of : ℕ → ℕ → ℕ → ℕ
floor_of digits up down = digits * 10 ^ up / 10 ^ down

-- digits × 10 ^ up / 10 ^ down is a whole number
abbrev pub is_exact : ℕ → ℕ → ℕ → Bool
is_exact digits up down = digits * 10 ^ up % 10 ^ down == 0

-- the number, where 64 bits hold it
abbrev pub in_64_bits : ℕ → Option ℕ
in_64_bits n = if nat_lt n (2 ^ 64) then Some n else None

-- the whole number from 0 to 2 ^ 64 - 1 that a number is
unfoldable pub whole : Number → Option ℕ
whole (Finite d) = if not d.negative && is_exact d.digits d.up d.down then in_64_bits (floor_of d.digits d.up d.down) else None
whole _ = None

-- seconds as whole nanoseconds, rounded down
unfoldable pub nanos : Number → Option ℕ
nanos (Finite d) = if d.negative then None else in_64_bits (floor_of d.digits (d.up + 9) d.down)
nanos _ = None
