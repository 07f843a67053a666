-- What a decimal denotes: a sign and digits × 10 ^ up / 10 ^ down, with whole numbers alone.
-- IEEE 754-2019, decimal formats (sign, coefficient, exponent), without their limits.
use Rattle.std.specs.Prelude.{◌≡◌, ◌≢◌, ℕ, ◌+◌, ◌*◌, ◌^◌, ◌%◌, ◌<◌, ◌≤◌, Bool, true, false, ◌&&◌, ◌==◌, if◌then◌else◌}
use Rattle.std.specs.Ordering.{nat_cmp}
use Rattle.std.specs.declared.cmp.Ordering.{Ordering}
use Rattle.std.specs.declared.cmp.Ordering.TheVariants.{Less, Equal, Greater}

-- a sign, a whole number, and the powers of ten that multiply and divide it
pub record DecimalValue : Type 0 where
  pub negative : Bool
  pub digits : ℕ
  pub up : ℕ
  pub down : ℕ

-- the size of the first decimal in units of the smaller of both decimals' powers
abbrev pub size_beside : DecimalValue → DecimalValue → ℕ
size_beside a b = a.digits * 10 ^ (a.up + b.down)

-- the order of two sizes with their signs; zero is neither above nor below itself
abbrev pub signed_cmp : Bool → ℕ → Bool → ℕ → Ordering
signed_cmp false x false y = nat_cmp x y
signed_cmp true x true y = nat_cmp y x
signed_cmp true x false y = if x == 0 && y == 0 then Equal else Less
signed_cmp false x true y = if x == 0 && y == 0 then Equal else Greater

-- the order of the values
unfoldable pub decimal_cmp : DecimalValue → DecimalValue → Ordering
decimal_cmp a b = signed_cmp a.negative (size_beside a b) b.negative (size_beside b a)

-- two decimals denote one number
abbrev pub SameValue : DecimalValue → DecimalValue → Type 0
SameValue a b = decimal_cmp a b ≡ Equal

-- the one form of a value: no zero at the end of its digits, one power alone, zero without sign and power;
-- at most 38 digits, and a leading digit at a power of ten from -400 to 308 (the bridge's own limits)
pub record IsNormal (d : DecimalValue) : Type 0 where
  pub few : d.digits < 10 ^ 38
  pub last : d.digits ≢ 0 → d.digits % 10 ≢ 0
  pub one_power : d.up * d.down ≡ 0
  pub zero_sign : d.digits ≡ 0 → d.negative ≡ false
  pub zero_power : d.digits ≡ 0 → d.up + d.down ≡ 0
  pub low : d.digits ≢ 0 → 10 ^ d.down ≤ d.digits * 10 ^ (d.up + 400)
  pub high : d.digits * 10 ^ d.up < 10 ^ (309 + d.down)

-- the number of four quarters of 32 bits, the lowest first
abbrev pub of_quarters : ℕ → ℕ → ℕ → ℕ → ℕ
of_quarters first second third fourth = ((fourth * 2 ^ 32 + third) * 2 ^ 32 + second) * 2 ^ 32 + first
