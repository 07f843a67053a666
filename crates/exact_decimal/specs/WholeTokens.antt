-- The tokens of whole numbers.
-- OpenMetrics 1.0, "ABNF" (realnumber), without leading zeros and plus sign.
use Rattle.std.specs.Prelude.{ℕ, Bool, List, ◌∷◌, if◌then◌else◌}
use Rattle.std.specs.Fmt.{decimal}

-- the digits of a whole number, behind a minus where it is to be below zero
abbrev pub whole_token : Bool → ℕ → List ℕ
whole_token negative n = if negative then 45 ∷ decimal n else decimal n
