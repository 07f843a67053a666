-- Digits that are kept, or too many to be kept.
-- The limit is the bridge's own.
use Rattle.std.specs.Prelude.{ℕ, ◌<◌, List, length, Option, MatchOption}
use Rattle.exact_decimal.specs.declared.digits.Kept.{Kept}
use Rattle.exact_decimal.specs.Tokens.{significant_digits}
use Rattle.exact_decimal.specs.Scans.{Keeps}

-- these digits are kept, unless more than 38 of them are significant
abbrev pub AreKeptUnlessMany : List ℕ → Option Kept → Type 0
AreKeptUnlessMany ds kept = MatchOption kept (38 < length (significant_digits ds)) (λ k. Keeps ds k.digits k.zeros k.places)
