-- Pairs of wires that no run used.
-- The bridge's own.
use Rattle.std.specs.Prelude.{◌≡◌, ℕ, ◌≤◌, [], Option, Some, IfSome}
use Rattle.bridge_ports.specs.Outside.{SeenPair}
use Rattle.series_table.specs.Records.{talks_of}

-- neither wire of a pair tells a talk
abbrev pub IsSilent : SeenPair → Type 0
IsSilent pair = IfSome (talks_of pair.0) (λ talks. talks ≡ []) × IfSome (talks_of pair.1) (λ talks. talks ≡ [])

-- the pair of a number is at home and made no talk
abbrev pub IsUnused : (ℕ → Option SeenPair) → ℕ → Type 0
IsUnused home n = (pair : SeenPair) × (home n ≡ Some pair) × IsSilent pair

-- the most targets of a world
abbrev pub most_pairs : ℕ
most_pairs = 256

-- the pairs of all targets are at home and made no talk
abbrev pub AreUnused : (ℕ → Option SeenPair) → Type 0
AreUnused home = (n : ℕ) → 1 ≤ n → n ≤ most_pairs → IsUnused home n
