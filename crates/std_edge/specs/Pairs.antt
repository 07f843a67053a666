-- Pairs of wires by number: what is seen of those that were handed out, and which are at home.
-- The bridge's own.
use Rattle.std.specs.Prelude.{ℕ, true, false, List, Option, Some, None, option_map, ⊤}
use Rattle.std.specs.Map.{lookup}
use Rattle.std.specs.BTreeMap.{is_at}
use Rattle.std.specs.Ordering.{nat_cmp}
use Rattle.bridge_ports.specs.Talks.{WireState}
use Rattle.bridge_ports.specs.Worlds.{Given, IsHome}
use Rattle.std_edge.specs.Machine.{unused_wire}

-- a pair that was handed out: its wires where they are at home again, and the addresses with which it was handed out last
pub record PairSeen : Type 0 where
  pub wires : Option (WireState × WireState)
  pub given : Given

-- the pair of a number among those that were handed out
abbrev pub pair_in : List (ℕ × PairSeen) → ℕ → Option PairSeen
pair_in pairs number = lookup (is_at (nat_cmp number)) pairs

-- the wires of a number that are at home, by what is seen of its pair: unused ones where it was not handed out
abbrev pub home_seen : ℕ → Option PairSeen → Option (WireState × WireState)
home_seen number None = Some (unused_wire (record { number = number; post = false }), unused_wire (record { number = number; post = true }))
home_seen number (Some pair) = pair.wires

-- the wires of a number that are at home
abbrev pub home_in : List (ℕ × PairSeen) → ℕ → Option (WireState × WireState)
home_in pairs number = home_seen number (pair_in pairs number)

-- the addresses of a pair
abbrev pub addresses_of : PairSeen → Given
addresses_of pair = pair.given

-- the addresses with which the pair of a number was handed out last
abbrev pub last_given_in : List (ℕ × PairSeen) → ℕ → Option Given
last_given_in pairs number = option_map addresses_of (pair_in pairs number)

-- both wires, where they are at home, are in the places of a number
abbrev pub AreHome : ℕ → Option (WireState × WireState) → Type 0
AreHome number None = ⊤
AreHome number (Some wires) = IsHome number false wires.0 × IsHome number true wires.1

-- what is kept of the pairs: those at home are in the places of their numbers
abbrev pub ArePairs : List (ℕ × PairSeen) → Type 0
ArePairs pairs = (number : ℕ) → AreHome number (home_in pairs number)
