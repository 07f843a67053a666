-- How a pair of wires is kept.
-- The bridge's own.
use Rattle.std.specs.Prelude.{ℕ, List, map}
use Rattle.std.specs.BTreeMap.{BTreeMap}
use Rattle.std_edge.specs.declared.pairs.KeptPair.{KeptPair}
use Rattle.std_edge.specs.Pairs.{PairSeen}

-- what is seen of a pair that is kept
abbrev pub kept_seen : {R : Type 0} → KeptPair R → PairSeen
kept_seen k = record { wires = k.wires; given = record { scrape = k.scrape; post = k.post } }

-- what is seen of all pairs that are kept
abbrev pub pairs_seen : {R : Type 0} → BTreeMap ℕ (KeptPair R) → List (ℕ × PairSeen)
pairs_seen {R} kept = map (λ (e : ℕ × KeptPair R). (e.0, kept_seen e.1)) kept.entries
