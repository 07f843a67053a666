-- The pairs of a world in memory that was just made are unused.
use Rattle.std.proofs.Common.{◌≡◌, ℕ, ◌≤◌, Bool, true, false, List, [], ◌∷◌, length, Option, Some, refl, arith}
use Rattle.std.specs.Prelude.{◌==◌, option_map}
use Rattle.std.specs.List.{AllByRecursion, IsDistinct}
use Rattle.std.proofs.lemmas.Bool.{le-leb}
use Rattle.std.proofs.lemmas.List.Elements.{All-from_recursion}
use Rattle.bridge_ports.specs.declared.memory_world.MemoryPair.{MemoryPair}
use Rattle.bridge_ports.specs.Plans.{MemoryState, seen_of}
use Rattle.bridge_ports.specs.MemoryWorlds.{FileState, PairState, ListenState, wires_of, pair_of}
use Rattle.bridge_ports.specs.WorldMaking.{IsRightListen, IsRightPair, MayBeMade, is_one_path}
use Rattle.memory_world.specs.WorldParts.{fresh_pair, seen_home}
use Rattle.bridge_ports.specs.Outside.{SeenPair, seen_pair}
use Rattle.series_table.specs.Records.{IsFresh}
use Rattle.world_run.specs.Unused.{IsSilent, IsUnused}

-- a pair that is at home and made no talk
pub record IsReady (p : PairState) : Type 0 where
  pub at_home : p.at_home ≡ true
  pub scrape : IsFresh (seen_of p.scrape)
  pub post : IsFresh (seen_of p.post)

-- wires that are there and made no talk
abbrev IsThere : Option (MemoryState × MemoryState) → Type 0
IsThere wires = (pair : SeenPair) × (option_map (seen_pair seen_of) wires ≡ Some pair) × IsSilent pair

ready_there : (p : PairState) (home : Bool) → p.at_home ≡ home → IsReady p → IsThere (wires_of p)
ready_there p true e ready = rw e ((seen_of p.scrape, seen_of p.post), refl, (ready.scrape.untold, ready.post.untold))
ready_there p false e ready = absurd (cc (e, ready.at_home))

first_there : (p : PairState) (ps : List PairState) (n : ℕ) (same : Bool) → (p.number == n) ≡ same → IsReady p → IsThere (pair_of ps n) → IsThere (pair_of (p ∷ ps) n)
first_there p ps n true e ready rest = rw e (ready_there p p.at_home refl ready)
first_there p ps n false e ready rest = rw e rest

bare_there : (n : ℕ) → 1 ≤ n → n ≤ 256 → IsThere (pair_of [] n)
bare_there n low high = rw (le-leb 1 n low, le-leb n 256 high) (_, refl, (refl, refl))

pub unused_pairs : (ps : List PairState) (n : ℕ) → AllByRecursion IsReady ps → 1 ≤ n → n ≤ 256 → IsUnused (seen_home ps) n
unused_pairs [] n ready low high = bare_there n low high
unused_pairs (p ∷ ps) n ready low high = first_there p ps n (p.number == n) refl ready.0 (unused_pairs ps n ready.1 low high)

-- a pair that was given is ready
given_ready : (p : MemoryPair) → IsFresh (seen_of p.wires.scrape) → IsFresh (seen_of p.wires.post) → IsReady (fresh_pair p)
given_ready p scrape post = record { at_home = refl; scrape = scrape; post = post }

-- the path of one file is there once
one_path : (files : List FileState) → length files ≡ 1 → IsDistinct is_one_path files
unfolding IsDistinct
one_path [] one = tt
one_path (f ∷ []) one = (tt, tt)
one_path (f ∷ g ∷ files) one = absurd (omega (arith, one))

-- a world may be made of a file, the pairs of two numbers and a door
pub may_be_made : (files : List FileState) (p q : MemoryPair) (l : ListenState) → length files ≡ 1 → p.number ≡ 1 → q.number ≡ 2 → IsRightPair (fresh_pair p) → IsRightPair (fresh_pair q) → IsRightListen l
    → MayBeMade files (fresh_pair p ∷ fresh_pair q ∷ []) (l ∷ [])
unfolding IsDistinct
may_be_made files p q l file one two p_right q_right l_right = record {
  paths = one_path files file;
  numbers = ((rw (one, two) refl, tt), (tt, tt));
  addresses = (tt, tt);
  right_pairs = All-from_recursion IsRightPair (fresh_pair p ∷ fresh_pair q ∷ []) (p_right, (q_right, tt));
  right_doors = All-from_recursion IsRightListen (l ∷ []) (l_right, tt);
}

-- the pairs of two numbers are unused
pub two_unused : (p q : MemoryPair) (n : ℕ) → IsFresh (seen_of p.wires.scrape) → IsFresh (seen_of p.wires.post) → IsFresh (seen_of q.wires.scrape) → IsFresh (seen_of q.wires.post) → 1 ≤ n → n ≤ 256
    → IsUnused (seen_home (fresh_pair p ∷ fresh_pair q ∷ [])) n
two_unused p q n a b c d low high = unused_pairs (fresh_pair p ∷ fresh_pair q ∷ []) n (given_ready p a b, (given_ready q c d, tt)) low high
