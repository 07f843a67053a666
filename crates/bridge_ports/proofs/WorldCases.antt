-- Worlds in memory, by computation.
use Rattle.std.proofs.Common.{◌≡◌, ℕ, Bool, true, false, List, [], ◌∷◌, Option, Some, None, codes, refl, ap, arith}
use Rattle.std.specs.Prelude.{find, ◌==◌}
use Rattle.bridge_ports.specs.declared.talk.Address.{Address}
use Rattle.bridge_ports.specs.Plans.{MemoryState, new_wire}
use Rattle.bridge_ports.specs.InMemory.{ConnState, new_memory_door}
use Rattle.bridge_ports.specs.Worlds.{put_on}
use Rattle.bridge_ports.specs.MemoryWorlds.{FileState, PairState, ListenState, MemoryWorldState, file_of, no_plan, pair_of, given_of, coming_of, or_bare}
use Rattle.bridge_ports.specs.WorldMaking.{MayBeMade, IsMemoryWorld, given_pair, new_world, shown_pair, found_wires, on_shelf, pair_kept, listen_kept, IsRightPair, IsRightListen}

-- a pair that is shown is the pair that is at home
pub shown_is_home : (pairs : List PairState) (number : ℕ) (wires : MemoryState × MemoryState) → shown_pair pairs number ≡ Some wires → pair_of pairs number ≡ Some wires
shown_is_home pairs number wires shown = by_found (find (λ (p : PairState). p.number == number) pairs) shown
  where
    by_found : (found : Option PairState) → found_wires found ≡ Some wires → or_bare number found ≡ Some wires
    by_found None shown = absurd (cc shown)
    by_found (Some p) shown = shown

-- a world that was just made has what its type keeps
pub new_world_keeps : (files : List FileState) (pairs : List PairState) (doors : List ListenState) (failing : List ℕ) → MayBeMade files pairs doors → IsMemoryWorld (new_world files pairs doors failing)
new_world_keeps files pairs doors failing may = record {
  paths = may.paths;
  numbers = may.numbers;
  addresses = may.addresses;
  homes = λ k d short. let p = may.right_pairs k d short in record { number = p.number; scrape = λ home. (p.scrape_place, p.scrape_free); post = λ home. (p.post_place, p.post_free) };
  told = refl;
}

-- ---- a world of two files, two pairs and a door

abbrev wire_at : ℕ → Bool → MemoryState
wire_at number post = new_wire (record { number = number; post = post }) no_plan

abbrev collector : Address
collector = record { host = codes "c"; port = 4318; path = codes "/v1/metrics" }

abbrev served_at : Address
served_at = record { host = codes "h"; port = 9; path = codes "/" }

abbrev asked_of : ℕ → ConnState
asked_of reads = record {
  source = record { left = codes "GET / HTTP/1.1\n\n"; faults = 0; reads = reads; failing = [] };
  sink = record { held = []; room = 100; faults = 0; writes = 0; failing = [] };
}

abbrev two_files : List FileState
two_files = record { path = codes "a"; bytes = codes "one" } ∷ record { path = codes "ab"; bytes = [] } ∷ []

abbrev two_pairs : List PairState
two_pairs = given_pair 3 (wire_at 3 false) (wire_at 3 true) ∷ given_pair 256 (wire_at 256 false) (wire_at 256 true) ∷ []

abbrev one_door : List ListenState
one_door = record { at = served_at; door = new_memory_door (asked_of 0 ∷ asked_of 7 ∷ []) } ∷ []

abbrev world : MemoryWorldState
world = new_world two_files two_pairs one_door (2 ∷ [])

-- the file of a path, an empty file, and one that isn't there
file_is_there : file_of world.files (codes "a") ≡ Some (codes "one")
file_is_there = refl

file_is_empty : file_of world.files (codes "ab") ≡ Some []
file_is_empty = refl

file_is_missing : file_of world.files (codes "b") ≡ None
file_is_missing = refl

-- a pair that was given is at home and is shown
pair_is_home : pair_of world.pairs 3 ≡ Some (wire_at 3 false, wire_at 3 true)
pair_is_home = refl

pair_is_shown : shown_pair world.pairs 3 ≡ Some (wire_at 3 false, wire_at 3 true)
pair_is_shown = refl

last_is_shown : shown_pair world.pairs 256 ≡ Some (wire_at 256 false, wire_at 256 true)
last_is_shown = refl

-- a pair that was not given is at home without replies, and isn't shown
bare_is_home : pair_of world.pairs 1 ≡ Some (wire_at 1 false, wire_at 1 true)
bare_is_home = refl

bare_is_not_shown : shown_pair world.pairs 1 ≡ None
bare_is_not_shown = refl

-- the numbers 0 and 257 have none
zero_has_none : pair_of world.pairs 0 ≡ None
zero_has_none = refl

past_has_none : pair_of world.pairs 257 ≡ None
past_has_none = refl

-- a pair that is out is neither at home nor shown, and one that came back is shown with what it was handed out for
out_is_away : pair_of (pair_kept 1 None (Some (record { scrape = served_at; post = collector })) ∷ two_pairs) 1 ≡ None
out_is_away = refl

out_is_not_shown : shown_pair (pair_kept 1 None (Some (record { scrape = served_at; post = collector })) ∷ two_pairs) 1 ≡ None
out_is_not_shown = refl

back_is_shown : shown_pair (pair_kept 1 (Some (wire_at 1 false, wire_at 1 true)) (Some (record { scrape = served_at; post = collector })) ∷ two_pairs) 1 ≡ Some (wire_at 1 false, wire_at 1 true)
back_is_shown = refl

given_is_told : given_of (pair_kept 1 None (Some (record { scrape = served_at; post = collector })) ∷ two_pairs) 1 ≡ Some (record { scrape = served_at; post = collector })
given_is_told = refl

never_given : given_of world.pairs 3 ≡ None
never_given = refl

-- what is to come at a door, at none, and at one that was handed out
two_to_come : coming_of world.doors served_at ≡ Some (codes "GET / HTTP/1.1\n\n" ∷ codes "GET / HTTP/1.1\n\n" ∷ [])
two_to_come = refl

none_to_come : coming_of world.doors collector ≡ Some []
none_to_come = refl

none_left : coming_of (listen_kept served_at None ∷ []) served_at ≡ Some []
none_left = refl

-- the shelf is empty, and has pairs in the order in which they were handed in
empty_shelf : on_shelf world ≡ Some []
empty_shelf = refl

two_on_shelf : on_shelf (record world { world = record world.world { shelf = Some (put_on (wire_at 2 false) (wire_at 2 true) (put_on (wire_at 1 false) (wire_at 1 true) [])) } })
    ≡ Some (record { scrape = wire_at 1 false; post = wire_at 1 true } ∷ record { scrape = wire_at 2 false; post = wire_at 2 true } ∷ [])
two_on_shelf = refl

-- a pair in the places of another number may not be given
wrong_place : IsRightPair (given_pair 3 (wire_at 2 false) (wire_at 3 true)) → ⊥
wrong_place right = let same : ◌≡◌ {A = ℕ} 2 3 = ap (λ p. p.number) right.scrape_place in omega (arith, same)

wires_swapped : IsRightPair (given_pair 3 (wire_at 3 true) (wire_at 3 false)) → ⊥
wires_swapped right = let same : ◌≡◌ {A = Bool} true false = ap (λ p. p.post) right.scrape_place in cc same

number_too_large : IsRightPair (given_pair 257 (wire_at 257 false) (wire_at 257 true)) → ⊥
number_too_large right = omega (arith, right.number.1)

right_pair : IsRightPair (given_pair 256 (wire_at 256 false) (wire_at 256 true))
right_pair = record { number = (omega arith, omega arith); scrape_place = refl; post_place = refl; scrape_free = refl; post_free = refl; given = refl; at_home = refl }

-- a door of which one was handed out may not be given
used_door : IsRightListen (record { at = served_at; door = record (new_memory_door []) { handed = 1 } }) → ⊥
used_door right = let same : ◌≡◌ {A = ℕ} 1 0 = ap (λ d. d.handed) right.unused in omega (arith, same)
