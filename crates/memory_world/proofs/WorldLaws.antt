-- A world in memory: what its calls owe to the definitions of worlds.
use Rattle.std.proofs.Common.{◌≡◌, ℕ, Bool, true, false, List, [], ◌∷◌, map, Option, Some, None, option_map, refl, sym, ap, subst}
use Rattle.std.specs.Prelude.{All, IsSome, ◌≢◌, ◌==◌}
use Rattle.std.proofs.lemmas.Bool.{eqb-true, eqb-false}
use Rattle.std.proofs.lemmas.List.Elements.{All-nil, All-cons, All-head, All-tail}
use Rattle.bridge_ports.specs.declared.memory_world.MemoryPair.{MemoryPair}
use Rattle.bridge_ports.specs.declared.memory_world.MemoryListen.{MemoryListen}
use Rattle.bridge_ports.specs.Plans.{MemoryState, seen_of}
use Rattle.bridge_ports.specs.Worlds.{Given, KeepsOthers}
use Rattle.bridge_ports.specs.Outside.{SeenPair, seen_pair, at_number}
use Rattle.bridge_ports.specs.MemoryWorlds.{PairState, pair_of, or_bare, given_of, given_of_found}
use Rattle.bridge_ports.proofs.Laws.{is_at_number}
use Rattle.bridge_ports.specs.WorldMaking.{IsRightPair, IsRightListen}
use Rattle.memory_world.specs.WorldParts.{pair_seen, found_pair, seen_home, fresh_pair, IsFreshRight, listen_given, IsListenRight}

-- the addresses of each number are the same once a pair is back
pub given_back : (old new : List PairState) (n : ℕ) (wires : MemoryState × MemoryState) → found_pair new n ≡ Some (pair_seen n (Some wires) (given_of old n))
    → ((m : ℕ) → m ≢ n → found_pair new m ≡ found_pair old m) → (m : ℕ) → given_of new m ≡ given_of old m
given_back old new n wires found others m = by_test (m == n) refl
  where
    by_test : (t : Bool) → (m == n) ≡ t → given_of new m ≡ given_of old m
    by_test true e =
        let here : given_of new n ≡ given_of old n = ap given_of_found found in
        subst (λ k. given_of new k ≡ given_of old k) (sym (eqb-true m n e)) here
    by_test false e = ap given_of_found (others m (eqb-false m n e))

-- the wires of a number are gone once its pair was handed out, and all others are as they were
pub home_out : (old new : List PairState) (n : ℕ) (given : Option Given) → found_pair new n ≡ Some (pair_seen n None given) → KeepsOthers n (found_pair old) (found_pair new)
    → seen_home new ≡ at_number {A = Option SeenPair} n None (seen_home old)
home_out old new n given found others =
    is_at_number n None (seen_home old) (seen_home new) (ap (λ (p : Option PairState). option_map (seen_pair seen_of) (or_bare n p)) found) (λ m other. ap (λ (p : Option PairState). option_map (seen_pair seen_of) (or_bare m p)) (others m other))

-- and its addresses are those with which it was
pub given_out : (old new : List PairState) (n : ℕ) (given : Given) → found_pair new n ≡ Some (pair_seen n None (Some given)) → KeepsOthers n (found_pair old) (found_pair new)
    → given_of new ≡ at_number {A = Option Given} n (Some given) (given_of old)
given_out old new n given found others = is_at_number n (Some given) (given_of old) (given_of new) (ap given_of_found found) (λ m other. ap given_of_found (others m other))

-- the wires of a number are at home once they came back, and all others are as they were
pub home_back : (old new : List PairState) (n : ℕ) (wires : MemoryState × MemoryState) (given : Option Given) → found_pair new n ≡ Some (pair_seen n (Some wires) given) → KeepsOthers n (found_pair old) (found_pair new)
    → seen_home new ≡ at_number {A = Option SeenPair} n (Some (seen_of wires.0, seen_of wires.1)) (seen_home old)
home_back old new n wires given found others =
    is_at_number n (Some (seen_of wires.0, seen_of wires.1)) (seen_home old) (seen_home new) (ap (λ (p : Option PairState). option_map (seen_pair seen_of) (or_bare n p)) found)
    (λ m other. ap (λ (p : Option PairState). option_map (seen_pair seen_of) (or_bare m p)) (others m other))

-- a pair that is at home is seen there
pub some_seen : (pairs : List PairState) (n : ℕ) → IsSome (seen_home pairs n) → IsSome (pair_of pairs n)
some_seen pairs n told = by_pair (pair_of pairs n) told
  where
    by_pair : (p : Option (MemoryState × MemoryState)) → IsSome (option_map (seen_pair seen_of) p) → IsSome p
    by_pair None told = absurd (cc told)
    by_pair (Some p) told = refl

all_unmapped : {A B : Type 0} (P : B → Type 0) (f : A → B) (xs : List A) → All P (map f xs) → All (λ x. P (f x)) xs
all_unmapped P f [] all = All-nil (λ x. P (f x))
all_unmapped P f (x ∷ xs) all = All-cons (λ y. P (f y)) x xs (All-head P (f x) (map f xs) all) (all_unmapped P f xs (All-tail P (f x) (map f xs) all))

-- pairs that may be given have their places
pub fresh_right : (pairs : List MemoryPair) → All IsRightPair (map fresh_pair pairs) → All IsFreshRight pairs
fresh_right pairs all = λ k d short.
    let p = all_unmapped IsRightPair fresh_pair pairs all k d short in
    record { number = p.number; scrape = λ home. (p.scrape_place, p.scrape_free); post = λ home. (p.post_place, p.post_free) }

pub listens_right : (doors : List MemoryListen) → All IsRightListen (map listen_given doors) → All IsListenRight doors
listens_right doors all = all_unmapped IsRightListen listen_given doors all
