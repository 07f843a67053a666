-- The pairs of a world in memory: what is found of a number, and what changes where wires are handed out and come back.
use Rattle.std.proofs.Common.{◌≡◌, ◌∙◌, ℕ, zero, suc, ◌<◌, ◌≤◌, Bool, true, false, cond, List, [], ◌∷◌, ◌++◌, map, length, take, drop, set, get_or, Option, Some, None, option_map, Bor, refl, sym, ap, subst, arith}
use Rattle.std.specs.Prelude.{find, All, IsSome, ◌≢◌, ◌==◌, ◌&&◌, nat_le, nat_lt, slice_get}
use Rattle.std.specs.Option.{option_or, option_copied}
use Rattle.std.specs.List.{position_or_len, remove}
use Rattle.std.proofs.lemmas.Bool.{eqb-true, leb-true, ltb-true, ltb-false}
use Rattle.std.proofs.lemmas.List.Folds.{find_at, find-set, find_past, find-append}
use Rattle.std.proofs.lemmas.List.Sums.{passes_at_first}
use Rattle.std.proofs.lemmas.List.Elements.{All-head, All-tail, All-set, All-push, All-take, All-drop, All-append, All-get_or}
use Rattle.std.proofs.lemmas.Option.{slice_get-get_or, slice_get_past}
use Rattle.bridge_ports.specs.declared.memory_world.Shelved.{Shelved}
use Rattle.bridge_ports.specs.declared.memory_world.MemoryPair.{MemoryPair}
use Rattle.memory_world.specs.declared.memory_pairs.KeptPair.{KeptPair}
use Rattle.bridge_ports.specs.Plans.{MemoryState, seen_of}
use Rattle.bridge_ports.proofs.Laws.{same_number}
use Rattle.bridge_ports.specs.Worlds.{Given, IsHome}
use Rattle.bridge_ports.specs.MemoryWorlds.{PairState, pair_of, given_of, given_of_found, or_bare, wires_of, bare_pair}
use Rattle.bridge_ports.specs.WorldMaking.{HasPlaces, shown_pair, found_wires, away}
use Rattle.memory_world.specs.WorldParts.{pair_seen, both_wires, addresses_kept, fresh_pair, handed_pair, pairs_state, IsHandedRight, IsFreshRight, HavePlaces, found_pair, handed_of, fresh_of, IsFirstOut}

-- ---- finding by a test

pub find_map : {A B : Type 0} (p : B → Bool) (f : A → B) (xs : List A) → find p (map f xs) ≡ option_map f (find (λ x. p (f x)) xs)
find_map p f [] = refl
find_map p f (x ∷ xs) =
    elim (p (f x)) as (λ t. cond t (Some (f x)) (find p (map f xs)) ≡ option_map f (cond t (Some x) (find (λ y. p (f y)) xs))) [
      | true ↦ refl
      | false ↦ find_map p f xs
    ]

-- past the end there is none
pub find_none : {A : Type 0} (p : A → Bool) (xs : List A) (place : ℕ) → place ≡ position_or_len p xs → length xs ≤ place → find p xs ≡ None
find_none p xs place is long = find_at p xs ∙ slice_get_past xs (position_or_len p xs) (omega (arith, is, long))

-- at the first place there is this one
pub find_here : {A : Type 0} (p : A → Bool) (xs : List A) (place : ℕ) (d : A) → place ≡ position_or_len p xs → place < length xs → find p xs ≡ Some (get_or xs place d)
find_here p xs place d is inside = find_at p xs ∙ ap (λ (n : ℕ). slice_get xs n) (sym is) ∙ slice_get-get_or xs place d inside

-- there it passes
pub passes_here : {A : Type 0} (p : A → Bool) (xs : List A) (place : ℕ) (d : A) → place ≡ position_or_len p xs → place < length xs → p (get_or xs place d) ≡ true
passes_here p xs place d is inside = subst (λ n. p (get_or xs n d) ≡ true) (sym is) (passes_at_first p xs d (omega (arith, is, inside)))

-- what is taken out and does not pass is not missed
pub find_removed : {A : Type 0} (p : A → Bool) (xs : List A) (place : ℕ) (d : A) → p (get_or xs place d) ≡ false → find p (remove xs place) ≡ find p xs
find_removed p [] zero d fails = refl
find_removed p [] (suc place) d fails = refl
find_removed p (x ∷ xs) zero d fails = sym (ap (λ t. cond t (Some x) (find p xs)) fails)
find_removed p (x ∷ xs) (suc place) d fails = ap (λ o. cond (p x) (Some x) o) (find_removed p xs place d fails)

-- what is found passes, and is as all are
pub found_passes : {A : Type 0} (p : A → Bool) (P : A → Type 0) (xs : List A) (x : A) → All P xs → find p xs ≡ Some x → (p x ≡ true) × P x
found_passes p P [] x all e = absurd (cc e)
found_passes p P (y ∷ ys) x all e = by_test (p y) refl e (found_passes p P ys x (All-tail P y ys all))
  where
    by_test : (t : Bool) → p y ≡ t → cond t (Some y) (find p ys) ≡ Some x → (find p ys ≡ Some x → (p x ≡ true) × P x) → (p x ≡ true) × P x
    by_test true is found later = let same : y ≡ x = cc found in subst (λ z. (p z ≡ true) × P z) same (is, All-head P y ys all)
    by_test false is found later = later found

or_none : {A : Type 0} (o : Option A) → option_or o None ≡ o
or_none None = refl
or_none (Some x) = refl

other_number : (a n m : ℕ) → a ≡ n → m ≢ n → (a == m) ≡ false
other_number a n m is other = by_test (a == m) refl
  where
    by_test : (t : Bool) → (a == m) ≡ t → t ≡ false
    by_test true e = absurd (other (sym (eqb-true a m e) ∙ is))
    by_test false e = refl

-- ---- what is found of a number

pub found_in : (kept : List KeptPair) (fresh : List MemoryPair) (n : ℕ) → found_pair (pairs_state kept fresh) n ≡ option_or (option_map handed_pair (handed_of kept n)) (option_map fresh_pair (fresh_of fresh n))
found_in kept fresh n =
    let kept_is : find (λ (p : PairState). p.number == n) (map handed_pair kept) ≡ option_map handed_pair (handed_of kept n) = find_map (λ (p : PairState). p.number == n) handed_pair kept in
    let fresh_is : find (λ (p : PairState). p.number == n) (map fresh_pair fresh) ≡ option_map fresh_pair (fresh_of fresh n) = find_map (λ (p : PairState). p.number == n) fresh_pair fresh in
    find-append (λ (p : PairState). p.number == n) (map handed_pair kept) (map fresh_pair fresh)
    ∙ ap (λ (o : Option PairState). option_or o (find (λ (p : PairState). p.number == n) (map fresh_pair fresh))) kept_is
    ∙ ap (λ (o : Option PairState). option_or (option_map handed_pair (handed_of kept n)) o) fresh_is

-- where the same is found among both, the same is found
pub same_found : (kept now : List KeptPair) (fresh left : List MemoryPair) (n : ℕ) → handed_of now n ≡ handed_of kept n → fresh_of left n ≡ fresh_of fresh n
    → found_pair (pairs_state now left) n ≡ found_pair (pairs_state kept fresh) n
same_found kept now fresh left n x y =
    found_in now left n
    ∙ ap (λ (o : Option KeptPair). option_or (option_map handed_pair o) (option_map fresh_pair (fresh_of left n))) x
    ∙ ap (λ (o : Option MemoryPair). option_or (option_map handed_pair (handed_of kept n)) (option_map fresh_pair o)) y
    ∙ sym (found_in kept fresh n)

-- where one was handed out, it is found
pub found_handed : (kept : List KeptPair) (fresh : List MemoryPair) (n : ℕ) (k : KeptPair) → handed_of kept n ≡ Some k → found_pair (pairs_state kept fresh) n ≡ Some (handed_pair k)
found_handed kept fresh n k is = found_in kept fresh n ∙ ap (λ (o : Option KeptPair). option_or (option_map handed_pair o) (option_map fresh_pair (fresh_of fresh n))) is

-- where none was handed out, one that was given is found
pub found_given : (kept : List KeptPair) (fresh : List MemoryPair) (n : ℕ) → handed_of kept n ≡ None → found_pair (pairs_state kept fresh) n ≡ option_map fresh_pair (fresh_of fresh n)
found_given kept fresh n is = found_in kept fresh n ∙ ap (λ (o : Option KeptPair). option_or (option_map handed_pair o) (option_map fresh_pair (fresh_of fresh n))) is

-- ---- a pair that was handed out before

-- its wires are at home just where they are kept
pub wires_of_handed : (k : KeptPair) (wires : Option Shelved) → k.wires ≡ wires → wires_of (handed_pair k) ≡ option_map both_wires wires
wires_of_handed k None is = ap (λ (o : Option Shelved). wires_of (pair_seen k.number (option_map both_wires o) (addresses_kept k.scrape k.post))) is
wires_of_handed k (Some w) is = ap (λ (o : Option Shelved). wires_of (pair_seen k.number (option_map both_wires o) (addresses_kept k.scrape k.post))) is

some_mapped : {A B : Type 0} (f : A → B) (o : Option A) → IsSome (option_map f o) → IsSome o
some_mapped f None told = absurd (cc told)
some_mapped f (Some x) told = cc

pub pair_again : (kept : List KeptPair) (fresh : List MemoryPair) (n place : ℕ) (d : KeptPair) → place ≡ position_or_len (λ (k : KeptPair). k.number == n) kept → place < length kept
    → pair_of (pairs_state kept fresh) n ≡ option_map both_wires (get_or kept place d).wires
pair_again kept fresh n place d is inside =
    ap (or_bare n) (found_handed kept fresh n (get_or kept place d) (find_here (λ (k : KeptPair). k.number == n) kept place d is inside))
    ∙ wires_of_handed (get_or kept place d) (get_or kept place d).wires refl

pub home_again : (kept : List KeptPair) (fresh : List MemoryPair) (n place : ℕ) (d : KeptPair) → place ≡ position_or_len (λ (k : KeptPair). k.number == n) kept → place < length kept
    → IsSome (pair_of (pairs_state kept fresh) n) → IsSome (get_or kept place d).wires
home_again kept fresh n place d is inside told = some_mapped both_wires (get_or kept place d).wires (subst IsSome (pair_again kept fresh n place d is inside) told)

-- the pair that stands at its place now is found
pub found_set : (kept : List KeptPair) (fresh : List MemoryPair) (n place : ℕ) (pair : KeptPair) → place ≡ position_or_len (λ (k : KeptPair). k.number == n) kept → place < length kept → pair.number ≡ n
    → found_pair (pairs_state (set kept place pair) fresh) n ≡ Some (handed_pair pair)
found_set kept fresh n place pair is inside number =
    found_handed (set kept place pair) fresh n pair
    (find-set (λ (k : KeptPair). k.number == n) kept place pair is inside (subst (λ m. (m == n) ≡ true) (sym number) (same_number n)))

-- all else is found as before
pub others_set : (kept : List KeptPair) (fresh : List MemoryPair) (n place : ℕ) (pair : KeptPair) → place ≡ position_or_len (λ (k : KeptPair). k.number == n) kept → place < length kept → pair.number ≡ n
    → (m : ℕ) → m ≢ n → found_pair (pairs_state (set kept place pair) fresh) m ≡ found_pair (pairs_state kept fresh) m
others_set kept fresh n place pair is inside number m other =
    let was : (get_or kept place pair).number ≡ n = eqb-true _ _ (passes_here (λ (k : KeptPair). k.number == n) kept place pair is inside) in
    same_found kept (set kept place pair) fresh fresh m
    (find_past (λ (k : KeptPair). k.number == m) kept place pair pair (other_number (get_or kept place pair).number n m was other) (other_number pair.number n m number other)) refl

-- ---- a pair that is handed out first

pub found_push : (kept : List KeptPair) (fresh : List MemoryPair) (n : ℕ) (pair : KeptPair) → handed_of kept n ≡ None → pair.number ≡ n
    → found_pair (pairs_state (kept ++ pair ∷ []) fresh) n ≡ Some (handed_pair pair)
found_push kept fresh n pair none number =
    found_handed (kept ++ pair ∷ []) fresh n pair
    (find-append (λ (k : KeptPair). k.number == n) kept (pair ∷ [])
    ∙ ap (λ (o : Option KeptPair). option_or o (handed_of (pair ∷ []) n)) none
    ∙ ap (λ t. cond t (Some pair) None) (subst (λ m. (m == n) ≡ true) (sym number) (same_number n)))

pub others_push : (kept : List KeptPair) (fresh left : List MemoryPair) (n : ℕ) (pair : KeptPair) → pair.number ≡ n → ((m : ℕ) → m ≢ n → fresh_of left m ≡ fresh_of fresh m)
    → (m : ℕ) → m ≢ n → found_pair (pairs_state (kept ++ pair ∷ []) left) m ≡ found_pair (pairs_state kept fresh) m
others_push kept fresh left n pair number others m other =
    same_found kept (kept ++ pair ∷ []) fresh left m
    (find-append (λ (k : KeptPair). k.number == m) kept (pair ∷ [])
    ∙ ap (λ t. option_or (handed_of kept m) (cond t (Some pair) None)) (other_number pair.number n m number other)
    ∙ or_none (handed_of kept m))
    (others m other)

-- its wires are those that were given, or bare ones
pub pair_first : (kept : List KeptPair) (fresh : List MemoryPair) (n : ℕ) → handed_of kept n ≡ None → pair_of (pairs_state kept fresh) n ≡ or_bare n (option_map fresh_pair (fresh_of fresh n))
pair_first kept fresh n none = ap (or_bare n) (found_given kept fresh n none)

-- ---- places

all_places : (kept : List KeptPair) (fresh : List MemoryPair) (n : ℕ) (p : PairState) → HavePlaces kept fresh → found_pair (pairs_state kept fresh) n ≡ Some p → (p.number ≡ n) × HasPlaces p
all_places kept fresh n p right found = by_handed (handed_of kept n) refl (fresh_of fresh n) refl
  where
    by_handed : (k : Option KeptPair) → handed_of kept n ≡ k → (q : Option MemoryPair) → fresh_of fresh n ≡ q → (p.number ≡ n) × HasPlaces p
    by_handed (Some k) is q as_is =
        let x = found_passes (λ (j : KeptPair). j.number == n) IsHandedRight kept k right.handed is in
        let same : handed_pair k ≡ p = cc (found_handed kept fresh n k is, found) in
        subst (λ (r : PairState). (r.number ≡ n) × HasPlaces r) same (eqb-true _ _ x.0, x.1)
    by_handed None is (Some q) as_is =
        let x = found_passes (λ (j : MemoryPair). j.number == n) IsFreshRight fresh q right.given as_is in
        let same : fresh_pair q ≡ p = cc (found_given kept fresh n is, ap (option_map fresh_pair) as_is, found) in
        subst (λ (r : PairState). (r.number ≡ n) × HasPlaces r) same (eqb-true _ _ x.0, x.1)
    by_handed None is None as_is = absurd (cc (found_given kept fresh n is, ap (option_map fresh_pair) as_is, found))

places_of_wires : (n : ℕ) (p : PairState) (wires : MemoryState × MemoryState) → p.number ≡ n → HasPlaces p → wires_of p ≡ Some wires → IsHome n false (seen_of wires.0) × IsHome n true (seen_of wires.1)
places_of_wires n p wires number right home = by_home p.at_home refl home
  where
    by_home : (t : Bool) → p.at_home ≡ t → cond t (Some (p.scrape, p.post)) None ≡ Some wires → IsHome n false (seen_of wires.0) × IsHome n true (seen_of wires.1)
    by_home true is home =
        let s = right.scrape is in
        let t = right.post is in
        let same : ◌≡◌ {A = MemoryState × MemoryState} (p.scrape, p.post) wires = cc home in
        subst (λ (w : MemoryState × MemoryState). IsHome n false (seen_of w.0) × IsHome n true (seen_of w.1)) same (
          record { free = s.1; place = subst (λ m. p.scrape.place ≡ record { number = m; post = false }) number s.0 },
          record { free = t.1; place = subst (λ m. p.post.place ≡ record { number = m; post = true }) number t.0 },
        )
    by_home false is home = absurd (cc home)

places_of_bare : (n : ℕ) (wires : MemoryState × MemoryState) → bare_pair n ≡ Some wires → IsHome n false (seen_of wires.0) × IsHome n true (seen_of wires.1)
places_of_bare n wires home = by_test _ home
  where
    by_test : (t : Bool) → cond t (Some (away n false, away n true)) None ≡ Some wires → IsHome n false (seen_of wires.0) × IsHome n true (seen_of wires.1)
    by_test true home =
        let same : ◌≡◌ {A = MemoryState × MemoryState} (away n false, away n true) wires = cc home in
        subst (λ (w : MemoryState × MemoryState). IsHome n false (seen_of w.0) × IsHome n true (seen_of w.1)) same
        (record { free = refl; place = refl }, record { free = refl; place = refl })
    by_test false home = absurd (cc home)

-- the wires of a number that are at home have its places
pub places_of_pair : (kept : List KeptPair) (fresh : List MemoryPair) (n : ℕ) (wires : MemoryState × MemoryState) → HavePlaces kept fresh → pair_of (pairs_state kept fresh) n ≡ Some wires
    → IsHome n false (seen_of wires.0) × IsHome n true (seen_of wires.1)
places_of_pair kept fresh n wires right home = by_found (found_pair (pairs_state kept fresh) n) refl home
  where
    by_found : (p : Option PairState) → found_pair (pairs_state kept fresh) n ≡ p → or_bare n p ≡ Some wires → IsHome n false (seen_of wires.0) × IsHome n true (seen_of wires.1)
    by_found (Some p) is home = let x = all_places kept fresh n p right is in places_of_wires n p wires x.0 x.1 home
    by_found None is home = places_of_bare n wires home

-- ---- what a pair that is handed out or comes back leaves

-- a pair that is away has its places
away_right : (n : ℕ) (given : Option Given) → (1 ≤ n) × (n ≤ 256) → HasPlaces (pair_seen n None given)
away_right n given number = record { number = number; scrape = λ home. absurd (cc home); post = λ home. absurd (cc home) }

-- the number of wires that are at home is one of a target
number_of_pair : (kept : List KeptPair) (fresh : List MemoryPair) (n : ℕ) → HavePlaces kept fresh → IsSome (pair_of (pairs_state kept fresh) n) → (1 ≤ n) × (n ≤ 256)
number_of_pair kept fresh n right told = by_found (found_pair (pairs_state kept fresh) n) refl told
  where
    bare : (a b : Bool) → nat_le 1 n ≡ a → nat_le n 256 ≡ b → IsSome {T = MemoryState × MemoryState} (cond (a && b) (Some (away n false, away n true)) None) → (1 ≤ n) × (n ≤ 256)
    bare true true low high told = (leb-true 1 n low, leb-true n 256 high)
    bare true false low high told = absurd (cc told)
    bare false b low high told = absurd (cc told)

    by_found : (p : Option PairState) → found_pair (pairs_state kept fresh) n ≡ p → IsSome (or_bare n p) → (1 ≤ n) × (n ≤ 256)
    by_found (Some p) is told = let x = all_places kept fresh n p right is in subst (λ m. (1 ≤ m) × (m ≤ 256)) x.0 x.1.number
    by_found None is told = bare (nat_le 1 n) (nat_le n 256) refl refl told

-- a pair that stands at its place and is away keeps the places
pub away_kept : (kept : List KeptPair) (fresh : List MemoryPair) (n place : ℕ) (pair : KeptPair) → HavePlaces kept fresh → IsSome (pair_of (pairs_state kept fresh) n) → pair.number ≡ n → pair.wires ≡ None
    → HavePlaces (set kept place pair) fresh
away_kept kept fresh n place pair right told number none = record {
  handed = All-set IsHandedRight kept place pair (away_pair kept fresh n pair right told number none) right.handed;
  given = right.given;
}
  where
    away_pair : (kept : List KeptPair) (fresh : List MemoryPair) (n : ℕ) (pair : KeptPair) → HavePlaces kept fresh → IsSome (pair_of (pairs_state kept fresh) n) → pair.number ≡ n → pair.wires ≡ None → IsHandedRight pair
    away_pair kept fresh n pair right told number none =
        subst (λ (o : Option Shelved). HasPlaces (pair_seen pair.number (option_map both_wires o) (addresses_kept pair.scrape pair.post))) (sym none)
        (subst (λ m. HasPlaces (pair_seen m None (addresses_kept pair.scrape pair.post))) (sym number) (away_right n (addresses_kept pair.scrape pair.post) (number_of_pair kept fresh n right told)))

-- so does one that is kept first
pub away_pushed : (kept : List KeptPair) (fresh left : List MemoryPair) (n : ℕ) (pair : KeptPair) → HavePlaces kept fresh → IsSome (pair_of (pairs_state kept fresh) n) → pair.number ≡ n → pair.wires ≡ None
    → (All IsFreshRight fresh → All IsFreshRight left) → HavePlaces (kept ++ pair ∷ []) left
away_pushed kept fresh left n pair right told number none places = record {
  handed = All-push IsHandedRight kept pair right.handed
      (subst (λ (o : Option Shelved). HasPlaces (pair_seen pair.number (option_map both_wires o) (addresses_kept pair.scrape pair.post))) (sym none)
      (subst (λ m. HasPlaces (pair_seen m None (addresses_kept pair.scrape pair.post))) (sym number) (away_right n (addresses_kept pair.scrape pair.post) (number_of_pair kept fresh n right told))));
  given = places right.given;
}

-- a pair that was handed out is kept, so it is at its place
pub given_is_kept : (kept : List KeptPair) (fresh : List MemoryPair) (n place : ℕ) → place ≡ position_or_len (λ (k : KeptPair). k.number == n) kept → IsSome (given_of (pairs_state kept fresh) n) → place < length kept
given_is_kept kept fresh n place is told = by_order (nat_lt place (length kept)) refl
  where
    no_given : (q : Option MemoryPair) → IsSome (given_of_found (option_map fresh_pair q)) → place < length kept
    no_given None told = absurd (cc told)
    no_given (Some q) told = absurd (cc told)

    by_order : (t : Bool) → nat_lt place (length kept) ≡ t → place < length kept
    by_order true e = ltb-true place (length kept) e
    by_order false e =
        let none = find_none (λ (k : KeptPair). k.number == n) kept place is (ltb-false place (length kept) e) in
        no_given (fresh_of fresh n) (subst (λ (o : Option PairState). IsSome (given_of_found o)) (found_given kept fresh n none) told)

-- the pair of which the wires came back
abbrev pub back_at_home : KeptPair → Shelved → KeptPair
back_at_home k wires = record { number = k.number; wires = Some wires; scrape = k.scrape; post = k.post }

pub back_kept : (kept : List KeptPair) (fresh : List MemoryPair) (n place : ℕ) (d : KeptPair) (wires : Shelved) → HavePlaces kept fresh → place ≡ position_or_len (λ (k : KeptPair). k.number == n) kept → place < length kept
    → IsHome n false (seen_of wires.scrape) → IsHome n true (seen_of wires.post) → HavePlaces (set kept place (back_at_home (get_or kept place d) wires)) fresh
back_kept kept fresh n place d wires right is inside scrape post =
    let x = get_or kept place d in
    let number : x.number ≡ n = eqb-true _ _ (passes_here (λ (k : KeptPair). k.number == n) kept place d is inside) in
    let old : HasPlaces (handed_pair x) = All-get_or IsHandedRight kept place d inside right.handed in
    let now : IsHandedRight (back_at_home x wires) = record {
      number = old.number;
      scrape = λ home. (subst (λ m. wires.scrape.place ≡ record { number = m; post = false }) (sym number) scrape.place, scrape.free);
      post = λ home. (subst (λ m. wires.post.place ≡ record { number = m; post = true }) (sym number) post.place, post.free);
    } in
    record { handed = All-set IsHandedRight kept place (back_at_home x wires) now right.handed; given = right.given }

pub back_found : (kept : List KeptPair) (fresh : List MemoryPair) (n place : ℕ) (d : KeptPair) (wires : Shelved) → place ≡ position_or_len (λ (k : KeptPair). k.number == n) kept → place < length kept
    → found_pair (pairs_state (set kept place (back_at_home (get_or kept place d) wires)) fresh) n ≡ Some (pair_seen n (Some (both_wires wires)) (given_of (pairs_state kept fresh) n))
back_found kept fresh n place d wires is inside =
    let x = get_or kept place d in
    let number : x.number ≡ n = eqb-true _ _ (passes_here (λ (k : KeptPair). k.number == n) kept place d is inside) in
    let given : given_of (pairs_state kept fresh) n ≡ addresses_kept x.scrape x.post = ap given_of_found (found_handed kept fresh n x (find_here (λ (k : KeptPair). k.number == n) kept place d is inside)) in
    found_set kept fresh n place (back_at_home x wires) is inside number
    ∙ ap (λ m. Some (pair_seen m (Some (both_wires wires)) (addresses_kept x.scrape x.post))) number
    ∙ ap (λ (g : Option Given). Some (pair_seen n (Some (both_wires wires)) g)) (sym given)

-- ---- what is shown

pub shown_kept : (kept : List KeptPair) (fresh : List MemoryPair) (n place : ℕ) (d : KeptPair) → place ≡ position_or_len (λ (k : KeptPair). k.number == n) kept → place < length kept
    → shown_pair (pairs_state kept fresh) n ≡ option_map both_wires (get_or kept place d).wires
shown_kept kept fresh n place d is inside =
    ap found_wires (found_handed kept fresh n (get_or kept place d) (find_here (λ (k : KeptPair). k.number == n) kept place d is inside))
    ∙ wires_of_handed (get_or kept place d) (get_or kept place d).wires refl

pub shown_fresh : (kept : List KeptPair) (fresh : List MemoryPair) (n first place : ℕ) (d : MemoryPair) → first ≡ position_or_len (λ (k : KeptPair). k.number == n) kept → length kept ≤ first
    → place ≡ position_or_len (λ (p : MemoryPair). p.number == n) fresh → place < length fresh → shown_pair (pairs_state kept fresh) n ≡ Some (both_wires (get_or fresh place d).wires)
shown_fresh kept fresh n first place d none long is inside =
    ap found_wires (found_given kept fresh n (find_none (λ (k : KeptPair). k.number == n) kept first none long)
    ∙ ap (option_map fresh_pair) (find_here (λ (p : MemoryPair). p.number == n) fresh place d is inside))

pub shown_none : (kept : List KeptPair) (fresh : List MemoryPair) (n first place : ℕ) → first ≡ position_or_len (λ (k : KeptPair). k.number == n) kept → length kept ≤ first
    → place ≡ position_or_len (λ (p : MemoryPair). p.number == n) fresh → length fresh ≤ place → shown_pair (pairs_state kept fresh) n ≡ None
shown_none kept fresh n first place none long is past =
    ap found_wires (found_given kept fresh n (find_none (λ (k : KeptPair). k.number == n) kept first none long)
    ∙ ap (option_map fresh_pair) (find_none (λ (p : MemoryPair). p.number == n) fresh place is past))

-- ---- the wires that are handed out first

pub first_given : (fresh : List MemoryPair) (n place : ℕ) (d : MemoryPair) → place ≡ position_or_len (λ (p : MemoryPair). p.number == n) fresh → place < length fresh
    → IsFirstOut n fresh (remove fresh place) (get_or fresh place d).wires
first_given fresh n place d is inside =
    let number : (get_or fresh place d).number ≡ n = eqb-true _ _ (passes_here (λ (p : MemoryPair). p.number == n) fresh place d is inside) in
    record {
      pair = ap (λ (o : Option MemoryPair). or_bare n (option_map fresh_pair o)) (find_here (λ (p : MemoryPair). p.number == n) fresh place d is inside);
      others = λ m other. find_removed (λ (p : MemoryPair). p.number == m) fresh place d (other_number (get_or fresh place d).number n m number other);
      places = λ all. All-append IsFreshRight (take place fresh) (drop (suc place) fresh) (All-take IsFreshRight place fresh all) (All-drop IsFreshRight (suc place) fresh all);
    }

bare_some : (n : ℕ) → IsSome (bare_pair n) → bare_pair n ≡ Some (away n false, away n true)
bare_some n told = by_test (nat_le 1 n && nat_le n 256) told
  where
    by_test : (t : Bool) → IsSome {T = MemoryState × MemoryState} (cond t (Some (away n false, away n true)) None)
        → ◌≡◌ {A = Option (MemoryState × MemoryState)} (cond t (Some (away n false, away n true)) None) (Some (away n false, away n true))
    by_test true told = refl
    by_test false told = absurd (cc told)

pub first_bare : (fresh : List MemoryPair) (n place : ℕ) (wires : Shelved) → place ≡ position_or_len (λ (p : MemoryPair). p.number == n) fresh → length fresh ≤ place
    → IsSome (or_bare n (option_map fresh_pair (fresh_of fresh n))) → wires.scrape ≡ away n false → wires.post ≡ away n true → IsFirstOut n fresh fresh wires
first_bare fresh n place wires is long told scrape post =
    let none : or_bare n (option_map fresh_pair (fresh_of fresh n)) ≡ bare_pair n = ap (λ (o : Option MemoryPair). or_bare n (option_map fresh_pair o)) (find_none (λ (p : MemoryPair). p.number == n) fresh place is long) in
    let same : ◌≡◌ {A = Option (MemoryState × MemoryState)} (Some (away n false, away n true)) (Some (both_wires wires)) = λ i. Some (sym scrape i, sym post i) in
    record {
      pair = none ∙ bare_some n (subst IsSome none told) ∙ same;
      others = λ m other. refl;
      places = λ all. all;
    }

-- ---- what the calls on pairs give, by what they read

copied_wires : (r : Option (Bor Shelved)) → option_map (λ (w : Bor Shelved). both_wires w.now) r ≡ option_map both_wires (option_copied r)
copied_wires None = refl
copied_wires (Some w) = refl

pub home_kept : (kept : List KeptPair) (fresh : List MemoryPair) (n place : ℕ) (k : KeptPair) (r : Option (Bor Shelved)) → place ≡ position_or_len (λ (k : KeptPair). k.number == n) kept → place < length kept
    → k ≡ get_or kept place k → option_copied r ≡ k.wires → option_map (λ (w : Bor Shelved). both_wires w.now) r ≡ shown_pair (pairs_state kept fresh) n
home_kept kept fresh n place k r is inside read copied =
    copied_wires r
    ∙ ap (option_map both_wires) (copied ∙ ap (λ (x : KeptPair). x.wires) read)
    ∙ sym (shown_kept kept fresh n place k is inside)

pub back_kept_at : (kept : List KeptPair) (fresh : List MemoryPair) (n place : ℕ) (k : KeptPair) (wires : Shelved) → HavePlaces kept fresh → place ≡ position_or_len (λ (k : KeptPair). k.number == n) kept
    → IsSome (given_of (pairs_state kept fresh) n) → k ≡ get_or kept place k → IsHome n false (seen_of wires.scrape) → IsHome n true (seen_of wires.post) → HavePlaces (set kept place (back_at_home k wires)) fresh
back_kept_at kept fresh n place k wires right is told read scrape post =
    subst (λ (x : KeptPair). HavePlaces (set kept place (back_at_home x wires)) fresh) (sym read)
    (back_kept kept fresh n place k wires right is (given_is_kept kept fresh n place is told) scrape post)

pub back_found_at : (kept : List KeptPair) (fresh : List MemoryPair) (n place : ℕ) (k : KeptPair) (wires : Shelved) → place ≡ position_or_len (λ (k : KeptPair). k.number == n) kept
    → IsSome (given_of (pairs_state kept fresh) n) → k ≡ get_or kept place k
    → found_pair (pairs_state (set kept place (back_at_home k wires)) fresh) n ≡ Some (pair_seen n (Some (both_wires wires)) (given_of (pairs_state kept fresh) n))
back_found_at kept fresh n place k wires is told read =
    subst (λ (x : KeptPair). found_pair (pairs_state (set kept place (back_at_home x wires)) fresh) n ≡ Some (pair_seen n (Some (both_wires wires)) (given_of (pairs_state kept fresh) n))) (sym read)
    (back_found kept fresh n place k wires is (given_is_kept kept fresh n place is told))

pub back_others_at : (kept : List KeptPair) (fresh : List MemoryPair) (n place : ℕ) (k : KeptPair) (wires : Shelved) → place ≡ position_or_len (λ (k : KeptPair). k.number == n) kept
    → IsSome (given_of (pairs_state kept fresh) n) → k ≡ get_or kept place k
    → (m : ℕ) → m ≢ n → found_pair (pairs_state (set kept place (back_at_home k wires)) fresh) m ≡ found_pair (pairs_state kept fresh) m
back_others_at kept fresh n place k wires is told read m other =
    let inside = given_is_kept kept fresh n place is told in
    let number : k.number ≡ n = ap (λ (x : KeptPair). x.number) read ∙ eqb-true _ _ (passes_here (λ (j : KeptPair). j.number == n) kept place k is inside) in
    others_set kept fresh n place (back_at_home k wires) is inside number m other
