-- The tracks of a script's targets: how they are made, and what their visits come to.
use Rattle.std.proofs.Common.{◌≡◌, ℕ, zero, suc, ◌+◌, ◌<◌, ◌≤◌, Bool, true, false, List, [], ◌∷◌, ◌++◌, length, map, take, get_or, below_more, All, Some, refl, sym, ap, subst, ◌∙◌, arith, append_assoc, reverse}
use Rattle.std.specs.List.{AllZip, AllByRecursion, slice_get}
use Rattle.std.specs.Prelude.{EachIndex, Option}
use Rattle.std.proofs.lemmas.Grind.{get_or_default_zero}
use Rattle.std.proofs.lemmas.List.{map-append, length-map, reverse-append, take_more, length-take-le}
use Rattle.std.proofs.lemmas.List.Elements.{All-append}
use Rattle.replay_script.specs.declared.header.Header.{Header}
use Rattle.replay_script.specs.declared.script.ScriptTarget.{ScriptTarget}
use Rattle.replay_script.specs.declared.script.Script.{Script}
use Rattle.series_table.specs.HttpTalks.{talking}
use Rattle.series_table.specs.Talking.{Followed}
use Rattle.series_table.specs.Records.{Kept}
use Rattle.run_report.specs.declared.target_end.TargetEnd.{TargetEnd}
use Rattle.run_report.specs.Ends.{track_end}
use Rattle.bridge_ports.specs.declared.memory_world.Shelved.{Shelved}
use Rattle.series_table.specs.Tracks.{HasAllVisits, IsTrackAt, AreTracks, AreUnvisited}
use Rattle.script_commands.specs.Printing.{CutsBodies}
use Rattle.script_commands.specs.declared.replaying.Cut.TheVariants as cuts
use Rattle.bridge_ports.proofs.Laws.{appends_none}
use Rattle.script_commands.specs.Rounds.{script_followed, script_targets, visits_counted, IsUnvisited, AreWiresOf, IsScriptRun, AreVisitedThrough}

-- ---- lists

-- what holds of each by recursion holds of each
pub all_of : {A : Type 0} (P : A → Type 0) (xs : List A) → AllByRecursion P xs → All P xs
all_of P [] all i d within = absurd (omega (arith, within))
all_of P (x ∷ xs) all zero d within = all.0
all_of P (x ∷ xs) all (suc i) d within = all_of P xs all.1 i d (omega (arith, within))

-- ---- tracks

-- one more behind the others
track_more : (place : ℕ) (fs : List Followed) (ks : List Kept) (f : Followed) (k : Kept) → AreTracks talking place fs ks → IsTrackAt talking f (place + length fs) k → AreTracks talking place (fs ++ f ∷ []) (ks ++ k ∷ [])
track_more place [] [] f k are at = let same : place + length {A = Followed} [] ≡ place = omega arith in (subst (λ n. IsTrackAt talking f n k) same at, tt)
track_more place (g ∷ gs) (l ∷ ls) f k are at =
    let same : place + length (g ∷ gs) ≡ place + 1 + length gs = omega arith in
    (are.0, track_more (place + 1) gs ls f k are.1 (subst (λ n. IsTrackAt talking f n k) same at))
track_more place [] (l ∷ ls) f k are at = absurd are
track_more place (g ∷ gs) [] f k are at = absurd are

-- the track of the next target of a script
pub next_track : (keeps : Bool) (h : Header) (ts : List ScriptTarget) (at : ℕ) (t : ScriptTarget) (ks : List Kept) (k : Kept) → at < length ts → t ≡ get_or ts at t → AreTracks talking 0 (script_targets keeps h (take at ts)) ks → IsTrackAt talking (script_followed keeps h t) at k
    → AreTracks talking 0 (script_targets keeps h (take (at + 1) ts)) (ks ++ k ∷ [])
next_track keeps h ts at t ks k inside is are new =
    let many : length (script_targets keeps h (take at ts)) ≡ at = length-map (take at ts) (script_followed keeps h) ∙ length-take-le at ts (omega (arith, inside)) in
    let more : script_targets keeps h (take (at + 1) ts) ≡ script_targets keeps h (take at ts) ++ script_followed keeps h t ∷ [] =
    ap (script_targets keeps h) (take_more ts at t inside ∙ ap (λ u. take at ts ++ u ∷ []) (sym is)) ∙ map-append (script_followed keeps h) (take at ts) (t ∷ []) in
    let place : at ≡ 0 + length (script_targets keeps h (take at ts)) = omega (arith, many) in
    subst (λ fs. AreTracks talking 0 fs (ks ++ k ∷ [])) (sym more)
    (track_more 0 (script_targets keeps h (take at ts)) ks (script_followed keeps h t) k are (subst (λ n. IsTrackAt talking (script_followed keeps h t) n k) place new))

pub unvisited_more : (ks : List Kept) (k : Kept) (place : ℕ) (f : Followed) → AreUnvisited ks → IsUnvisited place f k → AreUnvisited (ks ++ k ∷ [])
unvisited_more ks k place f all new = All-append (λ (l : Kept). (l.counts.visits ≡ 0) × (l.halted ≡ false)) ks (k ∷ []) all (all_of (λ (l : Kept). (l.counts.visits ≡ 0) × (l.halted ≡ false)) (k ∷ []) ((new.unvisited, new.goes_on), tt))

-- ---- visits

as_many_tracks : (place : ℕ) (fs : List Followed) (ks : List Kept) → AreTracks talking place fs ks → length {A = TargetEnd} (map track_end ks) ≡ length fs
as_many_tracks place [] [] are = refl
as_many_tracks place (f ∷ fs) (k ∷ ks) are = ap suc (as_many_tracks (place + 1) fs ks are.1)
as_many_tracks place [] (k ∷ ks) are = absurd are
as_many_tracks place (f ∷ fs) [] are = absurd are

-- as many targets ended as there are
pub as_many_ends : (keeps : Bool) (s : Script) (ends : List TargetEnd) (wires : List Shelved) → IsScriptRun keeps s ends wires → length ends ≡ length s.targets
as_many_ends keeps s ends wires run = ap (length {A = TargetEnd}) run.left.ends_are ∙ as_many_tracks 0 (script_targets keeps s.header s.targets) run.tracks run.tracks_are ∙ length-map s.targets (script_followed keeps s.header)

-- a track has at most all its visits
pub at_most_all : (rounds : ℕ) (k : Kept) (halted : Bool) → k.halted ≡ halted → HasAllVisits rounds k → k.counts.visits ≤ rounds
at_most_all rounds k true e has = omega (arith, has.left e)
at_most_all rounds k false e has = omega (arith, has.all e)

-- where each number of visits is that of the rounds, each target was visited through
through_ends : (rounds : ℕ) (ends : List TargetEnd) → ((i : ℕ) → i < length ends → rounds ≤ get_or (map visits_counted ends) i 0) → AreVisitedThrough rounds ends
through_ends rounds [] many = tt
through_ends rounds (e ∷ ends) many = (many 0 (omega arith), through_ends rounds ends (λ i inside. many (suc i) (omega (arith, inside))))

-- ---- wires

-- the wires of one track more, which stands behind the others
pub behind : (ks : List Kept) (ws : List Shelved) (k : Kept) (w : Shelved) → AllZip AreWiresOf ks ws → AreWiresOf k w → AllZip AreWiresOf (ks ++ k ∷ []) (ws ++ w ∷ [])
behind [] [] k w are is = (is, tt)
behind (l ∷ ks) (v ∷ ws) k w are is = (are.0, behind ks ws k w are.1 is)
behind [] (v ∷ ws) k w are is = absurd are
behind (l ∷ ks) [] k w are is = absurd are

-- the last of the tracks that were left gives its wires
pub wires_more : (all was left : List Kept) (k : Kept) (w : Shelved) (taken more : List Shelved) → ((ws : List Shelved) → AllZip AreWiresOf was ws → AllZip AreWiresOf all (ws ++ reverse taken)) → was ≡ left ++ k ∷ [] → more ≡ taken ++ w ∷ []
    → AreWiresOf k w → (ws : List Shelved) → AllZip AreWiresOf left ws → AllZip AreWiresOf all (ws ++ reverse more)
wires_more all was left k w taken more before was_is more_is is ws are =
    let next : AllZip AreWiresOf was (ws ++ w ∷ []) = subst (λ ks. AllZip AreWiresOf ks (ws ++ w ∷ [])) (sym was_is) (behind left ws k w are is) in
    let turned : reverse more ≡ w ∷ reverse taken = ap reverse more_is ∙ reverse-append taken (w ∷ []) in
    let same : ws ++ reverse more ≡ (ws ++ w ∷ []) ++ reverse taken = ap (λ vs. ws ++ vs) turned ∙ sym (append_assoc ws (w ∷ []) (reverse taken)) in
    subst (AllZip AreWiresOf all) (sym same) (before (ws ++ w ∷ []) next)

-- where none are left, the wires are those that were taken out
pub wires_all : (all left : List Kept) (taken : List Shelved) → ((ws : List Shelved) → AllZip AreWiresOf left ws → AllZip AreWiresOf all (ws ++ reverse taken)) → left ≡ [] → AllZip AreWiresOf all (reverse taken)
wires_all all left taken before none = before [] (subst (λ ks. AllZip AreWiresOf ks []) (sym none) tt)

-- ---- printing

-- one target more had a visit for each round
pub each_more : (rounds : ℕ) (visits : List ℕ) (at n many : ℕ) → ((k : ℕ) → k < at → rounds ≤ get_or visits k 0) → at < length visits → many ≡ rounds → many ≤ n → n ≡ get_or visits at n → (k : ℕ) → k < at + 1 → rounds ≤ get_or visits k 0
each_more rounds visits at n many before inside all enough is =
    let same : n ≡ get_or visits at 0 = is ∙ get_or_default_zero visits at n inside in
    below_more _ _ before (omega (arith, same, all, enough))

-- where each count that was seen is that of the rounds, each target was visited through
pub through_seen : (rounds : ℕ) (ends : List TargetEnd) (visits seen : List ℕ) → visits ≡ map visits_counted ends → seen ≡ visits → EachIndex seen (λ k. rounds ≤ get_or seen k 0) → AreVisitedThrough rounds ends
through_seen rounds ends visits seen counted same many =
    through_ends rounds ends (λ i inside. subst (λ ns. rounds ≤ get_or ns i 0) (same ∙ counted) (many i (omega (arith, inside, ap (length {A = ℕ}) (same ∙ counted), length-map ends visits_counted))))

first_target : (ts : List ScriptTarget) → 1 ≤ length ts → (t : ScriptTarget) × (slice_get ts 0 ≡ Some t)
first_target [] some = absurd (omega (arith, some))
first_target (t ∷ ts) some = (t, refl)

-- nothing is a part of the bodies of a script
pub no_bodies : (s : Script) (held : Option (List ℕ)) → 1 ≤ length s.targets → CutsBodies s held held cuts.Memory
no_bodies s held some =
    let t = first_target s.targets some in
    ([], record { texts = []; are = tt; target = t.0; stands = t.1; part = []; is_part = record { events = []; are = tt; says = refl }; says = refl }, appends_none held)
