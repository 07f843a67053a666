-- The wires of a script's run are those of its targets, and what stands on the shelf once they were handed in.
use Rattle.std.proofs.Common.{◌≡◌, ℕ, suc, ◌+◌, ◌≤◌, Bool, true, false, List, [], ◌∷◌, ◌++◌, length, map, Option, Some, None, Result, Ok, Err, option_map, refl, sym, ap, subst, ◌∙◌, reverse, arith}
use Rattle.std.specs.Prelude.{All, is_some, OnOk, ⊤}
use Rattle.std.specs.List.{AllZip, AllByRecursion}
use Rattle.std.proofs.lemmas.List.{reverse-append}
use Rattle.bridge_ports.specs.declared.memory_world.Shelved.{Shelved}
use Rattle.bridge_ports.specs.declared.talk.Talk.{Talk}
use Rattle.bridge_ports.specs.Talks.{WireState}
use Rattle.bridge_ports.specs.Plans.{MemoryState}
use Rattle.bridge_ports.specs.Worlds.{ShelvedPair, put_on}
use Rattle.bridge_ports.specs.Outside.{Outside, with_shelved_pair}
use Rattle.series_table.specs.HttpTalks.{talking}
use Rattle.series_table.specs.Records.{Kept, BodiesOf, further_talks}
use Rattle.series_table.specs.Tracks.{HasAllVisits, IsTrackAt, AreTracks}
use Rattle.run_report.specs.declared.target_end.TargetEnd.{TargetEnd}
use Rattle.run_report.specs.Ends.{track_end, some_halted}
use Rattle.replay_script.specs.declared.header.Header.{Header}
use Rattle.replay_script.specs.declared.script.ScriptTarget.{ScriptTarget}
use Rattle.replay_script.specs.declared.script.Script.{Script}
use Rattle.replay_script.specs.RightScripts.{IsRightTarget, IsRightScript}
use Rattle.replay_script.specs.WirePlans.{scrape_plan}
use Rattle.script_commands.specs.Rounds.{script_followed, script_targets, AreWiresOf, IsScriptRun, AreVisitedThrough}
use Rattle.script_commands.specs.Shelves.{AreTalksOfReplies, IsShelvedPair, AreShelvedPairs, put_all, IsShelfOf, shelf_pair, IsFreePair, with_shelved, with_shelf, KeepsAllButShelf}
use Rattle.script_commands.proofs.TalkLaws.{track_told, track_posts}
use Rattle.script_commands.proofs.EndLaws.{none_halted}
use Rattle.script_commands.specs.declared.replaying.Cut.{Cut}

-- ---- pairs

-- no talk follows those that were counted
no_further : (further counted talks : List Talk) → talks ≡ further ++ counted → length further ≤ 0 → counted ≡ talks
no_further [] counted talks are few = sym are
no_further (talk ∷ further) counted talks are few = absurd (omega (arith, few))

-- the pair of a track that had all its visits
shelved_pair : (keeps : Bool) (h : Header) (t : ScriptTarget) (place : ℕ) (k : Kept) (w : Shelved) → IsRightTarget h t → IsTrackAt talking (script_followed keeps h t) place k → HasAllVisits h.rounds k → AreWiresOf k w → h.rounds ≤ k.counts.visits
    → IsShelvedPair keeps h (place + 1) t (shelf_pair w)
shelved_pair keeps h t place k w right at visits wires all = by k.halted refl
  where
    by : (halted : Bool) → k.halted ≡ halted → IsShelvedPair keeps h (place + 1) t (shelf_pair w)
    by true e = absurd (omega (arith, visits.left e, all))
    by false e =
        let told = track_told keeps h t place k w right at visits wires in
        let bodies : BodiesOf talking (script_followed keeps h t) 0 w.scrape.talks w.post.talks told.events told.posted =
        subst (λ b. BodiesOf talking (script_followed keeps h t) (further_talks b) w.scrape.talks w.post.talks told.events told.posted) e told.bodies in
        let few : length told.bodies.tells.further ≤ 0 = subst (λ b. length told.bodies.tells.further ≤ further_talks b) e told.bodies.tells.few in
        record {
          scrape_home = record { free = sym (ap (λ (s : WireState). s.stage) wires.scrape_is) ∙ at.track.scrape_wire.free; place = sym (ap (λ (s : WireState). s.place) wires.scrape_is) ∙ at.scrape_place };
          post_home = record { free = sym (ap (λ (s : WireState). s.stage) wires.post_is) ∙ at.track.post_wire.free; place = sym (ap (λ (s : WireState). s.place) wires.post_is) ∙ at.post_place };
          scrape_by = told.scrape_by;
          post_by = told.post_by;
          events = told.events;
          posted = told.posted;
          are = told.are;
          all = omega (arith, told.many, right.scrapes, visits.all e);
          bodies = bodies;
          scraped = subst (AreTalksOfReplies (scrape_plan h t)) (no_further told.bodies.tells.further told.bodies.tells.counted w.scrape.talks told.bodies.tells.talks_are few) told.counted;
          answered = track_posts keeps h t k w right told;
        }

-- the pairs of tracks, in order
shelved_pairs : (keeps : Bool) (h : Header) (place : ℕ) (ts : List ScriptTarget) (ks : List Kept) (ws : List Shelved) → AllByRecursion (IsRightTarget h) ts → AreTracks talking place (script_targets keeps h ts) ks → All (HasAllVisits h.rounds) ks
    → AllZip AreWiresOf ks ws → AreVisitedThrough h.rounds (map track_end ks) → AreShelvedPairs keeps h (place + 1) ts (map shelf_pair ws)
shelved_pairs keeps h place [] [] [] right are visits wires all = tt
shelved_pairs keeps h place (t ∷ ts) (k ∷ ks) (w ∷ ws) right are visits wires all = (
  shelved_pair keeps h t place k w right.0 are.0 (visits 0 k (omega arith)) wires.0 all.0,
  shelved_pairs keeps h (place + 1) ts ks ws right.1 are.1 (λ i d inside. visits (suc i) d (omega (arith, inside))) wires.1 all.1,
)
shelved_pairs keeps h place [] [] (w ∷ ws) right are visits wires all = absurd wires
shelved_pairs keeps h place (t ∷ ts) (k ∷ ks) [] right are visits wires all = absurd wires
shelved_pairs keeps h place [] (k ∷ ks) ws right are visits wires all = absurd are
shelved_pairs keeps h place (t ∷ ts) [] ws right are visits wires all = absurd are

-- no talk is under way on them
free_of : (keeps : Bool) (place : ℕ) (h : Header) (ts : List ScriptTarget) (ks : List Kept) (ws : List Shelved) → AreTracks talking place (script_targets keeps h ts) ks → AllZip AreWiresOf ks ws → AllByRecursion IsFreePair ws
free_of keeps place h ts ks [] are wires = tt
free_of keeps place h ts [] (w ∷ ws) are wires = absurd wires
free_of keeps place h [] (k ∷ ks) (w ∷ ws) are wires = absurd are
free_of keeps place h (t ∷ ts) (k ∷ ks) (w ∷ ws) are wires = (
  record {
    scrape_free = sym (ap (λ (s : WireState). s.stage) wires.0.scrape_is) ∙ are.0.track.scrape_wire.free;
    post_free = sym (ap (λ (s : WireState). s.stage) wires.0.post_is) ∙ are.0.track.post_wire.free;
  },
  free_of keeps (place + 1) h ts ks ws are.1 wires.1,
)

pub free_pairs : (keeps : Bool) (s : Script) (ends : List TargetEnd) (wires : List Shelved) → IsScriptRun keeps s ends wires → AllByRecursion IsFreePair wires
free_pairs keeps s ends wires run = free_of keeps 0 s.header s.targets run.tracks wires run.tracks_are run.left.wires_are

-- ---- the shelf

-- a shelf once wires were handed in
shelf_with : (ws : List Shelved) (o : Outside) → (with_shelved ws o).world.shelf ≡ option_map (put_all (map shelf_pair ws)) o.world.shelf
shelf_with [] o = by o.world.shelf
  where
    by : (shelf : Option (List ShelvedPair)) → shelf ≡ option_map (put_all []) shelf
    by None = refl
    by (Some pairs) = refl
shelf_with (p ∷ ps) o = shelf_with ps (with_shelved_pair p.scrape p.post o) ∙ by o.world.shelf
  where
    by : (shelf : Option (List ShelvedPair)) → option_map (put_all (map shelf_pair ps)) (option_map (put_on p.scrape p.post) shelf) ≡ option_map (put_all (map shelf_pair (p ∷ ps))) shelf
    by None = refl
    by (Some pairs) = refl

-- the wires that are left, once the first of them was handed in
pub shelved_next : (wires left rest : List Shelved) (pair : Shelved) (first now next : Outside) → left ≡ rest ++ pair ∷ [] → with_shelved (reverse left) now ≡ with_shelved wires first → next ≡ with_shelved_pair pair.scrape pair.post now
    → with_shelved (reverse rest) next ≡ with_shelved wires first
shelved_next wires left rest pair first now next are was then =
    let turned : reverse left ≡ pair ∷ reverse rest = ap reverse are ∙ reverse-append rest (pair ∷ []) in
    ap (with_shelved (reverse rest)) then ∙ (sym (ap (λ ls. with_shelved ls now) turned) ∙ was)

-- no talk is under way on them
pub free_next : (left rest : List Shelved) (pair : Shelved) → left ≡ rest ++ pair ∷ [] → AllByRecursion IsFreePair (reverse left) → AllByRecursion IsFreePair (reverse rest)
free_next left rest pair are free =
    let turned : reverse left ≡ pair ∷ reverse rest = ap reverse are ∙ reverse-append rest (pair ∷ []) in
    (subst (AllByRecursion IsFreePair) turned free).1

-- where a shelf is changed again, it alone is
pub shelf_again : (a b c : Outside) (scrape post : MemoryState) → KeepsAllButShelf a b → c ≡ with_shelved_pair scrape post b → KeepsAllButShelf a c
shelf_again a b c scrape post first then =
    then ∙ ap (λ shelf. with_shelf shelf b) (sym (ap (λ (o : Outside). o.world.shelf) then)) ∙ ap (with_shelf c.world.shelf) first

-- the wires of a script's run, each of whose targets was visited through, were handed in
pub script_shelved : (keeps : Bool) (s : Script) (ends : List TargetEnd) (wires : List Shelved) (before after : Outside) → IsRightScript s → IsScriptRun keeps s ends wires → AreVisitedThrough s.header.rounds ends → after ≡ with_shelved wires before
    → keeps ≡ is_some before.world.shelf → IsShelfOf s before.world.shelf after.world.shelf
script_shelved keeps s ends wires before after right run all is kept = record {
  pairs = map shelf_pair wires;
  are = subst (λ b. AreShelvedPairs b s.header 1 s.targets (map shelf_pair wires)) kept
      (shelved_pairs keeps s.header 0 s.targets run.tracks wires right.targets run.tracks_are run.visited run.left.wires_are (subst (AreVisitedThrough s.header.rounds) run.left.ends_are all));
  shelf = ap (λ (o : Outside). o.world.shelf) is ∙ shelf_with wires before;
}

-- those of a load were, none of whose targets was halted
pub load_shelved : (keeps : Bool) (s : Script) (ends : List TargetEnd) (wires : List Shelved) (before after : Outside) (r : Result ⊤ Cut) → IsRightScript s → IsScriptRun keeps s ends wires → OnOk r (some_halted ends ≡ false)
    → OnOk r (after ≡ with_shelved wires before) → keeps ≡ is_some before.world.shelf → OnOk r (IsShelfOf s before.world.shelf after.world.shelf)
load_shelved keeps s ends wires before after (Ok done) right run none is kept = script_shelved keeps s ends wires before after right run (none_halted keeps s ends wires run none) is kept
load_shelved keeps s ends wires before after (Err cut) right run none is kept = tt
