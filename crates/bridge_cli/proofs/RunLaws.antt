-- The run of a script: that it is right, and that it is the run of the tracks of the script's targets.
use Rattle.std.proofs.Common.{◌≡◌, ℕ, ◌+◌, Bool, false, List, [], ◌∷◌, map, refl, sym, ap, subst, ◌∙◌, arith}
use Rattle.std.specs.List.{AllByRecursion, IsDistinct}
use Rattle.std.proofs.lemmas.List.{length-map}
use Rattle.std.proofs.lemmas.List.Elements.{All-from_recursion}
use Rattle.label_sets.proofs.Laws.{all-weaker}
use Rattle.plain_words.proofs.Laws.{in_range}
use Rattle.bridge_ports.specs.Targets.{IsScraped, have_same_names}
use Rattle.replay_script.specs.declared.header.Header.{Header}
use Rattle.replay_script.specs.declared.script.ScriptTarget.{ScriptTarget}
use Rattle.replay_script.specs.declared.script.Script.{Script}
use Rattle.replay_script.specs.WirePlans.{script_settings}
use Rattle.replay_script.specs.RightScripts.{IsRightHeader, IsRightTarget, IsRightScript}
use Rattle.bridge_ports.specs.declared.memory_world.Shelved.{Shelved}
use Rattle.series_table.specs.HttpTalks.{talking}
use Rattle.run_report.specs.declared.target_end.TargetEnd.{TargetEnd}
use Rattle.series_table.specs.Talking.{Followed, AreInRange}
use Rattle.series_table.specs.Records.{Kept}
use Rattle.series_table.specs.Tracks.{AreTracks}
use Rattle.target_table.specs.Runs.{Run, IsRightRun, is_same_target}
use Rattle.target_table.specs.Tables.{IsRunOver}
use Rattle.scraper_pool.specs.Turns.{run_of}
use Rattle.script_commands.specs.Rounds.{script_followed, script_targets, IsLeftOf, IsScriptRun}

-- what is kept of each target of a script holds of each target of its run
each_followed : (keeps : Bool) (h : Header) (P : Followed → Type 0) (ts : List ScriptTarget) → AllByRecursion (λ t. P (script_followed keeps h t)) ts → AllByRecursion P (script_targets keeps h ts)
each_followed keeps h P [] all = tt
each_followed keeps h P (t ∷ ts) all = (all.0, each_followed keeps h P ts all.1)

-- no name again
other_followed : (keeps : Bool) (h : Header) (t : ScriptTarget) (ts : List ScriptTarget) → AllByRecursion (λ y. have_same_names t.target y ≡ false) (map (λ (u : ScriptTarget). u.target) ts)
    → AllByRecursion (λ y. is_same_target (script_followed keeps h t) y ≡ false) (script_targets keeps h ts)
other_followed keeps h t [] all = tt
other_followed keeps h t (u ∷ us) all = (all.0, other_followed keeps h t us all.1)

distinct_followed : (keeps : Bool) (h : Header) (ts : List ScriptTarget) → IsDistinct have_same_names (map (λ (u : ScriptTarget). u.target) ts) → IsDistinct is_same_target (script_targets keeps h ts)
unfolding IsDistinct
distinct_followed keeps h [] all = tt
distinct_followed keeps h (t ∷ ts) all = (other_followed keeps h t ts all.0, distinct_followed keeps h ts all.1)

right_settings : (h : Header) → IsRightHeader h → AreInRange (script_settings h)
right_settings h right = record {
  keep = (in_range 0 4 h.keep right.keep).1;
  tries = in_range 1 8 h.tries right.tries;
  limit = in_range 1 200000 h.limit right.limit;
  max_page = in_range 1024 67108864 h.max_page right.max_page;
}

-- the run of a script: its targets, each visited once for each round
abbrev pub script_run : Bool → Script → Run
script_run keeps s = record { targets = script_targets keeps s.header s.targets; rounds = s.header.rounds }

is_right : (keeps : Bool) (s : Script) → IsRightScript s → IsRightRun (script_run keeps s)
is_right keeps s right =
    let many = length-map s.targets (script_followed keeps s.header) in
    record {
      some = omega (arith, right.some_target, many);
      few = omega (arith, right.few_targets, many);
      distinct = distinct_followed keeps s.header s.targets right.names;
      scraped = All-from_recursion (λ (f : Followed). IsScraped f.target) (script_targets keeps s.header s.targets)
          (each_followed keeps s.header (λ (f : Followed). IsScraped f.target) s.targets (all-weaker (IsRightTarget s.header) (λ (t : ScriptTarget). IsScraped t.target) (λ t is. is.scraped) s.targets right.targets));
      settings = All-from_recursion (λ (f : Followed). AreInRange f.settings) (script_targets keeps s.header s.targets)
          (each_followed keeps s.header (λ (f : Followed). AreInRange f.settings) s.targets (all-weaker (IsRightTarget s.header) (λ t. AreInRange (script_settings s.header)) (λ t is. right_settings s.header right.header) s.targets right.targets));
      rounds = in_range 1 1000000 s.header.rounds right.header.rounds;
    }

-- the targets of tracks are those of the run
followed_of : (place : ℕ) (fs : List Followed) (ks : List Kept) → AreTracks talking place fs ks → map (λ (k : Kept). k.followed) ks ≡ fs
followed_of place [] [] are = refl
followed_of place (f ∷ fs) (k ∷ ks) are = ap (λ g. g ∷ map (λ (l : Kept). l.followed) ks) are.0.followed ∙ ap (λ gs. f ∷ gs) (followed_of (place + 1) fs ks are.1)
followed_of place [] (k ∷ ks) are = absurd are
followed_of place (f ∷ fs) [] are = absurd are

-- the run of the tracks of a script's targets is that of the script
same_run : (keeps : Bool) (s : Script) (ks : List Kept) → AreTracks talking 0 (script_targets keeps s.header s.targets) ks → run_of s.header.rounds ks ≡ script_run keeps s
same_run keeps s ks are =
    let RunWith : List Followed → Run = λ fs. record { targets = fs; rounds = s.header.rounds } in
    ap RunWith (followed_of 0 (script_targets keeps s.header s.targets) ks are)

-- so it is right
pub right_run : (keeps : Bool) (s : Script) (ks : List Kept) → IsRightScript s → AreTracks talking 0 (script_targets keeps s.header s.targets) ks → IsRightRun (run_of s.header.rounds ks)
right_run keeps s ks right are = subst IsRightRun (sym (same_run keeps s ks are)) (is_right keeps s right)

-- and they are its tracks
pub own_tracks : (keeps : Bool) (s : Script) (ks : List Kept) → AreTracks talking 0 (script_targets keeps s.header s.targets) ks → AreTracks talking 0 (run_of s.header.rounds ks).targets ks
own_tracks keeps s ks are = subst (λ fs. AreTracks talking 0 fs ks) (sym (followed_of 0 (script_targets keeps s.header s.targets) ks are)) are

-- what is left of them once their run is over is what is left of the script's run
pub run_left : (keeps : Bool) (s : Script) (ks visited : List Kept) (ends : List TargetEnd) (wires : List Shelved) → AreTracks talking 0 (script_targets keeps s.header s.targets) ks
    → IsRunOver talking (run_of s.header.rounds ks) visited → IsLeftOf visited ends wires → IsScriptRun keeps s ends wires
run_left keeps s ks visited ends wires are over left = record {
  tracks = visited;
  tracks_are = subst (λ fs. AreTracks talking 0 fs visited) (followed_of 0 (script_targets keeps s.header s.targets) ks are) over.tracks_are;
  visited = over.visited;
  left = left;
}
