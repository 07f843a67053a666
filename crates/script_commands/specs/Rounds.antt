-- The tracks of a script's targets: how they are made, visited, and what is left of them.
-- The bridge's own.
use Rattle.std.specs.Prelude.{◌≡◌, ℕ, ◌+◌, ◌≤◌, Bool, true, false, List, [], length, map, Some, Result, OnOk, All}
use Rattle.std.specs.List.{AllZip, AllByRecursion}
use Rattle.bridge_ports.specs.declared.talk.Place.{Place}
use Rattle.bridge_ports.specs.declared.talk.Talk.{Talk}
use Rattle.bridge_ports.specs.declared.memory_world.Shelved.{Shelved}
use Rattle.bridge_ports.specs.Plans.{MemoryState, new_wire, seen_of, IsOfPlan}
use Rattle.replay_script.specs.declared.header.Header.{Header}
use Rattle.replay_script.specs.declared.script.ScriptTarget.{ScriptTarget}
use Rattle.replay_script.specs.declared.script.Script.{Script}
use Rattle.replay_script.specs.WirePlans.{scrape_plan, post_plan, script_collector, script_settings}
use Rattle.series_table.specs.HttpTalks.{talking}
use Rattle.series_table.specs.Talking.{Followed}
use Rattle.series_table.specs.Records.{Kept, talks_of}
use Rattle.series_table.specs.Tracks.{IsTrackAt, AreTracks, HasAllVisits}
use Rattle.run_report.specs.declared.target_end.TargetEnd.{TargetEnd}
use Rattle.run_report.specs.Ends.{track_end}

-- the place of a wire of the script's target of this number: that of its scrapes, or that of its posts
abbrev pub script_place : ℕ → Bool → Place
script_place number post = record { number = number; post = post }

-- the wire of the scrapes of the script's target of this number, before its first talk
abbrev pub new_scrape_wire : Header → ScriptTarget → ℕ → MemoryState
new_scrape_wire h t number = new_wire (script_place number false) (scrape_plan h t)

-- the wire of its posts, before its first talk
abbrev pub new_post_wire : Bool → Header → ScriptTarget → ℕ → MemoryState
new_post_wire keeps h t number = new_wire (script_place number true) (post_plan keeps h t)

-- a script's target as it is visited: over wires that answer what the script says, and keep what is posted or don't
abbrev pub script_followed : Bool → Header → ScriptTarget → Followed
script_followed keeps h t = record { target = t.target; to = script_collector; settings = script_settings h; scrape_plan = Some (scrape_plan h t); post_plan = Some (post_plan keeps h t) }

-- the targets of a script as they are visited
abbrev pub script_targets : Bool → Header → List ScriptTarget → List Followed
script_targets keeps h ts = map (script_followed keeps h) ts

-- a track of the target at this place that was not visited yet
pub record IsUnvisited (place : ℕ) (f : Followed) (k : Kept) : Type 0 where
  pub at : IsTrackAt talking f place k
  pub unvisited : k.counts.visits ≡ 0
  pub silent : talks_of k.scrape ≡ Some []
  pub goes_on : k.halted ≡ false

-- the track of a script's target at this place, so many of whose rounds were made: its wire of scrapes tells as many talks
pub record IsAtRound (keeps : Bool) (h : Header) (t : ScriptTarget) (place at : ℕ) (k : Kept) : Type 0 where
  pub followed : k.followed ≡ script_followed keeps h t
  pub scrape_place : k.scrape.place ≡ script_place (place + 1) false
  pub post_place : k.post.place ≡ script_place (place + 1) true
  pub goes_on : k.halted ≡ false
  pub visits : k.counts.visits ≡ at
  pub talks : List Talk
  pub told : talks_of k.scrape ≡ Some talks
  pub many : length talks ≡ at

-- a visit that succeeds takes the track of a script's target, so many of whose rounds were made, to the next round
abbrev pub ComesToNextRound : {T E : Type 0} → Kept → Kept → Result T E → Type 0
ComesToNextRound old new result = (keeps : Bool) (h : Header) (t : ScriptTarget) (place at : ℕ) → IsAtRound keeps h t place at old → OnOk result (IsAtRound keeps h t place (at + 1) new)

-- the wires of a track are these, which are in memory, and whose talks follow their plans
pub record AreWiresOf (k : Kept) (w : Shelved) : Type 0 where
  pub scrape_is : k.scrape ≡ seen_of w.scrape
  pub post_is : k.post ≡ seen_of w.post
  pub scrape_plan : IsOfPlan w.scrape
  pub post_plan : IsOfPlan w.post

-- what is left of tracks: how their targets ended, and their wires, both in order
pub record IsLeftOf (tracks : List Kept) (ends : List TargetEnd) (wires : List Shelved) : Type 0 where
  pub ends_are : ends ≡ map track_end tracks
  pub wires_are : AllZip AreWiresOf tracks wires

-- the run of a script is over: each round of each target was made, but of those that are halted; the targets ended so, and these are their wires, both in order
pub record IsScriptRun (keeps : Bool) (s : Script) (ends : List TargetEnd) (wires : List Shelved) : Type 0 where
  pub tracks : List Kept
  pub tracks_are : AreTracks talking 0 (script_targets keeps s.header s.targets) tracks
  pub visited : All (HasAllVisits s.header.rounds) tracks
  pub left : IsLeftOf tracks ends wires

-- a pair of wires is that of the script's target at this place, which was visited for each round
pub record IsVisitedAt (keeps : Bool) (h : Header) (t : ScriptTarget) (place : ℕ) (w : Shelved) : Type 0 where
  pub track : Kept
  pub at : IsTrackAt talking (script_followed keeps h t) place track
  pub visits : track.counts.visits ≡ h.rounds
  pub goes_on : track.halted ≡ false
  pub wires_are : AreWiresOf track w

-- how many visits of a target were counted
abbrev pub visits_counted : TargetEnd → ℕ
visits_counted e = e.counts.visits

-- each target had a visit for each round
abbrev pub AreVisitedThrough : ℕ → List TargetEnd → Type 0
AreVisitedThrough rounds ends = AllByRecursion (λ e. rounds ≤ visits_counted e) ends

-- the run of a script is over, each of its targets was visited for each round, and these are their wires, in order
pub record AreVisitedWires (keeps : Bool) (s : Script) (wires : List Shelved) : Type 0 where
  pub ends : List TargetEnd
  pub run : IsScriptRun keeps s ends wires
  pub through : AreVisitedThrough s.header.rounds ends
