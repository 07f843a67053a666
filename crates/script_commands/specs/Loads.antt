-- What `load` prints: the report of the visits of a script, each of whose bodies is accepted.
-- The bridge's own.
use Rattle.std.specs.Prelude.{◌≡◌, ℕ, ◌<◌, true, false, List, [], map, length}
use Rattle.std.specs.List.{AllZip}
use Rattle.page_model.specs.declared.event.Event.{Event}
use Rattle.otlp_sender.specs.declared.posted.Posted.{Posted}
use Rattle.otlp_sender.specs.declared.posted.Posted.TheVariants.{Accepted}
use Rattle.series_table.specs.declared.counts.Counts.{Counts}
use Rattle.series_table.specs.Counting.{visit_counts}
use Rattle.run_report.specs.declared.target_end.TargetEnd.{TargetEnd}
use Rattle.run_report.specs.Reports.{report_text}
use Rattle.replay_script.specs.declared.header.Header.{Header}
use Rattle.replay_script.specs.declared.script.ScriptTarget.{ScriptTarget}
use Rattle.replay_script.specs.declared.script.Script.{Script}
use Rattle.script_commands.specs.Replays.{AreEvents}
use Rattle.script_commands.specs.Rounds.{script_followed}

-- the body of each event was accepted
abbrev pub all_accepted : List Event → List Posted
all_accepted events = map (λ _. Accepted 200) events

-- what is counted of a target of a script over these events, where the body of each was accepted
abbrev pub accepted_counts : Header → ScriptTarget → List Event → Counts
accepted_counts h t events = visit_counts (script_followed true h t) events (all_accepted events)

-- how a target of a script ended: its numbers are those of the events of its first replies, each of whose bodies was accepted; events of some rounds are missing just where it was halted
pub record IsScriptEnd (h : Header) (t : ScriptTarget) (end : TargetEnd) : Type 0 where
  pub events : List Event
  pub are : AreEvents h t.scrapes events
  pub job : end.job ≡ t.target.job
  pub instance : end.instance ≡ t.target.instance
  pub counts : end.counts ≡ accepted_counts h t events
  pub all : end.halted ≡ false → length events ≡ h.rounds
  pub left : end.halted ≡ true → length events < h.rounds

-- it ended so, and all its rounds were made
pub record IsWholeEnd (h : Header) (t : ScriptTarget) (end : TargetEnd) : Type 0 where
  pub is : IsScriptEnd h t end
  pub goes_on : end.halted ≡ false

-- a text is the report of all visits of a script
pub record IsLoadReport (s : Script) (text : List ℕ) : Type 0 where
  pub ends : List TargetEnd
  pub are : AllZip (IsWholeEnd s.header) s.targets ends
  pub says : text ≡ report_text ends

-- a text is the report of visits of a script, some of which may be missing
pub record IsPartReport (s : Script) (text : List ℕ) : Type 0 where
  pub ends : List TargetEnd
  pub are : AllZip (IsScriptEnd s.header) s.targets ends
  pub says : text ≡ report_text ends

-- what is printed of the visits of a script where memory was wanted: no report, or that of some visits
pub data MayBeReported (s : Script) : List ℕ → Type 0 where
  no_report : MayBeReported s []
  part_report : (text : List ℕ) → IsPartReport s text → MayBeReported s text
