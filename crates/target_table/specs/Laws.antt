-- Laws of the table of targets. Each is proved, and a call of the crate stands for it.
-- The bridge's own.
use Rattle.std.specs.Prelude.{◌≡◌, ℕ, ◌≤◌, List, [], ◌∷◌, ◌++◌, map, Some, None}
use Rattle.std.specs.List.{slice_get}
use Rattle.page_model.specs.declared.event.Shown.{Shown}
use Rattle.target_pages.specs.Thinned.{shown_page}
use Rattle.target_core.specs.Events.{latest_shown}
use Rattle.federation_page.specs.Gathering.{federated_page}
use Rattle.series_table.specs.Talking.{Talking, Followed}
use Rattle.target_table.specs.Runs.{Run}
use Rattle.target_table.specs.Machine.{OneTarget, TableStep, TableRun, visits_of, state_after, pages_seen, own_steps, alone}
use Rattle.target_table.specs.Paging.{NonePutsBack}
use Rattle.series_table.specs.Records.{BodiesOf, further_talks}

-- what a target of a run has is what it has in a run of its own: the same talks, posts, events and shown pages, by its own steps
pub record HasOwnRun (w : Talking) (run : Run) (steps : List TableStep) (place : ℕ) (f : Followed) : Type 0 where
  pub target : OneTarget
  pub there : slice_get (state_after run steps) place ≡ Some target
  pub own_run : TableRun w (alone f run.rounds) (own_steps place steps)
  pub own_state : state_after (alone f run.rounds) (own_steps place steps) ≡ target ∷ []

-- each target's steps are a run of its own
abbrev pub Isolation : Talking → Type 0
Isolation w = (run : Run) (steps : List TableStep) (place : ℕ) (f : Followed) → TableRun w run steps → slice_get run.targets place ≡ Some f → HasOwnRun w run steps place f

-- what a target of a run has posted is the texts of the events that its own scrape talks tell, one for each visit, and there are at most `rounds`
pub record IsRight (w : Talking) (rounds : ℕ) (f : Followed) (o : OneTarget) : Type 0 where
  pub followed : o.followed ≡ f
  pub bodies : BodiesOf w f (further_talks o.halted) o.scrapes o.posts o.events o.posted
  pub few : visits_of o ≤ rounds
  pub seen : o.out ≡ None → o.seen ≡ latest_shown f.target o.events

-- in every run each target is right
abbrev pub BodiesInEveryRun : Talking → Type 0
BodiesInEveryRun w = (run : Run) (steps : List TableStep) (place : ℕ) (f : Followed) (o : OneTarget) → TableRun w run steps
    → slice_get run.targets place ≡ Some f → slice_get (state_after run steps) place ≡ Some o → IsRight w run.rounds f o

-- what the machine has of a target depends on its own steps alone: two runs with the same steps of it end with the same
abbrev pub SameOwnSteps : Talking → Type 0
SameOwnSteps w = (run other : Run) (steps others : List TableStep) (place at : ℕ) (f : Followed) → TableRun w run steps → TableRun w other others
    → slice_get run.targets place ≡ Some f → slice_get other.targets at ≡ Some f → own_steps place steps ≡ own_steps at others
    → slice_get (state_after run steps) place ≡ slice_get (state_after other others) at

-- what a page shows of a target is what the page of a run of its own shows
abbrev pub PagesAreOwn : Talking → Type 0
PagesAreOwn w = (run : Run) (steps : List TableStep) (place : ℕ) (f : Followed) → TableRun w run steps → slice_get run.targets place ≡ Some f
    → slice_get (pages_seen (state_after run steps)) place ≡ slice_get (pages_seen (state_after (alone f run.rounds) (own_steps place steps))) 0

-- what a page shows of a target stays as it was, also while the target is out, until it is put back
abbrev pub SeenUntilPut : Type 0
SeenUntilPut = (run : Run) (later earlier : List TableStep) (place : ℕ) → NonePutsBack place later
    → slice_get (pages_seen (state_after run (later ++ earlier))) place ≡ slice_get (pages_seen (state_after run earlier)) place

-- ---- what pages show

-- the same, with its page as it is shown
abbrev pub with_shown_page : Shown → Shown
with_shown_page s = record { job = s.job; instance = s.instance; moment = s.moment; page = shown_page s.page }

-- what is not shown of a page, its exemplars and the families that have no reading, is nothing on the federation page
abbrev pub ShownGatherTheSame : Type 0
ShownGatherTheSame = (shown : List Shown) → federated_page (map with_shown_page shown) ≡ federated_page shown
