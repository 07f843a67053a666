-- A run beside a door: which door was asked for, and what came back of it.
-- The bridge's own.
use Rattle.std.specs.Prelude.{◌≡◌, ◌⊎◌, ℕ, List, map, All, Option, Some, None}
use Rattle.bridge_ports.specs.Causes.{Rose}
use Rattle.bridge_ports.specs.Doors.{DoorState, new_door}
use Rattle.bridge_ports.specs.Worlds.{WorldState, KeepsComing}
use Rattle.bridge_ports.specs.Outside.{Outside, Coming, with_door_asked, with_back_door}
use Rattle.bridge_ports.specs.declared.talk.Address.{Address}
use Rattle.series_table.specs.Talking.{Followed}
use Rattle.series_table.specs.HttpTalks.{talking}
use Rattle.target_table.specs.Runs.{Run}
use Rattle.scraper_pool.specs.Federating.{IsSelectedPage}
use Rattle.scraper_pool.specs.Serving.{ServesAt}
use Rattle.bridge_config.specs.declared.config.Config.{Config}
use Rattle.run_report.specs.declared.target_end.TargetEnd.{TargetEnd}
use Rattle.world_run.specs.Ends.{IsRunEnd, IsNotBegun}

-- a world was asked for the door of a configuration, where that has one: it was opened, and what is to come at its address comes there, or it could not be, and the count of faults of doors rose; something is left to come at that address
pub data HasAsked (c : Config) (before : Outside) : Outside → Option DoorState → Type 0 where
  nothing_asked : c.door ≡ None → HasAsked c before before None
  asked_in_vain : (at : Address) (faults : ℕ) (left : Option (List (List ℕ))) → c.door ≡ Some at → Rose before.world.door_faults faults → HasAsked c before (with_door_asked at faults left before) None
  asked_and_opened : (at : Address) (left : Option (List (List ℕ))) → c.door ≡ Some at → HasAsked c before (with_door_asked at before.world.door_faults left before) (Some (new_door (before.coming at)))

-- what is seen once a door came back, if there was one
abbrev pub comes_back : Option DoorState → Outside → Outside
comes_back None o = o
comes_back (Some d) o = with_back_door d o

-- the run of a configuration: its targets, in order, each followed with its settings and posted to its collector, as often as it says
pub record IsRunOf (c : Config) (run : Run) : Type 0 where
  pub targets : map (λ (f : Followed). f.target) run.targets ≡ c.targets
  pub settings : All (λ (f : Followed). f.settings ≡ c.settings) run.targets
  pub collector : All (λ (f : Followed). f.to ≡ c.collector) run.targets
  pub rounds : run.rounds ≡ c.rounds

-- what came of the door of a configuration, if it was opened: each of its connections was served, with pages of the configuration's run where it asked for them, and so many were answered
pub record ServesRun (c : Config) (opened closed : Option DoorState) (served : ℕ) : Type 0 where
  pub run : Run
  pub run_is : IsRunOf c run
  pub serves : ServesAt (IsSelectedPage talking run) c.pages opened closed served

-- a run beside the door of a configuration, of which so many connections were answered: the door was asked for before the run and came back behind it, and the run is one over the wires alone
pub record IsServedRun (c : Config) (before after : Outside) (ends : List TargetEnd) (served : ℕ) : Type 0 where
  pub during : Outside
  pub over : Outside
  pub opened : Option DoorState
  pub closed : Option DoorState
  pub asked : HasAsked c before during opened
  pub run : IsRunEnd c during over ends
  pub serves : ServesRun c opened closed served
  pub back : after ≡ comes_back closed over

-- a run that was not begun: the door came back as it was opened, if it was asked for
pub record IsUnserved (c : Config) (before after : Outside) : Type 0 where
  pub during : Outside
  pub over : Outside
  pub opened : Option DoorState
  pub asked : ((during ≡ before) × (opened ≡ None)) ⊎ HasAsked c before during opened
  pub run : IsNotBegun c during over
  pub back : after ≡ comes_back opened over

-- of a world at most what is told of doors changed
abbrev pub ChangesDoorsAlone : WorldState → WorldState → Type 0
ChangesDoorsAlone old new = new ≡ record old { door_at = new.door_at; door_faults = new.door_faults; back_door = new.back_door }

-- at other addresses than that of a door the same is to come
abbrev pub KeepsOtherComing : Option Address → Coming → Coming → Type 0
KeepsOtherComing None old new = new ≡ old
KeepsOtherComing (Some at) old new = KeepsComing at old new

-- behind a run at most what is told of doors changed, which pairs are at home, with which addresses pairs were handed out, and what is to come at the door of a configuration
pub record ChangesAtMost (door : Option Address) (before after : Outside) : Type 0 where
  pub doors : ChangesDoorsAlone before.world after.world
  pub files : after.files ≡ before.files
  pub coming : KeepsOtherComing door before.coming after.coming
