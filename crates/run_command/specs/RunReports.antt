-- What the command `run` comes to. The bridge's own.
use Rattle.std.specs.Prelude.{◌≡◌, ◌⊎◌, ℕ, Bool, List, ◌++◌}
use Rattle.bridge_ports.specs.Outside.{Outside}
use Rattle.bridge_config.specs.declared.config.Config.{Config}
use Rattle.program_words.specs.declared.stop.Stop.{Stop}
use Rattle.program_words.specs.declared.stop.Stop.TheVariants.{Memory}
use Rattle.run_command.specs.ConfigFiles.{HoldsConfig, IsFileAsked}
use Rattle.run_report.specs.declared.target_end.TargetEnd.{TargetEnd}
use Rattle.run_report.specs.Ends.{some_halted}
use Rattle.run_report.specs.Reports.{report_text, served_line}
use Rattle.world_run.specs.Serving.{IsServedRun, IsUnserved, ChangesAtMost}

-- the file of a path is a configuration, which was read from the world
pub record IsConfigRead (path : List ℕ) (before : Outside) (config : Config) (asked : Outside) : Type 0 where
  pub config_is : HoldsConfig (before.files path) config
  pub file : IsFileAsked path before asked

-- the file of a path is a configuration, whose targets were visited over the wires of the world, beside its door; this is the report of how they ended and of how many pages were served, and whether some were halted
pub record IsReportOfRun (path : List ℕ) (before after : Outside) (text : List ℕ) (halted : Bool) : Type 0 where
  pub config : Config
  pub asked : Outside
  pub read : IsConfigRead path before config asked
  pub ends : List TargetEnd
  pub served : ℕ
  pub run : IsServedRun config asked after ends served
  pub says : text ≡ report_text ends ++ served_line served
  pub halts : halted ≡ some_halted ends

-- the file of a path is a configuration, whose run was not begun, or is over
pub record MayHaveRun (path : List ℕ) (before after : Outside) : Type 0 where
  pub config : Config
  pub asked : Outside
  pub read : IsConfigRead path before config asked
  pub left : IsUnserved config asked after ⊎ ((ends : List TargetEnd) × (served : ℕ) × IsServedRun config asked after ends served)

-- how a run that gives no report leaves a world: the file alone was asked for; where memory was wanted its configuration may have been run
abbrev pub LeavesWorld : List ℕ → Outside → Outside → Stop → Type 0
LeavesWorld path before after Memory = IsFileAsked path before after ⊎ MayHaveRun path before after
LeavesWorld path before after _ = IsFileAsked path before after

-- a world was asked for the file of this path, which is a configuration, and behind that at most what its run may change did
pub record IsRunAsked (path : List ℕ) (before after : Outside) : Type 0 where
  pub config : Config
  pub asked : Outside
  pub read : IsConfigRead path before config asked
  pub changes : ChangesAtMost config.door asked after
