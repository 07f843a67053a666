-- What a command answers to the bytes on its input, or of a world: a status and a text. The bridge's own.
use Rattle.std.specs.Prelude.{◌≡◌, ◌⊎◌, ℕ, List, []}
use Rattle.bridge_ports.specs.Outside.{Outside}
use Rattle.replay_script.specs.declared.script.Script.{Script}
use Rattle.program_words.specs.declared.status.Status.TheVariants.{ReadFailed, WantOfMemory}
use Rattle.program_words.specs.declared.words.Command.{Command}
use Rattle.program_words.specs.declared.words.Command.TheVariants.{Help, Version, OverPage, Replay, Run, Load}
use Rattle.program_words.specs.Statuses.{code_of}
use Rattle.program_words.specs.HelpTexts.{help_text, version_text, IsFixedAnswer}
use Rattle.page_commands.specs.PageAnswers.{page_setting, IsPageAnswer}
use Rattle.page_commands.specs.PageTexts.{command_text}
use Rattle.script_commands.specs.Replays.{IsReplayWith, MayBeCut}
use Rattle.script_commands.specs.ScriptAnswers.{IsScriptInput, IsScriptAnswer, IsReportAnswer}
use Rattle.load_pages.specs.GeneratedScripts.{generated_script}
use Rattle.script_commands.specs.Loads.{IsLoadReport, MayBeReported}
use Rattle.run_command.specs.RunAnswers.{IsRunAnswer}

-- what a command answers to the bytes on the input; of `replay` it is the same for every number of scrapers, and of `run` it depends on the world before and after it alone
abbrev pub Answers : Command → Outside → Outside → List ℕ → ℕ → List ℕ → Type 0
Answers Help before after bytes = IsFixedAnswer help_text
Answers Version before after bytes = IsFixedAnswer version_text
Answers (OverPage format what) before after bytes = IsPageAnswer (page_setting format) (command_text what) bytes
Answers (Replay scrapers page) before after bytes = IsScriptAnswer (IsReplayWith page) bytes
Answers (Run path) before after bytes = IsRunAnswer path before after
Answers (Load number targets rounds) before after bytes = IsReportAnswer (generated_script number targets rounds)

-- a command visits the targets of this script, over wires in memory, where these bytes are on the input
abbrev pub VisitsScript : Command → List ℕ → Script → Type 0
VisitsScript (Replay scrapers page) bytes script = IsScriptInput script bytes
VisitsScript (Load number targets rounds) bytes script = script ≡ generated_script number targets rounds
VisitsScript _ bytes script = ⊥

-- what a command that prints in pieces has printed where memory was wanting: a text of some of the events, without the page, or all; and of `load` nothing, or the report of some visits, or of all
abbrev pub CutAnswers : Command → List ℕ → List ℕ → Type 0
CutAnswers (Replay scrapers page) bytes text = (script : Script) × IsScriptInput script bytes × MayBeCut page script text
CutAnswers (Load number targets rounds) bytes text = MayBeReported (generated_script number targets rounds) text ⊎ IsLoadReport (generated_script number targets rounds) text
CutAnswers _ bytes text = ⊥

-- what a command that prints in pieces printed where memory was wanting: a text that is its answer at that status, or a part of one
abbrev pub SaysPieces : Command → Outside → Outside → List ℕ → ℕ → List ℕ → Type 0
SaysPieces command before after bytes status text = Answers command before after bytes status text ⊎ CutAnswers command bytes text

-- what a command comes to: its answer; nothing, where a read failed; nothing, or a part of its text, where memory was wanting
pub data Says (command : Command) (before after : Outside) (bytes : List ℕ) : ℕ → List ℕ → Type 0 where
  answers : (status : ℕ) (text : List ℕ) → Answers command before after bytes status text → Says command before after bytes status text
  unread : Says command before after bytes (code_of ReadFailed) []
  wanting : Says command before after bytes (code_of WantOfMemory) []
  in_part : (text : List ℕ) → CutAnswers command bytes text → Says command before after bytes (code_of WantOfMemory) text
