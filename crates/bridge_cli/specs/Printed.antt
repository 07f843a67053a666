-- What is to be printed, and what was.
-- The bridge's own.
use Rattle.std.specs.Prelude.{◌≡◌, ◌≢◌, ◌⊎◌, ℕ, true, false, ◌++◌, codes, List, [], Option, ⊤}
use Rattle.std.specs.Cow.{cow_slice_items}
use Rattle.std.specs.Io.KnownBytes.{Appends}
use Rattle.bridge_ports.specs.Writing.{WroteFront}
use Rattle.otlp_json.specs.Texts.{request_text}
use Rattle.replay_script.specs.RightScripts.{IsRightScript}
use Rattle.bridge_cli.specs.declared.answer.Printed.{Printed}
use Rattle.bridge_cli.specs.declared.answer.Printed.TheVariants.{Whole, Tree, Bodies, Report}
use Rattle.program_words.specs.declared.status.Status.{Status}
use Rattle.program_words.specs.declared.status.Status.TheVariants.{Done, WriteFailed, WantOfMemory}
use Rattle.program_words.specs.Statuses.{code_of}
use Rattle.script_commands.specs.Replays.{IsReplayWith, MayBeCut}
use Rattle.program_words.specs.declared.stop.Stop.{Stop}
use Rattle.program_words.specs.declared.words.Command.{Command}
use Rattle.program_words.specs.CommandWords.{command_row, uses_shelf}
use Rattle.bridge_ports.specs.Outside.{Outside}
use Rattle.load_pages.specs.GeneratedScripts.{TakesAllBodies}
use Rattle.script_commands.specs.Loads.{IsLoadReport, MayBeReported}
use Rattle.bridge_ports.specs.Worlds.{ShelvedPair}
use Rattle.script_commands.specs.Shelves.{IsShelfOf}
use Rattle.program_words.specs.StopAnswers.{IsStopAnswer}
use Rattle.bridge_cli.specs.Answers.{Says, SaysPieces}
use Rattle.program_words.specs.InputAnswers.{HasAnswer}
use Rattle.bridge_cli.specs.CommandRuns.{HasVisitAnswer}

-- this is the text that is to be printed
abbrev pub Gives : Printed → List ℕ → Type 0
Gives (Whole t) text = text ≡ cow_slice_items t
Gives (Tree request) text = text ≡ request_text request ++ codes "\n"
Gives (Bodies script scrapers page) text = IsReplayWith page script text
Gives (Report script) text = IsLoadReport script text

-- this is a text of which a front may be printed
abbrev pub GivesPart : Printed → List ℕ → Type 0
GivesPart (Whole t) text = text ≡ cow_slice_items t
GivesPart (Tree request) text = text ≡ request_text request ++ codes "\n"
GivesPart (Bodies script scrapers page) text = MayBeCut page script text
GivesPart (Report script) text = MayBeReported script text ⊎ IsLoadReport script text

-- nothing is to be printed
abbrev pub IsNothing : Printed → Type 0
IsNothing (Whole t) = cow_slice_items t ≡ []
IsNothing (Tree request) = ⊥
IsNothing (Bodies script scrapers page) = ⊥
IsNothing (Report script) = ⊥

-- what is printed in pieces is of a right script, and the command is done
abbrev pub IsPrintable : Status → Printed → Type 0
IsPrintable status (Whole t) = ⊤
IsPrintable status (Tree request) = ⊤
IsPrintable status (Bodies script scrapers page) = IsRightScript script × (status ≡ Done)
IsPrintable status (Report script) = IsRightScript script × TakesAllBodies script × (status ≡ Done)

-- all that making what is printed takes memory for is made before it is printed
abbrev pub IsWhole : Printed → Type 0
IsWhole (Whole t) = ⊤
IsWhole (Tree request) = ⊤
IsWhole (Bodies script scrapers page) = ⊥
IsWhole (Report script) = ⊥

-- how printing ended: the text is printed; a write failed; or memory was wanted for the next piece
pub data Ended (status : Status) (p : Printed) (before after : Option (List ℕ)) : ℕ → Type 0 where
  printed : (text : List ℕ) → Gives p text → Appends before after text → Ended status p before after (code_of status)
  stopped : (text : List ℕ) → GivesPart p text → WroteFront before after text → Ended status p before after (code_of WriteFailed)
  wanting : (text : List ℕ) → GivesPart p text → Appends before after text → ¬ IsWhole p → Ended status p before after (code_of WantOfMemory)

-- what is printed was done, so the wires that it was made over are on the shelf
abbrev pub IsShelved : Printed → Option (List ShelvedPair) → Option (List ShelvedPair) → Type 0
IsShelved (Whole t) before after = ⊤
IsShelved (Tree request) before after = ⊤
IsShelved (Bodies script scrapers page) before after = IsShelfOf script before after
IsShelved (Report script) before after = IsShelfOf script before after

-- ---- what a command has to print

-- what is printed of visits over wires in memory answers a command over the script that is visited; else the command puts nothing on a shelf
abbrev pub AnswersVisits : Command → Option (List ℕ) → Printed → Type 0
AnswersVisits command left (Whole t) = (command_row command).uses ≢ uses_shelf
AnswersVisits command left (Tree request) = (command_row command).uses ≢ uses_shelf
AnswersVisits command left (Bodies script scrapers page) = (text : List ℕ) → IsReplayWith page script text → HasVisitAnswer command left script text
AnswersVisits command left (Report script) = (text : List ℕ) → IsLoadReport script text → HasVisitAnswer command left script text

-- what a command, at a status, has to print; of a world before it and now, which is left alone where all is made before it is printed
pub record IsPrintedOf (command : Command) (left : Option (List ℕ)) (before after : Outside) (status : Status) (p : Printed) : Type 0 where
  pub gives : (now : Outside) → (IsWhole p → now ≡ after) → (text : List ℕ) → Gives p text → HasAnswer (Says command before now) left (code_of status) text
  pub parts : (now : Outside) (text : List ℕ) → GivesPart p text → ¬ IsWhole p → HasAnswer (SaysPieces command before now) left (code_of WantOfMemory) text
  pub pieces : (now : Outside) → (IsWhole p → now ≡ after) → status ≡ WantOfMemory → (text : List ℕ) → Gives p text → IsNothing p ⊎ HasAnswer (SaysPieces command before now) left (code_of WantOfMemory) text
  pub printable : IsPrintable status p
  pub whole : (command_row command).prints_pieces ≡ false → IsWhole p
  pub shelves : ¬ IsWhole p → (command_row command).uses ≡ uses_shelf
  pub visits : status ≡ Done → AnswersVisits command left p

-- the status of a command that has something to print: done; or of one that prints in pieces, where memory was wanting for a part
abbrev pub IsStatusSoFar : Command → Status → Type 0
IsStatusSoFar command status = (status ≡ Done) ⊎ ((status ≡ WantOfMemory) × ((command_row command).prints_pieces ≡ true))

-- the answer to a stop is printed whole
abbrev pub IsStopPrinted : Stop → Status → Printed → Type 0
IsStopPrinted stop status (Whole t) = IsStopAnswer stop status (cow_slice_items t)
IsStopPrinted stop status (Tree request) = ⊥
IsStopPrinted stop status (Bodies script scrapers page) = ⊥
IsStopPrinted stop status (Report script) = ⊥

-- this text of a page is what is to be printed, and all that it takes memory for is made
abbrev pub IsPageTextPrinted : List ℕ → Printed → Type 0
IsPageTextPrinted text (Whole t) = cow_slice_items t ≡ text
IsPageTextPrinted text (Tree request) = request_text request ++ codes "\n" ≡ text
IsPageTextPrinted text (Bodies script scrapers page) = ⊥
IsPageTextPrinted text (Report script) = ⊥

-- the report of a run is printed whole
abbrev pub IsReportPrinted : List ℕ → Printed → Type 0
IsReportPrinted text (Whole t) = cow_slice_items t ≡ text
IsReportPrinted text (Tree request) = ⊥
IsReportPrinted text (Bodies script scrapers page) = ⊥
IsReportPrinted text (Report script) = ⊥
