-- The laws that have a line for each command, and what follows: there is one answer.
use Rattle.std.proofs.Common.{◌≡◌, ℕ, List, Option, refl, sym, subst, ◌∙◌}
use Rattle.std.specs.Prelude.{⊤}
use Rattle.std.specs.Io.KnownBytes.{Appends}
use Rattle.bridge_ports.specs.Inputs.{IsInput}
use Rattle.bridge_ports.specs.Outside.{Outside}
use Rattle.program_words.specs.declared.words.Command.{Command}
use Rattle.program_words.specs.declared.words.Command.TheVariants.{Help, Version, OverPage, Replay, Run, Load}
use Rattle.program_words.specs.Statuses.{IsTold}
use Rattle.program_words.specs.CommandWords.{Reading, of_nothing, of_input, of_file, command_row}
use Rattle.page_commands.specs.PageAnswers.{page_setting}
use Rattle.page_commands.specs.PageTexts.{command_text}
use Rattle.bridge_cli.specs.Answers.{Answers, Says, answers, unread, wanting, in_part}
use Rattle.bridge_cli.specs.CommandReads.{IsAllTold}
use Rattle.bridge_cli.specs.CommandRuns.{IsWritten, written_whole, written_part, WritesAnswer, IsOnlyAnswer}
use Rattle.script_commands.specs.Replays.{IsReplayWith}
use Rattle.load_pages.specs.GeneratedScripts.{generated_script}
use Rattle.script_commands.proofs.Laws.{report_once, replay_with_once, script_once_at}
use Rattle.page_commands.proofs.Laws.{page_once_at}
use Rattle.program_words.proofs.Laws.{AreSame, fixed_once, same_input}

-- ---- a line for each command

-- two answers of a command are to the same bytes, where it reads an input; none is to those of a file alone
abbrev AreToSame : Reading → List ℕ → List ℕ → Type 0
AreToSame of_nothing bytes others = ⊤
AreToSame (of_input most) bytes others = bytes ≡ others
AreToSame (of_file path most) bytes others = ⊥

-- a command has one answer; where it reads nothing, to all bytes
command_once : (command : Command) (before after : Outside) (bytes others : List ℕ) (s r : ℕ) (t u : List ℕ) → AreToSame (command_row command).reads bytes others → Answers command before after bytes s t
    → Answers command before after others r u → AreSame s r t u
command_once Help before after bytes others s r t u same a b = fixed_once _ s r t u a b
command_once Version before after bytes others s r t u same a b = fixed_once _ s r t u a b
command_once (OverPage format what) before after bytes others s r t u same a b = page_once_at (page_setting format) (command_text what) bytes others s r t u same a b
command_once (Replay scrapers page) before after bytes others s r t u same a b = script_once_at (IsReplayWith page) (replay_with_once page) bytes others s r t u same a b
command_once (Run path) before after bytes others s r t u same a b = absurd same
command_once (Load number targets rounds) before after bytes others s r t u same a b = (a.done ∙ sym b.done, report_once (generated_script number targets rounds) t u a.reports b.reports)

-- ---- what follows

-- what is told of an input is one
to_same : (reads : Reading) (left : Option (List ℕ)) (bytes others : List ℕ) → IsAllTold reads left → IsInput left bytes → IsInput left others → AreToSame reads bytes others
to_same of_nothing left bytes others told a b = tt
to_same (of_input most) left bytes others told a b = same_input left bytes others told a b
to_same (of_file path most) left bytes others told a b = absurd told

-- at the statuses with a text a command comes to an answer
told_answer : (command : Command) (before after : Outside) (bytes : List ℕ) (status : ℕ) (text : List ℕ) → IsTold status → Says command before after bytes status text → Answers command before after bytes status text
told_answer command before after bytes status text told (answers s t answer) = answer
told_answer command before after bytes status text told unread = absurd (told.0 refl)
told_answer command before after bytes status text told wanting = absurd (told.2 refl)
told_answer command before after bytes status text told (in_part t part) = absurd (told.2 refl)

-- and its text was written whole
told_written : (status : ℕ) (text : List ℕ) (held now : Option (List ℕ)) (code : ℕ) → IsTold code → IsWritten status text held now code → (code ≡ status) × Appends held now text
told_written status text held now code told (written_whole all) = (refl, all)
told_written status text held now code told (written_part front) = absurd (told.1 refl)

-- what was answered is the only answer
pub only_answer : (command : Command) (left : Option (List ℕ)) (before after : Outside) (held now : Option (List ℕ)) (code : ℕ) → WritesAnswer command left before after held now code → IsTold code
    → IsOnlyAnswer command left before after held now code
only_answer command left before after held now code answered told all_told bytes other text on_input answer =
    let all = told_written answered.status answered.text held now code told answered.written in
    let given = told_answer command before after answered.says.bytes answered.status answered.text (subst IsTold all.0 told) answered.says.says in
    let same = command_once command before after answered.says.bytes bytes answered.status other answered.text text (to_same (command_row command).reads left answered.says.bytes bytes all_told answered.says.on_input on_input) given answer in
    let Written : List ℕ → Type 0 = λ t. Appends held now t in
    (all.0 ∙ same.0, subst Written same.1 all.1)
