use Rattle.script_commands.specs.ScriptAnswers.{IsScriptAnswer}
use Rattle.script_commands.specs.Replays.{IsReplayWith}
use Rattle.program_words.specs.StopAnswers.{StopsAs}
use Rattle.program_words.proofs.Laws.{stop_has}
use Rattle.script_commands.proofs.ScriptLaws.{script_fault, holds_script}
use Rattle.script_commands.proofs.scripts.whole_script.Goals as goal

pub returns-in_err-read-clause-stop : goal.returns-in_err-read-clause-stop
returns-in_err-read-clause-stop g c = λ page.
    stop_has (StopsAs (IsScriptAnswer (IsReplayWith page)) _) _ _ c.from_residual-in_err-read.ensures.1 (script_fault page _ c.in_ok-bytes.bytes.items _ _ c.in_ok-bytes.ensures.bytes c.as_slice.ensures.value c.in_err-read.ensures.fault)

pub returns-clause-script : goal.returns-clause-script
returns-clause-script g c = holds_script _ c.in_ok-bytes.bytes.items _ _ c.in_ok-bytes.ensures.bytes c.as_slice.ensures.value c.in_ok-read.ensures.script

pub returns-in_err-bytes-clause-stop : goal.returns-in_err-bytes-clause-stop
returns-in_err-bytes-clause-stop g c = λ page. stop_has (StopsAs (IsScriptAnswer (IsReplayWith page)) _) _ _ c.from_residual.ensures.1 (c.in_err-bytes.ensures.stop page)
