use Rattle.std.proofs.Common.{◌∙◌}
use Rattle.program_words.specs.declared.words.Command.TheVariants.{Help, Version}
use Rattle.program_words.specs.HelpTexts.{help_text, version_text}
use Rattle.program_words.specs.StopAnswers.{StopsAs}
use Rattle.program_words.proofs.Laws.{fixed_answer, stop_has}
use Rattle.script_commands.specs.ScriptAnswers.{IsScriptAnswer}
use Rattle.script_commands.specs.Replays.{IsReplayWith}
use Rattle.page_commands.specs.PageAnswers.{page_setting, IsPageAnswer}
use Rattle.page_commands.specs.PageTexts.{command_text}
use Rattle.run_command.specs.RunAnswers.{IsRunAnswer}
use Rattle.run_command.proofs.Laws.{run_stops, report_left}
use Rattle.bridge_cli.proofs.PrintLaws.{whole_printed, page_text_printed, bodies_printed, report_printed, report_printed_of}
use Rattle.bridge_cli.proofs.commands.run_up_to_printing.Goals as goal

pub returns-in-Help-clause-printed : goal.returns-in-Help-clause-printed
returns-in-Help-clause-printed g c = rw (c.in-Help.is, c.done.ensures.status, c.done.ensures.printed) (whole_printed Help _ _ _ _ tt (λ e. absurd cc) (λ now text e. fixed_answer _ help_text text (e ∙ c.help.ensures)))

pub returns-in-Version-clause-printed : goal.returns-in-Version-clause-printed
returns-in-Version-clause-printed g c =
    rw (c.in-Version.is, c.done-in-Version.ensures.status, c.done-in-Version.ensures.printed) (whole_printed Version _ _ _ _ tt (λ e. absurd cc) (λ now text e. fixed_answer _ version_text text (e ∙ c.version.ensures)))

pub returns-in_ok-text-in-OverPage-clause-printed : goal.returns-in_ok-text-in-OverPage-clause-printed
returns-in_ok-text-in-OverPage-clause-printed g c =
    rw (c.in-OverPage.is, c.done-in-OverPage.ensures.status, c.done-in-OverPage.ensures.printed) (
    page_text_printed c.in-OverPage.format c.in-OverPage.what _ _ _ _ c.page_printed.result c.page_printed.ensures c.in_ok-text-in-OverPage.ensures.text)

pub returns-in_err-text-in-OverPage-clause-stop : goal.returns-in_err-text-in-OverPage-clause-stop
returns-in_err-text-in-OverPage-clause-stop g c =
    rw c.in-OverPage.is (stop_has (StopsAs (IsPageAnswer (page_setting c.in-OverPage.format) (command_text c.in-OverPage.what)) _) _ _ c.from_residual.ensures.1 c.in_err-text-in-OverPage.ensures.stop)

pub returns-in_ok-script-in-Replay-clause-printed : goal.returns-in_ok-script-in-Replay-clause-printed
returns-in_ok-script-in-Replay-clause-printed g c =
    rw (c.in-Replay.is, c.done-in-Replay.ensures.status, c.done-in-Replay.ensures.printed) (
    bodies_printed c.in-Replay.scrapers c.in-Replay.page _ _ _ c.in_ok-script-in-Replay.script c.scrapers_of-scrapers.result c.in_ok-script-in-Replay.ensures.script)

pub returns-in_err-script-in-Replay-clause-stop : goal.returns-in_err-script-in-Replay-clause-stop
returns-in_err-script-in-Replay-clause-stop g c =
    rw c.in-Replay.is (stop_has (StopsAs (IsScriptAnswer (IsReplayWith c.in-Replay.page)) _) _ _ c.from_residual-in_err-script-in-Replay.ensures.1 (c.in_err-script-in-Replay.ensures.stop c.in-Replay.page))

pub returns-in_ok-report-in-Run-clause-printed : goal.returns-in_ok-report-in-Run-clause-printed
returns-in_ok-report-in-Run-clause-printed g c =
    rw c.in-Run.is (
    report_printed_of c.in-Run.path _ (g.W.World.seen c.args.world.now) (g.W.World.seen c.run.new.world) c.in_ok-report-in-Run.report.text.items c.in_ok-report-in-Run.report.halted _ _
    c.in_ok-report-in-Run.ensures.report c.report_answer.ensures.status c.report_answer.ensures.printed)

pub returns-in_ok-report-in-Run-clause-left : goal.returns-in_ok-report-in-Run-clause-left
returns-in_ok-report-in-Run-clause-left g c =
    rw (c.in-Run.is, c.report_answer.ensures.status) (
    report_left c.in-Run.path (g.W.World.seen c.args.world.now) (g.W.World.seen c.run.new.world) c.in_ok-report-in-Run.report.text.items c.in_ok-report-in-Run.report.halted c.in_ok-report-in-Run.ensures.report)

pub returns-in_err-report-in-Run-clause-stop : goal.returns-in_err-report-in-Run-clause-stop
returns-in_err-report-in-Run-clause-stop g c =
    rw c.in-Run.is (
    stop_has (StopsAs (λ bytes. IsRunAnswer c.in-Run.path (g.W.World.seen c.args.world.now) (g.W.World.seen c.run.new.world)) _) _ _ c.from_residual-in_err-report-in-Run.ensures.1
    (run_stops c.in-Run.path (g.W.World.seen c.args.world.now) (g.W.World.seen c.run.new.world) _ _ c.in_err-report-in-Run.ensures.stop c.in_err-report-in-Run.ensures.world))

pub returns-in-Ok-clause-printed : goal.returns-in-Ok-clause-printed
returns-in-Ok-clause-printed g c =
    rw (c.in-Load.is, c.done-in-Load.ensures.status, c.done-in-Load.ensures.printed) (
    report_printed c.in-Load.number c.in-Load.targets c.in-Load.rounds _ _ _ c.in-Ok.script c.in-Ok.ensures.script c.in-Ok.ensures.right c.in-Ok.ensures.bodies)
