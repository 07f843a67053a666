use Rattle.page_commands.specs.PageAnswers.{page_setting, IsPageAnswer}
use Rattle.page_commands.specs.ConvertTexts.{converted_text}
use Rattle.program_words.specs.StopAnswers.{StopsAs}
use Rattle.program_words.proofs.Laws.{stop_has}
use Rattle.page_commands.proofs.PageLaws.{page_answer}
use Rattle.page_commands.proofs.ConvertLaws.{tree_text}
use Rattle.page_commands.proofs.commands.converting.convert.Goals as goal

pub returns-in_err-page-clause-stop : goal.returns-in_err-page-clause-stop
returns-in_err-page-clause-stop g c = stop_has (StopsAs (IsPageAnswer (page_setting c.args.format) (converted_text c.args.target.now c.args.nanos)) _) _ _ c.from_residual.ensures.1 (c.in_err-page.ensures.stop (converted_text c.args.target.now c.args.nanos))

pub returns-clause-text : goal.returns-clause-text
returns-clause-text g c = page_answer _ _ c.in_ok-page.page (converted_text c.args.target.now c.args.nanos) _ c.in_ok-page.ensures.page (tree_text c.args.target.now c.args.nanos c.in_ok-page.page _ c.in_ok-first_event.ensures)
