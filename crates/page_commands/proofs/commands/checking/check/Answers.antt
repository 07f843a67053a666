use Rattle.page_commands.specs.PageAnswers.{page_setting, IsPageAnswer}
use Rattle.page_commands.specs.CheckTexts.{checked_text, counted_text}
use Rattle.program_words.specs.StopAnswers.{StopsAs}
use Rattle.program_words.proofs.Laws.{stop_has}
use Rattle.page_commands.proofs.PageLaws.{count_answer}
use Rattle.page_commands.proofs.commands.checking.check.Goals as goal

pub returns-in_err-counts-clause-stop : goal.returns-in_err-counts-clause-stop
returns-in_err-counts-clause-stop g c = stop_has (StopsAs (IsPageAnswer (page_setting c.args.format) checked_text) _) _ _ c.from_residual.ensures.1 (c.in_err-counts.ensures.stop checked_text)

pub returns-clause-text : goal.returns-clause-text
returns-clause-text g c = count_answer _ _ c.in_ok-counts.counts counted_text _ c.in_ok-counts.ensures.counts c.in_ok-counted_text.ensures
