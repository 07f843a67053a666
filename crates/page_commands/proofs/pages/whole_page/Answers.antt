use Rattle.std.proofs.Common.{refl}
use Rattle.page_commands.specs.PageAnswers.{page_setting, IsPageAnswer}
use Rattle.program_words.specs.StopAnswers.{StopsAs}
use Rattle.program_words.proofs.Laws.{stop_has}
use Rattle.page_commands.proofs.PageLaws.{fed_in, fault_answer, holds_page}
use Rattle.page_commands.proofs.pages.whole_page.Goals as goal

pub read_page-requires : goal.read_page-requires
read_page-requires g c = record { format = refl; stands = c.in_ok-reader.ensures.stands }

pub returns-in_err-page-clause-stop : goal.returns-in_err-page-clause-stop
returns-in_err-page-clause-stop g c = λ text_of.
    stop_has (StopsAs (IsPageAnswer (page_setting c.args.format) text_of) _) _ _ c.from_residual-in_err-page.ensures.1 (c.in_err-page.ensures.stop c.args.format text_of)

pub returns-in_err-finish-clause-stop : goal.returns-in_err-finish-clause-stop
returns-in_err-finish-clause-stop g c = λ text_of.
    let fed = fed_in c.args.format (g.I.Source.left c.args.input.now) c.in_ok-reader.reader c.in_ok-page.page c.in_ok-reader.ensures.format c.in_ok-page.ensures.fed in
    stop_has (StopsAs (IsPageAnswer (page_setting c.args.format) text_of) _) _ _ c.from_residual-in_err-finish.ensures.1 (fault_answer _ _ c.in_ok-page.page _ text_of fed (c.in_err-finish.ensures c.args.format))

pub returns-clause-page : goal.returns-clause-page
returns-clause-page g c =
    let fed = fed_in c.args.format (g.I.Source.left c.args.input.now) c.in_ok-reader.reader c.in_ok-page.page c.in_ok-reader.ensures.format c.in_ok-page.ensures.fed in
    holds_page _ _ c.in_ok-page.page _ fed (c.in_ok-finish.ensures c.args.format)
