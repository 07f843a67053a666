use Rattle.std.proofs.Common.{refl}
use Rattle.std.specs.Prelude.{is_some}
use Rattle.script_commands.proofs.ShownLaws.{no_page, asked_page}
use Rattle.script_commands.proofs.printing.print_asked_page.Goals as goal

pub print_page-requires : goal.print_page-requires
print_page-requires g c = c.requires (rw c.in-Some.is refl)

pub returns-in-Some-clause-printed : goal.returns-in-Some-clause-printed
returns-in-Some-clause-printed g c = asked_page c.args.page.now _ c.args.shown.now _ _ c.print_page.result c.in-Some.is c.print_page.ensures.printed

pub returns-in-None-clause-printed : goal.returns-in-None-clause-printed
returns-in-None-clause-printed g c = no_page c.args.page.now c.args.shown.now _ c.in-None.is
