use Rattle.std.proofs.Common.{List, inr, sym, subst}
use Rattle.page_model.specs.declared.event.Shown.{Shown}
use Rattle.federation_page.specs.Gathering.{AreShowable}
use Rattle.script_commands.specs.Printing.{CutsText, page_text}
use Rattle.script_commands.proofs.ShownLaws.{text_cut, page_seen}
use Rattle.script_commands.proofs.printing.end_replay.Goals as goal

pub print_asked_page-requires : goal.print_asked_page-requires
print_asked_page-requires g c = λ asked. subst AreShowable (sym c.as_slice.ensures.value) (c.requires.shown asked)

pub returns-in-Err-clause-printed : goal.returns-in-Err-clause-printed
returns-in-Err-clause-printed g c =
    text_cut (page_text c.args.page.now c.args.over.shown.items) _ _ c.in-Err.cut
    (subst (λ (seen : List Shown). CutsText (page_text c.args.page.now seen) (g.O.Sink.held c.args.output.now) (g.O.Sink.held c.print_asked_page.new.output) c.in-Err.cut) c.as_slice.ensures.value c.in-Err.ensures.printed)

pub returns-in-Ok-shelve-clause-printed : goal.returns-in-Ok-shelve-clause-printed
returns-in-Ok-shelve-clause-printed g c =
    page_seen c.args.page.now _ _ (g.O.Sink.held c.args.output.now) (g.O.Sink.held c.print_asked_page.new.output) c.as_slice.ensures.value c.in-Ok.ensures.printed

pub returns-clause-printed : goal.returns-clause-printed
returns-clause-printed g c = inr (page_seen c.args.page.now _ _ (g.O.Sink.held c.args.output.now) (g.O.Sink.held c.print_asked_page.new.output) c.as_slice.ensures.value c.in-Ok.ensures.printed)
