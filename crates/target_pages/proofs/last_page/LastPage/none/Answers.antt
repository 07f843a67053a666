use Rattle.std.proofs.Common.{sym, ap, ◌∙◌}
use Rattle.target_pages.specs.Stretches.{without_info}
use Rattle.target_pages.proofs.SeriesPages.{nothing_left}
use Rattle.target_pages.proofs.last_page.LastPage.none.Goals as goal

pub invariant_of-result : goal.invariant_of-result
invariant_of-result c = c.empty-2.ensures ∙ sym (ap without_info c.empty.ensures ∙ nothing_left)
