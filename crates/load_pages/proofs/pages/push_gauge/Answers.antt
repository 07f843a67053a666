use Rattle.std.proofs.Common.{codes}
use Rattle.load_pages.specs.GeneratedPages.{gauge_text}
use Rattle.load_pages.proofs.LoadLaws.{two_more, on_ok}
use Rattle.load_pages.proofs.pages.push_gauge.Goals as goal

pub returns : goal.returns
unfolding gauge_text
returns c = on_ok c.push_sample.result _ _ (λ e. two_more _ (codes "# TYPE load_level gauge\n") _ _ _ c.in_ok-extend_from_slice.ensures.items e) c.push_sample.ensures
