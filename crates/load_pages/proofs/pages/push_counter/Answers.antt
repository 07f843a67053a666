use Rattle.std.proofs.Common.{codes}
use Rattle.load_pages.specs.GeneratedPages.{counter_text}
use Rattle.load_pages.proofs.LoadLaws.{two_more, on_ok}
use Rattle.load_pages.proofs.pages.push_counter.Goals as goal

pub returns : goal.returns
unfolding counter_text
returns c = on_ok c.push_all_series.result _ _ (λ e. two_more _ (codes "# TYPE load_requests counter\n") _ _ _ c.in_ok-extend_from_slice.ensures.items e) c.push_all_series.ensures
