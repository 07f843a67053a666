use Rattle.std.proofs.Common.{codes}
use Rattle.load_pages.specs.GeneratedPages.{histogram_text}
use Rattle.load_pages.proofs.LoadLaws.{three_more, on_ok}
use Rattle.load_pages.proofs.pages.push_histogram.Goals as goal

pub returns : goal.returns
unfolding histogram_text
returns c = on_ok c.push_totals.result _ _
    (λ e. three_more _ (codes "# TYPE load_seconds histogram\n") _ _ _ _ _ c.in_ok-extend_from_slice.ensures.items c.in_ok-push_buckets.ensures e) c.push_totals.ensures
