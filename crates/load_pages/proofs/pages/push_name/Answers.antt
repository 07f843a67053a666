use Rattle.std.proofs.Common.{codes}
use Rattle.std.specs.Fmt.{decimal}
use Rattle.load_pages.specs.GeneratedPages.{series_name}
use Rattle.load_pages.proofs.LoadLaws.{three_more, put_last}
use Rattle.load_pages.proofs.pages.push_name.Goals as goal

pub returns : goal.returns
unfolding series_name
returns c =
    put_last c.extend_from_slice-2.result _ (codes "\"}") _ _ c.extend_from_slice-2.ensures.items
    (λ e. three_more _ (codes "load_requests_total{series=\"") (decimal c.args.series) (codes "\"}") _ _ _ c.in_ok-extend_from_slice.ensures.items c.in_ok-push_digits.ensures e)
