use Rattle.family_metrics.proofs.Placed.{one_metric_of_the_page, one_metric_alone}
use Rattle.family_metrics.proofs.metric_laws.markers_have_one_place.Goals as goal

pub returns-clause-page : goal.returns-clause-page
returns-clause-page c = one_metric_of_the_page

pub returns-clause-alone : goal.returns-clause-alone
returns-clause-alone c = one_metric_alone
