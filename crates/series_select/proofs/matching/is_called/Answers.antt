use Rattle.std.proofs.Common.{◌∙◌}
use Rattle.page_model.specs.declared.format.Format.TheVariants.{OpenMetrics}
use Rattle.page_model.specs.Suffixes.{suffixes}
use Rattle.series_select.specs.Selection.{is_called}
use Rattle.series_select.proofs.Kept.{named_by_ending, other_name}
use Rattle.series_select.proofs.matching.is_called.Goals as goal

pub returns-in-Some : goal.returns-in-Some
unfolding is_called
returns-in-Some c =
    c.is_ending.ensures
    ∙ named_by_ending c.args.family.now.name c.args.name.now c.in-Some.ending.now (suffixes OpenMetrics c.args.family.now.kind) (rw c.as_bytes.ensures at c.in-Some.ensures.cases.0) (rw c.as_bytes.ensures at c.in-Some.ensures.cases.1)

pub returns-in-None : goal.returns-in-None
unfolding is_called
returns-in-None c = other_name c.args.family.now.name c.args.name.now (suffixes OpenMetrics c.args.family.now.kind) (rw c.as_bytes.ensures at c.in-None.ensures.cases)
