use Rattle.std.proofs.Common.{◌∙◌, ap, sym, is_eq}
use Rattle.exact_decimal.specs.declared.number.Number.TheVariants.{Finite}
use Rattle.exact_decimal.specs.Order.{same}
use Rattle.label_sets.specs.Lists.{some_passes}
use Rattle.page_model.specs.declared.page.Quantile.{Quantile}
use Rattle.sample_groups.specs.Groups.{quantile_in}
use Rattle.sample_groups.proofs.Adding.{same_is}
use Rattle.sample_groups.proofs.parts.is_at.Goals as goal

pub returns-in-Quantile : goal.returns-in-Quantile
returns-in-Quantile c = c.is_eq.ensures ∙ ap is_eq c.compare.ensures ∙ same_is c.in-Quantile.quantile.at c.args.at.now
    ∙ ap (λ p. some_passes (λ (q : Quantile). same (Finite q.at) (Finite c.args.at.now)) (quantile_in p)) (sym c.in-Quantile.is)
