use Rattle.std.proofs.Common.{◌∙◌, ◌||◌, ap}
use Rattle.exact_decimal.specs.declared.number.Number.TheVariants.{Finite}
use Rattle.exact_decimal.specs.Order.{same}
use Rattle.sample_groups.specs.Places.{is_place_in}
use Rattle.sample_groups.proofs.Adding.{one_more_among}
use Rattle.sample_groups.proofs.places.Places.insert.Goals as goal

pub returns : goal.returns
returns c = λ d. one_more_among c.args.at.now d c.self.inside.set.keys c.insert.new.self.keys (c.in_ok-insert.ensures.updates.0 (record { at = d }))
    ∙ ap (λ ps. same (Finite c.args.at.now) (Finite d) || is_place_in ps d) c.self.view_is
