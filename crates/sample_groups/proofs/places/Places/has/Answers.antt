use Rattle.std.proofs.Common.{◌∙◌, ap}
use Rattle.sample_groups.specs.Places.{is_place_in}
use Rattle.sample_groups.proofs.Adding.{among}
use Rattle.sample_groups.proofs.places.Places.has.Goals as goal

pub returns : goal.returns
returns c = c.contains.ensures ∙ among c.args.at.now c.self.inside.set.keys ∙ ap (λ ps. is_place_in ps c.args.at.now) c.self.view_is
