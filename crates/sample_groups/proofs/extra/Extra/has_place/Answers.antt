use Rattle.std.proofs.Common.{◌∙◌, ap, sym, subst, filter_map}
use Rattle.sample_groups.specs.Groups.{quantile_in}
use Rattle.sample_groups.specs.ExtraValues.{ExtraValue}
use Rattle.sample_groups.specs.Kept.{KnowsPlaces}
use Rattle.sample_groups.proofs.extra.Extra.has_place.Goals as goal

pub returns-in-Some : goal.returns-in-Some
returns-in-Some c = c.has.ensures
    ∙ subst (λ o. KnowsPlaces o (filter_map quantile_in c.args.parts.now)) (ap (λ (x : ExtraValue). x.places) (sym c.self.view_is) ∙ c.in-Some.is) c.requires c.args.at.now
