use Rattle.std.proofs.Common.{◌∙◌, ap, sym, subst, filter_map}
use Rattle.sample_groups.specs.Groups.{Gathered, quantile_in, group_of_parts}
use Rattle.sample_groups.specs.Places.{has_place}
use Rattle.sample_groups.specs.Extras.{extra_in}
use Rattle.sample_groups.specs.Kept.{KnowsPlaces}
use Rattle.sample_groups.proofs.group.Group.has_place.Goals as goal

pub has_place-requires : goal.has_place-requires
has_place-requires c = subst (λ ps. KnowsPlaces (extra_in c.self.inside.extra).places (filter_map quantile_in ps)) (sym c.as_slice.ensures) c.self.invariant

pub returns : goal.returns
unfolding group_of_parts
returns c = c.has_place.ensures ∙ ap (λ ps. has_place (filter_map quantile_in ps) c.args.at.now) c.as_slice.ensures
    ∙ ap (λ (g : Gathered). has_place g.quantiles c.args.at.now) c.self.view_is
