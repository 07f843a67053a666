use Rattle.std.proofs.Common.{◌∙◌, ◌&&◌, ◌==◌, filter_map, refl, sym, ap}
use Rattle.std.specs.List.{list_all}
use Rattle.sample_groups.specs.Groups.{count_in}
use Rattle.sample_groups.specs.Extras.{extra_in}
use Rattle.sample_groups.proofs.Grown.{whole_by, never_whole}
use Rattle.sample_groups.proofs.group.Group.is_whole.Goals as goal

pub returns-then-is_unbounded : goal.returns-then-is_unbounded
returns-then-is_unbounded c = ap (λ b. b && c.counts_are.result) (sym c.if-is_unbounded.true)
    ∙ whole_by c.self.inside.parts c.as_slice-parts.result.now (extra_in c.self.inside.extra) c.args.self.now c.in-Some.last c.is_unbounded.result c.counts_are.result
    c.as_slice-parts.ensures c.self.view_is c.in-Some.ensures c.is_unbounded.ensures c.counts_are.ensures

pub returns-else-is_unbounded : goal.returns-else-is_unbounded
returns-else-is_unbounded c =
    let counts = list_all (λ n. n == c.in-Some.last.count) (filter_map count_in c.as_slice-parts.result.now) in
    c.if-is_unbounded.false ∙ ap (λ b. b && counts) (sym c.if-is_unbounded.false)
    ∙ whole_by c.self.inside.parts c.as_slice-parts.result.now (extra_in c.self.inside.extra) c.args.self.now c.in-Some.last c.is_unbounded.result counts
    c.as_slice-parts.ensures c.self.view_is c.in-Some.ensures c.is_unbounded.ensures refl

pub returns-in-None : goal.returns-in-None
returns-in-None c = never_whole c.self.inside.parts c.as_slice-parts.result.now (extra_in c.self.inside.extra) c.args.self.now c.as_slice-parts.ensures c.self.view_is c.in-None.ensures
