use Rattle.std.proofs.Common.{◌∙◌, cond, None, ap, sym}
use Rattle.sample_groups.specs.Extras.{extra_in}
use Rattle.sample_groups.proofs.Grown.{time_kept}
use Rattle.sample_groups.proofs.group.Group.time.Goals as goal

pub returns-then-not-has_measure : goal.returns-then-not-has_measure
returns-then-not-has_measure c = ap (λ b. cond b (extra_in c.self.inside.extra).time None) (sym c.if-not-has_measure.true)
    ∙ time_kept c.self.inside.parts c.as_slice.result.now (extra_in c.self.inside.extra) c.args.self.now c.has_measure.result c.as_slice.ensures c.self.view_is c.has_measure.ensures

pub returns : goal.returns
returns c = c.kept_time.ensures ∙ ap (λ b. cond b (extra_in c.self.inside.extra).time None) (sym c.if-not-has_measure.false)
    ∙ time_kept c.self.inside.parts c.as_slice.result.now (extra_in c.self.inside.extra) c.args.self.now c.has_measure.result c.as_slice.ensures c.self.view_is c.has_measure.ensures
