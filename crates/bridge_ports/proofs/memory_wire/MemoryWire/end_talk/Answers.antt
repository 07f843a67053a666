use Rattle.std.proofs.Common.{◌∙◌, sym, subst, ap}
use Rattle.bridge_ports.specs.Plans.{MayEnd, talk_ended, kept_plan}
use Rattle.bridge_ports.proofs.PlanLaws.{talk_kept, plan_kept}
use Rattle.bridge_ports.proofs.memory_wire.MemoryWire.end_talk.Goals as goal

pub invariant_of-self : goal.invariant_of-self
invariant_of-self c =
    let w = c.self.inside in
    plan_kept w.place (kept_plan w.replies w.after w.most w.failing) w.faults w.calls w.readies w.lean w.talks c.finish.new.self c.args.end
    c.self.invariant (subst (MayEnd c.args.end) (sym c.self.view_is) c.requires) c.finish.ensures

pub returns : goal.returns
returns c =
    let w = c.self.inside in
    talk_kept w.place (kept_plan w.replies w.after w.most w.failing) w.faults w.calls w.readies w.lean w.talks c.finish.new.self c.args.end
    c.self.invariant (subst (MayEnd c.args.end) (sym c.self.view_is) c.requires) c.finish.ensures
    ∙ ap (talk_ended c.args.end) c.self.view_is
