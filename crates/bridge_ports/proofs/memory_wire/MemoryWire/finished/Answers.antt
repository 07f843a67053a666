use Rattle.std.proofs.Common.{◌∙◌, sym, ap, length}
use Rattle.bridge_ports.specs.Plans.{MemoryState, kept_plan}
use Rattle.bridge_ports.proofs.PlanLaws.{length-kept}
use Rattle.bridge_ports.proofs.memory_wire.MemoryWire.finished.Goals as goal

pub returns : goal.returns
returns c =
    let w = c.self.inside in
    ap length c.finished.ensures.talks
    ∙ sym (length-kept (kept_plan w.replies w.after w.most w.failing w.talks.keeps) w.talks.kept)
    ∙ ap (λ (m : MemoryState). length m.talks) c.self.view_is
