use Rattle.std.proofs.Common.{◌∙◌, ap, false}
use Rattle.bridge_ports.specs.Plans.{MemoryState}
use Rattle.bridge_ports.proofs.PlanLaws.{forgotten_told, forgotten_follows}
use Rattle.bridge_ports.proofs.memory_wire.MemoryWire.forget.Goals as goal

pub invariant_of-self : goal.invariant_of-self
invariant_of-self c =
    let w = c.self.inside in
    forgotten_follows w.replies w.after w.most w.failing w.talks c.forget.new.self c.self.invariant c.forget.ensures

pub returns : goal.returns
returns c =
    let w = c.self.inside in
    forgotten_told w.place w.replies w.after w.most w.failing w.faults w.calls w.readies w.lean w.talks c.forget.new.self c.forget.ensures
    ∙ ap (λ (m : MemoryState). record m { plan = record m.plan { keeps = false } }) c.self.view_is
