use Rattle.std.proofs.Common.{◌≡◌, ◌∙◌, sym, ap}
use Rattle.std.proofs.lemmas.Bool.{false≢true}
use denote.Enum.Bare.{sameb}
use Rattle.bridge_ports.specs.contracts.talk.End.{the_type}
use Rattle.bridge_ports.specs.declared.talk.End.{End}
use Rattle.bridge_ports.specs.declared.talk.End.TheVariants.{ConnectFailed}
use Rattle.bridge_ports.specs.declared.talk.MemoryReply.{MemoryReply}
use Rattle.bridge_ports.specs.Plans.{MemoryState, reply_now, kept_plan}
use Rattle.bridge_ports.proofs.PlanLaws.{plan_connected}
use Rattle.bridge_ports.proofs.memory_wire.MemoryWireWire.connect.Goals as goal

pub invariant_of-self : goal.invariant_of-self
invariant_of-self c =
    let w = c.self.inside in
    plan_connected (kept_plan w.replies w.after w.most w.failing) w.talks c.connect.new.self
    c.self.invariant (ap (λ (m : MemoryState). m.stage) (c.self.view_is ∙ c.count_call.ensures.counted) ∙ c.requires)
    (λ (is : _).
    let end : c.reply.result.end ≡ ConnectFailed =
    ap (λ (r : MemoryReply). r.end) (c.reply.ensures ∙ ap reply_now (sym c.self.view_is)) ∙ is in
    absurd (false≢true (c.if-eq.ensures ∙ ap (λ (e : End). sameb the_type e ConnectFailed) end)))
    c.connect.ensures
