use Rattle.std.proofs.Common.{◌≡◌, ◌∙◌, ◌-◌, ◌++◌, List, ℕ, take, drop, sym, ap, length, length-drop, arith}
use Rattle.std.proofs.lemmas.List.{length-take, take_all, take-append-le}
use Rattle.bridge_ports.specs.declared.talk.MemoryReply.{MemoryReply}
use Rattle.bridge_ports.specs.Talks.{reply_of}
use Rattle.bridge_ports.specs.Plans.{MemoryState, reply_now, kept_plan}
use Rattle.bridge_ports.proofs.PlanLaws.{plan_read, read_told, reply_kept}
use Rattle.bridge_ports.proofs.memory_wire.MemoryWire.hand_out.Goals as goal

pub invariant_of-self : goal.invariant_of-self
invariant_of-self c =
    let w = c.self.inside in
    let plan = kept_plan w.replies w.after w.most w.failing in
    let told = plan w.talks.keeps in
    let s = c.reply.result.got.now in
    let whole : c.reply.result.got.now ≡ (reply_of told (length w.talks.kept)).got =
    ap (λ (r : MemoryReply). r.got) (c.reply.ensures ∙ ap reply_now (sym c.self.view_is) ∙ reply_kept told w.talks.kept) in
    let long = ap length whole in
    let count = c.copy_front-count.ensures.count in
    let taken = length-take (length s - c.read.result) (drop c.read.result s) in
    let dropped = length-drop c.read.result s in
    plan_read plan w.talks c.got.new.self c.copy_front-count.result
    c.self.invariant (ap (λ (m : MemoryState). m.stage) c.self.view_is ∙ c.requires)
    (omega (arith, c.read.ensures, c.self.invariant.within)) c.got.ensures

pub returns-clause-wire : goal.returns-clause-wire
returns-clause-wire c =
    let w = c.self.inside in
    let plan = kept_plan w.replies w.after w.most w.failing in
    let told = plan w.talks.keeps in
    let s = c.reply.result.got.now in
    let n = c.copy_front-count.result in
    let whole : c.reply.result.got.now ≡ (reply_of told (length w.talks.kept)).got =
    ap (λ (r : MemoryReply). r.got) (c.reply.ensures ∙ ap reply_now (sym c.self.view_is) ∙ reply_kept told w.talks.kept) in
    let rest : take (length s - c.read.result) (drop c.read.result s) ≡ drop c.read.result s =
    take_all (length s - c.read.result) (drop c.read.result s) (omega (arith, length-drop c.read.result s)) in
    let front = take-append-le n c.copy_front-count.new.into (drop c.min-most.result c.args.into.now) (omega (arith, c.copy_front-count.ensures.count, c.copy_front-count.auto.into)) in
    let bytes = take n (c.copy_front-count.new.into ++ drop c.min-most.result c.args.into.now) in
    let given : take n (c.copy_front-count.new.into ++ drop c.min-most.result c.args.into.now) ≡ take n (drop w.talks.read (reply_of told (length w.talks.kept)).got) =
    front ∙ c.copy_front-count.ensures.copied ∙ ap (take n) rest
    ∙ ap (λ (i : ℕ). take n (drop i s)) c.read.ensures
    ∙ ap (λ (b : List ℕ). take n (drop w.talks.read b)) whole in
    read_told w.place plan w.faults w.calls w.readies w.lean w.talks c.got.new.self n bytes c.got.ensures given
    ∙ ap (λ (m : MemoryState). record m { now = record m.now { got = m.now.got ++ bytes } }) c.self.view_is
