use Rattle.std.proofs.Common.{◌≡◌, ◌∙◌, ◌-◌, ◌<◌, ◌≤◌, Option, Some, sym, ap, get_or, length, arith, subst, refl, true}
use Rattle.std.specs.Prelude.{IsSomeAnd, slice_get}
use Rattle.std.proofs.lemmas.List.Elements.{All-get_or}
use Rattle.std.proofs.lemmas.Option.{slice_get-get_or}
use Rattle.bridge_ports.specs.declared.talk.Talk.{Talk}
use Rattle.bridge_ports.specs.Keeping.{IsAllKept}
use Rattle.bridge_ports.specs.Plans.{MemoryState, kept_plan, kept_talk, talk_at}
use Rattle.bridge_ports.proofs.PlanLaws.{length-kept, number_kept}
use Rattle.bridge_ports.proofs.memory_wire.MemoryWire.kept.Goals as goal

pub bounds-finished-number : goal.bounds-finished-number
bounds-finished-number c =
    let w = c.self.inside in
    let told = ap (λ (m : MemoryState). length m.talks) c.self.view_is in
    let kept = length-kept (kept_plan w.replies w.after w.most w.failing w.talks.keeps) w.talks.kept in
    let same = ap length c.finished.ensures.talks in
    omega (arith, c.requires.0, c.requires.1)

pub offset_bounds-finished-number : goal.offset_bounds-finished-number
offset_bounds-finished-number c =
    let within = bounds-finished-number c in
    omega (arith, within, c.finished.type_inv.1)

pub returns : goal.returns
returns c =
    let w = c.self.inside in
    let plan = kept_plan w.replies w.after w.most w.failing w.talks.keeps in
    let told = ap (λ (m : MemoryState). length m.talks) c.self.view_is in
    let all = length-kept plan w.talks.kept in
    let within : c.args.number - 1 < length w.talks.kept = omega (arith, c.requires.0, c.requires.1) in
    let high : c.args.number ≤ length w.talks.kept = omega (arith, c.requires.0, c.requires.1) in
    let at : slice_get w.talks.kept (c.args.number - 1) ≡ Some c.index-finished-number.result =
    slice_get-get_or w.talks.kept (c.args.number - 1) c.index-finished-number.result within
    ∙ ap Some (sym (c.index-finished-number.is ∙ ap (λ (ks : _). get_or ks (c.args.number - 1) c.index-finished-number.result) c.finished.ensures.talks)) in
    let is : talk_at c.args.self.now.talks c.args.number ≡ Some (kept_talk plan (c.args.number - 1) c.index-finished-number.result) =
    ap (λ (m : MemoryState). talk_at m.talks c.args.number) (sym c.self.view_is)
    ∙ number_kept plan w.talks.kept c.args.number c.index-finished-number.result c.requires.0 high at in
    let same = ap length c.finished.ensures.talks in
    let inside : c.args.number - 1 < length c.finished.result.now = omega (arith, within) in
    let whole : c.args.self.now.plan.keeps ≡ true → IsAllKept c.index-finished-number.result =
    λ keeps. subst IsAllKept (sym c.index-finished-number.is)
    (All-get_or IsAllKept c.finished.result.now (c.args.number - 1) c.index-finished-number.result inside
    (c.finished.ensures.whole (ap (λ (m : MemoryState). m.plan.keeps) c.self.view_is ∙ keeps))) in
    record {
      sent = λ keeps. subst (λ (o : Option Talk). IsSomeAnd o (λ (talk : Talk). c.index-finished-number.result.sent ≡ talk.sent)) (sym is) (whole keeps);
      ended = subst (λ (o : Option Talk). IsSomeAnd o (λ (talk : Talk). c.index-finished-number.result.end ≡ talk.end)) (sym is) refl;
    }
