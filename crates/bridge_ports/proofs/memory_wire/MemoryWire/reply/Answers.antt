use Rattle.std.proofs.Common.{◌≡◌, ◌∙◌, Some, None, sym, ap, length}
use Rattle.std.specs.Prelude.{slice_get}
use Rattle.std.proofs.lemmas.Option.{slice_get-get_or, slice_get_past}
use Rattle.bridge_ports.specs.Plans.{reply_now, kept_plan}
use Rattle.bridge_ports.proofs.PlanLaws.{reply_listed, reply_after, reply_past}
use Rattle.bridge_ports.proofs.memory_wire.MemoryWire.reply.Goals as goal

pub returns-in-Some : goal.returns-in-Some
returns-in-Some c =
    let w = c.self.inside in
    let found = c.in-Some.ensures.lookup in
    let at : slice_get c.as_slice.result.now (length c.finished.result.now) ≡ Some c.in-Some.reply.now =
    slice_get-get_or c.as_slice.result.now (length c.finished.result.now) c.in-Some.reply.now found.3.0 ∙ ap Some (sym found.1) in
    let there : slice_get w.replies (length w.talks.kept) ≡ Some c.in-Some.reply.now = cc (at, c.as_slice.ensures, c.finished.ensures.talks) in
    reply_listed (kept_plan w.replies w.after w.most w.failing w.talks.keeps) w.talks.kept c.in-Some.reply.now _ there c.planned_from.ensures
    ∙ ap reply_now c.self.view_is

pub returns-in-Some-after : goal.returns-in-Some-after
returns-in-Some-after c =
    let w = c.self.inside in
    let at : slice_get c.as_slice.result.now (length c.finished.result.now) ≡ None =
    slice_get_past c.as_slice.result.now (length c.finished.result.now) c.in-None.ensures.lookup.3 in
    let past : slice_get w.replies (length w.talks.kept) ≡ None = cc (at, c.as_slice.ensures, c.finished.ensures.talks) in
    reply_after (kept_plan w.replies w.after w.most w.failing w.talks.keeps) w.talks.kept c.in-Some-after.reply _ past c.in-Some-after.is c.planned_from-in-Some-after.ensures
    ∙ ap reply_now c.self.view_is

pub returns-in-None-after : goal.returns-in-None-after
returns-in-None-after c =
    let w = c.self.inside in
    let at : slice_get c.as_slice.result.now (length c.finished.result.now) ≡ None =
    slice_get_past c.as_slice.result.now (length c.finished.result.now) c.in-None.ensures.lookup.3 in
    let past : slice_get w.replies (length w.talks.kept) ≡ None = cc (at, c.as_slice.ensures, c.finished.ensures.talks) in
    reply_past (kept_plan w.replies w.after w.most w.failing w.talks.keeps) w.talks.kept past c.in-None-after.is
    ∙ ap reply_now c.self.view_is
