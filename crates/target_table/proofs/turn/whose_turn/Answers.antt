use Rattle.std.proofs.Common.{◌∙◌, ◌-◌, ◌+◌, length, drop, sym, ap, subst}
use Rattle.target_table.specs.Search.{visits_due, nearer, IsNextDue}
use Rattle.target_table.proofs.Turning.{next_init, next_step}
use Rattle.target_table.proofs.turn.whose_turn.Goals as goal

pub loop-behind-init : goal.loop-behind-init
loop-behind-init g c = next_init c.args.rounds c.args.slots.now

pub loop-behind-preserved : goal.loop-behind-preserved
loop-behind-preserved g c =
    subst (λ next. IsNextDue c.args.rounds (drop (length c.args.slots.now - (c.loop-behind.behind + 1)) c.args.slots.now) (length c.args.slots.now - (c.loop-behind.behind + 1)) next)
    (sym (c.nearer-next.ensures ∙ ap (λ due. nearer due (length c.args.slots.now - 1 - c.loop-behind.behind) c.loop-behind.next) (c.visits_due.ensures ∙ ap (visits_due c.args.rounds) c.index-slots-place.is)))
    (next_step c.args.rounds c.args.slots.now c.loop-behind.behind c.loop-behind.next c.index-slots-place.result c.loop-behind-test.true c.loop-behind.invariant)
