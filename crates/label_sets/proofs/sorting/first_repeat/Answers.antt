use Rattle.std.proofs.Common.{sym, ap, arith, ◌∙◌}
use Rattle.std.specs.Prelude.{is_some}
use Rattle.label_sets.specs.declared.label.Label.{Label}
use Rattle.label_sets.proofs.Seen.{seen_none, seen_all, seen_twice, seen_more}
use Rattle.label_sets.proofs.sorting.first_repeat.Goals as goal

pub loop-at-init : goal.loop-at-init
loop-at-init c = seen_none c.args.labels.now c.new-seen.result c.new-seen.ensures.empty

pub returns-then-is_some : goal.returns-then-is_some
returns-then-is_some c = sym (seen_twice c.args.labels.now c.loop-at.at c.loop-at.seen c.index-labels-at.result c.as_str.result.now c.loop-at.invariant (omega arith) (c.as_str.ensures ∙ ap (λ (m : Label). m.name) c.index-labels-at.is) (ap is_some (sym c.in_ok-insert.ensures.old) ∙ sym c.if-is_some.ensures))

pub loop-at-preserved : goal.loop-at-preserved
loop-at-preserved c = seen_more c.args.labels.now c.loop-at.at c.loop-at.seen c.insert.new.self c.index-labels-at.result c.as_str.result.now c.loop-at.invariant (omega arith) (c.as_str.ensures ∙ ap (λ (m : Label). m.name) c.index-labels-at.is) (ap is_some (sym c.in_ok-insert.ensures.old) ∙ sym c.if-is_some.ensures) c.in_ok-insert.ensures.updates

pub returns : goal.returns
returns c = sym (seen_all c.args.labels.now c.loop-at.at c.loop-at.seen c.loop-at.invariant (omega arith))
