use Rattle.std.proofs.Common.{take, sym, ap, subst, ◌∙◌, arith, [], ◌∷◌, ◌++◌, ◌≡◌, ◌+◌}
use Rattle.std.proofs.lemmas.List.{take_more, take_all}
use Rattle.label_sets.specs.declared.label.Label.{Label}
use Rattle.packed_keys.proofs.Put.{AreAdded, none_added, one_added, set_added}
use Rattle.packed_keys.proofs.packing.put_labels.Goals as goal

pub loop-label-init : goal.loop-label-init
loop-label-init c = none_added c.put_length.new.out.items

pub loop-label-preserved : goal.loop-label-preserved
loop-label-preserved c =
    let ls = c.labels-label-items.result.now in
    let more : take (c.loop-label.label-index + 1) ls ≡ take c.loop-label.label-index ls ++ c.label-item.result ∷ [] = take_more ls c.loop-label.label-index c.label-item.result c.loop-label-test.true ∙ ap (λ (l : Label). take c.loop-label.label-index ls ++ l ∷ []) (sym c.label-item.is) in
    rw more (one_added c.put_length.new.out.items c.loop-label.out.items c.put_label.new.out.items (take c.loop-label.label-index ls) c.label-item.result c.loop-label.invariant c.in_ok-put_label.ensures.added c.in_ok-put_label.ensures.text)

pub returns-clause-added : goal.returns-clause-added
returns-clause-added c =
    let ls = c.labels-label-items.result.now in
    let all : take c.loop-label.label-index ls ≡ c.args.labels.now = take_all c.loop-label.label-index ls (omega arith) ∙ c.labels-label-items.ensures in
    set_added c.args.out.now.items c.put_length.new.out.items c.loop-label.out.items c.len.result c.args.labels.now c.in_ok-put_length.ensures c.len.ensures (subst (AreAdded c.put_length.new.out.items c.loop-label.out.items) all c.loop-label.invariant)

pub returns-clause-text : goal.returns-clause-text
returns-clause-text c =
    let ls = c.labels-label-items.result.now in
    let all : take c.loop-label.label-index ls ≡ c.args.labels.now = take_all c.loop-label.label-index ls (omega arith) ∙ c.labels-label-items.ensures in
    record { texts = (subst (AreAdded c.put_length.new.out.items c.loop-label.out.items) all c.loop-label.invariant).texts; set = c.in_order.ensures }
