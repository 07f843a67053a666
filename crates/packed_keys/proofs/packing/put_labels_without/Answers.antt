use Rattle.std.proofs.Common.{take, sym, ap, subst, ◌∙◌, arith, not, true, false, List, ℕ, [], ◌∷◌, ◌++◌, ◌≡◌, ◌+◌, length}
use Rattle.std.specs.Str.{bytes_eq}
use Rattle.std.proofs.lemmas.List.{take_more, take_all}
use Rattle.std.proofs.lemmas.Bool.{not-false}
use Rattle.label_sets.specs.declared.label.Label.{Label}
use Rattle.label_sets.specs.Labels.{without_label}
use Rattle.label_sets.proofs.Laws.{IsLabelSet-without}
use Rattle.packed_keys.proofs.Put.{AreAdded, none_added, one_added, set_added, one_kept, one_left_out, not_true}
use Rattle.packed_keys.proofs.packing.put_labels_without.Goals as goal
use Rattle.packed_keys.proofs.packing.put_labels_without.Goals.{then-ne+in_ok-put_label, else-ne}

pub loop-label-init : goal.loop-label-init
loop-label-init c = none_added c.put_length.new.out.items

pub loop-label-preserved : goal.loop-label-preserved
loop-label-preserved c =
    let ls = c.labels-label-items.result.now in
    let l = c.label-item.result in
    let front = take c.loop-label.label-index ls in
    let more : take (c.loop-label.label-index + 1) ls ≡ front ++ l ∷ [] = take_more ls c.loop-label.label-index l c.loop-label-test.true ∙ ap (λ (m : Label). front ++ m ∷ []) (sym c.label-item.is) in
    let test : c.ne.result ≡ not (bytes_eq l.name c.args.name.now) = c.ne.ensures ∙ ap (λ (bs : List ℕ). not (bytes_eq bs c.args.name.now)) c.as_bytes.ensures in
    let start = c.put_length.new.out.items in
    let kept = λ (other : bytes_eq l.name c.args.name.now ≡ false). one_kept c.args.name.now front l other in
    elim c.if-ne.branch [
      | then-ne+in_ok-put_label w ↦ (let other : bytes_eq l.name c.args.name.now ≡ false = not_true (bytes_eq l.name c.args.name.now) (sym test ∙ w.if-ne.true) in
          rw (w.out-is, more, kept other) (one_added start c.loop-label.out.items w.put_label.new.out.items (without_label c.args.name.now front) l c.loop-label.invariant w.in_ok-put_label.ensures.added w.in_ok-put_label.ensures.text))
      | else-ne w ↦ (let same : bytes_eq l.name c.args.name.now ≡ true = not-false (bytes_eq l.name c.args.name.now) (sym test ∙ w.if-ne.false) in
          rw (w.out-is, more, one_left_out c.args.name.now front l same) c.loop-label.invariant)
    ]

pub returns-clause-added : goal.returns-clause-added
returns-clause-added c =
    let ls = c.labels-label-items.result.now in
    let all : take c.loop-label.label-index ls ≡ c.args.labels.now = take_all c.loop-label.label-index ls (omega arith) ∙ c.labels-label-items.ensures in
    set_added c.args.out.now.items c.put_length.new.out.items c.loop-label.out.items c.count_without.result (without_label c.args.name.now c.args.labels.now) c.in_ok-put_length.ensures
    (c.count_without.ensures ∙ ap (λ (ms : List Label). length (without_label c.args.name.now ms)) c.labels.ensures)
    (subst (λ (ms : List Label). AreAdded c.put_length.new.out.items c.loop-label.out.items (without_label c.args.name.now ms)) all c.loop-label.invariant)

pub returns-clause-text : goal.returns-clause-text
returns-clause-text c =
    let ls = c.labels-label-items.result.now in
    let all : take c.loop-label.label-index ls ≡ c.args.labels.now = take_all c.loop-label.label-index ls (omega arith) ∙ c.labels-label-items.ensures in
    record {
      texts = (subst (λ (ms : List Label). AreAdded c.put_length.new.out.items c.loop-label.out.items (without_label c.args.name.now ms)) all c.loop-label.invariant).texts;
      set = IsLabelSet-without c.args.name.now c.args.labels.now c.in_order.ensures;
    }
