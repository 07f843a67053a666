use Rattle.std.proofs.Common.{take, sym, ap, ◌∙◌, arith, List, [], ◌∷◌, ◌++◌, append_assoc}
use Rattle.std.proofs.lemmas.List.{take_all, append-nil}
use Rattle.label_sets.specs.declared.series_key.SeriesKey.{SeriesKey}
use Rattle.packed_keys.specs.Partings.{keys_behind}
use Rattle.packed_keys.proofs.Taken.{length-behind, more_behind}
use Rattle.packed_keys.proofs.parting.put_keys.Goals as goal

pub loop-at-init : goal.loop-at-init
loop-at-init c = sym (append-nil c.args.out.now.items)

pub loop-at-preserved : goal.loop-at-preserved
loop-at-preserved c =
    let before = c.args.out.now.items in
    let front = take c.loop-at.at (keys_behind c.args.keys.now) in
    c.in_ok-push.ensures.items ∙ (ap (λ (xs : List SeriesKey). xs ++ c.in_ok-copy.field-0 ∷ []) c.loop-at.invariant
    ∙ (append_assoc before front (c.in_ok-copy.field-0 ∷ [])
    ∙ ap (λ (xs : List SeriesKey). before ++ xs) (ap (λ (m : SeriesKey). front ++ m ∷ []) c.in_ok-copy.ensures ∙ sym (more_behind c.args.keys.now c.loop-at.at _ c.loop-at-test.true c.index-keys-at.is))))

pub returns : goal.returns
returns c = c.loop-at.invariant ∙ ap (λ (ks : List SeriesKey). c.args.out.now.items ++ ks) (take_all c.loop-at.at (keys_behind c.args.keys.now) (omega (arith, length-behind c.args.keys.now)))
