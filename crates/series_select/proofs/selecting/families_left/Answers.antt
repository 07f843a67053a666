use Rattle.std.proofs.Common.{◌∷◌, ◌++◌, [], take, sym, ap, ◌∙◌}
use Rattle.std.proofs.lemmas.List.{take_more}
use Rattle.series_select.specs.Selection.{selected_families}
use Rattle.series_select.proofs.Kept.{selected-append, none_selected}
use Rattle.series_select.proofs.selecting.families_left.Goals as goal

pub loop-family-init : goal.loop-family-init
loop-family-init c = c.new-selected.ensures.items ∙ sym (none_selected c.args.list.now)

pub loop-family-preserved : goal.loop-family-preserved
loop-family-preserved c =
    let passed = take c.loop-family.family-index c.args.families.now in
    let here = c.family-item.result in
    c.in_ok-select_family.ensures ∙ ap (λ fs. fs ++ selected_families c.args.list.now (here ∷ [])) c.loop-family.invariant
    ∙ sym (selected-append c.args.list.now passed (here ∷ []))
    ∙ ap (selected_families c.args.list.now) (sym (take_more c.args.families.now c.loop-family.family-index here c.loop-family-test.true ∙ ap (λ f. passed ++ f ∷ []) (sym c.family-item.is)))
