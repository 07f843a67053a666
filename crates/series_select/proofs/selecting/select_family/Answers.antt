use Rattle.std.proofs.Common.{◌≡◌, ◌++◌, [], List, filter, sym, ap, subst, ◌∙◌, eqb-true}
use Rattle.std.specs.Prelude.{OnOk}
use Rattle.std.proofs.lemmas.List.{append-nil, nil_from_length}
use Rattle.page_model.specs.declared.page.Family.{Family}
use Rattle.series_select.specs.SelectionSteps.{names_hold, selectors_behind}
use Rattle.series_select.proofs.Kept.{one_selected, readings_selected, unnamed_family}
use Rattle.series_select.proofs.selecting.select_family.Goals as goal

pub returns-then-is_empty : goal.returns-then-is_empty
returns-then-is_empty c =
    let none : selectors_behind c.as_slice-named.result.now ≡ [] = ap selectors_behind (nil_from_length c.as_slice-named.result.now (eqb-true _ 0 (sym c.is_empty.ensures ∙ c.if-is_empty.true))) in
    let named : selectors_behind c.as_slice-named.result.now ≡ filter (names_hold c.args.family.now) c.args.list.now = ap selectors_behind c.as_slice-named.ensures.value ∙ c.in_ok-hold_named.ensures in
    sym (ap (λ (fs : List Family). c.args.selected.now.items ++ fs) (unnamed_family c.args.list.now c.args.family.now (selectors_behind c.as_slice-named.result.now) named none) ∙ append-nil c.args.selected.now.items)

pub returns : goal.returns
returns c =
    let named : selectors_behind c.as_slice-named.result.now ≡ filter (names_hold c.args.family.now) c.args.list.now = ap selectors_behind c.as_slice-named.ensures.value ∙ c.in_ok-hold_named.ensures in
    subst (λ (fs : List Family). OnOk c.put_family.result (c.put_family.new.selected.items ≡ c.args.selected.now.items ++ fs))
    (one_selected c.args.list.now c.args.family.now c.in_ok-readings.readings (readings_selected c.args.list.now c.args.family.now (selectors_behind c.as_slice-named.result.now) c.in_ok-readings.readings named c.in_ok-readings.ensures))
    c.put_family.ensures
