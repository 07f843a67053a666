use Rattle.std.proofs.Common.{◌≡◌, ◌∙◌, ◌++◌, List, filter, subst, sym, ap}
use Rattle.std.specs.Prelude.{IfOk}
use Rattle.page_model.specs.declared.page.Reading.{Reading}
use Rattle.series_select.specs.SelectionSteps.{is_left, selectors_behind}
use Rattle.series_select.proofs.Kept.{all_kept, front_and_rest}
use Rattle.series_select.proofs.selecting.readings_left.Goals as goal

pub returns-in_default : goal.returns-in_default
returns-in_default c =
    subst (λ (rs : List Reading). IfOk c.copy.result (λ left. left ≡ rs))
    (sym c.as_slice-all.ensures
    ∙ all_kept (is_left (selectors_behind c.args.named.now)) c.as_slice-all.result.now c.split_at.result.0.now c.split_at.result.1.now c.front_len.result c.front_len.ensures.count c.split_at.ensures.front c.split_at.ensures.back c.in_default.ensures.cases
    ∙ ap (λ (rs : List Reading). filter (is_left (selectors_behind c.args.named.now)) rs) c.as_slice-all.ensures)
    c.copy.ensures

pub returns : goal.returns
returns c =
    let test = is_left (selectors_behind c.args.named.now) in
    subst (λ (rs : List Reading). IfOk c.from_vec.result (λ left. left ≡ rs))
    (c.in_ok-put_some.ensures
    ∙ ap (λ (rs : List Reading). rs ++ filter test c.in-Some.rest.now) (c.in_ok-put_all.ensures ∙ ap (λ (rs : List Reading). rs ++ c.split_at.result.0.now) c.new-kept.ensures.items)
    ∙ front_and_rest test c.as_slice-all.result.now c.split_at.result.0.now c.split_at.result.1.now c.front_len.result c.front_len.ensures.count c.split_at.ensures.front c.split_at.ensures.back
    c.in-Some.field-0-0.now c.in-Some.rest.now c.in-Some.ensures.cases.0
    ∙ ap (λ (rs : List Reading). filter test rs) c.as_slice-all.ensures)
    c.from_vec.ensures
