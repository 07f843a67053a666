use Rattle.std.proofs.Common.{◌≡◌, ◌∙◌, ◌<◌, ◌^◌, List, ap, sym, subst, arith}
use Rattle.std.proofs.lemmas.Result.{IfOk-weaker}
use Rattle.page_model.specs.declared.page.Family.{Family}
use Rattle.page_model.specs.declared.page.Page.{Page}
use Rattle.page_model.specs.Pages.{IsRightPage}
use Rattle.open_writing.specs.OpenForms.{IsOpenForm}
use Rattle.open_writing.specs.Writing.{page_with, sample_lines}
use Rattle.series_select.specs.Selection.{selected_families, selected_page}
use Rattle.series_select.proofs.SelectedPages.{selected_form, form_is_right, few_selected, whole_page, some_page}
use Rattle.series_select.proofs.selecting.select.Goals as goal

pub returns-then-is_empty-clause-page : goal.returns-then-is_empty-clause-page
returns-then-is_empty-clause-page c =
    IfOk-weaker c.copy.result (λ (p : Page). p ≡ c.args.page.now) (λ (p : Page). p ≡ selected_page c.args.list.now c.args.page.now)
    (λ p e. e ∙ whole_page c.args.list.now c.args.page.now (sym c.is_empty.ensures ∙ c.if-is_empty.true)) c.copy.ensures

pub returns-then-is_empty-clause-form : goal.returns-then-is_empty-clause-form
returns-then-is_empty-clause-form c =
    IfOk-weaker c.copy.result (λ (p : Page). p ≡ c.args.page.now) IsOpenForm (λ p e. subst IsOpenForm (sym e) c.requires) c.copy.ensures

pub page_of_families-requires-clause-few : goal.page_of_families-requires-clause-few
page_of_families-requires-clause-few c =
    let left : c.in_ok-families.families ≡ selected_families c.args.list.now c.args.page.now.families = c.in_ok-families.ensures ∙ (λ i. selected_families (c.as_slice.ensures i) ((c.as_slice-2.ensures ∙ c.families.ensures.families) i)) in
    subst (λ (fs : List Family). sample_lines fs < 2 ^ 32) (sym left) (few_selected c.args.list.now c.args.page.now c.families.ensures.right (omega arith))

pub page_of_families-requires-clause-right : goal.page_of_families-requires-clause-right
page_of_families-requires-clause-right c =
    let left : c.in_ok-families.families ≡ selected_families c.args.list.now c.args.page.now.families = c.in_ok-families.ensures ∙ (λ i. selected_families (c.as_slice.ensures i) ((c.as_slice-2.ensures ∙ c.families.ensures.families) i)) in
    subst (λ (fs : List Family). IsRightPage (page_with fs)) (sym left) (form_is_right (page_with (selected_families c.args.list.now c.args.page.now.families)) (selected_form c.args.list.now c.args.page.now c.requires))

pub returns-clause-page : goal.returns-clause-page
returns-clause-page c =
    let left : c.in_ok-families.families ≡ selected_families c.args.list.now c.args.page.now.families = c.in_ok-families.ensures ∙ (λ i. selected_families (c.as_slice.ensures i) ((c.as_slice-2.ensures ∙ c.families.ensures.families) i)) in
    c.page_of_families.ensures.page ∙ some_page c.args.list.now c.args.page.now c.in_ok-families.families (sym c.is_empty.ensures ∙ c.if-is_empty.false) left

pub returns-clause-form : goal.returns-clause-form
returns-clause-form c =
    let left : c.in_ok-families.families ≡ selected_families c.args.list.now c.args.page.now.families = c.in_ok-families.ensures ∙ (λ i. selected_families (c.as_slice.ensures i) ((c.as_slice-2.ensures ∙ c.families.ensures.families) i)) in
    subst IsOpenForm (sym (c.page_of_families.ensures.page ∙ ap page_with left)) (selected_form c.args.list.now c.args.page.now c.requires)
