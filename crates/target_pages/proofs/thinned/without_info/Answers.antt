use Rattle.std.proofs.Common.{◌≡◌, find, sym, subst, ◌∙◌}
use Rattle.std.specs.Prelude.{IfOk}
use Rattle.page_model.specs.declared.page.Page.{Page}
use Rattle.page_model.specs.Presence.{all_readings}
use Rattle.target_pages.specs.Stretches.{is_info}
use Rattle.target_pages.proofs.Infos.{nothing_found}
use Rattle.target_pages.proofs.SeriesPages.{whole_page_left, left_page, left_is_right}
use Rattle.target_pages.proofs.thinned.without_info.Goals as goal

pub returns-then-is_none : goal.returns-then-is_none
returns-then-is_none c =
    let none = nothing_found c.info_of.result c.is_none.result (find is_info (all_readings c.args.page.now)) c.is_none.ensures c.if-is_none.true c.info_of.ensures in
    subst (λ (p : Page). IfOk c.copy.result (λ left. left ≡ p)) (sym (whole_page_left c.args.page.now none)) c.copy.ensures

pub new-requires : goal.new-requires
new-requires c =
    left_is_right c.args.page.now c.as_slice.result.now c.in_ok-families.families c.samples.result (c.as_slice.ensures ∙ c.families.ensures.families) c.in_ok-families.ensures c.samples.ensures c.families.ensures.right

pub returns : goal.returns
returns c =
    c.new.ensures ∙ left_page c.args.page.now c.as_slice.result.now c.in_ok-families.families c.samples.result (c.as_slice.ensures ∙ c.families.ensures.families) c.in_ok-families.ensures c.samples.ensures
