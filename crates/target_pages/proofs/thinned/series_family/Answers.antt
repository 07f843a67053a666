use Rattle.std.proofs.Common.{◌≡◌, List, find, sym, ap, subst, ◌∙◌}
use Rattle.std.specs.Prelude.{IfOk}
use Rattle.page_model.specs.declared.page.Reading.{Reading}
use Rattle.page_model.specs.declared.page.Family.{Family}
use Rattle.target_pages.specs.Stretches.{is_info}
use Rattle.target_pages.proofs.Infos.{nothing_found}
use Rattle.target_pages.proofs.SeriesPages.{whole_family_left}
use Rattle.target_pages.proofs.thinned.series_family.Goals as goal

pub returns-then-is_none : goal.returns-then-is_none
returns-then-is_none c =
    let none = nothing_found c.info_among.result c.is_none.result (find is_info c.args.family.now.readings) c.is_none.ensures c.if-is_none.true
    (c.info_among.ensures ∙ ap (λ (rs : List Reading). find is_info rs) c.as_slice-readings.ensures) in
    subst (λ (f : Family). IfOk c.copy.result (λ left. left ≡ f)) (sym (whole_family_left c.args.family.now none)) c.copy.ensures
