use Rattle.std.proofs.Common.{List, find, sym, ap, ◌∙◌}
use Rattle.std.specs.List.{flat_map}
use Rattle.page_model.specs.declared.page.Reading.{Reading}
use Rattle.page_model.specs.declared.page.Family.{Family}
use Rattle.target_pages.specs.Stretches.{is_info}
use Rattle.target_pages.proofs.Infos.{found_here, not_here}
use Rattle.target_pages.proofs.description.info_of.Goals as goal

pub returns-then-is_some : goal.returns-then-is_some
returns-then-is_some c =
    let fs = c.as_slice-family-items.result.now in
    found_here fs c.loop-family.family-index c.family-item.result c.info_among-info.result c.is_some.result c.loop-family-test.true c.family-item.is
    (c.info_among-info.ensures ∙ ap (λ (rs : List Reading). find is_info rs) c.as_slice.ensures) (sym c.is_some.ensures) c.if-is_some.true
    ∙ sym c.loop-family.invariant ∙ ap (λ (gs : List Family). find is_info (flat_map (λ (f : Family). f.readings) gs)) (c.as_slice-family-items.ensures ∙ c.families.ensures.families)

pub loop-family-preserved : goal.loop-family-preserved
loop-family-preserved c =
    c.loop-family.invariant
    ∙ not_here c.as_slice-family-items.result.now c.loop-family.family-index c.family-item.result c.info_among-info.result c.is_some.result c.loop-family-test.true c.family-item.is
    (c.info_among-info.ensures ∙ ap (λ (rs : List Reading). find is_info rs) c.as_slice.ensures) (sym c.is_some.ensures) c.if-is_some.false
