use Rattle.std.proofs.Common.{◌≡◌, sym, subst, ◌∙◌}
use Rattle.std.specs.Prelude.{IfOk}
use Rattle.page_model.specs.PageValues.{PageValue}
use Rattle.page_model.proofs.Filled.{none_left_out, left_is_right}
use Rattle.page_model.proofs.page.Page.filled.Goals as goal

pub returns-then-count-families : goal.returns-then-count-families
returns-then-count-families c =
    subst (λ (p : PageValue). IfOk c.copy.result (λ page. page ≡ p))
    (none_left_out c.args.self.now c.as_slice-families.result.now (c.as_slice-families.ensures ∙ c.families.ensures.families) (sym c.count_filled-count.ensures ∙ c.if-count-families.true))
    c.copy.ensures

pub new-requires : goal.new-requires
new-requires c =
    left_is_right c.args.self.now c.as_slice-families.result.now c.in_ok-filled.filled c.samples.result (c.as_slice-families.ensures ∙ c.families.ensures.families) c.in_ok-filled.ensures c.samples.ensures c.families.ensures.right
