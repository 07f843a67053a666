use Rattle.std.proofs.Common.{◌≡◌, sym, subst, ◌∙◌}
use Rattle.std.specs.Prelude.{IfOk}
use Rattle.page_model.specs.PageValues.{PageValue}
use Rattle.page_model.specs.Presence.{filled_page}
use Rattle.target_pages.proofs.BarePages.{page_itself}
use Rattle.target_pages.proofs.shown.shown_page.Goals as goal

pub returns-then-not-some_have_exemplars : goal.returns-then-not-some_have_exemplars
returns-then-not-some_have_exemplars c =
    subst (λ (p : PageValue). IfOk c.filled.result (λ shown. shown ≡ filled_page p))
    (sym (page_itself c.args.page.now c.as_slice.result.now (c.as_slice.ensures ∙ c.families.ensures.families) (sym c.some_have_exemplars.ensures ∙ c.if-not-some_have_exemplars.true)))
    c.filled.ensures
