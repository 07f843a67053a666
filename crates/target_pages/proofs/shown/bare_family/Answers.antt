use Rattle.std.proofs.Common.{◌≡◌, sym, subst, ◌∙◌}
use Rattle.std.specs.Prelude.{IfOk}
use Rattle.page_model.specs.declared.page.Family.{Family}
use Rattle.target_pages.proofs.BarePages.{family_itself}
use Rattle.target_pages.proofs.shown.bare_family.Goals as goal

pub returns-then-not-family_has_exemplars : goal.returns-then-not-family_has_exemplars
returns-then-not-family_has_exemplars c =
    subst (λ (f : Family). IfOk c.copy.result (λ bare. bare ≡ f)) (sym (family_itself c.args.family.now (sym c.family_has_exemplars.ensures ∙ c.if-not-family_has_exemplars.true))) c.copy.ensures
