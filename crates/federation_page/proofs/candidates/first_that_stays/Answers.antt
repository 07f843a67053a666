use Rattle.std.proofs.Common.{◌≡◌, ◌∙◌, ◌∷◌, List, filter, subst, sym}
use Rattle.page_model.specs.declared.page.Reading.{Reading}
use Rattle.federation_page.specs.Candidates.{stays}
use Rattle.federation_page.proofs.CodeSteps.{found_first}
use Rattle.federation_page.proofs.candidates.first_that_stays.Goals as goal

pub returns-then-stays : goal.returns-then-stays
returns-then-stays c =
    subst (λ (rs : List Reading). (rest : List Reading) × (filter (stays c.args.family.now.kind) rs ≡ c.reading-item.result ∷ rest)) c.as_slice-readings.ensures
    (found_first (stays c.args.family.now.kind) c.as_slice-readings.result.now c.loop-reading.reading-index c.reading-item.result c.loop-reading-test.true c.reading-item.is (sym c.stays.ensures ∙ c.if-stays.true) c.loop-reading.invariant)
