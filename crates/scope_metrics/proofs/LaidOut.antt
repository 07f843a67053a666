-- Families whose values have layouts.
use Rattle.std.proofs.Common.{◌≡◌, List, [], ◌∷◌, ◌++◌, sym, subst}
use Rattle.std.specs.Prelude.{All}
use Rattle.std.proofs.lemmas.List.Elements.{All-append, All-from_recursion}
use Rattle.page_model.specs.declared.page.Family.{Family}
use Rattle.family_metrics.specs.Points.{MayAllBeLaidOut}

-- one family more
pub one_laid_out : (fs more : List Family) (f : Family) → more ≡ fs ++ f ∷ [] → All (λ (g : Family). MayAllBeLaidOut g.readings) fs → MayAllBeLaidOut f.readings → All (λ (g : Family). MayAllBeLaidOut g.readings) more
one_laid_out fs more f e all own = subst (All (λ (g : Family). MayAllBeLaidOut g.readings)) (sym e)
    (All-append (λ (g : Family). MayAllBeLaidOut g.readings) fs (f ∷ []) all (All-from_recursion (λ (g : Family). MayAllBeLaidOut g.readings) (f ∷ []) (own, tt)))
