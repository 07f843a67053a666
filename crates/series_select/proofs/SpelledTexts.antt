-- Texts are the selectors of one list at most, and then none of them is another text.
use Rattle.std.proofs.Common.{◌≡◌, ℕ, List, [], ◌∷◌, ◌++◌, refl, ap, ◌∙◌, subst}
use Rattle.series_select.specs.declared.selector.Selector.{Selector}
use Rattle.series_select.specs.Selectors.{IsNoSelector, SpellEach, IsFirstOther}
use Rattle.series_select.proofs.SelectorComplete.{selector_once}

pub spelled_once : (texts : List (List ℕ)) (ss rs : List Selector) → SpellEach texts ss → SpellEach texts rs → ss ≡ rs
spelled_once [] [] [] h k = refl
spelled_once [] [] (r ∷ rs) h k = absurd k
spelled_once [] (s ∷ ss) rs h k = absurd h
spelled_once (t ∷ texts) [] rs h k = absurd h
spelled_once (t ∷ texts) (s ∷ ss) [] h k = absurd k
spelled_once (t ∷ texts) (s ∷ ss) (r ∷ rs) h k = ap (λ x. x ∷ ss) (selector_once t s r h.0 k.0) ∙ ap (λ xs. r ∷ xs) (spelled_once texts ss rs h.1 k.1)

no_other_in : (front : List (List ℕ)) (text : List ℕ) (rest : List (List ℕ)) (ss : List Selector) → SpellEach (front ++ text ∷ rest) ss → IsNoSelector text → ⊥
no_other_in [] text rest [] h none = h
no_other_in [] text rest (s ∷ ss) h none = none s h.0
no_other_in (t ∷ front) text rest [] h none = h
no_other_in (t ∷ front) text rest (s ∷ ss) h none = no_other_in front text rest ss h.1 none

pub no_other : (texts : List (List ℕ)) (ss : List Selector) (number : ℕ) → SpellEach texts ss → IsFirstOther texts number → ⊥
no_other texts ss number h other = no_other_in other.front other.text other.rest ss (subst (λ ts. SpellEach ts ss) other.whole h) other.other
