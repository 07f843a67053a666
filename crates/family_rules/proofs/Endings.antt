-- A name that ends with an underscore and a unit.
use Rattle.std.proofs.Common.{◌≡◌, ℕ, Bool, true, false, ◌&&◌, List, [], ◌∷◌, ◌++◌, take, length, refl, sym, ap, ◌∙◌, not, ◌-◌, append_assoc}
use Rattle.std.specs.Prelude.{◌==◌}
use Rattle.std.specs.Str.{bytes_eq}
use Rattle.std.specs.List.{ends_with}
use Rattle.std.proofs.lemmas.Slice.Eq.{ends_is}
use Rattle.std.proofs.lemmas.Bool.Decides.{Decides-eqb}
use Rattle.std.proofs.lemmas.List.{append_cancel_right}
use Rattle.label_sets.proofs.Laws.{same_tests}
use Rattle.page_model.specs.Rules.{is_foreign_unit}

no_unit : (unit : List ℕ) → (length unit == 0) ≡ false → bytes_eq unit [] ≡ false
no_unit [] h = absurd (let f : true ≡ false = h in cc)
no_unit (x ∷ xs) h = refl

regrouped : (front unit : List ℕ) → (front ++ 95 ∷ []) ++ unit ≡ front ++ 95 ∷ unit
regrouped front unit = append_assoc front (95 ∷ []) unit

-- the front that the unit leaves decides
pub foreign_front : (family unit front : List ℕ) (r : Bool) → (length unit == 0) ≡ false → family ≡ front ++ unit → r ≡ ends_with ◌==◌ front (95 ∷ []) → not r ≡ is_foreign_unit family unit
foreign_front family unit front r some split ends =
    let own = ends_is Decides-eqb front (95 ∷ []) r ends in
    let whole = ends_is Decides-eqb family (95 ∷ unit) (ends_with ◌==◌ family (95 ∷ unit)) refl in
    let same : r ≡ ends_with ◌==◌ family (95 ∷ unit) = same_tests r (ends_with ◌==◌ family (95 ∷ unit))
    (λ h. whole.1 (take (length front - 1) front) (split ∙ ap (λ l. l ++ unit) (own.0 h) ∙ regrouped (take (length front - 1) front) unit))
    (λ h. own.1 (take (length family - length (95 ∷ unit)) family)
    (append_cancel_right front (take (length family - length (95 ∷ unit)) family ++ 95 ∷ []) unit (sym split ∙ whole.0 h ∙ sym (regrouped (take (length family - length (95 ∷ unit)) family) unit)))) in
    ap not same ∙ ap (λ b. not b && not (ends_with ◌==◌ family (95 ∷ unit))) (sym (no_unit unit some))

pub foreign_other : (family unit : List ℕ) → (length unit == 0) ≡ false → ((front : List ℕ) → family ≡ front ++ unit → ⊥) → true ≡ is_foreign_unit family unit
foreign_other family unit some none =
    let whole = ends_is Decides-eqb family (95 ∷ unit) (ends_with ◌==◌ family (95 ∷ unit)) refl in
    let false_is : ends_with ◌==◌ family (95 ∷ unit) ≡ false = same_tests (ends_with ◌==◌ family (95 ∷ unit)) false
    (λ h. absurd (none (take (length family - length (95 ∷ unit)) family ++ 95 ∷ []) (whole.0 h ∙ sym (regrouped (take (length family - length (95 ∷ unit)) family) unit))))
    (λ h. absurd (let f : false ≡ true = h in cc)) in
    rw (no_unit unit some, false_is) refl
