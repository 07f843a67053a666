-- No line of a page without a fault leaves a histogram incomplete, and neither does its end: so each family is complete.
use Rattle.std.proofs.Common.{◌≡◌, ℕ, Bool, true, false, cond, not, ◌&&◌, List, [], ◌∷◌, filter_map, Option, Some, None, unwrap_or, refl, sym, ap, subst, ◌∙◌, inl, inr}
use Rattle.std.specs.List.{list_all, cons_option}
use Rattle.std.specs.Option.{option_or}
use Rattle.std.specs.Str.{bytes_eq}
use Rattle.std.specs.Cmp.Lexicographic.{bytes_decides}
use Rattle.std.proofs.lemmas.Bool.{false_from_ne_true}
use Rattle.label_sets.specs.declared.kind.Kind.TheVariants.{Unknown}
use Rattle.label_sets.specs.Lists.{some_passes, first_some}
use Rattle.label_sets.proofs.Laws.{bytes_eq-swap}
use Rattle.page_model.specs.declared.item.Item.{Item}
use Rattle.page_model.specs.declared.item.Item.TheVariants as items
use Rattle.page_model.specs.declared.rule.Rule.TheVariants as rules
use Rattle.page_model.specs.Written.{Setting}
use Rattle.page_model.specs.Items.{kind_of_line, sample_of_line}
use Rattle.page_model.specs.Owners.{Owned, is_of, declared_kind, sample_in, kind_of, owner_of, with_owner, owned_lines, samples_of}
use Rattle.page_model.specs.Rules.{is_histogram, is_complete_at, is_incomplete, leaves_incomplete}
use Rattle.page_model.specs.Faults.{owned_breaks, item_breaks, item_rules, item_fault, end_breaks, end_rules, end_fault}
use Rattle.page_model.specs.Pages.{AreFaultless}
use Rattle.page_model.proofs.Laws.{none_found}

-- ---- a line that leaves no histogram incomplete

incomplete_by_owner : (st : Setting) (earlier : List Item) (item : Item) (family : List ℕ) → owner_of st.format (owned_lines st.format earlier) item ≡ Some family
    → item_breaks st earlier item rules.Incomplete ≡ leaves_incomplete st (owned_lines st.format earlier) (Some family)
unfolding item_breaks owned_breaks
incomplete_by_owner st earlier items.Blank family e = absurd cc
incomplete_by_owner st earlier items.Comment family e = absurd cc
incomplete_by_owner st earlier items.Eof family e = absurd cc
incomplete_by_owner st earlier _ family e = ap (some_passes (λ f. leaves_incomplete st (owned_lines st.format earlier) (Some f))) e

leaves_none : (st : Setting) (earlier : List Item) (item : Item) (family : List ℕ) → item_fault st earlier item ≡ None → owner_of st.format (owned_lines st.format earlier) item ≡ Some family
    → leaves_incomplete st (owned_lines st.format earlier) (Some family) ≡ false
unfolding item_fault
leaves_none st earlier item family none e =
    false_from_ne_true (leaves_incomplete st (owned_lines st.format earlier) (Some family))
    (λ h. none_found (item_breaks st earlier item) item_rules none rules.Incomplete (inr (inr (inr (inr (inr (inr (inr (inr (inr (inr (inl refl))))))))))) (incomplete_by_owner st earlier item family e ∙ h))

-- ---- families that were left

-- the family of the nearest line
abbrev is_nearest : List Owned → List ℕ → Bool
is_nearest [] family = false
is_nearest (nearest ∷ above) family = is_of family nearest

-- each family but that of the nearest line is complete
abbrev AreLeftComplete : Setting → List Owned → Type 0
AreLeftComplete st above = (family : List ℕ) → is_nearest above family ≡ false → is_incomplete st above family ≡ false

-- a line of another family changes nothing
kind-other : (o : Owned) (above : List Owned) (family : List ℕ) → bytes_eq o.family family ≡ false → kind_of (o ∷ above) family ≡ kind_of above family
unfolding kind_of
kind-other o above family e = ap (λ b. unwrap_or (option_or (cond b (kind_of_line o.item) None) (first_some (declared_kind family) above)) Unknown) e

samples-other : (o : Owned) (above : List Owned) (family : List ℕ) → bytes_eq o.family family ≡ false → samples_of (o ∷ above) family ≡ samples_of above family
unfolding samples_of
samples-other o above family e = ap (λ b. cons_option (cond b (sample_of_line o.item) None) (filter_map (sample_in family) above)) e

incomplete-other : (st : Setting) (o : Owned) (above : List Owned) (family : List ℕ) → bytes_eq o.family family ≡ false → is_incomplete st (o ∷ above) family ≡ is_incomplete st above family
unfolding is_incomplete
incomplete-other st o above family e =
    let kind = kind-other o above family e in
    let samples = samples-other o above family e in
    λ i. is_histogram (kind i) && not (list_all (is_complete_at st (kind i) family (samples i)) (samples i))

no_lines_complete : (st : Setting) (family : List ℕ) → is_incomplete st [] family ≡ false
unfolding is_incomplete kind_of
no_lines_complete st family = refl

-- a line of this family that leaves no other one incomplete
left_more : (st : Setting) (owner : List ℕ) (item : Item) (above : List Owned) → leaves_incomplete st above (Some owner) ≡ false → AreLeftComplete st above → AreLeftComplete st (record { family = owner; item = item } ∷ above)
unfolding leaves_incomplete
left_more st owner item [] leaves left family other = incomplete-other st (record { family = owner; item = item }) [] family other ∙ no_lines_complete st family
left_more st owner item (n ∷ above) leaves left family other = incomplete-other st (record { family = owner; item = item }) (n ∷ above) family other ∙ by (bytes_eq n.family family) refl
  where
    by : (b : Bool) → bytes_eq n.family family ≡ b → is_incomplete st (n ∷ above) family ≡ false
    by false e = left family e
    by true e =
        let same : n.family ≡ family = (bytes_decides n.family family).0 e in
        let apart : bytes_eq n.family owner ≡ false = ap (λ f. bytes_eq f owner) same ∙ bytes_eq-swap family owner ∙ other in
        let here : is_incomplete st (n ∷ above) n.family ≡ false = ap (λ b. not b && is_incomplete st (n ∷ above) n.family) (sym apart) ∙ leaves in
        subst (λ f. is_incomplete st (n ∷ above) f ≡ false) same here

left_complete : (st : Setting) (earlier : List Item) → AreFaultless st earlier → AreLeftComplete st (owned_lines st.format earlier)
unfolding owned_lines
left_complete st [] free = λ family _. no_lines_complete st family
left_complete st (item ∷ earlier) free = by (owner_of st.format (owned_lines st.format earlier) item) refl (left_complete st earlier free.1)
  where
    by : (owner : Option (List ℕ)) → owner_of st.format (owned_lines st.format earlier) item ≡ owner → AreLeftComplete st (owned_lines st.format earlier) → AreLeftComplete st (with_owner owner item (owned_lines st.format earlier))
    by None e left = left
    by (Some family) e left = left_more st family item (owned_lines st.format earlier) (leaves_none st earlier item family free.0 e) left

-- ---- all families

-- a line or an end of no family that leaves nothing incomplete
left_last : (st : Setting) (above : List Owned) (family : List ℕ) → AreLeftComplete st above → leaves_incomplete st above None ≡ false → is_incomplete st above family ≡ false
unfolding leaves_incomplete
left_last st [] family left e = no_lines_complete st family
left_last st (n ∷ above) family left e = by (bytes_eq n.family family) refl
  where
    by : (b : Bool) → bytes_eq n.family family ≡ b → is_incomplete st (n ∷ above) family ≡ false
    by false f = left family f
    by true f = subst (λ g. is_incomplete st (n ∷ above) g ≡ false) ((bytes_decides n.family family).0 f) e

-- each family of lines without a fault, and without one at their end, is complete
pub all_complete : (st : Setting) (earlier : List Item) (clean : Bool) → AreFaultless st earlier → end_fault st earlier clean ≡ None → (family : List ℕ) → is_incomplete st (owned_lines st.format earlier) family ≡ false
unfolding end_fault end_breaks
all_complete st earlier clean free none family =
    left_last st (owned_lines st.format earlier) family (left_complete st earlier free)
    (false_from_ne_true (leaves_incomplete st (owned_lines st.format earlier) None) (λ h. none_found (end_breaks st earlier clean) end_rules none rules.Incomplete (inr (inr (inl refl))) h))
