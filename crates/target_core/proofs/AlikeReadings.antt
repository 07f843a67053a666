-- The readings of a family of a right page have one name and one unit.
use Rattle.std.proofs.Common.{ℕ, List, [], ◌∷◌, map, filter, filter_map, codes, reverse, Option, Some, None, option_map, refl, sym, ap, subst, ◌∙◌, inl, inr}
use Rattle.std.specs.List.{AllByRecursion, cons_option}
use Rattle.label_sets.specs.declared.kind.Kind.{Kind}
use Rattle.label_sets.specs.declared.label_set.LabelSet.{LabelSet}
use Rattle.label_sets.specs.Labels.{label_sets_eq}
use Rattle.label_sets.specs.Lists.{first_of_each}
use Rattle.page_model.specs.declared.item.Item.{Item}
use Rattle.page_model.specs.declared.item.Sample.{Sample}
use Rattle.page_model.specs.declared.page.Reading.{Reading}
use Rattle.page_model.specs.declared.page.Value.{Value}
use Rattle.page_model.specs.declared.page.Family.{Family}
use Rattle.page_model.specs.PageValues.{PageValue}
use Rattle.page_model.specs.Written.{Setting}
use Rattle.page_model.specs.Owners.{Owned, owned_lines, kind_of, samples_of}
use Rattle.page_model.specs.Readings.{key_name, reading_labels, value_with, value_of, stamp_of, exemplars_of, reading_of, readings_of, family_of, families_of, page_of}
use Rattle.scope_metrics.specs.ScopeParts.{HasName, AreAlike}
use Rattle.page_model.specs.Pages.{items_of, AreSomeOf, IsThinnerReading, AreThinnerFamilies, IsRightPage}

-- ---- what is left of readings and families

thin_readings : (name unit : List ℕ) (rs ss : List Reading) → AreSomeOf IsThinnerReading rs ss → AllByRecursion (HasName name unit) rs → AllByRecursion (HasName name unit) ss
thin_readings name unit [] [] thin have = tt
thin_readings name unit [] (s ∷ ss) thin have = absurd thin
thin_readings name unit (r ∷ rs) [] thin have = tt
thin_readings name unit (r ∷ rs) (s ∷ ss) (inl thin) have =
    let own : HasName name unit s = record { name_is = ap (λ k. k.name) thin.0.key ∙ have.0.name_is; unit_is = ap (λ k. k.unit) thin.0.key ∙ have.0.unit_is } in
    (own, thin_readings name unit rs ss thin.1 have.1)
thin_readings name unit (r ∷ rs) (s ∷ ss) (inr thin) have = thin_readings name unit rs (s ∷ ss) thin have.1

thin_families : (fs gs : List Family) → AreThinnerFamilies fs gs → AllByRecursion AreAlike fs → AllByRecursion AreAlike gs
thin_families [] [] thin have = tt
thin_families [] (g ∷ gs) thin have = absurd thin
thin_families (f ∷ fs) [] thin have = tt
thin_families (f ∷ fs) (g ∷ gs) (inl thin) have =
    let own : AreAlike g = record { name = have.0.name; unit = have.0.unit; each = thin_readings have.0.name have.0.unit f.readings g.readings thin.0.readings have.0.each } in
    (own, thin_families fs gs thin.1 have.1)
thin_families (f ∷ fs) (g ∷ gs) (inr thin) have = thin_families fs (g ∷ gs) thin have.1

-- ---- the page

one_more : (name unit : List ℕ) (f : Value → Reading) (o : Option Value) (rest : List Reading) → ((v : Value) → HasName name unit (f v)) → AllByRecursion (HasName name unit) rest
    → AllByRecursion (HasName name unit) (cons_option (option_map f o) rest)
one_more name unit f None rest has all = all
one_more name unit f (Some v) rest has all = (has v, all)

made : (st : Setting) (kind : Kind) (family unit : List ℕ) (samples : List Sample) (sets : List LabelSet)
    → AllByRecursion (HasName (key_name st.format kind family) unit) (filter_map (reading_of st kind family unit samples) sets)
unfolding reading_of
made st kind family unit samples [] = tt
made st kind family unit samples (set ∷ sets) =
    let own : List Sample = filter (λ s. label_sets_eq (reading_labels st kind family s) set) samples in
    one_more (key_name st.format kind family) unit (λ (value : Value). record {
      key = record { name = key_name st.format kind family; kind = kind; unit = unit; labels = set };
      value = value;
      created = value_with family (codes "_created") own;
      stamp = stamp_of st.format family own;
      exemplars = exemplars_of kind family own;
    }) (value_of st.format kind family own) (filter_map (reading_of st kind family unit samples) sets) (λ v. record { name_is = refl; unit_is = refl }) (made st kind family unit samples sets)

named_alike : (st : Setting) (lines : List Owned) (names : List (List ℕ)) → AllByRecursion AreAlike (map (family_of st lines) names)
unfolding family_of readings_of
named_alike st lines [] = tt
named_alike st lines (name ∷ names) =
    let own : AreAlike (family_of st lines name) = record {
      name = key_name st.format (kind_of lines name) name;
      unit = (family_of st lines name).unit;
      each = made st (kind_of lines name) name (family_of st lines name).unit (samples_of lines name)
          (first_of_each label_sets_eq (map (reading_labels st (kind_of lines name) name) (samples_of lines name)));
    } in
    (own, named_alike st lines names)

items_alike : (st : Setting) (items : List Item) → AllByRecursion AreAlike (page_of st items).families
unfolding page_of
items_alike st items = let lines : List Owned = reverse (owned_lines st.format items) in named_alike st lines (families_of lines)

-- the readings of each family of a right page are alike
pub right_alike : (page : PageValue) → IsRightPage page → AllByRecursion AreAlike page.families
right_alike page right =
    let read = right.1 in
    thin_families read.whole.families page.families read.families
    (subst (λ (p : PageValue). AllByRecursion AreAlike p.families) (sym read.read.page_is) (items_alike right.0 (items_of right.0.format read.read.lines)))
