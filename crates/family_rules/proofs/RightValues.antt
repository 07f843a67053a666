-- The readings of a right page have values of their families' kinds.
use Rattle.std.proofs.Common.{◌≡◌, ℕ, ◌+◌, Bool, List, [], ◌∷◌, map, reverse, Option, Some, None, option_map, option_and_then, sym, subst, inl, inr}
use Rattle.std.specs.List.{fold, AllByRecursion}
use Rattle.std.specs.Option.{option_map_or}
use Rattle.label_sets.specs.declared.kind.Kind.{Kind}
use Rattle.label_sets.proofs.Laws.{option_or-none, option_map-none}
use Rattle.page_model.specs.declared.item.Item.{Item}
use Rattle.page_model.specs.declared.page.Reading.{Reading}
use Rattle.page_model.specs.declared.page.Family.{Family}
use Rattle.page_model.specs.declared.rule.Rule.{Rule}
use Rattle.page_model.specs.PageValues.{PageValue}
use Rattle.page_model.specs.Written.{Written, Setting, item_of}
use Rattle.page_model.specs.Owners.{Owned, owned_lines}
use Rattle.page_model.specs.Faults.{Line, own_fault, item_fault, line_fault, end_fault, with_line, fault_from}
use Rattle.page_model.specs.Readings.{family_of, families_of, page_of}
use Rattle.page_model.specs.Pages.{AreFaultless, items_of, IsPageOf, AreSomeOf, IsThinnerReading, AreThinnerFamilies, IsRightPage}
use Rattle.family_rules.proofs.Values.{IsValueOf, HaveValuesOf, page_values}

-- ---- lines without a fault

-- a line without a fault has an item without one, where it has an item
free_line : (st : Setting) (l : Line) (earlier : List Item) → line_fault st earlier l ≡ None → AreFaultless st earlier → AreFaultless st (with_line st.format l earlier)
unfolding line_fault
free_line st l earlier none free = by l.says (option_or-none (own_fault st l) (option_and_then (λ w. item_fault st earlier (item_of st.format w)) l.says) none).1
  where
    by : (says : Option Written) → option_and_then (λ w. item_fault st earlier (item_of st.format w)) says ≡ None → AreFaultless st (option_map_or (λ w. item_of st.format w ∷ earlier) says earlier)
    by None h = free
    by (Some w) h = (h, free)

-- the items of lines without a fault break no rule, and neither does the end behind them
pub free_lines : (ls : List Line) (st : Setting) (earlier : List Item) (n : ℕ) (clean : Bool) → fault_from st earlier n ls clean ≡ None → AreFaultless st earlier
    → AreFaultless st (fold (λ above l. with_line st.format l above) earlier ls) × (end_fault st (fold (λ above l. with_line st.format l above) earlier ls) clean ≡ None)
unfolding fault_from
free_lines [] st earlier n clean none free = (free, option_map-none (λ (rule : Rule). (n, rule)) (end_fault st earlier clean) none)
free_lines (l ∷ ls) st earlier n clean none free =
    let both = option_or-none (option_map (λ (rule : Rule). (n, rule)) (line_fault st earlier l)) (fault_from st (with_line st.format l earlier) (n + 1) ls clean) none in
    free_lines ls st (with_line st.format l earlier) (n + 1) clean both.1 (free_line st l earlier (option_map-none (λ (rule : Rule). (n, rule)) (line_fault st earlier l) both.0) free)

-- ---- what is left of readings and families

-- the readings of each family have values of its kind
abbrev pub HaveKindValues : List Family → Type 0
HaveKindValues fs = AllByRecursion (λ (f : Family). HaveValuesOf f.kind f.readings) fs

thin_values : (kind : Kind) (rs ss : List Reading) → AreSomeOf IsThinnerReading rs ss → HaveValuesOf kind rs → HaveValuesOf kind ss
thin_values kind [] [] thin have = tt
thin_values kind [] (s ∷ ss) thin have = absurd thin
thin_values kind (r ∷ rs) [] thin have = tt
thin_values kind (r ∷ rs) (s ∷ ss) (inl thin) have = (subst (IsValueOf kind) (sym thin.0.value) have.0, thin_values kind rs ss thin.1 have.1)
thin_values kind (r ∷ rs) (s ∷ ss) (inr thin) have = thin_values kind rs (s ∷ ss) thin have.1

thin_families : (fs gs : List Family) → AreThinnerFamilies fs gs → HaveKindValues fs → HaveKindValues gs
thin_families [] [] thin have = tt
thin_families [] (g ∷ gs) thin have = absurd thin
thin_families (f ∷ fs) [] thin have = tt
thin_families (f ∷ fs) (g ∷ gs) (inl thin) have =
    (subst (λ kind. HaveValuesOf kind g.readings) (sym thin.0.kind) (thin_values f.kind f.readings g.readings thin.0.readings have.0), thin_families fs gs thin.1 have.1)
thin_families (f ∷ fs) (g ∷ gs) (inr thin) have = thin_families fs (g ∷ gs) thin have.1

-- ---- the page

named_values : (st : Setting) (lines : List Owned) (names : List (List ℕ)) → ((family : List ℕ) → HaveValuesOf (family_of st lines family).kind (family_of st lines family).readings) → HaveKindValues (map (family_of st lines) names)
named_values st lines [] have = tt
named_values st lines (name ∷ names) have = (have name, named_values st lines names have)

items_values : (st : Setting) (earlier : List Item) (clean : Bool) → AreFaultless st earlier → end_fault st earlier clean ≡ None → HaveKindValues (page_of st earlier).families
unfolding page_of
items_values st earlier clean free none = let lines : List Owned = reverse (owned_lines st.format earlier) in named_values st lines (families_of lines) (page_values st earlier clean free none)

text_values : (st : Setting) (bytes : List ℕ) (page : PageValue) → IsPageOf st bytes page → HaveKindValues page.families
text_values st bytes page is =
    let free = free_lines is.lines st [] 1 _ is.without_fault tt in
    subst (λ (p : PageValue). HaveKindValues p.families) (sym is.page_is) (items_values st (items_of st.format is.lines) _ free.0 free.1)

-- the readings of each family of a right page have values of its kind
pub right_values : (page : PageValue) → IsRightPage page → HaveKindValues page.families
right_values page right = let read = right.1 in thin_families read.whole.families page.families read.families (text_values right.0 read.text read.whole read.read)
