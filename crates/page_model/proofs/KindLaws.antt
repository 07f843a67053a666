-- A family's kind at one of its samples is its kind on the page, where no line breaks a rule.
use Rattle.std.proofs.Common.{◌≡◌, ◌≢◌, ℕ, Bool, true, false, cond, ◌||◌, ◌&&◌, List, [], ◌∷◌, ◌++◌, reverse, Option, Some, None, unwrap_or, refl, ap, subst, ◌∙◌, ◌⊎◌, inl, inr}
use Rattle.std.specs.List.{cons_option, filter_map, list_any}
use Rattle.std.specs.Option.{option_or}
use Rattle.std.specs.Str.{bytes_eq}
use Rattle.std.specs.Cmp.Lexicographic.{bytes_decides}
use Rattle.std.proofs.lemmas.List.{reverse-append}
use Rattle.std.proofs.lemmas.Option.{same_Some}
use Rattle.std.proofs.lemmas.Bool.{false_from_ne_true, or_parts}
use Rattle.label_sets.specs.declared.kind.Kind.{Kind}
use Rattle.label_sets.specs.declared.kind.Kind.TheVariants.{Unknown}
use Rattle.label_sets.specs.Lists.{first_some}
use Rattle.page_model.specs.declared.item.Item.{Item}
use Rattle.page_model.specs.declared.item.Item.TheVariants as items
use Rattle.page_model.specs.declared.item.Sample.{Sample}
use Rattle.page_model.specs.declared.rule.Rule.TheVariants as rules
use Rattle.page_model.specs.Written.{Setting}
use Rattle.page_model.specs.Items.{is_sample, sample_of_line, kind_of_line, are_one_sort}
use Rattle.page_model.specs.Owners.{Owned, is_of, declared_kind, kind_of, owner_of, with_owner, owned_lines, sample_in, samples_of}
use Rattle.page_model.specs.Rules.{is_late_descriptor}
use Rattle.page_model.specs.Faults.{owned_breaks, item_breaks, item_rules, item_fault}
use Rattle.page_model.specs.Pages.{AreFaultless}
use Rattle.page_model.proofs.Least.{none_found}

-- ---- a TYPE line stands in front of all other lines of its family but HELP and UNIT

-- no line above is a TYPE line or a sample of the family
abbrev IsFresh : List Owned → List ℕ → Type 0
IsFresh above family = list_any (λ o. is_of family o && (are_one_sort (items.KindOf family Unknown) o.item || is_sample o.item)) above ≡ false

type_is_fresh : (st : Setting) (earlier : List Item) (name : List ℕ) (kind : Kind) → item_fault st earlier (items.KindOf name kind) ≡ None → IsFresh (owned_lines st.format earlier) name
unfolding item_fault item_breaks owned_breaks is_late_descriptor
type_is_fresh st earlier name kind e =
    false_from_ne_true (list_any (λ o. is_of name o && (are_one_sort (items.KindOf name Unknown) o.item || is_sample o.item)) (owned_lines st.format earlier))
    (λ h. none_found (item_breaks st earlier (items.KindOf name kind)) item_rules e rules.Descriptor (inr (inl refl)) (same_sort (owned_lines st.format earlier) h))
  where
    sort : (o : Owned) → are_one_sort (items.KindOf name Unknown) o.item ≡ are_one_sort (items.KindOf name kind) o.item
    sort o = by_item o.item
      where
        by_item : (item : Item) → are_one_sort (items.KindOf name Unknown) item ≡ are_one_sort (items.KindOf name kind) item
        by_item (items.KindOf m k) = refl
        by_item _ = refl

    same_sort : (above : List Owned) → list_any (λ o. is_of name o && (are_one_sort (items.KindOf name Unknown) o.item || is_sample o.item)) above ≡ true
        → list_any (λ o. is_of name o && (are_one_sort (items.KindOf name kind) o.item || is_sample o.item)) above ≡ true
    same_sort [] h = h
    same_sort (o ∷ above) h = rw (← sort o) (go (is_of name o && (are_one_sort (items.KindOf name Unknown) o.item || is_sample o.item)) h (same_sort above))
      where
        go : (b : Bool) → (b || list_any (λ o. is_of name o && (are_one_sort (items.KindOf name Unknown) o.item || is_sample o.item)) above) ≡ true
            → (list_any (λ o. is_of name o && (are_one_sort (items.KindOf name Unknown) o.item || is_sample o.item)) above ≡ true
            → list_any (λ o. is_of name o && (are_one_sort (items.KindOf name kind) o.item || is_sample o.item)) above ≡ true)
            → (b || list_any (λ o. is_of name o && (are_one_sort (items.KindOf name kind) o.item || is_sample o.item)) above) ≡ true
        go true h ih = refl
        go false h ih = ih h

-- ---- what is true of fresh lines

-- a line of this owner is a TYPE line or a sample
abbrev tells : List ℕ → Owned → Bool
tells family o = is_of family o && (are_one_sort (items.KindOf family Unknown) o.item || is_sample o.item)

-- no such line stands first, nor behind it
fresh_parts : (family : List ℕ) (o : Owned) (above : List Owned) → IsFresh (o ∷ above) family → (tells family o ≡ false) × IsFresh above family
fresh_parts family o above h = or_parts (tells family o) (list_any (tells family) above) h

-- what is no TYPE line and no sample of the family declares no kind of it and samples nothing
tells_nothing : (family : List ℕ) (b : Bool) (item : Item) → (b && (are_one_sort (items.KindOf family Unknown) item || is_sample item)) ≡ false
    → (cond b (kind_of_line item) None ≡ None) × (cond b (sample_of_line item) None ≡ None)
tells_nothing family false item e = (refl, refl)
tells_nothing family true (items.KindOf m k) e = absurd (let h : true ≡ false = e in cc)
tells_nothing family true (items.Sample s) e = absurd (let h : true ≡ false = e in cc)
tells_nothing family true _ e = (refl, refl)

-- a family without samples and TYPE lines has no kind declared
fresh_undeclared : (family : List ℕ) (above : List Owned) → IsFresh above family → first_some (declared_kind family) above ≡ None
fresh_undeclared family [] h = refl
fresh_undeclared family (o ∷ above) h =
    let both = fresh_parts family o above h in
    ap (λ (k : Option Kind). option_or k (first_some (declared_kind family) above)) (tells_nothing family (is_of family o) o.item both.0).0 ∙ fresh_undeclared family above both.1

-- and it has no sample
fresh_unsampled : (family : List ℕ) (above : List Owned) → IsFresh above family → samples_of above family ≡ []
unfolding samples_of
fresh_unsampled family [] h = refl
fresh_unsampled family (o ∷ above) h =
    let both = fresh_parts family o above h in
    ap (λ (s : Option Sample). cons_option s (filter_map (sample_in family) above)) (tells_nothing family (is_of family o) o.item both.0).1 ∙ fresh_unsampled family above both.1

-- ---- one line more

-- what a line declares, where it is a TYPE line of the family
kind_more : (above : List Owned) (o : Owned) (family : List ℕ) → declared_kind family o ≡ None → kind_of (o ∷ above) family ≡ kind_of above family
unfolding kind_of
kind_more above o family e = ap (λ (k : Option Kind). unwrap_or (option_or k (first_some (declared_kind family) above)) Unknown) e

nothing_declared : (b : Bool) → cond b (let k : Option Kind = None in k) None ≡ None
nothing_declared true = refl
nothing_declared false = refl

-- a TYPE line of the family has no line of it above that is a TYPE line or a sample
type_apart : (st : Setting) (earlier : List Item) (name family : List ℕ) (kind : Kind) → item_fault st earlier (items.KindOf name kind) ≡ None
    → (declared_kind family (record { family = name; item = items.KindOf name kind }) ≡ None) ⊎ IsFresh (owned_lines st.format earlier) family
type_apart st earlier name family kind e = go (bytes_eq name family) refl
  where
    go : (b : Bool) → bytes_eq name family ≡ b → (cond (bytes_eq name family) (Some kind) None ≡ None) ⊎ IsFresh (owned_lines st.format earlier) family
    go false f = inl (rw f refl)
    go true f = inr (subst (IsFresh (owned_lines st.format earlier)) ((bytes_decides name family).0 f) (type_is_fresh st earlier name kind e))

-- a line that breaks no rule declares nothing of the family, or has no line of it above that is a TYPE line or a sample
declares_apart : (st : Setting) (earlier : List Item) (item : Item) (name family : List ℕ) → item_fault st earlier item ≡ None → owner_of st.format (owned_lines st.format earlier) item ≡ Some name
    → (declared_kind family (record { family = name; item = item }) ≡ None) ⊎ IsFresh (owned_lines st.format earlier) family
declares_apart st earlier (items.KindOf m k) name family e o =
    subst (λ n. (declared_kind family (record { family = n; item = items.KindOf m k }) ≡ None) ⊎ IsFresh (owned_lines st.format earlier) family) (same_Some m name o) (type_apart st earlier m family k e)
declares_apart st earlier _ name family e o = inl (nothing_declared (bytes_eq name family))

-- ---- the kind stays

samples_more : (o : Option (List ℕ)) (item : Item) (above : List Owned) (family : List ℕ) → samples_of above family ≢ [] → samples_of (with_owner o item above) family ≢ []
unfolding samples_of
samples_more None item above family h = h
samples_more (Some name) item above family h = go (sample_in family (record { family = name; item = item }))
  where
    go : (s : Option Sample) → cons_option s (filter_map (sample_in family) above) ≢ []
    go None = h
    go (Some s) = λ e. cc

kind_step : (st : Setting) (earlier : List Item) (item : Item) (family : List ℕ) → item_fault st earlier item ≡ None → samples_of (owned_lines st.format earlier) family ≢ []
    → (o : Option (List ℕ)) → owner_of st.format (owned_lines st.format earlier) item ≡ o
    → kind_of (with_owner o item (owned_lines st.format earlier)) family ≡ kind_of (owned_lines st.format earlier) family
kind_step st earlier item family e h None f = refl
kind_step st earlier item family e h (Some name) f = go (declares_apart st earlier item name family e f)
  where
    go : (declared_kind family (record { family = name; item = item }) ≡ None) ⊎ IsFresh (owned_lines st.format earlier) family
        → kind_of (record { family = name; item = item } ∷ owned_lines st.format earlier) family ≡ kind_of (owned_lines st.format earlier) family
    go (inl k) = kind_more (owned_lines st.format earlier) (record { family = name; item = item }) family k
    go (inr k) = absurd (h (fresh_unsampled family (owned_lines st.format earlier) k))

samples_stay : (st : Setting) (later earlier : List Item) (family : List ℕ) → samples_of (owned_lines st.format earlier) family ≢ [] → samples_of (owned_lines st.format (later ++ earlier)) family ≢ []
unfolding owned_lines
samples_stay st [] earlier family h = h
samples_stay st (item ∷ later) earlier family h =
    let above = owned_lines st.format (later ++ earlier) in
    samples_more (owner_of st.format above item) item above family (samples_stay st later earlier family h)

-- behind a sample of a family its kind is what it was there
pub kind_stays : (st : Setting) (later earlier : List Item) (family : List ℕ) → AreFaultless st (later ++ earlier) → samples_of (owned_lines st.format earlier) family ≢ []
    → kind_of (owned_lines st.format (later ++ earlier)) family ≡ kind_of (owned_lines st.format earlier) family
unfolding owned_lines
kind_stays st [] earlier family a h = refl
kind_stays st (item ∷ later) earlier family a h =
    kind_step st (later ++ earlier) item family a.0 (samples_stay st later earlier family h) (owner_of st.format (owned_lines st.format (later ++ earlier)) item) refl
    ∙ kind_stays st later earlier family a.1 h

-- ---- from the first line on and from the last

first_some-append : (g : Owned → Option Kind) (xs ys : List Owned) → first_some g (xs ++ ys) ≡ option_or (first_some g xs) (first_some g ys)
first_some-append g [] ys = refl
first_some-append g (x ∷ xs) ys = go (g x) (first_some-append g xs ys)
  where
    go : (o : Option Kind) → first_some g (xs ++ ys) ≡ option_or (first_some g xs) (first_some g ys)
        → option_or o (first_some g (xs ++ ys)) ≡ option_or (option_or o (first_some g xs)) (first_some g ys)
    go None ih = ih
    go (Some k) ih = refl

or_none : (o : Option Kind) → option_or o None ≡ o
or_none None = refl
or_none (Some k) = refl

either_way : (o p : Option Kind) → (p ≡ None) ⊎ (o ≡ None) → option_or o (option_or p None) ≡ option_or p o
either_way o p (inl e) = rw e (or_none o)
either_way o p (inr e) = rw e refl

reversed_step : (st : Setting) (earlier : List Item) (item : Item) (family : List ℕ) → item_fault st earlier item ≡ None
    → first_some (declared_kind family) (reverse (owned_lines st.format earlier)) ≡ first_some (declared_kind family) (owned_lines st.format earlier)
    → (o : Option (List ℕ)) → owner_of st.format (owned_lines st.format earlier) item ≡ o
    → first_some (declared_kind family) (reverse (with_owner o item (owned_lines st.format earlier))) ≡ first_some (declared_kind family) (with_owner o item (owned_lines st.format earlier))
reversed_step st earlier item family e ih None f = ih
reversed_step st earlier item family e ih (Some name) f =
    let above = owned_lines st.format earlier in
    let o : Owned = record { family = name; item = item } in
    let known : Option Kind = first_some (declared_kind family) above in
    ap (first_some (declared_kind family)) (reverse-append (o ∷ []) above)
    ∙ first_some-append (declared_kind family) (reverse above) (o ∷ [])
    ∙ ap (λ (k : Option Kind). option_or k (option_or (declared_kind family o) None)) ih
    ∙ either_way known (declared_kind family o) (apart (declares_apart st earlier item name family e f))
  where
    apart : (declared_kind family (record { family = name; item = item }) ≡ None) ⊎ IsFresh (owned_lines st.format earlier) family
        → (declared_kind family (record { family = name; item = item }) ≡ None) ⊎ (first_some (declared_kind family) (owned_lines st.format earlier) ≡ None)
    apart (inl k) = inl k
    apart (inr k) = inr (fresh_undeclared family (owned_lines st.format earlier) k)

reversed : (st : Setting) (items : List Item) (family : List ℕ) → AreFaultless st items
    → first_some (declared_kind family) (reverse (owned_lines st.format items)) ≡ first_some (declared_kind family) (owned_lines st.format items)
unfolding owned_lines
reversed st [] family a = refl
reversed st (item ∷ earlier) family a =
    reversed_step st earlier item family a.0 (reversed st earlier family a.1) (owner_of st.format (owned_lines st.format earlier) item) refl

-- a family's kind is the same from the first line on and from the last
pub kind_of_page : (st : Setting) (items : List Item) (family : List ℕ) → AreFaultless st items
    → kind_of (reverse (owned_lines st.format items)) family ≡ kind_of (owned_lines st.format items) family
unfolding kind_of
kind_of_page st items family a = ap (λ (k : Option Kind). unwrap_or k Unknown) (reversed st items family a)
