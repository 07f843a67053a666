-- What is asked of the parts of a group, and the places of its quantiles.
use Rattle.std.proofs.Common.{◌≡◌, ℕ, ◌+◌, ◌<◌, ◌≤◌, Bool, true, false, cond, ◌||◌, List, [], ◌∷◌, ◌++◌, map, filter_map, drop, length, get_or, Option, Some, None, is_some, is_eq, refl, sym, ap, ◌∙◌}
use Rattle.std.specs.List.{list_any, last_or, cons_option}
use Rattle.std.specs.BTreeMap.{is_at}
use Rattle.std.specs.Cmp.{eq_by_cmp_equiv}
use Rattle.std.proofs.lemmas.List.{append-nil, drop_more, drop_all}
use Rattle.std.proofs.lemmas.List.Elements.{filter_map-append}
use Rattle.exact_decimal.specs.declared.number.Number.TheVariants.{Finite}
use Rattle.exact_decimal.specs.Decimals.{DecimalValue, decimal_cmp}
use Rattle.exact_decimal.specs.Order.{same}
use Rattle.exact_decimal.proofs.Laws.{decimal_cmp_total}
use Rattle.page_model.specs.declared.page.Bucket.{Bucket}
use Rattle.page_model.specs.declared.page.Quantile.{Quantile}
use Rattle.sample_groups.specs.declared.part.Part.{Part}
use Rattle.sample_groups.specs.declared.part.Part.TheVariants as parts
use Rattle.sample_groups.specs.declared.places.Place.{Place}
use Rattle.sample_groups.specs.Groups.{bucket_in, quantile_in}
use Rattle.sample_groups.specs.Places.{has_place, is_place_in, HasPlacesOf}
use Rattle.sample_groups.specs.PlaceOrder.{place_cmp}
use Rattle.sample_groups.proofs.Members.{last_or-snoc}

-- ---- the last bucket

-- it is the last part, where that is one
pub last_some : (ps front : List Part) (p : Part) (o : Option Bucket) → ps ≡ front ++ p ∷ [] → o ≡ bucket_in p → is_some o ≡ true → o ≡ last_or None (filter_map bucket_in ps)
last_some ps front p None split is some = absurd (let no : false ≡ true = some in cc)
last_some ps front p (Some b) split is some =
    sym (ap (λ l. last_or None (filter_map bucket_in l)) split ∙ ap (last_or None) (filter_map-append bucket_in front (p ∷ [])) ∙ ap (λ o. last_or None (filter_map bucket_in front ++ cons_option o [])) (sym is)
    ∙ last_or-snoc None (filter_map bucket_in front) b)

-- else it is that of the parts before
pub last_none : (ps front : List Part) (p : Part) (o : Option Bucket) → ps ≡ front ++ p ∷ [] → o ≡ bucket_in p → is_some o ≡ false → last_or None (filter_map bucket_in ps) ≡ last_or None (filter_map bucket_in front)
last_none ps front p (Some b) split is none = absurd (let no : true ≡ false = none in cc)
last_none ps front p None split is none =
    ap (λ l. last_or None (filter_map bucket_in l)) split ∙ ap (last_or None) (filter_map-append bucket_in front (p ∷ [])) ∙ ap (λ o. last_or None (filter_map bucket_in front ++ cons_option o [])) (sym is)
    ∙ ap (last_or None) (append-nil (filter_map bucket_in front))

-- ---- places

-- that two values are one goes both ways
same_back : (a b : DecimalValue) → is_eq (decimal_cmp a b) ≡ same (Finite b) (Finite a)
unfolding same
same_back a b = (eq_by_cmp_equiv decimal_cmp_total).symm a b

-- a place that is looked for in the order of places is one of them
pub among : (at : DecimalValue) (ps : List Place) → list_any (is_at (place_cmp (record { at = at }))) ps ≡ is_place_in (map (λ (p : Place). p.at) ps) at
among at [] = refl
among at (p ∷ ps) = let first = same_back at p.at in let rest = among at ps in λ i. first i || rest i

either : (b c : Bool) → cond b true c ≡ (b || c)
either true c = refl
either false c = refl

pub same_is : (a b : DecimalValue) → is_eq (decimal_cmp a b) ≡ same (Finite a) (Finite b)
unfolding same
same_is a b = refl

-- a place more
pub one_more_among : (at d : DecimalValue) (old new : List Place)
    → list_any (is_at (place_cmp (record { at = d }))) new ≡ cond (is_at (place_cmp (record { at = at })) (record { at = d })) true (list_any (is_at (place_cmp (record { at = d }))) old)
    → is_place_in (map (λ (p : Place). p.at) new) d ≡ (same (Finite at) (Finite d) || is_place_in (map (λ (p : Place). p.at) old) d)
one_more_among at d old new updates =
    sym (among d new) ∙ updates ∙ either (is_eq (decimal_cmp at d)) (list_any (is_at (place_cmp (record { at = d }))) old)
    ∙ (λ i. same_is at d i || among d old i)

-- the places so far and those of the parts that are left are all of them
abbrev pub Gathers : List Part → List DecimalValue → List Part → Type 0
Gathers all places left = (d : DecimalValue) → (is_place_in places d || has_place (filter_map quantile_in left) d) ≡ has_place (filter_map quantile_in all) d

pub gathers_none : (all : List Part) (places : List DecimalValue) → places ≡ [] → Gathers all places all
gathers_none all places none d = ap (λ l. is_place_in l d || has_place (filter_map quantile_in all) d) none

pub gathers_one : (all : List Part) (old new : List DecimalValue) (i : ℕ) (p : Part) (q : Quantile) → i < length all → p ≡ get_or all i p → p ≡ parts.Quantile q
    → ((d : DecimalValue) → is_place_in new d ≡ (same (Finite q.at) (Finite d) || is_place_in old d)) → Gathers all old (drop i all) → Gathers all new (drop (i + 1) all)
gathers_one all old new i p q within at is more so_far d =
    let left : drop i all ≡ parts.Quantile q ∷ drop (i + 1) all = drop_more all i p within ∙ ap (λ x. x ∷ drop (i + 1) all) (sym at ∙ is) in
    ap (λ b. b || has_place (filter_map quantile_in (drop (i + 1) all)) d) (more d)
    ∙ moved (same (Finite q.at) (Finite d)) (is_place_in old d) (has_place (filter_map quantile_in (drop (i + 1) all)) d)
    ∙ ap (λ l. is_place_in old d || has_place (filter_map quantile_in l) d) (sym left) ∙ so_far d
  where
    moved : (a b c : Bool) → ((a || b) || c) ≡ (b || (a || c))
    moved true true c = refl
    moved true false c = refl
    moved false true c = refl
    moved false false c = refl

pub gathers_other : (all : List Part) (places : List DecimalValue) (i : ℕ) (p : Part) → i < length all → p ≡ get_or all i p → ((q : Quantile) → p ≡ parts.Quantile q → ⊥)
    → Gathers all places (drop i all) → Gathers all places (drop (i + 1) all)
gathers_other all places i p within at other so_far d =
    let left : drop i all ≡ p ∷ drop (i + 1) all = drop_more all i p within ∙ ap (λ x. x ∷ drop (i + 1) all) (sym at) in
    ap (λ l. is_place_in places d || has_place l d) (sym (ap (filter_map quantile_in) left ∙ none p other)) ∙ so_far d
  where
    none : (r : Part) → ((q : Quantile) → r ≡ parts.Quantile q → ⊥) → filter_map quantile_in (r ∷ drop (i + 1) all) ≡ filter_map quantile_in (drop (i + 1) all)
    none (parts.Bucket b) other = refl
    none (parts.Quantile q) other = absurd (other q refl)
    none (parts.Sum n) other = refl
    none (parts.Count n) other = refl
    none (parts.Total n) other = refl
    none (parts.Created n) other = refl

pub gathers_all : (all : List Part) (places : List DecimalValue) (i : ℕ) → length all ≤ i → Gathers all places (drop i all) → HasPlacesOf (filter_map quantile_in all) places
gathers_all all places i end so_far d = no_more (is_place_in places d) ∙ ap (λ l. is_place_in places d || has_place (filter_map quantile_in l) d) (sym (drop_all i all end)) ∙ so_far d
  where
    no_more : (b : Bool) → b ≡ (b || false)
    no_more true = refl
    no_more false = refl
