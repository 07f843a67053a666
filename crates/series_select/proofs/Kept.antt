-- What is selected: by names first, then by labels, and some of all that there is.
use Rattle.std.proofs.Common.{◌≡◌, ℕ, Bool, true, false, cond, ◌&&◌, ◌||◌, List, [], ◌∷◌, ◌++◌, map, filter, take, drop, length, refl, sym, ap, subst, ◌∙◌}
use Rattle.std.specs.Prelude.{◌==◌}
use Rattle.std.specs.List.{list_any, list_all, prefix_len}
use Rattle.std.specs.Option.{option_map_or}
use Rattle.std.specs.Str.{bytes_eq}
use Rattle.std.proofs.Math.Numerals.{one-add}
use Rattle.std.proofs.lemmas.Bool.{and_parts}
use Rattle.std.proofs.lemmas.List.{append-nil, map-append, nil_from_length, take-append-drop}
use Rattle.std.proofs.lemmas.List.Elements.{filter-append}
use Rattle.page_model.specs.declared.page.Reading.{Reading}
use Rattle.page_model.specs.declared.page.Family.{Family}
use Rattle.page_model.specs.Presence.{has_readings, filled_families}
use Rattle.series_select.specs.declared.selector.Matcher.{Matcher}
use Rattle.series_select.specs.declared.selector.Selector.{Selector}
use Rattle.series_select.specs.Selection.{is_called, is_name_asked, has_label, told, holds, is_selected_by, is_selected, thinned, selected_families}
use Rattle.series_select.specs.SelectionSteps.{name_holds, label_holds, names_hold, labels_hold, is_left}
use Rattle.series_select.proofs.FrontLaws.{Stops, rest_stops}

-- ---- the names of a family

-- behind the front that it has, the ending decides
ending_decides : (front name ending : List ℕ) → bytes_eq (take (length front) name) front ≡ true → bytes_eq (drop (length front) name) ending ≡ bytes_eq name (front ++ ending)
ending_decides [] [] ending h = refl
ending_decides [] (x ∷ xs) ending h = refl
ending_decides (f ∷ fs) [] ending h = absurd (let e : false ≡ true = h in cc)
ending_decides (f ∷ fs) (x ∷ xs) ending h =
    let parts = and_parts (x == f) (bytes_eq (take (length fs) xs) fs) h in
    rw parts.0 (ending_decides fs xs ending parts.1)

-- without the front it isn't
other_front : (front name ending : List ℕ) → bytes_eq (take (length front) name) front ≡ false → bytes_eq name (front ++ ending) ≡ false
other_front [] [] ending h = absurd (let e : true ≡ false = h in cc)
other_front [] (x ∷ xs) ending h = absurd (let e : true ≡ false = h in cc)
other_front (f ∷ fs) [] ending h = refl
other_front (f ∷ fs) (x ∷ xs) ending h = by (x == f) h (other_front fs xs ending)
  where
    by : (b : Bool) → (b && bytes_eq (take (length fs) xs) fs) ≡ false → (bytes_eq (take (length fs) xs) fs ≡ false → bytes_eq xs (fs ++ ending) ≡ false) → (b && bytes_eq xs (fs ++ ending)) ≡ false
    by true e more = more e
    by false e more = refl

endings_decide : (front name : List ℕ) (endings : List (List ℕ)) → bytes_eq (take (length front) name) front ≡ true → list_any (bytes_eq (drop (length front) name)) endings ≡ list_any (bytes_eq name) (map (λ ending. front ++ ending) endings)
endings_decide front name [] h = refl
endings_decide front name (x ∷ xs) h =
    let first = ending_decides front name x h in
    let rest = endings_decide front name xs h in
    λ i. first i || rest i

no_endings : (front name : List ℕ) (endings : List (List ℕ)) → bytes_eq (take (length front) name) front ≡ false → list_any (bytes_eq name) (map (λ ending. front ++ ending) endings) ≡ false
no_endings front name [] h = refl
no_endings front name (x ∷ xs) h = rw (other_front front name x h, no_endings front name xs h) refl

-- a name with the family's in front is one of its names by its ending
pub named_by_ending : (front name ending : List ℕ) (endings : List (List ℕ)) → bytes_eq (take (length front) name) front ≡ true → ending ≡ drop (length front) name
    → (bytes_eq ending [] || list_any (bytes_eq ending) endings) ≡ list_any (bytes_eq name) (front ∷ map (λ x. front ++ x) endings)
named_by_ending front name ending endings h e =
    let own : bytes_eq (drop (length front) name) [] ≡ bytes_eq name front = ending_decides front name [] h ∙ ap (bytes_eq name) (append-nil front) in
    let others = endings_decide front name endings h in
    ap (λ (x : List ℕ). bytes_eq x [] || list_any (bytes_eq x) endings) e ∙ (λ i. own i || others i)

-- another is none
pub other_name : (front name : List ℕ) (endings : List (List ℕ)) → bytes_eq (take (length front) name) front ≡ false → false ≡ list_any (bytes_eq name) (front ∷ map (λ x. front ++ x) endings)
other_name front name endings h =
    let own : bytes_eq name front ≡ false = ap (bytes_eq name) (sym (append-nil front)) ∙ other_front front name [] h in
    rw (own, no_endings front name endings h) refl

-- ---- names first, then labels

and_true : (b : Bool) → (b && true) ≡ b
and_true true = refl
and_true false = refl

and_within : (a b c : Bool) → (a && (b && c)) ≡ ((a && b) && c)
and_within true b c = refl
and_within false b c = refl

and_shuffled : (a b c d : Bool) → ((a && b) && (c && d)) ≡ ((a && c) && (b && d))
and_shuffled true true c d = refl
and_shuffled true false true d = refl
and_shuffled true false false d = refl
and_shuffled false b c d = refl

all_parted : {A : Type 0} (h p q : A → Bool) → ((x : A) → h x ≡ (p x && q x)) → (xs : List A) → list_all h xs ≡ (list_all p xs && list_all q xs)
all_parted h p q each [] = refl
all_parted h p q each (x ∷ xs) =
    let first = each x in
    let rest = all_parted h p q each xs in
    (λ i. first i && rest i) ∙ and_shuffled (p x) (q x) (list_all p xs) (list_all q xs)

any_parted : {A : Type 0} (h p q : A → Bool) → ((x : A) → h x ≡ (p x && q x)) → (xs : List A) → list_any h xs ≡ list_any q (filter p xs)
any_parted h p q each [] = refl
any_parted h p q each (x ∷ xs) = go (p x) refl (any_parted h p q each xs)
  where
    go : (b : Bool) → p x ≡ b → list_any h xs ≡ list_any q (filter p xs) → (h x || list_any h xs) ≡ list_any q (cond (p x) (x ∷ filter p xs) (filter p xs))
    go true e ih = rw (each x, e) (ap (λ b. q x || b) ih)
    go false e ih = rw (each x, e) ih

holds_parted : (f : Family) (r : Reading) (m : Matcher) → holds f r m ≡ (name_holds f m && label_holds r m)
holds_parted f r m = go (is_name_asked m)
  where
    go : (b : Bool) → told m.differs (cond b (is_called f m.value) (has_label m r)) ≡ (cond b (told m.differs (is_called f m.value)) true && cond b true (told m.differs (has_label m r)))
    go true = sym (and_true (told m.differs (is_called f m.value)))
    go false = refl

selected_parted : (f : Family) (r : Reading) (s : Selector) → is_selected_by f r s ≡ (names_hold f s && labels_hold r s)
unfolding is_selected_by names_hold labels_hold
selected_parted f r s =
    ap (λ b. option_map_or (is_called f) s.name true && b) (all_parted (holds f r) (name_holds f) (label_holds r) (holds_parted f r) s.matchers)
    ∙ and_within (option_map_or (is_called f) s.name true) (list_all (name_holds f) s.matchers) (list_all (label_holds r) s.matchers)

-- what the selectors that name a family ask of labels tells which of its readings are selected
left_selected : (list : List Selector) (f : Family) (r : Reading) → is_left (filter (names_hold f) list) r ≡ is_selected list f r
left_selected list f r = sym (any_parted (is_selected_by f r) (names_hold f) (labels_hold r) (selected_parted f r) list)

pub readings_selected : (list : List Selector) (f : Family) (named : List Selector) (left : List Reading) → named ≡ filter (names_hold f) list → left ≡ filter (is_left named) f.readings → left ≡ filter (is_selected list f) f.readings
readings_selected list f named left e is = is ∙ ap (λ (ss : List Selector). filter (is_left ss) f.readings) e ∙ ap (λ (test : Reading → Bool). filter test f.readings) (λ i r. left_selected list f r i)

-- ---- readings

filter_front : {A : Type 0} (p : A → Bool) (xs : List A) → filter p xs ≡ take (prefix_len p xs) xs ++ filter p (drop (prefix_len p xs) xs)
filter_front p [] = refl
filter_front p (x ∷ xs) = go (p x) refl (filter_front p xs)
  where
    go : (b : Bool) → p x ≡ b → filter p xs ≡ take (prefix_len p xs) xs ++ filter p (drop (prefix_len p xs) xs)
        → filter p (x ∷ xs) ≡ take (prefix_len p (x ∷ xs)) (x ∷ xs) ++ filter p (drop (prefix_len p (x ∷ xs)) (x ∷ xs))
    go true e ih = rw (e, one-add) (ap (λ ys. x ∷ ys) ih)
    go false e ih = rw e (rw e refl)

first_passed : {A : Type 0} (p : A → Bool) (x : A) (rest : List A) → Stops p (x ∷ rest) → filter p (x ∷ rest) ≡ filter p rest
first_passed p x rest h = rw h refl

module _ {A : Type 0} (p : A → Bool) (xs front behind : List A) (n : ℕ) (count : n ≡ prefix_len p xs) (front_is : front ≡ take n xs) (behind_is : behind ≡ drop n xs) where
  front_kept : filter p xs ≡ front ++ filter p behind
  front_kept =
      let f : front ≡ take (prefix_len p xs) xs = front_is ∙ ap (λ k. take k xs) count in
      let b : behind ≡ drop (prefix_len p xs) xs = behind_is ∙ ap (λ k. drop k xs) count in
      filter_front p xs ∙ (λ i. sym f i ++ filter p (sym b i))

  -- where none stands behind the front that passes, all pass
  pub all_kept : length behind ≡ 0 → xs ≡ filter p xs
  all_kept h =
      let none : behind ≡ [] = nil_from_length behind h in
      let whole : xs ≡ front ++ behind = sym (take-append-drop n xs) ∙ (λ i. sym front_is i ++ sym behind_is i) in
      whole ∙ ap (λ (ys : List A). front ++ ys) (none ∙ ap (filter p) (sym none)) ∙ sym front_kept

  -- else the first behind it doesn't
  pub front_and_rest : (x : A) (rest : List A) → behind ≡ x ∷ rest → front ++ filter p rest ≡ filter p xs
  front_and_rest x rest e =
      let stops : Stops p (x ∷ rest) = subst (Stops p) (ap (λ k. drop k xs) (sym count) ∙ sym behind_is ∙ e) (rest_stops p xs) in
      sym (front_kept ∙ ap (λ (ys : List A). front ++ filter p ys) e ∙ ap (λ (ys : List A). front ++ ys) (first_passed p x rest stops))

-- ---- families

pub selected-append : (list : List Selector) (fs gs : List Family) → selected_families list (fs ++ gs) ≡ selected_families list fs ++ selected_families list gs
unfolding selected_families
selected-append list fs gs = ap filled_families (map-append (thinned list) fs gs) ∙ filter-append has_readings (map (thinned list) fs) (map (thinned list) gs)

pub none_selected : (list : List Selector) → selected_families list [] ≡ []
unfolding selected_families
none_selected list = refl

-- a family with the readings that are selected
pub one_selected : (list : List Selector) (f : Family) (left : List Reading) → left ≡ filter (is_selected list f) f.readings → filled_families (record f { readings = left } ∷ []) ≡ selected_families list (f ∷ [])
unfolding selected_families thinned
one_selected list f left e = ap (λ (rs : List Reading). filled_families (record f { readings = rs } ∷ [])) e

-- none is left of a family that no selector names
no_labels : (rs : List Reading) → filter (is_left []) rs ≡ []
no_labels [] = refl
no_labels (r ∷ rs) = no_labels rs

pub unnamed_family : (list : List Selector) (f : Family) (named : List Selector) → named ≡ filter (names_hold f) list → named ≡ [] → selected_families list (f ∷ []) ≡ []
unnamed_family list f named e none =
    sym (one_selected list f [] (readings_selected list f named [] e (sym (no_labels f.readings) ∙ ap (λ (ss : List Selector). filter (is_left ss) f.readings) (sym none))))
