-- The place of a group among the groups, and the group with one member more.
use Rattle.std.proofs.Common.{◌≡◌, ℕ, zero, suc, ◌+◌, ◌<◌, Bool, true, false, cond, ◌&&◌, ◌||◌, ◌==◌, List, [], ◌∷◌, ◌++◌, map, filter_map, length, drop, append_assoc, slice_get, slice_set, get_or, Option, Some, None, refl, sym, ap, subst, ◌∙◌, arith}
use Rattle.std.specs.List.{list_any, list_all, zip, cons_option}
use Rattle.std.specs.Prelude.{nat_lt}
use Rattle.std.proofs.lemmas.Bool.{eqb-true, eqb-false}
use Rattle.std.proofs.lemmas.Bool.Decides.{nat_tests}
use Rattle.label_sets.specs.declared.label_set.LabelSet.{LabelSet}
use Rattle.label_sets.specs.declared.kind.Kind.{Kind}
use Rattle.label_sets.proofs.Laws.{sets_decide}
use Rattle.label_sets.specs.Labels.{label_sets_eq}
use Rattle.page_model.specs.declared.page.Reading.{Reading}
use Rattle.sample_groups.specs.Members.{Member}
use Rattle.sample_groups.specs.Groups.{Gathered, empty_group, known_group, or_empty, with_one, put_group, with_part, is_overtaken, is_whole_group, reading_named}
use Rattle.sample_groups.specs.Beside.{AreBeside}
use Rattle.packed_keys.specs.Packing.{with_set}
use Rattle.sample_groups.specs.Placing.{HasPlace, with_group_at}
use Rattle.sample_groups.proofs.BesideLaws.{taken_off, one_more, zip-snoc, beside_more, found_beside, missing_beside, suc_same, first_apart_from, distinct_rest}

some_same : {a b : Gathered} → Some a ≡ Some b → a ≡ b
some_same e = cc

-- ---- groups beside their labels

values_of : (ss : List LabelSet) (gs : List Gathered) → length ss ≡ length gs → map (λ (e : LabelSet × Gathered). e.1) (zip ss gs) ≡ gs
values_of [] [] e = refl
values_of [] (g ∷ gs) e = absurd (omega arith)
values_of (s ∷ ss) [] e = absurd (omega arith)
values_of (s ∷ ss) (g ∷ gs) e = ap (λ l. g ∷ l) (values_of ss gs (suc_same (length ss) (length gs) e))

pub many_pairs : (ss : List LabelSet) (gs : List Gathered) → length ss ≡ length gs → length (zip ss gs) ≡ length gs
many_pairs [] [] e = refl
many_pairs [] (g ∷ gs) e = absurd (omega arith)
many_pairs (s ∷ ss) [] e = absurd (omega arith)
many_pairs (s ∷ ss) (g ∷ gs) e = ap suc (many_pairs ss gs (suc_same (length ss) (length gs) e))

pub set_beside : (ss : List LabelSet) (gs : List Gathered) (i : ℕ) (g : Gathered) → zip ss (slice_set gs i g) ≡ with_group_at (zip ss gs) i g
set_beside [] gs i g = refl
set_beside (s ∷ ss) [] i g = refl
set_beside (s ∷ ss) (h ∷ gs) zero g = refl
set_beside (s ∷ ss) (h ∷ gs) (suc i) g = ap (λ es. (s, h) ∷ es) (set_beside ss gs i g)

put_found : (ss : List LabelSet) (gs : List Gathered) (i : ℕ) (labels : LabelSet) → AreBeside label_sets_eq ss gs → slice_get ss i ≡ Some labels → (g : Gathered) → with_group_at (zip ss gs) i g ≡ put_group (zip ss gs) labels g
put_found [] gs i labels b e g = absurd (let no : None ≡ Some labels = e in cc)
put_found (s ∷ ss) [] i labels b e g = absurd (let no : suc (length ss) ≡ 0 = b.many in omega arith)
put_found (s ∷ ss) (h ∷ gs) zero labels b e g =
    let one : s ≡ labels = cc in ap (λ c. cond c ((s, g) ∷ zip ss gs) ((s, h) ∷ put_group (zip ss gs) labels g)) (sym ((sets_decide labels s).1 (sym one)))
put_found (s ∷ ss) (h ∷ gs) (suc i) labels b e g =
    ap (λ es. (s, h) ∷ es) (put_found ss gs i labels (record { many = suc_same (length ss) (length gs) b.many; distinct = distinct_rest label_sets_eq sets_decide s ss b.distinct }) e g)
    ∙ ap (λ c. cond c ((s, g) ∷ zip ss gs) ((s, h) ∷ put_group (zip ss gs) labels g)) (sym (first_apart_from label_sets_eq sets_decide ss i s labels b.distinct e))

put_missing : (ss : List LabelSet) (gs : List Gathered) (labels : LabelSet) → length ss ≡ length gs → list_any (label_sets_eq labels) ss ≡ false → (h g : Gathered)
    → with_group_at (zip ss gs ++ (labels, h) ∷ []) (length gs) g ≡ put_group (zip ss gs) labels g
put_missing [] [] labels e new h g = refl
put_missing [] (k ∷ gs) labels e new h g = absurd (omega arith)
put_missing (s ∷ ss) [] labels e new h g = absurd (omega arith)
put_missing (s ∷ ss) (k ∷ gs) labels e new h g = by (label_sets_eq labels s) new (λ n. put_missing ss gs labels (suc_same (length ss) (length gs) e) n h g)
  where
    by : (b : Bool) → (b || list_any (label_sets_eq labels) ss) ≡ false → (list_any (label_sets_eq labels) ss ≡ false → with_group_at (zip ss gs ++ (labels, h) ∷ []) (length gs) g ≡ put_group (zip ss gs) labels g)
        → (s, k) ∷ with_group_at (zip ss gs ++ (labels, h) ∷ []) (length gs) g ≡ cond b ((s, g) ∷ zip ss gs) ((s, k) ∷ put_group (zip ss gs) labels g)
    by true n more = absurd (let no : true ≡ false = n in cc)
    by false n more = ap (λ es. (s, k) ∷ es) (more n)

-- ---- a group with others behind it

one_below : (a b : ℕ) → nat_lt (suc (suc a)) (suc b) ≡ nat_lt (suc a) b
one_below a b = grind (arith, nat_tests)

first_below : (b : ℕ) → nat_lt 1 (suc b) ≡ nat_lt 0 b
first_below b = grind (arith, nat_tests)

last_below : (a : ℕ) → nat_lt (suc a) (suc a) ≡ false
last_below a = grind (arith, nat_tests)

overtaken_found : (ss : List LabelSet) (gs : List Gathered) (i : ℕ) (labels : LabelSet) → AreBeside label_sets_eq ss gs → slice_get ss i ≡ Some labels → nat_lt (suc i) (length (zip ss gs)) ≡ is_overtaken (zip ss gs) labels
overtaken_found [] gs i labels b e = absurd (let no : None ≡ Some labels = e in cc)
overtaken_found (s ∷ ss) [] i labels b e = absurd (let no : suc (length ss) ≡ 0 = b.many in omega arith)
overtaken_found (s ∷ ss) (h ∷ gs) zero labels b e =
    let one : s ≡ labels = cc in first_below (length (zip ss gs)) ∙ ap (λ c. cond c (nat_lt 0 (length (zip ss gs))) (is_overtaken (zip ss gs) labels)) (sym ((sets_decide labels s).1 (sym one)))
overtaken_found (s ∷ ss) (h ∷ gs) (suc i) labels b e =
    one_below i (length (zip ss gs))
    ∙ overtaken_found ss gs i labels (record { many = suc_same (length ss) (length gs) b.many; distinct = distinct_rest label_sets_eq sets_decide s ss b.distinct }) e
    ∙ ap (λ c. cond c (nat_lt 0 (length (zip ss gs))) (is_overtaken (zip ss gs) labels)) (sym (first_apart_from label_sets_eq sets_decide ss i s labels b.distinct e))

overtaken_missing : (ss : List LabelSet) (gs : List Gathered) (labels : LabelSet) → list_any (label_sets_eq labels) ss ≡ false → is_overtaken (zip ss gs) labels ≡ false
overtaken_missing [] gs labels new = refl
overtaken_missing (s ∷ ss) [] labels new = refl
overtaken_missing (s ∷ ss) (k ∷ gs) labels new = by (label_sets_eq labels s) new (overtaken_missing ss gs labels)
  where
    by : (b : Bool) → (b || list_any (label_sets_eq labels) ss) ≡ false → (list_any (label_sets_eq labels) ss ≡ false → is_overtaken (zip ss gs) labels ≡ false) → cond b (nat_lt 0 (length (zip ss gs))) (is_overtaken (zip ss gs) labels) ≡ false
    by true n more = absurd (let no : true ≡ false = n in cc)
    by false n more = more n

-- ---- the place of a group

pub at_found : (ss : List LabelSet) (gs : List Gathered) (i : ℕ) (labels : LabelSet) → AreBeside label_sets_eq ss gs → slice_get ss i ≡ Some labels → HasPlace (zip ss gs) (zip ss gs) labels i
at_found ss gs i labels b at =
    let value : known_group (zip ss gs) labels ≡ slice_get gs i = found_beside label_sets_eq sets_decide ss gs i labels b at in
    let within : i < length gs = subst (λ n. i < n) b.many (place_within ss i labels at) in record {
      within = subst (λ n. i < n) (sym (many_pairs ss gs b.many)) within;
      group = ap (λ l. slice_get l i) (values_of ss gs b.many) ∙ some_at gs i within ∙ ap (λ o. Some (or_empty o)) (sym value);
      overtaken = overtaken_found ss gs i labels b at;
      put = put_found ss gs i labels b at;
    }
  where
    place_within : (xs : List LabelSet) (i : ℕ) (x : LabelSet) → slice_get xs i ≡ Some x → i < length xs
    place_within [] i x e = absurd (let no : None ≡ Some x = e in cc)
    place_within (y ∷ ys) zero x e = omega arith
    place_within (y ∷ ys) (suc i) x e = let h : i < length ys = place_within ys i x e in omega arith

    some_at : (gs : List Gathered) (i : ℕ) → i < length gs → slice_get gs i ≡ Some (or_empty (slice_get gs i))
    some_at [] i h = absurd (omega arith)
    some_at (g ∷ gs) zero h = refl
    some_at (g ∷ gs) (suc i) h = some_at gs i (omega arith)

pub at_end : (ss : List LabelSet) (gs : List Gathered) (labels : LabelSet) → length ss ≡ length gs → list_any (label_sets_eq labels) ss ≡ false
    → HasPlace (zip ss gs) (zip (ss ++ labels ∷ []) (gs ++ empty_group ∷ [])) labels (length gs)
at_end ss gs labels many new =
    let pairs : zip (ss ++ labels ∷ []) (gs ++ empty_group ∷ []) ≡ zip ss gs ++ (labels, empty_group) ∷ [] = zip-snoc ss gs labels empty_group many in
    let size : length (zip ss gs) ≡ length gs = many_pairs ss gs many in record {
      within = subst (λ l. length gs < length l) (sym pairs) (let one : length (zip ss gs ++ (labels, empty_group) ∷ []) ≡ suc (length (zip ss gs)) = one_more (zip ss gs) (labels, empty_group) in omega arith);
      group = ap (λ l. slice_get (map (λ (e : LabelSet × Gathered). e.1) l) (length gs)) pairs ∙ ap (slice_get (map (λ (e : LabelSet × Gathered). e.1) (zip ss gs ++ (labels, empty_group) ∷ []))) (sym size)
          ∙ last_value (zip ss gs) (labels, empty_group) ∙ ap (λ o. Some (or_empty o)) (sym (missing_beside label_sets_eq sets_decide ss gs labels new));
      overtaken = ap (λ l. nat_lt (suc (length gs)) (length l)) pairs ∙ ap (nat_lt (suc (length gs))) (one_more (zip ss gs) (labels, empty_group) ∙ ap suc size) ∙ last_below (length gs)
          ∙ sym (overtaken_missing ss gs labels new);
      put = λ g. ap (λ l. with_group_at l (length gs) g) pairs ∙ put_missing ss gs labels many new empty_group g;
    }
  where
    last_value : (es : List (LabelSet × Gathered)) (e : LabelSet × Gathered) → slice_get (map (λ (e : LabelSet × Gathered). e.1) (es ++ e ∷ [])) (length es) ≡ Some e.1
    last_value [] e = refl
    last_value (x ∷ xs) e = last_value xs e

-- what the table of labels answers of a set that it is given
pub record IsEntered (before after : List LabelSet) (labels : LabelSet) (place : ℕ) : Type 0 where
  pub at : slice_get after place ≡ Some labels
  pub sets : after ≡ with_set before labels

-- a new set stands last alone
last_only : (labels : LabelSet) (ss : List LabelSet) (place : ℕ) → list_any (label_sets_eq labels) ss ≡ false → slice_get (ss ++ labels ∷ []) place ≡ Some labels → place ≡ length ss
last_only labels [] zero new at = refl
last_only labels [] (suc i) new at = absurd (let no : None ≡ Some labels = at in cc)
last_only labels (s ∷ ss) zero new at =
    let one : s ≡ labels = cc in absurd (let yes : true ≡ false = sym (ap (λ b. b || list_any (label_sets_eq labels) ss) ((sets_decide labels s).1 (sym one))) ∙ new in cc)
last_only labels (s ∷ ss) (suc i) new at = rest (label_sets_eq labels s) new (λ h. last_only labels ss i h at)
  where
    rest : (b : Bool) → (b || list_any (label_sets_eq labels) ss) ≡ false → (list_any (label_sets_eq labels) ss ≡ false → i ≡ length ss) → suc i ≡ suc (length ss)
    rest true h more = absurd (let no : true ≡ false = h in cc)
    rest false h more = ap suc (more h)

past_end : {A : Type 0} (xs : List A) → slice_get xs (length xs) ≡ None
past_end [] = refl
past_end (x ∷ xs) = past_end xs

-- a place that is not behind the groups is that of a set that was there
pub entered_before : (ss after : List LabelSet) (gs : List Gathered) (labels : LabelSet) (place : ℕ) → length ss ≡ length gs → IsEntered ss after labels place → (place ≡ length gs → ⊥) → after ≡ ss
entered_before ss after gs labels place many e other = by (list_any (label_sets_eq labels) ss) refl e.sets
  where
    by : (b : Bool) → list_any (label_sets_eq labels) ss ≡ b → after ≡ cond b ss (ss ++ labels ∷ []) → after ≡ ss
    by true known is = is
    by false new is = absurd (other (last_only labels ss place new (sym (ap (λ l. slice_get l place) is) ∙ e.at) ∙ many))

-- the place behind the groups is that of a set that is new
pub entered_behind : (ss after : List LabelSet) (gs : List Gathered) (labels : LabelSet) (place : ℕ) → length ss ≡ length gs → IsEntered ss after labels place → place ≡ length gs
    → (list_any (label_sets_eq labels) ss ≡ false) × (after ≡ ss ++ labels ∷ [])
entered_behind ss after gs labels place many e end = by (list_any (label_sets_eq labels) ss) refl e.sets
  where
    by : (b : Bool) → list_any (label_sets_eq labels) ss ≡ b → after ≡ cond b ss (ss ++ labels ∷ []) → (b ≡ false) × (after ≡ ss ++ labels ∷ [])
    by false new is = (refl, is)
    by true known is = absurd (let no : None ≡ Some labels = sym (past_end ss) ∙ ap (slice_get ss) (many ∙ sym end) ∙ sym (ap (λ l. slice_get l place) is) ∙ e.at in cc)

-- a set is entered, and its group where it is new
pub record IsPutIn (ss after : List LabelSet) (gs grown : List Gathered) (labels : LabelSet) (place : ℕ) : Type 0 where
  pub entered : IsEntered ss after labels place
  pub new : place ≡ length gs → grown ≡ gs ++ empty_group ∷ []
  pub other : (place ≡ length gs → ⊥) → grown ≡ gs

pub put_in : (ss after : List LabelSet) (gs grown : List Gathered) (labels : LabelSet) (place : ℕ) → AreBeside label_sets_eq ss gs → IsPutIn ss after gs grown labels place
    → HasPlace (zip ss gs) (zip after grown) labels place × AreBeside label_sets_eq after grown
put_in ss after gs grown labels place b p = by (place == length gs) refl
  where
    by : (c : Bool) → (place == length gs) ≡ c → HasPlace (zip ss gs) (zip after grown) labels place × AreBeside label_sets_eq after grown
    by true e =
        let end : place ≡ length gs = eqb-true place (length gs) e in
        let behind = entered_behind ss after gs labels place b.many p.entered end in
        let groups = p.new end in (
          subst (λ i. HasPlace (zip ss gs) (zip after grown) labels i) (sym end)
              (subst (λ l. HasPlace (zip ss gs) (zip l grown) labels (length gs)) (sym behind.1) (subst (λ l. HasPlace (zip ss gs) (zip (ss ++ labels ∷ []) l) labels (length gs)) (sym groups) (at_end ss gs labels b.many behind.0))),
          subst (λ l. AreBeside label_sets_eq l grown) (sym behind.1) (subst (λ l. AreBeside label_sets_eq (ss ++ labels ∷ []) l) (sym groups) (beside_more label_sets_eq sets_decide ss gs labels empty_group b behind.0)),
        )
    by false e =
        let apart : place ≡ length gs → ⊥ = λ end. eqb-false place (length gs) e end in
        let same = entered_before ss after gs labels place b.many p.entered apart in
        let groups = p.other apart in (
          subst (λ l. HasPlace (zip ss gs) (zip l grown) labels place) (sym same) (subst (λ l. HasPlace (zip ss gs) (zip ss l) labels place) (sym groups) (at_found ss gs place labels b (ap (λ l. slice_get l place) (sym same) ∙ p.entered.at))),
          subst (λ l. AreBeside label_sets_eq l grown) (sym same) (subst (λ l. AreBeside label_sets_eq ss l) (sym groups) b),
        )

-- ---- one member more

-- the group at its place with one member more
pub added_at : (old new : List (LabelSet × Gathered)) (labels : LabelSet) (place : ℕ) (before after : Gathered) (member : Member) → HasPlace old new labels place
    → slice_get (map (λ (e : LabelSet × Gathered). e.1) new) place ≡ Some before → after ≡ with_one before member → with_group_at new place after ≡ with_part old labels member
unfolding with_part
added_at old new labels place before after member has at is =
    let same : before ≡ or_empty (known_group old labels) = some_same (sym at ∙ has.group) in
    ap (with_group_at new place) (is ∙ ap (λ g. with_one g member) same) ∙ has.put (with_one (or_empty (known_group old labels)) member)

-- ---- whole groups

pub whole_beside : (ss : List LabelSet) (gs : List Gathered) → length ss ≡ length gs → list_all is_whole_group gs ≡ list_all (λ (e : LabelSet × Gathered). is_whole_group e.1) (zip ss gs)
whole_beside [] [] e = refl
whole_beside [] (g ∷ gs) e = absurd (omega arith)
whole_beside (s ∷ ss) [] e = absurd (omega arith)
whole_beside (s ∷ ss) (g ∷ gs) e = ap (λ b. is_whole_group g && b) (whole_beside ss gs (suc_same (length ss) (length gs) e))

-- ---- readings

-- the reading of one group more, where it has one
pub one_reading : (kind : Kind) (name unit : List ℕ) (sets : List LabelSet) (place : ℕ) (labels : LabelSet) (group : Gathered) (left next : List Gathered) (old new whole : List Reading)
    → slice_get sets place ≡ Some labels → left ≡ group ∷ next → new ≡ old ++ cons_option (reading_named kind name unit (labels, group)) []
    → old ++ filter_map (reading_named kind name unit) (zip (drop place sets) left) ≡ whole → new ++ filter_map (reading_named kind name unit) (zip (drop (place + 1) sets) next) ≡ whole
one_reading kind name unit sets place labels group left next old new whole at first more so_far =
    ap (λ l. l ++ filter_map (reading_named kind name unit) (zip (drop (place + 1) sets) next)) more
    ∙ append_assoc old (cons_option (reading_named kind name unit (labels, group)) []) (filter_map (reading_named kind name unit) (zip (drop (place + 1) sets) next))
    ∙ ap (λ l. old ++ l) (in_front (reading_named kind name unit (labels, group)) (filter_map (reading_named kind name unit) (zip (drop (place + 1) sets) next)))
    ∙ sym (λ i. old ++ filter_map (reading_named kind name unit) (zip (taken_off sets place labels at i) (first i))) ∙ so_far
  where
    in_front : (o : Option Reading) (rs : List Reading) → cons_option o [] ++ rs ≡ cons_option o rs
    in_front None rs = refl
    in_front (Some r) rs = refl

-- ---- a group at its place

-- its place is within the groups
pub within_groups : (old new : List (LabelSet × Gathered)) (ss : List LabelSet) (gs : List Gathered) (labels : LabelSet) (place : ℕ) → HasPlace old new labels place → zip ss gs ≡ new → length ss ≡ length gs → place < length gs
within_groups old new ss gs labels place has is many = subst (λ n. place < n) (sym (ap length is) ∙ many_pairs ss gs many) has.within

read_at : (gs : List Gathered) (i : ℕ) (g : Gathered) → i < length gs → g ≡ get_or gs i g → slice_get gs i ≡ Some g
read_at [] i g h e = absurd (omega arith)
read_at (k ∷ gs) zero g h e = ap Some (sym e)
read_at (k ∷ gs) (suc i) g h e = read_at gs i g (omega arith) e

-- it is the one with the labels, or an empty one
pub group_here : (old new : List (LabelSet × Gathered)) (ss : List LabelSet) (gs : List Gathered) (labels : LabelSet) (place : ℕ) (g : Gathered) → HasPlace old new labels place → zip ss gs ≡ new → length ss ≡ length gs
    → g ≡ get_or gs place g → g ≡ or_empty (known_group old labels)
group_here old new ss gs labels place g has is many at =
    some_same (sym (read_at gs place g (within_groups old new ss gs labels place has is many) at) ∙ ap (λ l. slice_get l place) (sym (values_of ss gs many)) ∙ ap (λ l. slice_get (map (λ (e : LabelSet × Gathered). e.1) l) place) is ∙ has.group)

-- and with one member more they are the groups with that member
pub grown_here : (old new : List (LabelSet × Gathered)) (ss : List LabelSet) (gs : List Gathered) (labels : LabelSet) (place : ℕ) (before after : Gathered) (member : Member) → HasPlace old new labels place → zip ss gs ≡ new → length ss ≡ length gs
    → before ≡ get_or gs place before → after ≡ with_one before member → zip ss (slice_set gs place after) ≡ with_part old labels member
grown_here old new ss gs labels place before after member has is many at more =
    set_beside ss gs place after ∙ ap (λ l. with_group_at l place after) is
    ∙ added_at old new labels place before after member has (ap (λ l. slice_get (map (λ (e : LabelSet × Gathered). e.1) l) place) (sym is) ∙ ap (λ l. slice_get l place) (values_of ss gs many) ∙ read_at gs place before (within_groups old new ss gs labels place has is many) at) more

-- the groups behind its place tell whether it goes back
pub overtaken_here : (old new : List (LabelSet × Gathered)) (ss : List LabelSet) (gs : List Gathered) (labels : LabelSet) (place : ℕ) → HasPlace old new labels place → zip ss gs ≡ new → length ss ≡ length gs
    → nat_lt (place + 1) (length gs) ≡ is_overtaken old labels
overtaken_here old new ss gs labels place has is many =
    let next : place + 1 ≡ suc place = omega arith in
    (λ i. nat_lt (next i) ((sym (many_pairs ss gs many) ∙ ap length is) i)) ∙ has.overtaken
