-- One member more in the groups, and what is kept of a group.
use Rattle.std.proofs.Common.{◌≡◌, ℕ, Bool, true, false, cond, not, ◌&&◌, ◌||◌, ◌==◌, List, [], ◌∷◌, ◌++◌, map, filter, filter_map, Option, Some, None, refl, sym, ap, ◌∙◌}
use Rattle.std.proofs.lemmas.List.{append-nil, map-append}
use Rattle.std.proofs.lemmas.List.Elements.{filter-append, filter_map-append}
use Rattle.std.proofs.lemmas.List.Folds.{list_all-append}
use Rattle.std.specs.List.{list_all, cons_option}
use Rattle.std.specs.Option.{option_or}
use Rattle.label_sets.specs.declared.kind.Kind.{Kind}
use Rattle.label_sets.specs.declared.label_set.LabelSet.{LabelSet}
use Rattle.label_sets.specs.Labels.{label_sets_eq}
use Rattle.label_sets.specs.Lists.{first_of_each, first_some, some_passes}
use Rattle.page_model.specs.declared.item.Exemplar.{Exemplar}
use Rattle.page_model.specs.declared.item.Sample.{Sample}
use Rattle.page_model.specs.Written.{Setting}
use Rattle.page_model.specs.Owners.{kept_labels}
use Rattle.page_model.specs.Rules.{sample_group}
use Rattle.page_model.proofs.Laws.{label_sets_decide}
use Rattle.sample_groups.specs.Members.{Member}
use Rattle.sample_groups.specs.declared.part.Part.{Part}
use Rattle.sample_groups.specs.Parts.{is_grouped}
use Rattle.sample_groups.specs.Groups.{Gathered, bucket_in, quantile_in, sum_in, count_in, total_in, created_in, time_in, exemplar_in, are_one, are_one_count, group_of_parts, parts_of, group_from, shared_labels, members_in, groups_from, with_one, empty_group, known_group, or_empty, put_group, with_part}
use Rattle.sample_groups.proofs.KindCases.{of_grouped}
use Rattle.sample_groups.proofs.Members.{when, head_of, has_key, has_key-first, eq_swap, keyed, lookup-keyed, with_key, first_of_each-snoc, AreApart, first_apart, keyed_agree, first_some-head, and_true}

-- ---- the labels of a group

-- the labels that the samples of a group share are those of the sample's group
pub shared_group : (st : Setting) (kind : Kind) (family : List ℕ) (s : Sample) → is_grouped st.format kind ≡ true → sample_group st kind family s ≡ shared_labels kind (kept_labels st.treatment s.labels)
shared_group st kind family s grouped =
    of_grouped st.format (λ k. sample_group st k family s ≡ shared_labels k (kept_labels st.treatment s.labels)) (record { histogram = refl; gauge = refl; summary = refl; counter = λ _. refl }) kind grouped

-- ---- one member more in its group

or_none : {B : Type 0} (o : Option B) → option_or o None ≡ o
or_none None = refl
or_none (Some y) = refl

first_some-snoc : {A B : Type 0} (f : A → Option B) (xs : List A) (x : A) → first_some f (xs ++ x ∷ []) ≡ option_or (first_some f xs) (f x)
first_some-snoc f [] x = or_none (f x)
first_some-snoc {A = A} {B = B} f (y ∷ ys) x = ap (option_or (f y)) (first_some-snoc f ys x) ∙ by (f y)
  where
    by : (o : Option B) → option_or o (option_or (first_some f ys) (f x)) ≡ option_or (option_or o (first_some f ys)) (f x)
    by None = refl
    by (Some z) = refl

-- all are one, with one more
are_one-snoc : (ns : List ℕ) (n : ℕ) → are_one (ns ++ n ∷ []) ≡ (are_one ns && not (some_passes (λ m. not (m == n)) (head_of ns)))
are_one-snoc [] n = refl
are_one-snoc (m ∷ ms) n = list_all-append (λ k. m == k) ms (n ∷ []) ∙ ap (λ b. list_all (λ k. m == k) ms && b) (and_true (m == n) ∙ twice (m == n))
  where
    twice : (b : Bool) → b ≡ not (not b)
    twice true = refl
    twice false = refl

-- all are one, with one more where there is one
are_one-more : (ns : List ℕ) (o : Option ℕ) → are_one (ns ++ cons_option o []) ≡ (are_one ns && are_one_count (head_of ns) o)
are_one-more ns None = ap are_one (append-nil ns) ∙ sym (and_true (are_one ns))
are_one-more ns (Some n) = are_one-snoc ns n

module _ (ps : List Part) (p : Part) where
  -- what some of the parts have, where the one more has it
  pub some_more : {B : Type 0} (f : Part → Option B) (y : B) → f p ≡ Some y → filter_map f (ps ++ p ∷ []) ≡ filter_map f ps ++ y ∷ []
  some_more f y e = filter_map-append f ps (p ∷ []) ∙ ap (λ o. filter_map f ps ++ cons_option o []) e

  pub none_more : {B : Type 0} (f : Part → Option B) → f p ≡ None → filter_map f (ps ++ p ∷ []) ≡ filter_map f ps
  none_more f e = filter_map-append f ps (p ∷ []) ∙ ap (λ o. filter_map f ps ++ cons_option o []) e ∙ append-nil (filter_map f ps)

-- a group of parts and one member more
pub group_of_parts-snoc : (ps : List Part) (first : Option (Option ℕ)) (exemplars : List Exemplar) (m : Member)
    → group_of_parts (ps ++ m.part ∷ []) (option_or first (time_in m)) (exemplars ++ cons_option (exemplar_in m) []) ≡ with_one (group_of_parts ps first exemplars) m
unfolding group_of_parts with_one
group_of_parts-snoc ps first exemplars m =
    let p : Part = m.part in
    let buckets = filter_map-append bucket_in ps (p ∷ []) in
    let quantiles = filter_map-append quantile_in ps (p ∷ []) in
    let sum = first_some-snoc sum_in ps p in
    let count = first_some-snoc count_in ps p in
    let total = first_some-snoc total_in ps p in
    let created = first_some-snoc created_in ps p in
    let agree : are_one (filter_map count_in (ps ++ p ∷ [])) ≡ (are_one (filter_map count_in ps) && are_one_count (first_some count_in ps) (count_in p)) =
    ap are_one (filter_map-append count_in ps (p ∷ [])) ∙ are_one-more (filter_map count_in ps) (count_in p) ∙ ap (λ o. are_one (filter_map count_in ps) && are_one_count o (count_in p)) (sym (first_some-head count_in ps)) in
    λ i. record {
      buckets = buckets i;
      quantiles = quantiles i;
      sum = sum i;
      count = count i;
      counts_agree = agree i;
      total = total i;
      created = created i;
      first = option_or first (time_in m);
      exemplars = exemplars ++ cons_option (exemplar_in m) [];
    }

-- a group of members and one more
pub group_from-snoc : (ms : List Member) (m : Member) → group_from (ms ++ m ∷ []) ≡ with_one (group_from ms) m
unfolding group_from
group_from-snoc ms m =
    let parts : parts_of (ms ++ m ∷ []) ≡ parts_of ms ++ m.part ∷ [] = map-append (λ (x : Member). x.part) ms (m ∷ []) in
    let first : first_some time_in (ms ++ m ∷ []) ≡ option_or (first_some time_in ms) (time_in m) = first_some-snoc time_in ms m in
    let exemplars : filter_map exemplar_in (ms ++ m ∷ []) ≡ filter_map exemplar_in ms ++ cons_option (exemplar_in m) [] = filter_map-append exemplar_in ms (m ∷ []) in
    (λ i. group_of_parts (parts i) (first i) (exemplars i)) ∙ group_of_parts-snoc (parts_of ms) (first_some time_in ms) (filter_map exemplar_in ms) m

-- no members make the group without members
none_from : empty_group ≡ group_from []
unfolding group_from
none_from = refl

-- ---- the members of one group

-- the labels of the members
abbrev pub labels_of : List (LabelSet × Member) → List LabelSet
labels_of es = map (λ (e : LabelSet × Member). e.0) es

-- the group with these labels
abbrev pub group_at : List (LabelSet × Member) → LabelSet → Gathered
group_at es labels = group_from (members_in labels es)

members_in-other : (es : List (LabelSet × Member)) (e : LabelSet × Member) (labels : LabelSet) → label_sets_eq e.0 labels ≡ false → members_in labels (es ++ e ∷ []) ≡ members_in labels es
unfolding members_in
members_in-other es e labels f = ap (map (λ (x : LabelSet × Member). x.1)) (filter-append (λ (x : LabelSet × Member). label_sets_eq x.0 labels) es (e ∷ [])
    ∙ rw f (append-nil (filter (λ (x : LabelSet × Member). label_sets_eq x.0 labels) es)))

members_in-own : (es : List (LabelSet × Member)) (e : LabelSet × Member) → members_in e.0 (es ++ e ∷ []) ≡ members_in e.0 es ++ e.1 ∷ []
unfolding members_in
members_in-own es e =
    let own : label_sets_eq e.0 e.0 ≡ true = (label_sets_decide e.0 e.0).1 refl in
    ap (map (λ (x : LabelSet × Member). x.1)) (filter-append (λ (x : LabelSet × Member). label_sets_eq x.0 e.0) es (e ∷ []))
    ∙ rw own (map-append (λ (x : LabelSet × Member). x.1) (filter (λ (x : LabelSet × Member). label_sets_eq x.0 e.0) es) (e ∷ []))

-- a group that has no member yet
members_in-none : (es : List (LabelSet × Member)) (labels : LabelSet) → has_key label_sets_eq label_sets_decide labels (labels_of es) ≡ false → members_in labels es ≡ []
unfolding members_in
members_in-none [] labels none = refl
members_in-none (e ∷ es) labels none = by (label_sets_eq labels e.0) refl none (members_in-none es labels)
  where
    by : (b : Bool) → label_sets_eq labels e.0 ≡ b → (b || has_key label_sets_eq label_sets_decide labels (labels_of es)) ≡ false
        → (has_key label_sets_eq label_sets_decide labels (labels_of es) ≡ false → members_in labels es ≡ []) → members_in labels (e ∷ es) ≡ []
    by true f h more = absurd (let c : true ≡ false = h in cc)
    by false f h more = rw (eq_swap label_sets_eq label_sets_decide e.0 labels ∙ f) (more h)

-- ---- the groups

-- the groups are the labels of the members, each once, with what their members come to
pub groups_are_keyed : (es : List (LabelSet × Member)) → groups_from es ≡ keyed label_sets_eq label_sets_decide (group_at es) (first_of_each label_sets_eq (labels_of es))
unfolding groups_from
groups_are_keyed es = refl

-- what is kept of a group is what its members come to
pub group_is_kept : (es : List (LabelSet × Member)) (labels : LabelSet) → or_empty (known_group (groups_from es) labels) ≡ group_at es labels
group_is_kept es labels = ap (λ gs. or_empty (known_group gs labels)) (groups_are_keyed es)
    ∙ ap or_empty (lookup-keyed label_sets_eq label_sets_decide (group_at es) labels (first_of_each label_sets_eq (labels_of es)) ∙ ap (λ b. when b (Some (group_at es labels))) (has_key-first label_sets_eq label_sets_decide labels (labels_of es)))
    ∙ by (has_key label_sets_eq label_sets_decide labels (labels_of es)) refl
  where
    by : (b : Bool) → has_key label_sets_eq label_sets_decide labels (labels_of es) ≡ b → or_empty (when b (Some (group_at es labels))) ≡ group_at es labels
    by true f = refl
    by false f = none_from ∙ ap group_from (sym (members_in-none es labels f))

-- one group written, where the others stay
put_keyed : (g h : LabelSet → Gathered) (k : LabelSet) (ks : List LabelSet) → ((l : LabelSet) → label_sets_eq k l ≡ false → h l ≡ g l) → AreApart label_sets_eq label_sets_decide ks
    → put_group (keyed label_sets_eq label_sets_decide g ks) k (h k) ≡ keyed label_sets_eq label_sets_decide h (with_key label_sets_eq label_sets_decide ks k)
put_keyed g h k [] same d = refl
put_keyed g h k (x ∷ xs) same d = by (label_sets_eq k x) refl (put_keyed g h k xs same d.1)
  where
    by : (b : Bool) → label_sets_eq k x ≡ b → put_group (map (λ l. (l, g l)) xs) k (h k) ≡ map (λ l. (l, h l)) (with_key label_sets_eq label_sets_decide xs k)
        → cond b ((x, h k) ∷ map (λ l. (l, g l)) xs) ((x, g x) ∷ put_group (map (λ l. (l, g l)) xs) k (h k)) ≡ map (λ l. (l, h l)) (cond (b || has_key label_sets_eq label_sets_decide k xs) (x ∷ xs) (x ∷ (xs ++ k ∷ [])))
    by true e more =
        let one : k ≡ x = (label_sets_decide k x).0 e in
        let rest : map (λ l. (l, g l)) xs ≡ map (λ l. (l, h l)) xs = keyed_agree label_sets_eq label_sets_decide g h k xs same (ap (λ l. has_key label_sets_eq label_sets_decide l xs) one ∙ d.0) in
        λ i. (x, h (one i)) ∷ rest i
    by false e more = let first = sym (same x e) in apart (has_key label_sets_eq label_sets_decide k xs) first more
      where
        apart : (c : Bool) → g x ≡ h x → put_group (map (λ l. (l, g l)) xs) k (h k) ≡ map (λ l. (l, h l)) (cond c xs (xs ++ k ∷ []))
            → (x, g x) ∷ put_group (map (λ l. (l, g l)) xs) k (h k) ≡ map (λ l. (l, h l)) (cond c (x ∷ xs) (x ∷ (xs ++ k ∷ [])))
        apart true first more = λ i. (x, first i) ∷ more i
        apart false first more = λ i. (x, first i) ∷ more i

-- one member more
pub one_part_more : (es : List (LabelSet × Member)) (e : LabelSet × Member) → groups_from (es ++ e ∷ []) ≡ with_part (groups_from es) e.0 e.1
unfolding with_part
one_part_more es e =
    let labels : labels_of (es ++ e ∷ []) ≡ labels_of es ++ e.0 ∷ [] = map-append (λ (x : LabelSet × Member). x.0) es (e ∷ []) in
    let firsts : first_of_each label_sets_eq (labels_of (es ++ e ∷ [])) ≡ with_key label_sets_eq label_sets_decide (first_of_each label_sets_eq (labels_of es)) e.0 =
    ap (first_of_each label_sets_eq) labels ∙ first_of_each-snoc label_sets_eq label_sets_decide (labels_of es) e.0 in
    let value : group_at (es ++ e ∷ []) e.0 ≡ with_one (or_empty (known_group (groups_from es) e.0)) e.1 =
    ap group_from (members_in-own es e) ∙ group_from-snoc (members_in e.0 es) e.1 ∙ ap (λ g. with_one g e.1) (sym (group_is_kept es e.0)) in
    groups_are_keyed (es ++ e ∷ []) ∙ ap (keyed label_sets_eq label_sets_decide (group_at (es ++ e ∷ []))) firsts
    ∙ sym (put_keyed (group_at es) (group_at (es ++ e ∷ [])) e.0 (first_of_each label_sets_eq (labels_of es))
    (λ l f. ap group_from (members_in-other es e l f)) (first_apart label_sets_eq label_sets_decide (labels_of es)))
    ∙ ap (λ v. put_group (keyed label_sets_eq label_sets_decide (group_at es) (first_of_each label_sets_eq (labels_of es))) e.0 v) value
    ∙ ap (λ gs. put_group gs e.0 (with_one (or_empty (known_group (groups_from es) e.0)) e.1)) (sym (groups_are_keyed es))
