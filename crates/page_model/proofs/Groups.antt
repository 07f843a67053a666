-- A histogram is complete where each of its groups is: what a reader that keeps two numbers per group needs.
use Rattle.std.proofs.Common.{◌≡◌, ℕ, Bool, true, false, cond, not, ◌&&◌, ◌||◌, List, [], ◌∷◌, map, filter, find, Option, Some, None, refl, sym, ap, subst, ◌∙◌, ◌⊎◌, inl, inr}
use Rattle.std.proofs.lemmas.Bool.{and_parts, and_from}
use Rattle.std.specs.List.{list_all}
use Rattle.std.specs.Str.{bytes_eq}
use Rattle.std.specs.Cmp.Lexicographic.{bytes_decides, pointwise_decides}
use Rattle.label_sets.proofs.Laws.{same_tests}
use Rattle.label_sets.specs.declared.kind.Kind.{Kind}
use Rattle.label_sets.specs.declared.label.Label.{Label}
use Rattle.label_sets.specs.declared.label_set.LabelSet.{LabelSet}
use Rattle.label_sets.specs.Lists.{first_of_each, some_passes}
use Rattle.label_sets.specs.Labels.{label_eq, label_sets_eq}
use Rattle.exact_decimal.specs.Order.{same}
use Rattle.page_model.specs.declared.item.Sample.{Sample}
use Rattle.page_model.specs.Written.{Setting}
use Rattle.page_model.specs.Rules.{is_bucket, is_count, sample_group, threshold, is_up, buckets_of_group, infinite_bucket, is_complete_at}

-- ---- one label set

label_decides : (a b : Label) → (label_eq a b ≡ true → a ≡ b) × (a ≡ b → label_eq a b ≡ true)
label_decides a b = (
  λ e. let both = and_parts (bytes_eq a.name b.name) (bytes_eq a.value b.value) e in
      let names : a.name ≡ b.name = (bytes_decides a.name b.name).0 both.0 in
      let values : a.value ≡ b.value = (bytes_decides a.value b.value).0 both.1 in
      λ i. record { name = names i; value = values i },
  λ e. and_from (bytes_eq a.name b.name) (bytes_eq a.value b.value) ((bytes_decides a.name b.name).1 (ap (λ (l : Label). l.name) e)) ((bytes_decides a.value b.value).1 (ap (λ (l : Label). l.value) e)),
)

-- the test of label sets decides their equality
pub label_sets_decide : (a b : LabelSet) → (label_sets_eq a b ≡ true → a ≡ b) × (a ≡ b → label_sets_eq a b ≡ true)
label_sets_decide = pointwise_decides label_decides

-- ---- elements of a list

-- x is an element
abbrev pub Member : {A : Type 0} → A → List A → Type 0
Member x [] = ⊥
Member x (y ∷ ys) = (x ≡ y) ⊎ Member x ys

all_at : {A : Type 0} (p : A → Bool) (xs : List A) → list_all p xs ≡ true → (x : A) → Member x xs → p x ≡ true
all_at p [] h x m = absurd m
all_at p (y ∷ ys) h x (inl e) = ap p e ∙ (and_parts (p y) (list_all p ys) h).0
all_at p (y ∷ ys) h x (inr m) = all_at p ys (and_parts (p y) (list_all p ys) h).1 x m

all_from : {A : Type 0} (p : A → Bool) (xs : List A) → ((x : A) → Member x xs → p x ≡ true) → list_all p xs ≡ true
all_from p [] f = refl
all_from p (y ∷ ys) f = and_from (p y) (list_all p ys) (f y (inl refl)) (all_from p ys (λ x m. f x (inr m)))

member_map : {A B : Type 0} (f : A → B) (xs : List A) (y : B) → Member y (map f xs) → (x : A) × Member x xs × (y ≡ f x)
member_map f [] y m = absurd m
member_map f (x ∷ xs) y (inl e) = (x, inl refl, e)
member_map f (x ∷ xs) y (inr m) = let r = member_map f xs y m in (r.0, inr r.1, r.2)

map_member : {A B : Type 0} (f : A → B) (xs : List A) (x : A) → Member x xs → Member (f x) (map f xs)
map_member f [] x m = absurd m
map_member f (z ∷ zs) x (inl e) = inl (ap f e)
map_member f (z ∷ zs) x (inr m) = inr (map_member f zs x m)

filter_member : {A : Type 0} (t : A → Bool) (xs : List A) (x : A) → Member x (filter t xs) → Member x xs
filter_member t [] x m = absurd m
filter_member t (y ∷ ys) x m = go (t y) m (filter_member t ys x)
  where
    go : (b : Bool) → Member x (cond b (y ∷ filter t ys) (filter t ys)) → (Member x (filter t ys) → Member x ys) → Member x (y ∷ ys)
    go true (inl e) ih = inl e
    go true (inr k) ih = inr (ih k)
    go false k ih = inr (ih k)

member_filter : {A : Type 0} (t : A → Bool) (xs : List A) (x : A) → Member x xs → t x ≡ true → Member x (filter t xs)
member_filter t [] x m h = absurd m
member_filter t (y ∷ ys) x m h = go (t y) refl m (member_filter t ys x)
  where
    go : (b : Bool) → t y ≡ b → Member x (y ∷ ys) → (Member x ys → t x ≡ true → Member x (filter t ys)) → Member x (cond b (y ∷ filter t ys) (filter t ys))
    go true e (inl k) ih = inl k
    go true e (inr k) ih = inr (ih k h)
    go false e (inl k) ih = absurd (let f : true ≡ false = sym h ∙ ap t k ∙ e in cc)
    go false e (inr k) ih = ih k h

-- each element is among the first of each
module _ {A : Type 0} (eq : A → A → Bool) (decides : (a b : A) → (eq a b ≡ true → a ≡ b) × (a ≡ b → eq a b ≡ true)) where
  first_member : (xs : List A) (x : A) → Member x (first_of_each eq xs) → Member x xs
  first_member [] x m = absurd m
  first_member (y ∷ ys) x (inl e) = inl e
  first_member (y ∷ ys) x (inr m) = inr (first_member ys x (filter_member (λ z. not (eq y z)) (first_of_each eq ys) x m))

  member_first : (xs : List A) (x : A) → Member x xs → Member x (first_of_each eq xs)
  member_first [] x m = absurd m
  member_first (y ∷ ys) x (inl e) = inl e
  member_first (y ∷ ys) x (inr m) = go (eq y x) refl (member_first ys x m)
    where
      go : (b : Bool) → eq y x ≡ b → Member x (first_of_each eq ys) → Member x (y ∷ filter (λ z. not (eq y z)) (first_of_each eq ys))
      go true e k = inl (sym ((decides y x).0 e))
      go false e k = inr (member_filter (λ z. not (eq y z)) (first_of_each eq ys) x k (ap not e))

-- ---- groups

module _ (st : Setting) (kind : Kind) (family : List ℕ) (samples : List Sample) where
  -- the bucket without an upper bound in a group
  abbrev pub bucket_in : LabelSet → Option Sample
  bucket_in group = find (λ t. is_up (threshold t)) (filter (λ t. is_bucket family t && label_sets_eq (sample_group st kind family t) group) samples)

  -- a count of the group is the bucket's
  abbrev pub agrees_in : LabelSet → Sample → Sample → Bool
  agrees_in group b s = not (is_count family s && label_sets_eq (sample_group st kind family s) group) || same s.value b.value

  -- a group that has the bucket, and whose counts are that bucket's
  abbrev pub is_complete_group : LabelSet → Bool
  is_complete_group group = some_passes (λ b. list_all (agrees_in group b) samples) (bucket_in group)

  -- a sample is complete where its group is
  from_group : (s : Sample) → Member s samples → is_complete_group (sample_group st kind family s) ≡ true → is_complete_at st kind family samples s ≡ true
  unfolding is_complete_at infinite_bucket buckets_of_group
  from_group s m h = go (bucket_in (sample_group st kind family s)) refl h
    where
      go : (o : Option Sample) → bucket_in (sample_group st kind family s) ≡ o → some_passes (λ b. list_all (agrees_in (sample_group st kind family s) b) samples) o ≡ true
          → some_passes (λ (b : Sample). not (is_count family s) || same s.value b.value) (bucket_in (sample_group st kind family s)) ≡ true
      go None e k = absurd (let f : false ≡ true = k in cc)
      go (Some b) e k = rw e (count_agrees (is_count family s) refl (all_at (agrees_in (sample_group st kind family s) b) samples k s m))
        where
          own : label_sets_eq (sample_group st kind family s) (sample_group st kind family s) ≡ true
          own = (label_sets_decide (sample_group st kind family s) (sample_group st kind family s)).1 refl

          count_agrees : (c : Bool) → is_count family s ≡ c → agrees_in (sample_group st kind family s) b s ≡ true → (not c || same s.value b.value) ≡ true
          count_agrees false f a = refl
          count_agrees true f a = rw (f, own) at a

  -- a group is complete where each of its samples is, and it has one
  to_group : list_all (is_complete_at st kind family samples) samples ≡ true → (s : Sample) → Member s samples → is_complete_group (sample_group st kind family s) ≡ true
  unfolding is_complete_at infinite_bucket buckets_of_group
  to_group h s m = go (bucket_in (sample_group st kind family s)) refl (all_at (is_complete_at st kind family samples) samples h s m)
    where
      other : (b : Sample) → bucket_in (sample_group st kind family s) ≡ Some b → (t : Sample) → Member t samples
          → (c : Bool) → (is_count family t && label_sets_eq (sample_group st kind family t) (sample_group st kind family s)) ≡ c → agrees_in (sample_group st kind family s) b t ≡ true
      other b e t n false f = rw f refl
      other b e t n true f =
          let both = and_parts (is_count family t) (label_sets_eq (sample_group st kind family t) (sample_group st kind family s)) f in
          let groups : sample_group st kind family t ≡ sample_group st kind family s = (label_sets_decide (sample_group st kind family t) (sample_group st kind family s)).0 both.1 in
          let bucket : bucket_in (sample_group st kind family t) ≡ Some b = ap bucket_in groups ∙ e in
          let complete = all_at (is_complete_at st kind family samples) samples h t n in
          let agrees : (not (is_count family t) || same t.value b.value) ≡ true = subst (λ (o : Option Sample). some_passes (λ (x : Sample). not (is_count family t) || same t.value x.value) o ≡ true) bucket complete in
          let value : same t.value b.value ≡ true = subst (λ (c : Bool). (not c || same t.value b.value) ≡ true) both.0 agrees in
          rw f value

      go : (o : Option Sample) → bucket_in (sample_group st kind family s) ≡ o → is_complete_at st kind family samples s ≡ true
          → some_passes (λ b. list_all (agrees_in (sample_group st kind family s) b) samples) (bucket_in (sample_group st kind family s)) ≡ true
      go None e k = absurd (let f : false ≡ true = rw e at k in cc)
      go (Some b) e k = rw e (all_from (agrees_in (sample_group st kind family s) b) samples (λ t n. other b e t n (is_count family t && label_sets_eq (sample_group st kind family t) (sample_group st kind family s)) refl))

  -- the groups of the samples
  abbrev pub groups_of : List LabelSet
  groups_of = first_of_each label_sets_eq (map (sample_group st kind family) samples)

  -- all samples are complete just where all groups are
  pub complete_by_groups : list_all (is_complete_at st kind family samples) samples ≡ list_all is_complete_group groups_of
  complete_by_groups = same_tests (list_all (is_complete_at st kind family samples) samples) (list_all is_complete_group groups_of)
      (λ h. all_from is_complete_group groups_of (λ g m.
      let s = member_map (sample_group st kind family) samples g (first_member label_sets_eq label_sets_decide (map (sample_group st kind family) samples) g m) in
      ap is_complete_group s.2 ∙ to_group h s.0 s.1))
      (λ h. all_from (is_complete_at st kind family samples) samples (λ s m.
      from_group s m (all_at is_complete_group groups_of h (sample_group st kind family s)
      (member_first label_sets_eq label_sets_decide (map (sample_group st kind family) samples) (sample_group st kind family s) (map_member (sample_group st kind family) samples s m)))))
