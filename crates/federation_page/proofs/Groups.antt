-- Label sets of several targets: those of each differ where they did on its page, and no target has those of another.
use Rattle.std.proofs.Common.{◌≡◌, ◌≢◌, ℕ, Bool, true, false, not, ◌&&◌, ◌||◌, cond, List, [], ◌∷◌, ◌++◌, map, filter, codes, Option, Some, None, refl, sym, ap, ◌∙◌}
use Rattle.std.specs.List.{list_any, list_all, AllByRecursion, IsDistinct}
use Rattle.std.specs.Str.{bytes_eq}
use Rattle.std.specs.Cmp.Lexicographic.{bytes_decides}
use Rattle.std.proofs.lemmas.Bool.{and_parts, and_from, not-true, or_parts, or_from}
use Rattle.std.proofs.lemmas.List.Folds.{list_any-append}
use Rattle.label_sets.specs.declared.kind.Kind.{Kind}
use Rattle.label_sets.specs.declared.kind.Kind.TheVariants as kinds
use Rattle.label_sets.specs.declared.label.Label.{Label}
use Rattle.label_sets.specs.declared.label_set.LabelSet.{LabelSet}
use Rattle.label_sets.specs.Labels.{label_sets_eq}
use Rattle.label_sets.specs.Lists.{rest_while}
use Rattle.label_sets.specs.Sets.{IsLabelSet}
use Rattle.label_sets.proofs.Laws.{sets_decide, same_tests, rest-passed, rest-stopped, rest-none, all-append}
use Rattle.page_model.specs.declared.format.Format.{Format}
use Rattle.page_model.specs.declared.format.Treatment.TheVariants.{Scraped}
use Rattle.page_model.specs.Owners.{group_of}
use Rattle.page_model.specs.Readings.{key_name}
use Rattle.open_writing.specs.Forms.{is_own_label, is_taken_name, stand_together}
use Rattle.federation_page.specs.Candidates.{with_target, federated_kind, federated_name, in_front_of, is_left_out}
use Rattle.federation_page.proofs.TargetLabels.{AreOwn, own_back, job_back, instance_back, target_without}

-- ---- neighbours

-- behind a front none passes where none does in either part
rest_joined : {A : Type 0} (p : A → Bool) (xs ys : List A) → list_any p (rest_while p xs) ≡ false → list_any p ys ≡ false → list_any p (rest_while p (xs ++ ys)) ≡ false
rest_joined p [] ys h k = rest-none p ys k
rest_joined p (x ∷ xs) ys h k = go (p x) refl (rest_joined p xs ys)
  where
    go : (b : Bool) → p x ≡ b → (list_any p (rest_while p xs) ≡ false → list_any p ys ≡ false → list_any p (rest_while p (xs ++ ys)) ≡ false) → list_any p (rest_while p (x ∷ (xs ++ ys))) ≡ false
    go true e ih = ap (list_any p) (rest-passed p x (xs ++ ys) e) ∙ ih (ap (list_any p) (sym (rest-passed p x xs e)) ∙ h) k
    go false e ih =
        ap (list_any p) (rest-stopped p x (xs ++ ys) e) ∙ list_any-append p (x ∷ xs) ys ∙ or_from (list_any p (x ∷ xs)) (list_any p ys) (ap (list_any p) (sym (rest-stopped p x xs e)) ∙ h) k

pub together_joined : (xs ys : List LabelSet) → stand_together xs ≡ true → stand_together ys ≡ true → AllByRecursion (λ x. list_any (label_sets_eq x) ys ≡ false) xs → stand_together (xs ++ ys) ≡ true
unfolding stand_together
together_joined [] ys h k none = k
together_joined (x ∷ xs) ys h k none =
    let both = and_parts (not (list_any (label_sets_eq x) (rest_while (label_sets_eq x) xs))) (stand_together xs) h in
    and_from (not (list_any (label_sets_eq x) (rest_while (label_sets_eq x) (xs ++ ys)))) (stand_together (xs ++ ys)) (ap not (rest_joined (label_sets_eq x) xs ys (not-true _ both.0) none.0)) (together_joined xs ys both.1 k none.1)

all_of_any : {A : Type 0} (p : A → Bool) (ys : List A) → list_any p ys ≡ false → AllByRecursion (λ y. p y ≡ false) ys
all_of_any p [] h = tt
all_of_any p (y ∷ ys) h = let both = or_parts (p y) (list_any p ys) h in (both.0, all_of_any p ys both.1)

pub distinct_joined : {A : Type 0} (eq : A → A → Bool) (xs ys : List A) → IsDistinct eq xs → IsDistinct eq ys → AllByRecursion (λ x. list_any (eq x) ys ≡ false) xs → IsDistinct eq (xs ++ ys)
unfolding IsDistinct
distinct_joined eq [] ys h k none = k
distinct_joined eq (x ∷ xs) ys h k none = (all-append (λ y. eq x y ≡ false) xs ys h.0 (all_of_any (eq x) ys none.0), distinct_joined eq xs ys h.1 k none.1)

-- ---- what tells label sets apart also tells apart what is made of them

module _ (g : LabelSet → LabelSet) (P : LabelSet → Type 0) (back : (x y : LabelSet) → P x → P y → g x ≡ g y → x ≡ y) where
  same_made : (x y : LabelSet) → P x → P y → label_sets_eq (g x) (g y) ≡ label_sets_eq x y
  same_made x y p q = same_tests (label_sets_eq (g x) (g y)) (label_sets_eq x y)
      (λ e. (sets_decide x y).1 (back x y p q ((sets_decide (g x) (g y)).0 e)))
      (λ e. (sets_decide (g x) (g y)).1 (ap g ((sets_decide x y).0 e)))

  any_made : (x : LabelSet) (ys : List LabelSet) → P x → AllByRecursion P ys → list_any (label_sets_eq (g x)) (map g ys) ≡ list_any (label_sets_eq x) ys
  any_made x [] p h = refl
  any_made x (y ∷ ys) p h = ap (λ b. b || list_any (label_sets_eq (g x)) (map g ys)) (same_made x y p h.0) ∙ ap (λ b. label_sets_eq x y || b) (any_made x ys p h.1)

  rest_made : (x : LabelSet) (ys : List LabelSet) → P x → AllByRecursion P ys → list_any (label_sets_eq (g x)) (rest_while (label_sets_eq (g x)) (map g ys)) ≡ list_any (label_sets_eq x) (rest_while (label_sets_eq x) ys)
  rest_made x [] p h = refl
  rest_made x (y ∷ ys) p h = go (label_sets_eq x y) refl (rest_made x ys p h.1)
    where
      go : (b : Bool) → label_sets_eq x y ≡ b → list_any (label_sets_eq (g x)) (rest_while (label_sets_eq (g x)) (map g ys)) ≡ list_any (label_sets_eq x) (rest_while (label_sets_eq x) ys)
          → list_any (label_sets_eq (g x)) (rest_while (label_sets_eq (g x)) (map g (y ∷ ys))) ≡ list_any (label_sets_eq x) (rest_while (label_sets_eq x) (y ∷ ys))
      go true e ih = ap (list_any (label_sets_eq (g x))) (rest-passed (label_sets_eq (g x)) (g y) (map g ys) (same_made x y p h.0 ∙ e)) ∙ ih ∙ sym (ap (list_any (label_sets_eq x)) (rest-passed (label_sets_eq x) y ys e))
      go false e ih = ap (list_any (label_sets_eq (g x))) (rest-stopped (label_sets_eq (g x)) (g y) (map g ys) (same_made x y p h.0 ∙ e)) ∙ any_made x (y ∷ ys) p h ∙ sym (ap (list_any (label_sets_eq x)) (rest-stopped (label_sets_eq x) y ys e))

  pub together_made : (xs : List LabelSet) → AllByRecursion P xs → stand_together (map g xs) ≡ stand_together xs
  unfolding stand_together
  together_made [] h = refl
  together_made (x ∷ xs) h = ap (λ b. not b && stand_together (map g xs)) (rest_made x xs h.0 h.1) ∙ ap (λ b. not (list_any (label_sets_eq x) (rest_while (label_sets_eq x) xs)) && b) (together_made xs h.1)

  others_made : (x : LabelSet) (ys : List LabelSet) → P x → AllByRecursion P ys → AllByRecursion (λ y. label_sets_eq x y ≡ false) ys → AllByRecursion (λ y. label_sets_eq (g x) y ≡ false) (map g ys)
  others_made x [] p h d = tt
  others_made x (y ∷ ys) p h d = (same_made x y p h.0 ∙ d.0, others_made x ys p h.1 d.1)

  pub distinct_made : (xs : List LabelSet) → AllByRecursion P xs → IsDistinct label_sets_eq xs → IsDistinct label_sets_eq (map g xs)
  unfolding IsDistinct
  distinct_made [] h d = tt
  distinct_made (x ∷ xs) h d = (others_made x xs h.0 h.1 d.0, distinct_made xs h.1 d.1)

-- ---- groups

own_filtered : (p : Label → Bool) (ls : List Label) → AreOwn ls → AreOwn (filter p ls)
own_filtered p [] h = refl
own_filtered p (l ∷ ls) h = let both = and_parts (is_own_label Scraped l) (list_all (is_own_label Scraped) ls) h in go (p l) both.0 (own_filtered p ls both.1)
  where
    go : (b : Bool) → is_own_label Scraped l ≡ true → AreOwn (filter p ls) → AreOwn (cond b (l ∷ filter p ls) (filter p ls))
    go true own ih = and_from (is_own_label Scraped l) (list_all (is_own_label Scraped) (filter p ls)) own ih
    go false own ih = ih

pub own_group : (kind : Kind) (name : List ℕ) (ls : LabelSet) → AreOwn ls → AreOwn (group_of kind name ls)
own_group kinds.Histogram name ls h = own_filtered (λ (l : Label). not (bytes_eq l.name (codes "le"))) ls h
own_group kinds.GaugeHistogram name ls h = own_filtered (λ (l : Label). not (bytes_eq l.name (codes "le"))) ls h
own_group kinds.Summary name ls h = own_filtered (λ (l : Label). not (bytes_eq l.name (codes "quantile"))) ls h
own_group kinds.StateSet name ls h = own_filtered (λ (l : Label). not (bytes_eq l.name name)) ls h
own_group _ name ls h = h

not_taken : (name : List ℕ) → is_left_out kinds.StateSet name ≡ false → is_taken_name Scraped name ≡ false
unfolding is_left_out is_taken_name
not_taken name h = h

le_free : is_taken_name Scraped (codes "le") ≡ false
unfolding is_taken_name
le_free = refl

quantile_free : is_taken_name Scraped (codes "quantile") ≡ false
unfolding is_taken_name
quantile_free = refl

-- the group of labels with those of a target is their group with them
pub target_group : (job instance : List ℕ) (kind : Kind) (name : List ℕ) (ls : LabelSet) → is_left_out kind name ≡ false → job ≢ [] → IsLabelSet ls → AreOwn ls
    → group_of kind name (with_target job instance ls) ≡ with_target job instance (group_of kind name ls)
target_group job instance kinds.Histogram name ls out j set own = target_without job instance ls (codes "le") le_free j set own
target_group job instance kinds.GaugeHistogram name ls out j set own = target_without job instance ls (codes "le") le_free j set own
target_group job instance kinds.Summary name ls out j set own = target_without job instance ls (codes "quantile") quantile_free j set own
target_group job instance kinds.StateSet name ls out j set own = target_without job instance ls name (not_taken name out) j set own
target_group job instance _ name ls out j set own = refl

-- a federated family has the groups of its source
pub federated_group : (f : Format) (kind : Kind) (name : List ℕ) (ls : LabelSet) → group_of (federated_kind kind (key_name f kind name)) (federated_name kind (key_name f kind name)) ls ≡ group_of kind name ls
unfolding federated_kind federated_name
federated_group f kinds.Counter name ls = go (in_front_of (codes "_total") (key_name f kinds.Counter name)) refl
  where
    go : (o : Option (List ℕ)) → in_front_of (codes "_total") (key_name f kinds.Counter name) ≡ o → group_of (federated_kind kinds.Counter (key_name f kinds.Counter name)) (federated_name kinds.Counter (key_name f kinds.Counter name)) ls ≡ ls
    go (Some front) e = rw e refl
    go None e = rw e refl
federated_group f _ name ls = refl

-- ---- targets

pub target_once : (job instance : List ℕ) (x y : LabelSet) → AreOwn x → AreOwn y → with_target job instance x ≡ with_target job instance y → x ≡ y
target_once job instance x y p q e = sym (own_back job instance x p) ∙ ap (filter (is_own_label Scraped)) e ∙ own_back job instance y q

abbrev first_value : List Label → List ℕ
first_value [] = []
first_value (l ∷ ls) = l.value

-- labels with those of two targets differ
pub targets_differ : (i j m n : List ℕ) (x y : LabelSet) → (bytes_eq i j && bytes_eq m n) ≡ false → AreOwn x → AreOwn y → label_sets_eq (with_target i m x) (with_target j n y) ≡ false
targets_differ i j m n x y other p q = go (label_sets_eq (with_target i m x) (with_target j n y)) refl
  where
    go : (b : Bool) → label_sets_eq (with_target i m x) (with_target j n y) ≡ b → b ≡ false
    go false e = refl
    go true e =
        let same = (sets_decide (with_target i m x) (with_target j n y)).0 e in
        let jobs : i ≡ j = ap first_value (sym (job_back i m x p) ∙ ap (filter (λ (l : Label). bytes_eq l.name (codes "job"))) same ∙ job_back j n y q) in
        let instances : m ≡ n = ap first_value (sym (instance_back i m x p) ∙ ap (filter (λ (l : Label). bytes_eq l.name (codes "instance"))) same ∙ instance_back j n y q) in
        absurd (let both : (bytes_eq i j && bytes_eq m n) ≡ true = and_from (bytes_eq i j) (bytes_eq m n) ((bytes_decides i j).1 jobs) ((bytes_decides m n).1 instances) in let bad : true ≡ false = sym both ∙ other in cc)
