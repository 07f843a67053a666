-- Labels with those of their target: what the page's own labels keep, and what tells two targets apart.
use Rattle.std.proofs.Common.{◌≡◌, ◌≢◌, ℕ, suc, Bool, true, false, not, ◌||◌, cond, List, [], ◌∷◌, filter, length, codes, refl, sym, ap, subst, ◌∙◌}
use Rattle.std.specs.Prelude.{IsTrue}
use Rattle.std.specs.List.{list_any, list_all, AllByRecursion, IsDistinct}
use Rattle.std.specs.List.Sorted.{IsStrictlySortedBy}
use Rattle.std.specs.Ordering.{is_lt, nat_cmp}
use Rattle.std.specs.declared.cmp.Ordering.{Ordering}
use Rattle.std.specs.declared.cmp.Ordering.TheVariants.{Less, Equal, Greater}
use Rattle.std.specs.Str.{bytes_eq}
use Rattle.std.specs.Cmp.Lexicographic.{slice_cmp, bytes_decides}
use Rattle.std.proofs.lemmas.Bool.{and_parts, and_from}
use Rattle.std.proofs.lemmas.Cmp.{nat_list_cmp_total}
use Rattle.std.proofs.lemmas.Map.Text.{is_eq-slice_cmp}
use Rattle.std.proofs.lemmas.List.Elements.{All-from_recursion, recursion_from_All}
use Rattle.std.proofs.lemmas.List.Sorted.{IsPermutation-refl}
use Rattle.label_sets.specs.declared.label.Label.{Label}
use Rattle.label_sets.specs.declared.label_set.LabelSet.{LabelSet}
use Rattle.label_sets.specs.Labels.{name_before, label_inserted, has_name, without_label}
use Rattle.label_sets.specs.Sets.{by_name, IsLabelSet}
use Rattle.label_sets.specs.Building.{same_name}
use Rattle.label_sets.proofs.Laws.{sorted_itself, sorted_ascending, distinct_before, length-inserted}
use Rattle.page_model.specs.declared.format.Treatment.TheVariants.{Scraped}
use Rattle.open_writing.specs.Forms.{is_own_label, is_taken_name}
use Rattle.federation_page.specs.Candidates.{with_target}

-- ---- insertion

module _ (p : Label → Bool) where
  pub any_inserted : (l : Label) (ls : List Label) → list_any p (label_inserted l ls) ≡ (p l || list_any p ls)
  any_inserted l [] = refl
  any_inserted l (m ∷ ms) = go (name_before l.name m.name) (any_inserted l ms)
    where
      by : (a b c d : Bool) → c ≡ (b || d) → (a || c) ≡ (b || (a || d))
      by true true c d e = refl
      by true false c d e = refl
      by false b c d e = e

      go : (b : Bool) → list_any p (label_inserted l ms) ≡ (p l || list_any p ms) → list_any p (cond b (l ∷ m ∷ ms) (m ∷ label_inserted l ms)) ≡ (p l || (p m || list_any p ms))
      go true ih = refl
      go false ih = by (p m) (p l) (list_any p (label_inserted l ms)) (list_any p ms) ih

  pub all_inserted : (l : Label) (ls : List Label) → p l ≡ true → list_all p ls ≡ true → list_all p (label_inserted l ls) ≡ true
  all_inserted l [] h k = and_from (p l) true h refl
  all_inserted l (m ∷ ms) h k = let both = and_parts (p m) (list_all p ms) k in go (name_before l.name m.name) (all_inserted l ms h both.1)
    where
      go : (b : Bool) → list_all p (label_inserted l ms) ≡ true → list_all p (cond b (l ∷ m ∷ ms) (m ∷ label_inserted l ms)) ≡ true
      go true ih = and_from (p l) (list_all p (m ∷ ms)) h k
      go false ih = and_from (p m) (list_all p (label_inserted l ms)) (and_parts (p m) (list_all p ms) k).0 ih

  -- what doesn't pass is not seen
  pub filter_inserted : (l : Label) (ls : List Label) → p l ≡ false → filter p (label_inserted l ls) ≡ filter p ls
  filter_inserted l [] h = ap (λ b. cond b (l ∷ []) []) h
  filter_inserted l (m ∷ ms) h = go (name_before l.name m.name) (filter_inserted l ms h)
    where
      go : (b : Bool) → filter p (label_inserted l ms) ≡ filter p ms → filter p (cond b (l ∷ m ∷ ms) (m ∷ label_inserted l ms)) ≡ filter p (m ∷ ms)
      go true ih = ap (λ b. cond b (l ∷ filter p (m ∷ ms)) (filter p (m ∷ ms))) h
      go false ih = ap (λ xs. cond (p m) (m ∷ xs) xs) ih

  -- what alone passes is all that is seen
  pub filter_alone : (l : Label) (ls : List Label) → p l ≡ true → list_any p ls ≡ false → filter p (label_inserted l ls) ≡ l ∷ []
  filter_alone l [] h k = ap (λ b. cond b (l ∷ []) []) h
  filter_alone l (m ∷ ms) h k = go (p m) refl k (filter_alone l ms h)
    where
      nothing : (xs : List Label) → list_any p xs ≡ false → filter p xs ≡ []
      nothing [] e = refl
      nothing (x ∷ xs) e = on (p x) refl e (nothing xs)
        where
          on : (b : Bool) → p x ≡ b → (b || list_any p xs) ≡ false → (list_any p xs ≡ false → filter p xs ≡ []) → cond b (x ∷ filter p xs) (filter p xs) ≡ []
          on true d f ih = absurd (let bad : true ≡ false = f in cc)
          on false d f ih = ih f

      place : (b : Bool) → p m ≡ false → filter p (label_inserted l ms) ≡ l ∷ [] → list_any p ms ≡ false → filter p (cond b (l ∷ m ∷ ms) (m ∷ label_inserted l ms)) ≡ l ∷ []
      place true d ih e = ap (λ b. cond b (l ∷ filter p (m ∷ ms)) (filter p (m ∷ ms))) h ∙ ap (λ b. l ∷ cond b (m ∷ filter p ms) (filter p ms)) d ∙ ap (λ xs. l ∷ xs) (nothing ms e)
      place false d ih e = ap (λ b. cond b (m ∷ filter p (label_inserted l ms)) (filter p (label_inserted l ms))) d ∙ ih

      go : (b : Bool) → p m ≡ b → (b || list_any p ms) ≡ false → (list_any p ms ≡ false → filter p (label_inserted l ms) ≡ l ∷ []) → filter p (label_inserted l (m ∷ ms)) ≡ l ∷ []
      go true d e ih = absurd (let bad : true ≡ false = e in cc)
      go false d e ih = place (name_before l.name m.name) d (ih e) e

  pub filter_all : (ls : List Label) → list_all p ls ≡ true → filter p ls ≡ ls
  filter_all [] h = refl
  filter_all (l ∷ ls) h = let both = and_parts (p l) (list_all p ls) h in ap (λ b. cond b (l ∷ filter p ls) (filter p ls)) both.0 ∙ ap (λ xs. l ∷ xs) (filter_all ls both.1)

recursion_inserted : (P : Label → Type 0) (l : Label) (ls : List Label) → P l → AllByRecursion P ls → AllByRecursion P (label_inserted l ls)
recursion_inserted P l [] h k = (h, tt)
recursion_inserted P l (m ∷ ms) h k = go (name_before l.name m.name) (recursion_inserted P l ms h k.1)
  where
    go : (b : Bool) → AllByRecursion P (label_inserted l ms) → AllByRecursion P (cond b (l ∷ m ∷ ms) (m ∷ label_inserted l ms))
    go true ih = (h, k)
    go false ih = (k.0, ih)

other_names : (l : Label) (ls : List Label) → has_name ls l.name ≡ false → AllByRecursion (λ m. same_name l m ≡ false) ls
other_names l [] h = tt
other_names l (m ∷ ms) h = go (bytes_eq m.name l.name) refl h (other_names l ms)
  where
    turned : bytes_eq m.name l.name ≡ false → (b : Bool) → bytes_eq l.name m.name ≡ b → b ≡ false
    turned e true f = absurd (let same : bytes_eq m.name l.name ≡ true = (bytes_decides m.name l.name).1 (sym ((bytes_decides l.name m.name).0 f)) in let bad : true ≡ false = sym same ∙ e in cc)
    turned e false f = refl

    go : (b : Bool) → bytes_eq m.name l.name ≡ b → (b || has_name ms l.name) ≡ false → (has_name ms l.name ≡ false → AllByRecursion (λ n. same_name l n ≡ false) ms) → AllByRecursion (λ n. same_name l n ≡ false) (m ∷ ms)
    go true e k ih = absurd (let bad : true ≡ false = k in cc)
    go false e k ih = (is_eq-slice_cmp l.name m.name ∙ turned e (bytes_eq l.name m.name) refl, ih k)

-- a set with a label of a new name
pub set_inserted : (l : Label) (ls : List Label) → IsLabelSet ls → has_name ls l.name ≡ false → l.value ≢ [] → IsLabelSet (label_inserted l ls)
unfolding IsDistinct
set_inserted l ls set free some = record {
  ascending = subst (IsStrictlySortedBy by_name) (ap (label_inserted l) (sorted_itself ls set.ascending)) (sorted_ascending (l ∷ ls) (other_names l ls free, distinct_before ls ls (IsPermutation-refl ls) set.ascending));
  valued = All-from_recursion (λ (m : Label). m.value ≢ []) (label_inserted l ls) (recursion_inserted (λ (m : Label). m.value ≢ []) l ls some (recursion_from_All (λ (m : Label). m.value ≢ []) ls set.valued));
}

-- ---- a filter and an insertion change places

before_all : (l : Label) (ls : List Label) → AllByRecursion (λ m. name_before l.name m.name ≡ true) ls → label_inserted l ls ≡ l ∷ ls
before_all l [] h = refl
before_all l (m ∷ ms) h = ap (λ b. cond b (l ∷ m ∷ ms) (m ∷ label_inserted l ms)) h.0

filter_before : (p : Label → Bool) (l : Label) (ls : List Label) → AllByRecursion (λ m. name_before l.name m.name ≡ true) ls → AllByRecursion (λ m. name_before l.name m.name ≡ true) (filter p ls)
filter_before p l [] h = tt
filter_before p l (m ∷ ms) h = go (p m) (filter_before p l ms h.1)
  where
    go : (b : Bool) → AllByRecursion (λ n. name_before l.name n.name ≡ true) (filter p ms) → AllByRecursion (λ n. name_before l.name n.name ≡ true) (cond b (m ∷ filter p ms) (filter p ms))
    go true ih = (h.0, ih)
    go false ih = ih

less_is : (a b : List ℕ) → name_before a b ≡ true → slice_cmp nat_cmp a b ≡ Less
less_is a b h = go (slice_cmp nat_cmp a b) refl
  where
    go : (r : Ordering) → slice_cmp nat_cmp a b ≡ r → r ≡ Less
    go Less e = refl
    go Equal e = absurd (let bad : false ≡ true = sym (ap is_lt e) ∙ h in cc)
    go Greater e = absurd (let bad : false ≡ true = sym (ap is_lt e) ∙ h in cc)

behind_first : (l m : Label) (ms : List Label) → name_before l.name m.name ≡ true → AllByRecursion (λ n. by_name m n ≡ Less) ms → AllByRecursion (λ n. name_before l.name n.name ≡ true) ms
behind_first l m [] h k = tt
behind_first l m (n ∷ ns) h k = (ap is_lt (nat_list_cmp_total.trans l.name m.name n.name (less_is l.name m.name h) k.0), behind_first l m ns h k.1)

pub filter_moved : (p : Label → Bool) (l : Label) (ls : List Label) → IsStrictlySortedBy by_name ls → p l ≡ true → filter p (label_inserted l ls) ≡ label_inserted l (filter p ls)
unfolding IsStrictlySortedBy
filter_moved p l [] s h = ap (λ b. cond b (l ∷ []) []) h
filter_moved p l (m ∷ ms) s h = go (name_before l.name m.name) refl (filter_moved p l ms s.1 h)
  where
    kept : (b : Bool) → name_before l.name m.name ≡ false → cond b (m ∷ label_inserted l (filter p ms)) (label_inserted l (filter p ms)) ≡ label_inserted l (cond b (m ∷ filter p ms) (filter p ms))
    kept true e = sym (ap (λ b. cond b (l ∷ m ∷ filter p ms) (m ∷ label_inserted l (filter p ms))) e)
    kept false e = refl

    go : (b : Bool) → name_before l.name m.name ≡ b → filter p (label_inserted l ms) ≡ label_inserted l (filter p ms) → filter p (cond b (l ∷ m ∷ ms) (m ∷ label_inserted l ms)) ≡ label_inserted l (filter p (m ∷ ms))
    go true e ih = ap (λ b. cond b (l ∷ filter p (m ∷ ms)) (filter p (m ∷ ms))) h ∙ sym (before_all l (filter p (m ∷ ms)) (filter_before p l (m ∷ ms) (e, behind_first l m ms e s.0)))
    go false e ih = ap (λ xs. cond (p m) (m ∷ xs) xs) ih ∙ kept (p m) e

-- ---- the target's labels

abbrev pub job_label : List ℕ → Label
job_label job = record { name = codes "job"; value = job }

abbrev pub instance_label : List ℕ → Label
instance_label instance = record { name = codes "instance"; value = instance }

abbrev pub AreOwn : List Label → Type 0
AreOwn ls = IsTrue (list_all (is_own_label Scraped) ls)

-- none of the page's own labels has a name that is the target's
free_of : (name : List ℕ) → is_taken_name Scraped name ≡ true → (ls : List Label) → AreOwn ls → has_name ls name ≡ false
free_of name taken [] h = refl
free_of name taken (l ∷ ls) h = let both = and_parts (is_own_label Scraped l) (list_all (is_own_label Scraped) ls) h in go (bytes_eq l.name name) refl both.0 (free_of name taken ls both.1)
  where
    go : (b : Bool) → bytes_eq l.name name ≡ b → is_own_label Scraped l ≡ true → has_name ls name ≡ false → (b || has_name ls name) ≡ false
    go true e own ih = absurd (let same : l.name ≡ name = (bytes_decides l.name name).0 e in let here : is_taken_name Scraped l.name ≡ true = ap (is_taken_name Scraped) same ∙ taken in
        let bad : false ≡ true = sym (ap not here) ∙ own in cc)
    go false e own ih = ih

job_taken : is_taken_name Scraped (codes "job") ≡ true
unfolding is_taken_name
job_taken = refl

instance_taken : is_taken_name Scraped (codes "instance") ≡ true
unfolding is_taken_name
instance_taken = refl

pub target_set : (job instance : List ℕ) (ls : LabelSet) → job ≢ [] → instance ≢ [] → IsLabelSet ls → AreOwn ls → IsLabelSet (with_target job instance ls)
unfolding with_target
target_set job instance ls j i set own =
    set_inserted (instance_label instance) (label_inserted (job_label job) ls) (set_inserted (job_label job) ls set (free_of (codes "job") job_taken ls own) j)
    (any_inserted (λ (l : Label). bytes_eq l.name (codes "instance")) (job_label job) ls ∙ free_of (codes "instance") instance_taken ls own) i

pub target_length : (job instance : List ℕ) (ls : LabelSet) → length (with_target job instance ls) ≡ suc (suc (length ls))
unfolding with_target
target_length job instance ls = length-inserted (instance_label instance) (label_inserted (job_label job) ls) ∙ ap suc (length-inserted (job_label job) ls)

pub target_any : (p : Label → Bool) (job instance : List ℕ) (ls : LabelSet) → list_any p (with_target job instance ls) ≡ (p (instance_label instance) || (p (job_label job) || list_any p ls))
unfolding with_target
target_any p job instance ls = any_inserted p (instance_label instance) (label_inserted (job_label job) ls) ∙ ap (λ b. p (instance_label instance) || b) (any_inserted p (job_label job) ls)

pub target_all : (p : Label → Bool) (job instance : List ℕ) (ls : LabelSet) → p (job_label job) ≡ true → p (instance_label instance) ≡ true → list_all p ls ≡ true → list_all p (with_target job instance ls) ≡ true
unfolding with_target
target_all p job instance ls j i h = all_inserted p (instance_label instance) (label_inserted (job_label job) ls) i (all_inserted p (job_label job) ls j h)

-- the page's own labels are told back
pub own_back : (job instance : List ℕ) (ls : LabelSet) → AreOwn ls → filter (is_own_label Scraped) (with_target job instance ls) ≡ ls
unfolding with_target is_taken_name
own_back job instance ls own = filter_inserted (is_own_label Scraped) (instance_label instance) (label_inserted (job_label job) ls) refl ∙ filter_inserted (is_own_label Scraped) (job_label job) ls refl ∙ filter_all (is_own_label Scraped) ls own

-- and so are the target's
pub job_back : (job instance : List ℕ) (ls : LabelSet) → AreOwn ls → filter (λ (l : Label). bytes_eq l.name (codes "job")) (with_target job instance ls) ≡ job_label job ∷ []
unfolding with_target
job_back job instance ls own = filter_inserted (λ (l : Label). bytes_eq l.name (codes "job")) (instance_label instance) (label_inserted (job_label job) ls) refl
    ∙ filter_alone (λ (l : Label). bytes_eq l.name (codes "job")) (job_label job) ls refl (free_of (codes "job") job_taken ls own)

pub instance_back : (job instance : List ℕ) (ls : LabelSet) → AreOwn ls → filter (λ (l : Label). bytes_eq l.name (codes "instance")) (with_target job instance ls) ≡ instance_label instance ∷ []
unfolding with_target
instance_back job instance ls own = filter_alone (λ (l : Label). bytes_eq l.name (codes "instance")) (instance_label instance) (label_inserted (job_label job) ls) refl
    (any_inserted (λ (l : Label). bytes_eq l.name (codes "instance")) (job_label job) ls ∙ free_of (codes "instance") instance_taken ls own)

-- a label that is not the target's is taken away before or after
pub target_without : (job instance : List ℕ) (ls : LabelSet) (name : List ℕ) → is_taken_name Scraped name ≡ false → job ≢ [] → IsLabelSet ls → AreOwn ls
    → without_label name (with_target job instance ls) ≡ with_target job instance (without_label name ls)
unfolding with_target
target_without job instance ls name other j set own =
    let p : Label → Bool = λ (l : Label). not (bytes_eq l.name name) in
    filter_moved p (instance_label instance) (label_inserted (job_label job) ls) (set_inserted (job_label job) ls set (free_of (codes "job") job_taken ls own) j).ascending (passes (codes "instance") instance_taken)
    ∙ ap (label_inserted (instance_label instance)) (filter_moved p (job_label job) ls set.ascending (passes (codes "job") job_taken))
  where
    passes : (taken : List ℕ) → is_taken_name Scraped taken ≡ true → not (bytes_eq taken name) ≡ true
    passes taken t = go (bytes_eq taken name) refl
      where
        go : (b : Bool) → bytes_eq taken name ≡ b → not b ≡ true
        go true e = absurd (let same : taken ≡ name = (bytes_decides taken name).0 e in let bad : true ≡ false = sym t ∙ ap (is_taken_name Scraped) same ∙ other in cc)
        go false e = refl
