-- New names for `job` and `instance`: they are free, so the names stay distinct.
use Rattle.std.proofs.Common.{◌≡◌, ◌≢◌, ℕ, zero, suc, ◌+◌, ◌<◌, ◌≤◌, Bool, true, false, cond, ◌||◌, List, [], ◌∷◌, ◌++◌, length, map, get_or, set, Option, Some, None, refl, sym, ap, subst, ◌∙◌, inl, inr, arith, nat_lt, ◌-◌, append_assoc, length-append}
use Rattle.std.specs.Prelude.{codes, is_some, MatchOption}
use Rattle.std.specs.List.{AllByRecursion, IsDistinct, All}
use Rattle.std.specs.List.Sorted.{IsPermutation, IsSorted}
use Rattle.std.specs.Cmp.Lexicographic.{bytes_decides, nat_list_eq_equiv}
use Rattle.std.specs.Str.{bytes_eq}
use Rattle.std.proofs.lemmas.List.Elements.{Contains-get_or, All-map, All-weaker}
use Rattle.std.proofs.lemmas.List.Sorted.{All-permutation}
use Rattle.std.proofs.lemmas.Map.Keys.{IsDistinct-from_sorted, IsDistinct-IsPermutation}
use Rattle.std.proofs.Math.Seq.{get_or-append_seam}
use Rattle.std.proofs.lemmas.Bool.{cases_lt, or_from, or_parts}
use Rattle.std.proofs.lemmas.Bool.Decides.{nat_tests}
use Rattle.label_sets.specs.declared.label.Label.{Label}
use Rattle.label_sets.specs.Sets.{by_name, IsLabelSet}
use Rattle.label_sets.specs.Labels.{has_name, exported_name, exported_times, IsExportedName, has_target_name, is_target_name, label_renamed, labels_sorted, renamed}
use Rattle.label_sets.specs.Building.{same_name, StandsAt, name_changed}
use Rattle.label_sets.specs.Keys.{label_cmp}
use Rattle.label_sets.proofs.Order.{every, same_name_turned, sorted_itself, sorted_is, sorted_ascending, sorted_moves, ascending_from_sort}
use Rattle.label_sets.specs.Lists.{when_true}
use Rattle.label_sets.proofs.Places.{any_at}
use Rattle.label_sets.proofs.Repeats.{same_bytes}

-- how many labels have a name of more than so many bytes
longer : ℕ → List Label → ℕ
longer n [] = 0
longer n (l ∷ ls) = cond (nat_lt n (length l.name)) (suc (longer n ls)) (longer n ls)

step-le : (a b n x y : ℕ) → a ≤ b → x ≤ y → cond (nat_lt b n) (suc x) x ≤ cond (nat_lt a n) (suc y) y
step-le a b n x y h k = grind (arith, nat_tests)

step-lt : (a b n x y : ℕ) → a ≤ b → x < y → cond (nat_lt b n) (suc x) x < cond (nat_lt a n) (suc y) y
step-lt a b n x y h k = grind (arith, nat_tests)

step_here : (a b x y : ℕ) → a < b → x ≤ y → cond (nat_lt b b) (suc x) x < cond (nat_lt a b) (suc y) y
step_here a b x y h k = grind (arith, nat_tests)

longer-le : (a b : ℕ) (ls : List Label) → a ≤ b → longer b ls ≤ longer a ls
unfolding longer
longer-le a b [] h = omega arith
longer-le a b (l ∷ ls) h = step-le a b (length l.name) (longer b ls) (longer a ls) h (longer-le a b ls h)

same_length : (a b : List ℕ) → bytes_eq a b ≡ true → length b ≡ length a
same_length a b e = ap length (sym ((bytes_decides a b).0 e))

-- a name that a label has, and one with fewer bytes
longer-lt : (a : ℕ) (name : List ℕ) (ls : List Label) → a < length name → has_name ls name ≡ true → longer (length name) ls < longer a ls
unfolding longer
longer-lt a name [] h t = absurd (let f : false ≡ true = t in cc)
longer-lt a name (l ∷ ls) h t = go (bytes_eq l.name name) refl t (λ k. longer-lt a name ls h k)
  where
    go : (b : Bool) → bytes_eq l.name name ≡ b → (b || has_name ls name) ≡ true → (has_name ls name ≡ true → longer (length name) ls < longer a ls) → longer (length name) (l ∷ ls) < longer a (l ∷ ls)
    go true e t ih = let long : length name ≡ length l.name = same_length l.name name e in
        subst (λ (n : ℕ). cond (nat_lt (length name) n) (suc (longer (length name) ls)) (longer (length name) ls) < cond (nat_lt a n) (suc (longer a ls)) (longer a ls)) long
        (step_here a (length name) (longer (length name) ls) (longer a ls) h (longer-le a (length name) ls (omega arith)))
    go false e t ih = step-lt a (length name) (length l.name) (longer (length name) ls) (longer a ls) (omega arith) (ih t)

longer-le-length : (n : ℕ) (ls : List Label) → longer n ls ≤ length ls
unfolding longer
longer-le-length n [] = omega arith
longer-le-length n (l ∷ ls) = at_most (nat_lt n (length l.name)) (longer n ls) (length ls) (longer-le-length n ls)
  where
    at_most : (b : Bool) (x y : ℕ) → x ≤ y → cond b (suc x) x ≤ suc y
    at_most true x y h = omega arith
    at_most false x y h = omega arith

longer-length : (name : List ℕ) (ls : List Label) → has_name ls name ≡ true → longer (length name) ls < length ls
unfolding longer
longer-length name [] t = absurd (let f : false ≡ true = t in cc)
longer-length name (l ∷ ls) t = go (bytes_eq l.name name) refl t (λ k. longer-length name ls k)
  where
    at_most : (b : Bool) (x y : ℕ) → x < y → cond b (suc x) x < suc y
    at_most true x y h = omega arith
    at_most false x y h = omega arith

    itself : (n x y : ℕ) → x ≤ y → cond (nat_lt n n) (suc x) x < suc y
    itself n x y h = grind (arith, nat_tests)

    go : (b : Bool) → bytes_eq l.name name ≡ b → (b || has_name ls name) ≡ true → (has_name ls name ≡ true → longer (length name) ls < length ls) → longer (length name) (l ∷ ls) < suc (length ls)
    go true e t ih = subst (λ (n : ℕ). cond (nat_lt (length name) n) (suc (longer (length name) ls)) (longer (length name) ls) < suc (length ls)) (same_length l.name name e) (itself (length name) (longer (length name) ls) (length ls) (longer-le-length (length name) ls))
    go false e t ih = at_most (nat_lt (length name) (length l.name)) (longer (length name) ls) (length ls) (ih t)

free_within : (more : ℕ) (ls : List Label) (name : List ℕ) → longer (length name) ls < more → has_name ls (exported_name more ls name) ≡ false
free_within zero ls name h = absurd (omega arith)
free_within (suc more) ls name h = go (has_name ls (codes "exported_" ++ name)) refl (λ k. free_within more ls (codes "exported_" ++ name) k)
  where
    go : (b : Bool) → has_name ls (codes "exported_" ++ name) ≡ b → (longer (length (codes "exported_" ++ name)) ls < more → has_name ls (exported_name more ls (codes "exported_" ++ name)) ≡ false)
        → has_name ls (cond b (exported_name more ls (codes "exported_" ++ name)) (codes "exported_" ++ name)) ≡ false
    go false e ih = e
    go true e ih =
        let lt : longer (length (codes "exported_" ++ name)) ls < longer (length name) ls = longer-lt (length name) (codes "exported_" ++ name) ls (let l : length (codes "exported_" ++ name) ≡ 9 + length name = length-append (codes "exported_") name in omega arith) e in
        ih (omega arith)

-- no label has the new name
pub exported_is_free : (ls : List Label) (name : List ℕ) → has_name ls name ≡ true → has_name ls (exported_name (length ls) ls name) ≡ false
exported_is_free ls name t = free_within (length ls) ls name (longer-length name ls t)

-- the name's last byte stays
abbrev EndsIn : ℕ → List ℕ → Type 0
EndsIn x name = (front : List ℕ) × (name ≡ front ++ x ∷ [])

ends_longer : (x : ℕ) (name : List ℕ) → EndsIn x name → EndsIn x (codes "exported_" ++ name)
ends_longer x name h = (codes "exported_" ++ h.0, ap (λ (n : List ℕ). codes "exported_" ++ n) h.1 ∙ sym (append_assoc (codes "exported_") h.0 (x ∷ [])))

exported_ends : (more x : ℕ) (ls : List Label) (name : List ℕ) → EndsIn x name → EndsIn x (exported_name more ls name)
exported_ends zero x ls name h = h
exported_ends (suc more) x ls name h = go (has_name ls (codes "exported_" ++ name)) (ends_longer x name h) (exported_ends more x ls (codes "exported_" ++ name) (ends_longer x name h))
  where
    go : (b : Bool) → EndsIn x (codes "exported_" ++ name) → EndsIn x (exported_name more ls (codes "exported_" ++ name)) → EndsIn x (cond b (exported_name more ls (codes "exported_" ++ name)) (codes "exported_" ++ name))
    go true a b = b
    go false a b = a

last_same : (x y : ℕ) (name : List ℕ) → EndsIn x name → EndsIn y name → x ≡ y
last_same x y name a b =
    let e : a.0 ++ x ∷ [] ≡ b.0 ++ y ∷ [] = sym a.1 ∙ b.1 in
    let m : length a.0 + 1 ≡ length b.0 + 1 = sym (length-append a.0 (x ∷ [])) ∙ (ap length e ∙ length-append b.0 (y ∷ [])) in
    let n : length a.0 ≡ length b.0 = omega arith in
    sym (get_or-append_seam a.0 x [] 0) ∙ (ap (λ (l : List ℕ). get_or l (length a.0) 0) e ∙ (ap (λ (k : ℕ). get_or (b.0 ++ y ∷ []) k 0) n ∙ get_or-append_seam b.0 y [] 0))

-- a new name begins with `e`
abbrev BeginsWith : ℕ → List ℕ → Type 0
BeginsWith x name = (rest : List ℕ) × (name ≡ x ∷ rest)

exported_begins : (more : ℕ) (ls : List Label) (name : List ℕ) → BeginsWith 101 name → BeginsWith 101 (exported_name more ls name)
exported_begins zero ls name h = h
exported_begins (suc more) ls name h = go (has_name ls (codes "exported_" ++ name)) (exported_begins more ls (codes "exported_" ++ name) (_, refl))
  where
    go : (b : Bool) → BeginsWith 101 (exported_name more ls (codes "exported_" ++ name)) → BeginsWith 101 (cond b (exported_name more ls (codes "exported_" ++ name)) (codes "exported_" ++ name))
    go true k = k
    go false k = (_, refl)

new_name_begins : (more : ℕ) (ls : List Label) (name : List ℕ) → BeginsWith 101 (exported_name (suc more) ls name)
new_name_begins more ls name = go (has_name ls (codes "exported_" ++ name))
  where
    go : (b : Bool) → BeginsWith 101 (cond b (exported_name more ls (codes "exported_" ++ name)) (codes "exported_" ++ name))
    go true = exported_begins more ls (codes "exported_" ++ name) (_, refl)
    go false = (_, refl)

-- ---- labels with another name in place of one

pub unchanged : (from to : List ℕ) (ls : List Label) → has_name ls from ≡ false → name_changed from to ls ≡ ls
unchanged from to [] h = refl
unchanged from to (l ∷ ls) h =
    let both = or_parts (bytes_eq l.name from) (has_name ls from) h in
    rw both.0 (ap (λ (ms : List Label). l ∷ ms) (unchanged from to ls both.1))

-- the labels behind one of this name have others
others : (l : Label) (from : List ℕ) (ls : List Label) → bytes_eq l.name from ≡ true → AllByRecursion (λ m. same_name l m ≡ false) ls → has_name ls from ≡ false
others l from [] e h = refl
others l from (m ∷ ms) e h =
    let is : l.name ≡ from = (bytes_decides l.name from).0 e in
    let apart : bytes_eq m.name l.name ≡ false = sym (same_bytes m l) ∙ (same_name_turned m l ∙ h.0) in
    or_from (bytes_eq m.name from) (has_name ms from) (ap (λ (n : List ℕ). bytes_eq m.name n) (sym is) ∙ apart) (others l from ms e h.1)

not_the_one : (l m : Label) (from : List ℕ) → same_name l m ≡ false → bytes_eq m.name from ≡ true → bytes_eq l.name from ≡ false
not_the_one l m from apart e = ap (λ (n : List ℕ). bytes_eq l.name n) (sym ((bytes_decides m.name from).0 e)) ∙ (sym (same_bytes l m) ∙ apart)

pub changed_at : (from to : List ℕ) (ls : List Label) (at : ℕ) (d : Label) → IsDistinct same_name ls → at < length ls → bytes_eq (get_or ls at d).name from ≡ true
    → set ls at (record { name = to; value = (get_or ls at d).value }) ≡ name_changed from to ls
unfolding IsDistinct
changed_at from to [] at d h lt e = absurd (omega arith)
changed_at from to (l ∷ ls) zero d h lt e = rw e (ap (λ (ms : List Label). record { name = to; value = l.value } ∷ ms) (sym (unchanged from to ls (others l from ls e h.0))))
changed_at from to (l ∷ ls) (suc at) d h lt e =
    let lt' : at < length ls = omega arith in
    let apart : bytes_eq l.name from ≡ false = not_the_one l (get_or ls at d) from (every (λ m. same_name l m ≡ false) ls (get_or ls at d) h.0 (Contains-get_or ls at d lt')) e in
    rw apart (ap (λ (ms : List Label). l ∷ ms) (changed_at from to ls at d h.1 lt' e))

changed_lacks : (from to name : List ℕ) (ls : List Label) → has_name ls name ≡ false → bytes_eq to name ≡ false → has_name (name_changed from to ls) name ≡ false
changed_lacks from to name [] h e = refl
changed_lacks from to name (l ∷ ls) h e =
    let both = or_parts (bytes_eq l.name name) (has_name ls name) h in
    or_from _ (has_name (name_changed from to ls) name) (pick (bytes_eq l.name from) both.0) (changed_lacks from to name ls both.1 e)
  where
    pick : (b : Bool) → bytes_eq l.name name ≡ false → bytes_eq (cond b (record { name = to; value = l.value }) l).name name ≡ false
    pick true k = e
    pick false k = k

bytes_turned : (a b : List ℕ) → bytes_eq a b ≡ false → bytes_eq b a ≡ false
bytes_turned a b h = nat_list_eq_equiv.symm b a ∙ h

apart_changed : (from to : List ℕ) (l y : Label) → same_name l y ≡ false → bytes_eq l.name to ≡ false → bytes_eq y.name to ≡ false
    → (p q : Bool) → bytes_eq l.name from ≡ p → bytes_eq y.name from ≡ q
    → same_name (cond p (record { name = to; value = l.value }) l) (cond q (record { name = to; value = y.value }) y) ≡ false
apart_changed from to l y apart l_to y_to true true e f = absurd (
    let same : l.name ≡ y.name = (bytes_decides l.name from).0 e ∙ sym ((bytes_decides y.name from).0 f) in
    let yes : bytes_eq l.name y.name ≡ true = (bytes_decides l.name y.name).1 same in
    let no : bytes_eq l.name y.name ≡ false = sym (same_bytes l y) ∙ apart in
    let z : true ≡ false = sym yes ∙ no in cc)
apart_changed from to l y apart l_to y_to true false e f = same_bytes (record { name = to; value = l.value }) y ∙ bytes_turned y.name to y_to
apart_changed from to l y apart l_to y_to false true e f = same_bytes l (record { name = to; value = y.value }) ∙ l_to
apart_changed from to l y apart l_to y_to false false e f = apart

head_apart : (from to : List ℕ) (l : Label) (ls : List Label) → AllByRecursion (λ y. same_name l y ≡ false) ls → bytes_eq l.name to ≡ false → has_name ls to ≡ false
    → AllByRecursion (λ y. same_name (cond (bytes_eq l.name from) (record { name = to; value = l.value }) l) y ≡ false) (name_changed from to ls)
head_apart from to l [] h e f = tt
head_apart from to l (y ∷ ys) h e f =
    let both = or_parts (bytes_eq y.name to) (has_name ys to) f in
    (apart_changed from to l y h.0 e both.0 (bytes_eq l.name from) (bytes_eq y.name from) refl refl, head_apart from to l ys h.1 e both.1)

changed_distinct : (from to : List ℕ) (ls : List Label) → IsDistinct same_name ls → has_name ls to ≡ false → IsDistinct same_name (name_changed from to ls)
unfolding IsDistinct
changed_distinct from to [] h e = tt
changed_distinct from to (l ∷ ls) h e =
    let both = or_parts (bytes_eq l.name to) (has_name ls to) e in
    (head_apart from to l ls h.0 both.0 both.1, changed_distinct from to ls h.1 both.1)

-- ---- both names

abbrev pub new_job : List Label → List ℕ
new_job ls = exported_name (length ls) ls (codes "job")

abbrev pub new_instance : List Label → List ℕ
new_instance ls = exported_name (length ls) ls (codes "instance")

begins_apart : (name : List ℕ) → BeginsWith 101 name → bytes_eq name (codes "instance") ≡ false
begins_apart name h = rw h.1 refl

job-instance : (ls : List Label) → bytes_eq (new_job ls) (codes "instance") ≡ false
job-instance [] = refl
job-instance (l ∷ ls) = begins_apart (new_job (l ∷ ls)) (new_name_begins (length ls) (l ∷ ls) (codes "job"))

job-new : (ls : List Label) → bytes_eq (new_job ls) (new_instance ls) ≡ false
job-new ls = go (bytes_eq (new_job ls) (new_instance ls)) refl
  where
    go : (b : Bool) → bytes_eq (new_job ls) (new_instance ls) ≡ b → b ≡ false
    go false e = refl
    go true e = absurd (
        let same : new_job ls ≡ new_instance ls = (bytes_decides (new_job ls) (new_instance ls)).0 e in
        let a : EndsIn 98 (new_job ls) = exported_ends (length ls) 98 ls (codes "job") (codes "jo", refl) in
        let b : EndsIn 101 (new_instance ls) = exported_ends (length ls) 101 ls (codes "instance") (codes "instanc", refl) in
        let f : 98 ≡ 101 = last_same 98 101 (new_job ls) a (subst (λ (n : List ℕ). EndsIn 101 n) (sym same) b) in
        omega arith)

-- the two changes are the definition's one
both_changed : (ls all : List Label) → bytes_eq (new_job all) (codes "instance") ≡ false
    → name_changed (codes "instance") (new_instance all) (name_changed (codes "job") (new_job all) ls) ≡ map (label_renamed all) ls
both_changed [] all apart = refl
both_changed (l ∷ ls) all apart = λ i. one_label (bytes_eq l.name (codes "job")) (bytes_eq l.name (codes "instance")) refl refl i ∷ both_changed ls all apart i
  where
    one_label : (b c : Bool) → bytes_eq l.name (codes "job") ≡ b → bytes_eq l.name (codes "instance") ≡ c
        → cond (bytes_eq (cond b (record { name = new_job all; value = l.value }) l).name (codes "instance")) (record { name = new_instance all; value = (cond b (record { name = new_job all; value = l.value }) l).value }) (cond b (record { name = new_job all; value = l.value }) l)
        ≡ cond (b || c) (record { name = exported_name (length all) all l.name; value = l.value }) l
    one_label true c e f = rw apart (ap (λ (n : List ℕ). record { name = exported_name (length all) all n; value = l.value }) (sym ((bytes_decides l.name (codes "job")).0 e)))
    one_label false true e f = rw f (ap (λ (n : List ℕ). record { name = exported_name (length all) all n; value = l.value }) (sym ((bytes_decides l.name (codes "instance")).0 f)))
    one_label false false e f = rw f refl

-- what a change leaves, where there may be none
abbrev pub Changes : List ℕ → Option (List ℕ) → List Label → List Label → Type 0
Changes from to old new = MatchOption to (new ≡ old) (λ name. new ≡ name_changed from name old)

one_change : (ls new : List Label) (from to : List ℕ) (b : Bool) → has_name ls from ≡ b → Changes from (when_true b to) ls new → new ≡ name_changed from to ls
one_change ls new from to true e h = h
one_change ls new from to false e h = h ∙ sym (unchanged from to ls e)

kept_distinct : (ls new : List Label) (from to : List ℕ) (b : Bool) → IsDistinct same_name ls → (b ≡ true → has_name ls to ≡ false) → Changes from (when_true b to) ls new → IsDistinct same_name new
kept_distinct ls new from to true h free c = subst (IsDistinct same_name) (sym c) (changed_distinct from to ls h (free refl))
kept_distinct ls new from to false h free c = subst (IsDistinct same_name) (sym c) h

pub first_distinct : (ls one : List Label) (job : Option (List ℕ)) → IsLabelSet ls → job ≡ when_true (has_name ls (codes "job")) (new_job ls) → Changes (codes "job") job ls one → IsDistinct same_name one
first_distinct ls one job h is c = kept_distinct ls one (codes "job") (new_job ls) (has_name ls (codes "job")) (IsDistinct-from_sorted by_name ls h.ascending) (λ e. exported_is_free ls (codes "job") e)
    (subst (λ (o : Option (List ℕ)). Changes (codes "job") o ls one) is c)

pub both_distinct : (ls one two : List Label) (job instance : Option (List ℕ)) → IsLabelSet ls → job ≡ when_true (has_name ls (codes "job")) (new_job ls) → instance ≡ when_true (has_name ls (codes "instance")) (new_instance ls)
    → Changes (codes "job") job ls one → Changes (codes "instance") instance one two → IsDistinct same_name two × (two ≡ map (label_renamed ls) ls)
both_distinct ls one two job instance h is_job is_instance c d = (distinct, two_is (has_name ls (codes "instance")) refl d')
  where
    c' : Changes (codes "job") (when_true (has_name ls (codes "job")) (new_job ls)) ls one
    c' = subst (λ (o : Option (List ℕ)). Changes (codes "job") o ls one) is_job c

    d' : Changes (codes "instance") (when_true (has_name ls (codes "instance")) (new_instance ls)) one two
    d' = subst (λ (o : Option (List ℕ)). Changes (codes "instance") o one two) is_instance d

    one_is : one ≡ name_changed (codes "job") (new_job ls) ls
    one_is = one_change ls one (codes "job") (new_job ls) (has_name ls (codes "job")) refl c'

    lacks : (name : List ℕ) → has_name ls name ≡ false → bytes_eq (new_job ls) name ≡ false → has_name one name ≡ false
    lacks name e f = subst (λ (ms : List Label). has_name ms name ≡ false) (sym one_is) (changed_lacks (codes "job") (new_job ls) name ls e f)

    distinct : IsDistinct same_name two
    distinct = kept_distinct one two (codes "instance") (new_instance ls) (has_name ls (codes "instance")) (first_distinct ls one job h is_job c) (λ e. lacks (new_instance ls) (exported_is_free ls (codes "instance") e) (job-new ls)) d'

    whole : name_changed (codes "instance") (new_instance ls) one ≡ map (label_renamed ls) ls
    whole = ap (name_changed (codes "instance") (new_instance ls)) one_is ∙ both_changed ls ls (job-instance ls)

    two_is : (b : Bool) → has_name ls (codes "instance") ≡ b → Changes (codes "instance") (when_true b (new_instance ls)) one two → two ≡ map (label_renamed ls) ls
    two_is true e k = k ∙ whole
    two_is false e k = k ∙ (sym (unchanged (codes "instance") (new_instance ls) one (lacks (codes "instance") e (job-instance ls))) ∙ whole)

renamed_value : (ls : List Label) (l : Label) → (label_renamed ls l).value ≡ l.value
renamed_value ls l = go (bytes_eq l.name (codes "job") || bytes_eq l.name (codes "instance"))
  where
    go : (b : Bool) → (cond b (record { name = exported_name (length ls) ls l.name; value = l.value }) l).value ≡ l.value
    go true = refl
    go false = refl

pub renamed_sorted : (ls two new : List Label) → IsLabelSet ls → IsDistinct same_name two × (two ≡ map (label_renamed ls) ls) → IsPermutation two new → IsSorted label_cmp new → (new ≡ renamed ls) × IsLabelSet new
renamed_sorted ls two new h c p s =
    let distinct = IsDistinct-IsPermutation same_name same_name_turned two new p c.0 in
    let ascending = ascending_from_sort new distinct s in
    let valued = All-map (λ (l : Label). l.value ≢ []) (label_renamed ls) ls (All-weaker (λ (l : Label). l.value ≢ []) (λ (l : Label). (label_renamed ls l).value ≢ []) (λ l some e. some (sym (renamed_value ls l) ∙ e)) ls h.valued) in (
      sorted_is two new p ascending ∙ ap labels_sorted c.1,
      record { ascending = ascending; valued = All-permutation (λ (l : Label). l.value ≢ []) two new p (subst (All (λ (l : Label). l.value ≢ [])) (sym c.1) valued) },
    )

-- where no label has such a name, none gets another one
all_stay : (ls all : List Label) → has_target_name ls ≡ false → map (label_renamed all) ls ≡ ls
all_stay [] all h = refl
all_stay (l ∷ ls) all h = λ i. one_stays (is_target_name l.name) (or_parts (is_target_name l.name) (has_target_name ls) h).0 i ∷ all_stay ls all (or_parts (is_target_name l.name) (has_target_name ls) h).1 i
  where
    one_stays : (b : Bool) → b ≡ false → cond b (record { name = exported_name (length all) all l.name; value = l.value }) l ≡ l
    one_stays true e = absurd (let f : true ≡ false = e in cc)
    one_stays false e = refl

pub renamed_same : (ls : List Label) → IsLabelSet ls → has_target_name ls ≡ false → ls ≡ renamed ls
renamed_same ls h none = sym (ap labels_sorted (all_stay ls ls none) ∙ sorted_itself ls h.ascending)

-- ---- steps of the search for a free name

pub step_free : (left : ℕ) (ls : List Label) (next new : List ℕ) → 0 < left → new ≡ codes "exported_" ++ next → has_name ls new ≡ false → exported_name left ls next ≡ new
step_free zero ls next new h is e = absurd (omega arith)
step_free (suc m) ls next new h is e = rw (sym is, e) refl

pub step_taken : (left : ℕ) (ls : List Label) (next new : List ℕ) → 0 < left → new ≡ codes "exported_" ++ next → has_name ls new ≡ true → exported_name left ls next ≡ exported_name (left - 1) ls new
step_taken zero ls next new h is e = absurd (omega arith)
step_taken (suc m) ls next new h is e = let one : suc m - 1 ≡ m = omega arith in rw (sym is, e, one) refl

pub stands_none : (ls : List Label) (name : List ℕ) (r : Option ℕ) → StandsAt ls name r → is_some r ≡ false → has_name ls name ≡ false
stands_none ls name None h e = h
stands_none ls name (Some at) h e = absurd (let f : true ≡ false = e in cc)

pub stands_some : (ls : List Label) (name : List ℕ) (r : Option ℕ) → StandsAt ls name r → is_some r ≡ true → has_name ls name ≡ true
stands_some ls name None h e = absurd (let f : false ≡ true = e in cc)
stands_some [] name (Some at) h e = absurd (let lt : at < 0 = h.0 in omega arith)
stands_some (l ∷ ls) name (Some at) h e = any_at (λ (m : Label). bytes_eq m.name name) (l ∷ ls) at l h.0 (h.1 l)

-- an answer about a slice of the labels is one about the labels
pub found_in : (name : List ℕ) (found : Option (List ℕ)) (xs ls : List Label) → xs ≡ ls → found ≡ when_true (has_name xs name) (exported_name (length xs) xs name) → found ≡ when_true (has_name ls name) (exported_name (length ls) ls name)
found_in name found xs ls e h = subst (λ (ms : List Label). found ≡ when_true (has_name ms name) (exported_name (length ms) ms name)) e h

pub set_distinct : (ls : List Label) → IsLabelSet ls → IsDistinct same_name ls
set_distinct ls h = IsDistinct-from_sorted by_name ls h.ascending

-- the change at the place where the name was found
pub change_found : (from to : List ℕ) (xs ls : List Label) (at : ℕ) (m : Label) → xs ≡ ls → IsDistinct same_name ls → StandsAt xs from (Some at) → m ≡ get_or ls at m → Changes from (Some to) ls (set ls at (record { name = to; value = m.value }))
change_found from to xs ls at m e h found read =
    let found' : StandsAt ls from (Some at) = subst (λ (ms : List Label). StandsAt ms from (Some at)) e found in
    subst (λ (x : Label). set ls at (record { name = to; value = x.value }) ≡ name_changed from to ls) (sym read) (changed_at from to ls at m h found'.0 (found'.1 m))

pub change_none : (from to : List ℕ) (xs ls : List Label) → xs ≡ ls → has_name xs from ≡ false → Changes from (Some to) ls ls
change_none from to xs ls e h = sym (unchanged from to ls (subst (λ (ms : List Label). has_name ms from ≡ false) e h))

-- ---- laws

some_change : (from to : List ℕ) (ls : List Label) (b : Bool) → (new : List Label) × Changes from (when_true b to) ls new
some_change from to ls true = (name_changed from to ls, refl)
some_change from to ls false = (ls, refl)

pub IsLabelSet-renamed : (ls : List Label) → IsLabelSet ls → IsLabelSet (renamed ls)
IsLabelSet-renamed ls h =
    let one = some_change (codes "job") (new_job ls) ls (has_name ls (codes "job")) in
    let two = some_change (codes "instance") (new_instance ls) one.0 (has_name ls (codes "instance")) in
    let both = both_distinct ls one.0 two.0 (when_true (has_name ls (codes "job")) (new_job ls)) (when_true (has_name ls (codes "instance")) (new_instance ls)) h refl refl one.1 two.1 in
    let distinct : IsDistinct same_name (map (label_renamed ls) ls) = subst (IsDistinct same_name) both.1 both.0 in
    let valued = All-map (λ (l : Label). l.value ≢ []) (label_renamed ls) ls (All-weaker (λ (l : Label). l.value ≢ []) (λ (l : Label). (label_renamed ls l).value ≢ []) (λ l some e. some (sym (renamed_value ls l) ∙ e)) ls h.valued) in
    record {
      ascending = sorted_ascending (map (label_renamed ls) ls) distinct;
      valued = All-permutation (λ (l : Label). l.value ≢ []) (map (label_renamed ls) ls) (renamed ls) (sorted_moves (map (label_renamed ls) ls)) valued;
    }

-- how often `exported_` is put before a name that has it j times already
pub record Found (ls : List Label) (name : List ℕ) (j : ℕ) (new : List ℕ) : Type 0 where
  pub times : ℕ
  pub more : j < times
  pub is : new ≡ exported_times times name
  pub least : (k : ℕ) → j < k → k < times → has_name ls (exported_times k name) ≡ true

found_here : (ls : List Label) (name : List ℕ) (j : ℕ) → Found ls name j (exported_times (suc j) name)
found_here ls name j = record { times = suc j; more = omega arith; is = refl; least = λ k low high. absurd (omega arith) }

found_behind : (ls : List Label) (name : List ℕ) (j : ℕ) (new : List ℕ) → has_name ls (exported_times (suc j) name) ≡ true → Found ls name (suc j) new → Found ls name j new
found_behind ls name j new taken f = record {
  times = f.times;
  more = let h : suc j < f.times = f.more in omega arith;
  is = f.is;
  least = λ k low high. elim (cases_lt (suc j) k) [
    | inl h ↦ f.least k h high
    | inr h ↦ (let e : suc j ≡ k = omega arith in subst (λ (n : ℕ). has_name ls (exported_times n name) ≡ true) e taken)
  ];
}

found : (m : ℕ) (ls : List Label) (name : List ℕ) (j : ℕ) → Found ls name j (exported_name (suc m) ls (exported_times j name))
found zero ls name j = go (has_name ls (exported_times (suc j) name))
  where
    go : (b : Bool) → Found ls name j (cond b (exported_times (suc j) name) (exported_times (suc j) name))
    go true = found_here ls name j
    go false = found_here ls name j
found (suc m) ls name j = go (has_name ls (exported_times (suc j) name)) refl (found m ls name (suc j))
  where
    go : (b : Bool) → has_name ls (exported_times (suc j) name) ≡ b → Found ls name (suc j) (exported_name (suc m) ls (exported_times (suc j) name))
        → Found ls name j (cond b (exported_name (suc m) ls (exported_times (suc j) name)) (exported_times (suc j) name))
    go true e ih = found_behind ls name j (exported_name (suc m) ls (exported_times (suc j) name)) e ih
    go false e ih = found_here ls name j

pub IsExportedName-exported_name : (ls : List Label) (name : List ℕ) → has_name ls name ≡ true → IsExportedName ls name (exported_name (length ls) ls name)
IsExportedName-exported_name [] name t = absurd (let f : false ≡ true = t in cc)
IsExportedName-exported_name (l ∷ ls) name t =
    let f = found (length ls) (l ∷ ls) name 0 in
    record { times = f.times; some = f.more; is = f.is; free = exported_is_free (l ∷ ls) name t; least = f.least }
