-- The label sets of lines that were read: sets of named texts, also where they are kept beside a target's, or without one label.
use Rattle.std.proofs.Common.{◌≡◌, ℕ, zero, suc, ◌+◌, ◌≤◌, Bool, true, false, cond, not, ◌||◌, List, [], ◌∷◌, ◌++◌, map, filter, length, codes, Option, Some, None, refl, sym, ap, subst, ◌∙◌, arith}
use Rattle.std.specs.Prelude.{is_none}
use Rattle.std.specs.List.{list_all}
use Rattle.std.specs.Str.{bytes_eq, is_utf8}
use Rattle.std.specs.Cmp.Lexicographic.{bytes_decides}
use Rattle.std.proofs.lemmas.Bool.{and_parts, and_from, or_left, or_right}
use Rattle.std.proofs.lemmas.List.{length-map}
use Rattle.label_sets.specs.declared.label.Label.{Label}
use Rattle.label_sets.specs.declared.label_set.LabelSet.{LabelSet}
use Rattle.label_sets.specs.Names.{is_label_name}
use Rattle.label_sets.specs.Labels.{name_before, has_value, label_inserted, labels_sorted, label_set, has_name, repeated_at, has_distinct_names, without_label, exported_name, is_target_name, label_renamed, renamed}
use Rattle.label_sets.specs.Sets.{IsLabelSet}
use Rattle.label_sets.proofs.Laws.{IsLabelSet-renamed, IsLabelSet-label_set, distinct_from_repeated_at, length-inserted}
use Rattle.page_model.specs.declared.format.Treatment.{Treatment}
use Rattle.page_model.specs.declared.format.Treatment.TheVariants.{Scraped, Written}
use Rattle.page_model.specs.Owners.{kept_labels}
use Rattle.open_writing.specs.Forms.{is_taken_name, is_text_label, is_own_label}
use Rattle.writing_laws.proofs.FairParts.{all_inserted}
use Rattle.writing_laws.proofs.LineBytes.{label_chars}

-- ---- lists

all_sorted : (p : Label → Bool) (ls : List Label) → list_all p ls ≡ true → list_all p (labels_sorted ls) ≡ true
all_sorted p [] h = refl
all_sorted p (l ∷ ls) h = let both = and_parts (p l) (list_all p ls) h in all_inserted p l (labels_sorted ls) both.0 (all_sorted p ls both.1)

pub all_filtered : {A : Type 0} (p q : A → Bool) (xs : List A) → list_all p xs ≡ true → list_all p (filter q xs) ≡ true
all_filtered p q [] h = refl
all_filtered p q (x ∷ xs) h = let both = and_parts (p x) (list_all p xs) h in go (q x) both.0 (all_filtered p q xs both.1)
  where
    go : (b : Bool) → p x ≡ true → list_all p (filter q xs) ≡ true → list_all p (cond b (x ∷ filter q xs) (filter q xs)) ≡ true
    go true e ih = and_from (p x) (list_all p (filter q xs)) e ih
    go false e ih = ih

length_filtered : {A : Type 0} (q : A → Bool) (xs : List A) → length (filter q xs) ≤ length xs
length_filtered q [] = omega arith
length_filtered q (x ∷ xs) = go (q x) (length_filtered q xs)
  where
    go : (b : Bool) → length (filter q xs) ≤ length xs → length (cond b (x ∷ filter q xs) (filter q xs)) ≤ suc (length xs)
    go true ih = omega (arith, ih)
    go false ih = omega (arith, ih)

length_sorted : (ls : List Label) → length (labels_sorted ls) ≡ length ls
length_sorted [] = refl
length_sorted (l ∷ ls) = length-inserted l (labels_sorted ls) ∙ ap suc (length_sorted ls)

-- ---- the set of written labels

is_absent : {A : Type 0} (o : Option A) → is_none o ≡ true → o ≡ None
is_absent None h = refl
is_absent (Some x) h = absurd cc

pub read_set : (ls : List Label) → has_distinct_names ls ≡ true → IsLabelSet (label_set ls)
read_set ls h = IsLabelSet-label_set ls (distinct_from_repeated_at ls (is_absent (repeated_at [] 0 ls) h))

pub read_labels : (ls : List Label) → list_all is_text_label ls ≡ true → list_all is_text_label (label_set ls) ≡ true
read_labels ls h = all_sorted is_text_label (filter has_value ls) (all_filtered is_text_label has_value ls h)

pub read_few : (ls : List Label) → length (label_set ls) ≤ length ls
read_few ls = let sorted = length_sorted (filter has_value ls) in let kept = length_filtered has_value ls in omega (arith, sorted, kept)

-- ---- names among sorted labels

or_swap : (a b c : Bool) → (a || (b || c)) ≡ (b || (a || c))
or_swap true true c = refl
or_swap true false c = refl
or_swap false b c = refl

has_inserted : (l : Label) (ls : List Label) (name : List ℕ) → has_name (label_inserted l ls) name ≡ (bytes_eq l.name name || has_name ls name)
has_inserted l [] name = refl
has_inserted l (m ∷ ms) name = go (name_before l.name m.name) (has_inserted l ms name)
  where
    go : (b : Bool) → has_name (label_inserted l ms) name ≡ (bytes_eq l.name name || has_name ms name)
        → has_name (cond b (l ∷ m ∷ ms) (m ∷ label_inserted l ms)) name ≡ (bytes_eq l.name name || (bytes_eq m.name name || has_name ms name))
    go true ih = refl
    go false ih = ap (λ x. bytes_eq m.name name || x) ih ∙ or_swap (bytes_eq m.name name) (bytes_eq l.name name) (has_name ms name)

has_sorted : (ls : List Label) (name : List ℕ) → has_name (labels_sorted ls) name ≡ has_name ls name
has_sorted [] name = refl
has_sorted (l ∷ ls) name = has_inserted l (labels_sorted ls) name ∙ ap (λ x. bytes_eq l.name name || x) (has_sorted ls name)

-- ---- labels that make room for the target's

-- a label whose name is none of the target's stays
stays : (all : List Label) (l : Label) → is_target_name l.name ≡ false → label_renamed all l ≡ l
stays all l e = ap (λ b. cond b (record { name = exported_name (length all) all l.name; value = l.value }) l) e

renamed_has : (all ls : List Label) (name : List ℕ) → is_target_name name ≡ false → has_name ls name ≡ true → has_name (map (label_renamed all) ls) name ≡ true
renamed_has all [] name free h = absurd cc
renamed_has all (l ∷ ls) name free h = go (bytes_eq l.name name) refl h (renamed_has all ls name free)
  where
    go : (b : Bool) → bytes_eq l.name name ≡ b → (b || has_name ls name) ≡ true → (has_name ls name ≡ true → has_name (map (label_renamed all) ls) name ≡ true)
        → (bytes_eq (label_renamed all l).name name || has_name (map (label_renamed all) ls) name) ≡ true
    go true e k ih =
        let same : l.name ≡ name = (bytes_decides l.name name).0 e in
        or_left (bytes_eq (label_renamed all l).name name) (has_name (map (label_renamed all) ls) name) (ap (λ (m : Label). bytes_eq m.name name) (stays all l (ap is_target_name same ∙ free)) ∙ e)
    go false e k ih = or_right (bytes_eq (label_renamed all l).name name) (has_name (map (label_renamed all) ls) name) (ih k)

-- a label of the line is one of the page, unless its name is taken
pub kept_has : (t : Treatment) (ls : LabelSet) (name : List ℕ) → has_name ls name ≡ true → (is_taken_name t name || has_name (kept_labels t ls) name) ≡ true
unfolding is_taken_name
kept_has Written ls name h = h
kept_has Scraped ls name h = go (is_target_name name) refl
  where
    go : (b : Bool) → is_target_name name ≡ b → (b || has_name (renamed ls) name) ≡ true
    go true e = refl
    go false e = has_sorted (map (label_renamed ls) ls) name ∙ renamed_has ls ls name e h

longer_name : (name : List ℕ) → is_label_name name ≡ true → is_label_name (codes "exported_" ++ name) ≡ true
longer_name name h = label_chars name h

exported_named : (more : ℕ) (ls : List Label) (name : List ℕ) → is_label_name name ≡ true → is_label_name (exported_name more ls name) ≡ true
exported_named zero ls name h = h
exported_named (suc more) ls name h = go (has_name ls (codes "exported_" ++ name)) (longer_name name h) (exported_named more ls (codes "exported_" ++ name) (longer_name name h))
  where
    go : (b : Bool) → is_label_name (codes "exported_" ++ name) ≡ true → is_label_name (exported_name more ls (codes "exported_" ++ name)) ≡ true
        → is_label_name (cond b (exported_name more ls (codes "exported_" ++ name)) (codes "exported_" ++ name)) ≡ true
    go true k ih = ih
    go false k ih = k

renamed_text : (all ls : List Label) → list_all is_text_label ls ≡ true → list_all is_text_label (map (label_renamed all) ls) ≡ true
renamed_text all [] h = refl
renamed_text all (l ∷ ls) h =
    let both = and_parts (is_text_label l) (list_all is_text_label ls) h in
    and_from (is_text_label (label_renamed all l)) (list_all is_text_label (map (label_renamed all) ls)) (one (is_target_name l.name) (and_parts (is_label_name l.name) (is_utf8 l.value) both.0)) (renamed_text all ls both.1)
  where
    one : (b : Bool) → (is_label_name l.name ≡ true) × (is_utf8 l.value ≡ true) → is_text_label (cond b (record { name = exported_name (length all) all l.name; value = l.value }) l) ≡ true
    one true p = and_from (is_label_name (exported_name (length all) all l.name)) (is_utf8 l.value) (exported_named (length all) all l.name p.0) p.1
    one false p = and_from (is_label_name l.name) (is_utf8 l.value) p.0 p.1

-- a name that begins with `e`
abbrev Begins : List ℕ → Type 0
Begins name = (rest : List ℕ) × (name ≡ 101 ∷ rest)

exported_begins : (more : ℕ) (ls : List Label) (name : List ℕ) → Begins name → Begins (exported_name more ls name)
exported_begins zero ls name h = h
exported_begins (suc more) ls name h = go (has_name ls (codes "exported_" ++ name)) (exported_begins more ls (codes "exported_" ++ name) (_, refl))
  where
    go : (b : Bool) → Begins (exported_name more ls (codes "exported_" ++ name)) → Begins (cond b (exported_name more ls (codes "exported_" ++ name)) (codes "exported_" ++ name))
    go true k = k
    go false k = (_, refl)

new_begins : (more : ℕ) (ls : List Label) (name : List ℕ) → Begins (exported_name (suc more) ls name)
new_begins more ls name = go (has_name ls (codes "exported_" ++ name))
  where
    go : (b : Bool) → Begins (cond b (exported_name more ls (codes "exported_" ++ name)) (codes "exported_" ++ name))
    go true = exported_begins more ls (codes "exported_" ++ name) (_, refl)
    go false = (_, refl)

no_target : (name : List ℕ) → Begins name → is_target_name name ≡ false
no_target name h = rw h.1 refl

renamed_own : (k : ℕ) (all ls : List Label) → length all ≡ suc k → list_all (is_own_label Scraped) (map (label_renamed all) ls) ≡ true
unfolding is_taken_name
renamed_own k all [] e = refl
renamed_own k all (l ∷ ls) e = and_from (is_own_label Scraped (label_renamed all l)) (list_all (is_own_label Scraped) (map (label_renamed all) ls)) (one (is_target_name l.name) refl) (renamed_own k all ls e)
  where
    one : (b : Bool) → is_target_name l.name ≡ b → not (is_target_name (cond b (record { name = exported_name (length all) all l.name; value = l.value }) l).name) ≡ true
    one true f = ap not (no_target (exported_name (length all) all l.name) (subst (λ n. Begins (exported_name n all l.name)) (sym e) (new_begins k all l.name)))
    one false f = ap not f

pub written_own : (ls : List Label) → list_all (is_own_label Written) ls ≡ true
unfolding is_taken_name
written_own [] = refl
written_own (l ∷ ls) = written_own ls

-- ---- labels that a page keeps

pub kept_own : (t : Treatment) (ls : LabelSet) → list_all (is_own_label t) (kept_labels t ls) ≡ true
kept_own Written ls = written_own ls
kept_own Scraped [] = refl
kept_own Scraped (l ∷ ls) = all_sorted (is_own_label Scraped) (map (label_renamed (l ∷ ls)) (l ∷ ls)) (renamed_own (length ls) (l ∷ ls) (l ∷ ls) refl)

pub kept_text : (t : Treatment) (ls : LabelSet) → list_all is_text_label ls ≡ true → list_all is_text_label (kept_labels t ls) ≡ true
kept_text Written ls h = h
kept_text Scraped ls h = all_sorted is_text_label (map (label_renamed ls) ls) (renamed_text ls ls h)

pub kept_set : (t : Treatment) (ls : LabelSet) → IsLabelSet ls → IsLabelSet (kept_labels t ls)
kept_set Written ls h = h
kept_set Scraped ls h = IsLabelSet-renamed ls h

pub length_kept : (t : Treatment) (ls : LabelSet) → length (kept_labels t ls) ≡ length ls
length_kept Written ls = refl
length_kept Scraped ls = length_sorted (map (label_renamed ls) ls) ∙ length-map ls (label_renamed ls)

-- ---- without one label

pub without_lacks : (name : List ℕ) (ls : LabelSet) → has_name (without_label name ls) name ≡ false
without_lacks name [] = refl
without_lacks name (l ∷ ls) = go (bytes_eq l.name name) refl (without_lacks name ls)
  where
    go : (b : Bool) → bytes_eq l.name name ≡ b → has_name (without_label name ls) name ≡ false → has_name (cond (not b) (l ∷ without_label name ls) (without_label name ls)) name ≡ false
    go true e ih = ih
    go false e ih = rw e ih

pub length_without : (name : List ℕ) (ls : LabelSet) → length (without_label name ls) ≤ length ls
length_without name ls = length_filtered (λ (l : Label). not (bytes_eq l.name name)) ls

pub length_taken : (name : List ℕ) (ls : LabelSet) → has_name ls name ≡ true → length (without_label name ls) + 1 ≤ length ls
length_taken name [] h = absurd cc
length_taken name (l ∷ ls) h = go (bytes_eq l.name name) h (length_without name ls) (length_taken name ls)
  where
    go : (b : Bool) → (b || has_name ls name) ≡ true → length (without_label name ls) ≤ length ls → (has_name ls name ≡ true → length (without_label name ls) + 1 ≤ length ls)
        → length (cond (not b) (l ∷ without_label name ls) (without_label name ls)) + 1 ≤ suc (length ls)
    go true k le ih = omega (arith, le)
    go false k le ih = let more = ih k in omega (arith, more)
