-- A label put among others, what is left without one, and sets that are one.
use Rattle.std.proofs.Common.{◌≡◌, ◌≢◌, ℕ, Bool, true, false, ◌||◌, List, [], ◌∷◌, Some, codes, refl, ap}
use Rattle.std.specs.Str.{bytes_eq}
use Rattle.std.specs.Cmp.Lexicographic.{bytes_decides}
use Rattle.label_sets.specs.declared.label.Label.{Label}
use Rattle.label_sets.specs.declared.label_set.LabelSet.{LabelSet}
use Rattle.label_sets.specs.Labels.{name_before, label_inserted, has_name, label_value, without_label, label_sets_eq}
use Rattle.exact_decimal.specs.Numbers.{number_or_nan}
use Rattle.exact_decimal.specs.Literals.{number_text}
use Rattle.page_model.specs.declared.page.Bucket.{Bucket}
use Rattle.page_model.specs.Rules.{threshold}
use Rattle.page_model.proofs.Laws.{label_sets_decide}
use Rattle.open_writing.specs.Writing.{bucket_sample}
use Rattle.open_writing.specs.Forms.{IsFormedNumber}
use Rattle.writing_laws.proofs.Spelled.{number_text_read}

-- ---- a label put among others of which none has its name

-- it is found
pub value_inserted : (l : Label) (ls : List Label) → has_name ls l.name ≡ false → label_value l.name (label_inserted l ls) ≡ Some l.value
value_inserted l [] h = rw ((bytes_decides l.name l.name).1 refl) refl
value_inserted l (m ∷ ms) h = go (name_before l.name m.name) (bytes_eq m.name l.name) refl refl h (value_inserted l ms)
  where
    go : (b c : Bool) → name_before l.name m.name ≡ b → bytes_eq m.name l.name ≡ c → (c || has_name ms l.name) ≡ false
        → (has_name ms l.name ≡ false → label_value l.name (label_inserted l ms) ≡ Some l.value) → label_value l.name (label_inserted l (m ∷ ms)) ≡ Some l.value
    go b true e f k ih = absurd cc
    go true false e f k ih = rw (e, (bytes_decides l.name l.name).1 refl) refl
    go false false e f k ih = rw (e, f) (ih k)

-- a label that isn't there is no loss
pub without_absent : (name : List ℕ) (ls : List Label) → has_name ls name ≡ false → without_label name ls ≡ ls
without_absent name [] h = refl
without_absent name (l ∷ ls) h = go (bytes_eq l.name name) refl h (without_absent name ls)
  where
    go : (b : Bool) → bytes_eq l.name name ≡ b → (b || has_name ls name) ≡ false → (has_name ls name ≡ false → without_label name ls ≡ ls) → without_label name (l ∷ ls) ≡ l ∷ ls
    go true f k ih = absurd (let g : true ≡ false = k in cc)
    go false f k ih = rw f (ap (λ ms. l ∷ ms) (ih k))

-- the others are what is left without one that was put among them
pub without_inserted : (l : Label) (ls : List Label) → has_name ls l.name ≡ false → without_label l.name (label_inserted l ls) ≡ ls
without_inserted l [] h = rw ((bytes_decides l.name l.name).1 refl) refl
without_inserted l (m ∷ ms) h = go (name_before l.name m.name) (bytes_eq m.name l.name) refl refl h (without_inserted l ms) (without_absent l.name ms)
  where
    go : (b c : Bool) → name_before l.name m.name ≡ b → bytes_eq m.name l.name ≡ c → (c || has_name ms l.name) ≡ false
        → (has_name ms l.name ≡ false → without_label l.name (label_inserted l ms) ≡ ms) → (has_name ms l.name ≡ false → without_label l.name ms ≡ ms)
        → without_label l.name (label_inserted l (m ∷ ms)) ≡ m ∷ ms
    go b true e f k ih all = absurd cc
    go true false e f k ih all = rw (e, (bytes_decides l.name l.name).1 refl, f) (ap (λ xs. m ∷ xs) (all k))
    go false false e f k ih all = rw (e, f) (ap (λ xs. m ∷ xs) (ih k))

-- the bound that a written bucket reads as
pub written_threshold : (family : List ℕ) (labels : LabelSet) (b : Bucket) → has_name labels (codes "le") ≡ false → IsFormedNumber b.le → threshold (bucket_sample family labels b) ≡ b.le
written_threshold family labels b h n =
    let l : Label = record { name = codes "le"; value = number_text b.le } in
    rw (value_inserted l labels h) (ap number_or_nan (number_text_read b.le n))

-- ---- sets

pub same_group : (a b : LabelSet) → a ≡ b → label_sets_eq a b ≡ true
same_group a b e = (label_sets_decide a b).1 e

pub other_group : (a b : LabelSet) → a ≢ b → label_sets_eq a b ≡ false
other_group a b ne = go (label_sets_eq a b) refl
  where
    go : (c : Bool) → label_sets_eq a b ≡ c → label_sets_eq a b ≡ false
    go false e = e
    go true e = absurd (ne ((label_sets_decide a b).0 e))
