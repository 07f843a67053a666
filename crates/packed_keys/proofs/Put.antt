-- Labels that were put behind others, one by one.
use Rattle.std.proofs.Common.{◌≡◌, ℕ, Bool, true, false, not, List, [], ◌∷◌, ◌++◌, length, cond, refl, sym, ap, ◌∙◌, append_assoc, arith}
use Rattle.std.specs.Prelude.{Result, Ok, Err, OnOk, IsUtf8}
use Rattle.std.specs.List.{flat_map, All}
use Rattle.std.specs.Str.{bytes_eq}
use Rattle.std.proofs.lemmas.List.{append-nil}
use Rattle.std.proofs.lemmas.List.Elements.{All-push, filter-append}
use Rattle.std.proofs.lemmas.Grind.{flat_map-append}
use Rattle.label_sets.specs.declared.label.Label.{Label}
use Rattle.label_sets.specs.Labels.{without_label}
use Rattle.packed_keys.specs.declared.sample_key.SampleKey.{SampleKey}
use Rattle.packed_keys.specs.Packing.{length_code, label_bytes, labels_bytes}
use Rattle.packed_keys.specs.Texts.{IsTextLabel, IsTextSet, IsTextKey}

-- these labels stand behind what stood there, and are texts
pub record AreAdded (before now : List ℕ) (ls : List Label) : Type 0 where
  pub added : now ≡ before ++ flat_map label_bytes ls
  pub texts : All IsTextLabel ls

pub none_added : (before : List ℕ) → AreAdded before before []
none_added before = record { added = sym (append-nil before); texts = λ k d lt. absurd (omega arith) }

-- one label more
pub one_added : (before now next : List ℕ) (ls : List Label) (l : Label) → AreAdded before now ls → next ≡ now ++ label_bytes l → IsTextLabel l → AreAdded before next (ls ++ l ∷ [])
one_added before now next ls l is e text = record {
  added = e ∙ (ap (λ (xs : List ℕ). xs ++ label_bytes l) is.added ∙ (append_assoc before (flat_map label_bytes ls) (label_bytes l) ∙ ap (λ (xs : List ℕ). before ++ xs) (sym (flat_map-append label_bytes ls (l ∷ []) ∙ ap (λ (xs : List ℕ). flat_map label_bytes ls ++ xs) (append-nil (label_bytes l))))));
  texts = All-push IsTextLabel ls l is.texts text;
}

-- the bytes of a set: its labels behind their number
pub set_added : (start before now : List ℕ) (count : ℕ) (ls : List Label) → before ≡ start ++ length_code count → count ≡ length ls → AreAdded before now ls → now ≡ start ++ labels_bytes ls
unfolding labels_bytes
set_added start before now count ls e k is =
    is.added ∙ (ap (λ (xs : List ℕ). xs ++ flat_map label_bytes ls) (e ∙ ap (λ (n : ℕ). start ++ length_code n) k) ∙ append_assoc start (length_code (length ls)) (flat_map label_bytes ls))

-- ---- but those of one name

pub not_true : (b : Bool) → not b ≡ true → b ≡ false
not_true true e = absurd cc
not_true false e = refl

pub one_kept : (name : List ℕ) (ls : List Label) (l : Label) → bytes_eq l.name name ≡ false → without_label name (ls ++ l ∷ []) ≡ without_label name ls ++ l ∷ []
one_kept name ls l e = filter-append (λ (m : Label). not (bytes_eq m.name name)) ls (l ∷ []) ∙ ap (λ (b : Bool). without_label name ls ++ cond (not b) (l ∷ []) []) e

pub one_left_out : (name : List ℕ) (ls : List Label) (l : Label) → bytes_eq l.name name ≡ true → without_label name (ls ++ l ∷ []) ≡ without_label name ls
one_left_out name ls l e = filter-append (λ (m : Label). not (bytes_eq m.name name)) ls (l ∷ []) ∙ (ap (λ (b : Bool). without_label name ls ++ cond (not b) (l ∷ []) []) e ∙ append-nil (without_label name ls))

-- a key of a name and labels that are texts
pub key_text : {A E : Type 0} (key : SampleKey) (r : Result A E) → IsUtf8 key.name → OnOk r (IsTextSet key.labels) → OnOk r (IsTextKey key)
key_text key (Ok u) name labels = record { name = name; labels = labels }
key_text key (Err u) name labels = tt
