-- A group that begins: its labels are those of no other.
use Rattle.std.proofs.Common.{◌≡◌, ℕ, zero, suc, ◌+◌, ◌<◌, Bool, true, false, not, cond, ◌&&◌, ◌||◌, List, [], ◌∷◌, ◌++◌, length, take, slice_get, get_or, Some, None, refl, sym, ap, ◌∙◌, arith}
use Rattle.std.specs.List.{list_any, list_all, zip, IsDistinct}
use Rattle.std.specs.Prelude.{nat_lt}
use Rattle.std.proofs.lemmas.List.{take_more}
use Rattle.label_sets.specs.declared.label_set.LabelSet.{LabelSet}
use Rattle.label_sets.specs.declared.kind.Kind.{Kind}
use Rattle.label_sets.specs.Labels.{label_sets_eq}
use Rattle.label_sets.proofs.Laws.{sets_decide}
use Rattle.packed_keys.specs.Packing.{with_set}
use Rattle.sample_groups.specs.declared.added.Added.{Added}
use Rattle.sample_groups.specs.Members.{Member}
use Rattle.sample_groups.specs.declared.part.Part.{Part}
use Rattle.sample_groups.specs.declared.part.Part.TheVariants as parts
use Rattle.sample_groups.specs.Beside.{AreBeside}
use Rattle.sample_groups.specs.Groups.{Gathered, empty_group, group_of_parts, with_one, or_empty, known_group, put_group, with_part, breaks_order, is_overtaken, is_whole_group, shared_labels, AddsPart}
use Rattle.sample_groups.proofs.BesideLaws.{zip-snoc, suc_same, first_apart_from, distinct_rest, beside_more}

-- ---- packing

got_at : (xs : List LabelSet) (i : ℕ) (x : LabelSet) → slice_get xs i ≡ Some x → x ≡ get_or xs i x
got_at [] i x e = absurd (let no : None ≡ Some x = e in cc)
got_at (y ∷ xs) zero x e = let same : y ≡ x = (let is : Some y ≡ Some x = e in cc) in sym same
got_at (y ∷ xs) (suc i) x e = got_at xs i x e

-- a set is none of those in front of it
fresh_at : (xs : List LabelSet) (i : ℕ) (x : LabelSet) → IsDistinct label_sets_eq xs → slice_get xs i ≡ Some x → list_any (label_sets_eq x) (take i xs) ≡ false
fresh_at [] i x d e = absurd (let no : None ≡ Some x = e in cc)
fresh_at (y ∷ ys) zero x d e = refl
fresh_at (y ∷ ys) (suc i) x d e =
    let apart : label_sets_eq x y ≡ false = first_apart_from label_sets_eq sets_decide ys i y x d e in
    let rest : list_any (label_sets_eq x) (take i ys) ≡ false = fresh_at ys i x (distinct_rest label_sets_eq sets_decide y ys d) e in
    λ j. apart j || rest j

-- one set more is packed
pub packed_more : (xs : List LabelSet) (i : ℕ) (x : LabelSet) (old new : List LabelSet) → IsDistinct label_sets_eq xs → i < length xs → slice_get xs i ≡ Some x → old ≡ take i xs → new ≡ with_set old x → new ≡ take (i + 1) xs
packed_more xs i x old new d within at before after =
    after ∙ ap (λ l. with_set l x) before ∙ ap (λ b. cond b (take i xs) (take i xs ++ x ∷ [])) (fresh_at xs i x d at)
    ∙ ap (λ y. take i xs ++ y ∷ []) (got_at xs i x at) ∙ sym (take_more xs i x within)

-- ---- a group that begins

-- the first part of a group fits
pub first_fits : (p : Part) → breaks_order empty_group p ≡ false
unfolding group_of_parts
first_fits (parts.Bucket b) = refl
first_fits _ = refl

-- labels of no group are none of those of the groups
pub unknown_labels : (ss : List LabelSet) (gs : List Gathered) (labels : LabelSet) → length ss ≡ length gs → known_group (zip ss gs) labels ≡ None → list_any (label_sets_eq labels) ss ≡ false
unknown_labels [] gs labels e h = refl
unknown_labels (s ∷ ss) [] labels e h = absurd (omega arith)
unknown_labels (s ∷ ss) (g ∷ gs) labels e h = by (label_sets_eq labels s) h (unknown_labels ss gs labels (suc_same (length ss) (length gs) e))
  where
    by : (b : Bool) → cond b (Some g) (known_group (zip ss gs) labels) ≡ None → (known_group (zip ss gs) labels ≡ None → list_any (label_sets_eq labels) ss ≡ false) → (b || list_any (label_sets_eq labels) ss) ≡ false
    by true h more = absurd (let no : Some g ≡ None = h in cc)
    by false h more = more h

-- a group of such labels is put behind the others
put_unknown : (es : List (LabelSet × Gathered)) (labels : LabelSet) (g : Gathered) → known_group es labels ≡ None → put_group es labels g ≡ es ++ (labels, g) ∷ []
put_unknown [] labels g h = refl
put_unknown (e ∷ es) labels g h = by (label_sets_eq labels e.0) h (put_unknown es labels g)
  where
    by : (b : Bool) → cond b (Some e.1) (known_group es labels) ≡ None → (known_group es labels ≡ None → put_group es labels g ≡ es ++ (labels, g) ∷ []) → cond b ((e.0, g) ∷ es) (e ∷ put_group es labels g) ≡ e ∷ (es ++ (labels, g) ∷ [])
    by true h more = absurd (let no : Some e.1 ≡ None = h in cc)
    by false h more = ap (λ l. e ∷ l) (more h)

-- and then they are the groups with its first member
pub begun : (old new : List (LabelSet × Gathered)) (labels : LabelSet) (g : Gathered) (member : Member) → known_group old labels ≡ None → new ≡ old ++ (labels, g) ∷ [] → g ≡ with_one empty_group member → new ≡ with_part old labels member
unfolding with_part
begun old new labels g member unknown more first = more ∙ sym (put_unknown old labels g unknown) ∙ ap (put_group old labels) (first ∙ ap (λ k. with_one (or_empty k) member) (sym unknown))

-- labels and group are put behind those of the others
pub pushed : (ss after : List LabelSet) (gs grown : List Gathered) (old : List (LabelSet × Gathered)) (labels : LabelSet) (g : Gathered) → zip ss gs ≡ old → length ss ≡ length gs
    → after ≡ ss ++ labels ∷ [] → grown ≡ gs ++ g ∷ [] → zip after grown ≡ old ++ (labels, g) ∷ []
pushed ss after gs grown old labels g is many sets groups = (λ i. zip (sets i) (groups i)) ∙ zip-snoc ss gs labels g many ∙ ap (λ l. l ++ (labels, g) ∷ []) is

-- each group still stands beside its labels
pub pushed_beside : (ss after : List LabelSet) (gs grown : List Gathered) (old : List (LabelSet × Gathered)) (labels : LabelSet) (g : Gathered) → AreBeside label_sets_eq ss gs → zip ss gs ≡ old → known_group old labels ≡ None
    → after ≡ ss ++ labels ∷ [] → grown ≡ gs ++ g ∷ [] → AreBeside label_sets_eq after grown
pushed_beside ss after gs grown old labels g b is new sets groups =
    let fresh : list_any (label_sets_eq labels) ss ≡ false = unknown_labels ss gs labels b.many (ap (λ l. known_group l labels) is ∙ new) in
    rw (sets, groups) (beside_more label_sets_eq sets_decide ss gs labels g b fresh)

-- the labels of the last group
pub last_labels : (ss : List LabelSet) (labels : LabelSet) → slice_get (ss ++ labels ∷ []) (length ss) ≡ Some labels
last_labels [] labels = refl
last_labels (s ∷ ss) labels = last_labels ss labels

-- a group that has not begun is not overtaken
unknown_overtaken : (es : List (LabelSet × Gathered)) (labels : LabelSet) → known_group es labels ≡ None → is_overtaken es labels ≡ false
unknown_overtaken [] labels h = refl
unknown_overtaken (e ∷ es) labels h = by (label_sets_eq labels e.0) h (unknown_overtaken es labels)
  where
    by : (b : Bool) → cond b (Some e.1) (known_group es labels) ≡ None → (known_group es labels ≡ None → is_overtaken es labels ≡ false) → cond b (nat_lt 0 (length es)) (is_overtaken es labels) ≡ false
    by true h more = absurd (let no : Some e.1 ≡ None = h in cc)
    by false h more = more h

-- its part fits
pub adds_new : (kind : Kind) (labels : LabelSet) (member : Member) (shared : LabelSet) (old new : List (LabelSet × Gathered)) → shared ≡ shared_labels kind labels → known_group old (shared_labels kind labels) ≡ None → new ≡ with_part old shared member
    → AddsPart kind labels member old new (record { fits = true; overtaken = false })
adds_new kind labels member shared old new own unknown is = record {
  answer = ap not (sym (first_fits member.part)) ∙ ap (λ k. not (breaks_order (or_empty k) member.part)) (sym unknown);
  overtaken = sym (unknown_overtaken old (shared_labels kind labels) unknown);
  grown = λ e. is ∙ ap (λ l. with_part old l member) own;
}

-- ---- a family's only group

-- nothing stands behind it
pub only_overtaken : (labels first : LabelSet) (g : Gathered) → false ≡ is_overtaken ((first, g) ∷ []) labels
only_overtaken labels first g = by (label_sets_eq labels first)
  where
    by : (b : Bool) → false ≡ cond b (nat_lt 0 0) false
    by true = refl
    by false = refl

-- a member is added to it
pub adds_own : (kind : Kind) (labels : LabelSet) (member : Member) (only : LabelSet) (g : Gathered) (added : Added) (grown : Gathered) → label_sets_eq (shared_labels kind labels) only ≡ true → added.fits ≡ not (breaks_order g member.part)
    → added.overtaken ≡ false → (added.fits ≡ true → grown ≡ with_one g member) → AddsPart kind labels member ((only, g) ∷ []) ((only, grown) ∷ []) added
unfolding with_part
adds_own kind labels member only g added grown own answer back more =
    let shared = shared_labels kind labels in
    let known : g ≡ or_empty (known_group ((only, g) ∷ []) shared) = ap (λ b. or_empty (cond b (Some g) None)) (sym own) in
    let after = with_one (or_empty (known_group ((only, g) ∷ []) shared)) member in record {
      answer = answer ∙ ap (λ h. not (breaks_order h member.part)) known;
      overtaken = back ∙ only_overtaken shared only g;
      grown = λ e. ap (λ h. (only, h) ∷ []) (more e ∙ ap (λ h. with_one h member) known) ∙ ap (λ b. cond b ((only, after) ∷ []) ((only, g) ∷ (shared, after) ∷ [])) (sym own);
    }

-- it tells whether all groups are whole
pub only_whole : (labels : LabelSet) (g : Gathered) → is_whole_group g ≡ list_all (λ (e : LabelSet × Gathered). is_whole_group e.1) ((labels, g) ∷ [])
only_whole labels g = by (is_whole_group g)
  where
    by : (b : Bool) → b ≡ (b && true)
    by true = refl
    by false = refl
