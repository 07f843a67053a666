-- The readings of a family's samples, where the samples of each reading stand together.
use Rattle.std.proofs.Common.{◌≡◌, ℕ, Bool, true, false, not, List, [], ◌∷◌, ◌++◌, map, filter, filter_map, Option, Some, refl, sym, ap, subst, ◌∙◌, append_assoc}
use Rattle.std.specs.Prelude.{⊤}
use Rattle.std.proofs.lemmas.List.{append-nil}
use Rattle.std.proofs.lemmas.List.Elements.{filter-append}
use Rattle.writing_laws.proofs.Among as by_key
use Rattle.writing_laws.proofs.Turned.{map-append, filter-twice}
use Rattle.std.specs.List.{flat_map, AllByRecursion, cons_option}
use Rattle.label_sets.specs.declared.kind.Kind.{Kind}
use Rattle.label_sets.specs.declared.label_set.LabelSet.{LabelSet}
use Rattle.label_sets.specs.Lists.{first_of_each}
use Rattle.label_sets.specs.Labels.{label_sets_eq}
use Rattle.page_model.specs.declared.item.Sample.{Sample}
use Rattle.page_model.specs.declared.page.Reading.{Reading}
use Rattle.page_model.specs.Written.{Setting}
use Rattle.page_model.specs.Readings.{reading_labels}
use Rattle.page_model.proofs.Laws.{label_sets_decide}

-- the samples of one reading, of which there is one at least: they share these labels
pub record Part : Type 0 where
  pub labels : LabelSet
  pub first : Sample
  pub others : List Sample

-- all samples of a part
abbrev pub samples_in : Part → List Sample
samples_in p = p.first ∷ p.others

-- all samples of parts
abbrev pub samples_of_all : List Part → List Sample
samples_of_all ps = flat_map samples_in ps

-- none of the parts has these labels
abbrev pub Apart : LabelSet → List Part → Type 0
Apart labels ps = by_key.Apart label_sets_eq label_sets_decide (λ (p : Part). p.labels) labels ps

-- no two parts have the same labels
abbrev pub Distinct : List Part → Type 0
Distinct ps = by_key.Distinct label_sets_eq label_sets_decide (λ (p : Part). p.labels) ps

-- the part that stands among others
abbrev pub IsAmong : Part → List Part → Type 0
IsAmong p ps = by_key.IsAmong label_sets_eq label_sets_decide (λ (p : Part). p.labels) p ps

itself : (a : LabelSet) → label_sets_eq a a ≡ true
itself a = (label_sets_decide a a).1 refl

module _ (st : Setting) (kind : Kind) (family : List ℕ) where
  -- the labels of a sample's reading
  abbrev pub labels_of : Sample → LabelSet
  labels_of s = reading_labels st kind family s

  -- all samples of a part share its labels
  abbrev pub Shares : Part → Type 0
  Shares p = AllByRecursion (λ s. labels_of s ≡ p.labels) (samples_in p)

  abbrev pub AllShare : List Part → Type 0
  AllShare [] = ⊤
  AllShare (p ∷ ps) = Shares p × AllShare ps

  -- ---- the labels of readings

  one_set : (l : LabelSet) (first : Sample) (others : List Sample) (rest : List LabelSet) → AllByRecursion (λ s. labels_of s ≡ l) (first ∷ others)
      → first_of_each label_sets_eq (map labels_of (first ∷ others) ++ rest) ≡ l ∷ filter (λ m. not (label_sets_eq l m)) (first_of_each label_sets_eq rest)
  one_set l first [] rest h = ap (λ m. m ∷ filter (λ n. not (label_sets_eq m n)) (first_of_each label_sets_eq rest)) h.0
  one_set l first (s ∷ others) rest h =
      ap (λ ns. labels_of first ∷ filter (λ n. not (label_sets_eq (labels_of first) n)) ns) (one_set l s others rest h.1)
      ∙ ap (λ m. m ∷ filter (λ n. not (label_sets_eq m n)) (l ∷ filter (λ n. not (label_sets_eq l n)) (first_of_each label_sets_eq rest))) h.0
      ∙ ap (λ ns. l ∷ ns) (rw (itself l) (filter-twice (λ m. not (label_sets_eq l m)) (first_of_each label_sets_eq rest)))

  -- the labels of the samples in the order of their first lines are those of the parts
  pub labels_back : (ps : List Part) → AllShare ps → Distinct ps → first_of_each label_sets_eq (map labels_of (samples_of_all ps)) ≡ map (λ (p : Part). p.labels) ps
  labels_back [] h d = refl
  labels_back (p ∷ ps) h d =
      ap (first_of_each label_sets_eq) (map-append labels_of (samples_in p) (samples_of_all ps)) ∙ one_set p.labels p.first p.others (map labels_of (samples_of_all ps)) h.0
      ∙ ap (λ ms. p.labels ∷ filter (λ m. not (label_sets_eq p.labels m)) ms) (labels_back ps h.1 d.1) ∙ ap (λ ms. p.labels ∷ ms) (by_key.apart_kept label_sets_eq label_sets_decide (λ (p : Part). p.labels) p.labels ps d.0)

  -- ---- the samples of a reading

  own_kept : (l : LabelSet) (ss : List Sample) → AllByRecursion (λ s. labels_of s ≡ l) ss → filter (λ s. label_sets_eq (labels_of s) l) ss ≡ ss
  own_kept l [] h = refl
  own_kept l (s ∷ ss) h = rw ((label_sets_decide (labels_of s) l).1 h.0) (ap (λ ts. s ∷ ts) (own_kept l ss h.1))

  others_dropped : (l m : LabelSet) (ss : List Sample) → AllByRecursion (λ s. labels_of s ≡ m) ss → label_sets_eq l m ≡ false → filter (λ s. label_sets_eq (labels_of s) l) ss ≡ []
  others_dropped l m [] h e = refl
  others_dropped l m (s ∷ ss) h e =
      let apart : label_sets_eq (labels_of s) l ≡ false = ap (λ n. label_sets_eq n l) h.0 ∙ by_key.turned label_sets_eq label_sets_decide l m e in
      rw apart (others_dropped l m ss h.1 e)

  all_dropped : (l : LabelSet) (ps : List Part) → AllShare ps → Apart l ps → filter (λ s. label_sets_eq (labels_of s) l) (samples_of_all ps) ≡ []
  all_dropped l [] h a = refl
  all_dropped l (p ∷ ps) h a = filter-append (λ s. label_sets_eq (labels_of s) l) (samples_in p) (samples_of_all ps)
      ∙ ap (λ ts. ts ++ filter (λ s. label_sets_eq (labels_of s) l) (samples_of_all ps)) (others_dropped l p.labels (samples_in p) h.0 a.0) ∙ all_dropped l ps h.1 a.1

  samples_append : (ps qs : List Part) → samples_of_all (ps ++ qs) ≡ samples_of_all ps ++ samples_of_all qs
  samples_append [] qs = refl
  samples_append (p ∷ ps) qs = ap (λ ts. samples_in p ++ ts) (samples_append ps qs) ∙ sym (append_assoc (samples_in p) (samples_of_all ps) (samples_of_all qs))

  share_front : (ps qs : List Part) → AllShare (ps ++ qs) → AllShare ps
  share_front [] qs h = tt
  share_front (p ∷ ps) qs h = (h.0, share_front ps qs h.1)

  share_behind : (ps qs : List Part) → AllShare (ps ++ qs) → AllShare qs
  share_behind [] qs h = h
  share_behind (p ∷ ps) qs h = share_behind ps qs h.1

  -- of all samples those with a part's labels are its own
  pub own_back : (p : Part) (ps : List Part) → AllShare ps → IsAmong p ps → filter (λ s. label_sets_eq (labels_of s) p.labels) (samples_of_all ps) ≡ samples_in p
  own_back p ps h among =
      let share = subst AllShare among.is h in
      let behind = share_behind among.before (p ∷ among.behind) share in
      let test : Sample → Bool = λ s. label_sets_eq (labels_of s) p.labels in
      ap (λ qs. filter test (samples_of_all qs)) among.is ∙ ap (filter test) (samples_append among.before (p ∷ among.behind))
      ∙ filter-append test (samples_of_all among.before) (samples_of_all (p ∷ among.behind))
      ∙ ap (λ ts. ts ++ filter test (samples_of_all (p ∷ among.behind))) (all_dropped p.labels among.before (share_front among.before (p ∷ among.behind) share) among.first)
      ∙ filter-append test (samples_in p) (samples_of_all among.behind)
      ∙ ap (λ ts. ts ++ filter test (samples_of_all among.behind)) (own_kept p.labels (samples_in p) behind.0)
      ∙ ap (λ ts. samples_in p ++ ts) (all_dropped p.labels among.behind behind.1 among.last) ∙ append-nil (samples_in p)

-- ---- all readings

-- each label set gives its reading
abbrev pub GiveReadings : (LabelSet → Option Reading) → List Reading → Type 0
GiveReadings make [] = ⊤
GiveReadings make (r ∷ rs) = (make r.key.labels ≡ Some r) × GiveReadings make rs

pub readings_back : (make : LabelSet → Option Reading) (rs : List Reading) → GiveReadings make rs → filter_map make (map (λ (r : Reading). r.key.labels) rs) ≡ rs
readings_back make [] h = refl
readings_back make (r ∷ rs) h = ap (λ o. cons_option o (filter_map make (map (λ (q : Reading). q.key.labels) rs))) h.0 ∙ ap (λ qs. r ∷ qs) (readings_back make rs h.1)
