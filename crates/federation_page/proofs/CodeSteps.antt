-- The code's steps over labels, readings and families.
use Rattle.std.proofs.Common.{◌≡◌, ℕ, suc, ◌<◌, ◌≤◌, Bool, true, false, not, cond, List, [], ◌∷◌, ◌++◌, map, filter, filter_map, take, drop, length, codes, get_or, Option, Some, None, refl, sym, ap, subst, ◌∙◌, All}
use Rattle.std.specs.Prelude.{if◌then◌else◌}
use Rattle.std.specs.List.{prefix_len, flat_map, AllByRecursion}
use Rattle.std.proofs.Math.Numerals.{one-add}
use Rattle.std.proofs.lemmas.List.{drop_all}
use Rattle.std.proofs.lemmas.List.Elements.{All-from_recursion, recursion_from_All}
use Rattle.label_sets.specs.declared.label.Label.{Label}
use Rattle.label_sets.specs.declared.label_set.LabelSet.{LabelSet}
use Rattle.label_sets.specs.Labels.{label_inserted, name_before}
use Rattle.label_sets.specs.Sets.{IsLabelSet}
use Rattle.label_sets.proofs.Laws.{all-filter}
use Rattle.page_model.specs.declared.format.Format.{Format}
use Rattle.page_model.specs.declared.format.Format.TheVariants.{OpenMetrics}
use Rattle.page_model.specs.declared.format.Treatment.TheVariants.{Scraped}
use Rattle.page_model.specs.declared.page.Reading.{Reading}
use Rattle.page_model.specs.declared.page.Family.{Family}
use Rattle.page_model.specs.declared.event.Shown.{Shown}
use Rattle.page_model.specs.Readings.{key_name}
use Rattle.open_writing.specs.Forms.{IsFormedReading, IsFormedFamily}
use Rattle.federation_page.specs.Candidates.{AreFreeLabels, HasNames, with_target, federated_kind, federated_name, federated_reading, reading_under, named_candidate, renamed_family, candidate_of, candidates_of, stays, is_left_out}
use Rattle.federation_page.specs.Conflicts.{with_candidates}
use Rattle.federation_page.proofs.FederatedNames.{keeps_name}
use Rattle.federation_page.proofs.Keeping.{drop_here}
use Rattle.federation_page.proofs.TargetLabels.{target_set}

-- ---- labels

-- a label put among others stands behind those at the front that it does not stand before
pub inserted_split : (l : Label) (ls : List Label) → label_inserted l ls ≡ take (prefix_len (λ label. not (name_before l.name label.name)) ls) ls ++ l ∷ drop (prefix_len (λ label. not (name_before l.name label.name)) ls) ls
inserted_split l [] = refl
inserted_split l (m ∷ ms) = by (name_before l.name m.name) refl (inserted_split l ms)
  where
    by : (b : Bool) → name_before l.name m.name ≡ b → label_inserted l ms ≡ take (prefix_len (λ label. not (name_before l.name label.name)) ms) ms ++ l ∷ drop (prefix_len (λ label. not (name_before l.name label.name)) ms) ms
        → label_inserted l (m ∷ ms) ≡ take (prefix_len (λ label. not (name_before l.name label.name)) (m ∷ ms)) (m ∷ ms) ++ l ∷ drop (prefix_len (λ label. not (name_before l.name label.name)) (m ∷ ms)) (m ∷ ms)
    by true e ih = rw e refl
    by false e ih = rw (e, one-add) (ap (λ ns. m ∷ ns) ih)

pub labels_of_target : (s : Shown) (ls : LabelSet) → HasNames s → AreFreeLabels ls → IsLabelSet (with_target s.job s.instance ls)
labels_of_target s ls names free = target_set s.job s.instance ls names.job names.instance free.set free.own

-- ---- readings

-- the first that passes
pub found_first : {A : Type 0} (p : A → Bool) (xs : List A) (i : ℕ) (x : A) → i < length xs → x ≡ get_or xs i x → p x ≡ true → filter p (drop i xs) ≡ filter p xs → (rest : List A) × (filter p xs ≡ x ∷ rest)
found_first p xs i x h e t same =
    (filter p (drop (suc i) xs), sym same ∙ ap (filter p) (drop_here xs i x h e) ∙ ap (λ b. cond b (x ∷ filter p (drop (suc i) xs)) (filter p (drop (suc i) xs))) t)

all_free : (form : Format) (f : Family) (rs : List Reading) → AllByRecursion (IsFormedReading form Scraped f.kind f.name f.unit) rs → AllByRecursion (λ (r : Reading). AreFreeLabels r.key.labels) rs
all_free form f [] h = tt
all_free form f (r ∷ rs) h = (record { set = h.0.label_set; own = h.0.own_labels }, all_free form f rs h.1)

pub free_readings : (form : Format) (f : Family) → IsFormedFamily form Scraped f → All (λ (r : Reading). AreFreeLabels r.key.labels) f.readings
free_readings form f formed = All-from_recursion (λ (r : Reading). AreFreeLabels r.key.labels) f.readings (all_free form f f.readings (recursion_from_All (IsFormedReading form Scraped f.kind f.name f.unit) f.readings formed.readings))

-- ---- candidates

pub none_left_out : (s : Shown) (f : Family) → is_left_out f.kind f.name ≡ true → ◌≡◌ {A = Option Family} None (candidate_of s f)
unfolding candidate_of
none_left_out s f h = sym (ap (λ (b : Bool). if b then None else renamed_family s f (filter (stays f.kind) f.readings)) h)

pub none_stays : (s : Shown) (f : Family) → is_left_out f.kind f.name ≡ false → filter (stays f.kind) f.readings ≡ [] → ◌≡◌ {A = Option Family} None (candidate_of s f)
unfolding candidate_of
none_stays s f h e = sym (ap (λ (b : Bool). if b then None else renamed_family s f (filter (stays f.kind) f.readings)) h ∙ ap (renamed_family s f) e)

pub candidate_made : (s : Shown) (form : Format) (f : Family) (first : Reading) (rest : List Reading) → IsFormedFamily form Scraped f → is_left_out f.kind f.name ≡ false → filter (stays f.kind) f.readings ≡ first ∷ rest
    → ◌≡◌ {A = Option Family} (Some (named_candidate s first.key.name f)) (candidate_of s f)
unfolding candidate_of federated_reading
candidate_made s form f first rest formed out e =
    let kind = federated_kind f.kind first.key.name in
    let name = federated_name f.kind first.key.name in
    let own : first.key.name ≡ key_name form f.kind f.name =
    ap (λ k. k.name) (subst (AllByRecursion (IsFormedReading form Scraped f.kind f.name f.unit)) e
    (all-filter (IsFormedReading form Scraped f.kind f.name f.unit) (stays f.kind) f.readings (recursion_from_All (IsFormedReading form Scraped f.kind f.name f.unit) f.readings formed.readings))).0.key in
    let keeps : key_name OpenMetrics kind name ≡ first.key.name =
    subst (λ key. key_name OpenMetrics (federated_kind f.kind key) (federated_name f.kind key) ≡ key) (sym own) (keeps_name form f.kind f.name formed.name formed.kind) in
    ap (λ rs. Some (record { name = name; kind = kind; help = f.help; unit = f.unit; readings = map (reading_under s first.key.name kind) rs })) e
    ∙ ap (λ key. Some (record { name = name; kind = kind; help = f.help; unit = f.unit; readings = map (reading_under s key kind) (first ∷ rest) })) (sym keeps)
    ∙ sym (ap (λ (b : Bool). if b then None else renamed_family s f (filter (stays f.kind) f.readings)) out ∙ ap (renamed_family s f) e)

-- ---- at the end of a loop

pub all_taken : (s : Shown) (fs gs : List Family) (families : List Family) (i : ℕ) → length families ≤ i → with_candidates fs (filter_map (candidate_of s) (drop i families)) ≡ with_candidates gs (filter_map (candidate_of s) families)
    → families ≡ s.page.families → fs ≡ with_candidates gs (candidates_of s)
unfolding candidates_of
all_taken s fs gs families i le h whole = sym (ap (λ rest. with_candidates fs (filter_map (candidate_of s) rest)) (drop_all i families le)) ∙ h ∙ ap (λ all. with_candidates gs (filter_map (candidate_of s) all)) whole

pub all_targets_taken : (fs gs : List Family) (shown : List Shown) (i : ℕ) → length shown ≤ i → with_candidates fs (flat_map candidates_of (drop i shown)) ≡ with_candidates gs (flat_map candidates_of shown) → fs ≡ with_candidates gs (flat_map candidates_of shown)
all_targets_taken fs gs shown i le h = sym (ap (λ rest. with_candidates fs (flat_map candidates_of rest)) (drop_all i shown le)) ∙ h

-- ---- labels of a target, made

pub inserted_at : (l : Label) (ls : List Label) (place : ℕ) → place ≡ prefix_len (λ label. not (name_before l.name label.name)) ls → take place ls ++ l ∷ drop place ls ≡ label_inserted l ls
inserted_at l ls place e = ap (λ (n : ℕ). take n ls ++ l ∷ drop n ls) e ∙ sym (inserted_split l ls)

pub target_made : (job instance : List ℕ) (ls all first both : List Label) → all ≡ ls → first ≡ label_inserted (record { name = codes "job"; value = job }) all
    → both ≡ label_inserted (record { name = codes "instance"; value = instance }) first → both ≡ with_target job instance ls
unfolding with_target
target_made job instance ls all first both whole one two =
    two ∙ ap (label_inserted (record { name = codes "instance"; value = instance })) (one ∙ ap (label_inserted (record { name = codes "job"; value = job })) whole)
