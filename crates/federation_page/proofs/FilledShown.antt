-- Families that have no reading are nothing on the federation page.
use Rattle.std.proofs.Common.{◌≡◌, ℕ, Bool, true, false, cond, List, [], ◌∷◌, ◌++◌, map, filter, filter_map, Option, Some, None, refl, sym, ap, ◌∙◌}
use Rattle.std.specs.List.{cons_option, flat_map}
use Rattle.label_sets.specs.declared.kind.Kind.{Kind}
use Rattle.page_model.specs.declared.page.Reading.{Reading}
use Rattle.page_model.specs.declared.page.Family.{Family}
use Rattle.page_model.specs.declared.event.Shown.{Shown}
use Rattle.page_model.specs.Presence.{has_readings, filled_families}
use Rattle.page_model.proofs.Laws.{no_readings}
use Rattle.open_writing.specs.Writing.{page_with}
use Rattle.federation_page.specs.Candidates.{federated_kind, federated_name, federated_reading, renamed_family, candidate_of, candidates_of, stays, is_left_out}
use Rattle.federation_page.specs.Gathering.{gathered_families, federated_page}
use Rattle.federation_page.specs.Laws.{with_filled_page, FilledGatherTheSame}

-- ---- one family, of whose target the names count

reading_same : (s : Shown) (kind : Kind) (family : List ℕ) (r : Reading) → federated_reading (with_filled_page s) kind family r ≡ federated_reading s kind family r
unfolding federated_reading
reading_same s kind family r = refl

renamed_same : (s : Shown) (f : Family) (rs : List Reading) → renamed_family (with_filled_page s) f rs ≡ renamed_family s f rs
renamed_same s f [] = refl
renamed_same s f (r ∷ rs) =
    let kind : Kind = federated_kind f.kind r.key.name in
    let name : List ℕ = federated_name f.kind r.key.name in
    λ i. Some (record { name = name; kind = kind; help = f.help; unit = f.unit; readings = map (λ (q : Reading). reading_same s kind name q i) (r ∷ rs) })

candidate_same : (s : Shown) (f : Family) → candidate_of (with_filled_page s) f ≡ candidate_of s f
unfolding candidate_of
candidate_same s f = ap (λ (o : Option Family). cond (is_left_out f.kind f.name) None o) (renamed_same s f (filter (stays f.kind) f.readings))

-- one without readings would not stand on the page
no_candidate : (s : Shown) (f : Family) → f.readings ≡ [] → candidate_of s f ≡ None
unfolding candidate_of
no_candidate s f none = ap (λ (rs : List Reading). cond (is_left_out f.kind f.name) None (renamed_family s f (filter (stays f.kind) rs))) none ∙ neither (is_left_out f.kind f.name)
  where
    neither : (b : Bool) → ◌≡◌ {A = Option Family} (cond b None None) None
    neither true = refl
    neither false = refl

-- ---- all families

families_same : (s : Shown) (fs : List Family) → filter_map (candidate_of (with_filled_page s)) (filled_families fs) ≡ filter_map (candidate_of s) fs
families_same s [] = refl
families_same s (f ∷ fs) = go (has_readings f) refl (families_same s fs)
  where
    go : (b : Bool) → has_readings f ≡ b → filter_map (candidate_of (with_filled_page s)) (filled_families fs) ≡ filter_map (candidate_of s) fs
        → filter_map (candidate_of (with_filled_page s)) (cond b (f ∷ filled_families fs) (filled_families fs)) ≡ cons_option (candidate_of s f) (filter_map (candidate_of s) fs)
    go true e ih = λ i. cons_option (candidate_same s f i) (ih i)
    go false e ih = ih ∙ ap (λ (o : Option Family). cons_option o (filter_map (candidate_of s) fs)) (sym (no_candidate s f (no_readings f.readings e)))

candidates_same : (s : Shown) → candidates_of (with_filled_page s) ≡ candidates_of s
unfolding candidates_of
candidates_same s = families_same s s.page.families

-- ---- all targets

shown_same : (shown : List Shown) → flat_map candidates_of (map with_filled_page shown) ≡ flat_map candidates_of shown
shown_same [] = refl
shown_same (s ∷ shown) =
    ap (λ (fs : List Family). fs ++ flat_map candidates_of (map with_filled_page shown)) (candidates_same s) ∙ ap (λ (fs : List Family). candidates_of s ++ fs) (shown_same shown)

pub filled_gathered : FilledGatherTheSame
unfolding federated_page
filled_gathered shown = ap (λ (candidates : List Family). page_with (gathered_families candidates)) (shown_same shown)
