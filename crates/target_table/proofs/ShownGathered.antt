-- What is not shown of a page is nothing on the federation page.
use Rattle.std.proofs.Common.{◌≡◌, ℕ, Bool, true, false, cond, List, [], ◌∷◌, ◌++◌, map, filter, filter_map, Option, Some, None, refl, ap, ◌∙◌}
use Rattle.std.specs.List.{cons_option, flat_map}
use Rattle.label_sets.specs.declared.kind.Kind.{Kind}
use Rattle.label_sets.specs.declared.kind.Kind.TheVariants.{Counter, Gauge, Histogram, GaugeHistogram, StateSet, Info, Summary, Unknown}
use Rattle.page_model.specs.declared.page.Reading.{Reading}
use Rattle.page_model.specs.declared.page.Family.{Family}
use Rattle.page_model.specs.declared.event.Shown.{Shown}
use Rattle.target_pages.specs.Thinned.{bare_of_exemplars, bare_family, without_exemplars}
use Rattle.federation_page.specs.Candidates.{is_left_out, stays, federated_kind, federated_name, federated_reading, renamed_family, candidate_of, candidates_of}
use Rattle.federation_page.specs.Gathering.{federated_page}
use Rattle.federation_page.specs.Laws.{with_filled_page}
use Rattle.federation_page.proofs.Laws.{filled_gathered}
use Rattle.target_table.specs.Laws.{with_shown_page, ShownGatherTheSame}

-- the same, and of its page no exemplars
abbrev with_bare_page : Shown → Shown
with_bare_page s = record { job = s.job; instance = s.instance; moment = s.moment; page = without_exemplars s.page }

-- ---- one family

stays_same : (kind : Kind) (r : Reading) → stays kind (bare_of_exemplars r) ≡ stays kind r
unfolding stays
stays_same Counter r = refl
stays_same Gauge r = refl
stays_same Unknown r = refl
stays_same Histogram r = refl
stays_same GaugeHistogram r = refl
stays_same Summary r = refl
stays_same StateSet r = refl
stays_same Info r = refl

bare_stay : (kind : Kind) (rs : List Reading) → filter (stays kind) (map bare_of_exemplars rs) ≡ map bare_of_exemplars (filter (stays kind) rs)
bare_stay kind [] = refl
bare_stay kind (r ∷ rs) = (λ i. cond (stays_same kind r i) (bare_of_exemplars r ∷ bare_stay kind rs i) (bare_stay kind rs i)) ∙ by (stays kind r)
  where
    by : (b : Bool) → cond b (bare_of_exemplars r ∷ map bare_of_exemplars (filter (stays kind) rs)) (map bare_of_exemplars (filter (stays kind) rs)) ≡ map bare_of_exemplars (cond b (r ∷ filter (stays kind) rs) (filter (stays kind) rs))
    by true = refl
    by false = refl

reading_same : (s : Shown) (kind : Kind) (family : List ℕ) (r : Reading) → federated_reading (with_bare_page s) kind family (bare_of_exemplars r) ≡ federated_reading s kind family r
unfolding federated_reading
reading_same s kind family r = refl

readings_same : (s : Shown) (kind : Kind) (family : List ℕ) (rs : List Reading) → map (federated_reading (with_bare_page s) kind family) (map bare_of_exemplars rs) ≡ map (federated_reading s kind family) rs
readings_same s kind family [] = refl
readings_same s kind family (r ∷ rs) = λ i. reading_same s kind family r i ∷ readings_same s kind family rs i

renamed_same : (s : Shown) (f : Family) (rs : List Reading) → renamed_family (with_bare_page s) (bare_family f) (map bare_of_exemplars rs) ≡ renamed_family s f rs
renamed_same s f [] = refl
renamed_same s f (r ∷ rs) =
    let kind : Kind = federated_kind f.kind r.key.name in
    let name : List ℕ = federated_name f.kind r.key.name in
    λ i. Some (record { name = name; kind = kind; help = f.help; unit = f.unit; readings = readings_same s kind name (r ∷ rs) i })

candidate_same : (s : Shown) (f : Family) → candidate_of (with_bare_page s) (bare_family f) ≡ candidate_of s f
unfolding candidate_of
candidate_same s f = ap (λ (o : Option Family). cond (is_left_out f.kind f.name) None o) (ap (renamed_family (with_bare_page s) (bare_family f)) (bare_stay f.kind f.readings) ∙ renamed_same s f (filter (stays f.kind) f.readings))

-- ---- all families

families_same : (s : Shown) (fs : List Family) → filter_map (candidate_of (with_bare_page s)) (map bare_family fs) ≡ filter_map (candidate_of s) fs
families_same s [] = refl
families_same s (f ∷ fs) = λ i. cons_option (candidate_same s f i) (families_same s fs i)

candidates_same : (s : Shown) → candidates_of (with_bare_page s) ≡ candidates_of s
unfolding candidates_of without_exemplars
candidates_same s = families_same s s.page.families

-- ---- all targets

bare_same : (shown : List Shown) → flat_map candidates_of (map with_bare_page shown) ≡ flat_map candidates_of shown
bare_same [] = refl
bare_same (s ∷ shown) =
    ap (λ (fs : List Family). fs ++ flat_map candidates_of (map with_bare_page shown)) (candidates_same s) ∙ ap (λ (fs : List Family). candidates_of s ++ fs) (bare_same shown)

bare_gathered : (shown : List Shown) → federated_page (map with_bare_page shown) ≡ federated_page shown
unfolding federated_page
bare_gathered shown = rw (bare_same shown) refl

both_taken : (shown : List Shown) → map with_shown_page shown ≡ map with_filled_page (map with_bare_page shown)
both_taken [] = refl
both_taken (s ∷ shown) = ap (λ (rest : List Shown). with_shown_page s ∷ rest) (both_taken shown)

pub shown_gathered : ShownGatherTheSame
shown_gathered shown = ap federated_page (both_taken shown) ∙ filled_gathered (map with_bare_page shown) ∙ bare_gathered shown
