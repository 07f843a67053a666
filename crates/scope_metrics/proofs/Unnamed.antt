-- Readings that name no scope.
use Rattle.std.proofs.Common.{◌≡◌, ℕ, true, false, ◌&&◌, List, [], ◌∷◌, Option, Some, None, is_none, refl}
use Rattle.std.specs.Prelude.{All}
use Rattle.std.specs.List.{AllByRecursion}
use Rattle.std.proofs.lemmas.Bool.{and_parts}
use Rattle.std.proofs.lemmas.List.Elements.{All-from_recursion}
use Rattle.page_model.specs.declared.page.Reading.{Reading}
use Rattle.page_model.specs.declared.page.Family.{Family}
use Rattle.family_metrics.specs.declared.markers.Marker.{Marker}
use Rattle.family_metrics.specs.Scopes.{scope_name}
use Rattle.family_metrics.specs.Points.{MayBeScoped, MayAllBeScoped}
use Rattle.scope_metrics.specs.Laws.{names_none, readings_name_none, families_name_none, markers_name_none}

nothing : (o : Option (List ℕ)) → is_none o ≡ true → o ≡ None
nothing None h = refl
nothing (Some name) h = absurd (let no : false ≡ true = h in cc)

of_readings : (rs : List Reading) → readings_name_none rs ≡ true → AllByRecursion (λ (r : Reading). MayBeScoped false r.key.labels) rs
of_readings [] h = tt
of_readings (r ∷ rs) h =
    let both = and_parts (names_none r.key.labels) (readings_name_none rs) h in
    (λ e. nothing (scope_name r.key.labels) both.0, of_readings rs both.1)

of_families : (fs : List Family) → families_name_none fs ≡ true → AllByRecursion (λ (f : Family). MayAllBeScoped false f.readings) fs
of_families [] h = tt
of_families (f ∷ fs) h =
    let both = and_parts (readings_name_none f.readings) (families_name_none fs) h in
    (All-from_recursion (λ (r : Reading). MayBeScoped false r.key.labels) f.readings (of_readings f.readings both.0), of_families fs both.1)

-- where neither readings nor markers name a scope, the readings do not
pub none_named : (fs : List Family) (ms : List Marker)
    → (families_name_none fs && markers_name_none ms) ≡ true
    → All (λ (f : Family). MayAllBeScoped false f.readings) fs
none_named fs ms none =
    let both = and_parts (families_name_none fs) (markers_name_none ms) none in
    All-from_recursion (λ (f : Family). MayAllBeScoped false f.readings) fs (of_families fs both.0)

-- readings that may name scopes
pub all_may : (fs : List Family) → All (λ (f : Family). MayAllBeScoped true f.readings) fs
all_may fs = λ k d within j e inside no. absurd cc
