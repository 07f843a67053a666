-- What the code keeps of the families of the page so far.
-- The bridge's own.
use Rattle.std.specs.Prelude.{◌≡◌, ℕ, Bool, ◌||◌, List, map}
use Rattle.std.specs.List.{list_any, flat_map}
use Rattle.std.specs.Str.{bytes_eq}
use Rattle.page_model.specs.declared.page.Family.{Family}
use Rattle.open_writing.specs.FamilyKeys.{family_key, sample_names, AreApart}
use Rattle.federation_page.specs.declared.conflicts.Founders.{Founders}

-- the name is one of these
abbrev pub is_name_among : List (List ℕ) → List ℕ → Bool
is_name_among names name = list_any (bytes_eq name) names

-- the names of both lists
abbrev pub AreNamesOfBoth : List (List ℕ) → List (List ℕ) → List (List ℕ) → Type 0
AreNamesOfBoth some more all = (name : List ℕ) → is_name_among all name ≡ (is_name_among some name || is_name_among more name)

-- the sample names that these families allow
abbrev pub all_sample_names : List Family → List (List ℕ)
all_sample_names fs = flat_map (λ f. sample_names (family_key f)) fs

-- no two families clash; their names stand in their order, and those of their samples in any order
pub record AreFounders (f : Founders) : Type 0 where
  pub names : f.names ≡ map (λ (g : Family). g.name) f.families.items
  pub sample_names : (name : List ℕ) → is_name_among f.sample_names name ≡ is_name_among (all_sample_names f.families.items) name
  pub apart : AreApart f.families.items
