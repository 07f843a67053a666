-- A metric's name, kind and unit as bytes: no two have the same.
use Rattle.std.proofs.Common.{◌≡◌, ℕ, ◌&&◌, List, [], ◌∷◌, ◌++◌, map, get_or, set, refl, ap, ◌∙◌}
use Rattle.std.specs.List.{flat_map}
use Rattle.std.specs.Str.{bytes_eq}
use Rattle.std.specs.Cmp.Lexicographic.{bytes_decides}
use Rattle.std.proofs.Math.Seq.{map-set_same}
use Rattle.std.proofs.lemmas.Bool.Decides.{Decides-eqb}
use Rattle.std.proofs.lemmas.Bool.{and_parts, and_from}
use Rattle.label_sets.specs.declared.kind.Kind.{Kind}
use Rattle.label_sets.specs.declared.series_key.SeriesKey.{SeriesKey}
use Rattle.label_sets.specs.Keys.{kind_place, kind_eq, identity_eq}
use Rattle.label_sets.proofs.Laws.{same_tests}
use Rattle.otlp_tree.specs.declared.tree.Metric.{Metric}
use Rattle.family_metrics.specs.Markers.{is_of_metric}
use Rattle.family_metrics.specs.MarkerGroups.{GroupedMarkers, identity_bytes, key_identity, group_identity}

-- the groups with another one in place, of the same series
pub identities_set : (groups : List GroupedMarkers) (at : ℕ) (g d : GroupedMarkers) → g.first ≡ (get_or groups at d).first → map group_identity (set groups at g) ≡ map group_identity groups
identities_set groups at g d e = map-set_same group_identity groups at g d (ap key_identity e)

-- ---- names, kinds and units are told back

marked : List ℕ → List ℕ → List ℕ
marked name rest = flat_map (λ (b : ℕ). 1 ∷ b ∷ []) name ++ rest

record Told (name other : List ℕ) (k l : ℕ) (unit measure : List ℕ) : Type 0 where
  name_is : name ≡ other
  kind_is : k ≡ l
  unit_is : unit ≡ measure

told : (name other : List ℕ) (k l : ℕ) (unit measure : List ℕ) → marked name (0 ∷ k ∷ unit) ≡ marked other (0 ∷ l ∷ measure) → Told name other k l unit measure
unfolding marked
told [] [] k l unit measure e = record { name_is = refl; kind_is = cc; unit_is = cc }
told [] (c ∷ other) k l unit measure e = absurd cc
told (b ∷ name) [] k l unit measure e = absurd cc
told (b ∷ name) (c ∷ other) k l unit measure e =
    let rest : marked name (0 ∷ k ∷ unit) ≡ marked other (0 ∷ l ∷ measure) = cc in
    let first : b ≡ c = cc in
    let t = told name other k l unit measure rest in
    record { name_is = ap (λ x. x ∷ name) first ∙ ap (λ xs. c ∷ xs) t.name_is; kind_is = t.kind_is; unit_is = t.unit_is }

-- names, kinds and units are equal just where their bytes are
pub by_bytes : (name other : List ℕ) (k l : Kind) (unit measure : List ℕ) → (bytes_eq name other && kind_eq k l && bytes_eq unit measure) ≡ bytes_eq (identity_bytes name k unit) (identity_bytes other l measure)
unfolding identity_bytes marked
by_bytes name other k l unit measure = same_tests (bytes_eq name other && kind_eq k l && bytes_eq unit measure) (bytes_eq (identity_bytes name k unit) (identity_bytes other l measure))
    (λ e. let all = and_parts (bytes_eq name other && kind_eq k l) (bytes_eq unit measure) e in
    let two = and_parts (bytes_eq name other) (kind_eq k l) all.0 in
    (bytes_decides (identity_bytes name k unit) (identity_bytes other l measure)).1
    (λ i. flat_map (λ (b : ℕ). 1 ∷ b ∷ []) ((bytes_decides name other).0 two.0 i) ++ (0 ∷ (Decides-eqb (kind_place k) (kind_place l)).0 two.1 i ∷ (bytes_decides unit measure).0 all.1 i)))
    (λ e. let t = told name other (kind_place k) (kind_place l) unit measure ((bytes_decides (identity_bytes name k unit) (identity_bytes other l measure)).0 e) in
    and_from (bytes_eq name other && kind_eq k l) (bytes_eq unit measure)
    (and_from (bytes_eq name other) (kind_eq k l) ((bytes_decides name other).1 t.name_is) ((Decides-eqb (kind_place k) (kind_place l)).1 t.kind_is)) ((bytes_decides unit measure).1 t.unit_is))

pub keys_by_bytes : (a b : SeriesKey) → identity_eq a b ≡ bytes_eq (key_identity a) (key_identity b)
keys_by_bytes a b = by_bytes a.name b.name a.kind b.kind a.unit b.unit

pub metric_by_bytes : (kind : Kind) (m : Metric) (key : SeriesKey) → is_of_metric kind m key ≡ bytes_eq (identity_bytes m.name kind m.unit) (key_identity key)
metric_by_bytes kind m key = by_bytes m.name key.name kind key.kind m.unit key.unit
