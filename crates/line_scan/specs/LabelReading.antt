-- Labels that are read one after the other.
-- Prometheus text format 0.0.4, "Line format"; OpenMetrics 1.0, "ABNF" (labels).
use Rattle.std.specs.Prelude.{◌≡◌, ℕ, suc, List, [], ◌∷◌, ◌++◌, Option, Some, None, IsUtf8}
use Rattle.std.specs.List.{list_any}
use Rattle.label_sets.specs.declared.label.Label.{Label}
use Rattle.label_sets.specs.Lists.{◌>>=◌, behind}
use Rattle.label_sets.specs.Escapes.{is_backslash, quote_escape, unescaped}
use Rattle.line_scan.specs.declared.labels.LabelParts.{LabelParts}
use Rattle.line_scan.specs.declared.labels.AfterLabel.{AfterLabel}
use Rattle.line_scan.specs.declared.labels.AfterLabel.TheVariants.{End, More, Broken}

-- the label that written parts make
abbrev pub label_of : LabelParts → Label
label_of parts = record { name = parts.name.now; value = unescaped quote_escape parts.written.now }

-- the parts are those of the label that was found at the front of bytes
pub record IsLabelFound (found : Option (Label × List ℕ)) (bytes : List ℕ) (parts : LabelParts) : Type 0 where
  pub label : found ≡ Some (label_of parts, parts.rest.now)
  pub backslash : parts.has_backslash ≡ list_any is_backslash parts.written.now
  pub utf8_name : IsUtf8 parts.name.now
  pub utf8_written : IsUtf8 bytes → IsUtf8 parts.written.now
  pub utf8_rest : IsUtf8 bytes → IsUtf8 parts.rest.now

-- labels read before, in front of those that are read
abbrev pub behind_labels : List Label → Option (List Label × List ℕ) → Option (List Label × List ℕ)
behind_labels before found = found >>= λ x. Some (before ++ x.0, x.1)

-- what follows a label: the closing brace, a comma or neither
abbrev pub IsAfter : List ℕ → AfterLabel → Type 0
IsAfter bytes (End rest) = (behind (125 ∷ []) bytes ≡ Some rest.now) × (IsUtf8 bytes → IsUtf8 rest.now)
IsAfter bytes (More rest) = (behind (125 ∷ []) bytes ≡ None) × (behind (44 ∷ []) bytes ≡ Some rest.now) × (IsUtf8 bytes → IsUtf8 rest.now)
IsAfter bytes Broken = (behind (125 ∷ []) bytes ≡ None) × (behind (44 ∷ []) bytes ≡ None)

-- one step through a list: the labels are all read, go on behind those that are read, or are none
abbrev pub IsNext : (ℕ → List ℕ → Option (List Label × List ℕ)) → List ℕ → List Label → List Label → AfterLabel → Type 0
IsNext labels_at bytes before after (End rest) = IsUtf8 rest.now × ((more : ℕ) → behind_labels before (labels_at (suc more) bytes) ≡ Some (after, rest.now))
IsNext labels_at bytes before after (More rest) =
    IsUtf8 rest.now × ((more : ℕ) → behind_labels before (labels_at (suc more) bytes) ≡ behind_labels after (labels_at more rest.now))
IsNext labels_at bytes before after Broken = (more : ℕ) → labels_at (suc more) bytes ≡ None
