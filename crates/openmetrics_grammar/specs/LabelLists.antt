-- Labels that are taken from a list one after the other.
-- OpenMetrics 1.0, "ABNF" (labels).
use Rattle.std.specs.Prelude.{◌≡◌, ℕ, List, [], ◌∷◌, ◌++◌, length, Option, Some, None, IsUtf8}
use Rattle.std.specs.Option.{option_or}
use Rattle.label_sets.specs.declared.label.Label.{Label}
use Rattle.label_sets.specs.Lists.{◌>>=◌, behind}
use Rattle.line_scan.specs.declared.labels.AfterLabel.{AfterLabel}
use Rattle.line_scan.specs.declared.labels.AfterLabel.TheVariants.{End, More, Broken}
use Rattle.page_model.specs.OpenReading.{label_at, more_labels_at}

-- the label at the front was added, and this stands behind it
pub record IsTaken (bytes : List ℕ) (before after : List Label) (rest : List ℕ) : Type 0 where
  pub label : Label
  pub found : label_at bytes ≡ Some (label, rest)
  pub added : after ≡ before ++ label ∷ []
  pub utf8_rest : IsUtf8 rest

-- the label behind a comma was added and the list goes on behind it, or there is none
abbrev pub IsBehindComma : List ℕ → List Label → List Label → AfterLabel → Type 0
IsBehindComma bytes before after (End rest) = ⊥
IsBehindComma bytes before after (More rest) = IsTaken bytes before after rest.now
IsBehindComma bytes before after Broken = label_at bytes ≡ None

-- the labels behind an opening brace, and what stands behind the closing one
unfoldable pub braced_at : List ℕ → Option (List Label × List ℕ)
braced_at inner = option_or (behind (125 ∷ []) inner >>= λ rest. Some ([], rest))
    (label_at inner >>= λ x. more_labels_at (length inner) x.1 >>= λ y. Some (x.0 ∷ y.0, y.1))
