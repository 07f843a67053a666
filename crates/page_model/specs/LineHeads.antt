-- The head of a sample line: its name and its labels, as far as what is written of it depends on no value.
-- Prometheus text format 0.0.4, "Line format"; OpenMetrics 1.0, "ABNF" (sample).
use Rattle.std.specs.Prelude.{◌≡◌, ℕ, Bool, true, false, not, ◌&&◌, ◌==◌, List, [], ◌∷◌, ◌++◌, Option, Some, take_while}
use Rattle.label_sets.specs.declared.label.Label.{Label}
use Rattle.label_sets.specs.Lists.{◌>>=◌, when_true, rest_while}
use Rattle.label_sets.specs.Names.{is_metric_name, is_metric_char, is_blank}
use Rattle.page_model.specs.declared.format.Format.{Format}
use Rattle.page_model.specs.declared.format.Format.TheVariants.{Text, OpenMetrics}
use Rattle.page_model.specs.TextReading.{middle_at}
use Rattle.page_model.specs.OpenReading.{optional_list_at}

-- a name and labels as a line has them, and what stands behind them
pub record LineHead : Type 0 where
  pub name : List ℕ
  pub labels : List Label
  pub rest : List ℕ

-- the labels behind a name, and what stands behind them
abbrev pub labels_behind : Format → List ℕ → Option (List Label × List ℕ)
labels_behind Text cs = middle_at cs
labels_behind OpenMetrics cs = optional_list_at cs

-- the head of a sample line
unfoldable pub head_of : Format → List ℕ → Option LineHead
head_of f cs =
    let name = take_while is_metric_char cs in
    do
      _ ← when_true (is_metric_name name) name
      labels ← labels_behind f (rest_while is_metric_char cs)
      Some (record { name = name; labels = labels.0; rest = labels.1 })

-- this may follow a head: in the text format what begins with neither a blank nor a brace, in OpenMetrics with a space
abbrev pub follows_head : Format → List ℕ → Bool
follows_head f [] = false
follows_head Text (c ∷ cs) = not (is_blank c) && not (c == 123)
follows_head OpenMetrics (c ∷ cs) = c == 32

-- a front of sample lines: whatever may follow it, the head is this name with these labels
abbrev pub IsFront : Format → List ℕ → List ℕ → List Label → Type 0
IsFront f front name labels = (rest : List ℕ) → follows_head f rest ≡ true → head_of f (front ++ rest) ≡ Some (record { name = name; labels = labels; rest = rest })

-- the name is cut off at the first byte that no name has; the bytes in front of what stands behind the head are such a front, and begin with it
pub record HasFront (f : Format) (cs : List ℕ) (head : LineHead) : Type 0 where
  pub cut : head.name ≡ take_while is_metric_char cs
  pub front : List ℕ
  pub middle : List ℕ
  pub begins : front ≡ head.name ++ middle
  pub whole : cs ≡ front ++ head.rest
  pub stays : IsFront f front head.name head.labels
