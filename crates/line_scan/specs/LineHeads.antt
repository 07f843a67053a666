-- The head of a sample line as it is cut off, and the room that its labels are read into.
-- Prometheus text format 0.0.4, "Line format"; OpenMetrics 1.0, "ABNF" (sample).
use Rattle.std.specs.Prelude.{◌≡◌, ◌≤◌, true, ℕ, List, ◌++◌, length, take, Option, Some, None, IsUtf8}
use Rattle.label_sets.specs.declared.label.Label.{Label}
use Rattle.label_sets.specs.declared.label_set.LabelSet.{LabelSet}
use Rattle.label_sets.specs.Labels.{label_set}
use Rattle.page_model.specs.declared.format.Format.{Format}
use Rattle.page_model.specs.declared.format.Treatment.{Treatment}
use Rattle.page_model.specs.LineHeads.{head_of, IsFront}
use Rattle.page_model.specs.Written.{is_label_list}
use Rattle.line_scan.specs.declared.head.Head.{Head}

-- what is cut off in front of a value begins with the name, and is a front of sample lines with these labels
pub record IsFrontOf (f : Format) (labels : List Label) (head : Head) : Type 0 where
  pub middle : List ℕ
  pub begins : head.front.now ≡ head.name.now ++ middle
  pub stays : IsFront f head.front.now head.name.now labels

-- these parts are the head of a line, and these its labels
pub record IsHead (f : Format) (bytes : List ℕ) (labels : List Label) (head : Head) : Type 0 where
  pub found : head_of f bytes ≡ Some (record { name = head.name.now; labels = labels; rest = head.rest.now })
  pub front : IsFrontOf f labels head
  pub utf8_name : IsUtf8 head.name.now
  pub utf8_rest : IsUtf8 bytes → IsUtf8 head.rest.now

-- labels that make a set, whoever's page has them
abbrev pub AreAlwaysList : List Label → Type 0
AreAlwaysList labels = (t : Treatment) → is_label_list t labels ≡ true

-- labels that were gathered, or of which this is the set
abbrev pub AreHeld : List Label → Option LabelSet → List Label → Type 0
AreHeld gathered None labels = gathered ≡ labels
AreHeld gathered (Some set) labels = AreAlwaysList labels × (set ≡ label_set labels)

-- a front of sample lines that is known, with its name, and the set that its labels make
pub record KnownHead : Type 0 where
  pub format : Format
  pub front : List ℕ
  pub name_len : ℕ
  pub set : LabelSet

-- it is such a front, and the set is that of its labels
pub record IsKnown (k : KnownHead) : Type 0 where
  pub labels : List Label
  pub short : k.name_len ≤ length k.front
  pub stays : IsFront k.format k.front (take k.name_len k.front) labels
  pub always : AreAlwaysList labels
  pub set_is : k.set ≡ label_set labels

-- these parts are the head of a line whose labels make this set
pub record IsKnownIn (f : Format) (bytes : List ℕ) (set : LabelSet) (head : Head) : Type 0 where
  pub labels : List Label
  pub is_head : IsHead f bytes labels head
  pub held : AreHeld labels (Some set) labels
