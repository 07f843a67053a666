-- What the item of a line is, apart from the lines above it.
-- Prometheus text format 0.0.4, "Comments, help text, and type information"; OpenMetrics 1.0, "MetricFamily metadata".
use Rattle.std.specs.Prelude.{ℕ, Bool, true, false, List, Option, Some, None}
use Rattle.label_sets.specs.declared.kind.Kind.{Kind}
use Rattle.page_model.specs.declared.item.Item.{Item}
use Rattle.page_model.specs.declared.item.Item.TheVariants as items
use Rattle.page_model.specs.declared.item.Sample.{Sample}

-- the item is `# EOF`
abbrev pub is_eof : Item → Bool
is_eof items.Eof = true
is_eof _ = false

-- the item is a sample
abbrev pub is_sample : Item → Bool
is_sample (items.Sample s) = true
is_sample _ = false

-- the sample of a sample line
abbrev pub sample_of_line : Item → Option Sample
sample_of_line (items.Sample s) = Some s
sample_of_line _ = None

-- the kind of a TYPE line
abbrev pub kind_of_line : Item → Option Kind
kind_of_line (items.KindOf name kind) = Some kind
kind_of_line _ = None

-- the text of a HELP line
abbrev pub help_of_line : Item → Option (List ℕ)
help_of_line (items.Help name text) = Some text
help_of_line _ = None

-- the unit of a UNIT line
abbrev pub unit_of_line : Item → Option (List ℕ)
unit_of_line (items.Unit name unit) = Some unit
unit_of_line _ = None

-- both lines are HELP, both are TYPE or both are UNIT
abbrev pub are_one_sort : Item → Item → Bool
are_one_sort (items.Help m s) (items.Help n t) = true
are_one_sort (items.KindOf m k) (items.KindOf n l) = true
are_one_sort (items.Unit m s) (items.Unit n t) = true
are_one_sort _ _ = false

-- the item is HELP, TYPE or UNIT
abbrev pub is_descriptor : Item → Bool
is_descriptor item = are_one_sort item item
