-- The parts of a descriptor line.
-- OpenMetrics 1.0, "ABNF" (metric-descriptor).
use Rattle.std.specs.Prelude.{ℕ, List, Option, Some}
use Rattle.std.specs.List.{list_all}
use Rattle.label_sets.specs.Lists.{◌>>=◌, when_true}
use Rattle.label_sets.specs.Names.{is_metric_char}
use Rattle.label_sets.specs.Escapes.{quote_escape, unescaped}
use Rattle.page_model.specs.Written.{Written, help, type_line, unit_line}
use Rattle.page_model.specs.OpenReading.{named_at, kind_named}

-- what a TYPE line says, from behind its word
abbrev pub open_type_of : List ℕ → Option Written
open_type_of cs = named_at cs >>= λ x. kind_named x.1 >>= λ kind. Some (type_line x.0 kind)

-- what a HELP line says, from behind its word
abbrev pub open_help_of : List ℕ → Option Written
open_help_of cs = named_at cs >>= λ x. Some (help x.0 (unescaped quote_escape x.1))

-- what a UNIT line says, from behind its word
abbrev pub open_unit_of : List ℕ → Option Written
open_unit_of cs = named_at cs >>= λ x. when_true (list_all is_metric_char x.1) (unit_line x.0 x.1)
