use Rattle.std.proofs.Common.{arith, refl}
use Rattle.label_sets.specs.Names.{is_metric_char}
use Rattle.line_scan.specs.declared.chars.TheConstants.{METRIC_CHARS}
use Rattle.line_scan.proofs.Tables.{from_table}
use Rattle.line_scan.proofs.chars.MetricCharCharClass.has.Goals as goal

-- the table is held against the definition at each of the 256 bytes, by computing
pub returns : goal.returns
returns c = from_table is_metric_char METRIC_CHARS c.args.byte (omega arith) refl
