use Rattle.std.proofs.Common.{arith, refl}
use Rattle.label_sets.specs.Names.{is_label_char}
use Rattle.line_scan.specs.declared.chars.TheConstants.{LABEL_CHARS}
use Rattle.line_scan.proofs.Tables.{from_table}
use Rattle.line_scan.proofs.chars.LabelCharCharClass.has.Goals as goal

-- the table is held against the definition at each of the 256 bytes, by computing
pub returns : goal.returns
returns c = from_table is_label_char LABEL_CHARS c.args.byte (omega arith) refl
