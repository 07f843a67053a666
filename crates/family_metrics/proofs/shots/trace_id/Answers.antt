use Rattle.std.proofs.Common.{sym, ◌∙◌, arith}
use Rattle.family_metrics.proofs.Ids.{read_failed}
use Rattle.family_metrics.proofs.shots.trace_id.Goals as goal

pub returns-in_default : goal.returns-in_default
returns-in_default c = absurd (read_failed 128 32 c.args.text.now c.from_str_radix.result c.in_default.field-0 (omega arith) (omega arith) c.from_str_radix.ensures.value (sym c.is_hexadecimal.ensures ∙ c.if-not-is_hexadecimal.false) c.in_default.is)
