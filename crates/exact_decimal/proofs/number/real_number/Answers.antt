use Rattle.std.proofs.Common.{sym}
use Rattle.exact_decimal.proofs.OneForm.{too_many}
use Rattle.exact_decimal.proofs.number.real_number.Goals as goal

pub returns-in_default : goal.returns-in_default
returns-in_default c = sym (too_many _ _ _ _ c.requires.digits c.in_default.ensures.keeps)
