use Rattle.std.proofs.Common.{refl, arith, []}
use Rattle.exact_decimal.proofs.Kept.{Keeps-nil, are_digits_parts, significant_grow}
use Rattle.exact_decimal.proofs.digits.Kept.of.Goals as goal

pub returns-in_default-clause-keeps : goal.returns-in_default-clause-keeps
returns-in_default-clause-keeps c = omega (arith, significant_grow c.args.whole.now c.args.fraction.now c.requires.digits, c.in_default.ensures.keeps [] refl Keeps-nil)

pub returns-clause-keeps : goal.returns-clause-keeps
returns-clause-keeps c =
    let both = are_digits_parts c.args.whole.now c.args.fraction.now c.requires.digits in
    c.push_all-2.ensures.keeps c.args.whole.now both.0 (c.in-Some.ensures.keeps [] refl Keeps-nil)
