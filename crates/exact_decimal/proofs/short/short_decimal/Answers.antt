use Rattle.std.proofs.Common.{Ok, sym, ap, ◌∙◌, subst, arith}
use Rattle.exact_decimal.specs.declared.number.Number.TheVariants.{Finite}
use Rattle.exact_decimal.specs.Decimals.{IsNormal}
use Rattle.exact_decimal.proofs.OneForm.{form_is, limited_none}
use Rattle.exact_decimal.proofs.WholeNumbers.{short_zeros, short_normal, short_limited}
use Rattle.exact_decimal.proofs.short.short_decimal.Goals as goal

pub returns-then-value-eq0 : goal.returns-then-value-eq0
returns-then-value-eq0 c = λ ds h e. limited_none c.args.negative ds c.args.up c.args.down (e ∙ c.if-value-eq0.true) ∙ ap (λ d. Ok (Finite d)) (sym c.zero.ensures)

pub overflow_add-power : goal.overflow_add-power
overflow_add-power c = let few = short_zeros c.args.value _ _ c.ranges.value.fits c.strip-digits.ensures.value c.strip-digits.ensures.last in omega (arith, c.from.ensures)

pub overflow_cast-saturating_sub : goal.overflow_cast-saturating_sub
overflow_cast-saturating_sub c = let few = short_zeros c.args.value _ _ c.ranges.value.fits c.strip-digits.ensures.value c.strip-digits.ensures.last in omega arith

pub new-requires : goal.new-requires
new-requires c =
    subst IsNormal (form_is c.args.negative _ _ _ _ _ _ c.from-2.ensures (omega arith) (omega arith))
    (short_normal c.args.value _ _ c.ranges.value.fits c.strip-digits.ensures.value c.strip-digits.ensures.last c.args.negative c.args.up c.args.down c.requires.up c.requires.down)

pub returns : goal.returns
returns c = λ ds h e.
    short_limited c.args.value _ _ c.ranges.value.fits c.strip-digits.ensures.value c.strip-digits.ensures.last c.args.negative c.args.up c.args.down c.requires.up c.requires.down ds h e
    ∙ ap (λ d. Ok (Finite d)) (form_is c.args.negative _ _ _ _ _ _ c.from-2.ensures (omega arith) (omega arith) ∙ sym c.new.ensures)
