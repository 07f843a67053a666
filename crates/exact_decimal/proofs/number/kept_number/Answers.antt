use Rattle.std.proofs.Common.{◌+◌, ◌<◌, Ok, refl, sym, ap, ◌∙◌, subst, arith}
use Rattle.exact_decimal.specs.declared.number.Number.TheVariants.{Finite}
use Rattle.exact_decimal.specs.Decimals.{IsNormal}
use Rattle.exact_decimal.proofs.OneForm.{form_is, IsInLimits, no_value, normal, limited, limited_none, out_of_limits}
use Rattle.exact_decimal.proofs.number.kept_number.Goals as goal

pub returns-then-kept-eq0 : goal.returns-then-kept-eq0
returns-then-kept-eq0 c = λ ds k. ap (λ d. Ok (Finite d)) c.zero.ensures ∙ sym (limited_none c.args.negative ds c.args.up c.args.down (no_value ds _ _ _ k c.if-kept-eq0.true))

pub returns-then-leading-down : goal.returns-then-leading-down
returns-then-leading-down c = λ ds k. sym (out_of_limits c.args.negative ds c.args.up c.args.down _ _ _ k (omega arith) (λ l. omega (arith, l.low)))

pub returns-then-down-leading : goal.returns-then-down-leading
returns-then-down-leading c = λ ds k. sym (out_of_limits c.args.negative ds c.args.up c.args.down _ _ _ k (omega arith) (λ l. omega (arith, l.high)))

pub new-decimal-requires : goal.new-decimal-requires
new-decimal-requires c =
    let kept = c.args.kept in
    let some : 0 < kept.places = omega arith in
    let limits : IsInLimits kept.zeros kept.places c.args.up c.args.down = record { few = kept.few; low = omega arith; high = omega arith } in
    subst IsNormal (form_is c.args.negative kept.digits (c.args.up + kept.zeros) c.args.down _ _ _ refl c.saturating_sub.ensures c.saturating_sub-2.ensures)
    (normal c.args.negative kept.digits kept.zeros kept.places c.args.up c.args.down some (kept.low some) kept.high (kept.last some) limits)

pub returns : goal.returns
returns c = λ ds k.
    let kept = c.args.kept in
    let some : 0 < kept.places = omega arith in
    let limits : IsInLimits kept.zeros kept.places c.args.up c.args.down = record { few = kept.few; low = omega arith; high = omega arith } in
    ap (λ d. Ok (Finite d)) (c.new-decimal.ensures ∙ sym (form_is c.args.negative kept.digits (c.args.up + kept.zeros) c.args.down _ _ _ refl c.saturating_sub.ensures c.saturating_sub-2.ensures))
    ∙ sym (limited c.args.negative ds c.args.up c.args.down _ _ _ k some limits)
