use Rattle.std.proofs.Common.{◌≡◌, ◌≢◌, ◌+◌, ◌-◌, ◌*◌, ◌^◌, ◌%◌, ◌<◌, ◌≤◌, refl, sym, subst, arith}
use Rattle.exact_decimal.proofs.Kept.{Keeps-leading, Keeps-zero, Keeps-other, digit_is}
use Rattle.exact_decimal.proofs.Powers.{push_fits, low_push, high_push, last_push}
use Rattle.exact_decimal.proofs.digits.Kept.push.Goals as goal
use Rattle.exact_decimal.proofs.Tens.{fits_128}

pub returns-then-self-eq0-clause-keeps : goal.returns-then-self-eq0-clause-keeps
returns-then-self-eq0-clause-keeps c = λ ds k. Keeps-leading ds _ _ _ _ k c.if-digit-eq48.true c.if-self-eq0.true

pub returns-then-digit-eq48-clause-keeps : goal.returns-then-digit-eq48-clause-keeps
returns-then-digit-eq48-clause-keeps c = λ ds k. Keeps-zero ds _ _ _ _ k c.if-digit-eq48.true (omega arith)

pub returns-then-places-gt-MOST_PLACES-clause-keeps : goal.returns-then-places-gt-MOST_PLACES-clause-keeps
returns-then-places-gt-MOST_PLACES-clause-keeps c = λ ds k. let next = Keeps-other ds _ _ _ _ k c.requires.digit c.if-digit-eq48.false in omega (arith, next.places_are)

pub pow-requires : goal.pow-requires
pow-requires c = fits_128 _ (omega arith)

pub overflow_mul-digits : goal.overflow_mul-digits
overflow_mul-digits c = rw c.pow.ensures (omega (arith, push_fits 0 _ _ _ c.args.self.high (omega arith) c.if-places-gt-MOST_PLACES.false))

pub overflow_add-digits : goal.overflow_add-digits
overflow_add-digits c =
    let d = digit_is c.args.digit c.requires.digit in
    rw (c.pow.ensures, c.from.ensures) (omega (arith, push_fits (c.args.digit - 48) _ _ _ c.args.self.high (omega arith) c.if-places-gt-MOST_PLACES.false))

pub invariant_of-result-2 : goal.invariant_of-result-2
invariant_of-result-2 c =
    let d = digit_is c.args.digit c.requires.digit in
    let some : 0 < c.args.digit - 48 = omega arith in
    let small : c.args.digit - 48 < 10 = omega arith in
    let k = c.args.self in
    let z = k.zeros in
    let p = k.places in
    let value : k.digits * c.pow.result + c.from.result ≡ k.digits * 10 ^ (z + 1) + (c.args.digit - 48) = rw (c.pow.ensures, c.from.ensures) refl in
    record {
      few = c.if-places-gt-MOST_PLACES.false;
      high = subst (λ x. x < 10 ^ (p + z + 1)) (sym value) (high_push (c.args.digit - 48) k.digits z p k.high small);
      nothing = λ h. refl;
      low = λ h. subst (λ x. 10 ^ (p + z + 1 - 1) ≤ x) (sym value) (low_push (c.args.digit - 48) k.digits z p k.low k.nothing some);
      last = λ h. subst (λ x. x % 10 ≢ 0) (sym value) (last_push (c.args.digit - 48) k.digits z some small);
    }

pub returns-clause-keeps : goal.returns-clause-keeps
returns-clause-keeps c = λ ds k. rw (c.pow.ensures, c.from.ensures) (Keeps-other ds _ _ _ _ k c.requires.digit c.if-digit-eq48.false)
