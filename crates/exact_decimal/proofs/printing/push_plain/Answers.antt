use Rattle.std.proofs.Common.{arith, length-append, append_assoc}
use Rattle.std.proofs.lemmas.List.{length-replicate}
use Rattle.exact_decimal.proofs.Texts.{plain_long, plain_short}
use Rattle.exact_decimal.proofs.Tens.{no_up}
use Rattle.exact_decimal.proofs.printing.push_plain.Goals as goal

pub push_pointed-requires : goal.push_pointed-requires
push_pointed-requires c =
    let e = plain_long c.args.digits.now c.args.up c.args.down c.requires.one_power c.if-down-digits.true in
    omega (arith, simp length-append at (rw e at c.requires.room))

pub push_zeros-requires : goal.push_zeros-requires
push_zeros-requires c =
    let e = plain_long c.args.digits.now c.args.up c.args.down c.requires.one_power c.if-down-digits.true in
    rw c.push_pointed.ensures (simp length-append (omega (arith, simp (length-append, length-replicate) at (rw e at c.requires.room))))

pub push-requires : goal.push-requires
push-requires c =
    let e = plain_short c.args.digits.now c.args.up c.args.down (no_up _ _ _ c.requires.one_power c.requires.some c.if-down-digits.false) c.requires.some c.if-down-digits.false in
    omega (arith, simp (length-append, length-replicate) at (rw e at c.requires.room))

pub push_zeros-requires-else-down-digits : goal.push_zeros-requires-else-down-digits
push_zeros-requires-else-down-digits c =
    let e = plain_short c.args.digits.now c.args.up c.args.down (no_up _ _ _ c.requires.one_power c.requires.some c.if-down-digits.false) c.requires.some c.if-down-digits.false in
    rw c.push.ensures (simp length-append (omega (arith, simp (length-append, length-replicate) at (rw e at c.requires.room))))

pub push-requires-else-down-digits : goal.push-requires-else-down-digits
push-requires-else-down-digits c =
    let e = plain_short c.args.digits.now c.args.up c.args.down (no_up _ _ _ c.requires.one_power c.requires.some c.if-down-digits.false) c.requires.some c.if-down-digits.false in
    rw (c.push_zeros-else-down-digits.ensures, c.push.ensures) (simp (length-append, length-replicate) (omega (arith, simp (length-append, length-replicate) at (rw e at c.requires.room))))

pub returns-then-down-digits : goal.returns-then-down-digits
returns-then-down-digits c =
    let e = plain_long c.args.digits.now c.args.up c.args.down c.requires.one_power c.if-down-digits.true in
    rw (e, c.push_zeros.ensures, c.push_pointed.ensures) (simp append_assoc)

pub returns-else-down-digits : goal.returns-else-down-digits
returns-else-down-digits c =
    let e = plain_short c.args.digits.now c.args.up c.args.down (no_up _ _ _ c.requires.one_power c.requires.some c.if-down-digits.false) c.requires.some c.if-down-digits.false in
    rw (e, c.push-else-down-digits.ensures, c.push_zeros-else-down-digits.ensures, c.push.ensures) (simp append_assoc)
