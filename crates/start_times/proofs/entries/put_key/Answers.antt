use Rattle.std.proofs.Common.{◌≡◌, Some, subst, sym, eqb-true, arith}
use Rattle.std.specs.Prelude.{IfSome, slice_get}
use Rattle.start_times.proofs.Filling.{shared_more}
use Rattle.start_times.proofs.entries.put_key.Goals as goal

pub returns-then-goes_on-clause-put : goal.returns-then-goes_on-clause-put
returns-then-goes_on-clause-put c = λ there.
    shared_more c.args.before.now c.args.own.now.items c.args.shared.now c.args.key.now (omega (arith, eqb-true _ 0 (sym c.if-is_empty.ensures), c.args.own.now.ok))
    (subst (λ at. IfSome at (λ place. slice_get c.args.before.now place ≡ Some c.args.key.now)) c.if-goes_on.ensures.0 there)
