-- Tries are made until none is due.
use Rattle.std.proofs.Common.{rules, ◌≡◌, ◌+◌, ◌++◌, true, false, arith, inl, inr}
use Rattle.std.specs.Prelude.{◌⊎◌}
use Rattle.otlp_sender.specs.Posting.{is_open}
use Rattle.otlp_sender.proofs.WireSteps.{posted_all, posted_on}
use Rattle.otlp_sender.proofs.sending.post_parts.Goals.{then-made-tries-via-then-made-tries, then-made-tries-via-else-made-tries+then-not-is_open}
use Rattle.otlp_sender.proofs.sending.post_parts.Goals as goal

pub returns-then-made-tries : goal.returns-then-made-tries
returns-then-made-tries g c =
    let ended : (is_open c.try_once-last.result.0 ≡ false) ⊎ (c.tries.made + 1 ≡ c.args.tries) =
    elim c.then-made-tries.branch [
      | then-made-tries-via-then-made-tries w ↦ inr w.if-made-tries.true
      | then-made-tries-via-else-made-tries+then-not-is_open w ↦ (let closed : is_open c.try_once-last.result.0 ≡ false = search rules in inl closed)
    ] in
    posted_all c.args.tries (c.args.front.now ++ c.args.rest.now) c.try_once-last.result.0 c.tries.made _ _ _ c.posted.result (omega (arith, c.tries.invariant.few)) ended c.posted.ensures c.tries.invariant.under_way c.try_once-last.ensures

pub tries-preserved : goal.tries-preserved
tries-preserved g c =
    let due : is_open c.try_once-last.result.0 ≡ true = search rules in
    record {
      few = omega (arith, c.tries.invariant.few, c.if-made-tries.false);
      under_way = posted_on (c.args.front.now ++ c.args.rest.now) c.try_once-last.result.0 c.tries.made _ _ _ due c.tries.invariant.under_way c.try_once-last.ensures;
    }
