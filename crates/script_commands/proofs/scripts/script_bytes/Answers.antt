use Rattle.std.proofs.Common.{◌∙◌, arith}
use Rattle.program_words.specs.declared.stop.Stop.TheVariants.{Memory}
use Rattle.program_words.specs.Limits.{most_script}
use Rattle.program_words.proofs.Laws.{stop_leaves}
use Rattle.script_commands.proofs.ScriptLaws.{too_long_script}
use Rattle.bridge_ports.proofs.Laws.{block_too_much, block_more}
use Rattle.script_commands.proofs.scripts.script_bytes.Goals as goal

pub returns-then-count-len-clause-input : goal.returns-then-count-len-clause-input
returns-then-count-len-clause-input g c = (
  block_too_much most_script _ _ _ c.loop-bytes.bytes.items c.read.new.into c.in_ok-count.field-0 c.loop-bytes.invariant.1 c.in_ok-count.ensures.bytes.0 c.loop-bytes.invariant.0
      (omega (arith, c.in_ok-count.ensures.bound.0)) (omega (arith, c.if-count-len.true, c.len.ensures, c.loop-bytes.bytes.ok.0)) (omega (arith, c.in_ok-count.ensures.bound.0, c.read.auto.into)),
  c.in_ok-count.ensures.cause.kept ∙ c.loop-bytes.invariant.2,
)

pub returns-then-count-len-clause-stop : goal.returns-then-count-len-clause-stop
returns-then-count-len-clause-stop g c = λ page. too_long_script page _ _ (returns-then-count-len-clause-input g c).0

pub returns-in_err-extend_from_slice-clause-input : goal.returns-in_err-extend_from_slice-clause-input
returns-in_err-extend_from_slice-clause-input g c =
    stop_leaves most_script _ _ _ _ _ Memory c.from_residual-in_err-extend_from_slice.ensures.1 (
      block_more most_script _ _ _ c.loop-bytes.bytes.items c.read.new.into c.in_ok-count.field-0 c.loop-bytes.invariant.1 c.in_ok-count.ensures.bytes.0 (omega (arith, c.in_ok-count.ensures.bound.0))
          (omega (arith, c.if-count-len.false, c.len.ensures, c.loop-bytes.bytes.ok.0, c.loop-bytes.invariant.0)),
      c.in_ok-count.ensures.cause.kept ∙ c.loop-bytes.invariant.2,
    )
