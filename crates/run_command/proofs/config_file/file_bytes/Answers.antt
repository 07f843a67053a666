use Rattle.std.proofs.Common.{◌∙◌, ap, arith}
use Rattle.bridge_ports.specs.Outside.{Outside}
use Rattle.bridge_ports.specs.declared.Failed.{Failed}
use Rattle.program_words.specs.declared.stop.Stop.TheVariants.{Memory}
use Rattle.program_words.specs.Limits.{most_config}
use Rattle.run_command.specs.ConfigFiles.{left_of}
use Rattle.bridge_ports.proofs.Laws.{block_too_much, block_more}
use Rattle.run_command.proofs.Files.{taken_of, told_too_long, leaves_as, read_off}
use Rattle.run_command.proofs.config_file.file_bytes.Goals as goal

pub returns-then-count-len-clause-leaves : goal.returns-then-count-len-clause-leaves
returns-then-count-len-clause-leaves g c = (
  block_too_much most_config _ _ _ c.loop-bytes.bytes.items c.read_file.new.into c.in_ok-count.field-0 c.loop-bytes.invariant.reads.took (taken_of Failed _ _ c.in_ok-count.field-0 c.read_file.new.into c.in_ok-count.ensures.bytes.reads).0
      c.loop-bytes.invariant.short (omega (arith, c.in_ok-count.ensures.bound.0)) (omega (arith, c.if-count-len.true, c.len.ensures, c.loop-bytes.bytes.ok.0))
      (omega (arith, c.in_ok-count.ensures.bound.0, c.read_file.auto.into)),
  c.in_ok-count.ensures.cause.kept ∙ ap (λ (o : Outside). o.world.file_faults) c.loop-bytes.invariant.reads.rest,
)

pub returns-then-count-len-clause-stop : goal.returns-then-count-len-clause-stop
returns-then-count-len-clause-stop g c = told_too_long _ _ (returns-then-count-len-clause-leaves g c).0

pub returns-in_err-extend_from_slice-clause-leaves : goal.returns-in_err-extend_from_slice-clause-leaves
returns-in_err-extend_from_slice-clause-leaves g c = leaves_as (left_of (g.W.World.seen c.args.world.now).world.file) (g.W.World.seen c.args.world.now).world (g.W.World.seen c.read_file.new.self).world _ Memory c.from_residual-in_err-extend_from_slice.ensures.1 (
  block_more most_config _ _ _ c.loop-bytes.bytes.items c.read_file.new.into c.in_ok-count.field-0 c.loop-bytes.invariant.reads.took (taken_of Failed _ _ c.in_ok-count.field-0 c.read_file.new.into c.in_ok-count.ensures.bytes.reads).0
      (omega (arith, c.in_ok-count.ensures.bound.0)) (omega (arith, c.if-count-len.false, c.len.ensures, c.loop-bytes.bytes.ok.0, c.loop-bytes.invariant.short)),
  c.in_ok-count.ensures.cause.kept ∙ ap (λ (o : Outside). o.world.file_faults) c.loop-bytes.invariant.reads.rest,
)

pub returns-in_err-count-clause-rest : goal.returns-in_err-count-clause-rest
returns-in_err-count-clause-rest g c = read_off (g.W.World.seen c.args.world.now) (g.W.World.seen c.loop-bytes.world) (g.W.World.seen c.read_file.new.self) c.loop-bytes.invariant.reads.rest c.in_err-count.ensures.bytes.rest

pub returns-then-count-eq0-clause-rest : goal.returns-then-count-eq0-clause-rest
returns-then-count-eq0-clause-rest g c = read_off (g.W.World.seen c.args.world.now) (g.W.World.seen c.loop-bytes.world) (g.W.World.seen c.read_file.new.self) c.loop-bytes.invariant.reads.rest c.in_ok-count.ensures.bytes.rest

pub returns-then-count-len-clause-rest : goal.returns-then-count-len-clause-rest
returns-then-count-len-clause-rest g c = read_off (g.W.World.seen c.args.world.now) (g.W.World.seen c.loop-bytes.world) (g.W.World.seen c.read_file.new.self) c.loop-bytes.invariant.reads.rest c.in_ok-count.ensures.bytes.rest

pub returns-in_err-extend_from_slice-clause-rest : goal.returns-in_err-extend_from_slice-clause-rest
returns-in_err-extend_from_slice-clause-rest g c = read_off (g.W.World.seen c.args.world.now) (g.W.World.seen c.loop-bytes.world) (g.W.World.seen c.read_file.new.self) c.loop-bytes.invariant.reads.rest c.in_ok-count.ensures.bytes.rest
