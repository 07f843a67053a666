use Rattle.std.proofs.Common.{map}
use Rattle.std.specs.Prelude.{string_bytes}
use Rattle.bridge_program.proofs.Commands.{command_ran, words_refused, memory_ran}
use Rattle.bridge_program.proofs.program.bridge.Goals as goal

pub execute-requires-clause-limits : goal.execute-requires-clause-limits
execute-requires-clause-limits g c κs within = (rw c.in-Ok-Some.field-0-is at c.in-Ok-Some.ensures.found).limits

pub returns-in-Ok-Some : goal.returns-in-Ok-Some
returns-in-Ok-Some g c = command_ran (map string_bytes c.args.words.now) c.in-Ok-Some.command _ _ _ _ _ _ _ _ _ _ _ _ (rw c.in-Ok-Some.field-0-is at c.in-Ok-Some.ensures.found) c.execute.ensures

pub returns-in-Ok-None : goal.returns-in-Ok-None
returns-in-Ok-None g c =
    words_refused (map string_bytes c.args.words.now) g.I.Source.left g.I.Source.read_faults c.args.input.now g.O.Sink.held g.O.Sink.write_faults c.args.output.now c.write_all.new.output g.W.World.seen c.args.world.now _ c.write_all.result
    (rw c.in-Ok-None.field-0-is at c.in-Ok-None.ensures.none) (rw c.no_form.ensures at c.write_all.ensures.whole) (rw c.no_form.ensures at c.write_all.ensures.front) c.write_all.ensures.cause.kept c.write_all.ensures.cause.failed
    c.end_code.ensures.whole c.end_code.ensures.front

pub returns-in-Err : goal.returns-in-Err
returns-in-Err g c = memory_ran (map string_bytes c.args.words.now) _ _ _ _ _ _ _ _ _ c.in-Err.ensures.memory c.code.ensures
