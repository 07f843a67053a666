use Rattle.std.proofs.Common.{◌∙◌, arith}
use Rattle.plain_words.proofs.Laws.{in_range}
use Rattle.script_commands.proofs.ReplayLaws.{printed_more, target_cut}
use Rattle.script_commands.proofs.TalkLaws.{stands_there}
use Rattle.script_commands.proofs.in_turn.print_rounds.Goals as goal

pub print_visit-requires : goal.print_visit-requires
print_visit-requires g c =
    let under = c.loop.invariant.0 in
    omega (arith, under.visits, c.loop-test.true, (in_range 1 1000000 c.args.turn.header.now.rounds c.requires.right.rounds).1)

pub loop-preserved : goal.loop-preserved
loop-preserved g c =
    let under = c.loop.invariant.0 in
    let was = c.loop.invariant.1 in
    let reply = stands_there c.args.turn.target.now.scrapes c.loop.counter (omega (arith, c.loop-test.true, c.requires.target.scrapes)) in
    let next = c.in-Ok.ensures.printed c.args.turn.keeps c.args.turn.header.now c.args.turn.target.now c.args.turn.place c.loop.counter reply.0 was.events c.requires.target under reply.1 was.stands in (
      c.in-Ok.ensures.goes_on c.args.turn.keeps c.args.turn.header.now c.args.turn.target.now c.args.turn.place c.loop.counter under,
      printed_more c.args.turn.header.now c.args.turn.target.now c.loop.counter _ _ _ _ _ reply.0 next.0 was reply.1 next.1 next.2 next.3,
      c.in-Ok.ensures.cause ∙ c.loop.invariant.2,
    )

pub returns-in-Err-clause-printed : goal.returns-in-Err-clause-printed
returns-in-Err-clause-printed g c =
    let under = c.loop.invariant.0 in
    let was = c.loop.invariant.1 in
    let reply = stands_there c.args.turn.target.now.scrapes c.loop.counter (omega (arith, c.loop-test.true, c.requires.target.scrapes)) in
    target_cut c.args.turn.header.now c.args.turn.target.now c.loop.counter _ c.print_visit.new.track.following _ _ _ reply.0 c.in-Err.cut was reply.1
    (c.in-Err.ensures.printed c.args.turn.keeps c.args.turn.header.now c.args.turn.target.now c.args.turn.place c.loop.counter reply.0 was.events c.requires.target under reply.1 was.stands)
