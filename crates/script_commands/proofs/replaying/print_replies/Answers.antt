use Rattle.std.proofs.Common.{◌≡◌, length, ap, ◌∙◌, arith}
use Rattle.replay_script.specs.RightScripts.{IsRightReply}
use Rattle.script_commands.proofs.ReplayLaws.{next_moment, rounds_few, all_at, place_in_same, printed_more, target_cut}
use Rattle.script_commands.proofs.replaying.print_replies.Goals as goal

pub print_next-requires-clause-next : goal.print_next-requires-clause-next
print_next-requires-clause-next g c =
    let was = c.loop-at.invariant.2 in
    let same : length c.as_slice-replies.result.now ≡ length c.args.target.now.scrapes = ap (λ rs. length rs) c.loop-at.invariant.1 in
    next_moment _ c.args.header.now c.loop-at.state was.events was.stands (omega (arith, was.count, c.loop-at.invariant.0, same, rounds_few c.args.header.now c.args.target.now c.requires.right c.requires.target))

pub print_next-requires-clause-ended : goal.print_next-requires-clause-ended
print_next-requires-clause-ended g c =
    (all_at IsRightReply c.args.target.now.scrapes c.loop-at.at c.index-replies-at.result c.requires.target.replies
    (place_in_same _ _ c.loop-at.at c.index-replies-at.result c.loop-at.invariant.1 c.loop-at-test.true c.index-replies-at.is)).over

pub loop-at-preserved : goal.loop-at-preserved
loop-at-preserved g c =
    let was = c.loop-at.invariant.2 in
    let next = c.in-Ok.ensures.printed c.args.target.now.target was.events was.stands in
    let stands = place_in_same _ _ c.loop-at.at c.index-replies-at.result c.loop-at.invariant.1 c.loop-at-test.true c.index-replies-at.is in (
      omega (arith, c.loop-at-test.true),
      c.loop-at.invariant.1,
      printed_more c.args.header.now c.args.target.now c.loop-at.at _ _ _ _ _ c.index-replies-at.result next.0 was stands next.1 next.2 next.3,
      c.in-Ok.ensures.cause ∙ c.loop-at.invariant.3,
      omega (arith, c.if-at-visits.false),
    )

pub returns-in-Err-clause-printed : goal.returns-in-Err-clause-printed
returns-in-Err-clause-printed g c =
    let was = c.loop-at.invariant.2 in
    let stands = place_in_same _ _ c.loop-at.at c.index-replies-at.result c.loop-at.invariant.1 c.loop-at-test.true c.index-replies-at.is in
    target_cut c.args.header.now c.args.target.now c.loop-at.at c.loop-at.state c.print_next.new.state _ _ _ c.index-replies-at.result c.in-Err.cut was stands (c.in-Err.ensures.printed c.args.target.now.target was.events was.stands)
