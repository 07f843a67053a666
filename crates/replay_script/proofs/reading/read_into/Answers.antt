use Rattle.std.proofs.Common.{sym, subst, ◌∙◌}
use Rattle.replay_script.specs.Progresses.{part_found_as, TakesPart, Ends}
use Rattle.replay_script.proofs.ReadOn.{rest_short, fault_at, stuck_without, stuck_refused, stuck_at_end, read_more, some_left, none_left}
use Rattle.replay_script.proofs.reading.read_into.Goals as goal

pub returns-in-None-clause-fault : goal.returns-in-None-clause-fault
returns-in-None-clause-fault c =
    fault_at c.args.bytes.now c.loop-front.rest.now c.loop-front.progress _ c.loop-front.invariant.1
    (stuck_without _ c.loop-front.rest.now (some_left _ _ c.is_empty.ensures c.loop-front-test.true) (sym c.in-None.ensures)) c.line_at.ensures

pub returns-then-not-branch-clause-fault : goal.returns-then-not-branch-clause-fault
returns-then-not-branch-clause-fault c =
    let was = c.loop-front.invariant.1 in
    fault_at c.args.bytes.now c.loop-front.rest.now c.loop-front.progress _ was
    (stuck_refused _ c.loop-front.rest.now c.in-Some.front.rest.now (part_found_as c.in-Some.front.part) (some_left _ _ c.is_empty.ensures c.loop-front-test.true) c.in-Some.ensures
    (sym (c.in_ok-take.ensures was.parts was.in_order was.knows).0 ∙ c.if-not-branch.true)) c.line_at-then-not-branch.ensures

pub loop-front-preserved : goal.loop-front-preserved
loop-front-preserved c =
    let more = read_more c.args.bytes.now c.loop-front.rest.now c.in-Some.front.rest.now c.loop-front.progress c.take.new.self (part_found_as c.in-Some.front.part) c.loop-front.invariant.1 c.in-Some.ensures
    (subst (λ b. TakesPart (part_found_as c.in-Some.front.part) c.loop-front.progress c.take.new.self b) c.if-not-branch.false c.in_ok-take.ensures) in
    (rest_short _ _ _ more.0, more.0)

pub loop-front-smaller : goal.loop-front-smaller
loop-front-smaller c =
    (read_more c.args.bytes.now c.loop-front.rest.now c.in-Some.front.rest.now c.loop-front.progress c.take.new.self (part_found_as c.in-Some.front.part) c.loop-front.invariant.1 c.in-Some.ensures
    (subst (λ b. TakesPart (part_found_as c.in-Some.front.part) c.loop-front.progress c.take.new.self b) c.if-not-branch.false c.in_ok-take.ensures)).1

pub returns-in-None-2-clause-fault : goal.returns-in-None-2-clause-fault
returns-in-None-2-clause-fault c =
    let was = c.loop-front.invariant.1 in
    fault_at c.args.bytes.now c.loop-front.rest.now c.loop-front.progress _ was
    (stuck_at_end was.parts c.loop-front.rest.now (none_left _ _ c.is_empty.ensures c.loop-front-test.false) (subst (Ends was.parts) c.in-None-2.is (c.in_ok-script.ensures was.parts was.knows)))
    c.line_at-in-None-2.ensures
