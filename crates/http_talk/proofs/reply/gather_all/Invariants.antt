-- The blocks in front of a place were fed.
use Rattle.std.proofs.Common.{length, ◌-◌}
use Rattle.http_talk.proofs.Gathering.{Gathered}
use Rattle.http_talk.proofs.reply.gather_all.Given as goal

abbrev pub invariant-loop-at : goal.invariant-loop-at
invariant-loop-at l = Gathered l.initial.stream l.initial.body.items l.piece l.at l.stream l.body.items

abbrev pub decreases-loop-at : goal.decreases-loop-at
decreases-loop-at l = length l.piece - l.at
