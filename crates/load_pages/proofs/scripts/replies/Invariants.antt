use Rattle.std.proofs.Common.{◌≡◌, ◌-◌, ◌≤◌}
use Rattle.load_pages.specs.GeneratedScripts.{generated_replies}
use Rattle.load_pages.proofs.scripts.replies.Given as goal

-- the replies of the rounds so far
abbrev pub invariant-loop-round : goal.invariant-loop-round
invariant-loop-round l = (l.round ≤ l.rounds) × (l.replies.len ≡ l.round) × (l.rounds ≤ l.replies.cap) × (l.replies.items ≡ generated_replies l.number l.target l.round)

abbrev pub decreases-loop-round : goal.decreases-loop-round
decreases-loop-round l = l.rounds - l.round
