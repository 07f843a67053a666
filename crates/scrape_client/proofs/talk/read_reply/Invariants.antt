-- The reply was fed what was got, and one on which there is no verdict is short.
use Rattle.std.proofs.Common.{◌+◌, ◌-◌, ◌*◌}
use Rattle.scrape_client.specs.PageReplies.{most_of}
use Rattle.scrape_client.specs.Exchanges.{ReadsOn}
use Rattle.scrape_client.proofs.talk.read_reply.Given as goal

abbrev pub invariant-loop-reply : goal.invariant-loop-reply
invariant-loop-reply g l = ReadsOn l.initial.reply.limit (most_of l.initial.reply) (g.W.Wire.state l.initial.wire) (g.W.Wire.state l.wire) l.reply l.got

abbrev pub decreases-loop-reply : goal.decreases-loop-reply
decreases-loop-reply g l = 8 * most_of l.initial.reply + 65536 - l.got
