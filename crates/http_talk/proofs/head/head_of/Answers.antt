-- What the first bytes say, all say.
use Rattle.std.proofs.Common.{rules, ◌≡◌, ◌≢◌, length}
use Rattle.http_talk.proofs.HeadFronts.{more_front, full_front, bad_front, head_front}
use Rattle.http_talk.proofs.head.head_of.Goals as goal

pub returns-then-full-clause-head : goal.returns-then-full-clause-head
returns-then-full-clause-head c = λ got is. let all : length c.args.front.now ≡ 16384 = search rules in full_front got _ is all c.in-More.ensures.0

pub returns-else-full-clause-head : goal.returns-else-full-clause-head
returns-else-full-clause-head c = λ got is. let few : length c.args.front.now ≢ 16384 = search rules in more_front got _ is few c.in-More.ensures.0 c.in-More.ensures.1

pub returns-in-Bad-clause-head : goal.returns-in-Bad-clause-head
returns-in-Bad-clause-head c = λ got is. bad_front got _ is c.in-Bad.ensures

pub returns-in-Found-clause-within : goal.returns-in-Found-clause-within
returns-in-Found-clause-within c = c.in-Found.ensures.1.within

pub returns-in-Found-clause-head : goal.returns-in-Found-clause-head
returns-in-Found-clause-head c = λ got is. let parsed = c.in-Found.ensures in (parsed.0, parsed.1, head_front got _ parsed.0 _ is parsed.1.at.reads)
