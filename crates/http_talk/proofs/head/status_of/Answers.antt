-- What the front shows, all bytes show.
use Rattle.std.proofs.Common.{refl}
use Rattle.http_talk.specs.Heads.{unfinished}
use Rattle.http_talk.proofs.HeadFronts.{front_is, shows_bad, shows_status}
use Rattle.http_talk.proofs.head.status_of.Goals as goal

pub returns-in-More : goal.returns-in-More
returns-in-More c = let says = c.in-More.ensures.head c.args.head.now (front_is 16384 _ _ c.min.ensures) in record { head = unfinished; head_is = says.0; what_is = refl }

pub returns-in-Bad : goal.returns-in-Bad
returns-in-Bad c = let says = c.in-Bad.ensures.head c.args.head.now (front_is 16384 _ _ c.min.ensures) in shows_bad _ says.0 says.1 says.2

pub returns-in-Found : goal.returns-in-Found
returns-in-Found c = let says = c.in-Found.ensures.head c.args.head.now (front_is 16384 _ _ c.min.ensures) in shows_status _ says.0 _ _ says.2 says.1.few says.1.at.code
