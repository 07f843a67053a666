use Rattle.start_times.proofs.Times.{none_is_late}
use Rattle.start_times.proofs.PlainLaws.{same_place, same_start_there}
use Rattle.start_times.proofs.start_laws.moments_alone_count.Goals as goal

pub returns-clause-none : goal.returns-clause-none
returns-clause-none c = none_is_late

pub returns-clause-places : goal.returns-clause-places
returns-clause-places c = same_place

pub returns-clause-markers : goal.returns-clause-markers
returns-clause-markers c = same_start_there
