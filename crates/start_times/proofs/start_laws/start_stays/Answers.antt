use Rattle.start_times.proofs.Stays.{start_stays, taken_behind_misses}
use Rattle.start_times.proofs.start_laws.start_stays.Goals as goal

pub returns-clause-stays : goal.returns-clause-stays
returns-clause-stays c = start_stays

pub returns-clause-misses : goal.returns-clause-misses
returns-clause-misses c = taken_behind_misses
