use Rattle.histogram_layout.proofs.Sums.{counts_sum_to_count, running_sums_are_cumulative}
use Rattle.histogram_layout.proofs.laws.counts_sum_up.Goals as goal

pub returns-clause-sum : goal.returns-clause-sum
returns-clause-sum c = counts_sum_to_count

pub returns-clause-running : goal.returns-clause-running
returns-clause-running c = running_sums_are_cumulative
