use Rattle.histogram_layout.proofs.Bounds.{one_count_more, bounds_increase}
use Rattle.histogram_layout.proofs.laws.bounds_part_counts.Goals as goal

pub returns-clause-one_more : goal.returns-clause-one_more
returns-clause-one_more c = one_count_more

pub returns-clause-increase : goal.returns-clause-increase
returns-clause-increase c = bounds_increase
