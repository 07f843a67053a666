use Rattle.start_times.proofs.RowLaws.{row_is_enough, row_of_sight, row_of_miss}
use Rattle.start_times.proofs.start_laws.rows_stand_for_pasts.Goals as goal

pub returns-clause-enough : goal.returns-clause-enough
returns-clause-enough c = row_is_enough

pub returns-clause-sight : goal.returns-clause-sight
returns-clause-sight c = row_of_sight

pub returns-clause-miss : goal.returns-clause-miss
returns-clause-miss c = row_of_miss
