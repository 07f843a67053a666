use Rattle.start_times.proofs.KeptRows.{rows_are_those_of_past, rows_track_again}
use Rattle.start_times.proofs.start_laws.rows_are_those_of_pasts.Goals as goal

pub returns-clause-past : goal.returns-clause-past
returns-clause-past c = rows_are_those_of_past

pub returns-clause-again : goal.returns-clause-again
returns-clause-again c = rows_track_again
