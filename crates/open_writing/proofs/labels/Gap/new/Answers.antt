use Rattle.open_writing.proofs.Places.{gap_at}
use Rattle.open_writing.proofs.labels.Gap.new.Goals as goal

pub returns-clause-gap : goal.returns-clause-gap
returns-clause-gap c = rw (c.split_at.ensures.front, c.split_at.ensures.back, c.front_len.ensures.is) (gap_at c.args.name.now c.args.labels.now)
