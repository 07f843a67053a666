use Rattle.std.proofs.Common.{refl}
use Rattle.start_times.specs.Rows.{row_at_age}
use Rattle.start_times.proofs.listing.kept_of.Goals as goal

pub returns : goal.returns
unfolding row_at_age
returns c = rw (c.in_ok-key.ensures, c.in_ok-row.ensures) refl
