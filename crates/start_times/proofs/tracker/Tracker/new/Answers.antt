use Rattle.start_times.proofs.Nothing.{nothing_tracks}
use Rattle.start_times.proofs.tracker.Tracker.new.Goals as goal

-- src/tracker.rt:32:5
pub returns : goal.returns
returns c = rw c.new.ensures (nothing_tracks c.args.keep c.args.honor)
