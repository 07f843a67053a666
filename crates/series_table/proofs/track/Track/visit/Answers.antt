-- A wire that was told keeps what the track keeps.
use Rattle.std.proofs.Common.{sym, subst}
use Rattle.series_table.specs.HttpTalks.{talking}
use Rattle.series_table.specs.Records.{PostsWhatItsTalksTell}
use Rattle.series_table.proofs.track.Track.visit.Goals.{in-Some, in-None}
use Rattle.series_table.proofs.track.Track.visit.Goals as goal

pub returns-clause-sentence : goal.returns-clause-sentence
returns-clause-sentence g c = elim c.match-next_body.branch [
  | in-Some w ↦ subst (PostsWhatItsTalksTell talking) (sym w.self-is) w.tell.ensures.sentence
  | in-None w ↦ subst (PostsWhatItsTalksTell talking) (sym w.self-is) w.tell-in-None.ensures.sentence
]
