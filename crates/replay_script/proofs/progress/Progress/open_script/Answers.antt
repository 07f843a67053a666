use Rattle.std.proofs.Common.{refl}
use Rattle.replay_script.proofs.Kept.{opening_refused, opening_taken}
use Rattle.replay_script.proofs.progress.Progress.open_script.Goals as goal

pub returns-then-self-ne-BEFORE_ALL : goal.returns-then-self-ne-BEFORE_ALL
returns-then-self-ne-BEFORE_ALL c = opening_refused _ _ c.if-self-ne-BEFORE_ALL.true

pub returns : goal.returns
returns c = opening_taken c.args.self.now _ c.if-self-ne-BEFORE_ALL.false refl refl refl refl refl refl
