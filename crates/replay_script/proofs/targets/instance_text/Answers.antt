use Rattle.std.proofs.Common.{sym, subst, ◌∙◌}
use Rattle.std.specs.Prelude.{IsUtf8}
use Rattle.replay_script.proofs.targets.instance_text.Goals as goal

pub from_utf8-requires : goal.from_utf8-requires
from_utf8-requires c = subst IsUtf8 (sym (c.as_slice.ensures.value ∙ c.in_ok-instance.ensures)) c.requires
