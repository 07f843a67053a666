use Rattle.std.proofs.Common.{ap}
use Rattle.bridge_ports.specs.declared.talk.Address.{Address}
use Rattle.replay_script.specs.Progresses.{words_found_as}
use Rattle.replay_script.proofs.ScriptTargets.{job_text, instance_text, scraped_line}
use Rattle.replay_script.proofs.targets.target.Goals as goal

pub from_utf8-requires : goal.from_utf8-requires
from_utf8-requires c = job_text (words_found_as c.args.words.now) c.requires

pub instance_text-requires : goal.instance_text-requires
instance_text-requires c = instance_text (words_found_as c.args.words.now) c.requires

pub new-requires : goal.new-requires
new-requires c =
    scraped_line (words_found_as c.args.words.now) _ c.requires c.in_ok-job.ensures c.in_ok-instance.ensures
    (ap (λ (a : Address). a.host) c.in_ok-address.ensures) (ap (λ (a : Address). a.port) c.in_ok-address.ensures)
