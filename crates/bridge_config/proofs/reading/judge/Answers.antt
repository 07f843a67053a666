use Rattle.std.proofs.Common.{◌≤◌, length, sym, ap, subst, ◌∙◌}
use Rattle.toml.specs.View.{table_view}
use Rattle.bridge_config.specs.declared.config.Config.{Config}
use Rattle.bridge_config.specs.Makings.{HaveJobs}
use Rattle.bridge_config.specs.Tables.{all_numbered}
use Rattle.bridge_config.proofs.KeyLaws.{keys_right, jobs_right}
use Rattle.bridge_config.proofs.RightLaws.{config_few}
use Rattle.bridge_config.proofs.reading.judge.Goals as goal

pub config_of-requires-clause-keys : goal.config_of-requires-clause-keys
config_of-requires-clause-keys c = keys_right (table_view c.args.document.now) c.in_ok-check_keys.ensures

pub config_of-requires-clause-jobs : goal.config_of-requires-clause-jobs
config_of-requires-clause-jobs c =
    subst HaveJobs (sym (ap all_numbered c.as_slice-2.ensures.value ∙ c.in_ok-tables.ensures)) (jobs_right (table_view c.args.document.now) c.in_ok-check_keys.ensures)

pub limits_fault-requires : goal.limits_fault-requires
limits_fault-requires c =
    subst (λ (config : Config). length config.targets ≤ 256) (sym c.in_ok-config.ensures.1) (config_few (table_view c.args.document.now) c.in_ok-check_keys.ensures)
