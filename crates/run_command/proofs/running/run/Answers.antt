use Rattle.std.proofs.Common.{ap, sym, subst, ◌∙◌, inl, inr}
use Rattle.bridge_ports.specs.Outside.{Outside}
use Rattle.bridge_config.proofs.Laws.{configs_are_right}
use Rattle.world_run.specs.Unused.{AreUnused}
use Rattle.world_run.proofs.Laws.{served_changes, unserved_changes}
use Rattle.run_command.proofs.Left.{stopped, wanting, ends_on, leaves_on, memory_alone}
use Rattle.run_command.proofs.running.run.Goals as goal

pub run_config-requires-clause-right : goal.run_config-requires-clause-right
run_config-requires-clause-right g c κs within = configs_are_right c.in_ok-config.ensures.config.bytes c.in_ok-config.config c.in_ok-config.ensures.config.is

pub run_config-requires-clause-unused : goal.run_config-requires-clause-unused
run_config-requires-clause-unused g c κs within = subst AreUnused (sym (ap (λ (o : Outside). o.home) c.in_ok-config.ensures.asked)) c.requires.unused

pub run_config-requires-clause-no_door : goal.run_config-requires-clause-no_door
run_config-requires-clause-no_door g c κs within = ap (λ (o : Outside). o.world.door_at) c.in_ok-config.ensures.asked ∙ c.requires.no_door

pub returns-in_err-config-clause-world : goal.returns-in_err-config-clause-world
returns-in_err-config-clause-world g c = stopped c.from_residual.result c.args.path (g.W.World.seen c.args.world.now) (g.W.World.seen c.config_in.new.world) c.in_err-config.ensures.asked

pub returns-in_err-end-clause-world : goal.returns-in_err-end-clause-world
returns-in_err-end-clause-world g c =
    wanting c.from_residual-in_err-end.result c.args.path (g.W.World.seen c.args.world.now) (g.W.World.seen c.run_config.new.world) c.from_residual-in_err-end.ensures.1 (record {
      config = c.in_ok-config.config;
      asked = g.W.World.seen c.config_in.new.world;
      read = record { config_is = c.in_ok-config.ensures.config; file = c.in_ok-config.ensures.asked };
      left = inl c.in_err-end.ensures.memory;
    })

pub returns-in_err-end-clause-leaves : goal.returns-in_err-end-clause-leaves
returns-in_err-end-clause-leaves g c =
    leaves_on c.from_residual-in_err-end.result c.in_ok-config.config ((g.W.World.seen c.args.world.now).files c.args.path) (g.W.World.seen c.args.world.now).world (g.W.World.seen c.config_in.new.world).world (g.W.World.seen c.run_config.new.world).world
    (memory_alone c.from_residual-in_err-end.result c.from_residual-in_err-end.ensures.1) c.in_ok-config.ensures.leaves (unserved_changes c.in_err-end.ensures.memory).doors

pub returns-in_err-report_of-clause-world : goal.returns-in_err-report_of-clause-world
returns-in_err-report_of-clause-world g c =
    wanting c.from_residual-in_err-report_of.result c.args.path (g.W.World.seen c.args.world.now) (g.W.World.seen c.run_config.new.world) c.from_residual-in_err-report_of.ensures.1 (record {
      config = c.in_ok-config.config;
      asked = g.W.World.seen c.config_in.new.world;
      read = record { config_is = c.in_ok-config.ensures.config; file = c.in_ok-config.ensures.asked };
      left = inr (c.in_ok-end.end.targets.items, c.in_ok-end.end.served, c.in_ok-end.ensures.run);
    })

pub returns-in_err-report_of-clause-leaves : goal.returns-in_err-report_of-clause-leaves
returns-in_err-report_of-clause-leaves g c =
    leaves_on c.from_residual-in_err-report_of.result c.in_ok-config.config ((g.W.World.seen c.args.world.now).files c.args.path) (g.W.World.seen c.args.world.now).world (g.W.World.seen c.config_in.new.world).world (g.W.World.seen c.run_config.new.world).world
    (memory_alone c.from_residual-in_err-report_of.result c.from_residual-in_err-report_of.ensures.1) c.in_ok-config.ensures.leaves (served_changes c.in_ok-end.ensures.run).doors

pub returns-clause-leaves : goal.returns-clause-leaves
returns-clause-leaves g c = ends_on ((g.W.World.seen c.args.world.now).files c.args.path) (g.W.World.seen c.args.world.now).world (g.W.World.seen c.config_in.new.world).world (g.W.World.seen c.run_config.new.world).world c.in_ok-config.ensures.leaves (served_changes c.in_ok-end.ensures.run).doors
