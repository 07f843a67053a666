use Rattle.std.proofs.Common.{ℕ, Some, None, refl, ap, ◌∙◌}
use Rattle.bridge_ports.proofs.Laws.{seen_by, is_at_address}
use Rattle.std_edge.specs.World.{MachineState, machine_world}
use Rattle.std_edge.specs.Pairs.{home_in, last_given_in}
use Rattle.std_edge.proofs.world.StdWorldWorld.door.Goals as goal

pub returns-in-Some-clause-asked : goal.returns-in-Some-clause-asked
returns-in-Some-clause-asked g c =
    seen_by _ _ (ap (λ (w : MachineState). record (machine_world w) { door_at = Some c.args.at; door_faults = c.self.inside.door_faults }) c.self.view_is) refl
    (ap (λ (w : MachineState). home_in w.pairs) c.self.view_is) (ap (λ (w : MachineState). last_given_in w.pairs) c.self.view_is)
    (is_at_address c.args.at (λ _. None) (λ _. None) (λ other apart. refl))

pub returns-in-None-clause-asked : goal.returns-in-None-clause-asked
returns-in-None-clause-asked g c =
    let faults : ℕ = c.fail_door.new.self.door_faults in
    seen_by _ _
    (ap (λ (w : MachineState). record (machine_world w) { door_faults = faults }) c.fail_door.ensures.counted ∙ ap (λ (w : MachineState). record (machine_world w) { door_at = Some c.args.at; door_faults = faults }) c.self.view_is) refl
    (ap (λ (w : MachineState). home_in w.pairs) c.fail_door.ensures.counted ∙ ap (λ (w : MachineState). home_in w.pairs) c.self.view_is)
    (ap (λ (w : MachineState). last_given_in w.pairs) c.fail_door.ensures.counted ∙ ap (λ (w : MachineState). last_given_in w.pairs) c.self.view_is)
    (is_at_address c.args.at (λ _. None) (λ _. None) (λ other apart. refl))
