use Rattle.std.proofs.Common.{◌≡◌, ◌∙◌, ◌<◌, ◌≤◌, [], length, set, ap, sym, subst, arith}
use Rattle.std.specs.List.{position_or_len}
use Rattle.bridge_ports.specs.declared.memory_world.MemoryListen.{MemoryListen}
use Rattle.bridge_ports.specs.InMemory.{MemoryDoorState, new_memory_door}
use Rattle.bridge_ports.specs.Worlds.{is_address}
use Rattle.memory_world.specs.WorldParts.{IsDoorOut}
use Rattle.memory_world.proofs.DoorLaws.{door_taken, door_made}
use Rattle.memory_world.proofs.world.door_out.Goals as goal

pub returns-then-place-len : goal.returns-then-place-len
returns-then-place-len c =
    let inside : c.place_of-place.result < length c.args.doors.now.items = omega (arith, c.if-place-len.true, c.len.ensures, c.args.doors.now.ok.0) in
    let none : c.replace.new.dest ≡ new_memory_door [] = c.replace.ensures.after ∙ c.new-none.ensures ∙ ap new_memory_door c.new.ensures.items in
    let now : MemoryListen = record { at = c.index_mut.result.now.at; door = c.replace.new.dest } in
    subst (λ (door : MemoryDoorState). IsDoorOut c.args.at.now c.args.doors.now.items (set c.args.doors.now.items c.place_of-place.result now) door)
    (sym (c.replace.ensures.value ∙ ap (λ (l : MemoryListen). l.door) c.index_mut.ensures.value))
    (door_taken c.args.doors.now.items c.args.at.now c.place_of-place.result c.index_mut.result.now now c.requires
    (c.place_of-place.ensures ∙ ap (position_or_len (λ (l : MemoryListen). is_address l.at c.args.at.now)) c.as_slice.ensures.value) inside
    (λ i. record { at = (c.index_mut.ensures.value i).at; door = none i }))

pub returns : goal.returns
returns c =
    let long : length c.args.doors.now.items ≤ c.place_of-place.result = omega (arith, c.if-place-len.false, c.len.ensures, c.args.doors.now.ok.0) in
    subst (λ (door : MemoryDoorState). IsDoorOut c.args.at.now c.args.doors.now.items c.args.doors.now.items door)
    (sym (c.new-none.ensures ∙ ap new_memory_door c.new.ensures.items))
    (door_made c.args.doors.now.items c.args.at.now c.place_of-place.result c.requires
    (c.place_of-place.ensures ∙ ap (position_or_len (λ (l : MemoryListen). is_address l.at c.args.at.now)) c.as_slice.ensures.value) long)
