-- The doors of a world in memory: what is to come, and what changes where one is handed out.
use Rattle.std.proofs.Common.{◌≡◌, ◌∙◌, ℕ, ◌<◌, ◌≤◌, Bool, true, false, List, [], map, length, set, get_or, Option, Some, option_map, refl, sym, ap, subst, arith}
use Rattle.std.specs.Prelude.{find, All}
use Rattle.std.specs.List.{position_or_len}
use Rattle.std.proofs.lemmas.List.Folds.{find_past}
use Rattle.std.proofs.lemmas.List.Elements.{All-set, All-get_or}
use Rattle.bridge_ports.specs.declared.talk.Address.{Address}
use Rattle.bridge_ports.specs.declared.memory_world.MemoryListen.{MemoryListen}
use Rattle.bridge_ports.specs.Doors.{new_door}
use Rattle.bridge_ports.specs.InMemory.{MemoryDoorState, door_of, new_memory_door}
use Rattle.bridge_ports.specs.Worlds.{is_address}
use Rattle.bridge_ports.specs.MemoryWorlds.{ListenState, coming_of, coming_of_found}
use Rattle.bridge_ports.specs.WorldMaking.{IsRightListen}
use Rattle.bridge_ports.proofs.Laws.{one_address}
use Rattle.memory_world.specs.WorldParts.{listen_given, IsListenRight, IsDoorOut}
use Rattle.memory_world.proofs.PairLaws.{find_map, find_none, find_here, passes_here}

-- what is found at one address is not found at another
other_address : (a at other : Address) → is_address a at ≡ true → is_address other at ≡ false → is_address a other ≡ false
other_address a at other here apart = by_test (is_address a other) refl
  where
    by_test : (t : Bool) → is_address a other ≡ t → t ≡ false
    by_test true e = absurd (cc (subst (λ (x : Address). is_address x at ≡ true) (one_address a other e) here, apart))
    by_test false e = refl

listen_found : (doors : List MemoryListen) (at : Address) → coming_of (map listen_given doors) at ≡ coming_of_found (option_map listen_given (find (λ (l : MemoryListen). is_address l.at at) doors))
listen_found doors at = ap coming_of_found (find_map (λ (l : ListenState). is_address l.at at) listen_given doors)

fresh_door : (d : MemoryDoorState) → d ≡ new_memory_door d.conns → door_of d ≡ new_door (door_of d).coming
fresh_door d is = subst (λ (e : MemoryDoorState). door_of e ≡ new_door (door_of e).coming) (sym is) refl

right_empty : (at : Address) → IsRightListen (record { at = at; door = new_memory_door [] })
right_empty at = record { unused = refl; fresh = λ k d short. absurd (omega (arith, short)) }

-- the door of an address that was given is taken out
pub door_taken : (doors : List MemoryListen) (at : Address) (place : ℕ) (d y : MemoryListen) → All IsListenRight doors → place ≡ position_or_len (λ (l : MemoryListen). is_address l.at at) doors → place < length doors
    → y ≡ record { at = (get_or doors place d).at; door = new_memory_door [] } → IsDoorOut at doors (set doors place y) (get_or doors place d).door
door_taken doors at place d y right is inside made =
    let x = get_or doors place d in
    let here = passes_here (λ (l : MemoryListen). is_address l.at at) doors place d is inside in
    let found = find_here (λ (l : MemoryListen). is_address l.at at) doors place d is inside in
    let coming : coming_of (map listen_given doors) at ≡ (door_of x.door).coming = listen_found doors at ∙ ap (λ (o : Option MemoryListen). coming_of_found (option_map listen_given o)) found in
    let unused : IsRightListen (listen_given x) = All-get_or IsListenRight doors place d inside right in
    record {
      fresh = fresh_door x.door unused.unused ∙ ap new_door (sym coming);
      others = λ other apart.
          listen_found (set doors place y) other
          ∙ ap (λ (o : Option MemoryListen). coming_of_found (option_map listen_given o))
          (find_past (λ (l : MemoryListen). is_address l.at other) doors place y d
          (other_address x.at at other here apart)
          (subst (λ (l : MemoryListen). is_address l.at other ≡ false) (sym made) (other_address x.at at other here apart)))
          ∙ sym (listen_found doors other);
      right = All-set IsListenRight doors place y (subst IsListenRight (sym made) (right_empty x.at)) right;
    }

-- where none was given, one is made at which none comes
pub door_made : (doors : List MemoryListen) (at : Address) (place : ℕ) → All IsListenRight doors → place ≡ position_or_len (λ (l : MemoryListen). is_address l.at at) doors → length doors ≤ place
    → IsDoorOut at doors doors (new_memory_door [])
door_made doors at place right is long =
    let found = find_none (λ (l : MemoryListen). is_address l.at at) doors place is long in
    let coming : coming_of (map listen_given doors) at ≡ Some [] = listen_found doors at ∙ ap (λ (o : Option MemoryListen). coming_of_found (option_map listen_given o)) found in
    record { fresh = ap new_door (sym coming); others = λ other apart. refl; right = right }
