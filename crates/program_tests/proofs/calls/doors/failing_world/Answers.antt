use Rattle.std.proofs.Common.{◌≡◌, List, length, map, sym, ap, subst, ◌∙◌}
use Rattle.std.proofs.lemmas.List.{length-map}
use Rattle.bridge_ports.specs.MemoryWorlds.{PairState, MemoryWorldState}
use Rattle.memory_world.specs.WorldParts.{file_given, fresh_pair, listen_given, seen_home}
use Rattle.world_run.specs.Unused.{IsUnused}
use Rattle.program_tests.proofs.Worlds.{may_be_made, two_unused}
use Rattle.program_tests.proofs.calls.doors.failing_world.Goals as goal

pub new-requires : goal.new-requires
new-requires c =
    let one : length (map file_given c.in_ok-files.files) ≡ 1 = length-map c.in_ok-files.files file_given ∙ c.in_ok-files.ensures in
    rw (c.in_ok-pairs.ensures.items, c.in_ok-doors.ensures.items)
    (may_be_made (map file_given c.in_ok-files.files) c.in_ok-first.first c.in_ok-second.second (listen_given c.in_ok-listen.field-0) one c.in_ok-first.ensures.number c.in_ok-second.ensures.number c.in_ok-first.ensures.right c.in_ok-second.ensures.right c.in_ok-listen.ensures)

pub returns : goal.returns
returns c = record {
  no_file = ap (λ (w : MemoryWorldState). w.world.asked) c.new.ensures;
  no_door = ap (λ (w : MemoryWorldState). w.world.door_at) c.new.ensures;
  pairs = λ n low high.
      subst (λ (ps : List PairState). IsUnused (seen_home ps) n) (sym (ap (λ (w : MemoryWorldState). w.pairs) c.new.ensures ∙ ap (map fresh_pair) c.in_ok-pairs.ensures.items))
      (two_unused c.in_ok-first.first c.in_ok-second.second n c.in_ok-first.ensures.scrape c.in_ok-first.ensures.post c.in_ok-second.ensures.scrape c.in_ok-second.ensures.post low high);
}
