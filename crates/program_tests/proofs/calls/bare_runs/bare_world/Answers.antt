use Rattle.std.proofs.Common.{◌∙◌, List, [], map, sym, ap, subst, arith}
use Rattle.std.specs.List.{IsDistinct}
use Rattle.bridge_ports.specs.MemoryWorlds.{PairState, MemoryWorldState}
use Rattle.bridge_ports.specs.WorldMaking.{MayBeMade}
use Rattle.memory_world.specs.WorldParts.{fresh_pair, seen_home}
use Rattle.world_run.specs.Unused.{IsUnused}
use Rattle.program_tests.proofs.Worlds.{unused_pairs}
use Rattle.program_tests.proofs.calls.bare_runs.bare_world.Goals as goal

-- a world may be made of nothing
nothing_given : MayBeMade [] [] []
unfolding IsDistinct
nothing_given = record { paths = tt; numbers = tt; addresses = tt; right_pairs = λ i d within. absurd (omega (arith, within)); right_doors = λ i d within. absurd (omega (arith, within)) }

pub new-requires-5 : goal.new-requires-5
new-requires-5 c = rw (c.new.ensures, c.new-2.ensures.items, c.new-3.ensures.items) nothing_given

pub returns : goal.returns
returns c = record {
  no_file = ap (λ (w : MemoryWorldState). w.world.asked) c.new-5.ensures;
  no_door = ap (λ (w : MemoryWorldState). w.world.door_at) c.new-5.ensures;
  pairs = λ n low high.
      subst (λ (ps : List PairState). IsUnused (seen_home ps) n) (sym (ap (λ (w : MemoryWorldState). w.pairs) c.new-5.ensures ∙ ap (map fresh_pair) c.new-2.ensures.items)) (unused_pairs [] n tt low high);
}
