use Rattle.std.proofs.Common.{arith, sym, subst}
use Rattle.script_commands.specs.Shelves.{KeepsAllButShelf}
use Rattle.script_commands.proofs.ShelfLaws.{shelved_next, free_next, shelf_again}
use Rattle.script_commands.proofs.shelving.shelve.Goals as goal

pub loop-preserved : goal.loop-preserved
loop-preserved g c = (
  shelved_next c.args.wires.items _ _ _ (g.W.World.seen c.args.world.now) (g.W.World.seen c.loop.world) (g.W.World.seen c.shelve.new.self) c.take_last-scrape.ensures.items c.loop.invariant.0 c.in-Ok.ensures.done,
  free_next _ _ _ c.take_last-scrape.ensures.items c.loop.invariant.1,
  omega (arith, c.take_last-scrape.ensures.len, c.loop.invariant.2),
  shelf_again (g.W.World.seen c.args.world.now) (g.W.World.seen c.loop.world) (g.W.World.seen c.shelve.new.self) _ _ c.loop.invariant.3 c.in-Ok.ensures.done,
)

pub returns-in-Err-clause-kept : goal.returns-in-Err-clause-kept
returns-in-Err-clause-kept g c = subst (KeepsAllButShelf (g.W.World.seen c.args.world.now)) (sym c.in-Err.ensures.refused) c.loop.invariant.3
