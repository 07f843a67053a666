use Rattle.std.proofs.Common.{◌≡◌}
use Rattle.scraper_pool.proofs.run.visit_rest.Given as goal

abbrev pub invariant-loop : goal.invariant-loop
invariant-loop g l = g.S.Seat.out l.seat ≡ 0
