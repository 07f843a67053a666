use Rattle.std.proofs.Common.{◌≡◌}
use Rattle.scraper_pool.proofs.pool.Pool.work.Given as goal

abbrev pub invariant-loop : goal.invariant-loop
invariant-loop g l = (g.S.Seat.out l.seat ≡ 0) × (g.S.Seat.rests l.seat ≡ g.S.Seat.rests l.initial.seat)
