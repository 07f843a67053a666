use Rattle.std.proofs.Common.{◌≡◌, ◌+◌}
use Rattle.pool_tests.proofs.calls.one_track.close.Given as goal

abbrev pub invariant-loop : goal.invariant-loop
invariant-loop l = l.tracks.len + l.counter ≡ l.fn.tracks.len
