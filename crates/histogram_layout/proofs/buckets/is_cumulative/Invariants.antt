use Rattle.std.proofs.Common.{◌≡◌, ◌∷◌, drop}
use Rattle.histogram_layout.specs.Layouts.{are_cumulative}
use Rattle.histogram_layout.proofs.buckets.is_cumulative.Given as goal

-- the buckets are cumulative where those from the last one seen on are
abbrev pub invariant-loop-bucket : goal.invariant-loop-bucket
invariant-loop-bucket l = are_cumulative l.fn.buckets ≡ are_cumulative (l.before ∷ drop l.bucket-index l.rest)
