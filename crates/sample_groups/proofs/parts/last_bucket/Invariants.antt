use Rattle.std.proofs.Common.{◌≡◌, length, filter_map, None}
use Rattle.std.specs.List.{last_or}
use Rattle.sample_groups.specs.Groups.{bucket_in}
use Rattle.sample_groups.proofs.parts.last_bucket.Given as goal

-- none of the parts behind is a bucket
abbrev pub invariant-loop-last : goal.invariant-loop-last
invariant-loop-last l = last_or None (filter_map bucket_in l.parts) ≡ last_or None (filter_map bucket_in l.front)

abbrev pub decreases-loop-last : goal.decreases-loop-last
decreases-loop-last l = length l.front
