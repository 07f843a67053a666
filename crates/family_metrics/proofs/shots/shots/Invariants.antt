use Rattle.std.proofs.Common.{◌≡◌, map, take}
use Rattle.family_metrics.specs.Shots.{shot_of}
use Rattle.family_metrics.proofs.shots.shots.Given as goal

-- those of the exemplars passed
abbrev pub invariant-loop-exemplar : goal.invariant-loop-exemplar
invariant-loop-exemplar l = l.shots.items ≡ map (shot_of l.time) (take l.exemplar-index l.exemplars)
