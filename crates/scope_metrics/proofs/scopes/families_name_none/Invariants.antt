use Rattle.std.proofs.Common.{◌≡◌, drop}
use Rattle.scope_metrics.specs.Laws.{families_name_none}
use Rattle.scope_metrics.proofs.scopes.families_name_none.Given as goal

-- the readings of the families passed name none
abbrev pub invariant-loop-family : goal.invariant-loop-family
invariant-loop-family l = families_name_none l.families ≡ families_name_none (drop l.family-index l.families)
