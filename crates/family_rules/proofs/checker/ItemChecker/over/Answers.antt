use Rattle.std.proofs.Common.{refl}
use Rattle.page_model.specs.Owners.{owned_lines}
use Rattle.family_rules.specs.GroupRuns.{nearest_runs}
use Rattle.family_rules.specs.Checking.{left_families, current_family, seen_above}
use Rattle.family_rules.proofs.checker.ItemChecker.over.Goals as goal

pub returns : goal.returns
unfolding owned_lines left_families current_family nearest_runs seen_above
returns c = record {
  setting = refl;
  left = c.new.ensures;
  current = refl;
  runs = c.new-2.ensures;
  seen = c.new-3.ensures;
  samples = refl;
  ended = refl;
  working = refl;
  faultless = tt;
}
