use Rattle.std.proofs.Common.{rules}
use Rattle.federation_page.proofs.Keeping.{kept_none}
use Rattle.federation_page.proofs.conflicts.Founders.new.Goals as goal

pub returns-clause-kept : goal.returns-clause-kept
returns-clause-kept c = kept_none _ (search rules) (search rules) (search rules)
