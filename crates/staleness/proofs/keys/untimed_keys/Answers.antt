use Rattle.page_model.proofs.Laws.{right-distinct_keys}
use Rattle.staleness.proofs.keys.untimed_keys.Goals as goal

pub returns-in_err-put_keys-clause-once : goal.returns-in_err-put_keys-clause-once
returns-in_err-put_keys-clause-once c = right-distinct_keys c.args.page.now c.families.ensures.right

pub returns-clause-once : goal.returns-clause-once
returns-clause-once c = right-distinct_keys c.args.page.now c.families.ensures.right
