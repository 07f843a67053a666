use Rattle.target_core.proofs.MarkedOnce.{marked_once, marker_start_is_before}
use Rattle.target_core.proofs.tree_laws.gone_are_marked_once.Goals as goal

pub returns-clause-once : goal.returns-clause-once
returns-clause-once c = marked_once

pub returns-clause-start : goal.returns-clause-start
returns-clause-start c = marker_start_is_before
