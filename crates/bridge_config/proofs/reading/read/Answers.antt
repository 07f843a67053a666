use Rattle.toml.specs.View.{table_view}
use Rattle.bridge_config.proofs.AnswerSteps.{judged_fault}
use Rattle.bridge_config.proofs.reading.read.Goals as goal

pub returns-clause-fault : goal.returns-clause-fault
returns-clause-fault c = judged_fault c.args.bytes.now (table_view c.in_ok-document.document) c.judge.result c.in_ok-document.ensures c.judge.ensures
