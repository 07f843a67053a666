use Rattle.std.proofs.Common.{inr, sym, ◌∙◌}
use Rattle.std.proofs.lemmas.Bool.{true≢false}
use Rattle.bridge_config.proofs.AnswerSteps.{refused}
use Rattle.bridge_config.proofs.reading.parse.Goals as goal

pub returns-else-is_memory : goal.returns-else-is_memory
returns-else-is_memory c = inr (refused c.args.bytes.now (c.in-Err.ensures.refused (λ memory. true≢false (sym (c.is_memory.ensures.1 memory) ∙ c.if-is_memory.false))))
