use Rattle.program_words.specs.StopAnswers.{said, wanting}
use Rattle.bridge_cli.proofs.answer.stop_answer.Goals as goal

pub returns-in-Ok : goal.returns-in-Ok
returns-in-Ok c = rw (c.status.ensures, c.in-Ok.ensures.text) said

pub returns-in-Err : goal.returns-in-Err
returns-in-Err c = wanting c.in-Err.ensures.memory
