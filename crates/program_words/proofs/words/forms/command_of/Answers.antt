use Rattle.std.specs.Prelude.{map, string_bytes}
use Rattle.std.proofs.lemmas.Result.{IfOk-weaker}
use Rattle.program_words.proofs.ReplayWords.{none_at_all}
use Rattle.program_words.proofs.words.forms.command_of.Goals as goal

pub returns-in-Some-clause-found : goal.returns-in-Some-clause-found
returns-in-Some-clause-found c = rw c.in-Some.ensures.found c.replay_of.ensures.found

pub returns-in-Some-clause-none : goal.returns-in-Some-clause-none
returns-in-Some-clause-none c = rw c.in-Some.ensures.found c.replay_of.ensures.none

pub returns-in-Some-clause-memory : goal.returns-in-Some-clause-memory
returns-in-Some-clause-memory c = rw c.in-Some.ensures.found c.replay_of.ensures.memory

pub returns-in-None-clause-none : goal.returns-in-None-clause-none
returns-in-None-clause-none c =
    IfOk-weaker c.other_command.result _ _ (λ found none. none_at_all (map string_bytes c.args.words.now) found none c.in-None.ensures.none) c.other_command.ensures.none
