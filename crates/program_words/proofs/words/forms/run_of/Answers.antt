use Rattle.std.proofs.Common.{[], ◌∷◌, refl}
use Rattle.std.specs.Prelude.{codes}
use Rattle.program_words.specs.declared.words.Command.TheVariants.{Run}
use Rattle.program_words.specs.CommandWords.{AskFor, takes_memory}
use Rattle.program_words.proofs.words.forms.run_of.Goals as goal

pub returns-in-Err-clause-memory : goal.returns-in-Err-clause-memory
returns-in-Err-clause-memory c = let asks : AskFor takes_memory (codes "run" ∷ c.args.path.now ∷ []) = (Run c.args.path.now, record { spelled = refl; limits = tt }, refl) in asks
