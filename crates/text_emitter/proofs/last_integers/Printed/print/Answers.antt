use Rattle.std.proofs.Common.{rules}
use Rattle.std.proofs.lemmas.Fmt.{length-decimal-le}
use Rattle.text_emitter.proofs.last_integers.Printed.print.Goals as goal

pub write_digits-self-requires : goal.write_digits-self-requires
write_digits-self-requires c = search (rules, length-decimal-le 20)
