use Rattle.std.proofs.Common.{sym, ap, ◌∙◌, ◌+◌, take, Some}
use Rattle.std.proofs.lemmas.List.{take_rest}
use Rattle.plain_words.proofs.Finding.{first_parts, no_parts}
use Rattle.plain_words.proofs.cutting.cut_first.Goals as goal

pub returns-in-None : goal.returns-in-None
returns-in-None c = sym (no_parts c.args.byte c.args.text.now c.in-None.ensures)

pub returns : goal.returns
returns c = ap (λ rest. Some (take c.in-Some.at c.args.text.now, rest)) (take_rest c.args.text.now (c.in-Some.at + 1)) ∙ sym (first_parts c.args.byte c.args.text.now c.in-Some.at c.in-Some.ensures)
