use Rattle.std.proofs.Common.{sym, ap, ◌∙◌, arith}
use Rattle.std.specs.Fmt.{decimal}
use Rattle.plain_words.proofs.Finding.{no_text, unread, read_number, differ}
use Rattle.plain_words.proofs.whole_number.written.Goals as goal

pub returns-in-Err-clause-none : goal.returns-in-Err-clause-none
returns-in-Err-clause-none c = λ n small. no_text c.args.word.now c.in-Err.ensures.cases.0 n (omega arith)

pub returns-in-Err-parse-clause-none : goal.returns-in-Err-parse-clause-none
returns-in-Err-parse-clause-none c = λ n small e. unread _ _ _ c.parse.ensures.value.0 c.in-Err-parse.is c.args.most (omega arith) n small (c.in-Ok.ensures.cases.0 ∙ e)

pub returns-then-number-most-clause-none : goal.returns-then-number-most-clause-none
returns-then-number-most-clause-none c =
    λ n small e. omega (arith, read_number _ _ _ c.parse.ensures.value.0 c.in-Ok-parse.is c.args.most (omega arith) n small (c.in-Ok.ensures.cases.0 ∙ e))

pub returns-then-ne-clause-none : goal.returns-then-ne-clause-none
returns-then-ne-clause-none c =
    λ n small e.
    let same = read_number _ _ _ c.parse.ensures.value.0 c.in-Ok-parse.is c.args.most (omega arith) n small (c.in-Ok.ensures.cases.0 ∙ e) in
    differ _ _ _ c.ne.ensures c.if-ne.true (c.format.ensures.text ∙ ap decimal same ∙ sym e ∙ sym c.in-Ok.ensures.cases.0)
