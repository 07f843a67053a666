use Rattle.std.proofs.Common.{not, ◌∷◌, [], ◌++◌, refl, sym, ap, ◌∙◌, arith}
use Rattle.replay_script.proofs.KeptRecords.{scrape_without, scrape_long, scrape_unfit, scrape_taken}
use Rattle.replay_script.proofs.progress.Progress.scrape.Goals as goal

pub returns-then-is_none : goal.returns-then-is_none
returns-then-is_none c = scrape_without c.args.words.now.at c.args.words.now.ending c.args.words.now.got.now c.args.self.now _ (c.is_none.ensures ∙ ap not c.if-is_none.true)

pub returns-then-words-gt-MOST_BODY_BYTES : goal.returns-then-words-gt-MOST_BODY_BYTES
returns-then-words-gt-MOST_BODY_BYTES c = scrape_long c.args.words.now.at c.args.words.now.ending c.args.words.now.got.now c.args.self.now _ c.if-words-gt-MOST_BODY_BYTES.true

pub returns-then-not-may_have : goal.returns-then-not-may_have
returns-then-not-may_have c = scrape_unfit c.args.words.now.at c.args.words.now.ending c.args.words.now.got.now c.args.self.now _ (sym c.may_have.ensures ∙ c.if-not-may_have.true)

pub returns : goal.returns
returns c =
    let put = c.in_ok-put_reply.ensures in
    scrape_taken c.args.words.now.at c.args.words.now.ending c.args.words.now.got.now c.args.self.now _ (c.is_none.ensures ∙ ap not c.if-is_none.false) (omega arith)
    (omega (arith, c.if-words-gt-MOST_BODY_BYTES.false)) (sym c.may_have.ensures ∙ c.if-not-may_have.false) put.place put.header put.target
    (put.scrapes ∙ ap (λ r. c.args.self.now.scrapes.items ++ r ∷ []) c.in_ok-reply.ensures) put.posts put.finished
