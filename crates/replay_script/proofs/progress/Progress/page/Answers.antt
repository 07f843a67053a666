use Rattle.std.proofs.Common.{not, ◌∷◌, [], ◌++◌, refl, ap, ◌∙◌, arith}
use Rattle.replay_script.proofs.KeptRecords.{no_target_above, long_page, page_taken}
use Rattle.replay_script.proofs.progress.Progress.page.Goals as goal

pub returns-then-is_none : goal.returns-then-is_none
returns-then-is_none c = no_target_above c.args.page.now.at c.args.page.now.format c.args.page.now.body.now c.args.self.now _ (c.is_none.ensures ∙ ap not c.if-is_none.true)

pub returns-then-page-gt-MOST_BODY_BYTES : goal.returns-then-page-gt-MOST_BODY_BYTES
returns-then-page-gt-MOST_BODY_BYTES c = long_page c.args.page.now.at c.args.page.now.format c.args.page.now.body.now c.args.self.now _ c.if-page-gt-MOST_BODY_BYTES.true

pub returns : goal.returns
returns c =
    let put = c.in_ok-put_reply.ensures in
    page_taken c.args.page.now.at c.args.page.now.format c.args.page.now.body.now c.args.self.now _ (c.is_none.ensures ∙ ap not c.if-is_none.false) (omega arith) (omega (arith, c.if-page-gt-MOST_BODY_BYTES.false)) put.place put.header put.target
    (put.scrapes ∙ ap (λ r. c.args.self.now.scrapes.items ++ r ∷ []) c.in_ok-reply.ensures) put.posts put.finished
