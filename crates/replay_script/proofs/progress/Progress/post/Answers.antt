use Rattle.std.proofs.Common.{not, ◌∷◌, [], ◌++◌, refl, sym, ap, ◌∙◌, arith}
use Rattle.replay_script.proofs.KeptRecords.{post_without, posts_full, post_long, post_unfit, post_taken}
use Rattle.replay_script.proofs.progress.Progress.post.Goals as goal

pub returns-then-is_none : goal.returns-then-is_none
returns-then-is_none c = post_without c.args.words.now.at c.args.words.now.ending c.args.words.now.got.now c.args.self.now _ (c.is_none.ensures ∙ ap not c.if-is_none.true)

pub returns-then-not-may_post : goal.returns-then-not-may_post
returns-then-not-may_post c = posts_full c.args.words.now.at c.args.words.now.ending c.args.words.now.got.now c.args.self.now _ (sym c.may_post.ensures ∙ c.if-not-may_post.true)

pub returns-then-words-gt-MOST_BODY_BYTES : goal.returns-then-words-gt-MOST_BODY_BYTES
returns-then-words-gt-MOST_BODY_BYTES c = post_long c.args.words.now.at c.args.words.now.ending c.args.words.now.got.now c.args.self.now _ c.if-words-gt-MOST_BODY_BYTES.true

pub returns-then-not-may_have : goal.returns-then-not-may_have
returns-then-not-may_have c = post_unfit c.args.words.now.at c.args.words.now.ending c.args.words.now.got.now c.args.self.now _ (sym c.may_have.ensures ∙ c.if-not-may_have.true)

pub returns : goal.returns
returns c =
    post_taken c.args.words.now.at c.args.words.now.ending c.args.words.now.got.now c.args.self.now _ (c.is_none.ensures ∙ ap not c.if-is_none.false) (sym c.may_post.ensures ∙ c.if-not-may_post.false) (omega arith)
    (omega (arith, c.if-words-gt-MOST_BODY_BYTES.false)) (sym c.may_have.ensures ∙ c.if-not-may_have.false) refl refl refl
    refl (c.in_ok-push.ensures.items ∙ ap (λ r. c.args.self.now.posts.items ++ r ∷ []) c.in_ok-reply.ensures) refl
