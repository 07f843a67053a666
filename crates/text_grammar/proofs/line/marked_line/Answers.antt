use Rattle.std.proofs.Common.{sym, ◌∙◌, refl}
use Rattle.text_grammar.proofs.LineSteps.{marked-help, marked-type, marked-comment, behind_help}
use Rattle.text_grammar.proofs.line.marked_line.Goals as goal

pub help_line-requires : goal.help_line-requires
help_line-requires c = behind_help c.args.bytes.now c.without_leading_blanks.result.now c.cut_chars-word.result.front.now c.cut_chars-word.result.rest.now c.without_leading_blanks.ensures.value c.cut_chars-word.ensures.front c.cut_chars-word.ensures.rest (sym c.is_word.ensures ∙ c.if-is_word.true) (c.without_leading_blanks.ensures.utf8 c.requires)

pub returns-then-is_word : goal.returns-then-is_word
returns-then-is_word c = λ t. rw (marked-help c.args.bytes.now c.without_leading_blanks.result.now c.cut_chars-word.result.front.now c.cut_chars-word.result.rest.now c.without_leading_blanks.ensures.value c.cut_chars-word.ensures.front c.cut_chars-word.ensures.rest (sym c.is_word.ensures ∙ c.if-is_word.true)) (c.help_line.ensures t)

pub returns-then-is_word-2 : goal.returns-then-is_word-2
returns-then-is_word-2 c = λ t. rw (marked-type c.args.bytes.now c.without_leading_blanks.result.now c.cut_chars-word.result.front.now c.cut_chars-word.result.rest.now c.without_leading_blanks.ensures.value c.cut_chars-word.ensures.front c.cut_chars-word.ensures.rest (sym c.is_word.ensures ∙ c.if-is_word.false) (sym c.is_word-2.ensures ∙ c.if-is_word-2.true)) (c.type_line.ensures t)

pub returns : goal.returns
returns c = λ t. rw (marked-comment c.args.bytes.now c.without_leading_blanks.result.now c.cut_chars-word.result.front.now c.cut_chars-word.result.rest.now c.without_leading_blanks.ensures.value c.cut_chars-word.ensures.front c.cut_chars-word.ensures.rest (sym c.is_word.ensures ∙ c.if-is_word.false) (sym c.is_word-2.ensures ∙ c.if-is_word-2.false)) (refl, refl)
