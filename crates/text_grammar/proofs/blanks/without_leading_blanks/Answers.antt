use Rattle.line_scan.proofs.Laws.{utf8_rest, blanks_ascii, tail_slice}
use Rattle.label_sets.specs.Names.{is_blank}
use Rattle.text_grammar.proofs.blanks.without_leading_blanks.Goals as goal

pub returns-clause-utf8 : goal.returns-clause-utf8
returns-clause-utf8 c = λ u. rw (tail_slice c.front_len.result c.args.bytes.now c.front_len.ensures.within, c.front_len.ensures.count) (utf8_rest is_blank blanks_ascii c.args.bytes.now u)
