use Rattle.std.proofs.Common.{arith, sym, ◌∙◌}
use Rattle.line_scan.proofs.Laws.{utf8_shorter, blank_small}
use Rattle.std.proofs.lemmas.List.Sums.{suffix_len-take_yes}
use Rattle.text_grammar.proofs.blanks.without_trailing_blanks.Goals as goal

pub loop-end-preserved : goal.loop-end-preserved
loop-end-preserved c = record {
  within = omega arith;
  value = grind (arith, suffix_len-take_yes);
  utf8 = λ u. utf8_shorter c.args.bytes.now c.loop-end.end (omega arith) (omega arith) (blank_small _ (sym c.has.ensures ∙ c.if-has.true)) (c.loop-end.invariant.utf8 u);
}
