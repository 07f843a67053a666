use Rattle.std.proofs.Common.{sym, ◌∙◌, length-set, arith}
use Rattle.std.proofs.lemmas.List.{length-replicate}
use Rattle.otlp_json.proofs.LastDigits.{none_put, digit_put, all_put, hex_written}
use Rattle.otlp_json.proofs.hex.hex_digits.Goals as goal

pub loop-count-init : goal.loop-count-init
loop-count-init g c =
    let long = length-replicate g.row.N 48 in
    record { long = long; stands = none_put _ g.row.N c.args.n long }

pub loop-count-preserved : goal.loop-count-preserved
loop-count-preserved g c =
    let l = c.loop-count in
    record {
      long = length-set l.digits _ _ ∙ l.invariant.long;
      stands = digit_put l.digits _ g.row.N l.count l.left _ c.loop-count-test.true l.invariant.long c.hex_digit.ensures l.invariant.stands;
    }

pub returns : goal.returns
returns g c =
    let l = c.loop-count in
    all_put l.digits _ g.row.N l.count l.left c.loop-count-test.false l.invariant.stands
    ∙ sym (hex_written g.row.N c.args.n c.requires.some (omega arith) c.requires.fits)
