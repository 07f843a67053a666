use Rattle.std.proofs.Common.{sym, subst, drop}
use Rattle.std.specs.Prelude.{◌+◌}
use Rattle.exact_decimal.specs.Decimals.{DecimalValue}
use Rattle.std.specs.Prelude.{List}
use Rattle.sample_groups.proofs.Adding.{Gathers, gathers_none, gathers_one, gathers_other, gathers_all}
use Rattle.sample_groups.proofs.places.places_of.Goals as goal
use Rattle.sample_groups.proofs.places.places_of.Goals.{in-Quantile+in_ok-insert, in_default}

pub loop-part-init : goal.loop-part-init
loop-part-init c = gathers_none c.args.parts.now c.new-places.result c.new-places.ensures

pub loop-part-preserved : goal.loop-part-preserved
loop-part-preserved c =
    let all = c.args.parts.now in
    let next : List DecimalValue → Type 0 = λ ps. Gathers all ps (drop (c.loop-part.part-index + 1) all) in
    elim c.match-part.branch [
      | in-Quantile+in_ok-insert w ↦ subst next (sym w.places-is) (gathers_one all c.loop-part.places _ c.loop-part.part-index c.part-item.result w.in-Quantile.quantile c.loop-part-test.true c.part-item.is w.in-Quantile.is w.in_ok-insert.ensures c.loop-part.invariant)
      | in_default w ↦ subst next (sym w.places-is) (gathers_other all c.loop-part.places c.loop-part.part-index c.part-item.result c.loop-part-test.true c.part-item.is w.in_default.not-Quantile c.loop-part.invariant)
    ]

pub returns : goal.returns
returns c = gathers_all c.args.parts.now c.loop-part.places c.loop-part.part-index c.loop-part-test.false c.loop-part.invariant
