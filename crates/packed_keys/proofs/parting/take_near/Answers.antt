use Rattle.std.proofs.Common.{refl, take, subst, arith, List, []}
use Rattle.std.proofs.lemmas.List.{take_all}
use Rattle.label_sets.specs.declared.series_key.SeriesKey.{SeriesKey}
use Rattle.packed_keys.specs.Partings.{IsParted, keys_behind}
use Rattle.packed_keys.proofs.Taken.{nothing_parted, one_passed, behind_at, length-behind}
use Rattle.packed_keys.proofs.parting.take_near.Goals as goal

pub loop-at-init : goal.loop-at-init
loop-at-init c = record { next = omega arith; parted = nothing_parted [] [] c.args.strays.now.items c.args.left.now.items refl refl c.requires.strays c.requires.left }

pub loop-at-preserved : goal.loop-at-preserved
loop-at-preserved c =
    let asked = c.args.asked.now in
    record {
      next = c.in_ok-place.ensures.next;
      parted = one_passed (keys_behind asked) (keys_behind c.args.keys.now) c.take_away.new.strays.items c.take_away.new.left.items c.loop-at.at c.in_ok-place.place _ (omega (arith, length-behind asked)) (behind_at asked c.loop-at.at _ c.index-asked-at.is)
          (c.in_ok-place.ensures.parted (take c.loop-at.at (keys_behind asked)) c.loop-at.invariant.parted);
    }

pub returns-clause-parted : goal.returns-clause-parted
returns-clause-parted c =
    let asked = c.args.asked.now in
    subst (λ (ks : List SeriesKey). IsParted ks (take c.loop-at.next (keys_behind c.args.keys.now)) c.loop-at.strays.items c.loop-at.left.items) (take_all c.loop-at.at (keys_behind asked) (omega (arith, length-behind asked))) c.loop-at.invariant.parted
