use Rattle.std.proofs.Common.{[], ◌∷◌, ◌++◌, refl, sym, ap, ◌∙◌, append_assoc}
use Rattle.std.proofs.lemmas.List.Elements.{All-rest}
use Rattle.std.proofs.lemmas.Slice.Zip.{Zip-more, either_empty_from_Zip}
use Rattle.label_sets.specs.Lists.{when_true}
use Rattle.page_model.specs.declared.page.Reading.{Reading}
use Rattle.family_metrics.specs.Points.{MayBeLaidOut}
use Rattle.scope_metrics.specs.ScopeParts.{Item, of_reading, placed_item, items_by_scope}
use Rattle.family_metrics.proofs.Laws.{pair_placed, pair_passed, pairs_end}
use Rattle.scope_metrics.proofs.scope_parts.ScopeParts.add_family.Goals as goal

pub loop-reading-preserved-in-Continue-1 : goal.loop-reading-preserved-in-Continue-1
loop-reading-preserved-in-Continue-1 c =
    let more = Zip-more c.loop-reading.reading-iterator c.next.new.self _ _ c.in-Some.is c.next.ensures.steps in
    let item : Item = of_reading c.args.number c.args.family.now c.in-Some.reading.now c.in-Some.place.now in
    record {
      left = All-rest (λ (r : Reading). MayBeLaidOut r.value) _ _ _ more.0 c.loop-reading.invariant.left;
      done = λ items is.
          let before = c.loop-reading.invariant.done items is in (
            before.0 ++ item ∷ [],
            c.in_ok-add_reading.ensures (items ++ before.0) before.1 ∙ ap items_by_scope (append_assoc items before.0 (item ∷ [])),
            pair_placed (placed_item c.args.number c.args.family.now) before.0 (before.0 ++ item ∷ []) _ _ _ _ _ _ _ item refl more.0 more.1
                (ap (λ b. when_true b item) (sym c.if-is_at.ensures)) before.2,
          );
    }

pub loop-reading-preserved : goal.loop-reading-preserved
loop-reading-preserved c =
    let more = Zip-more c.loop-reading.reading-iterator c.next.new.self _ _ c.in-Some.is c.next.ensures.steps in
    let item : Item = of_reading c.args.number c.args.family.now c.in-Some.reading.now c.in-Some.place.now in
    record {
      left = All-rest (λ (r : Reading). MayBeLaidOut r.value) _ _ _ more.0 c.loop-reading.invariant.left;
      done = λ items is.
          let before = c.loop-reading.invariant.done items is in
          (before.0, before.1, pair_passed (placed_item c.args.number c.args.family.now) before.0 _ _ _ _ _ _ _ more.0 more.1 (ap (λ b. when_true b item) (sym c.if-is_at.ensures)) before.2);
    }

pub returns : goal.returns
returns c = λ items is.
    let spent = either_empty_from_Zip c.loop-reading.reading-iterator c.next.new.self _ c.in-None.is c.next.ensures.steps in
    let before = c.loop-reading.invariant.done items is in
    before.1 ∙ ap (λ l. items_by_scope (items ++ l)) (pairs_end (placed_item c.args.number c.args.family.now) before.0 _ _ _ spent before.2)
