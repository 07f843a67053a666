use Rattle.std.proofs.Common.{◌<◌, ◌≤◌, ◌++◌, refl, subst, ◌∙◌, arith, take, length, ℕ, List, [], inl, inr}
use Rattle.std.proofs.lemmas.Bool.{cases_lt}
use Rattle.std.proofs.lemmas.List.{take_all}
use Rattle.line_scan.specs.LineReading.{setting_of}
use Rattle.page_feeding.specs.PageFeeding.{Stands}
use Rattle.page_feeding.proofs.PageSteps.{piece-on, refused-on, slice_length}
use Rattle.page_feeding.proofs.reader.PageReader.take_piece.Goals as goal

pub returns-in-Err-clause-answer : goal.returns-in-Err-clause-answer
returns-in-Err-clause-answer g c = λ t limit fed s.
    refused-on fed c.args.piece.now c.loop.at c.loop.invariant.within (setting_of g.G.Grammar.format t limit) c.in-Err.fault
    (c.in-Err.ensures.answer t limit (fed ++ take c.loop.at c.args.piece.now) (c.loop.invariant.answer t limit fed s).0)

pub loop-preserved : goal.loop-preserved
loop-preserved g c =
    let size = slice_length [] c.args.piece.now c.loop.at c.loop.invariant.within in
    let taken = c.in-Ok.ensures.taken in
    record {
      within = omega (arith, taken.0);
      bound = refl;
      fed = omega (arith, taken.1, c.loop.invariant.fed);
      stopped = c.in-Ok.ensures.stopped ∙ c.loop.invariant.stopped;
      answer = λ t limit fed s.
          let before = c.loop.invariant.answer t limit fed s in
          let step = c.in-Ok.ensures.answer t limit (fed ++ take c.loop.at c.args.piece.now) before.0 in (
            piece-on fed c.args.piece.now c.loop.at c.loop.invariant.within g.G.Grammar.format t limit c.in-Ok.used c.take_step.new.self step.0,
            λ h. let some : 0 < c.in-Ok.used = step.1 (omega arith) in let so = before.1 (omega arith) in omega arith,
          );
    }

pub returns-clause-answer : goal.returns-clause-answer
returns-clause-answer g c = λ t limit fed s.
    let at_end = c.loop.invariant.answer t limit fed s in
    let whole : length c.args.piece.now ≤ c.loop.at = elim (cases_lt c.loop.at (length c.args.piece.now)) [ inl below ↦ (let k = at_end.1 below in omega arith) | inr h ↦ h ] in
    subst (λ (x : List ℕ). Stands g.G.Grammar.format t limit (fed ++ x) c.loop.self) (take_all c.loop.at c.args.piece.now whole) at_end.0
