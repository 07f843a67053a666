use Rattle.std.proofs.Common.{◌≡◌, ◌+◌, ◌<◌, ◌≤◌, ◌++◌, ℕ, List, take, length}
use Rattle.page_model.specs.declared.format.Treatment.{Treatment}
use Rattle.page_feeding.specs.PageFeeding.{Stands}
use Rattle.page_feeding.proofs.reader.PageReader.take_piece.Given as goal

abbrev pub invariant-loop : goal.invariant-loop
invariant-loop g l = record {
  within : l.at ≤ length l.piece;
  bound : l.end ≡ length l.piece;
  fed : l.self.lines.fed ≡ l.initial.self.lines.fed + l.at;
  stopped : l.self.stopped ≡ l.initial.self.stopped;
  answer : (t : Treatment) (limit : ℕ) (fed : List ℕ) → Stands g.G.Grammar.format t limit fed l.initial.self → Stands g.G.Grammar.format t limit (fed ++ take l.at l.piece) l.self × (l.at < length l.piece → l.counter ≤ l.at);
}
