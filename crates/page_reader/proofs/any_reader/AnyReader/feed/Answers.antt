use Rattle.std.proofs.Common.{refl}
use Rattle.page_reader.specs.declared.any_reader.AnyReader.TheVariants.{Text, OpenMetrics}
use Rattle.page_reader.proofs.AnyReaders.{piece_in}
use Rattle.page_reader.proofs.any_reader.AnyReader.feed.Goals as goal

pub returns-in-Text-clause-answer : goal.returns-in-Text-clause-answer
returns-in-Text-clause-answer c = rw c.in-Text.is (piece_in (Text c.in-Text.page) (Text c.feed.new.self) c.args.piece.now c.feed.result refl c.feed.ensures.answer)

pub returns-in-OpenMetrics-clause-answer : goal.returns-in-OpenMetrics-clause-answer
returns-in-OpenMetrics-clause-answer c =
    rw c.in-OpenMetrics.is (piece_in (OpenMetrics c.in-OpenMetrics.page) (OpenMetrics c.feed-in-OpenMetrics.new.self) c.args.piece.now c.feed-in-OpenMetrics.result refl c.feed-in-OpenMetrics.ensures.answer)
