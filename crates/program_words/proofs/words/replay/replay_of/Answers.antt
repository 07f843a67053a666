use Rattle.std.proofs.Common.{map, sym, ◌∙◌}
use Rattle.std.specs.Prelude.{string_bytes}
use Rattle.program_words.proofs.ReplayWords.{replay_found, replay_asked, no_replay}
use Rattle.program_words.proofs.words.replay.replay_of.Goals as goal

pub returns-then-not-are_page_words-clause-none : goal.returns-then-not-are_page_words-clause-none
returns-then-not-are_page_words-clause-none c =
    no_replay (map string_bytes c.args.words.now) (map string_bytes c.parts_of-parts.result.rest.now) c.parts_of-parts.result.scrapers c.parts_of-parts.ensures (sym c.are_page_words.ensures ∙ c.if-not-are_page_words.true)

pub returns-in-Ok-clause-found : goal.returns-in-Ok-clause-found
returns-in-Ok-clause-found c =
    replay_found (map string_bytes c.args.words.now) (map string_bytes c.parts_of-parts.result.rest.now) c.parts_of-parts.result.scrapers c.in-Ok.page c.parts_of-parts.ensures
    (sym c.are_page_words.ensures ∙ c.if-not-are_page_words.false) c.in-Ok.ensures

pub returns-in-Err-clause-memory : goal.returns-in-Err-clause-memory
returns-in-Err-clause-memory c =
    replay_asked (map string_bytes c.args.words.now) (map string_bytes c.parts_of-parts.result.rest.now) c.parts_of-parts.result.scrapers c.parts_of-parts.ensures
    (sym c.are_page_words.ensures ∙ c.if-not-are_page_words.false)
