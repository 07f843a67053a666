use Rattle.std.proofs.Common.{arith}
use Rattle.program_words.proofs.WordLaws.{no_number, not_one_scraper, says_scrapers}
use Rattle.program_words.proofs.words.replay.scrapers_in.Goals as goal

pub returns-in-None-clause-none : goal.returns-in-None-clause-none
returns-in-None-clause-none c = no_number c.args.word.now c.as_bytes.result.now c.as_bytes.ensures.value c.in-None.ensures.none

pub returns-then-count-eq0-clause-none : goal.returns-then-count-eq0-clause-none
returns-then-count-eq0-clause-none c = not_one_scraper c.args.word.now c.as_bytes.result.now c.in-Some.count c.as_bytes.ensures.value c.in-Some.ensures.found c.if-count-eq0.true

pub returns-clause-found : goal.returns-clause-found
returns-clause-found c = says_scrapers c.args.word.now c.as_bytes.result.now c.in-Some.count c.as_bytes.ensures.value c.in-Some.ensures.found (omega (arith, c.if-count-eq0.false))
