use Rattle.std.proofs.Common.{map, take}
use Rattle.std.specs.Prelude.{string_bytes}
use Rattle.series_select.specs.Selectors.{SpellEach}
use Rattle.program_words.proofs.words.replay.selectors_of.Given as goal

-- the words passed are these selectors
abbrev pub invariant-loop-word : goal.invariant-loop-word
invariant-loop-word l = SpellEach (map string_bytes (take l.word-index l.words)) l.selectors.items
