use Rattle.std.proofs.Common.{◌≡◌, drop, map}
use Rattle.std.specs.Prelude.{string_bytes}
use Rattle.std.specs.List.{list_all}
use Rattle.program_words.specs.WordSteps.{is_selector}
use Rattle.program_words.proofs.words.replay.are_selectors.Given as goal

-- the words passed are selectors
abbrev pub invariant-loop-word : goal.invariant-loop-word
invariant-loop-word l = list_all is_selector (map string_bytes l.words) ≡ list_all is_selector (map string_bytes (drop l.word-index l.words))
