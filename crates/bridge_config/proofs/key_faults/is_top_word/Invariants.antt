use Rattle.std.proofs.Common.{◌≡◌, drop, map}
use Rattle.bridge_config.specs.declared.key.Key as Keys
use Rattle.bridge_config.specs.declared.key.Level.TheVariants.{Top}
use Rattle.bridge_config.specs.ConfigKeys.{key_row, is_word_of}
use Rattle.bridge_config.specs.KeyFaults.{level_words}
use Rattle.bridge_config.proofs.key_faults.is_top_word.Given as goal

abbrev pub invariant-loop-key : goal.invariant-loop-key
invariant-loop-key l = is_word_of (map (λ (key : Keys.Key). (key_row key).word) (drop l.key-index l.key-items)) l.word ≡ is_word_of (level_words Top) l.word
