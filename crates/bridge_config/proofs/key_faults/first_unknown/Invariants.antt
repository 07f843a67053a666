use Rattle.std.proofs.Common.{◌≡◌}
use Rattle.label_sets.specs.Lists.{first_some}
use Rattle.toml.specs.View.{members_view}
use Rattle.bridge_config.specs.ConfigKeys.{member_keys}
use Rattle.bridge_config.specs.KeyFaults.{level_words, unknown_among}
use Rattle.bridge_config.proofs.key_faults.first_unknown.Given as goal

abbrev pub invariant-loop-key : goal.invariant-loop-key
invariant-loop-key l =
    (goal.iterator-loop-key).can_next l.key-iterator × (goal.iterator-loop-key).is_finite l.key-iterator
    × (first_some (unknown_among (level_words l.level)) (member_keys (members_view l.key-iterator)) ≡ first_some (unknown_among (level_words l.level)) (member_keys (members_view l.table.entries)))
