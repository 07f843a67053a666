use Rattle.std.proofs.Common.{◌≡◌, ◌+◌, ◌≤◌, length, take, IsUtf8}
use Rattle.std.specs.List.{suffix_len}
use Rattle.label_sets.specs.Names.{is_blank}
use Rattle.text_grammar.proofs.blanks.without_trailing_blanks.Given as goal

abbrev pub invariant-loop-end : goal.invariant-loop-end
invariant-loop-end l = record {
  within : l.end ≤ length l.bytes;
  value : l.end + suffix_len is_blank l.bytes ≡ length l.bytes + suffix_len is_blank (take l.end l.bytes);
  utf8 : IsUtf8 l.bytes → IsUtf8 (take l.end l.bytes);
}

abbrev pub decreases-loop-end : goal.decreases-loop-end
decreases-loop-end l = l.end
