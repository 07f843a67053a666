use Rattle.std.proofs.Common.{sym, ◌∙◌}
use Rattle.replay_script.proofs.Fronts.{no_line, two_front, four_front, other_front}
use Rattle.replay_script.proofs.parts.front_part.Goals as goal

pub returns-in-None : goal.returns-in-None
returns-in-None c = sym (no_line c.args.text.now c.in-None.ensures)

pub returns-in-Some-header_part : goal.returns-in-Some-header_part
returns-in-Some-header_part c = sym (two_front c.args.text.now _ _ _ _ _ c.in-Some.ensures c.in-Two.ensures c.in-Some-header_part.ensures)

pub returns-in-None-header_part : goal.returns-in-None-header_part
returns-in-None-header_part c = sym (two_front c.args.text.now _ _ _ _ _ c.in-Some.ensures c.in-Two.ensures c.in-None-header_part.ensures)

pub returns-in-Four : goal.returns-in-Four
returns-in-Four c = c.four_words.ensures ∙ sym (four_front c.args.text.now _ _ _ _ _ _ c.in-Some.ensures c.in-Four.ensures)

pub returns-in-Other : goal.returns-in-Other
returns-in-Other c = sym (other_front c.args.text.now _ _ c.in-Some.ensures c.in-Other.ensures)
