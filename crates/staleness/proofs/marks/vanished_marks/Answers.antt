use Rattle.std.specs.Option.{option_copied}
use Rattle.staleness.specs.Vanished.{page_or_empty}
use Rattle.staleness.proofs.Unread.{marks_told}
use Rattle.staleness.proofs.marks.vanished_marks.Goals as goal

pub returns : goal.returns
returns c =
    marks_told c.from_vec.result (page_or_empty (option_copied c.args.now)) c.args.before.now c.as_slice.result.now c.in_ok-keys.keys c.of-others.result c.in_ok-gone.gone.items
    c.in_ok-keys.ensures c.of-others.ensures c.as_slice.ensures c.in_ok-gone.ensures c.from_vec.ensures
