use Rattle.staleness.proofs.Unread.{with_own_time, without_own_time}
use Rattle.staleness.proofs.marks.is_unread.Goals as goal

pub returns-then-mark-clause-unread : goal.returns-then-mark-clause-unread
returns-then-mark-clause-unread c = with_own_time c.args.others.now c.args.mark.now c.if-mark.true

pub returns-clause-unread : goal.returns-clause-unread
returns-clause-unread c = without_own_time c.args.others.now c.args.mark.now c.in_ok-find.field-0 c.is_none.result c.if-mark.false c.in_ok-find.ensures.place.there c.is_none.ensures
