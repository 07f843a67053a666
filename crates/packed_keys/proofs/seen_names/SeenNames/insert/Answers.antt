use Rattle.std.proofs.Common.{IsUtf8}
use Rattle.packed_keys.proofs.Seen.{still_any}
use Rattle.packed_keys.proofs.seen_names.SeenNames.insert.Goals as goal

pub invariant_of-self : goal.invariant_of-self
invariant_of-self c =
    still_any IsUtf8 c.self.inside.table c.insert.new.self c.as_bytes.result.now c.insert.result c.self.invariant c.as_bytes.ensures.utf8 c.insert.ensures.found c.insert.ensures.added c.insert.ensures.same
