use Rattle.std.proofs.Common.{sym, ap, subst, ◌∙◌, ◌<◌, length, get_or, [], IsUtf8, List, ℕ}
use Rattle.packed_keys.proofs.Seen.{name_at}
use Rattle.packed_keys.proofs.seen_names.SeenNames.name.Goals as goal

pub from_utf8-requires : goal.from_utf8-requires
from_utf8-requires c =
    let lt : c.args.at < length c.self.inside.table = subst (λ (ss : List (List ℕ)). c.args.at < length ss) (sym c.self.view_is) c.requires in
    subst IsUtf8 (sym c.at.ensures) (c.self.invariant c.args.at [] lt)

pub returns : goal.returns
returns c = name_at c.args.self.now c.args.at c.at.result.now c.from_utf8.result c.requires (c.at.ensures ∙ ap (λ (ss : List (List ℕ)). get_or ss c.args.at []) c.self.view_is) c.from_utf8.ensures
