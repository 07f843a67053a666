use Rattle.std.proofs.Common.{sym, ap, ◌∙◌, take, map}
use Rattle.std.proofs.lemmas.List.{take-map}
use Rattle.byte_table.specs.Entries.{bytes_of}
use Rattle.byte_table.proofs.strings.Strings.truncate.Goals as goal

pub returns : goal.returns
returns c =
    let of = bytes_of c.self.inside.bytes.items in
    ap (map of) c.truncate.ensures.items ∙ (sym (take-map of c.args.count c.self.inside.entries.items) ∙ ap (take c.args.count) c.self.view_is)
