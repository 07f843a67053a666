use Rattle.std.proofs.Common.{◌≡◌, ◌+◌, ◌<◌, ◌^◌, ◌++◌, ◌∷◌, [], ap, ◌∙◌, rules, length, List, ℕ}
use Rattle.byte_table.specs.declared.strings.Entry.{Entry}
use Rattle.byte_table.proofs.Entries.{IsBehind, on_err, bytes_alone, both_pushed, still_entries}
use Rattle.byte_table.proofs.strings.Strings.push.Goals as goal

pub returns-in_err-push-clause-same : goal.returns-in_err-push-clause-same
returns-in_err-push-clause-same c = on_err c.from_residual-in_err-push.result
    (bytes_alone c.self.inside.bytes.items c.extend_from_slice.new.self.items c.args.string.now c.self.inside.entries.items c.push.new.self.items c.self.invariant c.in_ok-extend_from_slice.ensures.items c.in_err-push.ensures.items
    ∙ c.self.view_is)

pub invariant_of-self-2 : goal.invariant_of-self-2
invariant_of-self-2 c =
    let bytes = c.self.inside.bytes.items in
    let es = c.self.inside.entries.items in
    let e : Entry = record { start = c.len-start.result; end = c.len-start.result + length c.args.string.now; hash = c.args.hash } in
    let start : e.start ≡ length bytes = search rules in
    let end : e.end ≡ length bytes + length c.args.string.now = search rules in
    let behind : IsBehind bytes c.args.string.now e = record { start = start; end = end; hash = c.requires } in
    let few : length es + 1 < 2 ^ 32 = search rules in
    still_entries bytes c.extend_from_slice.new.self.items c.args.string.now es c.push.new.self.items e c.self.invariant c.in_ok-extend_from_slice.ensures.items c.in_ok-push.ensures.items behind few

pub returns-clause-added : goal.returns-clause-added
returns-clause-added c =
    let bytes = c.self.inside.bytes.items in
    let es = c.self.inside.entries.items in
    let e : Entry = record { start = c.len-start.result; end = c.len-start.result + length c.args.string.now; hash = c.args.hash } in
    let start : e.start ≡ length bytes = search rules in
    let end : e.end ≡ length bytes + length c.args.string.now = search rules in
    let behind : IsBehind bytes c.args.string.now e = record { start = start; end = end; hash = c.requires } in
    both_pushed bytes c.extend_from_slice.new.self.items c.args.string.now es c.push.new.self.items e c.self.invariant c.in_ok-extend_from_slice.ensures.items c.in_ok-push.ensures.items behind
    ∙ ap (λ (ss : List (List ℕ)). ss ++ c.args.string.now ∷ []) c.self.view_is
