use Rattle.std.proofs.Common.{ap, sym, ◌∙◌, ◌≡◌, true, false, get_or, [], Some, None}
use Rattle.std.specs.Str.{bytes_eq}
use Rattle.byte_table.specs.Hashes.{second_hash}
use Rattle.byte_table.specs.Finding.{first_at}
use Rattle.byte_table.proofs.Linked.{one_is}
use Rattle.byte_table.proofs.Found.{no_first, no_other, first_within, other_there}
use Rattle.byte_table.proofs.ordered.Ordered.find.Goals as goal

pub returns-in_err-first : goal.returns-in_err-first
returns-in_err-first c =
    let none : first_at c.args.self.now (second_hash c.args.string.now) ≡ None = ap (first_at c.args.self.now) (sym c.second_hash-hash.ensures) ∙ sym c.in_err-first.ensures.value in
    rw c.from_residual.ensures (no_first c.args.self.now c.args.strings.now c.args.string.now c.requires none)

pub returns-then-eq : goal.returns-then-eq
returns-then-eq c =
    let at = c.in_ok-first.field-0.now in
    let first : first_at c.args.self.now (second_hash c.args.string.now) ≡ Some at = ap (first_at c.args.self.now) (sym c.second_hash-hash.ensures) ∙ sym c.in_ok-first.ensures.value in
    let same : bytes_eq c.args.string.now (get_or c.args.strings.now at []) ≡ true = ap (bytes_eq c.args.string.now) (sym c.at.ensures) ∙ (sym c.eq.ensures ∙ c.if-eq.true) in
    one_is c.args.strings.now c.args.string.now at (first_within c.args.self.now c.args.strings.now _ _ c.requires first) same

pub returns-in_err-other : goal.returns-in_err-other
returns-in_err-other c =
    let at = c.in_ok-first.field-0.now in
    let first : first_at c.args.self.now (second_hash c.args.string.now) ≡ Some at = ap (first_at c.args.self.now) (sym c.second_hash-hash.ensures) ∙ sym c.in_ok-first.ensures.value in
    let differs : bytes_eq c.args.string.now (get_or c.args.strings.now at []) ≡ false = ap (bytes_eq c.args.string.now) (sym c.at.ensures) ∙ (sym c.eq.ensures ∙ c.if-eq.false) in
    rw c.from_residual-in_err-other.ensures (no_other c.args.self.now c.args.strings.now c.args.string.now at c.requires first differs (sym c.in_err-other.ensures.value))

pub returns : goal.returns
returns c = other_there c.args.self.now c.args.strings.now c.args.string.now c.in_ok-other.field-0.now c.requires (sym c.in_ok-other.ensures.value)
