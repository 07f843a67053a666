use Rattle.std.proofs.Common.{◌≡◌, ◌∙◌, ap, sym, true, nat_eq, arith}
use Rattle.std.specs.List.{starts_with}
use Rattle.line_scan.proofs.Cutting.{text-behind}
use Rattle.line_scan.proofs.scan.behind_text.Goals as goal

pub returns-clause-utf8 : goal.returns-clause-utf8
returns-clause-utf8 c = λ u.
    let begins : starts_with nat_eq c.args.bytes.now c.args.front.now ≡ true = ap (starts_with nat_eq c.args.bytes.now) (sym c.as_bytes.ensures.value) ∙ sym c.starts_with.ensures.value ∙ c.if-not-starts_with.false in
    text-behind c.args.front.now c.args.bytes.now begins (omega (arith, c.if-not-starts_with.ensures.bound)) c.utf8.front u
