use Rattle.std.proofs.Common.{◌∙◌, ap, subst, IsUtf8, ◌∷◌}
use Rattle.line_scan.proofs.Utf8.{utf8_tail}
use Rattle.line_scan.proofs.scan.behind.Goals as goal

pub returns-in-Some-clause-utf8 : goal.returns-in-Some-clause-utf8
returns-in-Some-clause-utf8 c = λ small u.
    utf8_tail c.args.byte c.in-Some.rest.now small (subst IsUtf8 (c.in-Some.ensures.cases.0 ∙ ap (λ n. n ∷ c.in-Some.rest.now) c.if-first-byte.true) u)
