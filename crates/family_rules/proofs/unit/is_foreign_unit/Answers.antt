use Rattle.std.proofs.Common.{◌∙◌, sym, Some, None}
use Rattle.std.proofs.lemmas.Slice.Eq.{strip_suffix_is}
use Rattle.std.proofs.lemmas.Bool.Decides.{Decides-eqb}
use Rattle.family_rules.proofs.Endings.{foreign_front, foreign_other}
use Rattle.family_rules.proofs.unit.is_foreign_unit.Goals as goal

pub returns-in-Some : goal.returns-in-Some
returns-in-Some c = foreign_front c.args.family.now c.args.unit.now c.in-Some.front.now c.ends_with.result (sym c.is_empty.ensures ∙ c.if-is_empty.false)
    (rw (c.as_bytes.ensures, c.as_bytes-2.ensures) at (strip_suffix_is Decides-eqb c.as_bytes.result.now c.as_bytes-2.result.now (Some c.in-Some.front) c.in-Some.ensures.cases)) c.ends_with.ensures.value

pub returns-in-None : goal.returns-in-None
returns-in-None c = foreign_other c.args.family.now c.args.unit.now (sym c.is_empty.ensures ∙ c.if-is_empty.false)
    (rw (c.as_bytes.ensures, c.as_bytes-2.ensures) at (strip_suffix_is Decides-eqb c.as_bytes.result.now c.as_bytes-2.result.now None c.in-None.ensures.cases))
