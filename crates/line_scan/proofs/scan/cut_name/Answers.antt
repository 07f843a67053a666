use Rattle.std.proofs.Common.{sym, ◌∙◌}
use Rattle.line_scan.proofs.Cutting.{cut-nothing, cut-first, cut-name}
use Rattle.line_scan.proofs.scan.cut_name.Goals as goal
use Rattle.line_scan.proofs.scan.cut_name.Goals.{in_default-via-in-Some+else-starts, in_default-via-in_default}

pub returns-in-Some : goal.returns-in-Some
returns-in-Some g c = cut-name g.N.NameClass.is_name g.N.NameClass.start g.N.CharClass.test c.args.bytes.now c.cut_chars-cut.result c.cut_chars-cut.ensures.front g.met.N.NameClass.by_first
    c.in-Some.first.now c.in-Some.field-0-1.now c.in-Some.ensures.cases.0 g.met.N.NameClass.ascii c.cut_chars-cut.ensures.rest (sym c.starts.ensures ∙ c.if-starts.true)

pub returns-in_default : goal.returns-in_default
returns-in_default g c = elim c.in_default.branch [
  | in_default-via-in-Some+else-starts w ↦
      cut-first g.N.NameClass.is_name g.N.NameClass.start g.N.CharClass.test c.args.bytes.now c.cut_chars-cut.result c.cut_chars-cut.ensures.front g.met.N.NameClass.by_first
      w.in-Some.first.now w.in-Some.field-0-1.now w.in-Some.ensures.cases.0 ∙ sym w.starts.ensures ∙ w.if-starts.false
  | in_default-via-in_default w ↦ cut-nothing g.N.NameClass.is_name g.N.NameClass.start g.N.CharClass.test c.args.bytes.now c.cut_chars-cut.result c.cut_chars-cut.ensures.front g.met.N.NameClass.not_empty w.in_default.ensures.cases
]
