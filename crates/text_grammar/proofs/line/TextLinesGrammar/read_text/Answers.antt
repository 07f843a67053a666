use Rattle.std.proofs.Common.{◌≡◌, ℕ, ◌<◌, List, Result, IfOk, sym, refl, arith, length, eqb-true, false-eqb}
use Rattle.std.proofs.lemmas.Result.{IfOk-weaker}
use Rattle.page_model.specs.declared.format.Format.TheVariants.{Text}
use Rattle.page_model.specs.declared.format.Treatment.{Treatment}
use Rattle.page_model.specs.declared.item.Item.TheVariants as items
use Rattle.page_model.specs.TextItems.{trimmed}
use Rattle.page_model.specs.TextReading.{text_line_of, trimmed_of}
use Rattle.line_scan.specs.declared.line.LineRead.{LineRead}
use Rattle.line_scan.specs.declared.line.LineRead.TheVariants as reads
use Rattle.line_scan.specs.LineReading.{Reads}
use Rattle.text_grammar.proofs.LineSteps.{line-trimmed, trimmed-nothing, trimmed-marked, trimmed-sample}
use Rattle.text_grammar.proofs.line.TextLinesGrammar.read_text.Goals as goal

-- what is read of a line is what is read of it without the blanks at its ends
told : {E : Type 0} (t : Treatment) (line bare : List ℕ) (r : Result LineRead E) → bare ≡ trimmed line → IfOk r (Reads Text t (trimmed_of bare)) → IfOk r (Reads Text t (text_line_of line))
told t line bare r e = IfOk-weaker r (Reads Text t (trimmed_of bare)) (Reads Text t (text_line_of line)) (λ read h. line-trimmed t line bare read e h)

pub marked_line-requires : goal.marked_line-requires
marked_line-requires c = c.in-Some.ensures.utf8 (omega arith) (c.trimmed-bare.ensures.utf8 c.requires)

pub sample_line-requires : goal.sample_line-requires
sample_line-requires c = c.trimmed-bare.ensures.utf8 c.requires

pub returns-then-is_empty : goal.returns-then-is_empty
returns-then-is_empty c =
    let blank : Reads Text c.args.treatment (trimmed_of c.trimmed-bare.result.now) (reads.Item items.Blank) = rw (trimmed-nothing c.trimmed-bare.result.now (eqb-true _ 0 (sym c.if-is_empty.ensures))) (refl, refl) in
    line-trimmed c.args.treatment c.args.line.now c.trimmed-bare.result.now (reads.Item items.Blank) c.trimmed-bare.ensures.value blank

pub returns-in-Some : goal.returns-in-Some
returns-in-Some c =
    let read : IfOk c.marked_line.result (Reads Text c.args.treatment (trimmed_of c.trimmed-bare.result.now)) = rw (trimmed-marked c.trimmed-bare.result.now c.in-Some.rest.now c.in-Some.ensures.value) (c.marked_line.ensures c.args.treatment) in
    told c.args.treatment c.args.line.now c.trimmed-bare.result.now c.marked_line.result c.trimmed-bare.ensures.value read

pub returns-in-None : goal.returns-in-None
returns-in-None c =
    let some : 0 < length c.trimmed-bare.result.now = omega (arith, false-eqb _ 0 c.if-is_empty.ensures) in
    let read : IfOk c.sample_line.result (Reads Text c.args.treatment (trimmed_of c.trimmed-bare.result.now)) = rw (trimmed-sample c.trimmed-bare.result.now some c.in-None.ensures.value) c.sample_line.ensures in
    told c.args.treatment c.args.line.now c.trimmed-bare.result.now c.sample_line.result c.trimmed-bare.ensures.value read
