use Rattle.std.specs.Prelude.{◌≡◌, Some, None, IfOk}
use Rattle.std.proofs.Common.{◌<◌, refl, sym, arith, length, eqb-true, false-eqb}
use Rattle.page_model.specs.declared.format.Format.TheVariants.{OpenMetrics}
use Rattle.page_model.specs.declared.rule.Rule.TheVariants as rules
use Rattle.page_model.specs.OpenReading.{open_line_of, sample_of}
use Rattle.line_scan.specs.LineReading.{Reads, says_fault}
use Rattle.openmetrics_grammar.specs.Samples.{IsSampleIn}
use Rattle.openmetrics_grammar.proofs.DescriptorSteps.{line-descriptor, line-sample, line-nothing}
use Rattle.openmetrics_grammar.proofs.line.OpenLinesGrammar.read_text.Goals as goal

pub returns-then-is_empty : goal.returns-then-is_empty
returns-then-is_empty c =
    let refused : says_fault OpenMetrics c.args.treatment (open_line_of c.args.line.now) ≡ Some rules.Syntax = rw (line-nothing c.args.line.now (eqb-true _ 0 (sym c.if-is_empty.ensures))) refl in
    refused

pub returns-in-Some : goal.returns-in-Some
returns-in-Some c =
    let read : IfOk c.descriptor_line.result (Reads OpenMetrics c.args.treatment (open_line_of c.args.line.now)) = rw (line-descriptor c.args.line.now c.in-Some.field-0.now c.in-Some.ensures.value) (c.descriptor_line.ensures c.args.treatment) in
    read

pub returns-in-Some-2 : goal.returns-in-Some-2
returns-in-Some-2 c =
    let some : 0 < length c.args.line.now = omega (arith, false-eqb _ 0 c.if-is_empty.ensures) in
    let is : IsSampleIn (sample_of c.args.line.now) c.sample_of.new.room c.in-Some-2.read = rw c.in-Some-2.is at c.in_ok-read-in-None.ensures in
    let read : IfOk c.made_sample.result (Reads OpenMetrics c.args.treatment (open_line_of c.args.line.now)) = rw (line-sample c.args.line.now some c.in-None.ensures.value, is.found_is) (c.made_sample.ensures is.written is.read) in
    read

pub returns-in-None-2 : goal.returns-in-None-2
returns-in-None-2 c =
    let some : 0 < length c.args.line.now = omega (arith, false-eqb _ 0 c.if-is_empty.ensures) in
    let none : sample_of c.args.line.now ≡ None = rw c.in-None-2.is at c.in_ok-read-in-None.ensures in
    let refused : says_fault OpenMetrics c.args.treatment (open_line_of c.args.line.now) ≡ Some rules.Syntax = rw (line-sample c.args.line.now some c.in-None.ensures.value, none) refl in
    refused
