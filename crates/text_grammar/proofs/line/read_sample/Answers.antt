use Rattle.std.proofs.Common.{sym, subst, Option}
use Rattle.std.specs.Prelude.{option_map}
use Rattle.std.specs.Option.{option_copied}
use Rattle.std.proofs.lemmas.Result.{IfOk-weaker}
use Rattle.label_sets.specs.Lists.{some_passes, when_true}
use Rattle.exact_decimal.specs.declared.number.Number.{Number}
use Rattle.exact_decimal.specs.Tokens.{is_number_token}
use Rattle.exact_decimal.specs.Numbers.{number}
use Rattle.page_model.specs.Written.{is_out_of_i64, short_token}
use Rattle.page_model.specs.declared.format.Format.TheVariants.{Text}
use Rattle.line_scan.specs.LineReading.{Reads}
use Rattle.text_grammar.specs.LineReading.{Makes, written_sample}
use Rattle.text_grammar.proofs.LineSteps.{sample-no_number, sample-value_range, sample-stamp_range, sample-made, unread, reads_on}
use Rattle.text_grammar.proofs.line.read_sample.Goals as goal

pub returns-in-Err-NotANumber : goal.returns-in-Err-NotANumber
returns-in-Err-NotANumber c = λ labels held. sample-no_number c.args.treatment c.args.head.name.now labels c.args.value.now (option_copied c.args.stamp) (sym (rw c.in-Err-NotANumber.field-0-is at c.in-Err-NotANumber.ensures))

pub returns-in-Err-OutOfRange : goal.returns-in-Err-OutOfRange
returns-in-Err-OutOfRange c = λ labels held. sample-value_range c.args.treatment c.args.head.name.now labels c.args.value.now (option_copied c.args.stamp) (sym (rw c.in-Err-OutOfRange.field-0-is at c.in-Err-OutOfRange.ensures))

pub returns-in_default : goal.returns-in_default
returns-in_default c = λ labels held. sample-stamp_range c.args.treatment c.args.head.name.now labels c.args.value.now (option_copied c.args.stamp) c.in-Ok.value (sym c.in-Ok.ensures)
    (unread (some_passes is_out_of_i64 (option_copied c.args.stamp)) (option_map (λ t. number (short_token t)) (option_copied c.args.stamp)) c.in_default.ensures)

pub returns : goal.returns
returns c = λ labels held.
    let tokens = option_copied c.args.stamp in
    let on = reads_on (some_passes is_out_of_i64 tokens) (option_map (λ t. number (short_token t)) tokens) c.in-Some.stamp c.in-Some.ensures in
    IfOk-weaker c.made_sample.result (Makes c.args.treatment c.args.head.name.now labels c.in-Ok.value c.in-Some.stamp)
    (Reads Text c.args.treatment (when_true (is_number_token c.args.value.now) (written_sample c.args.head.name.now labels c.args.value.now tokens)))
    (λ read m. sample-made c.args.treatment c.args.head.name.now labels c.args.value.now (option_copied c.args.stamp) c.in-Ok.value read (sym c.in-Ok.ensures) on.0 (subst (λ (s : Option Number). Makes c.args.treatment c.args.head.name.now labels c.in-Ok.value s read) on.1 m))
    (c.made_sample.ensures labels held)
