use Rattle.std.proofs.Common.{[], ◌∷◌, refl, sym, subst}
use Rattle.std.specs.Prelude.{codes}
use Rattle.bridge_ports.specs.Targets.{Scraped}
use Rattle.program_words.specs.CommandWords.{IsCommand, AskFor, place_target, takes_memory}
use Rattle.replay_script.specs.ScriptParts.{format_word}
use Rattle.program_words.specs.declared.words.Command.TheVariants.{OverPage}
use Rattle.program_words.specs.declared.words.PageCommand.TheVariants.{Convert}
use Rattle.bridge_ports.proofs.Laws.{at_error}
use Rattle.program_words.proofs.WordLaws.{conversion_is, not_zero, place_of, time_of}
use Rattle.program_words.proofs.words.forms.conversion.Goals as goal

pub returns-in_err-target-clause-memory : goal.returns-in_err-target-clause-memory
returns-in_err-target-clause-memory c =
    let place = place_of c.args.instance.now _ c.in-Some.place.host.now c.in-Some.place.port c.as_bytes.ensures.value c.in-Some.ensures.found in
    let time = time_of c.args.time.now _ c.in-Some-number.nanos c.as_bytes-2.ensures.value c.in-Some-number.ensures.found in
    let asks : AskFor takes_memory (codes "convert" ∷ format_word c.args.format ∷ c.args.job.now ∷ c.args.instance.now ∷ c.args.time.now ∷ []) = (
      OverPage c.args.format (Convert (place_target c.args.job.now c.args.instance.now c.in-Some.place.host.now c.in-Some.place.port) c.in-Some-number.nanos),
      conversion_is c.args.format c.args.job.now c.args.instance.now c.args.time.now _ _ _ (not_zero _ _ c.is_empty.ensures c.if-is_empty.false) c.if-job-gt-MOST_JOB_BYTES.false place time.0 time.1,
      refl,
    ) in
    at_error _ _ asks

pub returns-clause-found : goal.returns-clause-found
returns-clause-found c =
    let place = place_of c.args.instance.now _ c.in-Some.place.host.now c.in-Some.place.port c.as_bytes.ensures.value c.in-Some.ensures.found in
    let time = time_of c.args.time.now _ c.in-Some-number.nanos c.as_bytes-2.ensures.value c.in-Some-number.ensures.found in
    subst (λ (t : Scraped). IsCommand (codes "convert" ∷ format_word c.args.format ∷ c.args.job.now ∷ c.args.instance.now ∷ c.args.time.now ∷ []) (OverPage c.args.format (Convert t c.in-Some-number.nanos)))
    (sym c.in_ok-target.ensures)
    (conversion_is c.args.format c.args.job.now c.args.instance.now c.args.time.now c.in-Some.place.host.now c.in-Some.place.port c.in-Some-number.nanos
    (not_zero _ _ c.is_empty.ensures c.if-is_empty.false) c.if-job-gt-MOST_JOB_BYTES.false place time.0 time.1)

pub target-requires-clause-place : goal.target-requires-clause-place
target-requires-clause-place c = place_of c.args.instance.now _ c.in-Some.place.host.now c.in-Some.place.port c.as_bytes.ensures.value c.in-Some.ensures.found
