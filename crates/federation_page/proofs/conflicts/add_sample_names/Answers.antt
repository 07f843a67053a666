use Rattle.std.proofs.Common.{◌++◌, ◌∙◌, ap, get_or}
use Rattle.std.proofs.lemmas.List.{take_all}
use Rattle.page_model.specs.declared.format.Format.TheVariants.{OpenMetrics}
use Rattle.page_model.specs.declared.suffix.Suffix.{Suffix}
use Rattle.page_model.specs.declared.suffix.Suffix.TheVariants.{Own}
use Rattle.page_model.specs.Suffixes.{suffixes}
use Rattle.page_model.specs.SuffixNames.{suffix_bytes}
use Rattle.open_writing.specs.FamilyKeys.{family_key}
use Rattle.federation_page.proofs.Keeping.{default_free, one_more, all_added, put_in}
use Rattle.federation_page.proofs.conflicts.add_sample_names.Goals as goal

pub loop-suffix-preserved : goal.loop-suffix-preserved
loop-suffix-preserved c =
    let here : Suffix = get_or c.open_suffixes-suffixes.result.now c.loop-suffix.suffix-index Own in
    one_more c.args.names.now c.loop-suffix.names c.insert.new.self c.args.candidate.now.name c.open_suffixes-suffixes.result.now c.loop-suffix.suffix-index here c.in_ok-name.name.items c.loop-suffix-test.true
    (default_free c.open_suffixes-suffixes.result.now c.loop-suffix.suffix-index Own here c.loop-suffix-test.true) (c.in_ok-name.ensures ∙ ap (λ n. n ++ suffix_bytes here) c.name.ensures)
    (put_in c.loop-suffix.names c.insert.new.self c.in_ok-name.name.items c.in_ok-insert.field-0 (rw c.as_slice.ensures.value at c.in_ok-insert.ensures.found) (rw c.as_slice.ensures.value at c.in_ok-insert.ensures.added)) c.loop-suffix.invariant

pub returns : goal.returns
returns c =
    all_added c.args.names.now c.loop-suffix.names c.open_suffixes-suffixes.result.now _ (family_key c.args.candidate.now) (take_all c.loop-suffix.suffix-index c.open_suffixes-suffixes.result.now c.loop-suffix-test.false)
    (c.open_suffixes-suffixes.ensures ∙ ap (suffixes OpenMetrics) c.kind.ensures) c.loop-suffix.invariant
