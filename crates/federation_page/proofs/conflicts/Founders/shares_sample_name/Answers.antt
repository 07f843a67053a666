use Rattle.std.proofs.Common.{◌++◌, ◌∙◌, ap, sym, get_or}
use Rattle.page_model.specs.declared.format.Format.TheVariants.{OpenMetrics}
use Rattle.page_model.specs.declared.suffix.Suffix.{Suffix}
use Rattle.page_model.specs.declared.suffix.Suffix.TheVariants.{Own}
use Rattle.page_model.specs.Suffixes.{suffixes}
use Rattle.page_model.specs.SuffixNames.{suffix_bytes}
use Rattle.open_writing.specs.FamilyKeys.{family_key}
use Rattle.federation_page.proofs.Keeping.{default_free, shares_here}
use Rattle.federation_page.proofs.conflicts.Founders.shares_sample_name.Goals as goal

pub returns-then-is_some : goal.returns-then-is_some
returns-then-is_some c =
    let here : Suffix = get_or c.open_suffixes-suffixes.result.now c.loop-suffix.suffix-index Own in
    shares_here c.args.self.now.sample_names c.open_suffixes-suffixes.result.now (family_key c.args.candidate.now) c.loop-suffix.suffix-index here c.in_ok-name.name.items c.find.result
    (c.open_suffixes-suffixes.ensures ∙ ap (suffixes OpenMetrics) c.kind.ensures) c.loop-suffix-test.true (default_free c.open_suffixes-suffixes.result.now c.loop-suffix.suffix-index Own here c.loop-suffix-test.true)
    (c.in_ok-name.ensures ∙ ap (λ n. n ++ suffix_bytes here) c.name.ensures) (rw c.as_slice.ensures.value at c.find.ensures) (sym c.is_some.ensures ∙ c.if-is_some.true)
