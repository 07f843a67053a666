use Rattle.std.proofs.Common.{◌≡◌, ◌++◌, false, map, take}
use Rattle.std.specs.List.{list_any}
use Rattle.page_model.specs.SuffixNames.{suffix_bytes}
use Rattle.federation_page.specs.Founding.{is_name_among}
use Rattle.federation_page.proofs.conflicts.Founders.shares_sample_name.Given as goal

-- no sample name of the suffixes passed is there
abbrev pub invariant-loop-suffix : goal.invariant-loop-suffix
invariant-loop-suffix l = list_any (is_name_among l.self.sample_names) (map (λ s. l.candidate.name ++ suffix_bytes s) (take l.suffix-index l.suffixes)) ≡ false
