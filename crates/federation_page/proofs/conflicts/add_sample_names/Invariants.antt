use Rattle.std.proofs.Common.{◌≡◌, ◌++◌, ◌||◌, ℕ, List, map, take}
use Rattle.page_model.specs.SuffixNames.{suffix_bytes}
use Rattle.federation_page.specs.Founding.{is_name_among}
use Rattle.federation_page.proofs.conflicts.add_sample_names.Given as goal

-- the sample names of the suffixes passed were added
abbrev pub invariant-loop-suffix : goal.invariant-loop-suffix
invariant-loop-suffix l = (name : List ℕ) → is_name_among l.names name ≡ (is_name_among l.initial.names name || is_name_among (map (λ s. l.candidate.name ++ suffix_bytes s) (take l.suffix-index l.suffixes)) name)
