use Rattle.std.proofs.Common.{◌≡◌, drop, map}
use Rattle.std.specs.List.{list_any}
use Rattle.std.specs.Str.{bytes_eq}
use Rattle.page_model.specs.SuffixNames.{suffix_bytes}
use Rattle.series_select.proofs.matching.is_among.Given as goal

-- none of the suffixes passed is these bytes
abbrev pub invariant-loop-suffix : goal.invariant-loop-suffix
invariant-loop-suffix l = list_any (bytes_eq l.bytes) (map suffix_bytes l.suffixes) ≡ list_any (bytes_eq l.bytes) (map suffix_bytes (drop l.suffix-index l.suffixes))
