-- Inputs that are read in blocks, up to a limit.
use Rattle.std.proofs.Common.{ℕ, ◌+◌, ◌<◌, ◌≤◌, List, ◌++◌, length, take, Option, arith, length-append}
use Rattle.std.specs.Io.KnownBytes.{Consumes}
use Rattle.std.proofs.lemmas.List.{length-take}
use Rattle.bridge_ports.specs.Inputs.{most_block, TookAtMost, IsOverlong}
use Rattle.bridge_ports.proofs.KnownLaws.{consumes_twice}

-- a block more is too much
pub block_too_much : (most : ℕ) (a b c : Option (List ℕ)) (bytes block : List ℕ) (count : ℕ) → Consumes a b bytes → Consumes b c (take count block) → length bytes ≤ most → count ≤ length block
    → most < length bytes + count → count ≤ most_block → IsOverlong most a c
block_too_much most a b c bytes block count was more few inside many small = record {
  bytes = bytes ++ take count block;
  from = consumes_twice a b c bytes (take count block) was more;
  many = omega (arith, length-append bytes (take count block), length-take count block, many, inside);
  soon = omega (arith, length-append bytes (take count block), length-take count block, few, small);
}

-- a block more was taken
pub block_more : (most : ℕ) (a b c : Option (List ℕ)) (bytes block : List ℕ) (count : ℕ) → Consumes a b bytes → Consumes b c (take count block) → count ≤ length block → length bytes + count ≤ most → TookAtMost most a c
block_more most a b c bytes block count was more inside few = record {
  bytes = bytes ++ take count block;
  from = consumes_twice a b c bytes (take count block) was more;
  few = omega (arith, length-append bytes (take count block), length-take count block, few);
}
