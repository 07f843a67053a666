-- Whole numbers in words: decimal digits without a sign and without a leading zero.
-- The bridge's own.
use Rattle.std.specs.Prelude.{ℕ, ◌&&◌, List, Option, bytes_eq, nat_le}
use Rattle.std.specs.Fmt.{decimal}
use Rattle.std.specs.Str.Parse.{digits_value}
use Rattle.label_sets.specs.Lists.{when_true}

-- the number that a word writes, where it writes one of at most `most`: the word is what that number is printed as
unfoldable pub number_in : ℕ → List ℕ → Option ℕ
number_in most word = when_true (bytes_eq (decimal (digits_value 10 word)) word && nat_le (digits_value 10 word) most) (digits_value 10 word)
