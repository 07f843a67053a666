-- Tables of characters.
use Rattle.std.proofs.Common.{◌≡◌, ℕ, ◌<◌, Bool, true, not, nat_eq, get_or, List}
use Rattle.std.proofs.lemmas.Bool.{agree_below, agree_below_at}

-- a table that has a comma at each byte that doesn't pass the test, and another byte at each that does
abbrev pub is_table_of : (ℕ → Bool) → List ℕ → Bool
is_table_of test table = agree_below (λ k. not (nat_eq (get_or table k 0) 44)) test 256

pub from_table : (test : ℕ → Bool) (table : List ℕ) (b : ℕ) → b < 256 → is_table_of test table ≡ true → not (nat_eq (get_or table b 0) 44) ≡ test b
from_table test table b small all = agree_below_at (λ k. not (nat_eq (get_or table k 0) 44)) test 256 b all small
