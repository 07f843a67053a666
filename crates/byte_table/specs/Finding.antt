-- Strings found in order (the bridge's own).
use Rattle.std.specs.Prelude.{◌≡◌, ℕ, ◌<◌, ◌⊎◌, List, Option, Some, IfSome, IsSome, MatchOption, length, slice_get, Vec}
use Rattle.std.specs.Ordering.{nat_cmp}
use Rattle.std.specs.Cmp.Lexicographic.{slice_cmp}
use Rattle.std.specs.BTreeMap.{get, get_by}
use Rattle.std.specs.Global.{Global}
use Rattle.byte_table.specs.declared.ordered.Ordered.{Ordered}
use Rattle.byte_table.specs.Hashes.{second_hash}

-- where the string stands that is found by this hash
abbrev pub first_at : Ordered → ℕ → Option ℕ
first_at o hash = get nat_cmp o.firsts hash

-- where a string stands that is found by its bytes
abbrev pub other_at : Ordered → List ℕ → Option ℕ
other_at o string = get_by (λ (key : Vec ℕ Global). slice_cmp nat_cmp string key.items) o.others

-- a string is found: by its second hash, or else by its bytes
abbrev pub IsFound : Ordered → List (List ℕ) → List ℕ → Type 0
IsFound o strings string = MatchOption (first_at o (second_hash string)) ⊥ (λ at. (slice_get strings at ≡ Some string) ⊎ IsSome (other_at o string))

-- each of the strings is found, and what is found stands there
pub record Finds (o : Ordered) (strings : List (List ℕ)) : Type 0 where
  pub first : (hash : ℕ) → IfSome (first_at o hash) (λ at. at < length strings)
  pub other : (string : List ℕ) → IfSome (other_at o string) (λ at. slice_get strings at ≡ Some string)
  pub each : (i : ℕ) (string : List ℕ) → slice_get strings i ≡ Some string → IsFound o strings string
