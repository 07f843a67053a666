-- What other crates may use of this crate's proofs.
use Rattle.std.proofs.Common.{◌≡◌, ℕ, zero, suc, Bool, true, false, ◌||◌, List, [], ◌∷◌, Some, refl}
use Rattle.std.specs.Prelude.{slice_get}
use Rattle.std.specs.List.{list_any}
use Rattle.std.specs.Str.{bytes_eq}
use Rattle.std.specs.Cmp.Lexicographic.{bytes_decides}
pub use Rattle.byte_table.proofs.Found.{place_kept, place_new, placed, absent}

-- a string that stands somewhere is among the strings
pub among : (strings : List (List ℕ)) (string : List ℕ) (at : ℕ) → slice_get strings at ≡ Some string → list_any (bytes_eq string) strings ≡ true
among [] string at e = absurd cc
among (s ∷ ss) string zero e = let same : string ≡ s = cc in rw ((bytes_decides string s).1 same) refl
among (s ∷ ss) string (suc at) e = behind (bytes_eq string s) (among ss string at e)
  where
    behind : (b : Bool) {c : Bool} → c ≡ true → (b || c) ≡ true
    behind true e = refl
    behind false e = e
