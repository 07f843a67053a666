-- A text that is written in steps.
-- The bridge's own.
use Rattle.std.specs.Prelude.{◌≡◌, ◌≢◌, ℕ, List, [], ◌++◌, Option}
use Rattle.std.specs.Io.KnownBytes.{Appends}

-- a front of a text was written, and something of it was left
pub record WroteFront (before after : Option (List ℕ)) (whole : List ℕ) : Type 0 where
  pub front : List ℕ
  pub rest : List ℕ
  pub text : whole ≡ front ++ rest
  pub some_left : rest ≢ []
  pub written : Appends before after front
