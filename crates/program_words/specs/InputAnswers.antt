-- An answer to the bytes on an input. The bridge's own.
use Rattle.std.specs.Prelude.{ℕ, List, Option}
use Rattle.bridge_ports.specs.Inputs.{IsInput}

-- some bytes that may have been on the input are answered with this status and text
pub record HasAnswer (Says : List ℕ → ℕ → List ℕ → Type 0) (left : Option (List ℕ)) (status : ℕ) (text : List ℕ) : Type 0 where
  pub bytes : List ℕ
  pub on_input : IsInput left bytes
  pub says : Says bytes status text
