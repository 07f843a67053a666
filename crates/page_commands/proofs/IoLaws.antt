-- Bytes that are taken up to the end, where the outside tells them.
use Rattle.std.proofs.Common.{ℕ, List, ◌++◌, Option, Some, None, sym, ap, ◌∙◌}
use Rattle.std.specs.Io.KnownBytes.{Consumes, IsAtEnd}
use Rattle.std.proofs.lemmas.List.{append-nil}
use Rattle.bridge_ports.specs.Inputs.{IsInput}

-- what was taken up to the end is all that was left
pub all_taken : (a b : Option (List ℕ)) (bytes : List ℕ) → Consumes a b bytes → IsAtEnd b → IsInput a bytes
all_taken None b bytes taken end = tt
all_taken (Some us) None bytes taken end = absurd taken
all_taken (Some us) (Some bs) bytes taken end = sym (taken ∙ ap (λ zs. bytes ++ zs) end ∙ append-nil bytes)
