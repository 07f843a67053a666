-- What is answered of whole bytes.
use Rattle.std.proofs.Common.{◌≡◌, inl, inr, ℕ, List, None, Result, Ok, Err, sym, ◌∙◌}
use Rattle.std.specs.Prelude.{IfErr, IsUtf8}
use Rattle.std.proofs.lemmas.Option.{none-some}
use Rattle.toml.specs.Data.{Members}
use Rattle.toml.specs.Parse.{parse_document}
use Rattle.bridge_config.specs.declared.config.Config.{Config}
use Rattle.bridge_config.specs.declared.fault.ConfigFault.{ConfigFault}
use Rattle.bridge_config.specs.declared.fault.ConfigFault.TheVariants.{Toml}
use Rattle.bridge_config.specs.Configurations.{IsDocument}
use Rattle.bridge_config.specs.ConfigFaults.{HasConfigFault, no_document, in_document}
use Rattle.bridge_config.specs.Readings.{IsFaultOrMemory, Judges}

-- bytes that are no document
pub refused : (bytes : List ℕ) → (IsUtf8 bytes → parse_document bytes ≡ None) → HasConfigFault bytes Toml
refused bytes none = no_document (λ d is. none-some d (sym (none is.utf8) ∙ is.parsed))

-- the fault of a document is that of its bytes
pub judged_fault : (bytes : List ℕ) (d : Members) (r : Result Config ConfigFault) → IsDocument bytes d → Judges d r → IfErr r (IsFaultOrMemory bytes)
judged_fault bytes d (Ok config) is judged = tt
judged_fault bytes d (Err fault) is (inl memory) = inl memory
judged_fault bytes d (Err fault) is (inr has) = inr (in_document d fault is has)
