-- The bodies of a target in their order, and what came of each. Talks and bodies have the last first.
-- OTLP/HTTP, "OTLP/HTTP Response"; how often a body is tried is the bridge's own.
use Rattle.std.specs.Prelude.{◌≡◌, ℕ, List, [], ◌∷◌, ◌++◌}
use Rattle.bridge_ports.specs.declared.talk.Talk.{Talk}
use Rattle.otlp_sender.specs.declared.posted.Try.{Try}
use Rattle.otlp_sender.specs.declared.posted.Posted.{Posted}
use Rattle.otlp_sender.specs.Posting.{posted_of}
use Rattle.series_table.specs.Talking.{Talking}

-- the talks are the tries of one text, which came to this
pub record CameOfText (w : Talking) (most : ℕ) (text : List ℕ) (talks : List Talk) (p : Posted) : Type 0 where
  pub last : Try
  pub run : w.IsPostRun most text talks last
  pub posted_is : p ≡ posted_of last

-- the talks are the tries of these texts, one text after the other, and came to this
abbrev pub CameOfTexts : Talking → ℕ → List (List ℕ) → List Talk → List Posted → Type 0
CameOfTexts w most [] talks ps = (talks ≡ []) × (ps ≡ [])
CameOfTexts w most (text ∷ texts) talks [] = ⊥
CameOfTexts w most (text ∷ texts) talks (p ∷ ps) = (tried : List Talk) × (before : List Talk) × (talks ≡ tried ++ before) × CameOfText w most text tried p × CameOfTexts w most texts before ps
