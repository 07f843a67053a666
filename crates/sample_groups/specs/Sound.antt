-- Samples of one family of which none breaks a rule on names, values, thresholds or their order.
-- The rules are those of the page: `Suffix`, `Value`, `Threshold`, `Order`.
use Rattle.std.specs.Prelude.{◌≡◌, ℕ, false, ⊤, List, [], ◌∷◌}
use Rattle.label_sets.specs.declared.kind.Kind.{Kind}
use Rattle.page_model.specs.declared.item.Sample.{Sample}
use Rattle.page_model.specs.Written.{Setting}
use Rattle.page_model.specs.Rules.{has_wrong_suffix, has_bad_value, has_bad_threshold, is_out_of_order}

-- the sample breaks none of them, under the family's samples above it, the nearest first
pub record IsSoundSample (st : Setting) (kind : Kind) (family : List ℕ) (above : List Sample) (s : Sample) : Type 0 where
  pub named : has_wrong_suffix st kind family s ≡ false
  pub valued : has_bad_value st.format kind family s ≡ false
  pub placed : has_bad_threshold kind family s ≡ false
  pub ordered : is_out_of_order st kind family above s ≡ false

-- none of the samples, the nearest first, breaks one under those above it
abbrev pub AreSound : Setting → Kind → List ℕ → List Sample → Type 0
AreSound st kind family [] = ⊤
AreSound st kind family (s ∷ above) = IsSoundSample st kind family above s × AreSound st kind family above
