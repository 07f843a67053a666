-- Two resources of a target are one just where its attributes are.
use Rattle.std.proofs.Common.{◌≡◌, ℕ, true, false, List, [], ◌∷◌, map, refl, sym, ap, ◌∙◌}
use Rattle.label_sets.specs.declared.label.Label.{Label}
use Rattle.label_sets.specs.declared.label_set.LabelSet.{LabelSet}
use Rattle.label_sets.specs.Labels.{label_sets_eq}
use Rattle.label_sets.proofs.Laws.{sets_decide}
use Rattle.otlp_tree.specs.declared.tree.Attribute.{Attribute}
use Rattle.otlp_tree.specs.declared.tree.AttributeValue.{AttributeValue}
use Rattle.otlp_tree.specs.declared.tree.AttributeValue.TheVariants.{Str, Int}
use Rattle.bridge_ports.specs.Targets.{Scraped}
use Rattle.target_core.specs.Trees.{label_attributes, resource_of}

text_of : AttributeValue → List ℕ
text_of (Str text) = text
text_of (Int n) = []

-- the label of an attribute
label_of : Attribute → Label
label_of a = record { name = a.key; value = text_of a.value }

labels_back : (labels : LabelSet) → map label_of (label_attributes labels) ≡ labels
unfolding label_of text_of
labels_back [] = refl
labels_back (l ∷ ls) = ap (λ ms. l ∷ ms) (labels_back ls)

-- what stands behind the first five
behind_five : List Attribute → List Attribute
behind_five (a ∷ b ∷ c ∷ d ∷ e ∷ rest) = rest
behind_five _ = []

attributes_back : (target : Scraped) (attributes : LabelSet) → map label_of (behind_five (resource_of target attributes)) ≡ attributes
unfolding behind_five resource_of
attributes_back target attributes = labels_back attributes

pub resources_differ : (target : Scraped) (a b : LabelSet) → label_sets_eq a b ≡ false → resource_of target b ≡ resource_of target a → ⊥
resources_differ target a b differ same =
    let labels : b ≡ a = sym (attributes_back target b) ∙ ap (λ rs. map label_of (behind_five rs)) same ∙ attributes_back target a in
    let h : true ≡ false = sym ((sets_decide a b).1 (sym labels)) ∙ differ in cc
