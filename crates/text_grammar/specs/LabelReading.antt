-- Labels that are read one after the other.
-- Prometheus text format 0.0.4, "Line format".
use Rattle.std.specs.Prelude.{ℕ, List, [], ◌∷◌, Option, Some}
use Rattle.label_sets.specs.declared.label.Label.{Label}
use Rattle.label_sets.specs.Lists.{◌>>=◌, behind}
use Rattle.page_model.specs.TextItems.{without_leading_blanks}

-- what stands behind an equals sign and the quote that opens a value, with blanks in front of each
abbrev pub opened_at : List ℕ → Option (List ℕ)
opened_at cs = behind (61 ∷ []) (without_leading_blanks cs) >>= λ value. behind (34 ∷ []) (without_leading_blanks value)

-- the labels that were found, with the blanks taken off in front of what is left
abbrev pub then_blanks : Option (List Label × List ℕ) → Option (List Label × List ℕ)
then_blanks found = found >>= λ x. Some (x.0, without_leading_blanks x.1)
