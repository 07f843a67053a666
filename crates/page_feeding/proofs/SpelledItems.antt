-- The checker of a reader is given items that lines of its format spell.
use Rattle.std.proofs.Common.{◌≡◌, ℕ, List, Option, Some, None, refl, sym, subst, ap, ◌∙◌}
use Rattle.std.specs.Prelude.{option_map}
use Rattle.page_lines.specs.Lines.{Plain}
use Rattle.page_model.specs.declared.format.Format.{Format}
use Rattle.page_model.specs.declared.format.Treatment.{Treatment}
use Rattle.page_model.specs.declared.item.Item.{Item}
use Rattle.page_model.specs.Written.{Written, item_of}
use Rattle.page_model.specs.Faults.{own_fault}
use Rattle.page_model.specs.Pages.{IsItemOfLine}
use Rattle.page_model.specs.PageReading.{written_of}
use Rattle.page_model.proofs.Laws.{written_sound}
use Rattle.family_rules.specs.Checking.{Checking}
use Rattle.family_rules.specs.TakenLines.{MayTake}
use Rattle.line_scan.specs.declared.line.LineRead.TheVariants as reads
use Rattle.line_scan.specs.LineReading.{IsRead, setting_of}
use Rattle.page_feeding.specs.PageFeeding.{GoesBy}

-- what is read of a line is an item of a line
item_of_line : (f : Format) (t : Treatment) (limit : ℕ) (line : List ℕ) (item : Item) → Plain line → IsRead f t line (reads.Item item) → IsItemOfLine (setting_of f t limit) item
item_of_line f t limit line item plain read = go (written_of f line) refl
  where
    go : (says : Option Written) → written_of f line ≡ says → IsItemOfLine (setting_of f t limit) item
    go None e = absurd (let h : None ≡ Some item = sym (ap (option_map (item_of f)) e) ∙ read.1 in cc)
    go (Some w) e = record {
      line = line;
      written = w;
      one_line = plain;
      spelled = written_sound f line w e;
      without_fault = subst (λ says. own_fault (setting_of f t limit) (record { bytes = line; says = says }) ≡ None) e (read.0 limit);
      item_is = let h : Some (item_of f w) ≡ Some item = sym (ap (option_map (item_of f)) e) ∙ read.1 in cc;
    }

-- the checker may be given what is read of a line
pub may_take : (f : Format) (t : Treatment) (c : Checking) (line : List ℕ) (item : Item) → GoesBy f t c → Plain line → IsRead f t line (reads.Item item) → MayTake c item
may_take f t c line item goes plain read = λ working.
    let by = goes working in
    let same : setting_of f t c.setting.limit ≡ c.setting = (λ i. record { format = sym by.0 i; treatment = sym by.1 i; limit = c.setting.limit }) in
    subst (λ st. IsItemOfLine st item) same (item_of_line f t c.setting.limit line item plain read)
