-- The page of items that lines spell is right.
use Rattle.std.proofs.Common.{◌≡◌, Bool, true, false, not, ◌&&◌, List, Option, Some, None, refl, sym, subst, ◌∙◌}
use Rattle.std.specs.Prelude.{if◌then◌else◌}
use Rattle.page_model.specs.declared.item.Item.{Item}
use Rattle.page_model.specs.declared.fault.PageFault.{PageFault}
use Rattle.page_model.specs.declared.rule.Rule.{Rule}
use Rattle.page_model.specs.declared.rule.Rule.TheVariants as rules
use Rattle.page_model.specs.PageValues.{PageValue}
use Rattle.page_model.specs.Written.{Setting}
use Rattle.page_model.specs.Rules.{is_open_metrics}
use Rattle.page_model.specs.Faults.{end_fault}
use Rattle.page_model.specs.Readings.{page_of}
use Rattle.page_model.specs.Pages.{IsPageRead, IsRightPage}
use Rattle.page_model.proofs.Laws.{items_make_text}
use Rattle.family_rules.specs.Checking.{Checking, Stands, HasStopped}
use Rattle.family_rules.specs.Steps.{end_stop, left_stop}
use Rattle.family_rules.specs.TakenLines.{HasLines, KeepsLines}
use Rattle.family_rules.proofs.Built.{end_kept}

-- an end that breaks no rule breaks none where the page ends with a line feed
clean_stop : (c : Checking) (clean : Bool) → end_stop c clean ≡ None → end_stop c true ≡ None
unfolding end_stop
clean_stop c true e = e
clean_stop c false e = go (is_open_metrics c.setting.format) (is_open_metrics c.setting.format && not c.ended) (left_stop c.current) e
  where
    go : (newer unended : Bool) (left : Option Rule) → (if not newer && not false then Some rules.NoNewline else if unended then Some rules.NoEof else left) ≡ None
        → (if not newer && not true then Some rules.NoNewline else if unended then Some rules.NoEof else left) ≡ None
    go true unended left e = e
    go false unended left e = absurd (let h : Some rules.NoNewline ≡ None = e in cc)

-- the page of lines whose end breaks no rule is right
pub right_page : (c : Checking) (clean : Bool) (page : PageValue) → KeepsLines c → ((fault : PageFault) → HasStopped c fault → ⊥)
    → ((st : Setting) (earlier : List Item) → Stands st c earlier → end_fault st earlier clean ≡ None)
    → ((st : Setting) (earlier : List Item) → Stands st c earlier → page_of st earlier ≡ page) → IsRightPage page
right_page c clean page keeps stopped free is = go c.stopped refl
  where
    made : HasLines c → IsRightPage page
    made lines =
        let at_end = end_kept c.setting c lines.items true lines.stands ∙ clean_stop c clean (sym (end_kept c.setting c lines.items clean lines.stands) ∙ free c.setting lines.items lines.stands) in
        (c.setting, subst (IsPageRead c.setting) (is c.setting lines.items lines.stands) (items_make_text c.setting lines.items lines.of_lines lines.stands.faultless at_end))

    go : (o : Option PageFault) → c.stopped ≡ o → IsRightPage page
    go None e = made (keeps e)
    go (Some fault) e = absurd (stopped fault e)
