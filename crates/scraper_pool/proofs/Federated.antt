-- What is copied under the lock is what readers of some table see.
use Rattle.std.proofs.Common.{◌≡◌, ℕ, List, Result, Ok, Err, IfOk, sym, subst}
use Rattle.page_model.specs.declared.event.Shown.{Shown}
use Rattle.page_model.specs.declared.page.Page.{Page}
use Rattle.open_writing.specs.OpenForms.{IsOpenForm}
use Rattle.series_table.specs.Talking.{Talking}
use Rattle.federation_page.specs.Gathering.{AreShowable, federated_page}
use Rattle.target_table.specs.Runs.{Run}
use Rattle.target_table.specs.Tables.{Held, IsTable}
use Rattle.series_select.specs.declared.selector.Selector.{Selector}
use Rattle.series_select.specs.Selection.{selected_text}
use Rattle.scraper_pool.specs.Federating.{AreSeen, IsSeenPage, IsSelectedPage}

pub are_seen : {T E : Type 0} (items : T → List Shown) (w : Talking) (run : Run) (h : Held) (r : Result T E) → IfOk r (λ copies. items copies ≡ h.seen) → IsTable w run h → AreShowable h.seen
    → IfOk r (λ copies. AreSeen w run (items copies))
are_seen items w run h (Ok copies) same table able = record { held = h; table = table; seen = same; showable = subst AreShowable (sym same) able }
are_seen items w run h (Err e) same table able = tt

-- the page of what they see
pub seen_page : {E : Type 0} (w : Talking) (run : Run) (shown seen : List Shown) (r : Result Page E) → AreSeen w run shown → seen ≡ shown → IfOk r (λ page. page ≡ federated_page seen) → IfOk r (λ page. IsOpenForm page)
    → IfOk r (λ page. IsSeenPage w run page)
seen_page w run shown seen (Ok page) are same is form = record { shown = shown; seen = are; page_is = subst (λ (s : List Shown). page ≡ federated_page s) same is; form = form }
seen_page w run shown seen (Err e) are same is form = tt

-- its text, with what selectors match
pub selected_of : (w : Talking) (run : Run) (list : List Selector) (page : Page) (text : List ℕ) → IsSeenPage w run page → text ≡ selected_text list page → IsSelectedPage w run list text
selected_of w run list page text seen is = record { page = page; seen = seen; text_is = is }
