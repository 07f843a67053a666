-- What `check` prints. The bridge's own.
use Rattle.std.specs.Prelude.{ℕ, List, ◌++◌, codes}
use Rattle.std.specs.Fmt.{decimal}
use Rattle.page_model.specs.declared.counts.PageCounts.{PageCounts}
use Rattle.page_model.specs.declared.page.Page.{Page}
use Rattle.page_model.specs.Counts.{counts_of}

-- the line of a page without a fault that has so many families and samples
unfoldable pub counted_text : PageCounts → List ℕ
counted_text counts = codes "ok " ++ decimal counts.families ++ codes " families " ++ decimal counts.samples ++ codes " samples\n"

-- the line of a page without a fault
abbrev pub checked_text : Page → List ℕ
checked_text page = counted_text (counts_of page)
