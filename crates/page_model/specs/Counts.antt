-- How much a page has (the bridge's own).
use Rattle.std.specs.Prelude.{length}
use Rattle.page_model.specs.declared.counts.PageCounts.{PageCounts}
use Rattle.page_model.specs.PageValues.{PageValue}

-- how many families and sample lines the page has
abbrev pub counts_of : PageValue → PageCounts
counts_of page = record { families = length page.families; samples = page.samples }
