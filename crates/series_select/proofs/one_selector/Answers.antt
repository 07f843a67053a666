use Rattle.series_select.proofs.SelectorComplete.{selector_once}
use Rattle.series_select.proofs.one_selector.Goals as goal

pub returns : goal.returns
returns c = selector_once
