use Rattle.page_model.proofs.Decides.{spells_once, written_sound, written_complete}
use Rattle.page_model.proofs.page_laws.spells_once.Goals as goal

pub returns-clause-once : goal.returns-clause-once
returns-clause-once c = spells_once

pub returns-clause-read : goal.returns-clause-read
returns-clause-read c = λ f line w. (written_sound f line w, written_complete f line w)
