use Rattle.writing_laws.proofs.ReadPages.{read_pages}
use Rattle.writing_laws.proofs.read_pages_are_formed.Goals as goal

pub returns : goal.returns
returns c = read_pages
