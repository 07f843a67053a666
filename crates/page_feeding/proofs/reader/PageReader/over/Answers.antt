use Rattle.std.proofs.Common.{refl}
use Rattle.page_feeding.proofs.PageSteps.{stands-nothing}
use Rattle.page_feeding.proofs.reader.PageReader.over.Goals as goal

pub returns : goal.returns
returns g c = λ limit stands. stands-nothing g.G.Grammar.format c.args.treatment limit _ refl refl c.requires.most c.requires.stands stands
