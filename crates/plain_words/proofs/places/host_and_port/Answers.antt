use Rattle.plain_words.proofs.Finding.{place_is, is_no_place}
use Rattle.plain_words.proofs.places.host_and_port.Goals as goal

pub returns-clause-found : goal.returns-clause-found
returns-clause-found c = place_is (λ p. p.host.now) (λ p. p.port) c.args.most c.args.word.now c.parted.result c.parted.ensures

pub returns-clause-none : goal.returns-clause-none
returns-clause-none c = is_no_place (λ p. p.host.now) (λ p. p.port) c.args.most c.args.word.now c.parted.result c.parted.ensures
