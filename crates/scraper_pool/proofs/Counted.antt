-- That the counts of a share tell a turn.
use Rattle.std.proofs.Common.{refl, arith}
use Rattle.scraper_pool.specs.declared.turn.Turn.TheVariants.{Visited, Nothing}
use Rattle.scraper_pool.specs.Laws.{TurnsAreTold}

pub turns_told : TurnsAreTold
turns_told before after Visited few rare is = record {
  visited = (λ e. (let a = is.1.0 in omega arith), λ e. refl);
  nothing = (λ e. absurd cc, λ e. absurd (let b = is.1.1 in omega arith));
}
turns_told before after Nothing few rare is = record {
  visited = (λ e. absurd cc, λ e. absurd (let a = is.1.0 in omega arith));
  nothing = (λ e. (let b = is.1.1 in omega arith), λ e. refl);
}
