use Rattle.std.proofs.Common.{◌≡◌, drop, [], sym, ap, ◌∙◌}
use Rattle.std.proofs.lemmas.List.{nil_from_length}
use Rattle.start_times.specs.Starts.{some_falls}
use Rattle.start_times.proofs.Nothing.{nothing_falls}
use Rattle.start_times.proofs.falls.some_falls.Goals as goal

pub returns-in-None : goal.returns-in-None
returns-in-None c =
    let olds = drop c.loop-old.old-index c.args.old.now in
    let none : c.loop-old.news.now ≡ [] = nil_from_length c.loop-old.news.now c.in-None.ensures.cases in
    sym (c.loop-old.invariant ∙ (ap (some_falls olds) none ∙ nothing_falls olds))
