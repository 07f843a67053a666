use Rattle.std.proofs.Common.{◌≡◌, length, arith}
use Rattle.series_table.specs.Records.{Kept}
use Rattle.world_run.proofs.Homes.{wire_home, none_home, ending, one_home, still_away, next_in_place, none_left, all_home, given_home, home_rest}
use Rattle.world_run.proofs.home.bring_home.Goals as goal

pub loop-init : goal.loop-init
loop-init g c = (omega arith, none_home _ _)

pub back-requires-clause-out : goal.back-requires-clause-out
back-requires-clause-out g c =
    let at : length {A = Kept} c.take_last-track.new.self.items ≡ c.len.result = omega (arith, c.len.ensures, c.take_last-track.new.self.ok.0) in
    (still_away _ _ _ c.len.result _ _ at (ending _ _ _ _ _ _ c.take_last-track.ensures.items c.loop.invariant.1) c.requires.away).0

pub back-requires-clause-given : goal.back-requires-clause-given
back-requires-clause-given g c =
    let at : length {A = Kept} c.take_last-track.new.self.items ≡ c.len.result = omega (arith, c.len.ensures, c.take_last-track.new.self.ok.0) in
    (still_away _ _ _ c.len.result _ _ at (ending _ _ _ _ _ _ c.take_last-track.ensures.items c.loop.invariant.1) c.requires.away).1

pub back-requires-clause-scrape : goal.back-requires-clause-scrape
back-requires-clause-scrape g c =
    let at : length {A = Kept} c.take_last-track.new.self.items ≡ c.len.result = omega (arith, c.len.ensures, c.take_last-track.new.self.ok.0) in
    let place = next_in_place _ _ _ c.len.result _ _ at (ending _ _ _ _ _ _ c.take_last-track.ensures.items c.loop.invariant.1) c.requires.places in
    wire_home _ _ _ _ c.into_wires-scrape.ensures.wires.0 c.into_wires-scrape.ensures.track.scrape_wire.free place.scrape

pub back-requires-clause-post : goal.back-requires-clause-post
back-requires-clause-post g c =
    let at : length {A = Kept} c.take_last-track.new.self.items ≡ c.len.result = omega (arith, c.len.ensures, c.take_last-track.new.self.ok.0) in
    let place = next_in_place _ _ _ c.len.result _ _ at (ending _ _ _ _ _ _ c.take_last-track.ensures.items c.loop.invariant.1) c.requires.places in
    wire_home _ _ _ _ c.into_wires-scrape.ensures.wires.1 c.into_wires-scrape.ensures.track.post_wire.free place.post

pub loop-preserved : goal.loop-preserved
loop-preserved g c =
    let at : length {A = Kept} c.take_last-track.new.self.items ≡ c.len.result = omega (arith, c.len.ensures, c.take_last-track.new.self.ok.0) in (
      omega (arith, c.take_last-track.ensures.len, c.loop.invariant.0),
      one_home _ _ _ c.len.result _ (g.W.World.seen c.loop.world) (g.W.World.seen c.back.new.self) _ _ at (ending _ _ _ _ _ _ c.take_last-track.ensures.items c.loop.invariant.1) c.back.ensures c.into_wires-scrape.ensures.wires.0 c.into_wires-scrape.ensures.wires.1,
    )

pub returns-clause-home : goal.returns-clause-home
returns-clause-home g c =
    let none : length {A = Kept} c.loop.left.items ≡ 0 = omega (arith, c.loop.left.ok.0, c.loop.invariant.0, c.loop-test.false, c.len-end.ensures) in
    all_home _ _ _ (none_left _ _ _ _ none c.loop.invariant.1)

pub returns-clause-rest : goal.returns-clause-rest
returns-clause-rest g c =
    let none : length {A = Kept} c.loop.left.items ≡ 0 = omega (arith, c.loop.left.ok.0, c.loop.invariant.0, c.loop-test.false, c.len-end.ensures) in
    home_rest _ _ _ (none_left _ _ _ _ none c.loop.invariant.1)

pub returns-clause-given : goal.returns-clause-given
returns-clause-given g c =
    let none : length {A = Kept} c.loop.left.items ≡ 0 = omega (arith, c.loop.left.ok.0, c.loop.invariant.0, c.loop-test.false, c.len-end.ensures) in
    given_home _ _ _ (none_left _ _ _ _ none c.loop.invariant.1)
