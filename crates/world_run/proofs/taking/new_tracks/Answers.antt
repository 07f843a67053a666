use Rattle.std.proofs.Common.{◌≡◌, List, length, get_or, refl, ap, ◌∙◌, arith}
use Rattle.bridge_ports.specs.Targets.{Scraped}
use Rattle.world_run.proofs.Homes.{unused_still, next_taken, first_in_place, still_out, out_away, none_kept, rest_of_failed}
use Rattle.world_run.proofs.taking.new_tracks.Goals as goal

pub new_track-requires-clause-unused : goal.new_track-requires-clause-unused
new_track-requires-clause-unused g c κs within =
    let many : length {A = Scraped} c.as_slice-targets.result.now ≡ length {A = Scraped} c.args.config.now.targets = ap (length {A = Scraped}) c.loop-at.invariant.1 in
    unused_still _ _ _ c.requires.unused c.loop-at.invariant.4.rest (omega (arith, many, c.loop-at-test.true, c.requires.right.few_targets))

pub loop-at-preserved : goal.loop-at-preserved
loop-at-preserved g c =
    let many : length {A = Scraped} c.as_slice-targets.result.now ≡ length {A = Scraped} c.args.config.now.targets = ap (length {A = Scraped}) c.loop-at.invariant.1 in
    let t = c.index-targets-at.result in
    let is = c.index-targets-at.is ∙ ap (λ (us : List Scraped). get_or us c.loop-at.at t) c.loop-at.invariant.1 in (
      omega (arith, c.loop-at-test.true),
      c.loop-at.invariant.1,
      omega (arith, c.push_reserved.ensures.len, c.loop-at.invariant.2),
      omega (arith, c.push_reserved.ensures.capacity, c.loop-at.invariant.3),
      next_taken _ _ t _ _ _ _ _ _ c.push_reserved.ensures.items (omega (arith, many, c.loop-at-test.true)) is c.loop-at.invariant.4 c.in-Ok.ensures.first c.in-Ok.ensures.target c.in-Ok.ensures.was c.in-Ok.ensures.out c.in-Ok.ensures.rest,
    )

pub bring_home-requires-clause-places : goal.bring_home-requires-clause-places
bring_home-requires-clause-places g c κs within = first_in_place _ _ c.loop-at.invariant.4.first

pub bring_home-requires-clause-away : goal.bring_home-requires-clause-away
bring_home-requires-clause-away g c κs within =
    out_away c.loop-at.tracks.items c.loop-at.tracks.items _ (still_out _ _ _ _ c.loop-at.invariant.4.many c.loop-at.invariant.4.out c.in-Err.ensures.rest) refl

pub returns-in-Err-clause-kept : goal.returns-in-Err-clause-kept
returns-in-Err-clause-kept g c = none_kept _ _ _ _ _ _ _ c.loop-at.invariant.4 c.in-Err.ensures.rest c.in-Err.ensures.kept c.bring_home.ensures.home c.bring_home.ensures.rest

pub returns-in-Err-clause-rest : goal.returns-in-Err-clause-rest
returns-in-Err-clause-rest g c =
    let many : length {A = Scraped} c.as_slice-targets.result.now ≡ length {A = Scraped} c.args.config.now.targets = ap (length {A = Scraped}) c.loop-at.invariant.1 in
    rest_of_failed _ _ _ _ _ _ _ (omega (arith, many, c.loop-at-test.true)) c.loop-at.invariant.4 c.in-Err.ensures.rest c.bring_home.ensures.rest
