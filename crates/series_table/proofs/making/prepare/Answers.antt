use Rattle.std.proofs.Common.{◌∙◌, ℕ, ap, refl}
use Rattle.bridge_ports.specs.Talks.{made_ready}
use Rattle.series_table.proofs.Takings.{cut_short, took_one, prepares}
use Rattle.series_table.proofs.making.prepare.Goals as goal

pub returns-in-Ok-ready : goal.returns-in-Ok-ready
returns-in-Ok-ready g c =
    let taken = c.in-Ok.ensures in (
      taken.0,
      prepares c.args.aim.now (g.W.Wire.state c.args.wire.now) (g.W.Wire.state c.take_event.new.wire) (g.W.Wire.state c.args.post.now) (g.W.Wire.state c.ready.new.self) c.args.state.now c.take_event.new.state taken.0 c.in-Ok.taken c.in-Ok-all_made.made
          taken.1 c.in-Ok-all_made.ensures (c.in-Ok-ready.ensures.done ∙ ap (λ (n : ℕ). made_ready c.args.aim.now.settings.tries n (g.W.Wire.state c.args.post.now)) c.len.ensures),
    )

pub returns-in-Err : goal.returns-in-Err
returns-in-Err g c =
    let aim = c.args.aim.now in
    let taken = c.in-Ok.ensures in (
      cut_short aim.settings.limit aim.settings.max_page aim.target.address (g.W.Wire.state c.args.wire.now) (g.W.Wire.state c.take_event.new.wire) taken.0 taken.1.scrape,
      c.in-Err.ensures.refused,
      took_one aim (g.W.Wire.state c.args.wire.now) (g.W.Wire.state c.take_event.new.wire) c.args.state.now c.take_event.new.state c.in-Ok.taken taken.0 taken.1,
    )

pub returns-in_default-all_made : goal.returns-in_default-all_made
returns-in_default-all_made g c =
    let aim = c.args.aim.now in
    let taken = c.in-Ok.ensures in (
      cut_short aim.settings.limit aim.settings.max_page aim.target.address (g.W.Wire.state c.args.wire.now) (g.W.Wire.state c.take_event.new.wire) taken.0 taken.1.scrape,
      refl,
      took_one aim (g.W.Wire.state c.args.wire.now) (g.W.Wire.state c.take_event.new.wire) c.args.state.now c.take_event.new.state c.in-Ok.taken taken.0 taken.1,
    )
