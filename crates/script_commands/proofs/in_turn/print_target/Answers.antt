use Rattle.script_commands.proofs.TurnLaws.{shows_last}
use Rattle.script_commands.proofs.in_turn.print_target.Goals as goal

pub returns-in-Ok-kept-clause-shown : goal.returns-in-Ok-kept-clause-shown
returns-in-Ok-kept-clause-shown g c = λ asked.
    let track = c.print_rounds-printed.new.track in (
      track.shown,
      shows_last c.args.turn.keeps c.args.turn.header.now c.args.turn.target.now c.args.turn.place track c.track_wires-wires.result c.requires.target c.in-Ok-printed.ensures.visited c.track_wires-wires.ensures.track c.track_wires-wires.ensures.wires,
      c.in-Ok-kept.ensures asked,
    )
