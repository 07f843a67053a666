-- What an input comes to that holds a script.
use Rattle.std.proofs.Common.{◌≡◌, ℕ, List, length, Option, Some, None, refl, ap, subst, arith, length-append}
use Rattle.replay_script.specs.declared.script.Script.{Script}
use Rattle.replay_script.specs.declared.fault.ScriptFault.{ScriptFault}
use Rattle.replay_script.specs.declared.fault.ScriptFault.TheVariants as faults
use Rattle.replay_script.specs.Scripts.{IsScript}
use Rattle.replay_script.specs.Progresses.{IsFaultOf}
use Rattle.replay_script.proofs.Laws.{scripts_are_right}
use Rattle.program_words.specs.declared.status.Status.TheVariants.{TooLong}
use Rattle.program_words.specs.Limits.{most_script}
use Rattle.program_words.specs.Statuses.{code_of}
use Rattle.series_select.specs.declared.selector.Selector.{Selector}
use Rattle.program_words.specs.Stops.{too_long_text, script_stop}
use Rattle.bridge_ports.specs.Inputs.{IsOverlong}
use Rattle.script_commands.specs.ScriptAnswers.{IsScriptAnswer, script_refused, script_too_long}
use Rattle.script_commands.specs.Replays.{IsReplayWith}
use Rattle.program_words.specs.InputAnswers.{HasAnswer}
use Rattle.program_words.specs.StopAnswers.{StopsAs}
use Rattle.script_commands.specs.Printing.{HoldsBytes, HoldsScript}

-- the answer to an input that is too long
pub too_long_script : (page : Option (List Selector)) (left after : Option (List ℕ)) → IsOverlong most_script left after → HasAnswer (IsScriptAnswer (IsReplayWith page)) left (code_of TooLong) too_long_text
too_long_script page None after over = record { bytes = over.bytes; on_input = tt; says = script_too_long over.many }
too_long_script page (Some bytes) None over = absurd over.from
too_long_script page (Some bytes) (Some rest) over =
    record { bytes = bytes; on_input = refl; says = script_too_long (omega (arith, over.many, ap (length {A = ℕ}) over.from, length-append over.bytes rest)) }

-- the answer to a script with a fault
pub script_fault : (page : Option (List Selector)) (left : Option (List ℕ)) (bytes read : List ℕ) (fault : ScriptFault) → HoldsBytes most_script left bytes → read ≡ bytes → IsFaultOf read fault → StopsAs (IsScriptAnswer (IsReplayWith page)) left (script_stop fault)
script_fault page left bytes read (faults.Line line) holds same is =
    let has = subst (λ bs. IsFaultOf bs (faults.Line line)) same is in
    record { bytes = bytes; on_input = holds.on_input; says = script_refused line holds.short has }
script_fault page left bytes read faults.Memory holds same is = tt

-- the script that an input holds
pub holds_script : (left : Option (List ℕ)) (bytes read : List ℕ) (script : Script) → HoldsBytes most_script left bytes → read ≡ bytes → IsScript read script → HoldsScript left script
holds_script left bytes read script holds same is =
    let At : List ℕ → Type 0 = λ bs. IsScript bs script in
    let moved = subst At same is in
    record { bytes = bytes; on_input = holds.on_input; is = record { short = holds.short; is = moved }; right = scripts_are_right bytes script moved }
