use Rattle.std.proofs.Common.{[], inl}
use Rattle.std.proofs.lemmas.Result.{IfOk-weaker}
use Rattle.plain_words.proofs.Laws.{in_range}
use Rattle.script_commands.specs.Replays.{script_tracking}
use Rattle.script_commands.proofs.ReplayLaws.{outcome_keys, made_tree, reply_event}
use Rattle.script_commands.proofs.replaying.next_tree.Goals as goal

pub outcome-requires-clause-samples : goal.outcome-requires-clause-samples
outcome-requires-clause-samples c = in_range 1 200000 c.args.header.now.limit c.requires.right.limit

pub outcome-requires-clause-page : goal.outcome-requires-clause-page
outcome-requires-clause-page c = in_range 1024 67108864 c.args.header.now.max_page c.requires.right.max_page

pub returns : goal.returns
returns c = λ target earlier stands.
    let event = reply_event c.args.header.now c.args.reply.now _ c.in_ok-outcome.outcome c.as_slice.ensures (c.in_ok-outcome.ensures c.args.reply.now.at []) in
    let keys = outcome_keys c.args.header.now c.args.reply.now c.in_ok-outcome.outcome event.comes_to in
    made_tree c.args.header.now target c.args.reply.now earlier c.step.new.self c.step.result (record { reading = c.args.reply.now.at; outcome = c.in_ok-outcome.outcome }) event
    (IfOk-weaker c.step.result _ _ (λ request steps. steps target (script_tracking c.args.header.now target) earlier (inl stands) keys) c.step.ensures.ok)
