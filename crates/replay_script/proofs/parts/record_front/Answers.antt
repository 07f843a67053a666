use Rattle.std.proofs.Common.{sym}
use Rattle.replay_script.proofs.Fronts.{record_no_time, record_no_count, record_no_body, record_made}
use Rattle.replay_script.proofs.parts.record_front.Goals as goal

pub returns-in-None : goal.returns-in-None
returns-in-None c = sym (record_no_time c.args.sort.now c.args.time.now c.args.form.now c.args.count.now c.args.text.now (sym c.in-None.ensures.only))

pub returns-in-None-number : goal.returns-in-None-number
returns-in-None-number c = sym (record_no_count c.args.sort.now c.args.time.now c.args.form.now c.args.count.now c.args.text.now _ c.in-Some.ensures.only (sym c.in-None-number.ensures.only))

pub returns-in-None-body_at : goal.returns-in-None-body_at
returns-in-None-body_at c =
    sym (record_no_body c.args.sort.now c.args.time.now c.args.form.now c.args.count.now c.args.text.now _ _ c.in-Some.ensures.only c.in-Some-number.ensures.only (sym c.in-None-body_at.ensures))

pub returns-in-Some-record_part : goal.returns-in-Some-record_part
returns-in-Some-record_part c =
    sym (record_made c.args.sort.now c.args.time.now c.args.form.now c.args.count.now c.args.text.now _ _ _ _ _ c.in-Some.ensures.only c.in-Some-number.ensures.only c.in-Some-body_at.ensures c.in-Some-record_part.ensures)

pub returns-in-None-record_part : goal.returns-in-None-record_part
returns-in-None-record_part c =
    sym (record_made c.args.sort.now c.args.time.now c.args.form.now c.args.count.now c.args.text.now _ _ _ _ _ c.in-Some.ensures.only c.in-Some-number.ensures.only c.in-Some-body_at.ensures c.in-None-record_part.ensures)
