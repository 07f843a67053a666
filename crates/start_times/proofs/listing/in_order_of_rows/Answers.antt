use Rattle.std.proofs.Common.{◌≡◌, ◌<◌, length, zip, take, ap, ◌∙◌, arith}
use Rattle.std.proofs.lemmas.List.{take_all}
use Rattle.start_times.proofs.Zips.{zip_length}
use Rattle.start_times.proofs.KeptRows.{listed_more}
use Rattle.start_times.proofs.listing.in_order_of_rows.Goals as goal

pub loop-at-preserved : goal.loop-at-preserved
loop-at-preserved c =
    let keys = c.args.keys.now in
    let rows = c.args.rows.now in
    let m : length c.as_slice-rows.result.now ≡ length rows = ap length c.as_slice-rows.ensures in
    let in_rows : c.loop-at.at < length rows = omega arith in
    let in_keys : c.loop-at.at < length keys = omega (arith, c.requires) in
    listed_more keys c.as_slice-keys.result.now rows c.as_slice-rows.result.now c.loop-at.at c.index-keys-at.result c.index-rows-at.result c.in_ok-kept.kept c.loop-at.list.items _ c.as_slice-keys.ensures c.as_slice-rows.ensures in_keys in_rows
    c.index-keys-at.is c.index-rows-at.is c.in_ok-kept.ensures c.loop-at.invariant c.in_ok-push.ensures.items

pub returns : goal.returns
returns c =
    let all : take c.loop-at.at (zip c.args.keys.now c.args.rows.now) ≡ zip c.args.keys.now c.args.rows.now
    = take_all c.loop-at.at (zip c.args.keys.now c.args.rows.now) (let n = zip_length c.args.keys.now c.args.rows.now c.requires in let m : length c.as_slice-rows.result.now ≡ length c.args.rows.now = ap length c.as_slice-rows.ensures in omega arith) in
    c.loop-at.invariant ∙ all
