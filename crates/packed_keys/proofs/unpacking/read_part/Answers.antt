use Rattle.std.proofs.Common.{◌≤◌, ◌-◌, ◌^◌, length, rules}
use Rattle.packed_keys.proofs.Read.{part_is}
use Rattle.packed_keys.proofs.unpacking.read_part.Goals as goal

pub returns-clause-part : goal.returns-clause-part
returns-clause-part c =
    let rest = c.read_length-length.result.1.now in
    let fits : length rest ≤ 2 ^ 64 - 1 = search rules in
    (part_is c.args.bytes.now rest c.split_at.result.0.now c.split_at.result.1.now c.read_length-length.result.0 c.min.result c.read_length-length.ensures.rest c.read_length-length.ensures.length fits c.min.ensures c.split_at.ensures.front c.split_at.ensures.back).0

pub returns-clause-rest : goal.returns-clause-rest
returns-clause-rest c =
    let rest = c.read_length-length.result.1.now in
    let fits : length rest ≤ 2 ^ 64 - 1 = search rules in
    (part_is c.args.bytes.now rest c.split_at.result.0.now c.split_at.result.1.now c.read_length-length.result.0 c.min.result c.read_length-length.ensures.rest c.read_length-length.ensures.length fits c.min.ensures c.split_at.ensures.front c.split_at.ensures.back).1
