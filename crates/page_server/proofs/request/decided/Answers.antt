-- What the parser says of the bytes, in the words of what they ask for.
use Rattle.std.proofs.Common.{rules, ◌≡◌, length}
use Rattle.httparse.specs.Grammar.{HasNoRequest}
use Rattle.httparse.specs.Spans.{IsRequestOf}
use Rattle.page_server.proofs.ServeSteps.{asks_told, bad_when_full, bad_by_error}
use Rattle.page_server.proofs.request.decided.Goals as goal

pub returns-in-Ok : goal.returns-in-Ok
returns-in-Ok c =
    let room : length c.parse_request.new.headers ≡ 64 = search rules in
    let head : IsRequestOf c.args.got.now c.parse_request.new.headers c.in-Ok-Complete.head = search rules in
    asks_told c.args.got.now c.parse_request.new.headers _ _ _ _ c.requires room head c.of.ensures c.of-in-Ok-Complete.ensures c.in-Ok.ensures

pub returns-then-got-eq-HEAD_LIMIT : goal.returns-then-got-eq-HEAD_LIMIT
returns-then-got-eq-HEAD_LIMIT c =
    let all : length c.args.got.now ≡ 16384 = search rules in
    let none : HasNoRequest c.args.got.now = search rules in bad_when_full c.args.got.now all none

pub returns-in-Err : goal.returns-in-Err
returns-in-Err c = bad_by_error c.args.got.now _ c.in-Err.ensures.no_room (search rules)
