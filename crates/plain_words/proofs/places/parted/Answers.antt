use Rattle.std.proofs.Common.{None, Some, sym, ap, ◌∙◌, arith, ◌&&◌, ◌≡◌, true, false, take, nat_le}
use Rattle.std.proofs.lemmas.Bool.{and_from, le-leb}
use Rattle.std.proofs.Math.Bool.{and-false}
use Rattle.label_sets.specs.Lists.{when_true}
use Rattle.plain_words.specs.Places.{is_visible_word, is_port}
use Rattle.plain_words.proofs.Finding.{no_place, parted_with}
use Rattle.plain_words.proofs.places.parted.Goals as goal

pub returns-in-None : goal.returns-in-None
returns-in-None c = sym (no_place c.args.most c.args.word.now c.in-None.ensures)

pub returns-in-None-number : goal.returns-in-None-number
returns-in-None-number c = sym (parted_with c.args.most c.args.word.now c.in-Some.colon None c.in-Some.ensures (sym c.in-None-number.is ∙ c.number.ensures.only))

pub returns-then-port-eq0 : goal.returns-then-port-eq0
returns-then-port-eq0 c =
    let visible = is_visible_word c.args.most (take c.in-Some.colon c.args.word.now) in
    let no : (visible && is_port c.in-Some-number.port) ≡ false = ap (λ p. visible && is_port p) c.if-port-eq0.true ∙ and-false visible in
    sym (parted_with c.args.most c.args.word.now c.in-Some.colon (Some c.in-Some-number.port) c.in-Some.ensures (sym c.in-Some-number.is ∙ c.number.ensures.only)
    ∙ ap (λ b. when_true b (take c.in-Some.colon c.args.word.now, c.in-Some-number.port)) no)

pub returns-then-not-is_visible_word : goal.returns-then-not-is_visible_word
returns-then-not-is_visible_word c =
    let visible = is_visible_word c.args.most (take c.in-Some.colon c.args.word.now) in
    let no : (visible && is_port c.in-Some-number.port) ≡ false = ap (λ b. b && is_port c.in-Some-number.port) (sym c.is_visible_word.ensures ∙ c.if-not-is_visible_word.true) in
    sym (parted_with c.args.most c.args.word.now c.in-Some.colon (Some c.in-Some-number.port) c.in-Some.ensures (sym c.in-Some-number.is ∙ c.number.ensures.only)
    ∙ ap (λ b. when_true b (take c.in-Some.colon c.args.word.now, c.in-Some-number.port)) no)

pub returns : goal.returns
returns c =
    let visible = is_visible_word c.args.most (take c.in-Some.colon c.args.word.now) in
    let port : is_port c.in-Some-number.port ≡ true =
    and_from (nat_le 1 c.in-Some-number.port) (nat_le c.in-Some-number.port 65535) (le-leb 1 c.in-Some-number.port (omega arith)) (le-leb c.in-Some-number.port 65535 c.in-Some-number.ensures.found.1) in
    let yes : (visible && is_port c.in-Some-number.port) ≡ true =
    and_from visible (is_port c.in-Some-number.port) (sym c.is_visible_word.ensures ∙ c.if-not-is_visible_word.false) port in
    sym (parted_with c.args.most c.args.word.now c.in-Some.colon (Some c.in-Some-number.port) c.in-Some.ensures (sym c.in-Some-number.is ∙ c.number.ensures.only)
    ∙ ap (λ b. when_true b (take c.in-Some.colon c.args.word.now, c.in-Some-number.port)) yes)
