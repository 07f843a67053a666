-- Each return is a step of a line that is under way.
use Rattle.std.proofs.Common.{◌≡◌, ◌-◌, ◌<◌, ap, arith, length, min, take, subst, length-take}
use Rattle.std.proofs.lemmas.List.{take_all, length-take-le}
use Rattle.page_lines.specs.Lines.{Plain}
use Rattle.page_lines.proofs.Standing.{feed_in_front, step-line, step-more, step-past, plain-on}
use Rattle.page_lines.proofs.Lines.gather.Goals as goal

pub returns-in-Some : goal.returns-in-Some
returns-in-Some c =
    let found = c.in-Some.ensures in
    let line = c.self.inside.line.ok.0 in
    let within : c.in-Some.at < min c.min-window.result (length c.args.piece.now) = omega (arith, found.within, length-take c.min-window.result c.args.piece.now) in
    let f = feed_in_front c.args.piece.now c.min-window.result c.in-Some.at found.within found.found found.first in
    step-line _ _ _ _ _ c.args.self.now c.self.view_is c.args.piece.now _ c.in-Some.at c.requires.within f (omega arith) (omega arith)
    (rw c.unwrap.ensures at c.extend_from_slice.ensures.items)

pub returns-then-window-room : goal.returns-then-window-room
returns-then-window-room c =
    let line = c.self.inside.line.ok.0 in
    let whole : c.min-window.result ≡ length c.args.piece.now = omega arith in
    let plain = subst Plain (take_all c.min-window.result c.args.piece.now (omega arith)) c.in_default.ensures.none in
    step-more _ _ _ _ _ c.args.self.now c.self.view_is c.args.piece.now _ c.min-window.result c.requires.within plain whole (omega arith)
    (rw c.unwrap-then-window-room.ensures at c.extend_from_slice-then-window-room.ensures.items)

pub returns : goal.returns
returns c =
    let line = c.self.inside.line.ok.0 in
    let room = c.self.inside.most - c.len.result in
    step-past _ _ _ _ _ c.args.self.now c.self.view_is c.args.piece.now _ c.min-window.result room c.requires.within c.in_default.ensures.none (omega arith) (omega arith) (omega arith)
    (rw c.unwrap-2.ensures at c.extend_from_slice-2.ensures.items)

pub invariant_of-self-2 : goal.invariant_of-self-2
invariant_of-self-2 c =
    let room = c.self.inside.most - c.len.result in
    let kept : length (take room c.args.piece.now) ≡ room = length-take-le room c.args.piece.now (omega arith) in
    let grown = rw c.unwrap-2.ensures at c.extend_from_slice-2.ensures.len in
    record {
      short = omega (arith, kept, grown);
      room = omega arith;
      few = let e = ap (λ v. v.fed) c.self.view_is in omega (arith, e, c.requires.room);
      numbered = omega arith;
      ended = λ e. absurd cc;
      plain = plain-on _ _ c.args.piece.now room c.min-window.result c.self.invariant.plain c.in_default.ensures.none (omega arith) (rw c.unwrap-2.ensures at c.extend_from_slice-2.ensures.items);
    }
