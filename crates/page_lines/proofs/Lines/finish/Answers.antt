-- Each return is one way in which a page ends.
use Rattle.std.proofs.Common.{◌≡◌, ◌<◌, length, refl, sym, ap, ◌∙◌, arith, vec_len}
use Rattle.std.proofs.lemmas.Bool.Decides.{nat_tests}
use Rattle.std.proofs.lemmas.List.{nil_from_length}
use Rattle.page_lines.proofs.PageEnds.{end-clean, end-open, end-passing, stands-next}
use Rattle.page_lines.proofs.Lines.finish.Goals as goal

pub returns-in-Behind-clause-end : goal.returns-in-Behind-clause-end
returns-in-Behind-clause-end c = λ fed s.
    let place = sym (ap (λ v. v.place) c.self.view_is) ∙ c.in-Behind.is in
    rw c.begin.ensures (end-clean fed _ (stands-next fed c.args.self.now s place) refl refl)

pub returns-in-Within-clause-end : goal.returns-in-Within-clause-end
returns-in-Within-clause-end c = λ fed s.
    let items = c.self.inside.line.items in
    let size : vec_len c.self.inside.line ≡ 0 = grind (arith, nat_tests, c.if-is_empty.ensures) in
    let none : length items ≡ 0 = omega (arith, c.self.inside.line.ok.0) in
    end-clean fed c.args.self.now s (sym (ap (λ v. v.place) c.self.view_is) ∙ c.in-Within.is) (sym (ap (λ v. v.line) c.self.view_is) ∙ nil_from_length items none)

pub returns-in-Within-2-clause-end : goal.returns-in-Within-2-clause-end
returns-in-Within-2-clause-end c = λ fed s.
    let some : 0 < vec_len c.self.inside.line = grind (arith, nat_tests, c.if-is_empty.ensures) in
    let line : 0 < length c.args.self.now.line = omega (arith, ap (λ v. length v.line) c.self.view_is, c.self.inside.line.ok.0) in
    end-open fed c.args.self.now s (sym (ap (λ v. v.place) c.self.view_is) ∙ c.in-Within.is) line

pub returns-in-Passing-clause-end : goal.returns-in-Passing-clause-end
returns-in-Passing-clause-end c = λ fed s. end-passing fed c.args.self.now s (sym (ap (λ v. v.place) c.self.view_is) ∙ c.in-Passing.is)
