use Rattle.std.proofs.Common.{◌≡◌, ◌∙◌, List, None, ap, sym, subst}
use Rattle.std.specs.Prelude.{IfSome, IfNone}
use Rattle.label_sets.specs.declared.label_set.LabelSet.{LabelSet}
use Rattle.sample_groups.specs.Families.{groups_in}
use Rattle.sample_groups.specs.Groups.{Gathered, AddsPart, shared_labels, with_part, known_group}
use Rattle.sample_groups.specs.Members.{member_behind}
use Rattle.sample_groups.proofs.Beginning.{adds_new}
use Rattle.sample_groups.proofs.groups.Groups.add.Goals as goal

pub returns-in-Some : goal.returns-in-Some
returns-in-Some c =
    let adds = subst (λ (old : List (LabelSet × Gathered)). AddsPart c.args.kind c.args.labels.now (member_behind c.args.member.now) old (groups_in c.add_in.new.store) c.in-Some.added) c.self.view_is
    (subst (λ o. IfSome o (AddsPart c.args.kind c.args.labels.now (member_behind c.args.member.now) (groups_in c.self.inside.store) (groups_in c.add_in.new.store))) c.in-Some.is c.in_ok-known.ensures.own) in
    record { answer = adds.answer; overtaken = adds.overtaken; added = adds.grown }

pub begin-requires-clause-new : goal.begin-requires-clause-new
begin-requires-clause-new c =
    let same = subst (λ o. IfNone o (groups_in c.add_in.new.store ≡ groups_in c.self.inside.store)) c.in-None.is c.in_ok-known.ensures.same in
    let new = subst (λ o. IfNone o (known_group (groups_in c.self.inside.store) (shared_labels c.args.kind c.args.labels.now) ≡ None)) c.in-None.is c.in_ok-known.ensures.new in
    (λ i. known_group (same i) (c.in_ok-shared-in-None.ensures i)) ∙ new

pub returns-in_ok-begin-in-None : goal.returns-in_ok-begin-in-None
returns-in_ok-begin-in-None c =
    let same = subst (λ o. IfNone o (groups_in c.add_in.new.store ≡ groups_in c.self.inside.store)) c.in-None.is c.in_ok-known.ensures.same in
    let new = subst (λ o. IfNone o (known_group (groups_in c.self.inside.store) (shared_labels c.args.kind c.args.labels.now) ≡ None)) c.in-None.is c.in_ok-known.ensures.new in
    let adds = adds_new c.args.kind c.args.labels.now (member_behind c.args.member.now) c.in_ok-shared-in-None.shared c.args.self.now c.begin.new.self c.in_ok-shared-in-None.ensures
    (ap (λ (l : List (LabelSet × Gathered)). known_group l (shared_labels c.args.kind c.args.labels.now)) (sym c.self.view_is) ∙ new)
    (c.in_ok-begin-in-None.ensures ∙ ap (λ (l : List (LabelSet × Gathered)). with_part l c.in_ok-shared-in-None.shared (member_behind c.args.member.now)) (same ∙ c.self.view_is)) in
    record { answer = adds.answer; overtaken = adds.overtaken; added = adds.grown }
