use Rattle.std.proofs.Common.{◌≡◌, ◌∙◌, ◌++◌, ◌∷◌, [], List, Some, ap, sym, length, slice_get, arith}
use Rattle.label_sets.specs.declared.label_set.LabelSet.{LabelSet}
use Rattle.sample_groups.specs.Groups.{Gathered, known_group}
use Rattle.sample_groups.proofs.Beginning.{unknown_labels, pushed, pushed_beside, last_labels}
use Rattle.sample_groups.proofs.group_table.GroupTable.push.Goals as goal

pub push-requires-clause-new : goal.push-requires-clause-new
push-requires-clause-new c =
    unknown_labels c.self.inside.sets c.self.inside.groups.items c.args.labels.now c.self.invariant.0.many (ap (λ (l : List (LabelSet × Gathered)). known_group l c.args.labels.now) c.self.view_is ∙ c.requires.new)

pub invariant_of-self-2 : goal.invariant_of-self-2
invariant_of-self-2 c =
    let place : c.len.result ≡ length c.self.inside.sets = omega (arith, c.len.ensures, c.self.inside.groups.ok, c.self.invariant.0.many) in (
      pushed_beside c.self.inside.sets c.push.new.self c.self.inside.groups.items c.put.new.groups.items c.args.self.now c.args.labels.now c.args.group c.self.invariant.0 c.self.view_is c.requires.new
          c.in_ok-push.ensures.ok (c.put.ensures ∙ ap (λ (l : List Gathered). l ++ c.args.group ∷ []) c.in_ok-reserve.ensures.items),
      ap (slice_get c.push.new.self) place ∙ ap (λ (l : List LabelSet). slice_get l (length c.self.inside.sets)) c.in_ok-push.ensures.ok ∙ last_labels c.self.inside.sets c.args.labels.now ∙ ap Some (sym c.in_ok-copy.ensures),
    )

pub returns : goal.returns
returns c =
    pushed c.self.inside.sets c.push.new.self c.self.inside.groups.items c.put.new.groups.items c.args.self.now c.args.labels.now c.args.group c.self.view_is c.self.invariant.0.many
    c.in_ok-push.ensures.ok (c.put.ensures ∙ ap (λ (l : List Gathered). l ++ c.args.group ∷ []) c.in_ok-reserve.ensures.items)
