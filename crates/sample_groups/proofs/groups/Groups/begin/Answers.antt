use Rattle.std.proofs.Common.{◌∙◌, ◌++◌, ◌∷◌, [], List, ap}
use Rattle.std.proofs.lemmas.Result.{on_ok_weaker}
use Rattle.label_sets.specs.declared.label_set.LabelSet.{LabelSet}
use Rattle.sample_groups.specs.Groups.{Gathered, known_group}
use Rattle.sample_groups.specs.Families.{groups_in}
use Rattle.sample_groups.specs.Members.{member_behind}
use Rattle.sample_groups.proofs.Beginning.{begun}
use Rattle.sample_groups.proofs.groups.Groups.begin.Goals as goal

pub push_in-requires-clause-new : goal.push_in-requires-clause-new
push_in-requires-clause-new c = ap (λ (l : List (LabelSet × Gathered)). known_group l c.args.labels.now) c.self.view_is ∙ c.requires.new

pub returns : goal.returns
returns c =
    on_ok_weaker c.push_in.result (λ more. begun c.args.self.now (groups_in c.push_in.new.store) c.args.labels.now c.in_ok-group.group (member_behind c.args.member.now) c.requires.new
    (more ∙ ap (λ (l : List (LabelSet × Gathered)). l ++ (c.args.labels.now, c.in_ok-group.group) ∷ []) c.self.view_is) c.in_ok-group.ensures) c.push_in.ensures
