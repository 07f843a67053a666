use Rattle.std.proofs.Common.{◌∙◌, refl}
use Rattle.federation_page.proofs.Keeping.{kept_joined, joined, joined_is}
use Rattle.federation_page.proofs.conflicts.Founders.join.Goals as goal

pub returns-clause-kept : goal.returns-clause-kept
returns-clause-kept c =
    kept_joined c.args.self.now _ c.args.candidate c.requires.kept refl refl
    (joined c.args.self.now c.args.candidate c.args.place c.index_mut.result.now c.join.new.self c.requires.kept c.requires.there c.index_mut.ensures.value c.in_ok-join.ensures)

pub returns-clause-taken : goal.returns-clause-taken
returns-clause-taken c =
    joined c.args.self.now c.args.candidate c.args.place c.index_mut.result.now c.join.new.self c.requires.kept c.requires.there c.index_mut.ensures.value c.in_ok-join.ensures
    ∙ joined_is c.args.self.now c.args.candidate c.args.place c.requires.kept c.requires.there
