use Rattle.std.proofs.Common.{◌∙◌, ◌++◌, ◌∷◌, [], ap, sym}
use Rattle.page_model.specs.declared.page.Family.{Family}
use Rattle.open_writing.specs.FamilyKeys.{family_key}
use Rattle.federation_page.specs.Conflicts.{meets}
use Rattle.federation_page.proofs.Keeping.{left_out, meets_is, founded}
use Rattle.federation_page.proofs.conflicts.Founders.take_new.Goals as goal

pub returns-then-branch-clause-taken : goal.returns-then-branch-clause-taken
returns-then-branch-clause-taken c = left_out c.args.self.now c.args.candidate c.requires.kept c.requires.new (sym c.in_ok-shares_sample_name.ensures ∙ c.if-branch.true)

pub found-requires-clause-free : goal.found-requires-clause-free
found-requires-clause-free c =
    ap (λ (f : Family). meets c.args.self.now.families.items (family_key f)) c.make_room.ensures ∙ meets_is c.args.self.now c.args.candidate c.requires.kept c.requires.new ∙ sym c.in_ok-shares_sample_name.ensures ∙ c.if-branch.false

pub returns-clause-taken : goal.returns-clause-taken
returns-clause-taken c =
    c.in_ok-found.ensures.founded ∙ ap (λ (f : Family). c.args.self.now.families.items ++ f ∷ []) c.make_room.ensures
    ∙ founded c.args.self.now.families.items c.args.candidate (meets_is c.args.self.now c.args.candidate c.requires.kept c.requires.new ∙ sym c.in_ok-shares_sample_name.ensures ∙ c.if-branch.false)
