use Rattle.std.proofs.Common.{◌∙◌, Some, None, cond, refl, sym, ap, false}
use Rattle.sample_groups.specs.Members.{member_behind}
use Rattle.sample_groups.proofs.Beginning.{adds_own}
use Rattle.sample_groups.proofs.groups.add_to.Goals as goal

pub returns-then-are_shared-clause-own : goal.returns-then-are_shared-clause-own
returns-then-are_shared-clause-own c =
    adds_own c.args.kind c.args.labels.now (member_behind c.args.member.now) c.args.only.now.labels c.args.only.now.group (record { fits = c.in_ok-fits.fits; overtaken = false }) c.add.new.self
    (sym c.are_shared.ensures ∙ c.if-are_shared.true) c.in_ok-fits.ensures.answer refl c.in_ok-fits.ensures.added

pub returns-clause-new : goal.returns-clause-new
returns-clause-new c = ap (λ b. cond b (Some c.args.only.now.group) None) (sym c.are_shared.ensures ∙ c.if-are_shared.false)
