use Rattle.family_rules.proofs.PageOfLines.{right_page}
use Rattle.family_rules.proofs.page_checker.Checker.close.Goals as goal

pub new-requires : goal.new-requires
new-requires c = right_page c.self.inside.items c.args.clean (record { families = c.in-Ok.families; samples = c.in-Ok.samples }) c.self.invariant
    (λ fault has. let e = c.in-Ok.ensures.stopped fault has in absurd cc) c.in-Ok.ensures.answer c.in-Ok.ensures.page
