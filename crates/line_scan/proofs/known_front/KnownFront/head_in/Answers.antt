use Rattle.std.proofs.Common.{◌≡◌, false, not, refl, sym, ◌∙◌}
use denote.Enum.Bare.{sameb}
use Rattle.page_model.specs.contracts.format.Format.{the_type}
use Rattle.page_model.specs.declared.format.Format.{Format}
use Rattle.page_model.specs.declared.format.Format.TheVariants.{Text, OpenMetrics}
use Rattle.line_scan.proofs.LineHeads.{known-head}
use Rattle.line_scan.proofs.known_front.KnownFront.head_in.Goals as goal

same_format : (a b : Format) → false ≡ not (sameb the_type a b) → a ≡ b
same_format Text Text h = refl
same_format Text OpenMetrics h = absurd cc
same_format OpenMetrics Text h = absurd cc
same_format OpenMetrics OpenMetrics h = refl

pub returns : goal.returns
returns c = rw (← c.self.view_is) (known-head c.args.format c.args.bytes.now _ c.self.invariant (same_format c.self.inside.format c.args.format c.if-ne.ensures) c.in-Some.rest.now (rw c.as_str.ensures at c.in-Some.ensures.value) (sym c.follows_head.ensures ∙ c.if-not-follows_head.false) _ refl (rw c.len.ensures refl) refl c.in-Some.ensures.utf8)
