use Rattle.std.proofs.Common.{◌∙◌, List, Some, ap}
use Rattle.page_model.specs.declared.item.Exemplar.{Exemplar}
use Rattle.sample_groups.specs.ExtraValues.{ExtraValue, with_exemplar}
use Rattle.sample_groups.proofs.extra.Extra.push.Goals as goal

pub returns : goal.returns
returns c = ap (λ (es : List Exemplar). record { places = c.self.inside.places; time = c.self.inside.time; exemplars = es }) c.in_ok-push.ensures.items
    ∙ ap (λ (x : ExtraValue). with_exemplar x (Some c.args.exemplar)) c.self.view_is
