use Rattle.std.proofs.Common.{ap, ◌∙◌}
use Rattle.std.proofs.lemmas.Result.{on_ok_weaker}
use Rattle.bridge_ports.specs.declared.talk.Address.{Address}
use Rattle.target_core.proofs.Attributes.{own_pushed}
use Rattle.target_core.proofs.resource.push_own.Goals as goal

pub returns : goal.returns
returns c =
    on_ok_weaker c.push_text-4.result (own_pushed c.args.target.now c.args.attributes.now.items _ _ _ _ _ _ _ _ _ _
    (c.in_ok-copy.ensures ∙ c.job.ensures.same) (c.in_ok-instance.ensures ∙ c.instance.ensures.same) (c.in_ok-host.ensures ∙ c.as_slice.ensures ∙ ap (λ (a : Address). a.host) c.address-address.ensures.same)
    (c.from.ensures ∙ ap (λ (a : Address). a.port) c.address-address.ensures.same) c.in_ok-scheme.ensures
    c.in_ok-push_text.ensures c.in_ok-push_text-2.ensures c.in_ok-push_text-3.ensures c.in_ok-push_number.ensures) c.push_text-4.ensures
