use Rattle.std.proofs.Common.{◌≡◌, true, sym, ◌∙◌, subst}
use Rattle.std.specs.Prelude.{IsUtf8}
use Rattle.bridge_config.specs.KeyFaults.{is_job}
use Rattle.bridge_config.proofs.ScrapedLaws.{scraped}
use Rattle.bridge_config.proofs.making.table_target.Goals as goal

pub new-requires : goal.new-requires
new-requires c =
    scraped c.args.honor c.in_ok-job.job c.in_ok-instance-2.instance c.text_at.result.now c.in_ok-address.address c.in-Some.url (subst IsUtf8 (sym c.in_ok-job.ensures) c.text_at-2.utf8)
    (subst IsUtf8 (sym c.in_ok-instance-2.ensures) c.as_str.utf8) c.in_ok-address.ensures.utf8 (subst (λ job. is_job job ≡ true) (sym (c.in_ok-job.ensures ∙ c.text_at-2.ensures)) c.requires)
    (c.in_ok-instance-2.ensures ∙ c.as_str.ensures.value ∙ c.in_ok-instance.ensures) c.in_ok-address.ensures.address (sym c.in_ok-url.ensures ∙ c.in-Some.is)
