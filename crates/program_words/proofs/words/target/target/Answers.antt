use Rattle.std.proofs.Common.{sym, subst, false}
use Rattle.bridge_ports.specs.Targets.{IsScraped}
use Rattle.program_words.proofs.PlaceLaws.{place_is_scraped}
use Rattle.program_words.proofs.words.target.target.Goals as goal

pub new-requires : goal.new-requires
new-requires c =
    subst IsScraped (λ i. record {
      job = sym c.in_ok-job.ensures.same i;
      instance = sym c.in_ok-instance.ensures.same i;
      address = record { host = sym c.in_ok-host.ensures i; port = c.args.port; path = c.in_ok-path.path };
      honor = false;
    })
    (place_is_scraped c.args.job.now c.args.instance.now c.args.host.now c.in_ok-path.path c.args.port c.in_ok-job.ensures.text c.in_ok-instance.ensures.text
    c.requires.some c.requires.short c.requires.place)
