use Rattle.federation_page.proofs.Keeping.{kept_founded}
use Rattle.federation_page.proofs.conflicts.Founders.found.Goals as goal

pub returns-clause-kept : goal.returns-clause-kept
returns-clause-kept c =
    kept_founded c.args.self.now _ c.args.candidate c.in_ok-insert.field-0 c.requires.kept c.requires.free (rw (c.as_bytes.ensures, c.name.ensures) at c.in_ok-insert.ensures.found)
    (rw (c.as_bytes.ensures, c.name.ensures) at c.in_ok-insert.ensures.added) c.in_ok-add_sample_names.ensures c.in_ok-push.ensures.items
