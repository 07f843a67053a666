use Rattle.std.proofs.Common.{◌∙◌}
use Rattle.target_pages.proofs.BarePages.{bare_is_right}
use Rattle.target_pages.proofs.shown.bare_page.Goals as goal

pub new-requires : goal.new-requires
new-requires c =
    bare_is_right c.args.page.now c.as_slice.result.now c.in_ok-families.families c.samples.result (c.as_slice.ensures ∙ c.families.ensures.families) c.in_ok-families.ensures c.samples.ensures c.families.ensures.right
