-- A fault that was found.
use Rattle.std.proofs.Common.{◌++◌, sym, subst}
use Rattle.scrape_client.specs.PageReplies.{PageHasRead}
use Rattle.scrape_client.proofs.page_so_far.PageSoFar.take.Goals as goal

pub returns-in-Err : goal.returns-in-Err
returns-in-Err c = λ limit format bytes x. subst (PageHasRead limit format (bytes ++ c.args.piece.now)) (sym c.replace.ensures.after) (c.in-Err.ensures limit format bytes x)
