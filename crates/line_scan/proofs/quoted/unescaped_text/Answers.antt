use Rattle.std.proofs.Common.{sym, ◌∙◌}
use Rattle.line_scan.specs.Marks.{escape_of}
use Rattle.line_scan.proofs.Quotes.{no_escape}
use Rattle.line_scan.proofs.Utf8.{utf8_unescaped, escape_ascii}
use Rattle.line_scan.proofs.quoted.unescaped_text.Goals as goal

pub returns-then-not-has_backslash : goal.returns-then-not-has_backslash
returns-then-not-has_backslash c = rw (no_escape (escape_of c.args.escapes) c.args.written.now (sym c.requires.backslash ∙ c.if-not-has_backslash.true)) c.from_utf8.ensures

pub from_utf8_unchecked-text-requires : goal.from_utf8_unchecked-text-requires
from_utf8_unchecked-text-requires c = rw c.in_ok-bytes.ensures (utf8_unescaped (escape_of c.args.escapes) (escape_ascii c.args.escapes) c.args.written.now c.requires.text)
