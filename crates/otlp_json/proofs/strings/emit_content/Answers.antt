use Rattle.std.proofs.Common.{sym}
use Rattle.otlp_json.proofs.Escapes.{plain_text}
use Rattle.otlp_json.proofs.strings.emit_content.Goals as goal

pub returns : goal.returns
returns g c = rw (plain_text c.args.text.now (sym c.if-has_escapes.ensures)) c.put.ensures
