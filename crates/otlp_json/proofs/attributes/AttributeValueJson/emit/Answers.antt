use Rattle.otlp_json.specs.Texts.{attribute_value_text}
use Rattle.otlp_json.proofs.attributes.AttributeValueJson.emit.Goals as goal

pub returns-in-Str : goal.returns-in-Str
unfolding attribute_value_text
returns-in-Str g c = rw c.in-Str.is c.emit_between.ensures
