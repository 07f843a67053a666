use Rattle.std.proofs.Common.{◌∷◌, codes, map, append_assoc}
use Rattle.otlp_json.specs.Json.{json_array}
use Rattle.otlp_json.specs.Texts.{cumulative_member, gauge_member, histogram_member, histogram_point_text, shape_member, summary_member}
use Rattle.otlp_json.proofs.metrics.ShapeJson.emit.Goals as goal

pub returns-in-Gauge : goal.returns-in-Gauge
unfolding shape_member gauge_member
returns-in-Gauge g c = rw c.in-Gauge.is c.emit_between.ensures

pub returns-in-Histogram : goal.returns-in-Histogram
unfolding shape_member histogram_member
returns-in-Histogram g c = rw (c.in-Histogram.is, append_assoc (json_array (map histogram_point_text c.in-Histogram.points)) (44 ∷ cumulative_member) (codes "}")) c.emit_between-in-Histogram.ensures

pub returns-in-Summary : goal.returns-in-Summary
unfolding shape_member summary_member
returns-in-Summary g c = rw c.in-Summary.is c.emit_between-in-Summary.ensures
