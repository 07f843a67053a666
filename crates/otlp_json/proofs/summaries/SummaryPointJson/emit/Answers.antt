use Rattle.std.proofs.Common.{[], Some}
use Rattle.otlp_json.specs.Texts.{exemplars_member, quantile_members, summary_point_text}
use Rattle.otlp_json.proofs.Written.{point_written}
use Rattle.text_emitter.proofs.Laws.{emitted}
use Rattle.otlp_json.proofs.summaries.SummaryPointJson.emit.Goals as goal

pub returns : goal.returns
unfolding summary_point_text exemplars_member
returns g c = let p = c.args.self.now in rw (point_written quantile_members p.labels (Some p.start) p.time p.value []) (simp emitted (cc))
