-- What a sample gives the group that it is of.
-- OpenMetrics 1.0, "MetricPoint", "Timestamps", "Exemplars".
use Rattle.std.specs.Prelude.{ℕ, Option}
use Rattle.page_model.specs.declared.item.Exemplar.{Exemplar}
use Rattle.sample_groups.specs.declared.member.MemberRef.{MemberRef}
use Rattle.sample_groups.specs.declared.part.Part.{Part}

-- its part, the time of its line and its exemplar
pub record Member : Type 0 where
  pub part : Part
  pub time : Option ℕ
  pub exemplar : Option Exemplar

-- the same, where it is lent
abbrev pub member_behind : MemberRef → Member
member_behind m = record { part = m.part.now; time = m.time; exemplar = m.exemplar.now }
