-- Samples and exemplars as they are read.
-- OpenMetrics 1.0, "ABNF" (sample, exemplar).
use Rattle.std.specs.Prelude.{◌≡◌, ℕ, Bool, true, not, List, [], Option, Some, None, option_map, IsUtf8, if◌then◌else◌}
use Rattle.std.specs.Str.{bytes_eq}
use Rattle.label_sets.specs.Lists.{◌>>=◌, when_true, some_passes}
use Rattle.exact_decimal.specs.Numbers.{number}
use Rattle.page_model.specs.declared.format.Format.TheVariants.{OpenMetrics}
use Rattle.page_model.specs.declared.format.Treatment.{Treatment}
use Rattle.page_model.specs.declared.item.Exemplar.{Exemplar}
use Rattle.page_model.specs.Written.{Written, WrittenExemplar, WrittenSample, sample, exemplar_of, exemplar_out_of_range, has_out_of_range, is_label_list}
use Rattle.page_model.specs.OpenReading.{value_at, stamp_at}
use Rattle.line_scan.specs.declared.line_room.LineRoom.{LineRoom}
use Rattle.line_scan.specs.LineHeads.{IsFrontOf}
use Rattle.line_scan.specs.LineRooms.{HasLabels}
use Rattle.openmetrics_grammar.specs.LabelLists.{braced_at}
use Rattle.openmetrics_grammar.specs.declared.exemplar.ExemplarRead.{ExemplarRead}
use Rattle.openmetrics_grammar.specs.declared.sample.SampleRead.{SampleRead}

-- what is read of an exemplar
pub record IsExemplarOf (w : WrittenExemplar) (e : ExemplarRead) : Type 0 where
  pub labels : e.labels.items ≡ w.labels
  pub value : e.value ≡ number w.value
  pub stamp : e.stamp ≡ option_map number w.stamp
  pub in_range : e.in_range ≡ not (exemplar_out_of_range OpenMetrics w)

-- what is read of an exemplar, or of none
pub data IsMaybeExemplarOf : Option WrittenExemplar → Option ExemplarRead → Type 0 where
  no_exemplar : IsMaybeExemplarOf None None
  an_exemplar : (w : WrittenExemplar) (e : ExemplarRead) → IsExemplarOf w e → IsMaybeExemplarOf (Some w) (Some e)

-- an exemplar behind its mark and the opening brace of its labels that is all that is left
abbrev pub exemplar_behind : List ℕ → Option WrittenExemplar
exemplar_behind inner = braced_at inner >>= λ labels. value_at labels.1 >>= λ value. stamp_at value.1 >>= λ stamp.
    when_true (bytes_eq stamp.1 []) (record { labels = labels.0; value = value.0; stamp = stamp.0 })

-- this was read of the exemplar that was found
pub record IsExemplarIn (found : Option WrittenExemplar) (e : ExemplarRead) : Type 0 where
  pub written : WrittenExemplar
  pub found_is : found ≡ Some written
  pub read : IsExemplarOf written e

-- the same where an exemplar may be there
pub record IsMaybeExemplarIn (found : Option (Option WrittenExemplar)) (e : Option ExemplarRead) : Type 0 where
  pub written : Option WrittenExemplar
  pub found_is : found ≡ Some written
  pub read : IsMaybeExemplarOf written e

-- what is read of a sample, whose labels were read into a room
pub record IsSampleOf (w : WrittenSample) (room : LineRoom) (s : SampleRead) : Type 0 where
  pub name : s.head.name.now ≡ w.name
  pub labels : HasLabels room w.labels
  pub value : s.value ≡ number w.value
  pub stamp : s.stamp ≡ option_map number w.stamp
  pub exemplar : IsMaybeExemplarOf w.exemplar s.exemplar
  pub in_range : s.in_range ≡ not (has_out_of_range OpenMetrics (sample w))

-- this was read of the sample that was found
pub record IsSampleIn (found : Option Written) (room : LineRoom) (s : SampleRead) : Type 0 where
  pub written : WrittenSample
  pub found_is : found ≡ Some (sample written)
  pub read : IsSampleOf written room s
  pub front : IsFrontOf OpenMetrics written.labels s.head
  pub utf8_name : IsUtf8 s.head.name.now

-- no number of the exemplar is out of range, where there is one
abbrev pub maybe_in_range : Option ExemplarRead → Bool
maybe_in_range None = true
maybe_in_range (Some e) = e.in_range

-- the exemplar's labels break a rule, where there is one
abbrev pub has_bad_exemplar_labels : Treatment → Option WrittenExemplar → Bool
has_bad_exemplar_labels t written = some_passes (λ (e : WrittenExemplar). not (is_label_list t e.labels)) written

-- the exemplar with its label set built, or none, unless its labels break a rule
abbrev pub exemplar_made : Treatment → Option WrittenExemplar → Option (Option Exemplar)
exemplar_made t written = if has_bad_exemplar_labels t written then None else Some (option_map (exemplar_of OpenMetrics) written)
