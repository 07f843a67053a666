use Rattle.std.proofs.Common.{refl, ◌∙◌}
use Rattle.page_model.specs.Written.{WrittenSample}
use Rattle.page_model.specs.declared.format.Format.TheVariants.{OpenMetrics}
use Rattle.openmetrics_grammar.proofs.SampleSteps.{sample-no_head, sample-no_value, sample-no_stamp, sample-no_exemplar, sample-found, sample_range}
use Rattle.openmetrics_grammar.specs.Samples.{IsMaybeExemplarIn}
use Rattle.page_model.specs.OpenReading.{exemplar_of}
use Rattle.line_scan.specs.LineRooms.{IsHeadIn}
use Rattle.openmetrics_grammar.proofs.sample.sample_of.Goals as goal

pub exemplar_of-requires : goal.exemplar_of-requires
exemplar_of-requires c =
    let head : IsHeadIn OpenMetrics c.args.bytes.now c.head_at.new.room c.in-Some.head = rw c.in-Some.is at c.in_ok-head.ensures in
    c.in-Some-stamp_at.ensures.utf8_rest (c.in-Some-value_at.ensures.utf8_rest (head.is_head.utf8_rest c.requires))

pub returns-in_default : goal.returns-in_default
returns-in_default c = sample-no_head c.args.bytes.now (rw c.in_default.is at c.in_ok-head.ensures)

pub returns-in_default-value_at : goal.returns-in_default-value_at
returns-in_default-value_at c =
    let head : IsHeadIn OpenMetrics c.args.bytes.now c.head_at.new.room c.in-Some.head = rw c.in-Some.is at c.in_ok-head.ensures in
    sample-no_value c.args.bytes.now head.labels c.in-Some.head head.is_head c.in_default-value_at.ensures

pub returns-in_default-stamp_at : goal.returns-in_default-stamp_at
returns-in_default-stamp_at c =
    let head : IsHeadIn OpenMetrics c.args.bytes.now c.head_at.new.room c.in-Some.head = rw c.in-Some.is at c.in_ok-head.ensures in
    let v = c.in-Some-value_at.ensures in
    sample-no_stamp c.args.bytes.now head.labels c.in-Some.head head.is_head v.token c.in-Some-value_at.value.rest.now v.found c.in_default-stamp_at.ensures

pub returns-in_default-2 : goal.returns-in_default-2
returns-in_default-2 c =
    let head : IsHeadIn OpenMetrics c.args.bytes.now c.head_at.new.room c.in-Some.head = rw c.in-Some.is at c.in_ok-head.ensures in
    let v = c.in-Some-value_at.ensures in
    let s = c.in-Some-stamp_at.ensures in
    sample-no_exemplar c.args.bytes.now head.labels c.in-Some.head head.is_head v.token c.in-Some-value_at.value.rest.now v.found s.token c.in-Some-stamp_at.stamp.rest.now s.found_is (rw c.in_default-2.is at c.in_ok-exemplar.ensures)

pub returns : goal.returns
returns c =
    let head : IsHeadIn OpenMetrics c.args.bytes.now c.head_at.new.room c.in-Some.head = rw c.in-Some.is at c.in_ok-head.ensures in
    let v = c.in-Some-value_at.ensures in
    let s = c.in-Some-stamp_at.ensures in
    let e : IsMaybeExemplarIn (exemplar_of c.in-Some-stamp_at.stamp.rest.now) c.in-Some-2.exemplar = (rw c.in-Some-2.is at c.in_ok-exemplar.ensures) in
    let w : WrittenSample = record { name = c.in-Some.head.name.now; labels = head.labels; value = v.token; stamp = s.token; exemplar = e.written } in
    record {
      written = w;
      found_is = sample-found c.args.bytes.now head.labels c.in-Some.head head.is_head v.token c.in-Some-value_at.value.rest.now v.found s.token c.in-Some-stamp_at.stamp.rest.now s.found_is e.written e.found_is;
      read = record {
        name = refl;
        labels = head.held;
        value = v.value;
        stamp = s.stamp;
        exemplar = e.read;
        in_range = c.line_in_range-in_range.ensures ∙ sample_range w c.in-Some-value_at.value.in_range c.in-Some-stamp_at.stamp.in_range c.in-Some-2.exemplar v.in_range s.in_range e.read;
      };
      front = head.is_head.front;
      utf8_name = head.is_head.utf8_name;
    }
