use Rattle.packed_keys.proofs.Series.{series_added}
use Rattle.packed_keys.proofs.packing.put_series.Goals as goal

pub returns : goal.returns
returns c = series_added c.args.out.now.items c.push.new.self.items c.put_text.new.out.items c.put_text-2.new.out.items c.put_labels.new.out.items c.args.key.now c.put_labels.result
    (rw (← c.kind_byte.ensures) c.in_ok-push.ensures.items) (rw (← c.as_str.ensures) c.in_ok-put_text.ensures.added) (rw (← c.as_str-2.ensures) c.in_ok-put_text-2.ensures.added) c.put_labels.ensures.added
