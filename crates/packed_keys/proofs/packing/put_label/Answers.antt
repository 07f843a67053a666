use Rattle.packed_keys.specs.Packing.{label_bytes}
use Rattle.packed_keys.proofs.Steps.{then_more}
use Rattle.packed_keys.proofs.packing.put_label.Goals as goal

pub returns-clause-added : goal.returns-clause-added
unfolding label_bytes
returns-clause-added c = rw (← c.as_str.ensures) (rw (← c.as_str-2.ensures) (then_more _ _ _ _ _ c.put_text-2.result c.in_ok-put_text.ensures.added c.put_text-2.ensures.added))
