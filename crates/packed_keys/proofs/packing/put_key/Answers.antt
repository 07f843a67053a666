use Rattle.packed_keys.specs.Packing.{key_bytes}
use Rattle.packed_keys.proofs.Steps.{then_more}
use Rattle.packed_keys.proofs.Put.{key_text}
use Rattle.packed_keys.proofs.packing.put_key.Goals as goal

pub returns-clause-added : goal.returns-clause-added
unfolding key_bytes
returns-clause-added c = rw (← c.as_str.ensures) (then_more _ _ _ _ _ c.put_labels.result c.in_ok-put_text.ensures.added c.put_labels.ensures.added)

pub returns-clause-text : goal.returns-clause-text
returns-clause-text c = key_text c.args.key.now c.put_labels.result (rw (← c.as_str.ensures) c.in_ok-put_text.ensures.text) c.put_labels.ensures.text
