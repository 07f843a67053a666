use Rattle.std.proofs.Common.{◌++◌, length, ap, ◌∙◌, append_assoc}
use Rattle.packed_keys.specs.Packing.{length_code, part_bytes}
use Rattle.packed_keys.proofs.packing.put_text.Goals as goal

pub returns-clause-added : goal.returns-clause-added
unfolding part_bytes
returns-clause-added c =
    c.in_ok-extend_from_slice.ensures.items ∙ (ap (λ xs. c.put_length.new.out.items ++ xs) c.as_bytes.ensures.value
    ∙ (ap (λ xs. xs ++ c.args.text.now) c.in_ok-put_length.ensures ∙ append_assoc c.args.out.now.items (length_code (length c.args.text.now)) c.args.text.now))
