use Rattle.std.proofs.Common.{◌≡◌, ◌∙◌, ◌+◌, ◌++◌, ◌∷◌, [], ℕ, List, length, length-append, ap, subst, sym, arith}
use Rattle.std.specs.List.{All}
use Rattle.packed_keys.specs.declared.packed_sets.Span.{Span}
use Rattle.packed_keys.specs.PackedSets.{sets_of, IsSpan}
use Rattle.packed_keys.proofs.Spans.{sets_more, spans_more}
use Rattle.packed_keys.proofs.packed_sets.put_packed.Goals as goal
use Rattle.packed_keys.proofs.packed_sets.put_packed.Goals.{After-push_reserved}

abbrev span : After-push_reserved → Span
span c = record { start = c.len-start.result; end = c.len-end.result }

spans : (c : After-push_reserved) → c.push_reserved.new.self.items ≡ c.args.spans.now.items ++ span c ∷ []
spans c = c.push_reserved.ensures.items ∙ ap (λ (l : List Span). l ++ span c ∷ []) c.in_ok-reserve.ensures.items

start : (c : After-push_reserved) → (span c).start ≡ length c.args.bytes.now.items
start c = omega (arith, c.len-start.ensures, c.args.bytes.now.ok)

end : (c : After-push_reserved) → (span c).end ≡ length c.args.bytes.now.items + length c.args.packed.now
end c =
    let more : length c.extend_from_slice.new.self.items ≡ length c.args.bytes.now.items + length c.args.packed.now = ap length c.in_ok-extend_from_slice.ensures.items ∙ length-append c.args.bytes.now.items c.args.packed.now in
    omega (arith, c.len-end.ensures, c.extend_from_slice.new.self.ok, more)

pub returns-clause-spans : goal.returns-clause-spans
returns-clause-spans c =
    subst (λ (l : List Span). All (IsSpan c.extend_from_slice.new.self.items) l) (sym (spans c))
    (subst (λ (l : List ℕ). All (IsSpan l) (c.args.spans.now.items ++ span c ∷ [])) (sym c.in_ok-extend_from_slice.ensures.items)
    (spans_more c.args.bytes.now.items c.args.packed.now c.args.spans.now.items (span c) c.requires.spans c.requires.set (start c) (end c)))

pub returns-clause-put : goal.returns-clause-put
returns-clause-put c =
    (λ i. sets_of (c.in_ok-extend_from_slice.ensures.items i) (spans c i)) ∙ sets_more c.args.bytes.now.items c.args.packed.now c.args.spans.now.items (span c) c.requires.spans (start c) (end c)
