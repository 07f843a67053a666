-- Sets that lie one behind the other stay where one more is put behind them.
use Rattle.std.proofs.Common.{◌≡◌, ℕ, ◌+◌, ◌-◌, ◌≤◌, List, [], ◌∷◌, ◌++◌, length, take, drop, refl, sym, ap, subst, ◌∙◌, arith}
use Rattle.std.specs.List.{All, AllByRecursion}
use Rattle.std.proofs.lemmas.List.{map-append, length-append, length-drop, drop-append-le, take-append-le, drop_at, take_all}
use Rattle.std.proofs.lemmas.List.Elements.{All-push, All-weaker, recursion_from_All}
use Rattle.packed_keys.specs.declared.packed_sets.Span.{Span}
use Rattle.packed_keys.specs.Packing.{labels_in}
use Rattle.packed_keys.specs.Texts.{IsPackedSet}
use Rattle.packed_keys.specs.PackedSets.{span_bytes, sets_of, IsSpan}

bytes_kept : (bytes more : List ℕ) (s : Span) → s.start ≤ s.end → s.end ≤ length bytes → span_bytes (bytes ++ more) s ≡ span_bytes bytes s
bytes_kept bytes more s o w =
    let first : s.start ≤ length bytes = omega arith in
    let n : s.end - s.start ≤ length (drop s.start bytes) = let l : length (drop s.start bytes) ≡ length bytes - s.start = length-drop s.start bytes in omega arith in
    ap (take (s.end - s.start)) (drop-append-le s.start bytes more first) ∙ take-append-le (s.end - s.start) (drop s.start bytes) more n

span_kept : (bytes more : List ℕ) (s : Span) → IsSpan bytes s → IsSpan (bytes ++ more) s
span_kept bytes more s is = record {
  ordered = is.ordered;
  within = let l : length (bytes ++ more) ≡ length bytes + length more = length-append bytes more in let w : s.end ≤ length bytes = is.within in omega arith;
  packed = subst IsPackedSet (sym (bytes_kept bytes more s is.ordered is.within)) is.packed;
}

sets_kept : (bytes more : List ℕ) (spans : List Span) → AllByRecursion (IsSpan bytes) spans → sets_of (bytes ++ more) spans ≡ sets_of bytes spans
sets_kept bytes more [] is = refl
sets_kept bytes more (s ∷ spans) is =
    let first = bytes_kept bytes more s is.0.ordered is.0.within in let rest = sets_kept bytes more spans is.1 in λ i. labels_in (first i) ∷ rest i

-- the bytes that were put behind the others
bytes_new : (bytes new : List ℕ) (s : Span) → s.start ≡ length bytes → s.end ≡ length bytes + length new → span_bytes (bytes ++ new) s ≡ new
bytes_new bytes new s start end =
    let d : drop s.start (bytes ++ new) ≡ new = drop_at bytes new s.start (sym start) in
    let l : length new ≤ s.end - s.start = omega (arith, start, end) in
    ap (take (s.end - s.start)) d ∙ take_all (s.end - s.start) new l

-- the sets with one more
pub sets_more : (bytes new : List ℕ) (spans : List Span) (s : Span) → All (IsSpan bytes) spans → s.start ≡ length bytes → s.end ≡ length bytes + length new
    → sets_of (bytes ++ new) (spans ++ s ∷ []) ≡ sets_of bytes spans ++ labels_in new ∷ []
sets_more bytes new spans s are start end =
    map-append (λ t. labels_in (span_bytes (bytes ++ new) t)) spans (s ∷ [])
    ∙ (λ i. sets_kept bytes new spans (recursion_from_All (IsSpan bytes) spans are) i ++ labels_in (bytes_new bytes new s start end i) ∷ [])

-- the spans with one more
pub spans_more : (bytes new : List ℕ) (spans : List Span) (s : Span) → All (IsSpan bytes) spans → IsPackedSet new → s.start ≡ length bytes → s.end ≡ length bytes + length new
    → All (IsSpan (bytes ++ new)) (spans ++ s ∷ [])
spans_more bytes new spans s are set start end =
    All-push (IsSpan (bytes ++ new)) spans s (All-weaker (IsSpan bytes) (IsSpan (bytes ++ new)) (span_kept bytes new) spans are) (record {
      ordered = omega (arith, start, end);
      within = let l : length (bytes ++ new) ≡ length bytes + length new = length-append bytes new in omega (arith, end, l);
      packed = subst IsPackedSet (sym (bytes_new bytes new s start end)) set;
    })
