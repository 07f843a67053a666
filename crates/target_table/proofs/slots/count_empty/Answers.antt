use Rattle.std.proofs.Common.{◌≡◌, ◌≤◌, ◌<◌, ◌+◌, ℕ, Bool, List, take, get_or, length, count_by, sym, ap, ◌∙◌, arith, true, false}
use Rattle.std.proofs.lemmas.List.Sums.{count_by_more_no, count_by_more_yes}
use Rattle.target_table.proofs.slots.count_empty.Goals as goal
use Rattle.target_table.proofs.slots.count_empty.Goals.{then-is_empty, else-is_empty}

-- one more is counted, or none
counted : {X : Type 0} (p : X → Bool) (xs : List X) (i : ℕ) (x : X) (before : ℕ) → i < length xs → x ≡ get_or xs i x → p x ≡ true → before ≡ count_by p (take i xs) → before ≤ i
    → (before + 1 ≡ count_by p (take (i + 1) xs)) × (before + 1 ≤ i + 1)
counted p xs i x before within here passes h few = (let more = count_by_more_yes p xs i x within (ap p (sym here) ∙ passes) in omega (arith, h, more), omega arith)

passed : {X : Type 0} (p : X → Bool) (xs : List X) (i : ℕ) (x : X) (before : ℕ) → i < length xs → x ≡ get_or xs i x → p x ≡ false → before ≡ count_by p (take i xs) → before ≤ i
    → (before ≡ count_by p (take (i + 1) xs)) × (before ≤ i + 1)
passed p xs i x before within here fails h few = (h ∙ sym (count_by_more_no p xs i x within (ap p (sym here) ∙ fails)), omega arith)

pub loop-slot-preserved : goal.loop-slot-preserved
loop-slot-preserved g c = elim c.if-is_empty.branch [
  | then-is_empty w ↦ rw w.empty-is (counted _ c.args.slots.now c.loop-slot.slot-index c.slot-item.result c.loop-slot.empty (omega arith) c.slot-item.is (sym c.is_empty.ensures ∙ w.if-is_empty.true) c.loop-slot.invariant.0 c.loop-slot.invariant.1)
  | else-is_empty w ↦ rw w.empty-is (passed _ c.args.slots.now c.loop-slot.slot-index c.slot-item.result c.loop-slot.empty (omega arith) c.slot-item.is (sym c.is_empty.ensures ∙ w.if-is_empty.false) c.loop-slot.invariant.0 c.loop-slot.invariant.1)
]
