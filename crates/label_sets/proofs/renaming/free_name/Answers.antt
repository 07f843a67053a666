use Rattle.std.proofs.Common.{◌≡◌, true, false, sym, subst, ◌∙◌, ap, arith, length, ◌-◌, ◌+◌, string_bytes, ℕ, List}
use Rattle.std.specs.Prelude.{IfOk}
use Rattle.label_sets.specs.Labels.{exported_name, has_name}
use Rattle.label_sets.proofs.NewNames.{step_free, step_taken, stands_none, stands_some}
use Rattle.label_sets.proofs.renaming.free_name.Goals as goal

pub returns-then-is_none : goal.returns-then-is_none
returns-then-is_none c =
    let fresh = subst (λ (n : List ℕ). has_name c.args.labels.now n ≡ false) c.as_bytes.ensures.value (stands_none c.args.labels.now _ c.find.result c.find.ensures c.if-is_none.ensures) in
    subst (λ (n : List ℕ). IfOk c.from_string.result (λ (m : List ℕ). m ≡ n)) (sym (c.loop.invariant ∙ step_free (length c.args.labels.now - c.loop.counter) c.args.labels.now (string_bytes c.loop.next) (string_bytes c.insert_str.new.self) (omega arith) c.in_ok-insert_str.ensures.bytes fresh)) c.from_string.ensures

pub loop-preserved : goal.loop-preserved
loop-preserved c =
    let taken = subst (λ (n : List ℕ). has_name c.args.labels.now n ≡ true) c.as_bytes.ensures.value (stands_some c.args.labels.now _ c.find.result c.find.ensures c.if-is_none.ensures) in
    let left : length c.args.labels.now - c.loop.counter - 1 ≡ length c.args.labels.now - (c.loop.counter + 1) = omega arith in
    c.loop.invariant ∙ (step_taken (length c.args.labels.now - c.loop.counter) c.args.labels.now (string_bytes c.loop.next) (string_bytes c.insert_str.new.self) (omega arith) c.in_ok-insert_str.ensures.bytes taken
    ∙ ap (λ (n : ℕ). exported_name n c.args.labels.now (string_bytes c.insert_str.new.self)) left)
