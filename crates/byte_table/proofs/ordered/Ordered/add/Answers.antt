use Rattle.std.proofs.Common.{ap, sym, subst, ◌∙◌, ◌≡◌, cond, true, false, refl, List, ℕ, Some, Vec}
use Rattle.std.specs.Prelude.{is_some}
use Rattle.std.specs.Str.{bytes_eq}
use Rattle.std.specs.Ordering.{nat_cmp, is_eq}
use Rattle.std.specs.Cmp.Lexicographic.{slice_cmp}
use Rattle.std.specs.Map.{lookup}
use Rattle.std.specs.BTreeMap.{is_at}
use Rattle.std.specs.Global.{Global}
use Rattle.byte_table.specs.declared.ordered.Ordered.{Ordered}
use Rattle.byte_table.specs.Hashes.{second_hash}
use Rattle.byte_table.specs.Finding.{first_at, other_at}
use Rattle.byte_table.proofs.Entries.{on_err}
use Rattle.byte_table.proofs.Found.{found_first, found_other, found_same, other_after, none_there}
use Rattle.byte_table.proofs.ordered.Ordered.add.Goals as goal

pub returns-in_err-insert-clause-same : goal.returns-in_err-insert-clause-same
returns-in_err-insert-clause-same c = on_err c.from_residual-in_err-insert.result (λ strings is.
    let o = c.args.self.now in
    let o' : Ordered = record { firsts = o.firsts; others = c.insert.new.self } in
    found_same o o' strings (λ hash. refl) (λ string. ap (lookup (is_at (λ (key : Vec ℕ Global). slice_cmp nat_cmp string key.items))) c.in_err-insert.ensures.err) is)

pub returns-in_err-insert-2-clause-same : goal.returns-in_err-insert-2-clause-same
returns-in_err-insert-2-clause-same c = on_err c.from_residual-in_err-insert-2.result (λ strings is.
    let o = c.args.self.now in
    let o' : Ordered = record { firsts = c.insert-else-contains_key.new.self; others = o.others } in
    found_same o o' strings (λ hash. ap (lookup (is_at (nat_cmp hash))) c.in_err-insert-2.ensures.err) (λ string. refl) is)

pub returns-in_ok-insert-clause-added : goal.returns-in_ok-insert-clause-added
returns-in_ok-insert-clause-added c = λ strings k is.
    let o = c.args.self.now in
    let o' : Ordered = record { firsts = o.firsts; others = c.insert.new.self } in
    let key : c.in_ok-key.key.items ≡ c.args.string.now = c.in_ok-key.ensures.items in
    let some : is_some (first_at o (second_hash c.args.string.now)) ≡ true = ap (λ (h : ℕ). is_some (first_at o h)) (sym c.second_hash-hash.ensures) ∙ (sym c.contains_key.ensures ∙ c.if-contains_key.true) in
    let others = subst (λ (x : List ℕ). (s : List ℕ) → other_at o' s ≡ cond (bytes_eq x s) (Some c.args.at) (other_at o s)) key (other_after o o' c.in_ok-key.key c.args.at c.in_ok-insert.ensures.updates) in
    let here : other_at o' c.args.string.now ≡ Some c.args.at = subst (λ (x : List ℕ). other_at o' x ≡ Some c.args.at) key c.in_ok-insert.ensures.updates.1 in
    found_other o o' strings c.args.string.now c.args.at is k some others here refl

pub returns-in_ok-insert-2-clause-added : goal.returns-in_ok-insert-2-clause-added
returns-in_ok-insert-2-clause-added c = λ strings k is.
    let o = c.args.self.now in
    let o' : Ordered = record { firsts = c.insert-else-contains_key.new.self; others = o.others } in
    let hash : c.second_hash-hash.result ≡ second_hash c.args.string.now = c.second_hash-hash.ensures in
    let none : is_some (first_at o (second_hash c.args.string.now)) ≡ false = ap (λ (h : ℕ). is_some (first_at o h)) (sym hash) ∙ (sym c.contains_key.ensures ∙ c.if-contains_key.false) in
    found_first o o' strings c.args.string.now c.args.at is k (none_there (first_at o (second_hash c.args.string.now)) none)
    (subst (λ (h : ℕ). (q : ℕ) → first_at o' q ≡ cond (is_eq (nat_cmp h q)) (Some c.args.at) (first_at o q)) hash c.in_ok-insert-2.ensures.updates.0)
    (subst (λ (h : ℕ). first_at o' h ≡ Some c.args.at) hash c.in_ok-insert-2.ensures.updates.1)
    refl
