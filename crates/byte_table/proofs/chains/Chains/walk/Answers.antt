use Rattle.std.proofs.Common.{arith, sym, ap, subst, ◌∙◌, ◌≡◌, ◌==◌, ◌-◌, ◌<◌, ◌≤◌, ◌%◌, true, false, length, List, ℕ}
use Rattle.std.specs.Prelude.{slice_index}
use Rattle.std.proofs.lemmas.Bool.Decides.{nat_tests}
use Rattle.byte_table.proofs.Linked.{way_begins, way_goes_on, way_ends, no_bucket, one_is, IsOnWay}
use Rattle.byte_table.proofs.chains.Chains.walk.Goals as goal

pub loop-at-init : goal.loop-at-init
loop-at-init c =
    let chains = c.args.self.now in
    let test : (length c.as_slice-heads.result.now == 0) ≡ false = sym c.is_empty.ensures ∙ c.if-is_empty.false in
    let long : length c.as_slice-heads.result.now ≡ length chains.heads.items = ap length c.as_slice-heads.ensures.value in
    let some : 0 < length chains.heads.items = grind (arith, nat_tests) in
    subst (λ (hs : List ℕ). IsOnWay c.args.strings.now (length chains.heads.items) c.args.string.now c.args.hash (slice_index hs (c.args.hash % length hs))) (sym c.as_slice-heads.ensures.value)
    (way_begins c.args.strings.now chains.heads.items chains.nexts.items c.args.string.now c.args.hash c.requires.chained c.requires.hash some)

pub loop-at-preserved : goal.loop-at-preserved
loop-at-preserved c =
    let chains = c.args.self.now in
    subst (λ (ns : List ℕ). IsOnWay c.args.strings.now (length chains.heads.items) c.args.string.now c.args.hash (slice_index ns (c.loop-at.at - 1))) (sym c.as_slice-nexts.ensures.value)
    (way_goes_on c.args.strings.now chains.heads.items chains.nexts.items c.args.string.now c.args.hash c.loop-at.at c.requires.chained c.requires.hash c.loop-at-test.true c.loop-at.invariant (sym c.is_at.ensures ∙ c.if-is_at.false))

pub returns : goal.returns
returns c = way_ends c.args.strings.now (length c.args.self.now.heads.items) c.args.string.now c.args.hash c.loop-at.at c.loop-at-test.false c.loop-at.invariant

pub returns-then-is_at : goal.returns-then-is_at
returns-then-is_at c =
    let w : c.loop-at.at ≤ length c.args.strings.now = c.loop-at.invariant.within in
    let some : 0 < c.loop-at.at = c.loop-at-test.true in
    one_is c.args.strings.now c.args.string.now (c.loop-at.at - 1) (omega arith) (sym c.is_at.ensures ∙ c.if-is_at.true)

pub returns-then-is_empty : goal.returns-then-is_empty
returns-then-is_empty c =
    let test : (length c.as_slice-heads.result.now == 0) ≡ true = sym c.is_empty.ensures ∙ c.if-is_empty.true in
    let long : length c.as_slice-heads.result.now ≡ length c.args.self.now.heads.items = ap length c.as_slice-heads.ensures.value in
    no_bucket c.args.strings.now c.args.self.now.heads.items c.args.self.now.nexts.items c.args.string.now c.requires.chained (grind (arith, nat_tests))
