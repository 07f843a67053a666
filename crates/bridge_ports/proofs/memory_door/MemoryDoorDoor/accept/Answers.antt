-- The connection that is handed out is the first to come, and the others were not used.
use Rattle.std.proofs.Common.{◌≡◌, ◌≤◌, ◌+◌, ◌-◌, ℕ, zero, suc, List, [], ◌∷◌, length, take, drop, Some, true, refl, sym, ap, subst, ◌∙◌, arith}
use Rattle.std.specs.Prelude.{map, slice_index_or, remove}
use Rattle.std.proofs.lemmas.List.Elements.{All-head, All-tail, All-same}
use Rattle.bridge_ports.specs.Doors.{HandsOut, IsFirstToCome}
use Rattle.bridge_ports.specs.InMemory.{ConnState, IsFreshConn, MemoryDoorState, door_of, door_state}
use Rattle.bridge_ports.proofs.memory_door.MemoryDoorDoor.accept.Goals as goal

-- of those to come the first was taken away, and those behind them are as they were
record FirstGone {A : Type 0} (items rest : List A) (x : A) (left : ℕ) : Type 0 where
  to_come : x ∷ take (left - 1) rest ≡ take left items
  back : drop (left - 1) rest ≡ drop left items

first_gone : {A : Type 0} (items rest : List A) (x d : A) (left : ℕ) → (left ≡ 0 → ⊥) → left ≤ length items → x ≡ slice_index_or items 0 x → rest ≡ remove items 0 → FirstGone items rest x left
first_gone items rest x d zero some few value same = absurd (some refl)
first_gone [] rest x d (suc n) some few value same = absurd (omega (arith, few))
first_gone {A} (y ∷ ys) rest x d (suc n) some few value same =
    let one_less : suc n - 1 ≡ n = omega arith in
    record {
      to_come = ap (λ m. x ∷ take m rest) one_less ∙ ap (λ (z : A). z ∷ take n rest) value ∙ ap (λ (zs : List A). y ∷ take n zs) same;
      back = ap (λ m. drop m rest) one_less ∙ ap (drop n) same;
    }

hands_out : (old : MemoryDoorState) (conns : List ConnState) (conn : ConnState) → old.conns ≡ conn ∷ conns → IsFreshConn conn
    → HandsOut (door_of old) (door_of (record old { conns = conns; handed = old.handed + 1; out = true })) (Some conn.source.left) (Some conn.sink.held) conn.source.faults conn.sink.faults
hands_out old conns conn is fresh = record {
  first = subst (λ (cs : List ConnState). IsFirstToCome (Some (map (λ (k : ConnState). k.source.left) cs)) (Some (map (λ (k : ConnState). k.source.left) conns)) (Some conn.source.left))
      (sym is) (refl, refl);
  door = refl;
  nothing_held = fresh.nothing_held;
  no_read_faults = fresh.no_read_faults;
  no_write_faults = fresh.no_write_faults;
}

pub invariant_of-self-2 : goal.invariant_of-self-2
invariant_of-self-2 c =
    let w = c.self.inside in
    let gone = first_gone w.conns.items c.remove-conn.new.self.items c.remove-conn.result c.remove-conn.result w.left c.if-self-eq0.false (omega (arith, c.self.invariant.0, c.self.inside.conns.ok.0)) c.remove-conn.ensures.value c.remove-conn.ensures.items in
    let right = c.self.invariant.2 in (
      omega (arith, c.self.invariant.0, c.remove-conn.ensures.len),
      omega (arith, c.self.invariant.1, c.remove-conn.ensures.len, c.remove-conn.ensures.capacity),
      record {
        fresh = All-tail IsFreshConn c.remove-conn.result (take (w.left - 1) c.remove-conn.new.self.items)
            (All-same IsFreshConn (c.remove-conn.result ∷ take (w.left - 1) c.remove-conn.new.self.items) (take w.left w.conns.items) gone.to_come right.fresh);
        reads = omega (arith, right.reads);
        writes = omega (arith, right.writes);
      },
    )

pub returns-clause-done : goal.returns-clause-done
returns-clause-done c =
    let w = c.self.inside in
    let conns = take (w.left - 1) c.remove-conn.new.self.items in
    let gone = first_gone w.conns.items c.remove-conn.new.self.items c.remove-conn.result c.remove-conn.result w.left c.if-self-eq0.false (omega (arith, c.self.invariant.0, c.self.inside.conns.ok.0)) c.remove-conn.ensures.value c.remove-conn.ensures.items in
    let fresh = All-head IsFreshConn c.remove-conn.result conns
    (All-same IsFreshConn (c.remove-conn.result ∷ conns) (take w.left w.conns.items) gone.to_come c.self.invariant.2.fresh) in
    let State : List ConnState → MemoryDoorState = λ back. door_state (take w.left w.conns.items) back w.faults w.handed w.out w.broken_reads w.broken_writes in
    let Now : List ConnState → MemoryDoorState = λ back. door_state conns back w.faults (w.handed + 1) true w.broken_reads w.broken_writes in
    subst (λ (m : MemoryDoorState). HandsOut (door_of m) (door_of (Now (drop (w.left - 1) c.remove-conn.new.self.items)))
    (Some c.remove-conn.result.source.left) (Some c.remove-conn.result.sink.held) c.remove-conn.result.source.faults c.remove-conn.result.sink.faults)
    c.self.view_is
    (subst (λ (back : List ConnState). HandsOut (door_of (State (drop w.left w.conns.items))) (door_of (Now back))
    (Some c.remove-conn.result.source.left) (Some c.remove-conn.result.sink.held) c.remove-conn.result.source.faults c.remove-conn.result.sink.faults)
    (sym gone.back) (hands_out (State (drop w.left w.conns.items)) conns c.remove-conn.result (sym gone.to_come) fresh))
