-- What is known of a door while its connections are served.
use Rattle.std.proofs.Common.{◌≡◌, ℕ, ◌+◌, ◌≤◌, Bool, true, false, List, [], ◌∷◌, ◌++◌, drop, Option, Some, None, option_map, Result, Ok, Err, refl, sym, ap, subst, ◌∙◌, arith}
use Rattle.std.specs.Prelude.{◌==◌, if◌then◌else◌}
use Rattle.std.proofs.lemmas.List.{drop-drop, length-append}
use Rattle.std.proofs.lemmas.List.Elements.{All-nil, All-cons, All-append}
use Rattle.bridge_ports.specs.Connections.{ConnSeen, conn_with}
use Rattle.bridge_ports.specs.Doors.{DoorState, HandsOut, IsFirstToCome, HoldsNothing, broken_count, with_reply, closed_with}
use Rattle.series_select.specs.declared.selector.Selector.{Selector}
use Rattle.page_server.specs.declared.status.ReplyStatus.{ReplyStatus}
use Rattle.page_server.specs.declared.status.ServeFault.{ServeFault}
use Rattle.page_server.specs.declared.status.ServeFault.TheVariants as faults
use Rattle.page_server.specs.Serving.{ServeAnswer}
use Rattle.scraper_pool.specs.Serving.{IsCountedAs, ServedOne, ServedConn, WasServed, AreServed, CameFirst, with_replies, answered_count, ServedSome, served_count}
use Rattle.scraper_pool.specs.Laws.{FewServed}

-- ---- one connection

-- what a door that handed a connection out and took it back says of the connection
pub served_one : (may_show : List Selector → List ℕ → Type 0) (old mid new : DoorState) (left held left_now held_now : Option (List ℕ)) (reads writes reads_now writes_now : ℕ) (conn served fresh back : ConnSeen) (count : ℕ)
    → HandsOut old mid left held reads writes → conn ≡ conn_with left held reads writes → fresh ≡ conn → IsCountedAs may_show conn served count → served ≡ conn_with left_now held_now reads_now writes_now → back ≡ served
    → new ≡ closed_with held_now reads_now writes_now mid → ServedOne may_show old new fresh back count
served_one may_show old mid new left held left_now held_now reads writes reads_now writes_now conn served fresh back count out conn_is same_fresh counted served_is same_back home =
    let fresh_is : fresh ≡ conn_with left held reads writes = same_fresh ∙ conn_is in
    let back_is : back ≡ conn_with left_now held_now reads_now writes_now = same_back ∙ served_is in
    let coming : new.coming ≡ mid.coming = ap (λ (d : DoorState). d.coming) home in
    let handed : mid ≡ record old { coming = new.coming; handed = old.handed + 1; out = true } =
    out.door ∙ ap (λ (c : Option (List (List ℕ))). record old { coming = c; handed = old.handed + 1; out = true }) (sym coming) in
    let At : ConnSeen → Type 0 = λ c. IsFirstToCome old.coming mid.coming c.left in
    record {
      first = subst (λ (c : Option (List (List ℕ))). IsFirstToCome old.coming c fresh.left) (sym coming) (subst At (sym fresh_is) out.first);
      nothing_held = subst (λ (c : ConnSeen). HoldsNothing c.held) (sym fresh_is) out.nothing_held;
      no_read_faults = ap (λ (c : ConnSeen). c.read_faults) fresh_is ∙ out.no_read_faults;
      no_write_faults = ap (λ (c : ConnSeen). c.write_faults) fresh_is ∙ out.no_write_faults;
      counted = subst (λ (c : ConnSeen). IsCountedAs may_show c back count) (sym same_fresh) (subst (λ (c : ConnSeen). IsCountedAs may_show conn c count) (sym same_back) counted);
      taken_back = home ∙ ap (closed_with held_now reads_now writes_now) handed
          ∙ ap (λ (c : ConnSeen). closed_with c.held c.read_faults c.write_faults (record old { coming = new.coming; handed = old.handed + 1; out = true })) (sym back_is);
    }

one_at_most : (faults : ℕ) → broken_count faults ≤ 1
one_at_most faults = by (faults == 0)
  where
    by : (none : Bool) → (if none then 0 else 1) ≤ 1
    by true = omega arith
    by false = omega arith

none_broken : (faults before : ℕ) → faults ≡ before → before ≡ 0 → broken_count faults ≡ 0
none_broken faults before same none = ap broken_count (same ∙ none)

-- at most one of these holds of it: it is counted, a read of it failed, a write of it failed
counted_once : (may_show : List Selector → List ℕ → Type 0) (old new : ConnSeen) (count : ℕ) → IsCountedAs may_show old new count → old.read_faults ≡ 0 → old.write_faults ≡ 0
    → count + broken_count new.read_faults + broken_count new.write_faults ≤ 1
counted_once may_show old new count is reads writes = by is.answer is.came_to is.count_is
  where
    by : (answer : Result ReplyStatus ServeFault) → ServeAnswer may_show old new answer → count ≡ served_count answer → count + broken_count new.read_faults + broken_count new.write_faults ≤ 1
    by (Ok status) came e = omega (arith, e, none_broken new.read_faults old.read_faults came.answered.reads reads, none_broken new.write_faults old.write_faults came.writes writes)
    by (Err faults.Read) came e = omega (arith, e, one_at_most new.read_faults, none_broken new.write_faults old.write_faults came.writes writes)
    by (Err faults.Write) came e = omega (arith, e, none_broken new.read_faults old.read_faults came.answered.reads reads, one_at_most new.write_faults)
    by (Err faults.Memory) came e = omega (arith, e, none_broken new.read_faults old.read_faults came.1.reads reads, none_broken new.write_faults old.write_faults came.1.writes writes)

-- the first of those to come is no more to come
first_dropped : (old new : Option (List (List ℕ))) (left : Option (List ℕ)) → IsFirstToCome old new left → new ≡ option_map (drop 1) old
first_dropped None new left is = is
first_dropped (Some []) new left is = absurd is
first_dropped (Some (bytes ∷ coming)) new left is = is.0

-- ---- all that were handed out

-- a connection that was served, with its answer
abbrev conn_of : (fresh back : ConnSeen) → Result ReplyStatus ServeFault → ServedConn
conn_of fresh back answer = record { fresh = fresh; back = back; answer = answer }

one_some : (may_show : List Selector → List ℕ → Type 0) (old new : DoorState) (fresh back : ConnSeen) (count : ℕ) → ServedOne may_show old new fresh back count → ServedSome may_show old new 1 count
one_some may_show old new fresh back count one =
    let reads : new.broken_reads ≡ old.broken_reads + broken_count back.read_faults = ap (λ (d : DoorState). d.broken_reads) one.taken_back in
    let writes : new.broken_writes ≡ old.broken_writes + broken_count back.write_faults = ap (λ (d : DoorState). d.broken_writes) one.taken_back in
    let conn = conn_of fresh back one.counted.answer in
    let was : WasServed may_show conn = record { nothing_held = one.nothing_held; no_read_faults = one.no_read_faults; no_write_faults = one.no_write_faults; came_to = one.counted.came_to } in
    record {
      conns = conn ∷ [];
      many = refl;
      are_served = record {
        each = All-cons (WasServed may_show) conn [] was (All-nil (WasServed may_show));
        first = (new.coming, one.first, refl);
        replies = ap (λ (d : DoorState). d.replies) one.taken_back;
      };
      answered = omega (arith, one.counted.count_is);
      handed_on = ap (λ (d : DoorState). d.handed) one.taken_back;
      faults = ap (λ (d : DoorState). d.faults) one.taken_back;
      home = ap (λ (d : DoorState). d.out) one.taken_back;
      coming = first_dropped old.coming new.coming fresh.left one.first;
      later_reads = omega (arith, reads);
      later_writes = omega (arith, writes);
      counted = omega (arith, reads, writes, counted_once may_show fresh back count one.counted one.no_read_faults one.no_write_faults);
    }

came_on : (old now new : Option (List (List ℕ))) (xs ys : List ServedConn) → CameFirst old now xs → CameFirst now new ys → CameFirst old new (xs ++ ys)
came_on old now new [] ys here later = subst (λ o. CameFirst o new ys) here later
came_on old now new (c ∷ xs) ys here later = (here.0, here.1, came_on here.0 now new xs ys here.2 later)

replies_on : (replies : Option (List (List ℕ))) (xs ys : List ServedConn) → with_replies replies (xs ++ ys) ≡ with_replies (with_replies replies xs) ys
replies_on replies [] ys = refl
replies_on replies (c ∷ xs) ys = replies_on (with_reply c.back.held replies) xs ys

answered_on : (xs ys : List ServedConn) → answered_count (xs ++ ys) ≡ answered_count xs + answered_count ys
answered_on [] ys = omega arith
answered_on (c ∷ xs) ys = omega (arith, answered_on xs ys)

are_served_on : (may_show : List Selector → List ℕ → Type 0) (old now new : DoorState) (xs ys : List ServedConn) → AreServed may_show old now xs → AreServed may_show now new ys → AreServed may_show old new (xs ++ ys)
are_served_on may_show old now new xs ys a b = record {
  each = All-append (WasServed may_show) xs ys a.each b.each;
  first = came_on old.coming now.coming new.coming xs ys a.first b.first;
  replies = b.replies ∙ ap (λ told. with_replies told ys) a.replies ∙ sym (replies_on old.replies xs ys);
}

dropped_twice : {A : Type 0} (n m : ℕ) (xs : Option (List A)) → option_map (drop m) (option_map (drop n) xs) ≡ option_map (drop (n + m)) xs
dropped_twice n m None = refl
dropped_twice n m (Some xs) = ap Some (drop-drop m n xs)

served_on : (may_show : List Selector → List ℕ → Type 0) (old now new : DoorState) (n m x y : ℕ) → ServedSome may_show old now n x → ServedSome may_show now new m y → ServedSome may_show old new (n + m) (x + y)
served_on may_show old now new n m x y a b = record {
  conns = a.conns ++ b.conns;
  many = omega (arith, a.many, b.many, length-append a.conns b.conns);
  are_served = are_served_on may_show old now new a.conns b.conns a.are_served b.are_served;
  answered = omega (arith, a.answered, b.answered, answered_on a.conns b.conns);
  handed_on = omega (arith, a.handed_on, b.handed_on);
  faults = b.faults ∙ a.faults;
  home = b.home;
  coming = b.coming ∙ ap (option_map (drop m)) a.coming ∙ dropped_twice n m old.coming;
  later_reads = omega (arith, a.later_reads, b.later_reads);
  later_writes = omega (arith, a.later_writes, b.later_writes);
  counted = omega (arith, a.counted, b.counted);
}

none_dropped : {A : Type 0} (xs : Option (List A)) → xs ≡ option_map (drop 0) xs
none_dropped None = refl
none_dropped (Some xs) = refl

-- none yet
pub none_yet : (may_show : List Selector → List ℕ → Type 0) (door : DoorState) → door.out ≡ false → ServedSome may_show door door 0 0
none_yet may_show door home = record {
  conns = [];
  many = refl;
  are_served = record { each = All-nil (WasServed may_show); first = refl; replies = refl };
  answered = refl;
  handed_on = omega arith;
  faults = refl;
  home = home;
  coming = none_dropped door.coming;
  later_reads = omega arith;
  later_writes = omega arith;
  counted = omega arith;
}

-- one connection more
pub one_more : (may_show : List Selector → List ℕ → Type 0) (old now new : DoorState) (n x : ℕ) (fresh back : ConnSeen) (count : ℕ) → ServedSome may_show old now n x → ServedOne may_show now new fresh back count
    → ServedSome may_show old new (n + 1) (x + count)
one_more may_show old now new n x fresh back count some one = served_on may_show old now new n 1 x count some (one_some may_show now new fresh back count one)

pub few_served : FewServed
few_served run pages old new served is = omega (arith, is.counted, is.later_reads, is.later_writes)
