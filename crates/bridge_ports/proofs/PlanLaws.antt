-- How a wire in memory keeps its talks: what its calls owe to the definitions of wires.
use Rattle.std.proofs.Common.{◌≡◌, ℕ, Bool, false, zero, suc, ◌+◌, ◌-◌, ◌≤◌, List, [], ◌∷◌, ◌++◌, length, take, drop, Option, Some, None, refl, sym, ap, ◌∙◌, arith, append-nil, inl, inr, subst}
use Rattle.std.specs.Prelude.{◌≢◌, slice_get, Contains}
use Rattle.std.proofs.lemmas.List.{take-append-drop}
use Rattle.std.proofs.Math.Seq.{take-add, drop-append_seam}
use Rattle.bridge_ports.specs.declared.talk.End.{End}
use Rattle.bridge_ports.specs.declared.talk.End.TheVariants.{ConnectFailed, WriteFailed, ReadFailed, Ended, Left}
use Rattle.bridge_ports.specs.declared.talk.Talk.{Talk}
use Rattle.bridge_ports.specs.declared.talk.MemoryReply.{MemoryReply}
use Rattle.bridge_ports.specs.declared.talk.Stage.{Stage}
use Rattle.bridge_ports.specs.declared.talk.Stage.TheVariants as stages
use Rattle.bridge_ports.specs.declared.kept.Kept.{Kept}
use Rattle.bridge_ports.specs.Talks.{Plan, reply_of, Spoken, nothing_said, talk_of, no_reply}
use Rattle.bridge_ports.specs.declared.talk.Place.{Place}
use Rattle.bridge_ports.specs.Keeping.{KeptState, kept_to}
use Rattle.bridge_ports.specs.Plans.{MemoryState, reply_now, FailsBy, Fails, EndsAs, Follows, AreTalksOf, GoesOn, IsOfPlan, MayEnd, talk_ended, kept_plan, kept_talk, kept_talks, kept_now, memory_state, KeepsPlan, talk_at}

-- as many talks as are kept stand in front of the earlier ones
pub length-kept_talks : (plan : Plan) (earlier : List Talk) (ks : List Kept) → length (kept_talks plan earlier ks) ≡ length ks + length earlier
length-kept_talks plan earlier [] = omega arith
length-kept_talks plan earlier (k ∷ ks) = length-kept_talks plan (kept_talk plan (length earlier) k ∷ earlier) ks ∙ omega arith

-- as many talks are told as are kept
pub length-kept : (plan : Plan) (ks : List Kept) → length (kept_talks plan [] ks) ≡ length ks
length-kept plan ks = length-kept_talks plan [] ks ∙ omega arith

-- one more talk that is kept is the one told first
pub kept_talks-push : (plan : Plan) (earlier : List Talk) (ks : List Kept) (k : Kept)
    → kept_talks plan earlier (ks ++ k ∷ []) ≡ kept_talk plan (length (kept_talks plan earlier ks)) k ∷ kept_talks plan earlier ks
kept_talks-push plan earlier [] k = refl
kept_talks-push plan earlier (j ∷ ks) k = kept_talks-push plan (kept_talk plan (length earlier) j ∷ earlier) ks k

-- a finished talk is told as the one that was under way, with its end
pub kept_is : (plan : Plan) (earlier : ℕ) (k : Kept) (at : ℕ) → at ≡ (reply_of plan earlier).at
    → kept_talk plan earlier k ≡ talk_of k.end (kept_now plan earlier at k.all.bytes k.read)
kept_is plan earlier k at is = λ i. record { at = sym is i; sent = k.all.bytes; got = take k.read (reply_of plan earlier).got; end = k.end }

-- a talk under way follows its reply
pub follows_now : (reply : MemoryReply) (now : Spoken) (stage : Stage) → stage ≢ stages.Idle → GoesOn stage reply now → Follows reply now.at now.sent now.got
follows_now reply now stages.Idle talking x = absurd (talking refl)
follows_now reply now stages.Begun talking x = record {
  at_is = x.0;
  front = (reply.got, sym (ap (λ got. got ++ reply.got) x.2));
  silent = λ _. x.1;
  deaf = λ _. x.2;
}
follows_now reply now stages.Connected talking x = x.0

-- a talk under way that ends so is one that its reply gives
pub ends_so : (plan : Plan) (talks : List Talk) (now : Spoken) (end : End) → AreTalksOf plan talks
    → Follows (reply_of plan (length talks)) now.at now.sent now.got → EndsAs end plan.failing (reply_of plan (length talks)) now.sent now.got
    → AreTalksOf plan (talk_of end now ∷ talks)
ends_so plan talks now end past follows ends = (record { follows = follows; ends = ends }, past)

-- what was read and what is read next are one front of the reply
pub reads_on : (reply : List ℕ) (read n : ℕ) → take (read + n) reply ≡ take read reply ++ take n (drop read reply)
reads_on reply read n = take-add read n reply

-- more of the reply that was read follows it still
pub follows_on : (reply : MemoryReply) (at : ℕ) (sent : List ℕ) (read : ℕ) → reply.end ≢ ConnectFailed
    → Follows reply at sent (take read reply.got) → (more : ℕ) → Follows reply at sent (take more reply.got)
follows_on reply at sent read some x more = record {
  at_is = x.at_is;
  front = (drop more reply.got, sym (take-append-drop more reply.got));
  silent = x.silent;
  deaf = λ none. absurd (some none);
}

-- behind all talks that are kept stand the earlier ones
behind_kept : (plan : Plan) (earlier : List Talk) (ks : List Kept) (n m : ℕ) → m ≡ length ks + n → slice_get (kept_talks plan earlier ks) m ≡ slice_get earlier n
behind_kept plan earlier [] n m is = ap (slice_get earlier) (omega (arith, is))
behind_kept plan earlier (k ∷ ks) n m is = behind_kept plan (kept_talk plan (length earlier) k ∷ earlier) ks (suc n) m (omega (arith, is))

-- the talk that is kept at this place
pub kept_at : (plan : Plan) (earlier : List Talk) (ks : List Kept) (i m n : ℕ) (k : Kept) → slice_get ks i ≡ Some k → m + (i + 1) ≡ length ks → n ≡ length earlier + i
    → slice_get (kept_talks plan earlier ks) m ≡ Some (kept_talk plan n k)
kept_at plan earlier [] i m n k is place number = absurd (cc is)
kept_at plan earlier (j ∷ ks) zero m n k is place number =
    let there : m ≡ length ks + 0 = omega arith in
    behind_kept plan (kept_talk plan (length earlier) j ∷ earlier) ks 0 m there ∙ same
  where
    same : slice_get (kept_talk plan (length earlier) j ∷ earlier) 0 ≡ Some (kept_talk plan n k)
    same = let e : n ≡ length earlier = omega arith in let f : j ≡ k = cc is in cc (e, f)
kept_at plan earlier (j ∷ ks) (suc i) m n k is place number =
    kept_at plan (kept_talk plan (length earlier) j ∷ earlier) ks i m n k is (omega arith) (omega arith)

-- a call that was named to fail is one of a plan that names some
some_named : (failing : List ℕ) (number : ℕ) → Contains failing number → failing ≢ []
some_named failing number named none = absurd (omega (arith, named.1, ap length none))

-- a call that fails fails by its reply where the plan names none
fails_by : (m : MemoryState) (end : End) → Fails end m m.calls → m.plan.failing ≡ [] → FailsBy end m
fails_by m end (inl named) none = absurd (some_named m.plan.failing m.calls named none)
fails_by m end (inr by) none = by

-- where no byte is left, all of the reply was read
all_read : (got whole : List ℕ) → (rest : List ℕ) × (whole ≡ got ++ rest) → drop (length got) whole ≡ [] → got ≡ whole
all_read got whole front none =
    let e : drop (length got) (got ++ front.0) ≡ front.0 = drop-append_seam got front.0 in
    let f : drop (length got) whole ≡ drop (length got) (got ++ front.0) = ap (drop (length got)) front.1 in
    let r : front.0 ≡ [] = cc (e, f, none) in
    sym (front.1 ∙ ap (λ rest. got ++ rest) r ∙ append-nil got)

-- what a talk owes where it may end so
pub ends_as : (m : MemoryState) (end : End) → IsOfPlan m → MayEnd end m → EndsAs end m.plan.failing (reply_now m) m.now.sent m.now.got
ends_as m ConnectFailed x may =
    let p = subst (λ (s : Stage). GoesOn s (reply_now m) m.now) may.0 x.present in
    (p.1, p.2, fails_by m ConnectFailed may.1)
ends_as m WriteFailed x may =
    let p = subst (λ (s : Stage). GoesOn s (reply_now m) m.now) may.0 x.present in
    (p.1, fails_by m WriteFailed may.1)
ends_as m ReadFailed x may =
    let p = subst (λ (s : Stage). GoesOn s (reply_now m) m.now) may.0 x.present in
    (p.1, λ none. ((fails_by m ReadFailed may.1 none).0, all_read m.now.got (reply_now m).got p.0.front (fails_by m ReadFailed may.1 none).1))
ends_as m Ended x may =
    let p = subst (λ (s : Stage). GoesOn s (reply_now m) m.now) may.0 x.present in
    (p.1, may.1, all_read m.now.got (reply_now m).got p.0.front may.2)
ends_as m Left x may = tt

-- a talk that may end is under way
pub is_talking : (m : MemoryState) (end : End) → MayEnd end m → m.stage ≢ stages.Idle
is_talking m Left may idle = may idle
is_talking m _ may idle = absurd (cc (may.0, idle))

-- the talks follow the plan still, once the one under way ended
pub ended_follows : (m : MemoryState) (end : End) → IsOfPlan m → MayEnd end m → IsOfPlan (talk_ended end m)
ended_follows m end x may = record {
  some_bytes = x.some_bytes;
  past = ends_so m.plan m.talks m.now end x.past (follows_now (reply_now m) m.now m.stage (is_talking m end may) x.present) (ends_as m end x may);
  present = tt;
}

-- the reading of a talk under way is that of its reply
reading_is : (reply : MemoryReply) (now : Spoken) (stage : Stage) → stage ≢ stages.Idle → GoesOn stage reply now → now.at ≡ reply.at
reading_is reply now stages.Idle talking x = absurd (talking refl)
reading_is reply now stages.Begun talking x = x.0
reading_is reply now stages.Connected talking x = x.0.at_is

-- the reply to the talk under way goes by the number of talks that are kept
pub reply_kept : (plan : Plan) (ks : List Kept) → reply_of plan (length (kept_talks plan [] ks)) ≡ reply_of plan (length ks)
reply_kept plan ks = ap (reply_of plan) (length-kept plan ks)

-- the talk under way, kept as a finished one, is told so
pub talk_kept : (place : Place) (plan : Bool → Plan) (faults calls readies : ℕ) (lean : Option ℕ) (t new : KeptState) (end : End)
    → KeepsPlan plan t → MayEnd end (memory_state place plan faults calls readies lean t) → new ≡ kept_to end t
    → memory_state place plan faults calls readies lean new ≡ talk_ended end (memory_state place plan faults calls readies lean t)
talk_kept place plan faults calls readies lean t new end x may is =
    ap (memory_state place plan faults calls readies lean) is
    ∙ ap (λ (talks : List Talk). record (memory_state place plan faults calls readies lean t) { talks = talks; stage = stages.Idle; now = nothing_said }) told
  where
    told : kept_talks (plan t.keeps) [] (t.kept ++ record { all = record { bytes = t.sent }; sent = t.held; read = t.read; end = end } ∷ []) ≡ talk_of end (kept_now (plan t.keeps) (length t.kept) t.at t.sent t.read) ∷ kept_talks (plan t.keeps) [] t.kept
    told = kept_talks-push (plan t.keeps) [] t.kept (record { all = record { bytes = t.sent }; sent = t.held; read = t.read; end = end })
        ∙ ap (λ (n : ℕ). kept_talk (plan t.keeps) n (record { all = record { bytes = t.sent }; sent = t.held; read = t.read; end = end }) ∷ kept_talks (plan t.keeps) [] t.kept) (length-kept (plan t.keeps) t.kept)
        ∙ ap (λ (talk : Talk). talk ∷ kept_talks (plan t.keeps) [] t.kept) (kept_is (plan t.keeps) (length t.kept) (record { all = record { bytes = t.sent }; sent = t.held; read = t.read; end = end }) t.at (reading_is (reply_of (plan t.keeps) (length (kept_talks (plan t.keeps) [] t.kept))) (kept_now (plan t.keeps) (length t.kept) t.at t.sent t.read) t.stage (is_talking (memory_state place plan faults calls readies lean t) end may) x.follows.present
        ∙ ap (λ (r : MemoryReply). r.at) (reply_kept (plan t.keeps) t.kept)))

-- what a wire in memory keeps holds still, once the talk under way ended
pub plan_kept : (place : Place) (plan : Bool → Plan) (faults calls readies : ℕ) (lean : Option ℕ) (t new : KeptState) (end : End)
    → KeepsPlan plan t → MayEnd end (memory_state place plan faults calls readies lean t) → new ≡ kept_to end t → KeepsPlan plan new
plan_kept place plan faults calls readies lean t new end x may is = record {
  follows = subst IsOfPlan (sym (talk_kept place plan faults calls readies lean t new end x may is))
      (ended_follows (memory_state place plan faults calls readies lean t) end x.follows may);
  within = let none : new.read ≡ 0 = ap (λ (k : KeptState). k.read) is in omega arith;
}

-- the reply to the next talk, where the list has one
pub reply_listed : (plan : Plan) (ks : List Kept) (r p : MemoryReply) → slice_get plan.replies (length ks) ≡ Some r → p ≡ r → p ≡ reply_of plan (length (kept_talks plan [] ks))
reply_listed plan ks r p is same = rw (length-kept plan ks, is) same

-- where it has none, but there is one past them
pub reply_after : (plan : Plan) (ks : List Kept) (r p : MemoryReply) → slice_get plan.replies (length ks) ≡ None → plan.after ≡ Some r → p ≡ r → p ≡ reply_of plan (length (kept_talks plan [] ks))
reply_after plan ks r p none is same = rw (length-kept plan ks, none, is) same

-- where there is none
pub reply_past : (plan : Plan) (ks : List Kept) → slice_get plan.replies (length ks) ≡ None → plan.after ≡ None → no_reply ≡ reply_of plan (length (kept_talks plan [] ks))
reply_past plan ks none past = rw (length-kept plan ks, none, past) refl

-- a talk that is connected follows its reply still, where that has a connection
pub plan_connected : (plan : Bool → Plan) (t new : KeptState) → KeepsPlan plan t → t.stage ≡ stages.Begun → (reply_of (plan t.keeps) (length (kept_talks (plan t.keeps) [] t.kept))).end ≢ ConnectFailed
    → new ≡ record t { stage = stages.Connected } → KeepsPlan plan new
plan_connected plan t new x begun some e = subst (KeepsPlan plan) (sym e) (record {
  follows = record {
    some_bytes = x.follows.some_bytes;
    past = x.follows.past;
    present = (follows_now (reply_of (plan t.keeps) (length (kept_talks (plan t.keeps) [] t.kept))) (kept_now (plan t.keeps) (length t.kept) t.at t.sent t.read) t.stage (λ (idle : t.stage ≡ stages.Idle). absurd (cc (begun, idle))) x.follows.present, some);
  };
  within = x.within;
})

-- a talk that read more of its reply follows it still
follows_read : (plan : Plan) (t : KeptState) (more : ℕ) → (reply_of plan (length (kept_talks plan [] t.kept))).end ≢ ConnectFailed
    → Follows (reply_of plan (length (kept_talks plan [] t.kept))) t.at t.sent (take t.read (reply_of plan (length t.kept)).got)
    → Follows (reply_of plan (length (kept_talks plan [] t.kept))) t.at t.sent (take more (reply_of plan (length t.kept)).got)
follows_read plan t more some x =
    let whole = reply_of plan (length (kept_talks plan [] t.kept)) in
    let first : (n : ℕ) → take n (reply_of plan (length t.kept)).got ≡ take n whole.got = λ n. ap (λ (r : MemoryReply). take n r.got) (sym (reply_kept plan t.kept)) in
    subst (Follows whole t.at t.sent) (sym (first more)) (follows_on whole t.at t.sent t.read some (subst (Follows whole t.at t.sent) (first t.read) x) more)

-- so does one that reads on
pub plan_read : (plan : Bool → Plan) (t new : KeptState) (count : ℕ) → KeepsPlan plan t → t.stage ≡ stages.Connected → t.read + count ≤ length (reply_of (plan t.keeps) (length t.kept)).got
    → new ≡ record t { read = t.read + count } → KeepsPlan plan new
plan_read plan t new count x connected fits e = subst (KeepsPlan plan) (sym e) (record {
  follows = record {
    some_bytes = x.follows.some_bytes;
    past = x.follows.past;
    present = subst (λ (s : Stage). GoesOn s (reply_of (plan t.keeps) (length (kept_talks (plan t.keeps) [] t.kept))) (kept_now (plan t.keeps) (length t.kept) t.at t.sent (t.read + count))) (sym connected)
        (let p = subst (λ (s : Stage). GoesOn s (reply_of (plan t.keeps) (length (kept_talks (plan t.keeps) [] t.kept))) (kept_now (plan t.keeps) (length t.kept) t.at t.sent t.read)) connected x.follows.present in
        (follows_read (plan t.keeps) t (t.read + count) p.1 p.0, p.1));
  };
  within = fits;
})

-- more bytes that are read are told behind those before
pub read_told : (place : Place) (plan : Bool → Plan) (faults calls readies : ℕ) (lean : Option ℕ) (t new : KeptState) (count : ℕ) (bytes : List ℕ)
    → new ≡ record t { read = t.read + count } → bytes ≡ take count (drop t.read (reply_of (plan t.keeps) (length t.kept)).got)
    → memory_state place plan faults calls readies lean new
    ≡ record (memory_state place plan faults calls readies lean t) { now = record { at = t.at; sent = t.sent; got = take t.read (reply_of (plan t.keeps) (length t.kept)).got ++ bytes } }
read_told place plan faults calls readies lean t new count bytes is given =
    let whole = (reply_of (plan t.keeps) (length t.kept)).got in
    let e : take (t.read + count) whole ≡ take t.read whole ++ bytes = reads_on whole t.read count ∙ ap (λ (b : List ℕ). take t.read whole ++ b) (sym given) in
    ap (memory_state place plan faults calls readies lean) is
    ∙ ap (λ (got : List ℕ). record (memory_state place plan faults calls readies lean t) { now = record { at = t.at; sent = t.sent; got = got } }) e

-- the finished talk of a number, counted from 1, is the one kept in its place
pub number_kept : (plan : Plan) (ks : List Kept) (number : ℕ) (k : Kept) → 1 ≤ number → number ≤ length ks → slice_get ks (number - 1) ≡ Some k
    → talk_at (kept_talks plan [] ks) number ≡ Some (kept_talk plan (number - 1) k)
number_kept plan ks number k low high is =
    ap (slice_get (kept_talks plan [] ks)) (ap (λ (n : ℕ). n - number) (length-kept plan ks))
    ∙ kept_at plan [] ks (number - 1) (length ks - number) (number - 1) k is (omega arith) (omega arith)

-- what is told of talks does not depend on whether what is sent is kept
talks_told : (plan : Plan) (keeps : Bool) (earlier : List Talk) (ks : List Kept) → kept_talks (record plan { keeps = keeps }) earlier ks ≡ kept_talks plan earlier ks
talks_told plan keeps earlier [] = refl
talks_told plan keeps earlier (k ∷ ks) = talks_told plan keeps (kept_talk plan (length earlier) k ∷ earlier) ks

-- nor does whether they follow the plan
talks_follow : (plan : Plan) (keeps : Bool) (talks : List Talk) → AreTalksOf plan talks → AreTalksOf (record plan { keeps = keeps }) talks
talks_follow plan keeps [] are = tt
talks_follow plan keeps (talk ∷ earlier) are = (are.0, talks_follow plan keeps earlier are.1)

-- a wire that keeps nothing from now on tells the same
pub forgotten_told : (place : Place) (replies : List MemoryReply) (after : Option MemoryReply) (most : ℕ) (failing : List ℕ) (faults calls readies : ℕ) (lean : Option ℕ) (t new : KeptState)
    → new ≡ record t { keeps = false }
    → memory_state place (kept_plan replies after most failing) faults calls readies lean new
    ≡ record (memory_state place (kept_plan replies after most failing) faults calls readies lean t) { plan = kept_plan replies after most failing false }
forgotten_told place replies after most failing faults calls readies lean t new is =
    let plan = kept_plan replies after most failing in
    ap (memory_state place plan faults calls readies lean) is
    ∙ ap (λ (talks : List Talk). record (memory_state place plan faults calls readies lean t) { plan = plan false; talks = talks }) (talks_told (plan t.keeps) false [] t.kept)

-- and its talks follow the plan still
pub forgotten_follows : (replies : List MemoryReply) (after : Option MemoryReply) (most : ℕ) (failing : List ℕ) (t new : KeptState)
    → KeepsPlan (kept_plan replies after most failing) t → new ≡ record t { keeps = false } → KeepsPlan (kept_plan replies after most failing) new
forgotten_follows replies after most failing t new x is =
    let plan = kept_plan replies after most failing in
    let told = talks_told (plan t.keeps) false [] t.kept in
    let now = kept_now (plan t.keeps) (length t.kept) t.at t.sent t.read in
    subst (KeepsPlan plan) (sym is) (record {
      follows = record {
        some_bytes = x.follows.some_bytes;
        past = subst (AreTalksOf (plan false)) (sym told) (talks_follow (plan t.keeps) false (kept_talks (plan t.keeps) [] t.kept) x.follows.past);
        present = subst (λ (talks : List Talk). GoesOn t.stage (reply_of (plan t.keeps) (length talks)) now) (sym told) x.follows.present;
      };
      within = x.within;
    })
