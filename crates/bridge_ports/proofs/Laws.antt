-- What other crates may cite: what the definitions of wires and of worlds give, bytes that are taken and given in steps, and inputs that are read in blocks.
pub use Rattle.bridge_ports.proofs.KnownLaws.{at_error, appends_none, appends_keeps, appends_twice, front_behind, consumes_none, consumes_twice, consumes_keeps}
pub use Rattle.bridge_ports.proofs.InputLaws.{block_too_much, block_more}
pub use Rattle.bridge_ports.proofs.SeenLaws.{seen_by, same_number, at_same, at_others, is_at_number, one_address, at_other_addresses, is_at_address}
use Rattle.std.proofs.Common.{◌≡◌, ℕ, ◌<◌, ◌-◌, List, [], ◌∷◌, ◌++◌, Option, Some, None, option_map, refl, ap, arith, length, append_assoc, append-nil, length-append}
use Rattle.bridge_ports.specs.declared.talk.Stage.TheVariants as stages
use Rattle.bridge_ports.specs.declared.talk.Stage.{Stage}
use Rattle.bridge_ports.specs.Talks.{WireState, ToldTalks, telling_sent, telling_got, sent_on, got_on, left_at, after_read}

left_idle : (s : Stage) (w : WireState) → w.stage ≡ s → (left_at s w).stage ≡ stages.Idle
left_idle stages.Idle w is = is
left_idle stages.Begun w is = refl
left_idle stages.Connected w is = refl

-- no talk is under way on a wire that was left
pub left_is_idle : (w : WireState) → (left_at w.stage w).stage ≡ stages.Idle
left_is_idle w = left_idle w.stage w refl

-- a read that gave some bytes ends no talk
pub read_goes_on : (bytes : List ℕ) (w : WireState) → 0 < length bytes → after_read bytes w ≡ got_on bytes w
read_goes_on [] w some = absurd (omega (arith, some))
read_goes_on (b ∷ bytes) w some = refl

told_none_sent : (told : Option ToldTalks) → option_map (telling_sent []) told ≡ told
told_none_sent None = refl
told_none_sent (Some t) = ap (λ (sent : List ℕ). Some (record t { now = record t.now { sent = sent } })) (append-nil t.now.sent)

-- no bytes that are sent change nothing
pub sent_on-nil : (w : WireState) → sent_on [] w ≡ w
sent_on-nil w = let left : w.left - 0 ≡ w.left = omega arith in λ i. record w { left = left i; told = told_none_sent w.told i }

told_more_sent : (a b : List ℕ) (told : Option ToldTalks) → option_map (telling_sent b) (option_map (telling_sent a) told) ≡ option_map (telling_sent (a ++ b)) told
told_more_sent a b None = refl
told_more_sent a b (Some t) = ap (λ (sent : List ℕ). Some (record t { now = record t.now { sent = sent } })) (append_assoc t.now.sent a b)

-- bytes that are sent behind others are sent with them
pub sent_on-more : (a b : List ℕ) (w : WireState) → sent_on b (sent_on a w) ≡ sent_on (a ++ b) w
sent_on-more a b w =
    let left : w.left - length a - length b ≡ w.left - length (a ++ b) = omega (arith, length-append a b) in
    λ i. record w { left = left i; told = told_more_sent a b w.told i }

told_none_got : (told : Option ToldTalks) → option_map (telling_got []) told ≡ told
told_none_got None = refl
told_none_got (Some t) = ap (λ (got : List ℕ). Some (record t { now = record t.now { got = got } })) (append-nil t.now.got)

-- no bytes that are got change nothing
pub got_on-nil : (w : WireState) → got_on [] w ≡ w
got_on-nil w = λ i. record w { told = told_none_got w.told i }

told_more_got : (a b : List ℕ) (told : Option ToldTalks) → option_map (telling_got b) (option_map (telling_got a) told) ≡ option_map (telling_got (a ++ b)) told
told_more_got a b None = refl
told_more_got a b (Some t) = ap (λ (got : List ℕ). Some (record t { now = record t.now { got = got } })) (append_assoc t.now.got a b)

-- bytes that are got behind others are got with them
pub got_on-more : (a b : List ℕ) (w : WireState) → got_on b (got_on a w) ≡ got_on (a ++ b) w
got_on-more a b w = λ i. record w { told = told_more_got a b w.told i }
