-- Laws on tries.
use Rattle.std.proofs.Common.{◌≡◌, ℕ, suc, ◌+◌, ◌*◌, ◌≤◌, List, [], ◌∷◌, length, refl, sym, ap, ◌∙◌, arith}
use Rattle.std.proofs.lemmas.List.{length-append}
use Rattle.bridge_ports.specs.declared.talk.End.{End}
use Rattle.bridge_ports.specs.declared.talk.End.TheVariants as ends
use Rattle.bridge_ports.specs.declared.talk.Talk.{Talk}
use Rattle.http_talk.proofs.Laws.{shows_once}
use Rattle.otlp_sender.specs.declared.posted.Try.{Try}
use Rattle.otlp_sender.specs.declared.posted.Try.TheVariants as tries
use Rattle.otlp_sender.specs.Posting.{IsRightTry, HasPostVerdict, IsTryBy, try_seen, ArePosted}

try_by_once : (end : End) (got : List ℕ) (a b : Try) → IsTryBy end got a → IsTryBy end got b → a ≡ b
try_by_once ends.Left got a b x y = x.2 ∙ ap try_seen (shows_once got x.0 y.0 x.1 y.1) ∙ sym y.2
try_by_once _ got a b x y = x ∙ sym y

pub try_once : (talk : Talk) (a b : Try) → HasPostVerdict talk a → HasPostVerdict talk b → a ≡ b
try_once talk a b x y = try_by_once talk.end talk.got a b x y

pub try_some : (text : List ℕ) (talk : Talk) → IsRightTry text talk → (t : Try) × HasPostVerdict talk t
try_some text talk x =
    elim talk.end as (λ end. (t : Try) × IsTryBy end talk.got t) [
      | ends.ConnectFailed ↦ (tries.Connect, refl)
      | ends.WriteFailed ↦ (tries.Write, refl)
      | ends.ReadFailed ↦ (tries.Read, refl)
      | ends.Ended ↦ (tries.NoHead, refl)
      | ends.Left ↦ (try_seen x.what, (x.what, x.shown, refl))
    ]

pub tries_counted : (most : ℕ) (texts : List (List ℕ)) (talks : List Talk) (lasts : List Try) → ArePosted most texts talks lasts
    → (length lasts ≡ length texts) × (length texts ≤ length talks) × (length talks ≤ length texts * most)
tries_counted most [] talks lasts x = (ap (length {A = Try}) x.1, omega arith, (let none : length talks ≡ 0 = ap (length {A = Talk}) x.0 in omega (arith, none)))
tries_counted most (text ∷ texts) talks [] x = absurd x
tries_counted most (text ∷ texts) talks (last ∷ lasts) x =
    let run = x.0 in
    let before = x.1 in
    let made = x.3 in
    let rest = tries_counted most texts before lasts x.4 in
    let both : length talks ≡ length run + length before = ap (length {A = Talk}) x.2 ∙ length-append run before in
    let few : length before ≤ length texts * most = rest.2 in
    let more : suc (length texts) * most ≡ most + length texts * most = one_more (length texts) most in
    (omega (arith, rest.0), omega (arith, rest.1, both, ap (length {A = Talk}) made.talks_are), omega (arith, both, few, more, made.few))
  where
    one_more : (n m : ℕ) → suc n * m ≡ m + n * m
    one_more n m = omega arith
