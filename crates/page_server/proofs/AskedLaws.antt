-- Bytes ask for one thing, which stands once it is decided.
use Rattle.std.proofs.Common.{◌≡◌, ℕ, ◌<◌, Bool, true, false, List, [], ◌++◌, length, take, refl, sym, ap, ◌∙◌, subst, arith, append-nil, inl, inr}
use Rattle.std.specs.Prelude.{◌↔◌, ◌⊎◌}
use Rattle.httparse.specs.Grammar.{RequestHead}
use Rattle.httparse.proofs.GrammarLemmas.{request_unique}
use Rattle.page_server.specs.declared.asked.Asked.{Asked}
use Rattle.page_server.specs.declared.asked.Asked.TheVariants as asks
use Rattle.page_server.specs.RequestHeads.{RequestRead, waiting, refused, asked, HasNoneTaken, RequestIs}
use Rattle.page_server.specs.Serving.{RequestAsks, HeadAsks, BytesAsk}
use Rattle.page_server.specs.ServingLaws.{HasBadQuery}
use Rattle.page_server.proofs.RequestFronts.{not_both, refused_on, asked_on, request_in_front, none_in_front}
use Rattle.page_server.proofs.Targets.{request_asks_once}

-- two ways to read the bytes ask for one thing
same_asked : (got : List ℕ) (ended : Bool) (a b : RequestRead) (s t : Asked) → RequestIs got a → RequestIs got b → HeadAsks a ended s → HeadAsks b ended t → s ≡ t
same_asked got ended waiting waiting s t x y e f = e.1 ∙ sym f.1
same_asked got ended waiting refused s t x y e f = e.1 ∙ sym f
same_asked got ended refused waiting s t x y e f = e ∙ sym f.1
same_asked got ended refused refused s t x y e f = e ∙ sym f
same_asked got ended waiting (asked h rest) s t x y e f = absurd (x.1 h rest y.0)
same_asked got ended (asked h rest) waiting s t x y e f = absurd (y.1 h rest x.0)
same_asked got ended refused (asked h rest) s t x y e f = absurd (not_both got h rest y x)
same_asked got ended (asked h rest) refused s t x y e f = absurd (not_both got h rest x y)
same_asked got ended (asked h rest) (asked k tail) s t x y e f =
    let same : h ≡ k = (request_unique got h k rest tail x.0 y.0).0 in
    request_asks_once k.method k.target s t (subst (λ (g : RequestHead). RequestAsks g.method g.target s) same e) f

pub asked_once : (got : List ℕ) (ended : Bool) (a b : Asked) → BytesAsk got ended a → BytesAsk got ended b → a ≡ b
asked_once got ended a b x y = same_asked got ended x.head y.head a b x.head_is y.head_is x.asks_for y.asks_for

pub asked_stays : (got more : List ℕ) (ended : Bool) (what : Asked) → BytesAsk got false what → BytesAsk (got ++ more) ended what
asked_stays got more ended what x = by_head x.head x.head_is x.asks_for
  where
    by_head : (head : RequestRead) → RequestIs got head → HeadAsks head false what → BytesAsk (got ++ more) ended what
    by_head waiting is asked_for = absurd (cc asked_for.0)
    by_head refused is asked_for = record { head = refused; head_is = refused_on got more is; asks_for = asked_for }
    by_head (asked h rest) is asked_for = record { head = asked h (rest ++ more); head_is = asked_on got more h rest is; asks_for = asked_for }

pub asked_by_all : (taken rest : List ℕ) (ended : Bool) (what : Asked) → BytesAsk taken ended what → (ended ≡ true → rest ≡ []) → BytesAsk (taken ++ rest) true what
asked_by_all taken rest false what x none = asked_stays taken rest true what x
asked_by_all taken rest true what x none =
    subst (λ bytes. BytesAsk bytes true what) (sym (append-nil taken) ∙ ap (λ more. taken ++ more) (sym (none refl))) x

-- where the bytes end while a head is waited for, the request is a bad one
pub bad_at_end : (got : List ℕ) → RequestIs got waiting → BytesAsk got true asks.BadRequest
bad_at_end got is = record { head = waiting; head_is = is; asks_for = (refl, refl) }

pub waits_shortly : (got : List ℕ) → RequestIs got waiting → (length got < 16384) × BytesAsk got true asks.BadRequest
waits_shortly got is = (is.0, bad_at_end got is)

-- a head that is taken makes a bad request by its query alone
bad_query : (got : List ℕ) (h : RequestHead) (rest : List ℕ) → RequestIs got (asked h rest) → RequestAsks h.method h.target asks.BadRequest → HasBadQuery got
bad_query got h rest is asked_for = record { head = h; rest = rest; taken = is; method = asked_for.0; path = asked_for.1; number = asked_for.2.0; other = asked_for.2.1 }

-- and such a query makes one
bad_by_query : (got : List ℕ) (what : Asked) → BytesAsk got true what → HasBadQuery got → what ≡ asks.BadRequest
bad_by_query got what x bad =
    let is : BytesAsk got true asks.BadRequest = record { head = asked bad.head bad.rest; head_is = bad.taken; asks_for = (bad.method, bad.path, (bad.number, bad.other)) } in
    asked_once got true what asks.BadRequest x is

pub bad_exactly : (got : List ℕ) (what : Asked) → BytesAsk got true what → (what ≡ asks.BadRequest) ↔ (HasNoneTaken (take 16384 got) ⊎ HasBadQuery got)
bad_exactly got what x = by_head x.head x.head_is x.asks_for
  where
    by_head : (head : RequestRead) → RequestIs got head → HeadAsks head true what → (what ≡ asks.BadRequest) ↔ (HasNoneTaken (take 16384 got) ⊎ HasBadQuery got)
    by_head waiting is e = ((λ _. inl (none_in_front 16384 got (λ h rest reads. absurd (is.1 h rest reads)))), (λ _. e.1))
    by_head refused is e = ((λ _. inl is.0), (λ _. e))
    by_head (asked h rest) is e = (
      (λ bad. inr (bad_query got h rest is (subst (λ (w : Asked). RequestAsks h.method h.target w) bad e))),
      back,
    )
      where
        back : HasNoneTaken (take 16384 got) ⊎ HasBadQuery got → what ≡ asks.BadRequest
        back (inl none) = absurd (omega (arith, none h _ (request_in_front 16384 got h rest is.0 is.1), is.2))
        back (inr bad) = bad_by_query got what x bad
