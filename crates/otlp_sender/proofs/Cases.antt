-- Tries of a text, by computation.
use Rattle.std.proofs.Common.{◌≡◌, ℕ, List, [], ◌∷◌, ◌++◌, map, codes, refl, arith, inl, inr, subst, sym, ap, ◌∙◌}
use Rattle.std.specs.Prelude.{◌≢◌, ◌↔◌}
use Rattle.httparse.proofs.OnLiterals.{httparse_on_literals}
use Rattle.bridge_ports.specs.declared.talk.End.{End}
use Rattle.bridge_ports.specs.declared.talk.End.TheVariants as ends
use Rattle.bridge_ports.specs.declared.talk.Talk.{Talk}
use Rattle.http_talk.specs.declared.seen.HeadSeen.TheVariants as seen
use Rattle.http_talk.specs.Heads.{Shows}
use Rattle.http_talk.proofs.Laws.{shows_head, shows_more, bare_head}
use Rattle.otlp_sender.proofs.TryLaws.{try_once}
use Rattle.otlp_sender.specs.declared.posted.Try.{Try}
use Rattle.otlp_sender.specs.declared.posted.Try.TheVariants as tries
use Rattle.otlp_sender.specs.declared.posted.Posted.TheVariants as posted
use Rattle.otlp_sender.specs.Posting.{IsRightTry, HasPostVerdict, IsOpenTry, IsPostRun, posted_of, is_open, PostsInOrder}

-- ---- what tries come to

lasts : List Try
lasts =
    tries.Status 200 ∷ tries.Status 204 ∷ tries.Status 299 ∷ tries.Status 300 ∷ tries.Status 100 ∷ tries.Status 199
    ∷ tries.Status 400 ∷ tries.Status 428 ∷ tries.Status 429 ∷ tries.Status 430 ∷ tries.Status 500 ∷ tries.Status 501
    ∷ tries.Status 502 ∷ tries.Status 503 ∷ tries.Status 504 ∷ tries.Status 505 ∷ tries.Connect ∷ tries.Write ∷ tries.Read ∷ tries.NoHead ∷ []

each_last : map posted_of lasts ≡
    posted.Accepted 200 ∷ posted.Accepted 204 ∷ posted.Accepted 299 ∷ posted.Refused 300 ∷ posted.Refused 100 ∷ posted.Refused 199
    ∷ posted.Refused 400 ∷ posted.Refused 428 ∷ posted.GivenUp (tries.Status 429) ∷ posted.Refused 430 ∷ posted.Refused 500 ∷ posted.Refused 501
    ∷ posted.GivenUp (tries.Status 502) ∷ posted.GivenUp (tries.Status 503) ∷ posted.GivenUp (tries.Status 504) ∷ posted.Refused 505
    ∷ posted.GivenUp tries.Connect ∷ posted.GivenUp tries.Write ∷ posted.GivenUp tries.Read ∷ posted.GivenUp tries.NoHead ∷ []
unfolding lasts
each_last = refl

-- ---- tries of the text "body"

abbrev body : List ℕ
body = codes "body"

-- a reply of this status, with no fields
abbrev reply : List ℕ → List ℕ
reply digits = codes "HTTP/1.1 " ++ digits ++ codes "\r\n\r\n"

-- a talk that was left once the head of such a reply came
abbrev answered : List ℕ → Talk
answered digits = record { at = 0; sent = body; got = reply digits; end = ends.Left }

-- a talk without a connection
abbrev unconnected : Talk
unconnected = record { at = 0; sent = []; got = []; end = ends.ConnectFailed }

-- nothing was shown yet
nothing : Shows [] seen.More
unfolding httparse_on_literals
nothing = shows_more [] 72 (codes "TTP/1.1 200\r\n\r\n") (bare_head (codes "200")) refl refl refl

-- the talk is a try, and came to this
abbrev Came : Talk → Try → Type 0
Came talk t = IsRightTry body talk × HasPostVerdict talk t

left_so : (s : ℕ) (end : End) → end ≡ ends.Left → (end ≡ ends.Left) ↔ (seen.Status s ≢ seen.More)
left_so s end is = ((λ left same. cc same), (λ other. is))

came_503 : Came (answered (codes "503")) (tries.Status 503)
unfolding httparse_on_literals
came_503 =
    let shown : Shows (reply (codes "503")) (seen.Status 503) = shows_head _ (bare_head (codes "503")) [] _ refl refl refl refl in
    (record { sent = refl; what = seen.Status 503; shown = shown; left = left_so 503 ends.Left refl }, (seen.Status 503, shown, refl))

came_200 : Came (answered (codes "200")) (tries.Status 200)
unfolding httparse_on_literals
came_200 =
    let shown : Shows (reply (codes "200")) (seen.Status 200) = shows_head _ (bare_head (codes "200")) [] _ refl refl refl refl in
    (record { sent = refl; what = seen.Status 200; shown = shown; left = left_so 200 ends.Left refl }, (seen.Status 200, shown, refl))

came_400 : Came (answered (codes "400")) (tries.Status 400)
unfolding httparse_on_literals
came_400 =
    let shown : Shows (reply (codes "400")) (seen.Status 400) = shows_head _ (bare_head (codes "400")) [] _ refl refl refl refl in
    (record { sent = refl; what = seen.Status 400; shown = shown; left = left_so 400 ends.Left refl }, (seen.Status 400, shown, refl))

came_unconnected : Came unconnected tries.Connect
came_unconnected =
    (record { sent = (body, refl); what = seen.More; shown = nothing; left = ((λ left. absurd (cc left)), (λ other. absurd (other refl))) }, refl)

-- a talk that the peer ended before a head came
came_ended : Came (record { at = 0; sent = body; got = []; end = ends.Ended }) tries.NoHead
came_ended =
    (record { sent = refl; what = seen.More; shown = nothing; left = ((λ left. absurd (cc left)), (λ other. absurd (other refl))) }, refl)

-- a write that failed behind two bytes
came_half : Came (record { at = 0; sent = codes "bo"; got = []; end = ends.WriteFailed }) tries.Write
came_half =
    (record { sent = (codes "dy", refl); what = seen.More; shown = nothing; left = ((λ left. absurd (cc left)), (λ other. absurd (other refl))) }, refl)

-- ---- runs of three tries at most

open_503 : IsOpenTry body (answered (codes "503"))
open_503 = record { right = came_503.0; verdict = tries.Status 503; verdict_is = came_503.1; open_verdict = refl }

open_unconnected : IsOpenTry body unconnected
open_unconnected = record { right = came_unconnected.0; verdict = tries.Connect; verdict_is = came_unconnected.1; open_verdict = refl }

-- 503, then no connection, then 200
at_last : IsPostRun 3 body (answered (codes "200") ∷ unconnected ∷ answered (codes "503") ∷ []) (tries.Status 200)
at_last = record {
  talk = answered (codes "200");
  earlier = unconnected ∷ answered (codes "503") ∷ [];
  talks_are = refl;
  right = came_200.0;
  verdict = came_200.1;
  before = (open_unconnected, (open_503, tt));
  few = omega arith;
  ended = inl refl;
}

-- 400 at once
at_once : IsPostRun 3 body (answered (codes "400") ∷ []) (tries.Status 400)
at_once = record {
  talk = answered (codes "400");
  earlier = [];
  talks_are = refl;
  right = came_400.0;
  verdict = came_400.1;
  before = tt;
  few = omega arith;
  ended = inl refl;
}

-- 503 three times
given_up : IsPostRun 3 body (answered (codes "503") ∷ answered (codes "503") ∷ answered (codes "503") ∷ []) (tries.Status 503)
given_up = record {
  talk = answered (codes "503");
  earlier = answered (codes "503") ∷ answered (codes "503") ∷ [];
  talks_are = refl;
  right = came_503.0;
  verdict = came_503.1;
  before = (open_503, (open_503, tt));
  few = omega arith;
  ended = inr refl;
}

-- a body that was refused, and then one that was taken at last
in_order : PostsInOrder 3 (body ∷ body ∷ []) (answered (codes "200") ∷ unconnected ∷ answered (codes "503") ∷ answered (codes "400") ∷ [])
in_order = (
  tries.Status 200 ∷ tries.Status 400 ∷ [],
  (_, answered (codes "400") ∷ [], refl, at_last, (_, [], refl, at_once, (refl, refl))),
)

-- 503 twice is no run of three tries: another one is due
too_few : (t : Try) → IsPostRun 3 body (answered (codes "503") ∷ answered (codes "503") ∷ []) t → ⊥
too_few t run =
    let same : run.talk ≡ answered (codes "503") = cc run.talks_are in
    let came = try_once (answered (codes "503")) t (tries.Status 503) (subst (λ talk. HasPostVerdict talk t) same run.verdict) came_503.1 in
    elim run.ended [
      | inl closed ↦ absurd (cc (sym closed ∙ ap is_open came))
      | inr full ↦ omega (arith, full)
    ]
