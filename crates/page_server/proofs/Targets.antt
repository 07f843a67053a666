-- What a method and a target ask for is one thing.
use Rattle.std.proofs.Common.{◌≡◌, ℕ, Bool, true, false, List, codes, refl, sym, ap, ◌∙◌, subst}
use Rattle.std.proofs.lemmas.Slice.Eq.{bytes_eq-Decides}
use Rattle.std.proofs.lemmas.Bool.{true≢false}
use Rattle.std.specs.Str.{bytes_eq}
use Rattle.series_select.specs.Selectors.{match_values}
use Rattle.series_select.proofs.Laws.{spelled_once, no_other}
use Rattle.page_server.specs.declared.asked.Asked.{Asked}
use Rattle.page_server.specs.declared.asked.Asked.TheVariants as asks
use Rattle.page_server.specs.Serving.{QueryAsks, RequestAsks, path_of, query_of}

-- ---- one thing

query_asks_once : (query : List ℕ) (a b : Asked) → QueryAsks query a → QueryAsks query b → a ≡ b
query_asks_once query (asks.Page list) (asks.Page other) x y = ap asks.Page (spelled_once (match_values query) list other x y)
query_asks_once query (asks.Page list) asks.BadRequest x y = absurd (no_other (match_values query) list y.0 x y.1)
query_asks_once query asks.BadRequest (asks.Page list) x y = absurd (no_other (match_values query) list x.0 y x.1)
query_asks_once query asks.BadRequest asks.BadRequest x y = refl
query_asks_once query asks.NotFound b x y = absurd x
query_asks_once query asks.NotAllowed b x y = absurd x
query_asks_once query (asks.Page list) asks.NotFound x y = absurd y
query_asks_once query (asks.Page list) asks.NotAllowed x y = absurd y
query_asks_once query asks.BadRequest asks.NotFound x y = absurd y
query_asks_once query asks.BadRequest asks.NotAllowed x y = absurd y

pub request_asks_once : (method target : List ℕ) (a b : Asked) → RequestAsks method target a → RequestAsks method target b → a ≡ b
request_asks_once method target asks.NotAllowed asks.NotAllowed x y = refl
request_asks_once method target asks.NotAllowed asks.NotFound x y = absurd (x y.0)
request_asks_once method target asks.NotAllowed (asks.Page list) x y = absurd (x y.0)
request_asks_once method target asks.NotAllowed asks.BadRequest x y = absurd (x y.0)
request_asks_once method target asks.NotFound asks.NotAllowed x y = absurd (y x.0)
request_asks_once method target (asks.Page list) asks.NotAllowed x y = absurd (y x.0)
request_asks_once method target asks.BadRequest asks.NotAllowed x y = absurd (y x.0)
request_asks_once method target asks.NotFound asks.NotFound x y = refl
request_asks_once method target asks.NotFound (asks.Page list) x y = absurd (x.1 y.1)
request_asks_once method target asks.NotFound asks.BadRequest x y = absurd (x.1 y.1)
request_asks_once method target (asks.Page list) asks.NotFound x y = absurd (y.1 x.1)
request_asks_once method target asks.BadRequest asks.NotFound x y = absurd (y.1 x.1)
request_asks_once method target (asks.Page list) (asks.Page other) x y = query_asks_once (query_of target) (asks.Page list) (asks.Page other) x.2 y.2
request_asks_once method target (asks.Page list) asks.BadRequest x y = query_asks_once (query_of target) (asks.Page list) asks.BadRequest x.2 y.2
request_asks_once method target asks.BadRequest (asks.Page list) x y = query_asks_once (query_of target) asks.BadRequest (asks.Page list) x.2 y.2
request_asks_once method target asks.BadRequest asks.BadRequest x y = refl

-- ---- read step by step

-- what a query asks for, a request for the page asks for
pub page_asked : (method target path query : List ℕ) (what : Asked) → method ≡ codes "GET" → path ≡ path_of target → path ≡ codes "/federate" → query ≡ query_of target → QueryAsks query what → RequestAsks method target what
page_asked method target path query (asks.Page list) get path_is federate query_is asked_for = (get, sym path_is ∙ federate, subst (λ q. QueryAsks q (asks.Page list)) query_is asked_for)
page_asked method target path query asks.BadRequest get path_is federate query_is asked_for = (get, sym path_is ∙ federate, subst (λ q. QueryAsks q asks.BadRequest) query_is asked_for)
page_asked method target path query asks.NotFound get path_is federate query_is asked_for = absurd asked_for
page_asked method target path query asks.NotAllowed get path_is federate query_is asked_for = absurd asked_for

-- a word that is told to be another
pub other_word : (text word : List ℕ) (same : Bool) → same ≡ bytes_eq text word → same ≡ false → text ≡ word → ⊥
other_word text word same is e equal = absurd (true≢false (sym ((bytes_eq-Decides text word).1 equal) ∙ sym is ∙ e))

-- a word that is told to be the same
pub same_word : (text word : List ℕ) (same : Bool) → same ≡ bytes_eq text word → same ≡ true → text ≡ word
same_word text word same is e = (bytes_eq-Decides text word).0 (sym is ∙ e)
