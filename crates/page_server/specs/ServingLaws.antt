-- Laws about what the bytes of a connection ask for.
-- The bridge's own.
use Rattle.std.specs.Prelude.{◌≡◌, ℕ, ◌<◌, ◌⊎◌, ◌↔◌, Bool, true, false, List, [], ◌++◌, length, take, codes}
use Rattle.http_talk.specs.Heads.{head_limit}
use Rattle.httparse.specs.Grammar.{RequestHead}
use Rattle.series_select.specs.Selectors.{match_values, IsFirstOther}
use Rattle.page_server.specs.declared.asked.Asked.{Asked}
use Rattle.page_server.specs.declared.asked.Asked.TheVariants as asks
use Rattle.page_server.specs.RequestHeads.{HasNoneTaken, RequestIs, waiting, asked}
use Rattle.page_server.specs.Serving.{BytesAsk, path_of, query_of}

-- bytes ask for one thing at most
abbrev pub AskedOnce : Type 0
AskedOnce = (got : List ℕ) (ended : Bool) (a b : Asked) → BytesAsk got ended a → BytesAsk got ended b → a ≡ b

-- what is decided stands, however the bytes go on
abbrev pub AskedStays : Type 0
AskedStays = (got more : List ℕ) (ended : Bool) (what : Asked) → BytesAsk got false what → BytesAsk (got ++ more) ended what

-- what was taken asks for what all bytes of the connection ask for, up to their end
abbrev pub AskedByAll : Type 0
AskedByAll = (taken rest : List ℕ) (ended : Bool) (what : Asked) → BytesAsk taken ended what → (ended ≡ true → rest ≡ []) → BytesAsk (taken ++ rest) true what

-- while a head is waited for, there are fewer bytes than one may have, and their end makes a bad request
abbrev pub WaitsShortly : Type 0
WaitsShortly = (got : List ℕ) → RequestIs got waiting → (length got < head_limit) × BytesAsk got true asks.BadRequest

-- the head that is taken of the bytes asks for the page, and its query has a value of `match[]` that is no selector
pub record HasBadQuery (got : List ℕ) : Type 0 where
  pub head : RequestHead
  pub rest : List ℕ
  pub taken : RequestIs got (asked head rest)
  pub method : head.method ≡ codes "GET"
  pub path : path_of head.target ≡ codes "/federate"
  pub number : ℕ
  pub other : IsFirstOther (match_values (query_of head.target)) number

-- a connection is a bad request exactly where no head that is taken stands at the front of its first 16,384 bytes, or that head asks for the page by a selector that is none
abbrev pub BadExactly : Type 0
BadExactly = (got : List ℕ) (what : Asked) → BytesAsk got true what → (what ≡ asks.BadRequest) ↔ (HasNoneTaken (take head_limit got) ⊎ HasBadQuery got)
