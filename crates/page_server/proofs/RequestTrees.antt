-- Requests that are given as trees: what is to be tested of one, and what is then known of the bytes.
use Rattle.std.proofs.Common.{◌≡◌, ℕ, Bool, true, false, List, [], ◌∷◌, ◌++◌, length, refl, sym, ap, arith, inl}
use Rattle.std.specs.Prelude.{◌&&◌, nat_le, nat_lt}
use Rattle.std.specs.List.{list_all}
use Rattle.std.specs.Str.{is_utf8}
use Rattle.std.proofs.lemmas.Str.{IsUtf8-from_is_utf8}
use Rattle.std.proofs.lemmas.List.Sums.{AllPass-from_list_all}
use Rattle.std.proofs.lemmas.Bool.{and_parts, leb-true, ltb-true}
use Rattle.httparse.specs.Grammar.{RequestHead, IsRequestHead, print_request, print_blank, HasNoRequest, is_token, is_token_byte, is_uri_byte, LineEnd}
use Rattle.httparse.specs.Spans.{RequestOverflows}
use Rattle.httparse.specs.Pieces.{Begins, Then, Never, Stops, is_newline, Word, Method, Target, Version, Newline, RequestStart, SectionOfAtMost}
use Rattle.httparse.proofs.GrammarLemmas.{request_prefix_free}
use Rattle.httparse.proofs.HeadLemmas.{request_overflows}
use Rattle.httparse.proofs.PieceLemmas.{Never_intro, Refutes_first, Refutes_next, Blank_deterministic}
use Rattle.httparse.proofs.RunLemmas.{run_unique}
use Rattle.http_talk.proofs.Laws.{is_field, all_fields}
use Rattle.page_server.specs.declared.asked.Asked.{Asked}
use Rattle.page_server.specs.declared.asked.Asked.TheVariants as asks
use Rattle.page_server.specs.RequestHeads.{waiting, refused, asked, RequestIs}
use Rattle.page_server.specs.Serving.{RequestAsks, BytesAsk}
use Rattle.page_server.proofs.RequestFronts.{refused_by_error}

-- ---- tests of a tree

-- a head that the grammar has
abbrev pub is_request : RequestHead → Bool
is_request h =
    is_token h.method
    && (nat_lt 0 (length h.target)
    && (list_all is_uri_byte h.target
    && (is_utf8 h.target
    && (nat_le h.minor 1
    && list_all is_field h.fields))))

pub is_request_so : (h : RequestHead) → is_request h ≡ true → IsRequestHead h
is_request_so h e =
    let method = and_parts (is_token h.method) _ e in
    let bytes = and_parts _ _ method.0 in
    let some = and_parts (nat_lt 0 (length h.target)) _ method.1 in
    let uri = and_parts (list_all is_uri_byte h.target) _ some.1 in
    let text = and_parts (is_utf8 h.target) _ uri.1 in
    let minor = and_parts (nat_le h.minor 1) _ text.1 in
    record {
      method = (leb-true 1 _ bytes.0, AllPass-from_list_all is_token_byte _ bytes.1);
      target = (ltb-true 0 _ some.0, AllPass-from_list_all is_uri_byte _ uri.0);
      target_text = IsUtf8-from_is_utf8 _ text.0;
      minor = leb-true _ _ minor.0;
      fields = all_fields h.fields minor.1;
    }

-- ---- heads that are there, or under way

-- bytes that are this head and what follows it
pub by_request : (got : List ℕ) (h : RequestHead) (rest : List ℕ) (what : Asked)
    → is_request h ≡ true → got ≡ print_request h ++ rest → nat_le (length (print_request h)) 16384 ≡ true → nat_le (length h.fields) 64 ≡ true
    → RequestAsks h.method h.target what → BytesAsk got false what
by_request got h rest what right bytes short few is = record {
  head = asked h rest;
  head_is = ((is_request_so h right, bytes), leb-true _ _ short, leb-true _ _ few);
  asks_for = is;
}

no_cons : (rest : List ℕ) (b : ℕ) (more : List ℕ) → rest ++ b ∷ more ≡ [] → ⊥
no_cons [] b more e = cc e
no_cons (c ∷ rest) b more e = cc e

-- no head is there where one byte more, and others, make the bytes one
none_yet : (got : List ℕ) (b : ℕ) (more : List ℕ) (h : RequestHead) → is_request h ≡ true
    → got ++ b ∷ more ≡ print_request h ++ [] → HasNoRequest got
none_yet got b more h right bytes = λ k rest reads.
    let same = request_prefix_free got (b ∷ more) k h rest [] reads (is_request_so h right, bytes) in
    absurd (no_cons rest b more same.1)

-- bytes that this head begins with decide nothing
pub by_begun : (got : List ℕ) (b : ℕ) (more : List ℕ) (h : RequestHead)
    → is_request h ≡ true → got ++ b ∷ more ≡ print_request h ++ [] → nat_lt (length got) 16384 ≡ true → RequestIs got waiting
by_begun got b more h right bytes short =
    (ltb-true _ _ short, none_yet got b more h right bytes, inl (b ∷ more, h, (is_request_so h right, bytes)))

-- ---- bytes of which no head begins

-- a byte that no word begins with
pub never_begun : (test : ℕ → Bool) (stop : ℕ) → test stop ≡ false → (c : ℕ) (tail : List ℕ) → test c ≡ false → Never (Begins (Word test stop)) (c ∷ tail)
never_begun test stop stops c tail fails = Never_intro λ more h.
    let same = run_unique test [] h.0 (c ∷ (tail ++ more)) (stop ∷ h.1) (AllPass-from_list_all test [] refl) h.2.1 fails stops h.2.2 in
    omega (arith, h.2.0, ap (length {A = ℕ}) (sym same.0))

-- empty lines and then no method
pub over_method : (got : List ℕ) (blank : List LineEnd) (text : List ℕ) → got ≡ print_blank blank ++ text → Stops is_newline text → Never (Begins Method) text
    → RequestOverflows 64 got
over_method got blank text is stops none =
    request_overflows 64 (Refutes_first RequestStart (SectionOfAtMost 64)
    (Refutes_next (Then Method (Then Target (Then Version Newline))) Blank_deterministic {a = blank} (is, stops)
    (Refutes_first Method (Then Target (Then Version Newline)) none)))

-- bytes behind which no head that is taken can come
pub by_over : (got : List ℕ) → RequestOverflows 64 got → BytesAsk got false asks.BadRequest
by_over got over = record { head = refused; head_is = refused_by_error got over; asks_for = refl }
