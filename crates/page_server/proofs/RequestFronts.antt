-- What bytes say of a request's head once it is settled stands, however they go on.
use Rattle.std.proofs.Common.{◌≡◌, ℕ, ◌-◌, ◌≤◌, List, [], ◌∷◌, ◌++◌, length, take, drop, refl, sym, ap, ◌∙◌, subst, arith, inl, inr, append_assoc, append-nil}
use Rattle.std.specs.Prelude.{◌⊎◌, zero, suc}
use Rattle.std.proofs.lemmas.List.{length-append, length-map, length-take, take-append-drop}
use Rattle.httparse.specs.Grammar.{RequestHead, ReadsRequest, print_request, HasNoRequest}
use Rattle.httparse.specs.Spans.{RequestOverflows, IsRequestAt, header_bytes, name_and_value}
use Rattle.httparse.specs.declared.spans.HeaderSpan.{HeaderSpan}
use Rattle.httparse.specs.declared.spans.RequestSpans.{RequestSpans}
use Rattle.httparse.proofs.GrammarLemmas.{ReadsRequest-append}
use Rattle.http_talk.proofs.Laws.{take_past}
use Rattle.page_server.specs.RequestHeads.{refused, asked, HasNoneTaken, RequestIs}

-- a head at the front that is short enough is a head of the front bytes
pub request_in_front : (n : ℕ) (got : List ℕ) (h : RequestHead) (rest : List ℕ) → ReadsRequest got h rest
    → length (print_request h) ≤ n → ReadsRequest (take n got) h (take (n - length (print_request h)) rest)
request_in_front n got h rest reads short = (reads.0, rw reads.1 (take_past (print_request h) rest n short))

-- a head that is taken is not refused
pub not_both : (got : List ℕ) (h : RequestHead) (rest : List ℕ) → RequestIs got (asked h rest) → RequestIs got refused → ⊥
not_both got h rest x y = omega (arith, y.0 h _ (request_in_front 16384 got h rest x.0 x.1), x.2)

-- no head is taken of bytes that none is taken of with more behind them
pub none_in_front : (n : ℕ) (got : List ℕ) → HasNoneTaken got → HasNoneTaken (take n got)
none_in_front n got none = λ h rest reads.
    none h (rest ++ drop n got)
    (subst (λ bytes. ReadsRequest bytes h (rest ++ drop n got)) (take-append-drop n got) (ReadsRequest-append (take n got) h rest (drop n got) reads))

-- more fields than a head may have are so many whatever follows
overflows_on : (got more : List ℕ) → RequestOverflows 64 got → RequestOverflows 64 (got ++ more)
overflows_on got more over = λ others h rest reads. over (more ++ others) h rest (rw (sym (append_assoc got more others)) reads)

-- none is taken of bytes that overflow
none_of_overflow : (got : List ℕ) → RequestOverflows 64 got → HasNoneTaken got
none_of_overflow got over = λ h rest reads. over [] h rest (rw (append-nil got) reads)

take_front : (n : ℕ) (got more : List ℕ) → n ≤ length got → take n (got ++ more) ≡ take n got
take_front zero got more short = refl
take_front (suc n) [] more short = absurd (omega (arith, short))
take_front (suc n) (x ∷ xs) more short = ap (λ ys. x ∷ ys) (take_front n xs more (omega (arith, short)))

-- what is refused stays so
pub refused_on : (got more : List ℕ) → RequestIs got refused → RequestIs (got ++ more) refused
refused_on got more x = by_cause x.0 x.1
  where
    by_cause : HasNoneTaken (take 16384 got) → ((16384 ≤ length got) ⊎ RequestOverflows 64 got) → RequestIs (got ++ more) refused
    by_cause none (inl long) = (
      subst HasNoneTaken (sym (take_front 16384 got more long)) none,
      inl (omega (arith, long, length-append got more)),
    )
    by_cause none (inr over) =
        let on = overflows_on got more over in
        (none_in_front 16384 (got ++ more) (none_of_overflow (got ++ more) on), inr on)

-- what is taken stays so
pub asked_on : (got more : List ℕ) (h : RequestHead) (rest : List ℕ) → RequestIs got (asked h rest) → RequestIs (got ++ more) (asked h (rest ++ more))
asked_on got more h rest x = (ReadsRequest-append got h rest more x.0, x.1, x.2)

-- an error of the parser with room for 64 fields says that a head is refused
pub refused_by_error : (got : List ℕ) → RequestOverflows 64 got → RequestIs got refused
refused_by_error got over = (none_in_front 16384 got (none_of_overflow got over), inr over)

-- as many bytes as a head may have, without one, say so too
pub refused_when_full : (got : List ℕ) → length got ≡ 16384 → HasNoRequest got → RequestIs got refused
refused_when_full got long none = (none_in_front 16384 got (λ h rest reads. absurd (none h rest reads)), inl (omega (arith, long)))

-- the spans of a head in a table of 64 say that it is taken
pub asked_at : (got : List ℕ) (spans : List HeaderSpan) (r : RequestSpans) (h : RequestHead) → length got ≤ 16384 → length spans ≡ 64
    → IsRequestAt got spans r h → RequestIs got (asked h (drop r.len got))
asked_at got spans r h short room at =
    let same : length (take r.headers spans) ≡ length h.fields =
    sym (length-map (take r.headers spans) (header_bytes got)) ∙ ap (length {A = List ℕ × List ℕ}) at.fields ∙ length-map h.fields name_and_value in (
      at.reads,
      omega (arith, short, ap (length {A = ℕ}) at.reads.1, length-append (print_request h) (drop r.len got)),
      omega (arith, room, same, length-take r.headers spans),
    )
