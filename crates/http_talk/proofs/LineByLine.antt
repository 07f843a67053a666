-- A head whose lines are read one by one: what the rest says, the whole says.
use Rattle.std.proofs.Common.{◌≡◌, ℕ, ◌+◌, ◌<◌, true, false, List, [], ◌∷◌, ◌++◌, length, drop, refl, sym, ap, ◌∙◌, subst, arith, append_assoc, append-nil, Some, None}
use Rattle.std.specs.Prelude.{All, flat_map, Option, ◌==◌, Result, Ok, Err}
use Rattle.std.specs.Char.{is_ascii_digit}
use Rattle.std.proofs.lemmas.Bool.{false≢true, ne_eqb}
use Rattle.std.proofs.lemmas.Grind.{flat_map-append}
use Rattle.std.proofs.lemmas.List.{append_cancel_right, length-append}
use Rattle.std.proofs.lemmas.List.Elements.{All-cons, All-nil, All-head, All-tail, All-append}
use Rattle.httparse.specs.Grammar.{is_token_byte, is_value_byte, LineEnd, crlf, lf, print_end, print_blank, print_version, print_reason, Field, print_field, IsField, print_section, ReadsSection, HasNoSection, NeverHasSection, MayBecomeSection, ResponseHead, ReadsResponse, HasNoResponse, NeverHasResponse, MayBecomeResponse}
use Rattle.httparse.specs.Lines.{code_digits}
use Rattle.httparse.specs.Pieces.{Begins, Then, Refutes, Stops, is_newline, Reason, Section, ResponseStart, FieldLine}
use Rattle.httparse.specs.Outcome.{IsCompleteAnd}
use Rattle.httparse.specs.Spans.{ResponseExceeds, ResponseOverflows, SectionExceeds, IsSectionOf}
use Rattle.httparse.specs.declared.Error.{Error}
use Rattle.httparse.specs.declared.Status.{Status}
use Rattle.httparse.specs.declared.Status.TheVariants.{Complete, Partial}
use Rattle.httparse.specs.declared.spans.HeaderSpan.{HeaderSpan}
use Rattle.httparse.proofs.GrammarLemmas.{cons-append, response_head, response_pieces, response_from_pieces}
use Rattle.httparse.proofs.HeadLemmas.{response_not_yet, response_never}
use Rattle.httparse.proofs.PieceLemmas.{Refutes_by, Refutes_next, Never_intro, NotYet_intro, front-append, print_field-append, Section_skip, FieldLines-append, FieldLines_push, ResponseStart_deterministic}
use Rattle.http_talk.specs.HeadFeeding.{HasManyFields}
use Rattle.http_talk.specs.LongHeads.{behind_blanks, from_line_end, behind_line, StartTree, IsBehindLines}

-- ---- where lines end

-- a byte that ends no line
abbrev pub IsInLine : ℕ → Type 0
IsInLine b = (b == 10) ≡ false

in_line_skip : (body rest : List ℕ) → All IsInLine body → from_line_end (body ++ rest) ≡ from_line_end rest
in_line_skip [] rest all = refl
in_line_skip (b ∷ body) rest all = rw (All-head IsInLine b body all) (in_line_skip body rest (All-tail IsInLine b body all))

token_in_line : (b : ℕ) → is_token_byte b ≡ true → IsInLine b
unfolding is_token_byte
token_in_line b token = ne_eqb b 10 (λ e. false≢true (subst (λ (v : ℕ). is_token_byte v ≡ true) e token))

value_in_line : (b : ℕ) → is_value_byte b ≡ true → IsInLine b
value_in_line b value = ne_eqb b 10 (λ e. false≢true (subst (λ (v : ℕ). is_value_byte v ≡ true) e value))

digit_in_line : (b : ℕ) → is_ascii_digit b ≡ true → IsInLine b
digit_in_line b digit = ne_eqb b 10 (λ e. false≢true (subst (λ (v : ℕ). is_ascii_digit v ≡ true) e digit))

behind_end : (end : LineEnd) (rest : List ℕ) → behind_line (print_end end ++ rest) ≡ rest
behind_end crlf rest = refl
behind_end lf rest = refl

-- behind bytes of a line, and its end, stands the rest
behind_body : (body : List ℕ) (end : LineEnd) (rest : List ℕ) → All IsInLine body → behind_line (body ++ (print_end end ++ rest)) ≡ rest
behind_body body end rest all = ap (λ (xs : List ℕ). drop 1 xs) (in_line_skip body (print_end end ++ rest) all) ∙ behind_end end rest

behind_field : (f : Field) (rest : List ℕ) → IsField f → behind_line (print_field f ++ rest) ≡ rest
behind_field f rest is =
    let name : All IsInLine f.name = λ k d short. token_in_line _ (is.name.1 k d short) in
    let raw : All IsInLine f.raw = λ k d short. value_in_line _ (is.raw k d short) in
    let whole : print_field f ++ rest ≡ (f.name ++ 58 ∷ f.raw) ++ (print_end f.end ++ rest) = print_field-append f rest ∙ sym (append_assoc f.name (58 ∷ f.raw) (print_end f.end ++ rest)) in
    ap behind_line whole ∙ behind_body (f.name ++ 58 ∷ f.raw) f.end rest (All-append IsInLine f.name (58 ∷ f.raw) name (All-cons IsInLine 58 f.raw refl raw))

-- ---- the status line

-- a status line, printed, and then the rest
abbrev pub printed : StartTree → List ℕ → List ℕ
printed t rest =
    print_blank t.0 ++ (print_version t.1.0 ++ 32 ∷ (code_digits t.1.1.1.0 ++ (print_reason t.1.1.1.1.0 ++ (print_end t.1.1.1.1.1 ++ rest))))

printed-append : (t : StartTree) (a b : List ℕ) → printed t (a ++ b) ≡ printed t a ++ b
printed-append t a b = simp (append_assoc, cons-append)

start_told : (t : StartTree) (text rest : List ℕ) → ResponseStart t text rest → text ≡ printed t rest
start_told t text rest x =
    let code = x.2.2.2.1 in cc (x.1.0, x.2.1.1, x.2.2.1, code.1.1, code.2.1.1, code.2.2.1, x.2.2.2.2.1)

-- the same status line stands in front of another rest
start_before : (t : StartTree) (text rest other : List ℕ) → ResponseStart t text rest → ResponseStart t (printed t other) other
start_before t text rest other x =
    let code = x.2.2.2.1 in
    let version = print_version t.1.0 ++ 32 ∷ (code_digits t.1.1.1.0 ++ (print_reason t.1.1.1.1.0 ++ (print_end t.1.1.1.1.1 ++ other))) in (
      version,
      (refl, refl),
      (_, (x.2.1.0, refl), (_, refl, (_, (_, (code.1.0, refl), (_, (code.2.1.0, refl), (code.2.2.0, refl))), (x.2.2.2.2.0, refl)))),
    )

blanks_behind : (ends : List LineEnd) (rest : List ℕ) → Stops is_newline rest → behind_blanks (print_blank ends ++ rest) ≡ rest
blanks_behind [] [] stops = absurd stops
blanks_behind [] (b ∷ rest) stops = rw stops refl
blanks_behind (crlf ∷ ends) rest stops = blanks_behind ends rest stops
blanks_behind (lf ∷ ends) rest stops = blanks_behind ends rest stops

version_skip : (minor : ℕ) (rest : List ℕ) → from_line_end (print_version minor ++ rest) ≡ from_line_end rest
version_skip minor rest = let digit : (48 + minor == 10) ≡ false = ne_eqb (48 + minor) 10 (λ e. omega (arith, e)) in rw digit refl

reason_in_line : (reason : Option (List ℕ)) (end : LineEnd) (text rest : List ℕ) → Reason (reason, end) text rest → All IsInLine (print_reason reason)
reason_in_line None end text rest x = All-nil IsInLine
reason_in_line (Some phrase) end text rest x = All-cons IsInLine 32 phrase refl (λ k d short. value_in_line _ (x.0 k d short))

behind_start : (t : StartTree) (text rest other : List ℕ) → ResponseStart t text rest → behind_line (behind_blanks (printed t other)) ≡ other
behind_start t text rest other x =
    let code = x.2.2.2.1 in
    let digits : All IsInLine (code_digits t.1.1.1.0) =
    All-cons IsInLine t.1.1.1.0.0 (t.1.1.1.0.1.0 ∷ t.1.1.1.0.1.1 ∷ []) (digit_in_line _ code.1.0) (All-cons IsInLine t.1.1.1.0.1.0 (t.1.1.1.0.1.1 ∷ []) (digit_in_line _ code.2.1.0) (All-cons IsInLine t.1.1.1.0.1.1 [] (digit_in_line _ code.2.2.0) (All-nil IsInLine))) in
    let reason = reason_in_line t.1.1.1.1.0 t.1.1.1.1.1 _ _ x.2.2.2.2 in
    let body = 32 ∷ (code_digits t.1.1.1.0 ++ print_reason t.1.1.1.1.0) in
    let behind = 32 ∷ (code_digits t.1.1.1.0 ++ (print_reason t.1.1.1.1.0 ++ (print_end t.1.1.1.1.1 ++ other))) in
    let blanks : behind_blanks (printed t other) ≡ print_version t.1.0 ++ behind = blanks_behind t.0 (print_version t.1.0 ++ behind) refl in
    let version : behind_line (print_version t.1.0 ++ behind) ≡ behind_line behind = ap (λ (xs : List ℕ). drop 1 xs) (version_skip t.1.0 behind) in
    let line : behind ≡ body ++ (print_end t.1.1.1.1.1 ++ other) = simp (append_assoc, cons-append) in
    let all : All IsInLine body = All-cons IsInLine 32 (code_digits t.1.1.1.0 ++ print_reason t.1.1.1.1.0) refl (All-append IsInLine (code_digits t.1.1.1.0) (print_reason t.1.1.1.1.0) digits reason) in
    ap behind_line blanks ∙ version ∙ ap behind_line line ∙ behind_body body t.1.1.1.1.1 other all

-- ---- the first lines

abbrev end_front : LineEnd → List ℕ
end_front crlf = 13 ∷ []
end_front lf = []

end_cut : (end : LineEnd) → print_end end ≡ end_front end ++ 10 ∷ []
end_cut crlf = refl
end_cut lf = refl

-- a section without its last line feed
section_cut : (fields : List Field) (last : LineEnd) → print_section fields last ≡ (flat_map print_field fields ++ end_front last) ++ 10 ∷ []
section_cut fields last = ap (λ (end : List ℕ). flat_map print_field fields ++ end) (end_cut last) ∙ sym (append_assoc (flat_map print_field fields) (end_front last) (10 ∷ []))

-- where a head of many fields is there but for its end, the status line is
pub begun : (bytes : List ℕ) (room : ℕ) → ResponseExceeds room bytes → IsBehindLines bytes (behind_line (behind_blanks bytes))
begun bytes room x =
    let front = x.0 in
    let rest = x.1 in
    let pieces = response_pieces (front ++ 10 ∷ []) x.3 [] x.4 in
    let t = pieces.0.0 in
    let start = pieces.2.1 in
    let inner = flat_map print_field pieces.0.1.0 ++ end_front pieces.0.1.1 in
    let middle : pieces.2.0 ≡ inner ++ 10 ∷ [] = pieces.2.2.1 ∙ append-nil _ ∙ section_cut pieces.0.1.0 pieces.0.1.1 in
    let ended : front ++ 10 ∷ [] ≡ printed t inner ++ 10 ∷ [] = start_told t _ _ start ∙ ap (printed t) middle ∙ printed-append t inner (10 ∷ []) in
    let whole : bytes ≡ printed t (inner ++ rest) = x.2 ∙ ap (λ (xs : List ℕ). xs ++ rest) (append_cancel_right front (printed t inner) (10 ∷ []) ended) ∙ sym (printed-append t inner rest) in
    let behind : behind_line (behind_blanks bytes) ≡ inner ++ rest = ap (λ (xs : List ℕ). behind_line (behind_blanks xs)) whole ∙ behind_start t _ _ (inner ++ rest) start in
    let line : ResponseStart t bytes (inner ++ rest) = subst (λ (xs : List ℕ). ResponseStart t xs (inner ++ rest)) (sym whole) (start_before t _ _ (inner ++ rest) start) in
    let first : IsBehindLines bytes (inner ++ rest) = record { start = t; fields = []; middle = inner ++ rest; line = line; lines = (All-nil IsField, refl) } in
    subst (IsBehindLines bytes) (sym behind) first

some_bytes : (f : Field) (rest : List ℕ) → length rest < length (print_field f ++ rest)
some_bytes f rest = omega (arith, ap (length {A = ℕ}) (print_field-append f rest), length-append f.name (58 ∷ (f.raw ++ (print_end f.end ++ rest))), length-append f.raw (print_end f.end ++ rest), length-append (print_end f.end) rest)

field_behind : (bytes text rest : List ℕ) (f : Field) → IsBehindLines bytes text → FieldLine f text rest
    → IsBehindLines bytes (behind_line text) × (length (behind_line text) < length text)
field_behind bytes text rest f b x =
    let behind : behind_line text ≡ rest = ap behind_line x.1 ∙ behind_field f rest x.0 in
    let more : IsBehindLines bytes rest = record {
      start = b.start;
      fields = b.fields ++ f ∷ [];
      middle = b.middle;
      line = b.line;
      lines = FieldLines_push b.fields f b.middle text rest b.lines x;
    } in (
      subst (IsBehindLines bytes) (sym behind) more,
      omega (arith, some_bytes f rest, ap (length {A = ℕ}) behind, ap (length {A = ℕ}) x.1),
    )

first_field : (fields : List Field) (text rest : List ℕ) → 0 < length fields → All IsField fields → text ≡ flat_map print_field fields ++ rest → (f : Field) × (q : List ℕ) × FieldLine f text q
first_field [] text rest some all is = absurd (omega (arith, some))
first_field (f ∷ fields) text rest some all is = (f, flat_map print_field fields ++ rest, (All-head IsField f fields all, is ∙ append_assoc (print_field f) (flat_map print_field fields) rest))

-- a field stands at the front of the rest, which is shorter behind it
pub one_more : (bytes text : List ℕ) → IsBehindLines bytes text → SectionExceeds 0 text
    → IsBehindLines bytes (behind_line text) × (length (behind_line text) < length text)
one_more bytes text b x =
    let ended : x.0 ++ 10 ∷ [] ≡ flat_map print_field x.3 ++ 10 ∷ [] = x.4.1 ∙ append-nil _ in
    let fields = append_cancel_right x.0 (flat_map print_field x.3) (10 ∷ []) ended in
    let field = first_field x.3 text x.1 x.5 x.4.0 (x.2 ∙ ap (λ (xs : List ℕ). xs ++ x.1) fields) in
    field_behind bytes text field.1 field.0 b field.2

-- ---- what the rest says

-- a section at the front of the rest ends a head
whole_head : (bytes rest : List ℕ) (b : IsBehindLines bytes rest) (more tail : List ℕ) (fields : List Field) (last : LineEnd) → ReadsSection (rest ++ more) fields last tail
    → (h : ResponseHead) × ReadsResponse (bytes ++ more) h tail
whole_head bytes rest b more tail fields last reads =
    let t : StartTree × (List Field × LineEnd) = (b.start, (b.fields ++ fields, last)) in
    let section : b.middle ++ more ≡ print_section (b.fields ++ fields) last ++ tail = front-append b.middle (flat_map print_field b.fields) rest more b.lines.1 ∙ rw (reads.1, flat_map-append) (simp append_assoc) in (
      response_head t,
      response_from_pieces (bytes ++ more) t tail (
        b.middle ++ more,
        ResponseStart_deterministic.append b.start bytes b.middle more b.line,
        (All-append IsField b.fields fields b.lines.0 reads.0, section),
      ),
    )

refuted : {M : List ℕ → Type 0} (bytes rest : List ℕ) → IsBehindLines bytes rest → Refutes M (Begins Section) rest → Refutes M (Begins (Then ResponseStart Section)) bytes
refuted bytes rest b none =
    Refutes_next Section ResponseStart_deterministic {a = b.start} b.line (
    Refutes_by (λ more h.
    let skipped = Section_skip b.fields h.0.0 h.0.1 _ _ h.1 (FieldLines-append b.fields b.middle rest more b.lines) h.2 in
    ((skipped.0, h.0.1), h.1, skipped.2)) none
    )

pub not_yet : (bytes rest : List ℕ) → IsBehindLines bytes rest → HasNoSection rest → HasNoResponse bytes
not_yet bytes rest b none = response_not_yet (refuted bytes rest b (NotYet_intro (λ h. none h.0.0 h.0.1 h.1 h.2)))

pub never : (bytes rest : List ℕ) → IsBehindLines bytes rest → NeverHasSection rest → NeverHasResponse bytes
never bytes rest b none = response_never (refuted bytes rest b (Never_intro (λ more h. none more h.0.0 h.0.1 h.1 h.2)))

pub may : (bytes rest : List ℕ) → IsBehindLines bytes rest → MayBecomeSection rest → MayBecomeResponse bytes
may bytes rest b x = let head = whole_head bytes rest b x.0 [] x.1 x.2 x.3 in (x.0, head.0, head.1)

many : (bytes rest : List ℕ) → IsBehindLines bytes rest → ResponseOverflows 64 bytes → (fields : List Field) (last : LineEnd) (tail : List ℕ) → ReadsSection rest fields last tail → HasManyFields bytes
many bytes rest b overflows fields last tail reads =
    let head = whole_head bytes rest b [] tail fields last (reads.0, append-nil rest ∙ reads.1) in
    record {
      head = head.0;
      rest = tail;
      reads = subst (λ (xs : List ℕ). ReadsResponse xs head.0 tail) (append-nil bytes) head.1;
      many = overflows [] head.0 tail head.1;
    }

-- a section that was found in the rest ends a head of many fields
pub ended : (bytes rest : List ℕ) → IsBehindLines bytes rest → ResponseOverflows 64 bytes → (headers : List HeaderSpan) (found : Result (Status (ℕ × ℕ)) Error)
    → IsCompleteAnd found (IsSectionOf rest 0 headers) → HasManyFields bytes
ended bytes rest b overflows headers (Ok (Complete found)) x = many bytes rest b overflows x.0 x.1 _ x.2.reads
ended bytes rest b overflows headers (Ok Partial) x = absurd x
ended bytes rest b overflows headers (Err fault) x = absurd x
