-- Each body in chunks is read to its end.
use Rattle.std.proofs.Common.{◌≡◌, ℕ, ◌+◌, ◌-◌, ◌*◌, ◌≤◌, ◌<◌, true, false, List, [], ◌∷◌, ◌++◌, length, Option, Some, None, refl, sym, ap, ◌∙◌, subst, arith, inl, inr, append_assoc, append-nil}
use Rattle.std.specs.Prelude.{◌⊎◌, ◌==◌, if◌then◌else◌, fold, flat_map, All}
use Rattle.std.specs.List.{list_all}
use Rattle.std.specs.Char.{is_ascii_hexdigit, digit_value}
use Rattle.std.specs.Str.Parse.{digits_value_after}
use Rattle.std.proofs.lemmas.List.{length-append}
use Rattle.std.proofs.lemmas.List.Concat.{flat_map-cons}
use Rattle.std.proofs.lemmas.List.Sums.{list_all-from_AllPass}
use Rattle.std.proofs.lemmas.List.Elements.{All-head, All-tail}
use Rattle.std.proofs.lemmas.Bool.{le-leb, lt-ltb, and_parts}
use Rattle.std.proofs.lemmas.Bool.Decides.{nat_tests}
use Rattle.httparse.specs.Grammar.{ChunkLine, print_chunk_line, print_extension, IsExtension, chunk_size, is_extension_byte, is_ows, print_end, crlf}
use Rattle.http_talk.specs.declared.chunk_place.ChunkPlace.{ChunkPlace}
use Rattle.http_talk.specs.declared.chunk_place.ChunkPlace.TheVariants.{Digits, Blanks, Extension, SizeEnd, Bytes, BytesEnd, Trailer, Whole}
use Rattle.http_talk.specs.Chunks.{Chunks, no_chunks, with_byte, place_after, behind_size, held_after}
use Rattle.http_talk.specs.ChunkGrammar.{Chunk, IsShortLine, IsChunk, IsTrailer, print_chunk, print_trailer, print_body, held_by, BodiesAreRead}

abbrev at : ChunkPlace → List ℕ → ℕ → Chunks
at place held got = record { place = place; held = held; got = got }

abbrev run : Chunks → List ℕ → Chunks
run c bytes = fold with_byte c bytes

run-append : (c : Chunks) (bytes more : List ℕ) → run c (bytes ++ more) ≡ run (run c bytes) more
run-append c [] more = refl
run-append c (b ∷ bytes) more = run-append (with_byte c b) bytes more

-- ---- the line of a chunk

digit_step : (count size d : ℕ) (held : List ℕ) (got : ℕ) → is_ascii_hexdigit d ≡ true → count < 8
    → with_byte (at (Digits count size) held got) d ≡ at (Digits (count + 1) (size * 16 + digit_value d)) held (got + 1)
unfolding place_after
digit_step count size d held got hex few = rw (hex, lt-ltb count 8 few) refl

digits_run : (ds : List ℕ) (count size : ℕ) (held : List ℕ) (got : ℕ) → list_all is_ascii_hexdigit ds ≡ true → count + length ds ≤ 8
    → run (at (Digits count size) held got) ds ≡ at (Digits (count + length ds) (digits_value_after 16 size ds)) held (got + length ds)
digits_run [] count size held got all few =
    let a : count ≡ count + 0 = omega arith in
    let b : got ≡ got + 0 = omega arith in
    λ i. at (Digits (a i) size) held (b i)
digits_run (d ∷ ds) count size held got all few =
    let tests = and_parts (is_ascii_hexdigit d) (list_all is_ascii_hexdigit ds) all in
    let a : count + 1 + length ds ≡ count + length (d ∷ ds) = omega arith in
    let b : got + 1 + length ds ≡ got + length (d ∷ ds) = omega arith in
    ap (λ c. run c ds) (digit_step count size d held got tests.0 (omega (arith, few)))
    ∙ digits_run ds (count + 1) (size * 16 + digit_value d) held (got + 1) tests.1 (omega (arith, few))
    ∙ (λ i. at (Digits (a i) (digits_value_after 16 size (d ∷ ds))) held (b i))

-- behind the size, of whose line so many bytes came
abbrev Behind : ChunkPlace → ℕ → ℕ → Type 0
Behind place line size = (b : ℕ) → is_ascii_hexdigit b ≡ false → place_after place b ≡ behind_size line size b

-- no byte of a chunk is due
abbrev HasKept : ChunkPlace → Type 0
HasKept place = (held : List ℕ) (b : ℕ) → held_after place held b ≡ held

behind_digits : (count size : ℕ) → 0 < count → Behind (Digits count size) count size
unfolding place_after
behind_digits count size some b other = rw (other, lt-ltb 0 count some) refl

behind_blanks : (line size : ℕ) → Behind (Blanks line size) line size
unfolding place_after
behind_blanks line size b other = refl

ows_is : (p : ℕ) → is_ows p ≡ true → (p ≡ 32) ⊎ (p ≡ 9)
ows_is p e = grind (arith, nat_tests)

blank_step : (place : ChunkPlace) (line size p : ℕ) → Behind place line size → is_ows p ≡ true → line + 1 ≤ 1022
    → place_after place p ≡ Blanks (line + 1) size
blank_step place line size p behind blank few = elim (ows_is p blank) [
  | inl is ↦ subst (λ q. place_after place q ≡ Blanks (line + 1) size) (sym is) (behind 32 refl ∙ rw (le-leb (line + 3) 1024 (omega (arith, few))) refl)
  | inr is ↦ subst (λ q. place_after place q ≡ Blanks (line + 1) size) (sym is) (behind 9 refl ∙ rw (le-leb (line + 3) 1024 (omega (arith, few))) refl)
]

-- one byte that is none of a chunk
plain_step : (place next : ChunkPlace) (b : ℕ) (held : List ℕ) (got : ℕ) → HasKept place → place_after place b ≡ next
    → with_byte (at place held got) b ≡ at next held (got + 1)
plain_step place next b held got keeps is = λ i. at (is i) (keeps held b i) (got + 1)

keeps_digits : (count size : ℕ) → HasKept (Digits count size)
keeps_digits count size = λ held b. refl

keeps_blanks : (line size : ℕ) → HasKept (Blanks line size)
keeps_blanks line size = λ held b. refl

-- a line whose end is due, with what was read of it
pub record LineRead (size : ℕ) (start : Chunks) (bytes held : List ℕ) (got : ℕ) : Type 0 where
  pub place : ChunkPlace
  pub due : place_after place 13 ≡ SizeEnd size
  pub keeps : HasKept place
  pub is : run start bytes ≡ at place held (got + length bytes)

-- one byte more in front
line_more : (size : ℕ) (start : Chunks) (b : ℕ) (bytes held : List ℕ) (got : ℕ) (next : ChunkPlace)
    → with_byte start b ≡ at next held (got + 1) → LineRead size (at next held (got + 1)) bytes held (got + 1) → LineRead size start (b ∷ bytes) held got
line_more size start b bytes held got next step x =
    let e : got + 1 + length bytes ≡ got + length (b ∷ bytes) = omega arith in
    record { place = x.place; due = x.due; keeps = x.keeps; is = ap (λ c. run c bytes) step ∙ x.is ∙ (λ i. at x.place held (e i)) }

line_none : (size : ℕ) (place : ChunkPlace) (held : List ℕ) (got : ℕ) → place_after place 13 ≡ SizeEnd size → HasKept place → LineRead size (at place held got) [] held got
line_none size place held got due keeps =
    let e : got ≡ got + 0 = omega arith in record { place = place; due = due; keeps = keeps; is = λ i. at place held (e i) }

ext_byte : (b : ℕ) → is_extension_byte b ≡ true → ((b == 13) ≡ false) × ((b == 10) ≡ false)
ext_byte b e = grind (arith, nat_tests)

ext_step : (line size b : ℕ) → is_extension_byte b ≡ true → line + 1 ≤ 1022 → place_after (Extension line size) b ≡ Extension (line + 1) size
unfolding place_after
ext_step line size b plain few = let other = ext_byte b plain in rw (other.0, other.1, le-leb (line + 3) 1024 (omega (arith, few))) refl

ext_due : (line size : ℕ) → place_after (Extension line size) 13 ≡ SizeEnd size
unfolding place_after
ext_due line size = refl

ext_run : (text : List ℕ) (line size : ℕ) (held : List ℕ) (got : ℕ) → list_all is_extension_byte text ≡ true → line + length text ≤ 1022
    → LineRead size (at (Extension line size) held got) text held got
ext_run [] line size held got all few = line_none size (Extension line size) held got (ext_due line size) (λ held b. refl)
ext_run (b ∷ text) line size held got all few =
    let tests = and_parts (is_extension_byte b) (list_all is_extension_byte text) all in
    line_more size _ b text held got (Extension (line + 1) size)
    (plain_step (Extension line size) (Extension (line + 1) size) b held got (λ held b. refl) (ext_step line size b tests.0 (omega (arith, few))))
    (ext_run text (line + 1) size held (got + 1) tests.1 (omega (arith, few)))

semi_step : (place : ChunkPlace) (line size : ℕ) → Behind place line size → line + 1 ≤ 1022 → place_after place 59 ≡ Extension (line + 1) size
semi_step place line size behind few = behind 59 refl ∙ rw (le-leb (line + 3) 1024 (omega (arith, few))) refl

opt_run : (ext : Option (List ℕ)) (place : ChunkPlace) (line size : ℕ) (held : List ℕ) (got : ℕ) → Behind place line size → HasKept place → IsExtension ext
    → line + length (print_extension ext) ≤ 1022 → LineRead size (at place held got) (print_extension ext) held got
opt_run None place line size held got behind keeps plain few = line_none size place held got (behind 13 refl) keeps
opt_run (Some text) place line size held got behind keeps plain few =
    line_more size _ 59 text held got (Extension (line + 1) size)
    (plain_step place (Extension (line + 1) size) 59 held got keeps (semi_step place line size behind (omega (arith, few))))
    (ext_run text (line + 1) size held (got + 1) (list_all-from_AllPass is_extension_byte text plain) (omega (arith, few)))

tail_run : (ps : List ℕ) (ext : Option (List ℕ)) (place : ChunkPlace) (line size : ℕ) (held : List ℕ) (got : ℕ) → Behind place line size → HasKept place
    → list_all is_ows ps ≡ true → IsExtension ext → line + length (ps ++ print_extension ext) ≤ 1022
    → LineRead size (at place held got) (ps ++ print_extension ext) held got
tail_run [] ext place line size held got behind keeps all plain few = opt_run ext place line size held got behind keeps plain few
tail_run (p ∷ ps) ext place line size held got behind keeps all plain few =
    let tests = and_parts (is_ows p) (list_all is_ows ps) all in
    line_more size _ p (ps ++ print_extension ext) held got (Blanks (line + 1) size)
    (plain_step place (Blanks (line + 1) size) p held got keeps (blank_step place line size p behind tests.0 (omega (arith, few))))
    (tail_run ps ext (Blanks (line + 1) size) (line + 1) size held (got + 1) (behind_blanks (line + 1) size) (keeps_blanks (line + 1) size) tests.1 plain (omega (arith, few)))

-- what follows a chunk line of this size
abbrev after_size : ℕ → ChunkPlace
after_size size = if size == 0 then Trailer 0 0 else Bytes size

end_run : (size : ℕ) (place : ChunkPlace) (held : List ℕ) (got : ℕ) → place_after place 13 ≡ SizeEnd size → HasKept place
    → run (at place held got) (13 ∷ 10 ∷ []) ≡ at (after_size size) held (got + 1 + 1)
unfolding place_after
end_run size place held got due keeps = ap (λ c. with_byte c 10) (plain_step place (SizeEnd size) 13 held got keeps due)

line_made : (ds tail : List ℕ) (size : ℕ) (held : List ℕ) (got : ℕ)
    → run (at (Digits 0 0) held got) ds ≡ at (Digits (length ds) size) held (got + length ds)
    → LineRead size (at (Digits (length ds) size) held (got + length ds)) tail held (got + length ds)
    → run (at (Digits 0 0) held got) (ds ++ (tail ++ (13 ∷ 10 ∷ []))) ≡ at (after_size size) held (got + length (ds ++ (tail ++ (13 ∷ 10 ∷ []))))
line_made ds tail size held got first x =
    let e : got + length ds + length tail + 1 + 1 ≡ got + length (ds ++ (tail ++ (13 ∷ 10 ∷ []))) =
    omega (arith, length-append ds (tail ++ (13 ∷ 10 ∷ [])), length-append tail (13 ∷ 10 ∷ [])) in
    run-append (at (Digits 0 0) held got) ds (tail ++ (13 ∷ 10 ∷ []))
    ∙ ap (λ c. run c (tail ++ (13 ∷ 10 ∷ []))) first
    ∙ run-append (at (Digits (length ds) size) held (got + length ds)) tail (13 ∷ 10 ∷ [])
    ∙ ap (λ c. run c (13 ∷ 10 ∷ [])) x.is
    ∙ end_run size x.place held (got + length ds + length tail) x.due x.keeps
    ∙ (λ i. at (after_size size) held (e i))

regroup : (a b c d : List ℕ) → a ++ b ++ c ++ d ≡ a ++ ((b ++ c) ++ d)
regroup a b c d = ap (λ t. t ++ d) (append_assoc a b c) ∙ append_assoc a (b ++ c) d

pub line_run : (l : ChunkLine) (held : List ℕ) (got : ℕ) → IsShortLine l
    → run (at (Digits 0 0) held got) (print_chunk_line l) ≡ at (after_size (chunk_size l)) held (got + length (print_chunk_line l))
unfolding print_chunk_line
line_run l held got x =
    let ds = l.digits in
    let tail = l.pad ++ print_extension l.extension in
    let shape = regroup l.digits l.pad (print_extension l.extension) (print_end crlf) in
    let size = digits_value_after 16 0 ds in
    let fits : length ds + length tail ≤ 1022 =
    omega (arith, x.short, ap (length {A = ℕ}) shape, length-append ds (tail ++ (13 ∷ 10 ∷ [])), length-append tail (13 ∷ 10 ∷ [])) in
    let zero_more : 0 + length ds ≡ length ds = omega arith in
    let first : run (at (Digits 0 0) held got) ds ≡ at (Digits (length ds) size) held (got + length ds) =
    digits_run ds 0 0 held got (list_all-from_AllPass is_ascii_hexdigit ds x.is_line.digits.2) (omega (arith, x.few_digits))
    ∙ (λ i. at (Digits (zero_more i) size) held (got + length ds)) in
    let read = tail_run l.pad l.extension (Digits (length ds) size) (length ds) size held (got + length ds) (behind_digits (length ds) size x.is_line.digits.0) (keeps_digits (length ds) size)
    (list_all-from_AllPass is_ows l.pad x.is_line.pad) x.is_line.extension fits in
    subst (λ bytes. run (at (Digits 0 0) held got) bytes ≡ at (after_size size) held (got + length bytes)) (sym shape) (line_made ds tail size held got first read)

-- ---- the bytes of a chunk

last_byte : (b : ℕ) (held : List ℕ) (got : ℕ) → with_byte (at (Bytes 1) held got) b ≡ at BytesEnd (held ++ b ∷ []) (got + 1)
unfolding place_after
last_byte b held got = refl

next_byte : (left b : ℕ) (held : List ℕ) (got : ℕ) → 1 < left → with_byte (at (Bytes left) held got) b ≡ at (Bytes (left - 1)) (held ++ b ∷ []) (got + 1)
unfolding place_after
next_byte left b held got more = rw (lt-ltb 1 left more) refl

bytes_run : (b : ℕ) (bytes : List ℕ) (left : ℕ) (held : List ℕ) (got : ℕ) → left ≡ length (b ∷ bytes)
    → run (at (Bytes left) held got) (b ∷ bytes) ≡ at BytesEnd (held ++ (b ∷ bytes)) (got + length (b ∷ bytes))
bytes_run b [] left held got is =
    let one : left ≡ 1 = omega (arith, is) in
    let e : got + 1 ≡ got + length (b ∷ []) = omega arith in
    (λ i. with_byte (at (Bytes (one i)) held got) b) ∙ last_byte b held got ∙ (λ i. at BytesEnd (held ++ b ∷ []) (e i))
bytes_run b (c ∷ bytes) left held got is =
    let e : got + 1 + length (c ∷ bytes) ≡ got + length (b ∷ c ∷ bytes) = omega arith in
    ap (λ s. run s (c ∷ bytes)) (next_byte left b held got (omega (arith, is)))
    ∙ bytes_run c bytes (left - 1) (held ++ b ∷ []) (got + 1) (omega (arith, is))
    ∙ (λ i. at BytesEnd (append_assoc held (b ∷ []) (c ∷ bytes) i) (e i))

bytes_end : (held : List ℕ) (got : ℕ) → run (at BytesEnd held got) (print_end crlf) ≡ at (Digits 0 0) held (got + 1 + 1)
unfolding place_after
bytes_end held got = refl

some_bytes : (size : ℕ) → 0 < size → after_size size ≡ Bytes size
some_bytes size some = grind (arith, nat_tests)

body_run : (bytes : List ℕ) (held : List ℕ) (got : ℕ) → 0 < length bytes
    → run (at (Bytes (length bytes)) held got) bytes ≡ at BytesEnd (held ++ bytes) (got + length bytes)
body_run [] held got some = absurd (omega (arith, some))
body_run (b ∷ bytes) held got some = bytes_run b bytes (length (b ∷ bytes)) held got refl

pub chunk_run : (c : Chunk) (held : List ℕ) (got : ℕ) → IsChunk c
    → run (at (Digits 0 0) held got) (print_chunk c) ≡ at (Digits 0 0) (held ++ c.bytes) (got + length (print_chunk c))
chunk_run c held got x =
    let l = print_chunk_line c.line in
    let size : after_size (chunk_size c.line) ≡ Bytes (length c.bytes) = ap after_size x.size ∙ some_bytes (length c.bytes) x.some in
    let e : got + length l + length c.bytes + 1 + 1 ≡ got + length (print_chunk c) =
    omega (arith, length-append (l ++ c.bytes) (print_end crlf), length-append l c.bytes) in
    ap (run (at (Digits 0 0) held got)) (append_assoc l c.bytes (print_end crlf))
    ∙ run-append (at (Digits 0 0) held got) l (c.bytes ++ print_end crlf)
    ∙ ap (λ s. run s (c.bytes ++ print_end crlf)) (line_run c.line held got x.line ∙ (λ i. at (size i) held (got + length l)))
    ∙ run-append (at (Bytes (length c.bytes)) held (got + length l)) c.bytes (print_end crlf)
    ∙ ap (λ s. run s (print_end crlf)) (body_run c.bytes held (got + length l) x.some)
    ∙ bytes_end (held ++ c.bytes) (got + length l + length c.bytes)
    ∙ (λ i. at (Digits 0 0) (held ++ c.bytes) (e i))

pub chunks_run : (cs : List Chunk) (held : List ℕ) (got : ℕ) → All IsChunk cs
    → run (at (Digits 0 0) held got) (flat_map print_chunk cs) ≡ at (Digits 0 0) (held ++ flat_map (λ (c : Chunk). c.bytes) cs) (got + length (flat_map print_chunk cs))
chunks_run [] held got x =
    let e : got ≡ got + 0 = omega arith in λ i. at (Digits 0 0) (sym (append-nil held) i) (e i)
chunks_run (c ∷ cs) held got x =
    let one = flat_map-cons print_chunk c cs in
    let all = flat_map-cons (λ (k : Chunk). k.bytes) c cs in
    let e : got + length (print_chunk c) + length (flat_map print_chunk cs) ≡ got + length (flat_map print_chunk (c ∷ cs)) =
    omega (arith, ap (length {A = ℕ}) one, length-append (print_chunk c) (flat_map print_chunk cs)) in
    ap (run (at (Digits 0 0) held got)) one
    ∙ run-append (at (Digits 0 0) held got) (print_chunk c) (flat_map print_chunk cs)
    ∙ ap (λ s. run s (flat_map print_chunk cs)) (chunk_run c held got (All-head IsChunk c cs x))
    ∙ chunks_run cs (held ++ c.bytes) (got + length (print_chunk c)) (All-tail IsChunk c cs x)
    ∙ (λ i. at (Digits 0 0) ((append_assoc held c.bytes (flat_map (λ (k : Chunk). k.bytes) cs) ∙ ap (λ t. held ++ t) (sym all)) i) (e i))

-- ---- trailer lines, and the end

trailer_step : (before line b : ℕ) → is_extension_byte b ≡ true → before + line + 3 ≤ 16384 → place_after (Trailer before line) b ≡ Trailer before (line + 1)
unfolding place_after
trailer_step before line b plain few = let other = ext_byte b plain in rw (other.0, other.1, le-leb (before + line + 3) 16384 few) refl

trailer_bytes : (text : List ℕ) (before line : ℕ) (held : List ℕ) (got : ℕ) → list_all is_extension_byte text ≡ true → before + line + length text + 2 ≤ 16384
    → run (at (Trailer before line) held got) text ≡ at (Trailer before (line + length text)) held (got + length text)
trailer_bytes [] before line held got all few =
    let a : line ≡ line + 0 = omega arith in
    let b : got ≡ got + 0 = omega arith in λ i. at (Trailer before (a i)) held (b i)
trailer_bytes (t ∷ text) before line held got all few =
    let tests = and_parts (is_extension_byte t) (list_all is_extension_byte text) all in
    let a : line + 1 + length text ≡ line + length (t ∷ text) = omega arith in
    let b : got + 1 + length text ≡ got + length (t ∷ text) = omega arith in
    ap (λ c. run c text) (plain_step (Trailer before line) (Trailer before (line + 1)) t held got (λ held b. refl) (trailer_step before line t tests.0 (omega (arith, few))))
    ∙ trailer_bytes text before (line + 1) held (got + 1) tests.1 (omega (arith, few))
    ∙ (λ i. at (Trailer before (a i)) held (b i))

trailer_end : (before line : ℕ) (held : List ℕ) (got : ℕ) → 0 < line → run (at (Trailer before line) held got) (print_end crlf) ≡ at (Trailer (before + line + 2) 0) held (got + 1 + 1)
unfolding place_after
trailer_end before line held got some =
    let e : (line == 0) ≡ false = grind (arith, nat_tests) in rw e refl

trailer_run : (text : List ℕ) (before : ℕ) (held : List ℕ) (got : ℕ) → IsTrailer text → before + length (print_trailer text) ≤ 16384
    → run (at (Trailer before 0) held got) (print_trailer text) ≡ at (Trailer (before + length (print_trailer text)) 0) held (got + length (print_trailer text))
trailer_run text before held got x few =
    let len = length-append text (print_end crlf) in
    let a : before + length text + 2 ≡ before + length (print_trailer text) = omega (arith, len) in
    let b : got + length text + 1 + 1 ≡ got + length (print_trailer text) = omega (arith, len) in
    let z : 0 + length text ≡ length text = omega arith in
    run-append (at (Trailer before 0) held got) text (print_end crlf)
    ∙ ap (λ c. run c (print_end crlf)) (trailer_bytes text before 0 held got (list_all-from_AllPass is_extension_byte text x.plain) (omega (arith, few, len)) ∙ (λ i. at (Trailer before (z i)) held (got + length text)))
    ∙ trailer_end before (length text) held (got + length text) x.some
    ∙ (λ i. at (Trailer (a i) 0) held (b i))

trailers_run : (ts : List (List ℕ)) (before : ℕ) (held : List ℕ) (got : ℕ) → All IsTrailer ts → before + length (flat_map print_trailer ts) ≤ 16384
    → run (at (Trailer before 0) held got) (flat_map print_trailer ts)
    ≡ at (Trailer (before + length (flat_map print_trailer ts)) 0) held (got + length (flat_map print_trailer ts))
trailers_run [] before held got x few =
    let a : before ≡ before + 0 = omega arith in
    let b : got ≡ got + 0 = omega arith in λ i. at (Trailer (a i) 0) held (b i)
trailers_run (t ∷ ts) before held got x few =
    let one = flat_map-cons print_trailer t ts in
    let len : length (flat_map print_trailer (t ∷ ts)) ≡ length (print_trailer t) + length (flat_map print_trailer ts) =
    ap (length {A = ℕ}) one ∙ length-append (print_trailer t) (flat_map print_trailer ts) in
    let a : before + length (print_trailer t) + length (flat_map print_trailer ts) ≡ before + length (flat_map print_trailer (t ∷ ts)) = omega (arith, len) in
    let b : got + length (print_trailer t) + length (flat_map print_trailer ts) ≡ got + length (flat_map print_trailer (t ∷ ts)) = omega (arith, len) in
    ap (run (at (Trailer before 0) held got)) one
    ∙ run-append (at (Trailer before 0) held got) (print_trailer t) (flat_map print_trailer ts)
    ∙ ap (λ c. run c (flat_map print_trailer ts)) (trailer_run t before held got (All-head IsTrailer t ts x) (omega (arith, few, len)))
    ∙ trailers_run ts (before + length (print_trailer t)) held (got + length (print_trailer t)) (All-tail IsTrailer t ts x) (omega (arith, few, len))
    ∙ (λ i. at (Trailer (a i) 0) held (b i))

last_end : (before : ℕ) (held : List ℕ) (got : ℕ) → run (at (Trailer before 0) held got) (print_end crlf) ≡ at Whole held (got + 1 + 1)
unfolding place_after
last_end before held got = refl

pub bodies_are_read : BodiesAreRead
unfolding print_body
bodies_are_read b x =
    let cs = flat_map print_chunk b.chunks in
    let l = print_chunk_line b.last in
    let ts = flat_map print_trailer b.trailers in
    let held = held_by b in
    let zero_size : after_size (chunk_size b.last) ≡ Trailer 0 0 = ap after_size x.last_size in
    let e : 0 + length cs + length l + length ts + 1 + 1 ≡ length (cs ++ l ++ ts ++ print_end crlf) =
    omega (arith, length-append (cs ++ l ++ ts) (print_end crlf), length-append (cs ++ l) ts, length-append cs l) in
    run-append (no_chunks 0) (cs ++ l ++ ts) (print_end crlf)
    ∙ ap (λ c. run c (print_end crlf)) (
    run-append (no_chunks 0) (cs ++ l) ts
    ∙ ap (λ c. run c ts) (
    run-append (no_chunks 0) cs l
    ∙ ap (λ c. run c l) (chunks_run b.chunks [] 0 x.chunks)
    ∙ line_run b.last held (0 + length cs) x.last
    ∙ (λ i. at (zero_size i) held (0 + length cs + length l)))
    ∙ trailers_run b.trailers 0 held (0 + length cs + length l) x.trailers (omega (arith, x.short)))
    ∙ last_end (0 + length ts) held (0 + length cs + length l + length ts)
    ∙ (λ i. at Whole held (e i))
