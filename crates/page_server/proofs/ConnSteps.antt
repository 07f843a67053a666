-- Bytes taken behind others, and bytes written behind others.
use Rattle.std.proofs.Common.{◌≡◌, ℕ, ◌+◌, ◌-◌, ◌≤◌, List, [], ◌++◌, length, take, drop, Ok, Err, sym, ap, ◌∙◌, subst, arith, append-nil}
use Rattle.std.specs.Io.KnownBytes.{Consumes, Appends}
use Rattle.std.proofs.lemmas.List.{length-take, length-drop, take-append-drop, take_all}
use borrow.Rule.Slice.PartMut.{put_mid}
use Rattle.bridge_ports.proofs.Laws.{appends_keeps, appends_twice, consumes_twice}
use Rattle.http_talk.proofs.Laws.{take_past, got_front}
use Rattle.bridge_ports.specs.Causes.{Rose}
use Rattle.bridge_ports.specs.Connections.{ConnSeen, IsHeard, IsSaid, WereTaken, WereWritten, WereCutOff}

-- ---- reading

-- a read behind others
pub more_taken : {E : Type 0} (buffer into after : List ℕ) (filled room count : ℕ) (old mid new : ConnSeen) → filled ≤ length buffer → count ≤ length into → after ≡ take (filled + count) (put_mid filled room buffer into)
    → WereTaken old mid (take filled buffer) → IsHeard {E = E} mid new (Ok count) into → WereTaken old new after
more_taken buffer into after filled room count old mid new within few is before heard = record {
  left = subst (λ bytes. Consumes old.left new.left bytes) (sym (is ∙ got_front buffer into filled room count within few)) (consumes_twice old.left mid.left new.left (take filled buffer) (take count into) before.left heard.bytes.0);
  reads = heard.cause.kept ∙ before.reads;
  held = heard.held ∙ before.held;
  writes = heard.writes ∙ before.writes;
}

-- a read that found the end
pub end_taken : {E : Type 0} (into got : List ℕ) (old mid new : ConnSeen) → WereTaken old mid got → IsHeard {E = E} mid new (Ok 0) into → WereTaken old new got
end_taken into got old mid new before heard = record {
  left = subst (λ bytes. Consumes old.left new.left bytes) (append-nil got) (consumes_twice old.left mid.left new.left got [] before.left heard.bytes.0);
  reads = heard.cause.kept ∙ before.reads;
  held = heard.held ∙ before.held;
  writes = heard.writes ∙ before.writes;
}

-- ---- writing

-- the bytes from a place on
rest_from : (text : List ℕ) (at count : ℕ) → at ≤ length text → count ≤ length (take (length text - at) (drop at text)) → take at text ++ take count (take (length text - at) (drop at text)) ≡ take (at + count) text
rest_from text at count within few =
    let all : take (length text - at) (drop at text) ≡ drop at text = take_all (length text - at) (drop at text) (omega (arith, length-drop at text)) in
    let left : at + count - length (take at text) ≡ count = omega (arith, within, length-take at text) in
    ap (λ xs. take at text ++ take count xs) all
    ∙ sym (ap (λ xs. take (at + count) xs) (sym (take-append-drop at text)) ∙ take_past (take at text) (drop at text) (at + count) (omega (arith, within, length-take at text)) ∙ ap (λ n. take at text ++ take n (drop at text)) left)

pub more_written : {E : Type 0} (text : List ℕ) (at count : ℕ) (old mid new : ConnSeen) → at ≤ length text → count ≤ length (take (length text - at) (drop at text))
    → WereWritten old mid (take at text) → IsSaid {E = E} mid new (Ok count) (take (length text - at) (drop at text)) → WereWritten old new (take (at + count) text)
more_written text at count old mid new within few before said = record {
  held = subst (λ bytes. Appends old.held new.held bytes) (rest_from text at count within few)
      (appends_twice old.held mid.held new.held (take at text) (take count (take (length text - at) (drop at text))) before.held said.bytes);
  writes = said.cause.kept ∙ before.writes;
  left = said.left ∙ before.left;
  reads = said.reads ∙ before.reads;
}

pub cut_off_at : {E : Type 0} (fault : E) (text piece : List ℕ) (at : ℕ) (old mid new : ConnSeen) → WereWritten old mid (take at text) → IsSaid mid new (Err fault) piece → WereCutOff old new text
cut_off_at fault text piece at old mid new before said = record {
  front = take at text;
  rest = drop at text;
  bytes_are = sym (take-append-drop at text);
  held = appends_keeps old.held mid.held new.held (take at text) before.held said.bytes;
  rose = subst (λ n. Rose n new.write_faults) before.writes said.cause.failed;
  left = said.left ∙ before.left;
  reads = said.reads ∙ before.reads;
}
