-- Bytes that are taken and given in steps, where the outside tells them.
use Rattle.std.proofs.Common.{◌≡◌, ◌≢◌, ℕ, ◌+◌, ◌-◌, ◌<◌, List, [], ◌++◌, length, take, drop, Option, Some, None, Result, Ok, Err, OnErr, refl, sym, ap, ◌∙◌, append_assoc, append-nil, arith, length-take, length-drop}
use Rattle.std.specs.Io.KnownBytes.{Appends, Consumes, Keeps}
use Rattle.std.proofs.lemmas.List.{take_rest, take-append-drop}
use Rattle.std.proofs.Math.Seq.{take-add}
use Rattle.bridge_ports.specs.Writing.{WroteFront}

-- what holds anyway holds at an error
pub at_error : {T E : Type 0} (r : Result T E) (P : Type 0) → P → OnErr r P
at_error (Ok x) P p = tt
at_error (Err e) P p = p

-- nothing grows
pub appends_none : (held : Option (List ℕ)) → Appends held held []
appends_none None = tt
appends_none (Some bytes) = sym (append-nil bytes)

-- bytes that grow and then stay
pub appends_keeps : (a b c : Option (List ℕ)) (xs : List ℕ) → Appends a b xs → Keeps b c → Appends a c xs
appends_keeps None b c xs grown kept = tt
appends_keeps (Some us) None c xs grown kept = absurd grown
appends_keeps (Some us) (Some bs) None xs grown kept = absurd kept
appends_keeps (Some us) (Some bs) (Some cs) xs grown kept = kept ∙ grown

-- bytes that grow twice
pub appends_twice : (a b c : Option (List ℕ)) (xs ys : List ℕ) → Appends a b xs → Appends b c ys → Appends a c (xs ++ ys)
appends_twice None b c xs ys first second = tt
appends_twice (Some us) None c xs ys first second = absurd first
appends_twice (Some us) (Some bs) None xs ys first second = absurd second
appends_twice (Some us) (Some bs) (Some cs) xs ys first second = second ∙ ap (λ zs. zs ++ ys) first ∙ append_assoc us xs ys

-- a text was written, and a front of what follows
pub front_behind : (a b c : Option (List ℕ)) (text piece : List ℕ) → Appends a b text → WroteFront b c piece → WroteFront a c (text ++ piece)
front_behind a b c text piece first front = record {
  front = text ++ front.front;
  rest = front.rest;
  text = ap (λ (l : List ℕ). text ++ l) front.text ∙ sym (append_assoc text front.front front.rest);
  some_left = front.some_left;
  written = appends_twice a b c text front.front first front.written;
}

-- a front was written, and then a write failed
pub front_written : (a b c : Option (List ℕ)) (at : ℕ) (text : List ℕ) → at < length text → Appends a b (take at text) → Keeps b c → WroteFront a c text
front_written a b c at text inside grown kept = record {
  front = take at text;
  rest = drop at text;
  text = sym (take-append-drop at text);
  some_left = λ none. let e : length (drop at text) ≡ 0 = ap (length {A = ℕ}) none in omega (arith, e, length-drop at text);
  written = appends_keeps a b c (take at text) grown kept;
}

-- one more piece of the text was written
pub more_written : (a b c : Option (List ℕ)) (at count : ℕ) (text : List ℕ) → Appends a b (take at text) → Appends b c (take count (take (length text - at) (drop at text))) → Appends a c (take (at + count) text)
more_written a b c at count text first second =
    rw (take-add at count text) (appends_twice a b c (take at text) (take count (drop at text)) first (rw (take_rest text at) at second))

-- a write of a piece that is not empty takes some of it
pub some_written : (at count : ℕ) (text : List ℕ) → at < length text → (count ≡ 0 → take (length text - at) (drop at text) ≡ []) → at + count ≢ 0
some_written at count text inside progress none =
    let e : length (take (length text - at) (drop at text)) ≡ 0 = ap (length {A = ℕ}) (progress (omega arith)) in
    omega (arith, e, length-take (length text - at) (drop at text), length-drop at text)

-- nothing is taken of what stays
pub consumes_none : (left : Option (List ℕ)) → Consumes left left []
consumes_none None = tt
consumes_none (Some bytes) = refl

-- bytes that are taken twice
pub consumes_twice : (a b c : Option (List ℕ)) (xs ys : List ℕ) → Consumes a b xs → Consumes b c ys → Consumes a c (xs ++ ys)
consumes_twice None b c xs ys first second = tt
consumes_twice (Some us) None c xs ys first second = absurd first
consumes_twice (Some us) (Some bs) None xs ys first second = absurd second
consumes_twice (Some us) (Some bs) (Some cs) xs ys first second = first ∙ ap (λ zs. xs ++ zs) second ∙ sym (append_assoc xs ys cs)

-- bytes that are taken and then stay
pub consumes_keeps : (a b c : Option (List ℕ)) (xs : List ℕ) → Consumes a b xs → Keeps b c → Consumes a c xs
consumes_keeps None b c xs taken kept = tt
consumes_keeps (Some us) None c xs taken kept = absurd taken
consumes_keeps (Some us) (Some bs) None xs taken kept = absurd kept
consumes_keeps (Some us) (Some bs) (Some cs) xs taken kept = taken ∙ ap (λ zs. xs ++ zs) (sym kept)
