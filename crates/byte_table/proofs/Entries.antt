-- Strings stay where more are put behind them.
use Rattle.std.proofs.Common.{◌≡◌, ℕ, ◌+◌, ◌-◌, ◌<◌, ◌≤◌, ◌^◌, Bool, true, false, List, [], ◌∷◌, ◌++◌, length, take, drop, refl, sym, ap, ◌∙◌, arith, Result}
use Rattle.std.specs.Prelude.{OnErr, Ok, Err}
use Rattle.std.specs.List.{AllByRecursion}
use Rattle.std.specs.Str.{bytes_eq}
use Rattle.std.specs.Cmp.Lexicographic.{bytes_decides}
use Rattle.std.proofs.lemmas.List.{map-append, length-append, length-drop, drop-append-le, take-append-le, drop_at, take_all}
use Rattle.std.proofs.lemmas.List.Elements.{All-push, All-weaker, recursion_from_All}
use Rattle.byte_table.specs.declared.strings.Entry.{Entry}
use Rattle.byte_table.specs.Hashes.{hash_of}
use Rattle.byte_table.specs.Entries.{bytes_of, strings_of, IsEntry, AreEntries}

-- an entry's bytes stay
pub bytes_kept : (bytes more : List ℕ) (e : Entry) → e.start ≤ e.end → e.end ≤ length bytes → bytes_of (bytes ++ more) e ≡ bytes_of bytes e
bytes_kept bytes more e o w =
    let s : e.start ≤ length bytes = omega arith in
    let n : e.end - e.start ≤ length (drop e.start bytes) = let l : length (drop e.start bytes) ≡ length bytes - e.start = length-drop e.start bytes in omega arith in
    ap (take (e.end - e.start)) (drop-append-le e.start bytes more s) ∙ take-append-le (e.end - e.start) (drop e.start bytes) more n

-- an entry stays one
pub entry_kept : (bytes more : List ℕ) (e : Entry) → IsEntry bytes e → IsEntry (bytes ++ more) e
entry_kept bytes more e is = record {
  ordered = is.ordered;
  within = let l : length (bytes ++ more) ≡ length bytes + length more = length-append bytes more in let w : e.end ≤ length bytes = is.within in omega arith;
  hash = is.hash ∙ ap hash_of (sym (bytes_kept bytes more e is.ordered is.within));
}

strings_kept_by : (bytes more : List ℕ) (es : List Entry) → AllByRecursion (IsEntry bytes) es → strings_of (bytes ++ more) es ≡ strings_of bytes es
strings_kept_by bytes more [] is = refl
strings_kept_by bytes more (e ∷ es) is = rw (bytes_kept bytes more e is.0.ordered is.0.within) (ap (λ (ss : List (List ℕ)). bytes_of bytes e ∷ ss) (strings_kept_by bytes more es is.1))

-- the strings of all entries stay
pub strings_kept : (bytes more : List ℕ) (es : List Entry) → AreEntries bytes es → strings_of (bytes ++ more) es ≡ strings_of bytes es
strings_kept bytes more es is = strings_kept_by bytes more es (recursion_from_All (IsEntry bytes) es is.each)

-- the entries stay
pub entries_kept : (bytes more : List ℕ) (es : List Entry) → AreEntries bytes es → AreEntries (bytes ++ more) es
entries_kept bytes more es is = record { each = All-weaker (IsEntry bytes) (IsEntry (bytes ++ more)) (entry_kept bytes more) es is.each; few = is.few }

-- an entry of a string that is put behind all others
pub record IsBehind (bytes string : List ℕ) (e : Entry) : Type 0 where
  pub start : e.start ≡ length bytes
  pub end : e.end ≡ length bytes + length string
  pub hash : e.hash ≡ hash_of string

-- the bytes of an entry that was put behind all others
pub bytes_new : (bytes string : List ℕ) (e : Entry) → IsBehind bytes string e → bytes_of (bytes ++ string) e ≡ string
bytes_new bytes string e is =
    let start : e.start ≡ length bytes = is.start in
    let end : e.end ≡ length bytes + length string = is.end in
    let d : drop e.start (bytes ++ string) ≡ string = drop_at bytes string e.start (sym start) in
    let l : length string ≤ e.end - e.start = omega arith in
    ap (take (e.end - e.start)) d ∙ take_all (e.end - e.start) string l

-- the entries with one more
pub entries_more : (bytes string : List ℕ) (es : List Entry) (e : Entry) → AreEntries bytes es → IsBehind bytes string e → length es + 1 < 2 ^ 32 → AreEntries (bytes ++ string) (es ++ e ∷ [])
entries_more bytes string es e is behind few = record {
  each = All-push (IsEntry (bytes ++ string)) es e (entries_kept bytes string es is).each (record {
    ordered = let start : e.start ≡ length bytes = behind.start in let end : e.end ≡ length bytes + length string = behind.end in omega arith;
    within = let l : length (bytes ++ string) ≡ length bytes + length string = length-append bytes string in let end : e.end ≡ length bytes + length string = behind.end in omega arith;
    hash = behind.hash ∙ ap hash_of (sym (bytes_new bytes string e behind));
  });
  few = let l : length (es ++ e ∷ []) ≡ length es + 1 = length-append es (e ∷ []) in omega arith;
}

-- the strings with one more
pub strings_more : (bytes string : List ℕ) (es : List Entry) (e : Entry) → AreEntries bytes es → IsBehind bytes string e → strings_of (bytes ++ string) (es ++ e ∷ []) ≡ strings_of bytes es ++ string ∷ []
strings_more bytes string es e is behind =
    map-append (bytes_of (bytes ++ string)) es (e ∷ []) ∙ (ap (λ (ss : List (List ℕ)). ss ++ bytes_of (bytes ++ string) e ∷ []) (strings_kept bytes string es is) ∙ ap (λ (b : List ℕ). strings_of bytes es ++ b ∷ []) (bytes_new bytes string e behind))

-- an entry with another hash has another string
pub other_hash : (bytes string : List ℕ) (hash : ℕ) (e : Entry) → IsEntry bytes e → hash ≡ hash_of string → (e.hash ≡ hash → ⊥) → bytes_eq string (bytes_of bytes e) ≡ false
other_hash bytes string hash e is he ne = test (bytes_eq string (bytes_of bytes e)) refl
  where
    test : (b : Bool) → bytes_eq string (bytes_of bytes e) ≡ b → b ≡ false
    test false q = refl
    test true q = absurd (ne (is.hash ∙ (ap hash_of (sym ((bytes_decides string (bytes_of bytes e)).0 q)) ∙ sym he)))

-- the strings where bytes were put behind, and no entry
pub bytes_alone : (bytes bytes' string : List ℕ) (es es' : List Entry) → AreEntries bytes es → bytes' ≡ bytes ++ string → es' ≡ es → strings_of bytes' es' ≡ strings_of bytes es
bytes_alone bytes bytes' string es es' is b m = rw (b, m) (strings_kept bytes string es is)

-- the strings where both were
pub both_pushed : (bytes bytes' string : List ℕ) (es es' : List Entry) (e : Entry) → AreEntries bytes es → bytes' ≡ bytes ++ string → es' ≡ es ++ e ∷ [] → IsBehind bytes string e → strings_of bytes' es' ≡ strings_of bytes es ++ string ∷ []
both_pushed bytes bytes' string es es' e is b m behind = rw (b, m) (strings_more bytes string es e is behind)

pub still_entries : (bytes bytes' string : List ℕ) (es es' : List Entry) (e : Entry) → AreEntries bytes es → bytes' ≡ bytes ++ string → es' ≡ es ++ e ∷ [] → IsBehind bytes string e → length es + 1 < 2 ^ 32 → AreEntries bytes' es'
still_entries bytes bytes' string es es' e is b m behind few = rw (b, m) (entries_more bytes string es e is behind few)

-- what holds anyway holds of a failure
pub on_err : {A E : Type 0} {P : Type 0} (r : Result A E) → P → OnErr r P
on_err (Ok u) p = tt
on_err (Err u) p = p
