-- Chains lead to every string of a bucket, the nearest first.
use Rattle.std.proofs.Common.{◌≡◌, ◌≢◌, inl, inr, ℕ, zero, suc, ◌+◌, ◌-◌, ◌%◌, ◌<◌, ◌≤◌, true, false, List, [], ◌∷◌, ◌++◌, length, map, get_or, Some, refl, sym, ap, subst, ◌∙◌, arith}
use Rattle.std.specs.Prelude.{slice_index, slice_get}
use Rattle.std.specs.List.{list_any}
use Rattle.std.specs.Str.{bytes_eq}
use Rattle.std.specs.Cmp.Lexicographic.{bytes_decides}
use Rattle.std.proofs.lemmas.Bool.{cases_lt, cases_eq, false_from_ne_true}
use Rattle.std.proofs.lemmas.List.{get_or_append_left, get_or-map, map-append, length-append, length-map, get_or_at}
use Rattle.std.proofs.lemmas.Option.{slice_get-get_or}
use Rattle.byte_table.specs.Hashes.{hash_of}
use Rattle.byte_table.specs.Links.{IsLink, AreLinked, IsChained, IsPassed, LinksOneMore}

-- ---- links

-- what is said of the first hashes is said of them with more behind
link_kept : (size : ℕ) (hashes more : List ℕ) (bucket before link : ℕ) → before ≤ length hashes → IsLink size hashes bucket before link → IsLink size (hashes ++ more) bucket before link
link_kept size hashes more bucket before link n is = record {
  within = is.within;
  at = λ p. (let w : link ≤ before = is.within in let lt : link - 1 < length hashes = omega arith in ap (λ (x : ℕ). x % size) (get_or_append_left hashes more 0 (link - 1) lt) ∙ is.at p);
  none = λ j a b e. (let lt : j < length hashes = omega arith in is.none j a b (ap (λ (x : ℕ). x % size) (sym (get_or_append_left hashes more 0 j lt)) ∙ e));
}

pub linked_kept : (size : ℕ) (hashes more nexts heads : List ℕ) (count : ℕ) → count ≤ length hashes → AreLinked size hashes nexts heads count → AreLinked size (hashes ++ more) nexts heads count
linked_kept size hashes more nexts heads count n is = record {
  buckets = λ b lt. link_kept size hashes more b count (slice_index heads b) n (is.buckets b lt);
  each = λ i lt. (let w : i < length hashes = omega arith in let m : i ≤ length hashes = omega arith in
      subst (λ (x : ℕ). IsLink size (hashes ++ more) (x % size) i (slice_index nexts i)) (sym (get_or_append_left hashes more 0 i w)) (link_kept size hashes more (slice_index hashes i % size) i (slice_index nexts i) m (is.each i lt)));
}

-- the hash at a place is that of the string there
pub hash_at : (strings : List (List ℕ)) (at : ℕ) → at < length strings → slice_index (map hash_of strings) at ≡ hash_of (get_or strings at [])
hash_at strings at lt = get_or-map hash_of strings at [] 0 lt

-- ---- along a chain

-- on the way along a chain: the string before is one of the bucket, and none from here on is the one that is sought
pub record IsOnWay (strings : List (List ℕ)) (size : ℕ) (string : List ℕ) (hash at : ℕ) : Type 0 where
  pub within : at ≤ length strings
  pub place : 0 < at → slice_index (map hash_of strings) (at - 1) % size ≡ hash % size
  pub passed : IsPassed strings string at

-- a string of another bucket is another one
other_bucket : (strings : List (List ℕ)) (size : ℕ) (string : List ℕ) (hash j : ℕ) → hash ≡ hash_of string → j < length strings
    → slice_index (map hash_of strings) j % size ≢ hash % size → bytes_eq string (get_or strings j []) ≡ false
other_bucket strings size string hash j he lt ne = false_from_ne_true _
    (λ same. ne (ap (λ (x : ℕ). x % size) (hash_at strings j lt ∙ (ap hash_of (sym ((bytes_decides string (get_or strings j [])).0 same)) ∙ sym he))))

-- the way begins at the bucket's last string
pub way_begins : (strings : List (List ℕ)) (heads nexts : List ℕ) (string : List ℕ) (hash : ℕ) → IsChained strings heads nexts → hash ≡ hash_of string → 0 < length heads
    → IsOnWay strings (length heads) string hash (slice_index heads (hash % length heads))
way_begins strings heads nexts string hash is he some =
    let size = length heads in
    let lt : hash % size < size = omega arith in
    let link : IsLink size (map hash_of strings) (hash % size) (length strings) (slice_index heads (hash % size)) = is.linked.buckets (hash % size) lt in
    record {
      within = link.within;
      place = link.at;
      passed = λ j a n. other_bucket strings size string hash j he n (link.none j a n);
    }

after : (j at : ℕ) → at - 1 ≤ j → (j ≡ at - 1 → ⊥) → at ≤ j
after j at a n = elim (cases_lt j at) [ inl lt ↦ absurd (n (omega arith)) | inr le ↦ le ]

-- the way goes on to the next string of the bucket, where this one is another
pub way_goes_on : (strings : List (List ℕ)) (heads nexts : List ℕ) (string : List ℕ) (hash at : ℕ) → IsChained strings heads nexts → hash ≡ hash_of string
    → 0 < at → IsOnWay strings (length heads) string hash at → bytes_eq string (get_or strings (at - 1) []) ≡ false
    → IsOnWay strings (length heads) string hash (slice_index nexts (at - 1))
way_goes_on strings heads nexts string hash at is he some way other =
    let size = length heads in
    let w : at ≤ length strings = way.within in
    let lt : at - 1 < length strings = omega arith in
    let link : IsLink size (map hash_of strings) (slice_index (map hash_of strings) (at - 1) % size) (at - 1) (slice_index nexts (at - 1)) = is.linked.each (at - 1) lt in
    let bucket : slice_index (map hash_of strings) (at - 1) % size ≡ hash % size = way.place some in
    let l : slice_index nexts (at - 1) ≤ at - 1 = link.within in
    record {
      within = omega arith;
      place = λ p. link.at p ∙ bucket;
      passed = λ j a jl. elim (cases_lt j (at - 1)) [
        | inl below ↦ other_bucket strings size string hash j he jl (λ q. link.none j a below (q ∙ sym bucket))
        | inr above ↦ elim (cases_eq j (at - 1)) [
          | inl here ↦ subst (λ (i : ℕ). bytes_eq string (get_or strings i []) ≡ false) (sym here) other
          | inr past ↦ way.passed j (after j at above past) jl
        ]
      ];
    }

-- no string is this one
none_is : (strings : List (List ℕ)) (string : List ℕ) → IsPassed strings string 0 → list_any (bytes_eq string) strings ≡ false
none_is [] string p = refl
none_is (s ∷ ss) string p = rw (p 0 (omega arith) (omega arith)) (none_is ss string (λ j a lt. p (suc j) (omega arith) (omega arith)))

-- at the end of the way no string is this one
pub way_ends : (strings : List (List ℕ)) (size : ℕ) (string : List ℕ) (hash at : ℕ) → at ≤ 0 → IsOnWay strings size string hash at → list_any (bytes_eq string) strings ≡ false
way_ends strings size string hash zero z way = none_is strings string way.passed
way_ends strings size string hash (suc at) z way = absurd (omega arith)

-- where there is no bucket there is no string
pub no_bucket : (strings : List (List ℕ)) (heads nexts string : List ℕ) → IsChained strings heads nexts → length heads ≡ 0 → list_any (bytes_eq string) strings ≡ false
no_bucket strings heads nexts string is none =
    let same : length heads ≡ length nexts = is.same in
    let room : length strings ≤ length nexts = is.room in
    none_is strings string (λ j a lt. absurd (omega arith))

-- the string that was met is this one
pub one_is : (strings : List (List ℕ)) (string : List ℕ) (at : ℕ) → at < length strings → bytes_eq string (get_or strings at []) ≡ true → slice_get strings at ≡ Some string
one_is strings string at lt same = slice_get-get_or strings at [] lt ∙ ap Some (sym ((bytes_decides string (get_or strings at [])).0 same))

-- ---- one string more

-- the chains with one string more
pub one_more : (strings strings' : List (List ℕ)) (string : List ℕ) (hash count : ℕ) (heads nexts heads' nexts' : List ℕ) → IsChained strings heads nexts → length strings < length nexts
    → strings' ≡ strings ++ string ∷ [] → hash ≡ hash_of string → count ≡ length strings → LinksOneMore hash count heads nexts heads' nexts' → length heads' ≡ length heads → length nexts' ≡ length nexts
    → IsChained strings' heads' nexts'
one_more strings strings' string hash count heads nexts heads' nexts' is room more he k link lh ln =
    let hs : map hash_of strings' ≡ map hash_of strings ++ hash_of string ∷ [] = ap (map hash_of) more ∙ map-append hash_of strings (string ∷ []) in
    let long : length (map hash_of strings) ≡ count = length-map strings hash_of ∙ sym k in
    let here : slice_index (map hash_of strings') count ≡ hash = ap (λ (l : List ℕ). slice_index l count) hs ∙ (get_or_at (map hash_of strings) (hash_of string) [] 0 count long ∙ sym he) in
    let before : AreLinked (length heads) (map hash_of strings) nexts heads count = subst (AreLinked (length heads) (map hash_of strings) nexts heads) (sym k) is.linked in
    let few : count ≤ length (map hash_of strings) = omega arith in
    let kept : AreLinked (length heads) (map hash_of strings ++ hash_of string ∷ []) nexts heads count = linked_kept (length heads) (map hash_of strings) (hash_of string ∷ []) nexts heads count few before in
    let done : AreLinked (length heads) (map hash_of strings') nexts' heads' (count + 1) = link (map hash_of strings') here (rw hs kept) in
    let all : length strings' ≡ count + 1 = ap length more ∙ (length-append strings (string ∷ []) ∙ ap (λ (x : ℕ). x + 1) (sym k)) in
    record {
      same = lh ∙ (is.same ∙ sym ln);
      room = omega arith;
      linked = subst (λ (x : ℕ). AreLinked x (map hash_of strings') nexts' heads' (length strings')) (sym lh) (subst (AreLinked (length heads) (map hash_of strings') nexts' heads') (sym all) done);
    }
