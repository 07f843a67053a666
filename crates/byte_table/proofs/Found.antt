-- What ordered maps find, with one string more.
use Rattle.std.proofs.Common.{◌≡◌, inl, inr, ◌⊎◌, ℕ, zero, suc, ◌+◌, ◌<◌, Bool, true, false, cond, List, [], ◌∷◌, ◌++◌, length, get_or, Option, Some, None, refl, sym, ap, subst, ◌∙◌, arith}
use Rattle.std.specs.Prelude.{slice_get, IfSome, IsSome, is_some, MatchOption, Vec}
use Rattle.std.specs.List.{list_any}
use Rattle.std.specs.Str.{bytes_eq}
use Rattle.std.specs.declared.cmp.Ordering.{Ordering}
use Rattle.std.specs.declared.cmp.Ordering.TheVariants.{Less, Equal, Greater}
use Rattle.std.specs.Ordering.{is_eq, nat_cmp}
use Rattle.std.specs.Cmp.Lexicographic.{slice_cmp, bytes_decides}
use Rattle.std.specs.Map.{lookup, IsKeyTest, AreApart, KeepsOthers}
use Rattle.std.specs.BTreeMap.{BTreeMap, Updates, get}
use Rattle.std.specs.Global.{Global}
use Rattle.std.proofs.lemmas.Cmp.{eq_by_cmp_equiv, nat_list_cmp_total, nat_list_eq_equiv}
use Rattle.std.proofs.lemmas.List.{length-append}
use Rattle.std.proofs.lemmas.Option.{get_or_from_slice_get}
use Rattle.std.proofs.lemmas.Map.Lookups.{exact_unsigned}
use Rattle.std.proofs.lemmas.Map.Text.{is_eq-slice_cmp}
use Rattle.byte_table.specs.declared.ordered.Ordered.{Ordered}
use Rattle.byte_table.specs.Hashes.{second_hash}
use Rattle.byte_table.specs.Finding.{first_at, other_at, IsFound, Finds}

-- ---- places

-- what stands at a place stays there
pub place_kept : (strings more : List (List ℕ)) (i : ℕ) (string : List ℕ) → slice_get strings i ≡ Some string → slice_get (strings ++ more) i ≡ Some string
place_kept [] more i string e = absurd cc
place_kept (s ∷ ss) more zero string e = e
place_kept (s ∷ ss) more (suc i) string e = place_kept ss more i string e

-- the new one stands behind all others
pub place_new : (strings : List (List ℕ)) (string : List ℕ) → slice_get (strings ++ string ∷ []) (length strings) ≡ Some string
place_new [] string = refl
place_new (s ∷ ss) string = place_new ss string

-- what stands at a place stood there, or is the new one
pub placed : (strings : List (List ℕ)) (new : List ℕ) (i : ℕ) (string : List ℕ) → slice_get (strings ++ new ∷ []) i ≡ Some string → (slice_get strings i ≡ Some string) ⊎ (string ≡ new)
placed [] new zero string e = inr cc
placed [] new (suc i) string e = absurd cc
placed (s ∷ ss) new zero string e = inl e
placed (s ∷ ss) new (suc i) string e = placed ss new i string e

-- a string that stands at no place is not among them
pub absent : (strings : List (List ℕ)) (string : List ℕ) → ((i : ℕ) → slice_get strings i ≡ Some string → ⊥) → list_any (bytes_eq string) strings ≡ false
absent [] string none = refl
absent (s ∷ ss) string none = rw (test (bytes_eq string s) refl) (absent ss string (λ i. none (suc i)))
  where
    test : (b : Bool) → bytes_eq string s ≡ b → b ≡ false
    test true e = absurd (none 0 (ap Some (sym ((bytes_decides string s).0 e))))
    test false e = refl

-- ---- look-ups

pub none_there : (o : Option ℕ) → is_some o ≡ false → o ≡ None
none_there None e = refl
none_there (Some a) e = absurd cc

weaker : (o : Option ℕ) {P Q : ℕ → Type 0} → ((a : ℕ) → P a → Q a) → IfSome o P → IfSome o Q
weaker None w p = tt
weaker (Some a) w p = w a p

-- a look-up that was changed at one key: there it finds the new number, and elsewhere what it found before
changed : (b : Bool) (at : ℕ) (old new : Option ℕ) {P Q : ℕ → Type 0} → new ≡ cond b (Some at) old → (b ≡ true → Q at) → ((a : ℕ) → P a → Q a) → IfSome old P → IfSome new Q
changed true at old new e here w p = rw e (here refl)
changed false at old new e here w p = rw e (weaker old w p)

weaker_there : (o : Option ℕ) {P Q : ℕ → Type 0} → ((a : ℕ) → P a → Q a) → MatchOption o ⊥ P → MatchOption o ⊥ Q
weaker_there None w p = p
weaker_there (Some a) w p = w a p

-- the same for a look-up that must find
changed_there : (b : Bool) (at : ℕ) (old new : Option ℕ) {P Q : ℕ → Type 0} → new ≡ cond b (Some at) old → (b ≡ true → old ≡ None) → ((a : ℕ) → P a → Q a) → MatchOption old ⊥ P → MatchOption new ⊥ Q
changed_there true at old new {P = P} e none w p = absurd (subst (λ (o : Option ℕ). MatchOption o ⊥ P) (none refl) p)
changed_there false at old new e none w p = rw e (weaker_there old w p)

some_kept : (b : Bool) (at : ℕ) (old new : Option ℕ) → new ≡ cond b (Some at) old → IsSome old → IsSome new
some_kept true at old new e s = rw e refl
some_kept false at old new e s = rw e s

same_number : (a b : ℕ) → is_eq (nat_cmp a b) ≡ true → a ≡ b
same_number a b e = exact_unsigned a b (equal (nat_cmp a b) e)
  where
    equal : (o : Ordering) → is_eq o ≡ true → o ≡ Equal
    equal Less e = absurd cc
    equal Equal e = refl
    equal Greater e = absurd cc

-- a string that was found is found still, where a hash that none had was given a place
first_kept : (o o' : Ordered) (strings : List (List ℕ)) (new string : List ℕ) (at : ℕ) → first_at o (second_hash new) ≡ None
    → ((hash : ℕ) → first_at o' hash ≡ cond (is_eq (nat_cmp (second_hash new) hash)) (Some at) (first_at o hash)) → o'.others ≡ o.others → IsFound o strings string → IsFound o' (strings ++ new ∷ []) string
first_kept o o' strings new string at none firsts others is =
    let hash = second_hash string in
    changed_there (is_eq (nat_cmp (second_hash new) hash)) at (first_at o hash) (first_at o' hash) (firsts hash)
    (λ t. ap (first_at o) (sym (same_number (second_hash new) hash t)) ∙ none)
    (λ a p. elim p [ inl here ↦ inl (place_kept strings (new ∷ []) a string here) | inr other ↦ inr (subst (λ (m : BTreeMap (Vec ℕ Global) ℕ). IsSome (other_at (record o { others = m }) string)) (sym others) other) ])
    is

-- the string is found whose hash was given its place
first_new : (o' : Ordered) (strings : List (List ℕ)) (new : List ℕ) (at : ℕ) → at ≡ length strings → first_at o' (second_hash new) ≡ Some at → IsFound o' (strings ++ new ∷ []) new
first_new o' strings new at k here = rw here (inl (ap (slice_get (strings ++ new ∷ [])) k ∙ place_new strings new))

-- a place is given to a hash that none had
pub found_first : (o o' : Ordered) (strings : List (List ℕ)) (new : List ℕ) (at : ℕ) → Finds o strings → at ≡ length strings → first_at o (second_hash new) ≡ None
    → ((hash : ℕ) → first_at o' hash ≡ cond (is_eq (nat_cmp (second_hash new) hash)) (Some at) (first_at o hash)) → first_at o' (second_hash new) ≡ Some at → o'.others ≡ o.others → Finds o' (strings ++ new ∷ [])
found_first o o' strings new at is k none firsts here others =
    let longer : length (strings ++ new ∷ []) ≡ length strings + 1 = length-append strings (new ∷ []) in
    record {
      first = λ hash. changed (is_eq (nat_cmp (second_hash new) hash)) at (first_at o hash) (first_at o' hash) (firsts hash) (λ t. omega arith) (λ a lt. omega arith) (is.first hash);
      other = λ s. rw others (weaker (other_at o s) (λ a e. place_kept strings (new ∷ []) a s e) (is.other s));
      each = λ i s e. elim (placed strings new i s e) [
        | inl old ↦ first_kept o o' strings new s at none firsts others (is.each i s old)
        | inr same ↦ subst (IsFound o' (strings ++ new ∷ [])) (sym same) (first_new o' strings new at k here)
      ];
    }

-- a string that was found is found still, where a string was given a place by its bytes
other_kept : (o o' : Ordered) (strings : List (List ℕ)) (new string : List ℕ) (at : ℕ)
    → ((s : List ℕ) → other_at o' s ≡ cond (bytes_eq new s) (Some at) (other_at o s)) → o'.firsts ≡ o.firsts → IsFound o strings string → IsFound o' (strings ++ new ∷ []) string
other_kept o o' strings new string at others firsts is =
    subst (λ (m : BTreeMap ℕ ℕ). MatchOption (get nat_cmp m (second_hash string)) ⊥ (λ a. (slice_get (strings ++ new ∷ []) a ≡ Some string) ⊎ IsSome (other_at o' string))) (sym firsts)
    (weaker_there (first_at o (second_hash string)) (λ a p. elim p [ inl here ↦ inl (place_kept strings (new ∷ []) a string here) | inr other ↦ inr (some_kept (bytes_eq new string) at (other_at o string) (other_at o' string) (others string) other) ]) is)

-- the string is found that was given its place by its bytes
other_new : (o o' : Ordered) (strings : List (List ℕ)) (new : List ℕ) (at : ℕ) → IsSome (first_at o (second_hash new)) → other_at o' new ≡ Some at → o'.firsts ≡ o.firsts → IsFound o' strings new
other_new o o' strings new at some here firsts =
    subst (λ (m : BTreeMap ℕ ℕ). MatchOption (get nat_cmp m (second_hash new)) ⊥ (λ a. (slice_get strings a ≡ Some new) ⊎ IsSome (other_at o' new))) (sym firsts)
    (there (first_at o (second_hash new)) some (rw here refl))
  where
    there : (f : Option ℕ) → IsSome f → IsSome (other_at o' new) → MatchOption f ⊥ (λ a. (slice_get strings a ≡ Some new) ⊎ IsSome (other_at o' new))
    there None s t = absurd cc
    there (Some a) s t = inr t

-- a place is given to a string by its bytes
pub found_other : (o o' : Ordered) (strings : List (List ℕ)) (new : List ℕ) (at : ℕ) → Finds o strings → at ≡ length strings → IsSome (first_at o (second_hash new))
    → ((s : List ℕ) → other_at o' s ≡ cond (bytes_eq new s) (Some at) (other_at o s)) → other_at o' new ≡ Some at → o'.firsts ≡ o.firsts → Finds o' (strings ++ new ∷ [])
found_other o o' strings new at is k some others here firsts =
    let longer : length (strings ++ new ∷ []) ≡ length strings + 1 = length-append strings (new ∷ []) in
    record {
      first = λ hash. rw firsts (weaker (first_at o hash) (λ a lt. omega arith) (is.first hash));
      other = λ s. changed (bytes_eq new s) at (other_at o s) (other_at o' s) (others s)
          (λ t. subst (λ (x : List ℕ). slice_get (strings ++ new ∷ []) at ≡ Some x) ((bytes_decides new s).0 t) (ap (slice_get (strings ++ new ∷ [])) k ∙ place_new strings new)) (λ a e. place_kept strings (new ∷ []) a s e) (is.other s);
      each = λ i s e. elim (placed strings new i s e) [
        | inl old ↦ other_kept o o' strings new s at others firsts (is.each i s old)
        | inr same ↦ subst (IsFound o' (strings ++ new ∷ [])) (sym same) (other_new o o' (strings ++ new ∷ []) new at some here firsts)
      ];
    }

-- ---- a map by bytes with a key more

apart : (a b k : List ℕ) → bytes_eq a b ≡ false → is_eq (slice_cmp nat_cmp a k) ≡ true → is_eq (slice_cmp nat_cmp b k) ≡ false
apart a b k n y = is_eq-slice_cmp b k ∙ (nat_list_eq_equiv.symm b k ∙ (sym (nat_list_eq_equiv.congr a k b (sym (is_eq-slice_cmp a k) ∙ y)) ∙ n))

other_entries : (old new : List (Vec ℕ Global × ℕ)) (eq : Vec ℕ Global → Vec ℕ Global → Bool) (test : Vec ℕ Global → Bool) → KeepsOthers eq test old new
    → (other : Vec ℕ Global → Bool) → IsKeyTest eq other → AreApart test other → lookup other new ≡ lookup other old
unfolding KeepsOthers
other_entries old new eq test h = h

-- at a key's bytes there is what was put in, and elsewhere what there was
pub other_after : (o o' : Ordered) (key : Vec ℕ Global) (at : ℕ) → Updates (λ (x y : Vec ℕ Global). slice_cmp nat_cmp x.items y.items) o.others o'.others key (Some at)
    → (string : List ℕ) → other_at o' string ≡ cond (bytes_eq key.items string) (Some at) (other_at o string)
other_after o o' key at h string = test (bytes_eq key.items string) refl
  where
    test : (b : Bool) → bytes_eq key.items string ≡ b → other_at o' string ≡ cond b (Some at) (other_at o string)
    test true e = subst (λ (s : List ℕ). other_at o' s ≡ Some at) ((bytes_decides key.items string).0 e) h.1
    test false e = other_entries o.others.entries o'.others.entries _ _ h.3 _ (λ x y. (eq_by_cmp_equiv nat_list_cmp_total).congr string x.items y.items) (λ k. apart key.items string k.items e)

-- ---- maps that find the same

pub found_same : (o o' : Ordered) (strings : List (List ℕ)) → ((hash : ℕ) → first_at o' hash ≡ first_at o hash) → ((string : List ℕ) → other_at o' string ≡ other_at o string) → Finds o strings → Finds o' strings
found_same o o' strings firsts others is = record {
  first = λ hash. rw (firsts hash) (is.first hash);
  other = λ string. rw (others string) (is.other string);
  each = λ i string e. rw (firsts (second_hash string), others string) (is.each i string e);
}

-- ---- what a look-up answers

-- none has the string's hash
pub no_first : (o : Ordered) (strings : List (List ℕ)) (string : List ℕ) → Finds o strings → first_at o (second_hash string) ≡ None → list_any (bytes_eq string) strings ≡ false
no_first o strings string is none = absent strings string (λ i e. subst (λ (f : Option ℕ). MatchOption f ⊥ (λ a. (slice_get strings a ≡ Some string) ⊎ IsSome (other_at o string))) none (is.each i string e))

-- the one that has it is another, and none of the others is this one
pub no_other : (o : Ordered) (strings : List (List ℕ)) (string : List ℕ) (at : ℕ) → Finds o strings → first_at o (second_hash string) ≡ Some at → bytes_eq string (get_or strings at []) ≡ false
    → other_at o string ≡ None → list_any (bytes_eq string) strings ≡ false
no_other o strings string at is first differs none = absent strings string (λ i e.
    elim (subst (λ (f : Option ℕ). MatchOption f ⊥ (λ a. (slice_get strings a ≡ Some string) ⊎ IsSome (other_at o string))) first (is.each i string e)) [
      | inl here ↦ (let same : get_or strings at [] ≡ string = get_or_from_slice_get strings at string [] here in let t : bytes_eq string (get_or strings at []) ≡ true = (bytes_decides string (get_or strings at [])).1 (sym same) in absurd cc)
      | inr there ↦ (let some : is_some (other_at o string) ≡ true = there in let no : is_some (other_at o string) ≡ false = ap is_some none in absurd cc)
    ])

-- the place of a hash is within
pub first_within : (o : Ordered) (strings : List (List ℕ)) (hash at : ℕ) → Finds o strings → first_at o hash ≡ Some at → at < length strings
first_within o strings hash at is e = subst (λ (f : Option ℕ). IfSome f (λ a. a < length strings)) e (is.first hash)

-- at the place of a string it stands
pub other_there : (o : Ordered) (strings : List (List ℕ)) (string : List ℕ) (at : ℕ) → Finds o strings → other_at o string ≡ Some at → slice_get strings at ≡ Some string
other_there o strings string at is e = subst (λ (f : Option ℕ). IfSome f (λ a. slice_get strings a ≡ Some string)) e (is.other string)
