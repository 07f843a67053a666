-- Steps over quoted values and escaped texts.
use Rattle.std.proofs.Common.{◌≡◌, ◌≢◌, ℕ, zero, suc, ◌+◌, ◌-◌, ◌<◌, ◌≤◌, Bool, true, false, List, [], ◌∷◌, ◌++◌, length, take, drop, get_or, Option, Some, None, refl, sym, ap, subst, ◌∙◌, arith, append_assoc, add-one}
use Rattle.std.specs.List.{list_any}
use Rattle.std.specs.Prelude.{◌==◌, MatchOption}
use Rattle.std.proofs.lemmas.Bool.Decides.{nat_tests}
use Rattle.std.proofs.lemmas.Grind.{common_steps}
use Rattle.std.proofs.lemmas.List.{append-nil, drop-drop, drop_all, take_all, length-drop, length-take}
use Rattle.std.proofs.Math.Seq.{take-add, drop-cons}
use Rattle.label_sets.specs.Escapes.{is_quote, is_backslash, quoted_at, unescaped}
use Rattle.line_scan.specs.Marks.{behind_front, step_over, is_mark, HasNoMark, IsFirstMark}
use Rattle.std.proofs.lemmas.List.Folds.{list_any_more, list_any_at}
use Rattle.std.proofs.lemmas.Bool.{or_parts}
use Rattle.memchr.specs.Find.{TakesFirst, is_byte2, places, places_from}

front_front : (xs ys : List ℕ) (o : Option (List ℕ × List ℕ)) → behind_front xs (behind_front ys o) ≡ behind_front (xs ++ ys) o
front_front xs ys None = refl
front_front xs ys (Some x) = ap (λ (l : List ℕ). Some (l, x.1)) (sym (append_assoc xs ys x.0))

pub front_nothing : (o : Option (List ℕ × List ℕ)) → o ≡ behind_front [] o
front_nothing None = refl
front_nothing (Some x) = refl

-- one step over a byte that is no quote
pub step_front : (bytes : List ℕ) → 0 < length bytes → is_quote (get_or bytes 0 0) ≡ false
    → quoted_at bytes ≡ behind_front (take (step_over (get_or bytes 0 0)) bytes) (quoted_at (drop (step_over (get_or bytes 0 0)) bytes))
step_front [] some plain = absurd (omega arith)
step_front (c ∷ []) some plain = go (is_backslash c) refl
  where
    go : (b : Bool) → is_backslash c ≡ b → quoted_at (c ∷ []) ≡ behind_front (take (step_over c) (c ∷ [])) (quoted_at (drop (step_over c) (c ∷ [])))
    go true e = rw (plain, e) refl
    go false e = rw (plain, e) refl
step_front (c ∷ d ∷ cs) some plain = go (is_backslash c) refl
  where
    go : (b : Bool) → is_backslash c ≡ b → quoted_at (c ∷ d ∷ cs) ≡ behind_front (take (step_over c) (c ∷ d ∷ cs)) (quoted_at (drop (step_over c) (c ∷ d ∷ cs)))
    go true e = rw (plain, e) refl
    go false e = rw (plain, e) refl

take-take_on : (m n : ℕ) (bs : List ℕ) → take m bs ++ take n (drop m bs) ≡ take (m + n) bs
take-take_on m n bs = sym (take-add m n bs)

quote_first : (xs ys : List ℕ) → behind_front xs (quoted_at (34 ∷ ys)) ≡ Some (xs, ys)
quote_first xs [] = rw append-nil refl
quote_first xs (y ∷ ys) = rw append-nil refl

-- the same behind what was passed
pub step_on : (bytes : List ℕ) (at : ℕ) → at < length bytes → is_quote (get_or bytes at 0) ≡ false → quoted_at bytes ≡ behind_front (take at bytes) (quoted_at (drop at bytes))
    → quoted_at bytes ≡ behind_front (take (at + step_over (get_or bytes at 0)) bytes) (quoted_at (drop (at + step_over (get_or bytes at 0)) bytes))
step_on bytes at within plain h =
    let rest = drop at bytes in
    let first : get_or rest 0 0 ≡ get_or bytes at 0 = grind (arith, common_steps) in
    let step = step_front rest (omega (arith, length-drop at bytes)) (rw first plain) in
    let step_here = rw first at step in
    h ∙ ap (behind_front (take at bytes)) step_here ∙ front_front (take at bytes) (take (step_over (get_or bytes at 0)) rest) (quoted_at (drop (step_over (get_or bytes at 0)) rest))
    ∙ rw (take-take_on at (step_over (get_or bytes at 0)) bytes, drop-drop (step_over (get_or bytes at 0)) at bytes) refl

-- the quote is there
pub quote_here : (bytes : List ℕ) (at : ℕ) → at < length bytes → get_or bytes at 0 ≡ 34 → quoted_at bytes ≡ behind_front (take at bytes) (quoted_at (drop at bytes))
    → quoted_at bytes ≡ Some (take at bytes, drop (at + 1) bytes)
quote_here bytes at within is h = h ∙ rw (drop-cons bytes at 0 within, is) (quote_first (take at bytes) (drop (suc at) bytes) ∙ ap (λ n. Some (take at bytes, drop n bytes)) (sym (add-one at)))

-- no quote is there
pub quote_nowhere : (bytes : List ℕ) (at : ℕ) → length bytes ≤ at → quoted_at bytes ≡ behind_front (take at bytes) (quoted_at (drop at bytes)) → quoted_at bytes ≡ None
quote_nowhere bytes at past h = h ∙ rw (drop_all at bytes past) refl

-- ---- marks

-- a byte more that is no mark
unmarked_on : (bytes : List ℕ) (n : ℕ) → n < length bytes → HasNoMark (take n bytes) → is_mark (get_or bytes n 0) ≡ false → HasNoMark (take (n + 1) bytes)
unmarked_on bytes n within h plain = list_any_more is_mark bytes n 0 within ∙ rw (h, plain) refl

-- the places of marks from a place on, where none stands in front of it
marks-none : (bytes : List ℕ) (i n : ℕ) → i + n ≤ length bytes → HasNoMark (take i bytes) → places_from (is_byte2 34 92) bytes i n ≡ [] → HasNoMark (take (i + n) bytes)
unfolding places_from
marks-none bytes i zero within h e = rw (let same : i + 0 ≡ i = omega arith in same) h
marks-none bytes i (suc n) within h e = go (is_mark (get_or bytes i 0)) refl (λ plain k. marks-none bytes (i + 1) n (omega arith) (unmarked_on bytes i (omega arith) h plain) k)
  where
    go : (b : Bool) → is_mark (get_or bytes i 0) ≡ b
        → (is_mark (get_or bytes i 0) ≡ false → places_from (is_byte2 34 92) bytes (i + 1) n ≡ [] → HasNoMark (take (i + 1 + n) bytes)) → HasNoMark (take (i + suc n) bytes)
    go true is on = let k = rw is at e in absurd cc
    go false is on = let same : i + suc n ≡ i + 1 + n = omega arith in rw same (on is (rw is at e))

marks-first : (bytes : List ℕ) (i n at : ℕ) (more : List ℕ) → i + n ≤ length bytes → HasNoMark (take i bytes) → places_from (is_byte2 34 92) bytes i n ≡ at ∷ more → IsFirstMark bytes at
unfolding places_from
marks-first bytes i zero at more within h e = absurd cc
marks-first bytes i (suc n) at more within h e = go (is_mark (get_or bytes i 0)) refl (λ plain k. marks-first bytes (i + 1) n at more (omega arith) (unmarked_on bytes i (omega arith) h plain) k)
  where
    go : (b : Bool) → is_mark (get_or bytes i 0) ≡ b
        → (is_mark (get_or bytes i 0) ≡ false → places_from (is_byte2 34 92) bytes (i + 1) n ≡ at ∷ more → IsFirstMark bytes at) → IsFirstMark bytes at
    go true is on =
        let k = rw is at e in
        let here : i ≡ at = cc in
        subst (IsFirstMark bytes) here (record { within = omega arith; mark = is; before = h })
    go false is on = on is (rw is at e)

whole : (n : ℕ) → n - 0 ≡ n
whole n = omega arith

no_mark : (bytes : List ℕ) → places (is_byte2 34 92) bytes ≡ [] → HasNoMark bytes
no_mark bytes e =
    let all : take (0 + length bytes) bytes ≡ bytes = take_all (0 + length bytes) bytes (omega arith) in
    rw all at (marks-none bytes 0 (length bytes) (omega arith) refl (rw (whole (length bytes)) at e))

first_mark : (bytes : List ℕ) (at : ℕ) (more : List ℕ) → places (is_byte2 34 92) bytes ≡ at ∷ more → IsFirstMark bytes at
first_mark bytes at more e = marks-first bytes 0 (length bytes) at more (omega arith) refl (rw (whole (length bytes)) at e)

pub mark_found : (bytes left : List ℕ) (found : Option ℕ) → TakesFirst (places (is_byte2 34 92) bytes) found left → MatchOption found (HasNoMark bytes) (IsFirstMark bytes)
mark_found bytes left None h = no_mark bytes h.0
mark_found bytes left (Some at) h = first_mark bytes at left h

-- in front of the marks nothing is quoted
pub unmarked_front : (bytes : List ℕ) (n : ℕ) → n ≤ length bytes → HasNoMark (take n bytes) → quoted_at bytes ≡ behind_front (take n bytes) (quoted_at (drop n bytes))
unmarked_front bytes zero within h = front_nothing (quoted_at bytes)
unmarked_front bytes (suc n) within h =
    let parts = or_parts (list_any is_mark (take n bytes)) (is_mark (get_or bytes n 0)) (sym (list_any_more is_mark bytes n 0 (omega arith)) ∙ ap (λ k. list_any is_mark (take k bytes)) (add-one n) ∙ h) in
    let kinds = or_parts (get_or bytes n 0 == 34) (get_or bytes n 0 == 92) parts.1 in
    let step = step_on bytes n (omega arith) kinds.0 (unmarked_front bytes n (omega arith) parts.0) in
    let one : step_over (get_or bytes n 0) ≡ 1 = rw kinds.1 refl in
    let there : n + 1 ≡ suc n = add-one n in
    rw (one, there) at step

pub unmarked : (bytes : List ℕ) → HasNoMark bytes → quoted_at bytes ≡ None
unmarked bytes h =
    let all : take (length bytes) bytes ≡ bytes = take_all (length bytes) bytes (omega arith) in
    quote_nowhere bytes (length bytes) (omega arith) (unmarked_front bytes (length bytes) (omega arith) (rw all h))

-- bytes without marks have no backslash
pub no_backslash : (bytes : List ℕ) → HasNoMark bytes → list_any is_backslash bytes ≡ false
no_backslash [] h = refl
no_backslash (c ∷ cs) h =
    let parts = or_parts (is_mark c) (list_any is_mark cs) h in
    let kinds = or_parts (c == 34) (c == 92) parts.0 in
    rw (kinds.1, no_backslash cs parts.1) refl

-- a backslash in front of a place
pub backslash_before : (bytes : List ℕ) (start at : ℕ) → start < at → at ≤ length bytes → get_or bytes start 0 ≡ 92 → list_any is_backslash (take at bytes) ≡ true
backslash_before bytes start at before within is =
    let there : get_or (take at bytes) start 0 ≡ get_or bytes start 0 = grind (arith, common_steps) in
    list_any_at is_backslash (take at bytes) start 0 (omega (arith, length-take at bytes)) (rw (there, is) refl)

-- a mark that is no backslash
pub mark_quote : (c : ℕ) → is_mark c ≡ true → c ≢ 92 → c ≡ 34
mark_quote c h other = grind (arith, nat_tests)

-- a text without a backslash stands for itself
pub no_escape : (escape : ℕ → Option ℕ) (written : List ℕ) → list_any is_backslash written ≡ false → unescaped escape written ≡ written
no_escape escape [] h = refl
no_escape escape (c ∷ []) h = refl
no_escape escape (c ∷ d ∷ cs) h =
    let parts = or_parts (is_backslash c) (list_any is_backslash (d ∷ cs)) h in
    rw parts.0 (ap (λ (l : List ℕ). c ∷ l) (no_escape escape (d ∷ cs) parts.1))

-- ---- for the calls

pub other_byte : (c n : ℕ) → c ≢ n → (c == n) ≡ false
other_byte c n h = grind (arith, nat_tests)

pub step_small : (c : ℕ) → step_over c ≤ 2
step_small c = go (is_backslash c) refl
  where
    go : (b : Bool) → is_backslash c ≡ b → step_over c ≤ 2
    go true e = rw e (omega arith)
    go false e = rw e (omega arith)

-- what is written from a place on
pub tail_slice : (n : ℕ) (xs : List ℕ) → n ≤ length xs → take (length xs - n) (drop n xs) ≡ drop n xs
tail_slice n xs h = take_all (length xs - n) (drop n xs) (omega (arith, length-drop n xs))
