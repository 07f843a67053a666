-- What stands in front of the last line feed, and behind it, as bytes come.
use Rattle.std.proofs.Common.{◌≡◌, ℕ, Bool, true, false, List, [], ◌∷◌, ◌++◌, ◌⊎◌, inl, inr, ◌↔◌, refl, sym, ap, subst, ◌∙◌, arith, length, length-append}
use Rattle.std.specs.List.{slice_split, onto_first}
use Rattle.std.proofs.lemmas.List.{append-nil, append_assoc}
use Rattle.std.proofs.lemmas.List.Elements.{All-nil, All-cons, All-head, All-tail, All-append}
use Rattle.std.proofs.lemmas.Bool.Decides.{nat_tests}
use Rattle.std.proofs.lemmas.List.Splits.{slice_split_none, slice_split_at}
use Rattle.page_lines.specs.Lines.{is_line_feed, Plain, without_empty_last, lines_of, but_last, last_piece, ended_lines, open_line, ends_clean}

pieces_some : (page : List ℕ) → (first : List ℕ) × (rest : List (List ℕ)) × (slice_split is_line_feed page ≡ first ∷ rest)
pieces_some [] = ([], [], refl)
pieces_some (c ∷ cs) = go (is_line_feed c) refl (pieces_some cs)
  where
    go : (b : Bool) → is_line_feed c ≡ b → (first : List ℕ) × (rest : List (List ℕ)) × (slice_split is_line_feed cs ≡ first ∷ rest)
        → (first : List ℕ) × (rest : List (List ℕ)) × (slice_split is_line_feed (c ∷ cs) ≡ first ∷ rest)
    go true e p = ([], slice_split is_line_feed cs, rw e refl)
    go false e p = (c ∷ p.0, p.1, rw (e, p.2) refl)

but_last-push : (xs : List (List ℕ)) (y : List ℕ) → but_last (xs ++ y ∷ []) ≡ xs
but_last-push [] y = refl
but_last-push (x ∷ []) y = refl
but_last-push (x ∷ x' ∷ xs) y = ap (λ ps. x ∷ ps) (but_last-push (x' ∷ xs) y)

last_piece-push : (xs : List (List ℕ)) (y : List ℕ) → last_piece (xs ++ y ∷ []) ≡ y
last_piece-push [] y = refl
last_piece-push (x ∷ []) y = refl
last_piece-push (x ∷ x' ∷ xs) y = last_piece-push (x' ∷ xs) y

-- the pieces of a page that goes on are its ended lines, and those of its open line that goes on
pub split-more : (a more : List ℕ) → slice_split is_line_feed (a ++ more) ≡ ended_lines a ++ slice_split is_line_feed (open_line a ++ more)
unfolding ended_lines open_line
split-more [] more = refl
split-more (c ∷ cs) more = go (is_line_feed c) refl (pieces_some cs) (split-more cs more)
  where
    on : (first : List ℕ) (rest : List (List ℕ)) → is_line_feed c ≡ false → slice_split is_line_feed (cs ++ more) ≡ but_last (first ∷ rest) ++ slice_split is_line_feed (last_piece (first ∷ rest) ++ more)
        → onto_first c (slice_split is_line_feed (cs ++ more)) ≡ but_last ((c ∷ first) ∷ rest) ++ slice_split is_line_feed (last_piece ((c ∷ first) ∷ rest) ++ more)
    on first [] e ih = rw (ih, e) refl
    on first (r ∷ rs) e ih = rw ih refl

    go : (b : Bool) → is_line_feed c ≡ b → (first : List ℕ) × (rest : List (List ℕ)) × (slice_split is_line_feed cs ≡ first ∷ rest)
        → slice_split is_line_feed (cs ++ more) ≡ but_last (slice_split is_line_feed cs) ++ slice_split is_line_feed (last_piece (slice_split is_line_feed cs) ++ more)
        → slice_split is_line_feed (c ∷ cs ++ more) ≡ but_last (slice_split is_line_feed (c ∷ cs)) ++ slice_split is_line_feed (last_piece (slice_split is_line_feed (c ∷ cs)) ++ more)
    go true e p ih =
        let ih' : slice_split is_line_feed (cs ++ more) ≡ but_last (p.0 ∷ p.1) ++ slice_split is_line_feed (last_piece (p.0 ∷ p.1) ++ more) = rw p.2 at ih in
        rw (e, p.2, ih') refl
    go false e p ih =
        let ih' : slice_split is_line_feed (cs ++ more) ≡ but_last (p.0 ∷ p.1) ++ slice_split is_line_feed (last_piece (p.0 ∷ p.1) ++ more) = rw p.2 at ih in
        rw (e, p.2) (on p.0 p.1 e ih')

-- the open line has no line feed
pub open_line-plain : (a : List ℕ) → Plain (open_line a)
unfolding open_line
open_line-plain [] = All-nil _
open_line-plain (c ∷ cs) = go (is_line_feed c) refl (pieces_some cs) (open_line-plain cs)
  where
    on : (first : List ℕ) (rest : List (List ℕ)) → is_line_feed c ≡ false → Plain (last_piece (first ∷ rest)) → Plain (last_piece ((c ∷ first) ∷ rest))
    on first [] e ih = All-cons (λ b. is_line_feed b ≡ false) c first e ih
    on first (r ∷ rs) e ih = ih

    go : (b : Bool) → is_line_feed c ≡ b → (first : List ℕ) × (rest : List (List ℕ)) × (slice_split is_line_feed cs ≡ first ∷ rest)
        → Plain (last_piece (slice_split is_line_feed cs)) → Plain (last_piece (slice_split is_line_feed (c ∷ cs)))
    go true e p ih =
        let ih' : Plain (last_piece (p.0 ∷ p.1)) = subst (λ ps. Plain (last_piece ps)) p.2 ih in
        subst (λ ps. Plain (last_piece ps)) (sym split) ih'
      where
        split : slice_split is_line_feed (c ∷ cs) ≡ [] ∷ p.0 ∷ p.1
        split = rw (e, p.2) refl
    go false e p ih =
        let ih' : Plain (last_piece (p.0 ∷ p.1)) = subst (λ ps. Plain (last_piece ps)) p.2 ih in
        subst (λ ps. Plain (last_piece ps)) (sym split) (on p.0 p.1 e ih')
      where
        split : slice_split is_line_feed (c ∷ cs) ≡ (c ∷ p.0) ∷ p.1
        split = rw (e, p.2) refl

-- ---- one line feed more, and bytes that are none

split-feed : (a : List ℕ) → slice_split is_line_feed (a ++ 10 ∷ []) ≡ (ended_lines a ++ open_line a ∷ []) ++ [] ∷ []
split-feed a =
    split-more a (10 ∷ [])
    ∙ ap (λ ps. ended_lines a ++ ps) (slice_split_at is_line_feed (open_line a) 10 [] (open_line-plain a) refl)
    ∙ sym (append_assoc (ended_lines a) (open_line a ∷ []) ([] ∷ []))

split-plain : (a b : List ℕ) → Plain b → slice_split is_line_feed (a ++ b) ≡ ended_lines a ++ (open_line a ++ b) ∷ []
split-plain a b plain =
    split-more a b
    ∙ ap (λ ps. ended_lines a ++ ps) (slice_split_none is_line_feed (open_line a ++ b) (All-append (λ x. is_line_feed x ≡ false) _ _ (open_line-plain a) plain))

pub ended-feed : (a : List ℕ) → ended_lines (a ++ 10 ∷ []) ≡ ended_lines a ++ open_line a ∷ []
ended-feed a =
    let e : ended_lines (a ++ 10 ∷ []) ≡ but_last ((ended_lines a ++ open_line a ∷ []) ++ [] ∷ []) = unfold ended_lines in ap but_last (split-feed a) in
    e ∙ but_last-push (ended_lines a ++ open_line a ∷ []) []

pub open-feed : (a : List ℕ) → open_line (a ++ 10 ∷ []) ≡ []
open-feed a =
    let e : open_line (a ++ 10 ∷ []) ≡ last_piece ((ended_lines a ++ open_line a ∷ []) ++ [] ∷ []) = unfold open_line in ap last_piece (split-feed a) in
    e ∙ last_piece-push (ended_lines a ++ open_line a ∷ []) []

pub ended-plain : (a b : List ℕ) → Plain b → ended_lines (a ++ b) ≡ ended_lines a
ended-plain a b plain =
    let e : ended_lines (a ++ b) ≡ but_last (ended_lines a ++ (open_line a ++ b) ∷ []) = unfold ended_lines in ap but_last (split-plain a b plain) in
    e ∙ but_last-push (ended_lines a) (open_line a ++ b)

pub open-plain : (a b : List ℕ) → Plain b → open_line (a ++ b) ≡ open_line a ++ b
open-plain a b plain =
    let e : open_line (a ++ b) ≡ last_piece (ended_lines a ++ (open_line a ++ b) ∷ []) = unfold open_line in ap last_piece (split-plain a b plain) in
    e ∙ last_piece-push (ended_lines a) (open_line a ++ b)

-- ---- a page that goes on

-- bytes without a line feed stand at the front of the first piece
split-onto : (xs more first : List ℕ) (rest : List (List ℕ)) → Plain xs → slice_split is_line_feed more ≡ first ∷ rest
    → slice_split is_line_feed (xs ++ more) ≡ (xs ++ first) ∷ rest
split-onto [] more first rest plain e = e
split-onto (x ∷ xs) more first rest plain e =
    let here : is_line_feed x ≡ false = All-head (λ c. is_line_feed c ≡ false) x xs plain in
    let there : slice_split is_line_feed (xs ++ more) ≡ (xs ++ first) ∷ rest = split-onto xs more first rest (All-tail (λ c. is_line_feed c ≡ false) x xs plain) e in
    rw (here, there) refl

but_last-append : (xs : List (List ℕ)) (y : List ℕ) (ys : List (List ℕ)) → but_last (xs ++ y ∷ ys) ≡ xs ++ but_last (y ∷ ys)
but_last-append [] y ys = refl
but_last-append (x ∷ []) y ys = refl
but_last-append (x ∷ x' ∷ xs) y ys = ap (λ ps. x ∷ ps) (but_last-append (x' ∷ xs) y ys)

last_piece-append : (xs : List (List ℕ)) (y : List ℕ) (ys : List (List ℕ)) → last_piece (xs ++ y ∷ ys) ≡ last_piece (y ∷ ys)
last_piece-append [] y ys = refl
last_piece-append (x ∷ []) y ys = refl
last_piece-append (x ∷ x' ∷ xs) y ys = last_piece-append (x' ∷ xs) y ys

ended-is : (a : List ℕ) → ended_lines a ≡ but_last (slice_split is_line_feed a)
unfolding ended_lines
ended-is a = refl

open-is : (a : List ℕ) → open_line a ≡ last_piece (slice_split is_line_feed a)
unfolding open_line
open-is a = refl

pub ended-more : (a more : List ℕ) → ended_lines (a ++ more) ≡ ended_lines a ++ ended_lines (open_line a ++ more)
ended-more a more =
    let p = pieces_some (open_line a ++ more) in
    let rest : ended_lines (open_line a ++ more) ≡ but_last (p.0 ∷ p.1) = ended-is (open_line a ++ more) ∙ ap but_last p.2 in
    ended-is (a ++ more) ∙ ap but_last (split-more a more ∙ ap (λ ps. ended_lines a ++ ps) p.2) ∙ but_last-append (ended_lines a) p.0 p.1 ∙ ap (λ ps. ended_lines a ++ ps) (sym rest)

pub open-more : (a more : List ℕ) → open_line (a ++ more) ≡ open_line (open_line a ++ more)
open-more a more =
    let p = pieces_some (open_line a ++ more) in
    let rest : open_line (open_line a ++ more) ≡ last_piece (p.0 ∷ p.1) = open-is (open_line a ++ more) ∙ ap last_piece p.2 in
    open-is (a ++ more) ∙ ap last_piece (split-more a more ∙ ap (λ ps. ended_lines a ++ ps) p.2) ∙ last_piece-append (ended_lines a) p.0 p.1 ∙ sym rest

-- an open line that goes on is the front of the first ended line, or is open still
pub open-goes_on : (xs more : List ℕ) → Plain xs
    → ((rest : List ℕ) × (others : List (List ℕ)) × (ended_lines (xs ++ more) ≡ (xs ++ rest) ∷ others))
    ⊎ ((rest : List ℕ) × (ended_lines (xs ++ more) ≡ []) × (open_line (xs ++ more) ≡ xs ++ rest))
unfolding ended_lines open_line
open-goes_on xs more plain = go (pieces_some more)
  where
    go : (first : List ℕ) × (rest : List (List ℕ)) × (slice_split is_line_feed more ≡ first ∷ rest)
        → ((rest : List ℕ) × (others : List (List ℕ)) × (but_last (slice_split is_line_feed (xs ++ more)) ≡ (xs ++ rest) ∷ others))
        ⊎ ((rest : List ℕ) × (but_last (slice_split is_line_feed (xs ++ more)) ≡ []) × (last_piece (slice_split is_line_feed (xs ++ more)) ≡ xs ++ rest))
    go (first, [], e) = let s = split-onto xs more first [] plain e in inr (first, ap but_last s, ap last_piece s)
    go (first, r ∷ rs, e) = let s = split-onto xs more first (r ∷ rs) plain e in inl (first, but_last (r ∷ rs), ap but_last s)

-- ---- the lines of a page that goes on

without_last-cons : (piece next : List ℕ) (rest : List (List ℕ)) → without_empty_last (piece ∷ next ∷ rest) ≡ piece ∷ without_empty_last (next ∷ rest)
without_last-cons [] next rest = refl
without_last-cons (c ∷ cs) next rest = refl

without_last-append : (front : List (List ℕ)) (first : List ℕ) (rest : List (List ℕ)) → without_empty_last (front ++ first ∷ rest) ≡ front ++ without_empty_last (first ∷ rest)
without_last-append [] first rest = refl
without_last-append (piece ∷ []) first rest = without_last-cons piece first rest
without_last-append (piece ∷ next ∷ front) first rest =
    without_last-cons piece next (front ++ first ∷ rest) ∙ ap (λ ps. piece ∷ ps) (without_last-append (next ∷ front) first rest)

-- the lines of a page that goes on are its ended lines, and those of its open line that goes on
pub lines_of-more : (a more : List ℕ) → lines_of (a ++ more) ≡ ended_lines a ++ lines_of (open_line a ++ more)
unfolding lines_of
lines_of-more a more =
    let p = pieces_some (open_line a ++ more) in
    ap without_empty_last (split-more a more ∙ ap (λ ps. ended_lines a ++ ps) p.2)
    ∙ without_last-append (ended_lines a) p.0 p.1
    ∙ ap (λ ps. ended_lines a ++ without_empty_last ps) (sym p.2)

-- a page that goes on behind an open line has a line that begins with that
pub lines_of-open : (c : ℕ) (cs more : List ℕ) → Plain (c ∷ cs)
    → (rest : List ℕ) × (others : List (List ℕ)) × (lines_of ((c ∷ cs) ++ more) ≡ ((c ∷ cs) ++ rest) ∷ others)
unfolding lines_of
lines_of-open c cs more plain =
    let p = pieces_some more in
    (p.0, without_empty_last p.1, ap without_empty_last (split-onto (c ∷ cs) more p.0 p.1 plain p.2))

-- the lines of a page that ends here
pub lines_of-end : (a : List ℕ) → lines_of a ≡ ended_lines a ++ without_empty_last (open_line a ∷ [])
unfolding lines_of
lines_of-end a =
    ap without_empty_last (ap (slice_split is_line_feed) (sym (append-nil a)) ∙ split-plain a [] (All-nil (λ c. is_line_feed c ≡ false)) ∙ ap (λ l. ended_lines a ++ l ∷ []) (append-nil (open_line a)))
    ∙ without_last-append (ended_lines a) (open_line a) []

-- ---- whether a page ends with a line feed

ends_clean-push : (a : List ℕ) (b : ℕ) → ends_clean (a ++ b ∷ []) ≡ is_line_feed b
unfolding ends_clean
ends_clean-push [] b = refl
ends_clean-push (c ∷ []) b = refl
ends_clean-push (c ∷ d ∷ a) b = ends_clean-push (d ∷ a) b

last_apart : (page : List ℕ) → (page ≡ []) ⊎ ((a : List ℕ) × (b : ℕ) × (page ≡ a ++ b ∷ []))
last_apart [] = inl refl
last_apart (c ∷ cs) = inr (go (last_apart cs))
  where
    go : (cs ≡ []) ⊎ ((a : List ℕ) × (b : ℕ) × (cs ≡ a ++ b ∷ [])) → (a : List ℕ) × (b : ℕ) × (c ∷ cs ≡ a ++ b ∷ [])
    go (inl e) = ([], c, ap (λ l. c ∷ l) e)
    go (inr p) = (c ∷ p.0, p.1, ap (λ l. c ∷ l) p.2)

clean-nil : (ends_clean [] ≡ true) ↔ (open_line [] ≡ [])
unfolding ends_clean open_line
clean-nil = (λ _. refl, λ _. refl)

pub clean-none : (page : List ℕ) → (ends_clean page ≡ true) ↔ (open_line page ≡ [])
clean-none page = go (last_apart page)
  where
    at_last : (a : List ℕ) (b : ℕ) (t : Bool) → is_line_feed b ≡ t → (is_line_feed b ≡ true) ↔ (open_line (a ++ b ∷ []) ≡ [])
    at_last a b true e = (λ _. (let ten : b ≡ 10 = grind (arith, nat_tests) in rw ten (open-feed a)), λ _. e)
    at_last a b false e =
        let grown : open_line (a ++ b ∷ []) ≡ open_line a ++ b ∷ [] = open-plain a (b ∷ []) (All-cons (λ c. is_line_feed c ≡ false) b [] e (All-nil _)) in
        (λ yes. absurd (cc), λ none. absurd (let n : length (open_line a ++ b ∷ []) ≡ 0 = ap length (sym grown ∙ none) in omega (arith, simp length-append at n)))

    go : (page ≡ []) ⊎ ((a : List ℕ) × (b : ℕ) × (page ≡ a ++ b ∷ [])) → (ends_clean page ≡ true) ↔ (open_line page ≡ [])
    go (inl e) = subst (λ l. (ends_clean l ≡ true) ↔ (open_line l ≡ [])) (sym e) clean-nil
    go (inr p) =
        let at : (ends_clean (p.0 ++ p.1 ∷ []) ≡ true) ↔ (open_line (p.0 ++ p.1 ∷ []) ≡ []) = rw ends_clean-push (at_last p.0 p.1 (is_line_feed p.1) refl) in
        subst (λ l. (ends_clean l ≡ true) ↔ (open_line l ≡ [])) (sym p.2) at
