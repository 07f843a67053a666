-- Items of lines without a fault are those of a text: their lines, each ended by a line feed.
use Rattle.std.proofs.Common.{◌≡◌, ℕ, suc, ◌+◌, Bool, true, false, List, [], ◌∷◌, ◌++◌, length, Option, Some, None, refl, sym, ap, subst, ◌∙◌, append_assoc, arith}
use Rattle.std.specs.Option.{option_or, option_map}
use Rattle.std.specs.List.{fold, flat_map, slice_split}
use Rattle.std.proofs.lemmas.List.{append-nil}
use Rattle.std.proofs.lemmas.List.Elements.{All-tail}
use Rattle.std.proofs.lemmas.Grind.{flat_map-append}
use Rattle.page_lines.specs.Lines.{is_line_feed, Plain, without_empty_last, lines_of, ends_clean}
use Rattle.page_model.specs.declared.format.Format.{Format}
use Rattle.page_model.specs.declared.item.Item.{Item}
use Rattle.page_model.specs.Written.{Setting, item_of}
use Rattle.page_model.specs.Faults.{Line, Fault, own_fault, item_fault, line_fault, end_fault, lines_fault, with_line, with_lines, fault_from, fault_of}
use Rattle.page_model.specs.Readings.{page_of}
use Rattle.page_model.specs.Pages.{AreLines, items_of, IsItemOfLine, AreItemsOfLines, AreFaultless, IsPageOf, IsPageRead}
use Rattle.page_model.proofs.Prefixes.{fault_from-append}
use Rattle.page_model.proofs.RightPages.{text_is_right}

-- ---- lines that are each ended by a line feed

-- the text of these lines
unfoldable ended : List (List ℕ) → List ℕ
ended pieces = flat_map (λ piece. piece ++ 10 ∷ []) pieces

-- each has no line feed
abbrev ArePlain : List (List ℕ) → Type 0
ArePlain [] = Unit {0}
ArePlain (piece ∷ pieces) = Plain piece × ArePlain pieces

first_plain : (c : ℕ) (cs : List ℕ) → Plain (c ∷ cs) → is_line_feed c ≡ false
first_plain c cs p = p 0 0 (omega arith)

split_plain : (piece more : List ℕ) → Plain piece → slice_split is_line_feed (piece ++ 10 ∷ more) ≡ piece ∷ slice_split is_line_feed more
split_plain [] more p = refl
split_plain (c ∷ cs) more p = rw (first_plain c cs p, split_plain cs more (All-tail (λ c. is_line_feed c ≡ false) c cs p)) refl

split_ended : (pieces : List (List ℕ)) → ArePlain pieces → slice_split is_line_feed (ended pieces) ≡ pieces ++ [] ∷ []
unfolding ended
split_ended [] p = refl
split_ended (piece ∷ pieces) p =
    let regrouped : ended (piece ∷ pieces) ≡ piece ++ 10 ∷ ended pieces = append_assoc piece (10 ∷ []) (ended pieces) in
    ap (slice_split is_line_feed) regrouped ∙ split_plain piece (ended pieces) p.0 ∙ ap (λ ps. piece ∷ ps) (split_ended pieces p.1)

without_last : (pieces : List (List ℕ)) → without_empty_last (pieces ++ [] ∷ []) ≡ pieces
without_last [] = refl
without_last ([] ∷ []) = refl
without_last ((c ∷ cs) ∷ []) = refl
without_last ([] ∷ q ∷ pieces) = ap (λ ps. [] ∷ ps) (without_last (q ∷ pieces))
without_last ((c ∷ cs) ∷ q ∷ pieces) = ap (λ ps. (c ∷ cs) ∷ ps) (without_last (q ∷ pieces))

lines_of-ended : (pieces : List (List ℕ)) → ArePlain pieces → lines_of (ended pieces) ≡ pieces
unfolding lines_of
lines_of-ended pieces p = ap without_empty_last (split_ended pieces p) ∙ without_last pieces

clean_more : (c : ℕ) (cs : List ℕ) (d : ℕ) → ends_clean (c ∷ (cs ++ d ∷ [])) ≡ ends_clean (cs ++ d ∷ [])
unfolding ends_clean
clean_more c [] d = refl
clean_more c (e ∷ cs) d = refl

clean_piece : (piece : List ℕ) → ends_clean (piece ++ 10 ∷ []) ≡ true
unfolding ends_clean
clean_piece [] = refl
clean_piece (c ∷ cs) = clean_more c cs 10 ∙ clean_piece cs

clean_before : (front : List ℕ) (c : ℕ) (more : List ℕ) → ends_clean (front ++ c ∷ more) ≡ ends_clean (c ∷ more)
unfolding ends_clean
clean_before [] c more = refl
clean_before (d ∷ []) c more = refl
clean_before (d ∷ e ∷ front) c more = clean_before (e ∷ front) c more

clean_append : (a b : List ℕ) → ends_clean a ≡ true → ends_clean b ≡ true → ends_clean (a ++ b) ≡ true
clean_append a [] p q = ap ends_clean (append-nil a) ∙ p
clean_append a (c ∷ b) p q = clean_before a c b ∙ q

clean_ended : (pieces : List (List ℕ)) → ends_clean (ended pieces) ≡ true
unfolding ended ends_clean
clean_ended [] = refl
clean_ended (piece ∷ pieces) = clean_append (piece ++ 10 ∷ []) (ended pieces) (clean_piece piece) (clean_ended pieces)

-- ---- lists of lines that grow at their end

option_or-none : {A : Type 0} (o p : Option A) → o ≡ None → p ≡ None → option_or o p ≡ None
option_or-none o p e f = rw (e, f) refl

lines_fault-append : (st : Setting) (earlier : List Item) (n : ℕ) (ls ms : List Line)
    → lines_fault st earlier n ls ≡ None → lines_fault st (with_lines st.format ls earlier) (n + length ls) ms ≡ None → lines_fault st earlier n (ls ++ ms) ≡ None
unfolding lines_fault with_lines
lines_fault-append st earlier n [] ms e f = ap (λ k. lines_fault st earlier k ms) (let h : n ≡ n + 0 = omega arith in h) ∙ f
lines_fault-append st earlier n (l ∷ ls) ms e f =
    let parts = both_none (option_map (λ rule. (n, rule)) (line_fault st earlier l)) (lines_fault st (with_line st.format l earlier) (n + 1) ls) e in
    let number : n + suc (length ls) ≡ n + 1 + length ls = omega arith in
    option_or-none (option_map (λ rule. (n, rule)) (line_fault st earlier l)) (lines_fault st (with_line st.format l earlier) (n + 1) (ls ++ ms)) parts.0
    (lines_fault-append st (with_line st.format l earlier) (n + 1) ls ms parts.1 (subst (λ k. lines_fault st (with_lines st.format ls (with_line st.format l earlier)) k ms ≡ None) number f))
  where
    both_none : (o p : Option Fault) → option_or o p ≡ None → (o ≡ None) × (p ≡ None)
    both_none None p e = (refl, e)
    both_none (Some x) p e = absurd (let h : Some x ≡ None = e in cc)

with_lines-append : (f : Format) (ls ms : List Line) (earlier : List Item) → with_lines f (ls ++ ms) earlier ≡ with_lines f ms (with_lines f ls earlier)
unfolding with_lines
with_lines-append f [] ms earlier = refl
with_lines-append f (l ∷ ls) ms earlier = with_lines-append f ls ms (with_line f l earlier)

folded : (f : Format) (ls : List Line) (earlier : List Item) → fold (λ above l. with_line f l above) earlier ls ≡ with_lines f ls earlier
unfolding with_lines
folded f [] earlier = refl
folded f (l ∷ ls) earlier = folded f ls (with_line f l earlier)

are_lines-append : (f : Format) (ps qs : List (List ℕ)) (ls ms : List Line) → AreLines f ps ls → AreLines f qs ms → AreLines f (ps ++ qs) (ls ++ ms)
are_lines-append f [] qs [] ms a b = b
are_lines-append f [] qs (l ∷ ls) ms a b = absurd a
are_lines-append f (p ∷ ps) qs [] ms a b = absurd a
are_lines-append f (p ∷ ps) qs (l ∷ ls) ms a b = (a.0, a.1, are_lines-append f ps qs ls ms a.2 b)

plain-append : (ps qs : List (List ℕ)) → ArePlain ps → ArePlain qs → ArePlain (ps ++ qs)
plain-append [] qs a b = b
plain-append (p ∷ ps) qs a b = (a.0, plain-append ps qs a.1 b)

-- ---- the text of items

-- lines that spell these items and break no rule; the text is theirs
pub record Made (st : Setting) (items : List Item) (text : List ℕ) : Type 0 where
  pieces : List (List ℕ)
  lines : List Line
  text_is : text ≡ ended pieces
  plain : ArePlain pieces
  are_lines : AreLines st.format pieces lines
  without_fault : lines_fault st [] 1 lines ≡ None
  items_are : with_lines st.format lines [] ≡ items

one_line_none : (st : Setting) (earlier : List Item) (n : ℕ) (l : Line) → line_fault st earlier l ≡ None → lines_fault st earlier n (l ∷ []) ≡ None
unfolding lines_fault
one_line_none st earlier n l e = rw e refl

ended_append : (ps qs : List (List ℕ)) → ended (ps ++ qs) ≡ ended ps ++ ended qs
unfolding ended
ended_append ps qs = flat_map-append (λ (piece : List ℕ). piece ++ 10 ∷ []) ps qs

-- no items have no text
pub nothing_made : (st : Setting) → Made st [] []
unfolding lines_fault with_lines ended
nothing_made st = record { pieces = []; lines = []; text_is = refl; plain = tt; are_lines = tt; without_fault = refl; items_are = refl }

-- an item behind them has its line behind their text
pub made_more : (st : Setting) (item : Item) (earlier : List Item) (text : List ℕ) → Made st earlier text → (i : IsItemOfLine st item) → item_fault st earlier item ≡ None
    → Made st (item ∷ earlier) (text ++ (i.line ++ 10 ∷ []))
unfolding line_fault with_lines ended
made_more st item earlier text m i e =
    let l : Line = record { bytes = i.line; says = Some i.written } in
    let item_free : item_fault st earlier (item_of st.format i.written) ≡ None = ap (item_fault st earlier) (sym i.item_is) ∙ e in
    let line_free : line_fault st earlier l ≡ None = option_or-none (own_fault st l) (item_fault st earlier (item_of st.format i.written)) i.without_fault item_free in
    let here : line_fault st (with_lines st.format m.lines []) l ≡ None = ap (λ above. line_fault st above l) m.items_are ∙ line_free in
    record {
      pieces = m.pieces ++ i.line ∷ [];
      lines = m.lines ++ l ∷ [];
      text_is = ap (λ t. t ++ (i.line ++ 10 ∷ [])) m.text_is ∙ ap (λ t. ended m.pieces ++ t) (sym (append-nil (i.line ++ 10 ∷ []))) ∙ sym (ended_append m.pieces (i.line ∷ []));
      plain = plain-append m.pieces (i.line ∷ []) m.plain (i.one_line, tt);
      are_lines = are_lines-append st.format m.pieces (i.line ∷ []) m.lines (l ∷ []) m.are_lines (refl, i.spelled, tt);
      without_fault = lines_fault-append st [] 1 m.lines (l ∷ []) m.without_fault (one_line_none st (with_lines st.format m.lines []) (1 + length m.lines) l here);
      items_are = with_lines-append st.format m.lines (l ∷ []) [] ∙ ap (with_line st.format l) m.items_are ∙ ap (λ x. x ∷ earlier) (sym i.item_is);
    }

-- the text of the lines that spell these items
text_of : (st : Setting) (items : List Item) → AreItemsOfLines st items → List ℕ
text_of st [] l = []
text_of st (item ∷ earlier) l = text_of st earlier l.1 ++ (l.0.line ++ 10 ∷ [])

made : (st : Setting) (items : List Item) (l : AreItemsOfLines st items) → AreFaultless st items → Made st items (text_of st items l)
unfolding text_of
made st [] l a = nothing_made st
made st (item ∷ earlier) l a = made_more st item earlier (text_of st earlier l.1) (made st earlier l.1 a.1) l.0 a.0

end_only : (st : Setting) (earlier : List Item) (n : ℕ) (clean : Bool) → end_fault st earlier clean ≡ None → fault_from st earlier n [] clean ≡ None
unfolding fault_from
end_only st earlier n clean e = rw e refl

-- the text of items without a fault says their page
pub made_says : (st : Setting) (items : List Item) (text : List ℕ) → Made st items text → end_fault st items true ≡ None → IsPageOf st text (page_of st items)
made_says st items text m e =
    let at_end : fault_from st (with_lines st.format m.lines []) (1 + length m.lines) [] true ≡ None =
    end_only st (with_lines st.format m.lines []) (1 + length m.lines) true (ap (λ above. end_fault st above true) m.items_are ∙ e) in
    let free : fault_of st m.lines true ≡ None =
    ap (λ ls. fault_from st [] 1 ls true) (sym (append-nil m.lines)) ∙ fault_from-append st [] 1 m.lines [] true
    ∙ option_or-none (lines_fault st [] 1 m.lines) (fault_from st (with_lines st.format m.lines []) (1 + length m.lines) [] true) m.without_fault at_end in
    let said : page_of st items ≡ page_of st (items_of st.format m.lines) = ap (page_of st) (sym (folded st.format m.lines [] ∙ m.items_are)) in
    subst (λ t. IsPageOf st t (page_of st items)) (sym m.text_is) (record {
      lines = m.lines;
      are_lines = subst (λ ps. AreLines st.format ps m.lines) (sym (lines_of-ended m.pieces m.plain)) m.are_lines;
      without_fault = ap (fault_of st m.lines) (clean_ended m.pieces) ∙ free;
      page_is = said;
    })

-- the page of items without a fault is that of a text
pub items_make_text : (st : Setting) (items : List Item) → AreItemsOfLines st items → AreFaultless st items → end_fault st items true ≡ None → IsPageRead st (page_of st items)
items_make_text st items l a e = text_is_right st (text_of st items l) (page_of st items) (made_says st items (text_of st items l) (made st items l a) e)
