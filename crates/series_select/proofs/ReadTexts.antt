-- The selectors that are read of a query, pair by pair.
use Rattle.std.proofs.Common.{◌≡◌, ℕ, suc, ◌+◌, true, false, List, [], ◌∷◌, ◌++◌, length, refl, sym, ap, subst, ◌∙◌, append_assoc, inl, inr}
use Rattle.series_select.specs.declared.fault.QueryFault.{QueryFault}
use Rattle.series_select.specs.declared.fault.QueryFault.TheVariants as faults
use Rattle.series_select.specs.declared.selector.Selector.{Selector}
use Rattle.series_select.specs.Selectors.{SpellsSelector, IsNoSelector, text_of, is_match, selector_texts, SpellEach, HasOther}
use Rattle.series_select.specs.QuerySteps.{TakesPair, StopsAtPair, AreReadTo}

-- a pair, still encoded
abbrev Pair : Type 0
Pair = List ℕ × List ℕ

-- ---- texts and their selectors

pub spelled-more : (texts : List (List ℕ)) (ss : List Selector) (text : List ℕ) (s : Selector) → SpellEach texts ss → SpellsSelector text s → SpellEach (texts ++ text ∷ []) (ss ++ s ∷ [])
spelled-more [] [] text s h k = (k, tt)
spelled-more [] (x ∷ ss) text s h k = absurd h
spelled-more (t ∷ texts) [] text s h k = absurd h
spelled-more (t ∷ texts) (x ∷ ss) text s h k = (h.0, spelled-more texts ss text s h.1 k)

pub spelled_length : (texts : List (List ℕ)) (ss : List Selector) → SpellEach texts ss → length ss ≡ length texts
spelled_length [] [] h = refl
spelled_length [] (x ∷ ss) h = absurd h
spelled_length (t ∷ texts) [] h = absurd h
spelled_length (t ∷ texts) (x ∷ ss) h = ap suc (spelled_length texts ss h.1)

-- ---- the values of pairs

value_passed : (name value : List ℕ) (more : List Pair) → is_match (text_of name) ≡ false → selector_texts ((name, value) ∷ more) ≡ selector_texts more
value_passed name value more h = rw h refl

value_taken : (name value : List ℕ) (more : List Pair) → is_match (text_of name) ≡ true → selector_texts ((name, value) ∷ more) ≡ text_of value ∷ selector_texts more
value_taken name value more h = rw h refl

module _ (texts : List (List ℕ)) (name value : List ℕ) (left more : List Pair) (before : List Selector) (first : left ≡ (name, value) ∷ more) (n v : List ℕ) (name_is : n ≡ text_of name) (value_is : v ≡ text_of value)
    (read : AreReadTo texts (selector_texts left) before) where
  -- the value of a pair that carries one is the next text
  next_text : is_match n ≡ true → texts ≡ read.done ++ text_of value ∷ selector_texts more
  next_text h = read.whole ∙ ap (λ (ts : List (List ℕ)). read.done ++ ts) (ap selector_texts first ∙ value_taken name value more (subst (λ (t : List ℕ). is_match t ≡ true) name_is h))

  -- a pair more is read
  pub pair_read : (after : List Selector) → TakesPair n v before after → AreReadTo texts (selector_texts more) after
  pair_read after (inl h) = record {
    done = read.done;
    whole = read.whole ∙ ap (λ (ts : List (List ℕ)). read.done ++ ts) (ap selector_texts first ∙ value_passed name value more (subst (λ (t : List ℕ). is_match t ≡ false) name_is h.0));
    spelled = subst (SpellEach read.done) (sym h.1) read.spelled;
  }
  pair_read after (inr h) = record {
    done = read.done ++ text_of value ∷ [];
    whole = next_text h.0 ∙ sym (append_assoc read.done (text_of value ∷ []) (selector_texts more));
    spelled = subst (SpellEach (read.done ++ text_of value ∷ [])) (sym h.1.2)
        (spelled-more read.done before (text_of value) h.1.0 read.spelled (subst (λ (t : List ℕ). SpellsSelector t h.1.0) value_is h.1.1));
  }

  -- or a pair stops it
  pub pair_stops : (fault : QueryFault) → StopsAtPair n v before fault → HasOther texts fault
  pair_stops (faults.Selector number) h = record {
    front = read.done;
    text = text_of value;
    rest = selector_texts more;
    whole = next_text h.0;
    count = h.1 ∙ ap (λ k. k + 1) (spelled_length read.done before read.spelled);
    selectors = (before, read.spelled);
    other = subst IsNoSelector value_is h.2;
  }
  pair_stops faults.Memory h = tt
