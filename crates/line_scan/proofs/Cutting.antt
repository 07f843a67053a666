-- Names at the front.
use Rattle.std.proofs.Common.{◌≡◌, ℕ, ◌-◌, ◌≤◌, Bool, true, false, nat_eq, List, [], ◌∷◌, ◌++◌, length, take, drop, sym, ap, subst, ◌∙◌, IsUtf8}
use Rattle.std.specs.Prelude.{take_while}
use Rattle.std.specs.List.{list_all, starts_with}
use Rattle.std.specs.Cmp.Lexicographic.{bytes_decides}
use Rattle.std.proofs.lemmas.List.{take-append-drop, nil_from_length}
use Rattle.label_sets.specs.Lists.{rest_while}
use Rattle.page_model.proofs.Laws.{while_passes}
use Rattle.line_scan.specs.declared.scan.Cut.{Cut}
use Rattle.line_scan.specs.Cuts.{IsNamed}
use Rattle.line_scan.proofs.Utf8.{PassesAscii, utf8_front, utf8_rest, utf8_behind}
use Rattle.line_scan.proofs.Quotes.{tail_slice}

-- the characters that stand at the front and may stand in a name, cut off
module _ (is_name : List ℕ → Bool) (start test : ℕ → Bool) (bytes : List ℕ) (cut : Cut) (front : cut.front.now ≡ take_while test bytes) where
  pub cut-nothing : is_name [] ≡ false → length cut.front.now ≡ 0 → is_name (take_while test bytes) ≡ false
  cut-nothing empty h = ap is_name (sym front ∙ nil_from_length cut.front.now h) ∙ empty

  module _ (by_first : (c : ℕ) (cs : List ℕ) → list_all test (c ∷ cs) ≡ true → is_name (c ∷ cs) ≡ start c) (c : ℕ) (cs : List ℕ) (first : cut.front.now ≡ c ∷ cs) where
    pub cut-first : is_name (take_while test bytes) ≡ start c
    cut-first =
        let e : take_while test bytes ≡ c ∷ cs = sym front ∙ first in
        ap is_name e ∙ by_first c cs (subst (λ (l : List ℕ). list_all test l ≡ true) e (while_passes test bytes))

    pub cut-name : PassesAscii test → cut.rest.now ≡ rest_while test bytes → start c ≡ true → IsNamed is_name test bytes cut
    cut-name ascii rest starts = record {
      named = cut-first ∙ starts;
      front = front;
      rest = rest;
      utf8_front = subst IsUtf8 (sym front) (utf8_front test ascii bytes);
      utf8_rest = λ u. subst IsUtf8 (sym rest) (utf8_rest test ascii bytes u);
    }

-- what stands behind a text that bytes begin with
pub text-behind : (front bytes : List ℕ) → starts_with nat_eq bytes front ≡ true → length front ≤ length bytes → IsUtf8 front → IsUtf8 bytes → IsUtf8 (take (length bytes - length front) (drop (length front) bytes))
text-behind front bytes h within f u =
    let same : front ≡ take (length front) bytes = (bytes_decides front (take (length front) bytes)).0 h in
    let whole : bytes ≡ front ++ drop (length front) bytes = sym (take-append-drop (length front) bytes) ∙ ap (λ (l : List ℕ). l ++ drop (length front) bytes) (sym same) in
    subst IsUtf8 (sym (tail_slice (length front) bytes within)) (utf8_behind front (drop (length front) bytes) f (subst IsUtf8 whole u))
