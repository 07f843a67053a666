-- The fault of the first lines is the fault of the page, whatever follows them.
use Rattle.std.proofs.Common.{◌≡◌, ℕ, suc, ◌+◌, Bool, List, [], ◌∷◌, ◌++◌, length, Option, Some, None, refl, sym, ap, ◌∙◌, arith, nat_lt, true}
use Rattle.std.specs.Option.{option_or, option_map}
use Rattle.page_model.specs.declared.item.Item.{Item}
use Rattle.page_model.specs.declared.rule.Rule.TheVariants as rules
use Rattle.page_model.specs.Written.{Setting, line_limit}
use Rattle.page_model.specs.Faults.{Line, Fault, line_breaks, own_fault, line_fault, with_line, with_lines, lines_fault, fault_from, fault_of}

option_or-assoc : {A : Type 0} (o p q : Option A) → option_or (option_or o p) q ≡ option_or o (option_or p q)
option_or-assoc None p q = refl
option_or-assoc (Some x) p q = refl

-- the fault of lines and of what follows them
pub fault_from-append : (st : Setting) (earlier : List Item) (n : ℕ) (ls ms : List Line) (clean : Bool)
    → fault_from st earlier n (ls ++ ms) clean ≡ option_or (lines_fault st earlier n ls) (fault_from st (with_lines st.format ls earlier) (n + length ls) ms clean)
unfolding fault_from lines_fault with_lines
fault_from-append st earlier n [] ms clean = ap (λ k. fault_from st earlier k ms clean) (let e : n ≡ n + 0 = omega arith in e)
fault_from-append st earlier n (l ∷ ls) ms clean =
    let rest = fault_from-append st (with_line st.format l earlier) (n + 1) ls ms clean in
    let number : n + 1 + length ls ≡ n + suc (length ls) = omega arith in
    let first = option_map (λ rule. (n, rule)) (line_fault st earlier l) in
    ap (λ o. option_or first o) rest
    ∙ ap (λ k. option_or first (option_or (lines_fault st (with_line st.format l earlier) (n + 1) ls) (fault_from st (with_lines st.format ls (with_line st.format l earlier)) k ms clean))) number
    ∙ sym (option_or-assoc first (lines_fault st (with_line st.format l earlier) (n + 1) ls) (fault_from st (with_lines st.format ls (with_line st.format l earlier)) (n + suc (length ls)) ms clean))

-- a fault of the first lines stays, however the page goes on
pub fault_stays : (st : Setting) (ls ms : List Line) (clean : Bool) (fault : Fault) → lines_fault st [] 1 ls ≡ Some fault → fault_of st (ls ++ ms) clean ≡ Some fault
unfolding fault_from lines_fault with_lines
fault_stays st ls ms clean fault h = fault_from-append st [] 1 ls ms clean ∙ ap (λ o. option_or o (fault_from st (with_lines st.format ls []) (1 + length ls) ms clean)) h

-- a line that has too many bytes is too long, whatever else it is
pub too_long_fault : (st : Setting) (earlier : List Item) (l : Line) → nat_lt (line_limit st.treatment) (length l.bytes) ≡ true → line_fault st earlier l ≡ Some rules.TooLong
unfolding line_fault own_fault line_breaks
too_long_fault st earlier l h = rw h refl
