-- The fault that is found is the least: of the lines that break a rule the first, and of its rules the least.
use Rattle.std.proofs.Common.{◌≡◌, ℕ, zero, suc, ◌+◌, ◌-◌, ◌<◌, ◌≤◌, Bool, true, false, cond, ◌||◌, List, [], ◌∷◌, find, Option, Some, None, option_map, refl, sym, ap, subst, ◌∙◌, ◌⊎◌, inl, inr, arith, ◌↔◌, ◌==◌}
use Rattle.std.proofs.lemmas.Bool.{or_cases, or_left, or_right}
use Rattle.std.specs.Option.{option_or, option_and_then}
use Rattle.std.proofs.lemmas.Option.{none-some, same_Some}
use Rattle.label_sets.specs.Lists.{some_passes}
use Rattle.page_model.specs.declared.item.Item.{Item}
use Rattle.page_model.specs.declared.item.Sample.{Sample}
use Rattle.page_model.specs.declared.rule.Rule.{Rule}
use Rattle.page_model.specs.declared.rule.Rule.TheVariants as rules
use Rattle.page_model.specs.Written.{Written, Setting, item_of}
use Rattle.page_model.specs.RuleNames.{rule_number}
use Rattle.page_model.specs.Items.{sample_of_line}
use Rattle.page_model.specs.Owners.{owner_of, owned_lines}
use Rattle.page_model.specs.Faults.{Line, Fault, line_breaks, line_rules, own_fault, sample_breaks, owned_breaks, item_breaks, item_rules, item_fault, end_breaks, end_rules, end_fault, line_fault, with_line, fault_from, fault_of, breaks_at, broken_at, Breaks, IsLeastFault}
use Rattle.page_model.proofs.Groups.{Member}

no_truth : false ≡ true → ⊥
no_truth e = cc

-- ---- the first rule of a list that a test passes

-- each number is no less than the one before it
abbrev Ascend : ℕ → List Rule → Type 0
Ascend n [] = Unit {0}
Ascend n (r ∷ rs) = (n ≤ rule_number r) × Ascend (rule_number r) rs

ascend_at : (n : ℕ) (rs : List Rule) → Ascend n rs → (s : Rule) → Member s rs → n ≤ rule_number s
ascend_at n [] a s m = absurd m
ascend_at n (r ∷ rs) a s (inl e) = subst (λ q. n ≤ rule_number q) (sym e) a.0
ascend_at n (r ∷ rs) a s (inr m) = let below = a.0 in let rest = ascend_at (rule_number r) rs a.1 s m in omega arith

-- the rule that is found is broken, and none of the list that is broken has a lesser number
found : (test : Rule → Bool) (n : ℕ) (rs : List Rule) → Ascend n rs → (r : Rule) → find test rs ≡ Some r
    → (test r ≡ true) × Member r rs × ((s : Rule) → Member s rs → test s ≡ true → rule_number r ≤ rule_number s)
found test n [] a r e = absurd (none-some r e)
found test n (q ∷ rs) a r e = go (test q) refl e (λ f. found test (rule_number q) rs a.1 r f)
  where
    go : (b : Bool) → test q ≡ b → cond b (Some q) (find test rs) ≡ Some r
        → (find test rs ≡ Some r → (test r ≡ true) × Member r rs × ((s : Rule) → Member s rs → test s ≡ true → rule_number r ≤ rule_number s))
        → (test r ≡ true) × Member r (q ∷ rs) × ((s : Rule) → Member s (q ∷ rs) → test s ≡ true → rule_number r ≤ rule_number s)
    go true t f ih =
        let same : q ≡ r = same_Some q r f in
        let least : (s : Rule) → Member s (q ∷ rs) → rule_number r ≤ rule_number s = λ s m. subst (λ p. rule_number p ≤ rule_number s) same (at_least s m) in
        (subst (λ p. test p ≡ true) same t, inl (sym same), λ s m k. least s m)
      where
        at_least : (s : Rule) → Member s (q ∷ rs) → rule_number q ≤ rule_number s
        at_least s (inl e) = subst (λ p. rule_number q ≤ rule_number p) (sym e) (omega arith)
        at_least s (inr m) = ascend_at (rule_number q) rs a.1 s m
    go false t f ih =
        let rest = ih f in
        (rest.0, inr rest.1, others rest.2)
      where
        others : ((s : Rule) → Member s rs → test s ≡ true → rule_number r ≤ rule_number s) → (s : Rule) → Member s (q ∷ rs) → test s ≡ true → rule_number r ≤ rule_number s
        others g s (inl e) k = absurd (no_truth (sym t ∙ ap test (sym e) ∙ k))
        others g s (inr m) k = g s m k

-- where none is found none of the list is broken
pub none_found : (test : Rule → Bool) (rs : List Rule) → find test rs ≡ None → (s : Rule) → Member s rs → test s ≡ true → ⊥
none_found test [] e s m k = m
none_found test (q ∷ rs) e s m k = go (test q) refl e m (λ f i. none_found test rs f s i k)
  where
    go : (b : Bool) → test q ≡ b → cond b (Some q) (find test rs) ≡ None → Member s (q ∷ rs) → (find test rs ≡ None → Member s rs → ⊥) → ⊥
    go true t f m ih = none-some q (sym f)
    go false t f (inl e) ih = no_truth (sym t ∙ ap test (sym e) ∙ k)
    go false t f (inr m) ih = ih f m

-- ---- the lists of rules

-- a rule that a line breaks alone is one of its list
line_rule : (st : Setting) (l : Line) (rule : Rule) → line_breaks st l rule ≡ true → Member rule line_rules
unfolding line_breaks
line_rule st l rules.TooLong k = inl refl
line_rule st l rules.Utf8 k = inr (inl refl)
line_rule st l rules.Syntax k = inr (inr (inl refl))
line_rule st l rules.Range k = inr (inr (inr (inl refl)))
line_rule st l rules.Labels k = inr (inr (inr (inr (inl refl))))
line_rule st l _ k = absurd (no_truth k)

-- a rule that the end breaks is one of its list
end_rule : (st : Setting) (earlier : List Item) (clean : Bool) (rule : Rule) → end_breaks st earlier clean rule ≡ true → Member rule end_rules
unfolding end_breaks
end_rule st earlier clean rules.NoNewline k = inl refl
end_rule st earlier clean rules.NoEof k = inr (inl refl)
end_rule st earlier clean rules.Incomplete k = inr (inr (inl refl))
end_rule st earlier clean _ k = absurd (no_truth k)

-- a test that nothing passes finds nothing
none_passes : {A B : Type 0} (o : Option A) (p : Option B) → some_passes (λ (x : A). some_passes (λ (y : B). false) p) o ≡ true → ⊥
none_passes None p k = no_truth k
none_passes (Some x) None k = no_truth k
none_passes (Some x) (Some y) k = no_truth k

-- a rule that neither a descriptor nor a sample breaks
no_owned_rule : (st : Setting) (earlier : List Item) (item : Item)
    → some_passes (λ (family : List ℕ). some_passes (λ (s : Sample). false) (sample_of_line item)) (owner_of st.format (owned_lines st.format earlier) item) ≡ true → ⊥
no_owned_rule st earlier item k = none_passes (owner_of st.format (owned_lines st.format earlier) item) (sample_of_line item) k

-- a rule that an item breaks is one of its list
item_rule : (st : Setting) (earlier : List Item) (item : Item) (rule : Rule) → item_breaks st earlier item rule ≡ true → Member rule item_rules
unfolding item_breaks owned_breaks sample_breaks
item_rule st earlier item rules.AfterEof k = inl refl
item_rule st earlier item rules.Descriptor k = inr (inl refl)
item_rule st earlier item rules.Exemplar k = inr (inr (inl refl))
item_rule st earlier item rules.Split k = inr (inr (inr (inl refl)))
item_rule st earlier item rules.Interleaved k = inr (inr (inr (inr (inl refl))))
item_rule st earlier item rules.Suffix k = inr (inr (inr (inr (inr (inl refl)))))
item_rule st earlier item rules.Duplicate k = inr (inr (inr (inr (inr (inr (inl refl))))))
item_rule st earlier item rules.Value k = inr (inr (inr (inr (inr (inr (inr (inl refl)))))))
item_rule st earlier item rules.Threshold k = inr (inr (inr (inr (inr (inr (inr (inr (inl refl))))))))
item_rule st earlier item rules.Order k = inr (inr (inr (inr (inr (inr (inr (inr (inr (inl refl)))))))))
item_rule st earlier item rules.Incomplete k = inr (inr (inr (inr (inr (inr (inr (inr (inr (inr (inl refl))))))))))
item_rule st earlier item rules.Unit k = inr (inr (inr (inr (inr (inr (inr (inr (inr (inr (inr (inl refl)))))))))))
item_rule st earlier item rules.TooMany k = inr (inr (inr (inr (inr (inr (inr (inr (inr (inr (inr (inr (inl refl))))))))))))
item_rule st earlier item _ k = absurd (no_owned_rule st earlier item k)

line_rules_ascend : Ascend 0 line_rules
unfolding rule_number
line_rules_ascend = (omega arith, (omega arith, (omega arith, (omega arith, (omega arith, tt)))))

item_rules_ascend : Ascend 7 item_rules
unfolding rule_number
item_rules_ascend = (omega arith, (omega arith, (omega arith, (omega arith, (omega arith, (omega arith, (omega arith, (omega arith, (omega arith, (omega arith, (omega arith, (omega arith, (omega arith, tt)))))))))))))

end_rules_ascend : Ascend 0 end_rules
unfolding rule_number
end_rules_ascend = (omega arith, (omega arith, (omega arith, tt)))

-- the rules of a line alone come before those of an item
line_rule_low : (r : Rule) → Member r line_rules → rule_number r ≤ 6
unfolding rule_number
line_rule_low r (inl e) = subst (λ q. rule_number q ≤ 6) (sym e) (omega arith)
line_rule_low r (inr (inl e)) = subst (λ q. rule_number q ≤ 6) (sym e) (omega arith)
line_rule_low r (inr (inr (inl e))) = subst (λ q. rule_number q ≤ 6) (sym e) (omega arith)
line_rule_low r (inr (inr (inr (inl e)))) = subst (λ q. rule_number q ≤ 6) (sym e) (omega arith)
line_rule_low r (inr (inr (inr (inr (inl e))))) = subst (λ q. rule_number q ≤ 6) (sym e) (omega arith)
line_rule_low r (inr (inr (inr (inr (inr m))))) = absurd m

-- ---- one line

-- the line breaks the rule by what it says
abbrev says_breaks : Setting → List Item → Option Written → Rule → Bool
says_breaks st earlier says rule = some_passes (λ w. item_breaks st earlier (item_of st.format w) rule) says

-- the least rule by what the line says
abbrev says_fault : Setting → List Item → Option Written → Option Rule
says_fault st earlier says = option_and_then (λ w. item_fault st earlier (item_of st.format w)) says

says_rule : (st : Setting) (earlier : List Item) (says : Option Written) (s : Rule) → says_breaks st earlier says s ≡ true → Member s item_rules
says_rule st earlier None s k = absurd (no_truth k)
says_rule st earlier (Some w) s k = item_rule st earlier (item_of st.format w) s k

says_found : (st : Setting) (earlier : List Item) (says : Option Written) (r : Rule) → says_fault st earlier says ≡ Some r
    → (says_breaks st earlier says r ≡ true) × ((s : Rule) → says_breaks st earlier says s ≡ true → rule_number r ≤ rule_number s)
unfolding item_fault
says_found st earlier None r e = absurd (none-some r e)
says_found st earlier (Some w) r e =
    let f = found (item_breaks st earlier (item_of st.format w)) 7 item_rules item_rules_ascend r e in
    (f.0, λ s k. f.2 s (item_rule st earlier (item_of st.format w) s k) k)

says_none : (st : Setting) (earlier : List Item) (says : Option Written) → says_fault st earlier says ≡ None → (s : Rule) → says_breaks st earlier says s ≡ true → ⊥
unfolding item_fault
says_none st earlier None e s k = no_truth k
says_none st earlier (Some w) e s k = none_found (item_breaks st earlier (item_of st.format w)) item_rules e s (item_rule st earlier (item_of st.format w) s k) k

-- the rule is broken, and none that is broken has a lesser number
abbrev IsLeastRule : (Rule → Bool) → Rule → Type 0
IsLeastRule test r = (test r ≡ true) × ((s : Rule) → test s ≡ true → rule_number r ≤ rule_number s)

line_least : (st : Setting) (earlier : List Item) (l : Line) (r : Rule) → line_fault st earlier l ≡ Some r → IsLeastRule (breaks_at st earlier l) r
unfolding line_fault own_fault breaks_at
line_least st earlier l r e = go (find (line_breaks st l) line_rules) refl e
  where
    go : (o : Option Rule) → find (line_breaks st l) line_rules ≡ o → option_or o (says_fault st earlier l.says) ≡ Some r
        → ((line_breaks st l r || says_breaks st earlier l.says r) ≡ true) × ((s : Rule) → (line_breaks st l s || says_breaks st earlier l.says s) ≡ true → rule_number r ≤ rule_number s)
    go (Some q) f e =
        let g = found (line_breaks st l) 0 line_rules line_rules_ascend r (f ∙ e) in
        (or_left (line_breaks st l r) (says_breaks st earlier l.says r) g.0, least g.1 g.2)
      where
        least : Member r line_rules → ((s : Rule) → Member s line_rules → line_breaks st l s ≡ true → rule_number r ≤ rule_number s)
            → (s : Rule) → (line_breaks st l s || says_breaks st earlier l.says s) ≡ true → rule_number r ≤ rule_number s
        least m g s k = elim (or_cases (line_breaks st l s) (says_breaks st earlier l.says s) k) [
          | inl h ↦ g s (line_rule st l s h) h
          | inr h ↦
              let low = line_rule_low r m in
              let high = ascend_at 7 item_rules item_rules_ascend s (says_rule st earlier l.says s h) in
              omega arith
        ]
    go None f e =
        let g = says_found st earlier l.says r e in
        (or_right (line_breaks st l r) (says_breaks st earlier l.says r) g.0, least g.1)
      where
        least : ((s : Rule) → says_breaks st earlier l.says s ≡ true → rule_number r ≤ rule_number s)
            → (s : Rule) → (line_breaks st l s || says_breaks st earlier l.says s) ≡ true → rule_number r ≤ rule_number s
        least g s k = elim (or_cases (line_breaks st l s) (says_breaks st earlier l.says s) k) [
          | inl h ↦ absurd (none_found (line_breaks st l) line_rules f s (line_rule st l s h) h)
          | inr h ↦ g s h
        ]

line_none : (st : Setting) (earlier : List Item) (l : Line) → line_fault st earlier l ≡ None → (s : Rule) → breaks_at st earlier l s ≡ true → ⊥
unfolding line_fault own_fault breaks_at
line_none st earlier l e s k = go (find (line_breaks st l) line_rules) refl e
  where
    go : (o : Option Rule) → find (line_breaks st l) line_rules ≡ o → option_or o (says_fault st earlier l.says) ≡ None → ⊥
    go (Some q) f e = none-some q (sym e)
    go None f e = elim (or_cases (line_breaks st l s) (says_breaks st earlier l.says s) k) [
      | inl h ↦ none_found (line_breaks st l) line_rules f s (line_rule st l s h) h
      | inr h ↦ says_none st earlier l.says e s h
    ]

end_least : (st : Setting) (earlier : List Item) (clean : Bool) (r : Rule) → end_fault st earlier clean ≡ Some r → IsLeastRule (end_breaks st earlier clean) r
unfolding end_fault
end_least st earlier clean r e =
    let f = found (end_breaks st earlier clean) 0 end_rules end_rules_ascend r e in
    (f.0, λ s k. f.2 s (end_rule st earlier clean s k) k)

end_none : (st : Setting) (earlier : List Item) (clean : Bool) → end_fault st earlier clean ≡ None → (s : Rule) → end_breaks st earlier clean s ≡ true → ⊥
unfolding end_fault
end_none st earlier clean e s k = none_found (end_breaks st earlier clean) end_rules e s (end_rule st earlier clean s k) k

-- ---- all lines

-- the first of the lines behind these items that breaks a rule, with the least rule
abbrev IsLeastFrom : Setting → List Item → List Line → Bool → ℕ → Rule → Type 0
IsLeastFrom st earlier ls clean k r = (broken_at st earlier ls clean k r ≡ true)
    × ((j : ℕ) (s : Rule) → broken_at st earlier ls clean j s ≡ true → (k < j) ⊎ ((k ≡ j) × (rule_number r ≤ rule_number s)))

from_none : (st : Setting) (earlier : List Item) (n : ℕ) (ls : List Line) (clean : Bool) → fault_from st earlier n ls clean ≡ None
    → (j : ℕ) (s : Rule) → broken_at st earlier ls clean j s ≡ true → ⊥
unfolding fault_from broken_at
from_none st earlier n [] clean e zero s k = go (end_fault st earlier clean) refl e
  where
    go : (o : Option Rule) → end_fault st earlier clean ≡ o → option_map {U = Fault} (λ rule. (n, rule)) o ≡ None → ⊥
    go None f e = end_none st earlier clean f s k
    go (Some r) f e = none-some (n, r) (sym e)
from_none st earlier n [] clean e (suc j) s k = no_truth k
from_none st earlier n (l ∷ ls) clean e j s k = go (line_fault st earlier l) refl e j k (λ f i h. from_none st (with_line st.format l earlier) (n + 1) ls clean f i s h)
  where
    go : (o : Option Rule) → line_fault st earlier l ≡ o → option_or (option_map (λ rule. (n, rule)) o) (fault_from st (with_line st.format l earlier) (n + 1) ls clean) ≡ None
        → (j : ℕ) → broken_at st earlier (l ∷ ls) clean j s ≡ true
        → (fault_from st (with_line st.format l earlier) (n + 1) ls clean ≡ None → (i : ℕ) → broken_at st (with_line st.format l earlier) ls clean i s ≡ true → ⊥) → ⊥
    go (Some r) f e j k ih = none-some (n, r) (sym e)
    go None f e zero k ih = line_none st earlier l f s k
    go None f e (suc j) k ih = ih e j k

from_least : (st : Setting) (earlier : List Item) (n : ℕ) (ls : List Line) (clean : Bool) (fault : Fault) → fault_from st earlier n ls clean ≡ Some fault
    → (k : ℕ) × (fault.0 ≡ n + k) × IsLeastFrom st earlier ls clean k fault.1
unfolding fault_from broken_at
from_least st earlier n [] clean fault e = go (end_fault st earlier clean) refl e
  where
    go : (o : Option Rule) → end_fault st earlier clean ≡ o → option_map (λ rule. (n, rule)) o ≡ Some fault → (k : ℕ) × (fault.0 ≡ n + k) × IsLeastFrom st earlier [] clean k fault.1
    go None f e = absurd (none-some fault e)
    go (Some r) f e =
        let least = end_least st earlier clean r f in
        let made : (k : ℕ) × (n ≡ n + k) × IsLeastFrom st earlier [] clean k r = (0, omega arith, (least.0, others least.1)) in
        subst (λ (x : Fault). (k : ℕ) × (x.0 ≡ n + k) × IsLeastFrom st earlier [] clean k x.1) (same_Some (n, r) fault e) made
      where
        others : ((s : Rule) → end_breaks st earlier clean s ≡ true → rule_number r ≤ rule_number s)
            → (j : ℕ) (s : Rule) → broken_at st earlier [] clean j s ≡ true → (0 < j) ⊎ ((0 ≡ j) × (rule_number r ≤ rule_number s))
        others g zero s k = inr (refl, g s k)
        others g (suc j) s k = absurd (no_truth k)
from_least st earlier n (l ∷ ls) clean fault e = go (line_fault st earlier l) refl e (λ f. from_least st (with_line st.format l earlier) (n + 1) ls clean fault f)
  where
    go : (o : Option Rule) → line_fault st earlier l ≡ o → option_or (option_map (λ rule. (n, rule)) o) (fault_from st (with_line st.format l earlier) (n + 1) ls clean) ≡ Some fault
        → (fault_from st (with_line st.format l earlier) (n + 1) ls clean ≡ Some fault → (k : ℕ) × (fault.0 ≡ n + 1 + k) × IsLeastFrom st (with_line st.format l earlier) ls clean k fault.1)
        → (k : ℕ) × (fault.0 ≡ n + k) × IsLeastFrom st earlier (l ∷ ls) clean k fault.1
    go (Some r) f e ih =
        let least = line_least st earlier l r f in
        let made : (k : ℕ) × (n ≡ n + k) × IsLeastFrom st earlier (l ∷ ls) clean k r = (0, omega arith, (least.0, others least.1)) in
        subst (λ (x : Fault). (k : ℕ) × (x.0 ≡ n + k) × IsLeastFrom st earlier (l ∷ ls) clean k x.1) (same_Some (n, r) fault e) made
      where
        others : ((s : Rule) → breaks_at st earlier l s ≡ true → rule_number r ≤ rule_number s)
            → (j : ℕ) (s : Rule) → broken_at st earlier (l ∷ ls) clean j s ≡ true → (0 < j) ⊎ ((0 ≡ j) × (rule_number r ≤ rule_number s))
        others g zero s k = inr (refl, g s k)
        others g (suc j) s k = inl (omega arith)
    go None f e ih =
        let rest = ih e in
        (suc rest.0, let number = rest.1 in omega arith, (rest.2.0, others rest.0 rest.2.1))
      where
        others : (p : ℕ) → ((j : ℕ) (s : Rule) → broken_at st (with_line st.format l earlier) ls clean j s ≡ true → (p < j) ⊎ ((p ≡ j) × (rule_number fault.1 ≤ rule_number s)))
            → (j : ℕ) (s : Rule) → broken_at st earlier (l ∷ ls) clean j s ≡ true → (suc p < j) ⊎ ((suc p ≡ j) × (rule_number fault.1 ≤ rule_number s))
        others p g zero s k = absurd (line_none st earlier l f s k)
        others p g (suc j) s k = elim (g j s k) [
          | inl h ↦ inl (omega arith)
          | inr h ↦ inr (ap suc h.0, h.1)
        ]

-- ---- the law

-- the rule of a number
unfoldable rule_at : ℕ → Rule
rule_at n = cond (n == 1) rules.TooLong (cond (n == 2) rules.Utf8 (cond (n == 3) rules.NoNewline (cond (n == 4) rules.Syntax (cond (n == 5) rules.Range (cond (n == 6) rules.Labels (cond (n == 7) rules.AfterEof (cond (n == 8) rules.NoEof (cond (n == 9) rules.Descriptor (cond (n == 10) rules.Exemplar (cond (n == 11) rules.Split (cond (n == 12) rules.Interleaved (cond (n == 13) rules.Suffix (cond (n == 14) rules.Duplicate (cond (n == 15) rules.Value (cond (n == 16) rules.Threshold (cond (n == 17) rules.Order (cond (n == 18) rules.Incomplete (cond (n == 19) rules.Unit rules.TooMany))))))))))))))))))

rule_at-number : (r : Rule) → rule_at (rule_number r) ≡ r
unfolding rule_at rule_number
rule_at-number rules.TooLong = refl
rule_at-number _ = refl

-- a rule is told by its number
pub same_rule : (r s : Rule) → rule_number r ≡ rule_number s → r ≡ s
same_rule r s e = sym (rule_at-number r) ∙ ap rule_at e ∙ rule_at-number s

least_fault : (st : Setting) (ls : List Line) (clean : Bool) (fault : Fault) → fault_of st ls clean ≡ Some fault → IsLeastFault st ls clean fault
least_fault st ls clean fault e =
    let found = from_least st [] 1 ls clean fault e in
    let number : fault.0 ≡ 1 + found.0 = found.1 in
    let place : found.0 ≡ fault.0 - 1 = omega arith in
    record {
      broken = (omega arith, subst (λ k. broken_at st [] ls clean k fault.1 ≡ true) place found.2.0);
      least = others found.0 number found.2.1;
    }
  where
    others : (k : ℕ) → fault.0 ≡ 1 + k → ((j : ℕ) (s : Rule) → broken_at st [] ls clean j s ≡ true → (k < j) ⊎ ((k ≡ j) × (rule_number fault.1 ≤ rule_number s)))
        → (n : ℕ) (s : Rule) → Breaks st ls clean n s → (fault.0 < n) ⊎ ((fault.0 ≡ n) × (rule_number fault.1 ≤ rule_number s))
    others k number g n s b = let some_line = b.0 in elim (g (n - 1) s b.1) [
      | inl h ↦ inl (omega arith)
      | inr h ↦ let same = h.0 in inr (omega arith, h.1)
    ]

-- two least faults are the same
least_once : (st : Setting) (ls : List Line) (clean : Bool) (e f : Fault) → IsLeastFault st ls clean e → IsLeastFault st ls clean f → e ≡ f
least_once st ls clean e f p q = go (p.least f.0 f.1 q.broken) (q.least e.0 e.1 p.broken)
  where
    go : (e.0 < f.0) ⊎ ((e.0 ≡ f.0) × (rule_number e.1 ≤ rule_number f.1)) → (f.0 < e.0) ⊎ ((f.0 ≡ e.0) × (rule_number f.1 ≤ rule_number e.1)) → e ≡ f
    go (inl h) (inl k) = absurd (omega arith)
    go (inl h) (inr k) = let same = k.0 in absurd (omega arith)
    go (inr h) (inl k) = let same = h.0 in absurd (omega arith)
    go (inr h) (inr k) =
        let below = h.1 in
        let above = k.1 in
        let number : rule_number e.1 ≡ rule_number f.1 = omega arith in
        let rule = same_rule e.1 f.1 number in
        λ i. (h.0 i, rule i)

-- the fault of a page's lines is their least, and nothing else is
pub fault_is_least : (st : Setting) (ls : List Line) (clean : Bool) (fault : Fault) → (fault_of st ls clean ≡ Some fault) ↔ IsLeastFault st ls clean fault
fault_is_least st ls clean fault = (least_fault st ls clean fault, λ p. go (fault_of st ls clean) refl p)
  where
    go : (o : Option Fault) → fault_of st ls clean ≡ o → IsLeastFault st ls clean fault → fault_of st ls clean ≡ Some fault
    go None e p = absurd (from_none st [] 1 ls clean e (fault.0 - 1) fault.1 p.broken.1)
    go (Some other) e p = e ∙ ap Some (least_once st ls clean other fault (least_fault st ls clean other e) p)
