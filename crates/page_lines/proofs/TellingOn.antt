-- What was told of a page against its lines, however it goes on.
use Rattle.std.proofs.Common.{◌≡◌, ℕ, ◌<◌, ◌⊎◌, inl, inr, List, [], ◌∷◌, ◌++◌, refl, sym, ap, subst, ◌∙◌, arith, length, map}
use Rattle.std.proofs.lemmas.Bool.{cases_lt}
use Rattle.std.proofs.lemmas.List.{append_assoc, length-append, map-append, same_from_push}
use Rattle.page_lines.specs.Lines.{Plain, lines_of, ended_lines, open_line}
use Rattle.page_lines.specs.Told.{Told, whole, too_long, told_line, told_open, told_of}
use Rattle.page_lines.specs.Laws.{ToldGoesOn, ToldAreFirst, TooLongIsNext, WholeLinesAreLines}
use Rattle.page_lines.proofs.Ends.{ended-more, open-more, open-goes_on, lines_of-more, lines_of-open, open_line-plain}
use Rattle.page_lines.proofs.Telling.{told_line-short, told_line-long, told-short, told-long}

-- a line of which all was told is that
line_is : (most : ℕ) (line text : List ℕ) → told_line most line ≡ whole text → line ≡ text
line_is most line text e = elim (cases_lt most (length line)) [ inl h ↦ absurd (let l = told_line-long most line h in cc) | inr h ↦ (let l = told_line-short most line h in cc) ]

-- a line of which it was told that it is too long
line_is_long : (most : ℕ) (line : List ℕ) → told_line most line ≡ too_long → most < length line
line_is_long most line e = elim (cases_lt most (length line)) [ inl h ↦ h | inr h ↦ absurd (let l = told_line-short most line h in cc) ]

pub whole_lines : WholeLinesAreLines
whole_lines most [] [] e = refl
whole_lines most [] (t ∷ ts) e = absurd (cc)
whole_lines most (l ∷ ls) [] e = absurd (cc)
whole_lines most (l ∷ ls) (t ∷ ts) e =
    let first : told_line most l ≡ whole t = cc in
    let others : map (told_line most) ls ≡ map whole ts = cc in
    let a = line_is most l t first in
    let b = whole_lines most ls ts others in
    cc

-- lines of which all was told but the last, which is too long
long_last : (most : ℕ) (lines told : List (List ℕ)) → map (told_line most) lines ≡ map whole told ++ too_long ∷ []
    → (line : List ℕ) × (most < length line) × (lines ≡ told ++ line ∷ [])
long_last most [] [] e = absurd (cc)
long_last most [] (t ∷ ts) e = absurd (cc)
long_last most (l ∷ []) [] e = let first : told_line most l ≡ too_long = cc in (l, line_is_long most l first, refl)
long_last most (l ∷ m ∷ ls) [] e = absurd (cc)
long_last most (l ∷ ls) (t ∷ ts) e =
    let first : told_line most l ≡ whole t = cc in
    let others : map (told_line most) ls ≡ map whole ts ++ too_long ∷ [] = cc in
    let r = long_last most ls ts others in
    let a = line_is most l t first in
    let rest : ls ≡ ts ++ r.0 ∷ [] = r.2 in
    (r.0, r.1, cc)

-- whole lines are not followed by one that is too long
not_long : (told : List (List ℕ)) (lines : List Told) → lines ++ too_long ∷ [] ≡ map whole told → ⊥
not_long [] [] e = cc
not_long [] (l ∷ ls) e = cc
not_long (t ∷ ts) [] e = cc
not_long (t ∷ ts) (l ∷ ls) e = not_long ts ls cc

pub told_first : ToldAreFirst
told_first most page more told e = elim (cases_lt most (length (open_line page))) [
  | inl h ↦ absurd (not_long told (map (told_line most) (ended_lines page)) (sym (told-long most page h) ∙ e))
  | inr h ↦ (lines_of (open_line page ++ more), lines_of-more page more ∙ ap (λ ls. ls ++ lines_of (open_line page ++ more)) (whole_lines most (ended_lines page) told (sym (told-short most page h) ∙ e)))
]

pub long_next : TooLongIsNext
long_next most page more told e = elim (cases_lt most (length (open_line page))) [
  | inl h ↦ in_open h (open_line page) refl
  | inr h ↦ (
      let r = long_last most (ended_lines page) told (sym (told-short most page h) ∙ e) in
      (r.0, lines_of (open_line page ++ more), r.1, lines_of-more page more ∙ ap (λ ls. ls ++ lines_of (open_line page ++ more)) r.2 ∙ append_assoc told (r.0 ∷ []) (lines_of (open_line page ++ more))))
]
  where
    in_open : most < length (open_line page) → (l : List ℕ) → open_line page ≡ l
        → (line : List ℕ) × (others : List (List ℕ)) × (most < length line) × (lines_of (page ++ more) ≡ told ++ line ∷ others)
    in_open h [] is = absurd (omega (arith, ap length is))
    in_open h (c ∷ cs) is =
        let o = lines_of-open c cs more (subst Plain is (open_line-plain page)) in
        let ended : ended_lines page ≡ told = whole_lines most (ended_lines page) told (same_from_push _ _ too_long too_long (sym (told-long most page h) ∙ e)).0 in (
          (c ∷ cs) ++ o.0,
          o.1,
          omega (arith, ap length is, length-append (c ∷ cs) o.0),
          lines_of-more page more ∙ ap (λ l. ended_lines page ++ lines_of (l ++ more)) is ∙ ap (λ ls. ended_lines page ++ ls) o.2 ∙ ap (λ ls. ls ++ ((c ∷ cs) ++ o.0) ∷ o.1) ended,
        )

told-more : (most : ℕ) (page more : List ℕ) → told_of most (page ++ more) ≡ map (told_line most) (ended_lines page) ++ told_of most (open_line page ++ more)
unfolding told_of
told-more most page more =
    ap (λ ls. map (told_line most) ls ++ told_open most (open_line (page ++ more))) (ended-more page more)
    ∙ ap (λ ts. ts ++ told_open most (open_line (page ++ more))) (map-append (told_line most) (ended_lines page) (ended_lines (open_line page ++ more)))
    ∙ append_assoc (map (told_line most) (ended_lines page)) (map (told_line most) (ended_lines (open_line page ++ more))) (told_open most (open_line (page ++ more)))
    ∙ ap (λ l. map (told_line most) (ended_lines page) ++ (map (told_line most) (ended_lines (open_line page ++ more)) ++ told_open most l)) (open-more page more)

-- of a line that is too long it is told so, however it goes on
told-long_first : (most : ℕ) (xs more : List ℕ) → Plain xs → most < length xs → (others : List Told) × (told_of most (xs ++ more) ≡ too_long ∷ others)
told-long_first most xs more plain h = go (open-goes_on xs more plain)
  where
    go : ((rest : List ℕ) × (others : List (List ℕ)) × (ended_lines (xs ++ more) ≡ (xs ++ rest) ∷ others))
        ⊎ ((rest : List ℕ) × (ended_lines (xs ++ more) ≡ []) × (open_line (xs ++ more) ≡ xs ++ rest))
        → (others : List Told) × (told_of most (xs ++ more) ≡ too_long ∷ others)
    go (inl p) =
        let first = told_line-long most (xs ++ p.0) (omega (arith, length-append xs p.0)) in
        let all : told_of most (xs ++ more) ≡ map (told_line most) ((xs ++ p.0) ∷ p.1) ++ told_open most (open_line (xs ++ more)) =
        unfold told_of in ap (λ ls. map (told_line most) ls ++ told_open most (open_line (xs ++ more))) p.2
        in
        (map (told_line most) p.1 ++ told_open most (open_line (xs ++ more)), all ∙ ap (λ t. t ∷ (map (told_line most) p.1 ++ told_open most (open_line (xs ++ more)))) first)
    go (inr p) =
        let long : most < length (open_line (xs ++ more)) = omega (arith, ap length p.2, length-append xs p.0) in
        ([], told-long most (xs ++ more) long ∙ ap (λ ls. map (told_line most) ls ++ too_long ∷ []) p.1)

pub told_goes_on : ToldGoesOn
told_goes_on most page more = elim (cases_lt most (length (open_line page))) [
  | inl h ↦ (
      let p = told-long_first most (open_line page) more (open_line-plain page) h in (
        p.0,
        told-more most page more ∙ ap (λ ts. map (told_line most) (ended_lines page) ++ ts) p.1 ∙ sym (append_assoc (map (told_line most) (ended_lines page)) (too_long ∷ []) p.0)
            ∙ ap (λ ts. ts ++ p.0) (sym (told-long most page h)),
      ))
  | inr h ↦ (told_of most (open_line page ++ more), told-more most page more ∙ ap (λ ts. ts ++ told_of most (open_line page ++ more)) (sym (told-short most page h)))
]
