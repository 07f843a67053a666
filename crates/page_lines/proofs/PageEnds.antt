-- What a standing says of the lines of the page, and how a page ends.
use Rattle.std.proofs.Common.{◌≡◌, ◌≢◌, ℕ, ◌+◌, ◌-◌, ◌<◌, ◌≤◌, List, [], ◌∷◌, ◌++◌, refl, sym, ap, subst, ◌∙◌, arith, length, take, drop, map, Some, slice_get, IsSomeAnd}
use Rattle.std.proofs.lemmas.List.{append-nil, append_assoc, length-append, length-map, length_push, map-append, take-append-drop, take-append-le, take_all}
use Rattle.page_lines.specs.declared.Last.TheVariants.{Clean, Open}
use Rattle.page_lines.specs.declared.Place.TheVariants.{Within, Behind, Passing}
use Rattle.page_lines.specs.declared.Step.{Step}
use Rattle.page_lines.specs.declared.Step.TheVariants.{Line, More, TooLong}
use Rattle.page_lines.specs.Lines.{Plain, ended_lines, open_line, lines_of, without_empty_last}
use Rattle.page_lines.specs.Told.{whole, too_long, told_line, told_of}
use Rattle.page_lines.specs.Feeding.{Feeding, Stands, IsStep, IsEnd, told_by}
use Rattle.page_lines.proofs.Ends.{open_line-plain, lines_of-more, lines_of-open, lines_of-end, clean-none}
use Rattle.page_lines.proofs.TellingOn.{told_goes_on}
use Rattle.page_lines.proofs.Telling.{told_line-short, told_line-long, told-short, told-long}

-- ---- what the lines of the page are

get-at : (xs : List (List ℕ)) (y : List ℕ) (ys : List (List ℕ)) → slice_get (xs ++ y ∷ ys) (length xs) ≡ Some y
get-at [] y ys = refl
get-at (x ∷ xs) y ys = get-at xs y ys

-- the line that was told of last, however the page goes on
pub line-stays : (fed more : List ℕ) (at : Feeding) → Stands fed at → at.place ≡ Behind → slice_get (lines_of (fed ++ more)) (at.number - 1) ≡ Some at.line
line-stays fed more at s place =
    let b = s.behind place in
    let others = lines_of (open_line fed ++ more) in
    let lines : lines_of (fed ++ more) ≡ b.before ++ at.line ∷ others =
    lines_of-more fed more ∙ ap (λ ls. ls ++ others) b.last ∙ append_assoc b.before (at.line ∷ []) others
    in
    let n : at.number - 1 ≡ length b.before = omega (arith, b.number, ap length b.last, length_push b.before at.line) in
    rw (lines, n) (get-at b.before at.line others)

pub past-stays : (fed more : List ℕ) (at : Feeding) → Stands fed at → at.place ≡ Passing
    → IsSomeAnd (slice_get (lines_of (fed ++ more)) (at.number - 1)) (λ line. (at.most < length line) × (take at.most line ≡ at.line))
past-stays fed more at s place = go (open_line fed) refl
  where
    go : (l : List ℕ) → open_line fed ≡ l → IsSomeAnd (slice_get (lines_of (fed ++ more)) (at.number - 1)) (λ line. (at.most < length line) × (take at.most line ≡ at.line))
    go [] e = absurd (omega (arith, (s.passing place).long, ap length e))
    go (c ∷ cs) e =
        let p = s.passing place in
        let o = lines_of-open c cs more (subst Plain e (open_line-plain fed)) in
        let lines : lines_of (fed ++ more) ≡ ended_lines fed ++ ((c ∷ cs) ++ o.0) ∷ o.1 =
        lines_of-more fed more ∙ ap (λ l. ended_lines fed ++ lines_of (l ++ more)) e ∙ ap (λ ls. ended_lines fed ++ ls) o.2
        in
        let n : at.number - 1 ≡ length (ended_lines fed) = omega (arith, p.number) in
        let long : at.most < length (c ∷ cs) = rw e at p.long in
        let first : take at.most ((c ∷ cs) ++ o.0) ≡ at.line =
        take-append-le at.most (c ∷ cs) o.0 (omega (arith, long)) ∙ ap (take at.most) (sym e) ∙ sym p.line
        in
        rw (lines, n, get-at) (omega (arith, long, length-append (c ∷ cs) o.0), first)

pub number-line : (fed : List ℕ) (at : Feeding) → Stands fed at → at.place ≡ Behind → at.number ≡ length (told_of at.most fed)
number-line fed at s place =
    let b = s.behind place in
    let short : length (open_line fed) ≤ at.most = rw b.none (omega arith) in
    b.number ∙ sym (ap length (told-short at.most fed short) ∙ length-map (ended_lines fed) (told_line at.most))

pub number-past : (fed : List ℕ) (at : Feeding) → Stands fed at → at.place ≡ Passing → at.number ≡ length (told_of at.most fed)
number-past fed at s place =
    let p = s.passing place in
    p.number ∙ sym (ap length (told-long at.most fed p.long) ∙ length_push (map (told_line at.most) (ended_lines fed)) too_long ∙ ap (λ n. n + 1) (length-map (ended_lines fed) (told_line at.most)))

-- ---- the end of a page

lines-clean : (fed : List ℕ) → open_line fed ≡ [] → lines_of fed ≡ ended_lines fed
lines-clean fed e = lines_of-end fed ∙ ap (λ l. ended_lines fed ++ without_empty_last (l ∷ [])) e ∙ append-nil (ended_lines fed)

lines-open : (fed : List ℕ) → 0 < length (open_line fed) → lines_of fed ≡ ended_lines fed ++ open_line fed ∷ []
lines-open fed some = lines_of-end fed ∙ ap (λ ls. ended_lines fed ++ ls) (go (open_line fed) some)
  where
    go : (l : List ℕ) → 0 < length l → without_empty_last (l ∷ []) ≡ l ∷ []
    go [] h = absurd (omega (arith, h))
    go (c ∷ cs) h = refl

-- the line behind a line feed
pub stands-next : (fed : List ℕ) (at : Feeding) → Stands fed at → at.place ≡ Behind → Stands fed (record { most = at.most; fed = at.fed; line = []; number = at.number + 1; place = Within })
stands-next fed at s place =
    let b = s.behind place in
    record {
      count = s.count;
      within = λ _. record { number = ap (λ n. n + 1) b.number; line = sym b.none; short = omega arith };
      behind = λ e. absurd (cc);
      passing = λ e. absurd (cc);
    }

-- behind a line feed, or where nothing was fed
pub end-clean : (fed : List ℕ) (at : Feeding) → Stands fed at → at.place ≡ Within → at.line ≡ [] → IsEnd fed at Clean
end-clean fed at s place none =
    let w = s.within place in
    let nothing : open_line fed ≡ [] = sym w.line ∙ none in
    record {
      told = ap (map (told_line at.most)) (lines-clean fed nothing) ∙ sym (told-short at.most fed (omega (arith, ap length nothing))) ∙ sym (append-nil (told_of at.most fed));
      clean = (λ _. (clean-none fed).1 nothing, λ _. refl);
      past = λ _. (w.number ∙ ap (λ ls. length ls + 1) (sym (lines-clean fed nothing)), none);
      last = λ e. absurd (cc);
    }

-- within the last line
pub end-open : (fed : List ℕ) (at : Feeding) → Stands fed at → at.place ≡ Within → 0 < length at.line → IsEnd fed at Open
end-open fed at s place some =
    let w = s.within place in
    let length_is = ap length w.line in
    let lines = lines-open fed (omega arith) in
    let n : at.number ≡ length (lines_of fed) = w.number ∙ sym (ap length lines ∙ length_push (ended_lines fed) (open_line fed)) in
    let k : at.number - 1 ≡ length (ended_lines fed) = omega (arith, w.number) in
    let short : length (open_line fed) ≤ at.most = omega (arith, w.short) in
    record {
      told = rw place (ap (map (told_line at.most)) lines ∙ map-append (told_line at.most) (ended_lines fed) (open_line fed ∷ [])
          ∙ ap (λ t. map (told_line at.most) (ended_lines fed) ++ t ∷ []) (told_line-short at.most (open_line fed) short ∙ ap whole (sym w.line))
          ∙ ap (λ ts. ts ++ whole at.line ∷ []) (sym (told-short at.most fed short)));
      clean = (λ e. absurd (cc), λ yes. absurd (omega (arith, ap length ((clean-none fed).0 yes))));
      past = λ e. absurd (cc);
      last = λ _. (n, rw (lines, k, get-at) (w.line ∙ sym (take_all at.most (open_line fed) short)));
    }

-- past the limit of the last line
pub end-passing : (fed : List ℕ) (at : Feeding) → Stands fed at → at.place ≡ Passing → IsEnd fed at Open
end-passing fed at s place =
    let p = s.passing place in
    let lines = lines-open fed (omega (arith, p.long)) in
    let n : at.number ≡ length (lines_of fed) = p.number ∙ sym (ap length lines ∙ length_push (ended_lines fed) (open_line fed)) in
    let k : at.number - 1 ≡ length (ended_lines fed) = omega (arith, p.number) in
    record {
      told = rw place (ap (map (told_line at.most)) lines ∙ map-append (told_line at.most) (ended_lines fed) (open_line fed ∷ [])
          ∙ ap (λ t. map (told_line at.most) (ended_lines fed) ++ t ∷ []) (told_line-long at.most (open_line fed) p.long)
          ∙ sym (told-long at.most fed p.long) ∙ sym (append-nil (told_of at.most fed)));
      clean = (λ e. absurd (cc), λ yes. absurd (omega (arith, p.long, ap length ((clean-none fed).0 yes))));
      past = λ e. absurd (cc);
      last = λ _. (n, rw (lines, k, get-at) p.line);
    }

-- ---- what a step says of the lines of the page

pub step-number : (old new : Feeding) (piece : List ℕ) (used : ℕ) (step : Step) → IsStep old new piece used step
    → step ≢ More → (fed : List ℕ) → Stands fed old → new.number ≡ length (told_of old.most (fed ++ take used piece))
step-number old new piece used Line s unlike fed at =
    number-line (fed ++ take used piece) new (s.stands fed at) s.place ∙ ap (λ m. length (told_of m (fed ++ take used piece))) s.same
step-number old new piece used More s unlike fed at = absurd (unlike refl)
step-number old new piece used TooLong s unlike fed at =
    number-past (fed ++ take used piece) new (s.stands fed at) s.place ∙ ap (λ m. length (told_of m (fed ++ take used piece))) s.same

pub step-line_stays : (old new : Feeding) (piece : List ℕ) (used : ℕ) (step : Step) → IsStep old new piece used step
    → step ≡ Line → (fed : List ℕ) → Stands fed old → (more : List ℕ) → slice_get (lines_of (fed ++ take used piece ++ more)) (new.number - 1) ≡ Some new.line
step-line_stays old new piece used Line s is fed at more = line-stays (fed ++ take used piece) more new (s.stands fed at) s.place
step-line_stays old new piece used More s is fed at more = absurd (cc)
step-line_stays old new piece used TooLong s is fed at more = absurd (cc)

pub step-past_stays : (old new : Feeding) (piece : List ℕ) (used : ℕ) (step : Step) → IsStep old new piece used step
    → step ≡ TooLong → (fed : List ℕ) → Stands fed old → (more : List ℕ)
    → IsSomeAnd (slice_get (lines_of (fed ++ take used piece ++ more)) (new.number - 1)) (λ line. (new.most < length line) × (take new.most line ≡ new.line))
step-past_stays old new piece used Line s is fed at more = absurd (cc)
step-past_stays old new piece used More s is fed at more = absurd (cc)
step-past_stays old new piece used TooLong s is fed at more = past-stays (fed ++ take used piece) more new (s.stands fed at) s.place

-- a step that told of a line did so since there was something to tell
pub step-only : (old new : Feeding) (piece : List ℕ) (used : ℕ) (step : Step) → IsStep old new piece used step
    → (fed : List ℕ) → Stands fed old → told_of old.most (fed ++ piece) ≡ told_of old.most fed → step ≡ More
step-only old new piece used step s fed at same = go step refl
  where
    -- then as much was told of the piece as of its front
    none_more : length (told_by step new.line) ≡ 0
    none_more =
        let whole : (fed ++ take used piece) ++ drop used piece ≡ fed ++ piece = append_assoc fed (take used piece) (drop used piece) ∙ ap (λ l. fed ++ l) (take-append-drop used piece) in
        let p = told_goes_on old.most (fed ++ take used piece) (drop used piece) in
        let sizes = ap length (sym same ∙ ap (told_of old.most) (sym whole) ∙ p.1 ∙ ap (λ ts. ts ++ p.0) (s.told fed at)) in
        omega (arith, sizes, length-append (told_of old.most fed ++ told_by step new.line) p.0, length-append (told_of old.most fed) (told_by step new.line))

    go : (t : Step) → step ≡ t → step ≡ More
    go Line e = absurd (let n : length (told_by Line new.line) ≡ 0 = subst (λ t. length (told_by t new.line) ≡ 0) e none_more in cc)
    go More e = e
    go TooLong e = absurd (let n : length (told_by TooLong new.line) ≡ 0 = subst (λ t. length (told_by t new.line) ≡ 0) e none_more in cc)
