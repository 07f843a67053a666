-- How a reader of a page answers at the end.
use Rattle.std.proofs.Common.{◌≡◌, ℕ, suc, ◌+◌, ◌-◌, ◌^◌, ◌<◌, ◌≤◌, Bool, true, false, cond, nat_lt, List, [], ◌∷◌, ◌++◌, length, map, Some, None, Result, Ok, Err, refl, sym, ap, subst, ◌∙◌, arith}
use Rattle.std.specs.Prelude.{option_map, ⊤, IfOk}
use Rattle.std.specs.Option.{option_or}
use Rattle.std.specs.List.{slice_split, onto_first, fold}
use Rattle.std.proofs.lemmas.List.{append-nil, map-append, length-map, length-append}
use Rattle.std.proofs.lemmas.Bool.Decides.{nat_tests}
use Rattle.page_lines.specs.declared.Last.TheVariants.{Clean, Open}
use Rattle.page_lines.specs.declared.Place.{Place}
use Rattle.page_lines.specs.declared.Place.TheVariants.{Within, Behind, Passing}
use Rattle.page_lines.specs.Feeding.{Feeding, IsEnd, told_at_end}
use Rattle.page_lines.specs.Feeding as feeding
use Rattle.page_lines.specs.Told.{Told, told_of, told_line, whole, too_long}
use Rattle.page_lines.specs.Lines.{lines_of, ends_clean, ended_lines, open_line, is_line_feed, without_empty_last}
use Rattle.page_lines.proofs.Laws.{whole_lines}
use Rattle.page_model.specs.declared.format.Format.{Format}
use Rattle.page_model.specs.declared.format.Treatment.{Treatment}
use Rattle.page_model.specs.declared.item.Item.{Item}
use Rattle.page_model.specs.declared.page.Page.{Page}
use Rattle.page_model.specs.declared.counts.PageCounts.{PageCounts}
use Rattle.page_model.specs.Counts.{counts_of}
use Rattle.page_feeding.specs.declared.reader.PageEnd.{PageEnd}
use Rattle.page_model.specs.declared.fault.PageFault.{PageFault}
use Rattle.page_model.specs.declared.fault.PageFault.TheVariants as faults
use Rattle.page_model.specs.Written.{Setting, line_limit}
use Rattle.page_model.specs.Faults.{Line as PageLine, line_fault, lines_fault, end_fault, fault_from, fault_of, with_line, with_lines}
use Rattle.page_model.specs.Readings.{page_of}
use Rattle.page_model.specs.Pages.{items_of}
use Rattle.page_model.specs.PageReading.{line_read, text_fault, text_page}
use Rattle.page_model.proofs.Laws.{front_fault, first_fault_read, page_is_read, fault_from-append}
use Rattle.family_rules.specs.Checking.{Checking}
use Rattle.family_rules.specs.Checking as checking
use Rattle.line_scan.specs.LineReading.{setting_of}
use Rattle.page_feeding.specs.PageFeeding.{Fed, Stands, Answers, LineAnswer, TakesLine, AtLast, IsEnded, EndAnswer, CountAnswers}
use Rattle.page_feeding.proofs.PageSteps.{fault_at, fault_snoc, with_snoc}

-- ---- how many lines there are

count_behind : (s : List (List ℕ)) (n : ℕ) → length (without_empty_last s) ≤ n → length (without_empty_last ([] ∷ s)) ≤ suc n
count_behind [] n h = omega arith
count_behind (q ∷ qs) n h = omega arith

count_onto : (x : ℕ) (s : List (List ℕ)) (n : ℕ) → length (without_empty_last s) ≤ n → length (without_empty_last (onto_first x s)) ≤ suc n
count_onto x [] n h = omega arith
count_onto x (q ∷ []) n h = omega arith
count_onto x ([] ∷ r ∷ rs) n h = omega arith
count_onto x ((y ∷ ys) ∷ r ∷ rs) n h = omega arith

count_split : (c : ℕ) (s : List (List ℕ)) (n : ℕ) (b : Bool) → length (without_empty_last s) ≤ n → length (without_empty_last (cond b ([] ∷ s) (onto_first c s))) ≤ suc n
count_split c s n true h = count_behind s n h
count_split c s n false h = count_onto c s n h

few_lines : (page : List ℕ) → length (lines_of page) ≤ length page
unfolding lines_of
few_lines [] = omega arith
few_lines (c ∷ cs) = count_split c (slice_split is_line_feed cs) (length cs) (is_line_feed c) (few_lines cs)

-- ---- the fault and the page of lines that were taken

folded : (f : Format) (ls : List PageLine) (earlier : List Item) → fold (λ above l. with_line f l above) earlier ls ≡ with_lines f ls earlier
unfolding with_lines
folded f [] earlier = refl
folded f (l ∷ ls) earlier = folded f ls (with_line f l earlier)

module _ (f : Format) (t : Treatment) (limit : ℕ) (fed : List ℕ) (told : List (List ℕ)) (clean : Bool) (lines : lines_of fed ≡ told) (ends : ends_clean fed ≡ clean)
    (free : lines_fault (setting_of f t limit) [] 1 (map (line_read f) told) ≡ None) where
  end_is : text_fault (setting_of f t limit) fed ≡ option_map (λ rule. fault_at (1 + length told) rule) (end_fault (setting_of f t limit) (with_lines f (map (line_read f) told) []) clean)
  unfolding text_fault fault_from
  end_is =
      ap (λ (ls : List (List ℕ)). fault_of (setting_of f t limit) (map (line_read f) ls) (ends_clean fed)) lines
      ∙ ap (λ b. fault_of (setting_of f t limit) (map (line_read f) told) b) ends
      ∙ ap (λ (ls : List PageLine). fault_of (setting_of f t limit) ls clean) (sym (append-nil (map (line_read f) told)))
      ∙ fault_from-append (setting_of f t limit) [] 1 (map (line_read f) told) [] clean
      ∙ ap (λ o. option_or o (fault_from (setting_of f t limit) (with_lines f (map (line_read f) told) []) (1 + length (map (line_read f) told)) [] clean)) free
      ∙ ap (λ k. option_map (λ rule. fault_at (1 + k) rule) (end_fault (setting_of f t limit) (with_lines f (map (line_read f) told) []) clean)) (length-map told (line_read f))

  page_is : text_page (setting_of f t limit) fed ≡ page_of (setting_of f t limit) (with_lines f (map (line_read f) told) [])
  unfolding text_page
  page_is = ap (λ (ls : List (List ℕ)). page_of (setting_of f t limit) (items_of f (map (line_read f) ls))) lines ∙ ap (page_of (setting_of f t limit)) (folded f (map (line_read f) told) [])

  close-answers : (number : ℕ) (result : Result Page PageFault) → number ≡ 1 + length told
      → checking.Answers number (end_fault (setting_of f t limit) (with_lines f (map (line_read f) told) []) clean) result
      → IfOk result (λ page. page ≡ page_of (setting_of f t limit) (with_lines f (map (line_read f) told) [])) → Answers (setting_of f t limit) fed result
  close-answers number (Ok page) e answer is = (page_is_read (setting_of f t limit) fed page).1 (end_is ∙ rw answer refl, is ∙ sym page_is)
  close-answers number (Err (faults.Refused n rule)) e answer is = (first_fault_read (setting_of f t limit) fed (n, rule)).1 (end_is ∙ rw answer.1 (ap (λ k. Some (fault_at k rule)) (sym (answer.0 ∙ e))))
  close-answers number (Err faults.Memory) e answer is = tt

-- what the end of a checker that took all lines says of the page
module _ (f : Format) (t : Treatment) (limit : ℕ) (fed : List ℕ) (c : Checking) (e : PageEnd) (ended : IsEnded f t limit fed c e) where
  abbrev all_items : List Item
  all_items = with_lines f (map (line_read f) (lines_of fed)) []

  pub end-closed : (result : Result Page PageFault)
      → ((st : Setting) (earlier : List Item) → checking.Stands st c earlier → checking.Answers e.line (end_fault st earlier e.clean) result)
      → ((st : Setting) (earlier : List Item) → checking.Stands st c earlier → IfOk result (λ page. page ≡ page_of st earlier)) → Answers (setting_of f t limit) fed result
  end-closed result answer page = close-answers f t limit fed (lines_of fed) e.clean refl (sym ended.clean) ended.without_fault e.line result ended.line
      (answer (setting_of f t limit) all_items ended.checker_stands) (page (setting_of f t limit) all_items ended.checker_stands)

  pub end-counted : (result : Result PageCounts PageFault)
      → ((st : Setting) (earlier : List Item) → checking.Stands st c earlier → checking.Answers e.line (end_fault st earlier e.clean) result)
      → ((st : Setting) (earlier : List Item) → checking.Stands st c earlier → IfOk result (λ counts. counts ≡ counts_of (page_of st earlier))) → CountAnswers (setting_of f t limit) fed result
  end-counted (Ok counts) answer is = record {
    page = page_of (setting_of f t limit) all_items;
    is_page = close-answers f t limit fed (lines_of fed) e.clean refl (sym ended.clean) ended.without_fault e.line (Ok (page_of (setting_of f t limit) all_items)) ended.line
        (answer (setting_of f t limit) all_items ended.checker_stands) refl;
    counted = is (setting_of f t limit) all_items ended.checker_stands;
  }
  end-counted (Err (faults.Refused n rule)) answer is = close-answers f t limit fed (lines_of fed) e.clean refl (sym ended.clean) ended.without_fault e.line (Err (faults.Refused n rule)) ended.line
      (answer (setting_of f t limit) all_items ended.checker_stands) tt
  end-counted (Err faults.Memory) answer is = tt

-- ---- the last line

module _ (f : Format) (t : Treatment) (limit : ℕ) (fed : List ℕ) (old new : Fed) (a : AtLast f t limit fed old) where
  snoc_fault : lines_fault (setting_of f t limit) [] 1 (map (line_read f) (a.told ++ old.lines.line ∷ [])) ≡ option_map (λ rule. fault_at (1 + length a.told) rule) (line_fault (setting_of f t limit) (with_lines f (map (line_read f) a.told) []) (line_read f old.lines.line))
  snoc_fault = ap (lines_fault (setting_of f t limit) [] 1) (map-append (line_read f) a.told (old.lines.line ∷ [])) ∙ fault_snoc (setting_of f t limit) [] 1 (map (line_read f) a.told) (line_read f old.lines.line) a.without_fault
      ∙ ap (λ k. option_map (λ rule. fault_at (1 + k) rule) (line_fault (setting_of f t limit) (with_lines f (map (line_read f) a.told) []) (line_read f old.lines.line))) (length-map a.told (line_read f))

  of_t : (result : Result ⊤ PageFault) → TakesLine f old new result → LineAnswer (setting_of f t limit) (with_lines f (map (line_read f) a.told) []) old.lines.line old.lines.number new.checker result
  of_t result takes = subst (λ (x : Treatment). LineAnswer (setting_of f x limit) (with_lines f (map (line_read f) a.told) []) old.lines.line old.lines.number new.checker result) a.treatment
      (takes.answer limit (with_lines f (map (line_read f) a.told) []) (subst (λ (x : Treatment). checking.Stands (setting_of f x limit) old.checker (with_lines f (map (line_read f) a.told) [])) (sym a.treatment) a.checker_stands))

  pub last-refused : (fault : PageFault) → TakesLine f old new (Err fault) → EndAnswer f t limit fed new.checker (Err fault)
  last-refused (faults.Refused n rule) takes =
      let answer = of_t (Err (faults.Refused n rule)) takes in
      front_fault (setting_of f t limit) fed (a.told ++ old.lines.line ∷ []) [] (n, rule) (a.lines_are ∙ sym (append-nil (a.told ++ old.lines.line ∷ [])))
      (snoc_fault ∙ rw answer.1 (ap (λ k. Some (fault_at k rule)) (sym (answer.0 ∙ a.number))))
  last-refused faults.Memory takes = tt

  pub last-taken : (u : ⊤) → TakesLine f old new (Ok u) → (e : PageEnd) → e.line ≡ 1 + (length a.told + 1) → e.clean ≡ false → IsEnded f t limit fed new.checker e
  last-taken u takes e line clean =
      let taken = of_t (Ok u) takes in
      let items : with_lines f (map (line_read f) (a.told ++ old.lines.line ∷ [])) [] ≡ with_line f (line_read f old.lines.line) (with_lines f (map (line_read f) a.told) []) =
      ap (λ (ls : List PageLine). with_lines f ls []) (map-append (line_read f) a.told (old.lines.line ∷ [])) ∙ with_snoc f (map (line_read f) a.told) (line_read f old.lines.line) [] in
      let stands = subst (λ (x : List Item). checking.Stands (setting_of f t limit) new.checker x) (sym items) taken.1 in
      record {
        line = line ∙ ap (λ k. 1 + k) (sym (length-append a.told (old.lines.line ∷ []))) ∙ ap (λ (ls : List (List ℕ)). 1 + length ls) (sym a.lines_are);
        clean = clean ∙ sym a.not_clean;
        without_fault = ap (λ (ls : List (List ℕ)). lines_fault (setting_of f t limit) [] 1 (map (line_read f) ls)) a.lines_are ∙ snoc_fault ∙ rw taken.0 refl;
        checker_stands = subst (λ (ls : List (List ℕ)). checking.Stands (setting_of f t limit) new.checker (with_lines f (map (line_read f) ls) [])) (sym a.lines_are) stands;
      }

-- ---- the end of the lines

no_too_long : (xs : List Told) (told : List (List ℕ)) → xs ++ too_long ∷ [] ≡ map whole told → ⊥
no_too_long [] [] e = absurd cc
no_too_long [] (l ∷ ls) e = absurd cc
no_too_long (x ∷ xs) [] e = absurd cc
no_too_long (x ∷ xs) (l ∷ ls) e = no_too_long xs ls cc

module _ (f : Format) (t : Treatment) (limit : ℕ) (fed : List ℕ) (old mid : Fed) (s : Stands f t limit fed old) (most : mid.lines.most ≡ old.lines.most) where
  pub clean-lines : IsEnd fed mid.lines Clean → lines_of fed ≡ s.told
  clean-lines e = whole_lines (line_limit t) (lines_of fed) s.told (rw (most, s.most, append-nil, s.told_is) at e.told)

  told_passing : feeding.Stands fed mid.lines → mid.lines.place ≡ Passing → ⊥
  unfolding told_of
  told_passing stand is =
      let long : nat_lt (line_limit t) (length (open_line fed)) ≡ true = (let p = (stand.passing is).long in grind (arith, nat_tests, most, s.most)) in
      no_too_long (map (told_line (line_limit t)) (ended_lines fed)) s.told ((let e = s.told_is in rw long at e))

  pub at_last : feeding.Stands fed mid.lines → IsEnd fed mid.lines Open → mid.treatment ≡ old.treatment → mid.checker ≡ old.checker → length fed < 2 ^ 32 - 1 → AtLast f t limit fed mid
  at_last stand e treatment checker few = go mid.lines.place refl
    where
      lines : told_at_end Open mid.lines.place mid.lines.line ≡ whole mid.lines.line ∷ [] → lines_of fed ≡ s.told ++ mid.lines.line ∷ []
      lines h = whole_lines (line_limit t) (lines_of fed) (s.told ++ mid.lines.line ∷ []) ((rw (most, s.most, s.told_is, h) at e.told) ∙ sym (map-append whole s.told (mid.lines.line ∷ [])))

      not_clean : ends_clean fed ≡ false
      not_clean = open_ends (ends_clean fed) refl
        where
          open_ends : (b : Bool) → ends_clean fed ≡ b → ends_clean fed ≡ false
          open_ends true h = absurd (let k = e.clean.1 h in cc)
          open_ends false h = h

      made : told_at_end Open mid.lines.place mid.lines.line ≡ whole mid.lines.line ∷ [] → AtLast f t limit fed mid
      made h =
          let are = lines h in
          let size = ap length are ∙ length-append s.told (mid.lines.line ∷ []) in
          record {
            treatment = treatment ∙ s.treatment;
            told = s.told;
            lines_are = are;
            number = (e.last refl).0 ∙ size ∙ (let k : length s.told + 1 ≡ 1 + length s.told = omega arith in k);
            few = omega (arith, size, few_lines fed);
            not_clean = not_clean;
            without_fault = s.without_fault;
            checker_stands = rw checker s.checker_stands;
          }

      go : (place : Place) → mid.lines.place ≡ place → AtLast f t limit fed mid
      go Within is = made (rw is refl)
      go Behind is = made (rw is refl)
      go Passing is = absurd (told_passing stand is)

-- what the reader of lines shows at the end of the bytes
module _ (f : Format) (t : Treatment) (limit : ℕ) (fed : List ℕ) (old : Fed) (s : Stands f t limit fed old) (lines : Feeding) (most : lines.most ≡ old.lines.most) where
  abbrev mid : Fed
  mid = record { treatment = old.treatment; lines = lines; checker = old.checker; stopped = old.stopped }

  pub ended-clean : ((bytes : List ℕ) → feeding.Stands bytes old.lines → IsEnd bytes lines Clean) → (number : ℕ) → number ≡ lines.number
      → IsEnded f t limit fed old.checker (record { line = number; clean = true })
  ended-clean ends number is =
      let end : IsEnd fed lines Clean = ends fed s.lines_stand in
      let all : lines_of fed ≡ s.told = clean-lines f t limit fed old mid s most end in
      record {
        line = omega (arith, is, (end.past refl).0);
        clean = sym (end.clean.0 refl);
        without_fault = ap (λ (ls : List (List ℕ)). lines_fault (setting_of f t limit) [] 1 (map (line_read f) ls)) all ∙ s.without_fault;
        checker_stands = subst (λ (ls : List (List ℕ)). checking.Stands (setting_of f t limit) old.checker (with_lines f (map (line_read f) ls) [])) (sym all) s.checker_stands;
      }

  pub ended-open : ((bytes : List ℕ) → feeding.Stands bytes old.lines → feeding.Stands bytes lines) → ((bytes : List ℕ) → feeding.Stands bytes old.lines → IsEnd bytes lines Open)
      → old.lines.fed < 2 ^ 32 - 1 → AtLast f t limit fed mid
  ended-open stand ends few =
      let count : length fed < 2 ^ 32 - 1 = omega (arith, few, s.lines_stand.count) in
      at_last f t limit fed old mid s most (stand fed s.lines_stand) (ends fed s.lines_stand) refl refl count
