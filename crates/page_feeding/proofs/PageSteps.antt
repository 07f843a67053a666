-- How a reader of a page stands after each step.
use Rattle.std.proofs.Common.{◌≡◌, ◌≢◌, ℕ, zero, suc, ◌+◌, ◌-◌, ◌<◌, ◌≤◌, true, false, nat_lt, List, [], ◌∷◌, ◌++◌, length, map, take, drop, Option, Some, None, Result, Ok, Err, refl, sym, ap, subst, ◌∙◌, arith}
use Rattle.std.specs.Prelude.{option_map}
use Rattle.std.specs.Option.{option_or}
use Rattle.std.proofs.lemmas.List.{append-nil, append_assoc, map-append, length-map, length-append, length-drop, take-append-drop}
use Rattle.std.proofs.Math.Seq.{take-add}
use Rattle.line_scan.proofs.Laws.{tail_slice}
use Rattle.std.proofs.lemmas.Bool.Decides.{nat_tests}
use Rattle.page_lines.specs.declared.Step.{Step}
use Rattle.page_lines.specs.declared.Step.TheVariants.{Line, More, TooLong}
use Rattle.page_lines.specs.Feeding.{Feeding, told_by}
use Rattle.page_lines.specs.Feeding as feeding
use Rattle.page_lines.specs.Told.{Told, told_of, whole, too_long}
use Rattle.page_lines.specs.Lines.{ended_lines, open_line}
use Rattle.page_lines.proofs.Laws.{told_first, long_next}
use Rattle.page_model.specs.declared.format.Format.{Format}
use Rattle.page_model.specs.declared.format.Treatment.{Treatment}
use Rattle.page_model.specs.declared.item.Item.{Item}
use Rattle.page_model.specs.declared.rule.Rule.{Rule}
use Rattle.page_model.specs.declared.rule.Rule.TheVariants as rules
use Rattle.page_model.specs.declared.fault.PageFault.{PageFault}
use Rattle.page_model.specs.declared.fault.PageFault.TheVariants as faults
use Rattle.page_model.specs.Written.{Setting, line_limit}
use Rattle.page_model.specs.Faults.{Line as PageLine, Fault, line_fault, lines_fault, with_line, with_lines}
use Rattle.page_model.specs.Pages.{FirstFault}
use Rattle.page_model.specs.PageReading.{line_read, written_of}
use Rattle.page_model.proofs.Laws.{front_fault, too_long_fault}
use Rattle.family_rules.specs.Checking.{Checking}
use Rattle.family_rules.specs.Checking as checking
use Rattle.std.specs.Prelude.{option_and_then, OnOk, IfOk, IsOk, ⊤}
use Rattle.std.specs.Option.{option_map_or}
use Rattle.page_model.specs.Written.{Written, item_of}
use Rattle.page_model.specs.Faults.{own_fault, item_fault}
use Rattle.line_scan.specs.declared.line.LineRead.TheVariants as reads
use Rattle.line_scan.specs.LineReading.{IsRead, setting_of}
use Rattle.page_feeding.specs.PageFeeding.{TakesLine, TakesStep, line_result, Fed, Stands, Refuses, LineAnswer, StepAnswer}
use Rattle.label_sets.proofs.Laws.{option_or-none}

-- ---- one line more

abbrev pub fault_at : ℕ → Rule → Fault
fault_at n rule = (n, rule)

pub with_snoc : (f : Format) (ls : List PageLine) (l : PageLine) (earlier : List Item) → with_lines f (ls ++ l ∷ []) earlier ≡ with_line f l (with_lines f ls earlier)
unfolding with_lines
with_snoc f [] l earlier = refl
with_snoc f (m ∷ ls) l earlier = with_snoc f ls l (with_line f m earlier)

pub fault_snoc : (st : Setting) (earlier : List Item) (n : ℕ) (ls : List PageLine) (l : PageLine) → lines_fault st earlier n ls ≡ None
    → lines_fault st earlier n (ls ++ l ∷ []) ≡ option_map (λ rule. fault_at (n + length ls) rule) (line_fault st (with_lines st.format ls earlier) l)
unfolding lines_fault with_lines
fault_snoc st earlier n [] l h = last (line_fault st earlier l)
  where
    last : (o : Option Rule) → option_or (option_map (λ rule. (n, rule)) o) None ≡ option_map (λ rule. fault_at (n + 0) rule) o
    last None = refl
    last (Some rule) = ap (λ k. Some (fault_at k rule)) (let e : n ≡ n + 0 = omega arith in e)
fault_snoc st earlier n (m ∷ ls) l h =
    let both = option_or-none (option_map (λ rule. (n, rule)) (line_fault st earlier m)) (lines_fault st (with_line st.format m earlier) (n + 1) ls) h in
    let number : n + 1 + length ls ≡ n + suc (length ls) = omega arith in
    ap (λ o. option_or o (lines_fault st (with_line st.format m earlier) (n + 1) (ls ++ l ∷ []))) both.0
    ∙ fault_snoc st (with_line st.format m earlier) (n + 1) ls l both.1
    ∙ ap (λ k. option_map (λ rule. fault_at k rule) (line_fault st (with_lines st.format ls (with_line st.format m earlier)) l)) number

-- ---- a reader of lines that took a step

module _ (f : Format) (t : Treatment) (limit : ℕ) (fed next : List ℕ) (old : Fed) (s : Stands f t limit fed old) where
  abbrev pub st : Setting
  st = setting_of f t limit

  abbrev pub taken_lines : List PageLine
  taken_lines = map (line_read f) s.told

  -- no line is told of
  pub stands-more : (new : Fed) → new.stopped ≡ old.stopped → new.treatment ≡ old.treatment → new.checker ≡ old.checker → new.lines.most ≡ old.lines.most → feeding.Stands next new.lines
      → told_of old.lines.most next ≡ told_of old.lines.most fed ++ [] → Stands f t limit next new
  stands-more new stopped treatment checker most stand tell = record {
    working = stopped ∙ s.working;
    treatment = treatment ∙ s.treatment;
    most = most ∙ s.most;
    lines_stand = stand;
    told = s.told;
    told_is = (let e = rw (s.most, append-nil) at tell in e) ∙ s.told_is;
    without_fault = s.without_fault;
    checker_stands = rw checker s.checker_stands;
  }

  module _ (line : List ℕ) where
    read-snoc : map (line_read f) (s.told ++ line ∷ []) ≡ taken_lines ++ line_read f line ∷ []
    read-snoc = map-append (line_read f) s.told (line ∷ [])

    fault-snoc : lines_fault st [] 1 (map (line_read f) (s.told ++ line ∷ [])) ≡ option_map (λ rule. fault_at (1 + length s.told) rule) (line_fault st (with_lines f taken_lines []) (line_read f line))
    fault-snoc = ap (lines_fault st [] 1) read-snoc ∙ fault_snoc st [] 1 taken_lines (line_read f line) s.without_fault
        ∙ ap (λ k. option_map (λ rule. fault_at (1 + k) rule) (line_fault st (with_lines f taken_lines []) (line_read f line))) (length-map s.told (line_read f))

    -- a line is told of and taken
    pub stands-line : (new : Fed) → new.stopped ≡ old.stopped → new.treatment ≡ old.treatment → new.lines.most ≡ old.lines.most → feeding.Stands next new.lines
        → told_of old.lines.most next ≡ told_of old.lines.most fed ++ whole line ∷ []
        → line_fault st (with_lines f taken_lines []) (line_read f line) ≡ None → checking.Stands st new.checker (with_line f (line_read f line) (with_lines f taken_lines []))
        → Stands f t limit next new
    stands-line new stopped treatment most stand tell free taken = record {
      working = stopped ∙ s.working;
      treatment = treatment ∙ s.treatment;
      most = most ∙ s.most;
      lines_stand = stand;
      told = s.told ++ line ∷ [];
      told_is = (let e = rw s.most at tell in e) ∙ ap (λ (l : List Told). l ++ whole line ∷ []) s.told_is ∙ sym (map-append whole s.told (line ∷ []));
      without_fault = fault-snoc ∙ rw free refl;
      checker_stands = rw (read-snoc, with_snoc f taken_lines (line_read f line) []) taken;
    }

    -- a line is told of and refused
    pub refuses-line : (rule : Rule) → told_of old.lines.most next ≡ told_of old.lines.most fed ++ whole line ∷ []
        → line_fault st (with_lines f taken_lines []) (line_read f line) ≡ Some rule → (more : List ℕ) → FirstFault st (next ++ more) (1 + length s.told, rule)
    refuses-line rule tell broken more =
        let told_is : told_of (line_limit t) next ≡ map whole (s.told ++ line ∷ []) = (let e = rw s.most at tell in e) ∙ ap (λ (l : List Told). l ++ whole line ∷ []) s.told_is ∙ sym (map-append whole s.told (line ∷ [])) in
        let first = told_first (line_limit t) next more (s.told ++ line ∷ []) told_is in
        front_fault st (next ++ more) (s.told ++ line ∷ []) first.0 (1 + length s.told, rule) first.1 (fault-snoc ∙ rw broken refl)

  -- a line is too long
  pub refuses-long : told_of old.lines.most next ≡ told_of old.lines.most fed ++ too_long ∷ [] → (more : List ℕ) → FirstFault st (next ++ more) (1 + length s.told, rules.TooLong)
  refuses-long tell more =
      let told_is : told_of (line_limit t) next ≡ map whole s.told ++ too_long ∷ [] = (let e = rw s.most at tell in e) ∙ ap (λ (l : List Told). l ++ too_long ∷ []) s.told_is in
      let first = long_next (line_limit t) next more s.told told_is in
      let long : nat_lt (line_limit t) (length first.0) ≡ true = grind (arith, nat_tests, first.2) in
      front_fault st (next ++ more) (s.told ++ first.0 ∷ []) first.1 (1 + length s.told, rules.TooLong) (first.3 ∙ sym (append_assoc s.told (first.0 ∷ []) first.1))
      (fault-snoc first.0 ∙ rw (too_long_fault st (with_lines f taken_lines []) (line_read f first.0) long) refl)

  -- how many lines were told of
  pub told_count : (x : Told) → told_of old.lines.most next ≡ ◌++◌ {A = Told} (told_of old.lines.most fed) (x ∷ []) → length (told_of old.lines.most next) ≡ 1 + length s.told
  told_count x tell = rw (tell, s.most, s.told_is) (let a = length-append (map whole s.told) (x ∷ []) in let b = length-map s.told whole in omega arith)

-- ---- a line that is read

line-item : (f : Format) (t : Treatment) (limit : ℕ) (earlier : List Item) (line : List ℕ) (item : Item) → IsRead f t line (reads.Item item)
    → (line_fault (setting_of f t limit) earlier (line_read f line) ≡ item_fault (setting_of f t limit) earlier item) × (with_line f (line_read f line) earlier ≡ item ∷ earlier)
unfolding line_fault
line-item f t limit earlier line item h = go (written_of f line) h.1 (h.0 limit)
  where
    go : (says : Option Written) → option_map (item_of f) says ≡ Some item → own_fault (setting_of f t limit) (line_read f line) ≡ None
        → (option_or (own_fault (setting_of f t limit) (line_read f line)) (option_and_then (λ w. item_fault (setting_of f t limit) earlier (item_of f w)) says) ≡ item_fault (setting_of f t limit) earlier item)
        × (option_map_or (λ w. item_of f w ∷ earlier) says earlier ≡ item ∷ earlier)
    go None e none = absurd cc
    go (Some w) e none = let same : item_of f w ≡ item = cc in (rw (none, same) refl, rw same refl)

pub answer-item : (f : Format) (t : Treatment) (limit : ℕ) (earlier : List Item) (line : List ℕ) (number : ℕ) (item : Item) (new : Checking) (result : Result ⊤ PageFault) → IsRead f t line (reads.Item item)
    → checking.Answers number (item_fault (setting_of f t limit) earlier item) result → OnOk result (checking.Stands (setting_of f t limit) new (item ∷ earlier)) → LineAnswer (setting_of f t limit) earlier line number new result
answer-item f t limit earlier line number item new (Ok u) read answer taken =
    let same = line-item f t limit earlier line item read in (same.0 ∙ answer, subst (λ (x : List Item). checking.Stands (setting_of f t limit) new x) (sym same.1) taken)
answer-item f t limit earlier line number item new (Err (faults.Refused n rule)) read answer taken = (answer.0, (line-item f t limit earlier line item read).0 ∙ answer.1)
answer-item f t limit earlier line number item new (Err faults.Memory) read answer taken = tt

pub answer-own : (f : Format) (t : Treatment) (limit : ℕ) (earlier : List Item) (line : List ℕ) (rule : Rule) → IsRead f t line (reads.Refused rule) → line_fault (setting_of f t limit) earlier (line_read f line) ≡ Some rule
unfolding line_fault
answer-own f t limit earlier line rule read = rw (read limit) refl

-- ---- a step over a piece

pub record LinesStep (old new : Feeding) (piece : List ℕ) (used : ℕ) (step : Step) : Type 0 where
  pub most : new.most ≡ old.most
  pub fed : new.fed ≡ old.fed + used
  pub taken : used ≤ length piece
  pub stands : (fed : List ℕ) → feeding.Stands fed old → feeding.Stands (fed ++ take used piece) new
  pub told : (fed : List ℕ) → feeding.Stands fed old → told_of old.most (fed ++ take used piece) ≡ told_of old.most fed ++ told_by step new.line
  pub soonest : step ≢ More → (fed : List ℕ) → feeding.Stands fed old → told_of old.most (fed ++ take (used - 1) piece) ≡ told_of old.most fed
  pub more : step ≡ More → used ≡ length piece
  pub number : step ≢ More → (fed : List ℕ) → feeding.Stands fed old → new.number ≡ length (told_of old.most (fed ++ take used piece))

abbrev pub with_used : ℕ → Result ⊤ PageFault → Result ℕ PageFault
with_used used (Ok u) = Ok used
with_used used (Err fault) = Err fault

grown_no : (xs ys : List Told) (x : Told) → ys ≡ xs ++ x ∷ [] → ys ≡ xs → ⊥
grown_no xs ys x a b = omega (arith, ap length a, ap length b, length-append xs (x ∷ []))

some_used : (used : ℕ) (old : Feeding) (piece fed : List ℕ) (x : Told) → told_of old.most (fed ++ take used piece) ≡ told_of old.most fed ++ x ∷ []
    → told_of old.most (fed ++ take (used - 1) piece) ≡ told_of old.most fed → 0 < used
some_used zero old piece fed x a b = absurd (grown_no _ _ x a b)
some_used (suc n) old piece fed x a b = omega arith

regroup : (st : Setting) (fed piece : List ℕ) (used : ℕ) (fault : Fault) → ((more : List ℕ) → FirstFault st ((fed ++ take used piece) ++ more) fault) → (more : List ℕ) → FirstFault st ((fed ++ piece) ++ more) fault
regroup st fed piece used fault h more =
    let e : (fed ++ take used piece) ++ (drop used piece ++ more) ≡ (fed ++ piece) ++ more =
    append_assoc fed (take used piece) (drop used piece ++ more) ∙ ap (λ (x : List ℕ). fed ++ x) (sym (append_assoc (take used piece) (drop used piece) more) ∙ ap (λ (x : List ℕ). x ++ more) (take-append-drop used piece)) ∙ sym (append_assoc fed piece more) in
    subst (λ (x : List ℕ). FirstFault st x fault) e (h (drop used piece ++ more))

module _ (f : Format) (t : Treatment) (limit : ℕ) (fed piece : List ℕ) (old mid new : Fed) (used : ℕ) (s : Stands f t limit fed old) where
  pub step-more : LinesStep old.lines mid.lines piece used More → mid.stopped ≡ old.stopped → mid.treatment ≡ old.treatment → mid.checker ≡ old.checker → new ≡ mid → StepAnswer f t limit fed piece new (Ok used)
  step-more l stopped treatment checker same = (
    subst (Stands f t limit (fed ++ take used piece)) (sym same) (stands-more f t limit fed (fed ++ take used piece) old s mid stopped treatment checker l.most (l.stands fed s.lines_stand) (l.told fed s.lines_stand)),
    λ h. absurd (omega (arith, l.more refl)),
  )

  pub step-long : LinesStep old.lines mid.lines piece used TooLong → StepAnswer f t limit fed piece new (Err (faults.Refused mid.lines.number rules.TooLong))
  step-long l =
      let tell = l.told fed s.lines_stand in
      let number : mid.lines.number ≡ 1 + length s.told = l.number (λ e. absurd cc) fed s.lines_stand ∙ told_count f t limit fed (fed ++ take used piece) old s too_long tell in
      regroup (setting_of f t limit) fed piece used (mid.lines.number, rules.TooLong) (λ more. subst (λ n. FirstFault (setting_of f t limit) ((fed ++ take used piece) ++ more) (n, rules.TooLong)) (sym number) (refuses-long f t limit fed (fed ++ take used piece) old s tell more))

  pub step-line : LinesStep old.lines mid.lines piece used Line → mid.stopped ≡ old.stopped → mid.treatment ≡ old.treatment → mid.checker ≡ old.checker → (result : Result ⊤ PageFault) → TakesLine f mid new result → StepAnswer f t limit fed piece new (with_used used result)
  step-line l stopped treatment checker result takes = go result (takes.answer limit (with_lines f (map (line_read f) s.told) []) start)
    where
      of_t : mid.treatment ≡ t
      of_t = treatment ∙ s.treatment

      tell : told_of old.lines.most (fed ++ take used piece) ≡ told_of old.lines.most fed ++ whole mid.lines.line ∷ []
      tell = l.told fed s.lines_stand

      start : checking.Stands (setting_of f mid.treatment limit) mid.checker (with_lines f (map (line_read f) s.told) [])
      start = subst (λ (x : Treatment). checking.Stands (setting_of f x limit) mid.checker (with_lines f (map (line_read f) s.told) [])) (sym of_t) (rw checker s.checker_stands)

      go : (r : Result ⊤ PageFault) → LineAnswer (setting_of f mid.treatment limit) (with_lines f (map (line_read f) s.told) []) mid.lines.line mid.lines.number new.checker r → StepAnswer f t limit fed piece new (with_used used r)
      go (Ok u) answer = (
        stands-line f t limit fed (fed ++ take used piece) old s mid.lines.line new (takes.stopped ∙ stopped) (takes.treatment ∙ treatment) (ap (λ (x : Feeding). x.most) takes.lines ∙ l.most)
            (subst (feeding.Stands (fed ++ take used piece)) (sym takes.lines) (l.stands fed s.lines_stand)) tell (subst (λ (x : Treatment). line_fault (setting_of f x limit) (with_lines f (map (line_read f) s.told) []) (line_read f mid.lines.line) ≡ None) of_t answer.0)
            (subst (λ (x : Treatment). checking.Stands (setting_of f x limit) new.checker (with_line f (line_read f mid.lines.line) (with_lines f (map (line_read f) s.told) []))) of_t answer.1),
        λ h. some_used used old.lines piece fed (whole mid.lines.line) tell (l.soonest (λ e. absurd cc) fed s.lines_stand),
      )
      go (Err (faults.Refused n rule)) answer =
          let number : n ≡ 1 + length s.told = answer.0 ∙ l.number (λ e. absurd cc) fed s.lines_stand ∙ told_count f t limit fed (fed ++ take used piece) old s (whole mid.lines.line) tell in
          regroup (setting_of f t limit) fed piece used (n, rule) (λ more. subst (λ k. FirstFault (setting_of f t limit) ((fed ++ take used piece) ++ more) (k, rule)) (sym number)
          (refuses-line f t limit fed (fed ++ take used piece) old s mid.lines.line rule tell (subst (λ (x : Treatment). line_fault (setting_of f x limit) (with_lines f (map (line_read f) s.told) []) (line_read f mid.lines.line) ≡ Some rule) of_t answer.1) more))
      go (Err faults.Memory) answer = tt

-- ---- nothing was fed

told_nothing : (most : ℕ) → told_of most [] ≡ []
unfolding told_of ended_lines open_line
told_nothing most = let e : nat_lt most 0 ≡ false = grind (arith, nat_tests) in rw e refl

pub stands-nothing : (f : Format) (t : Treatment) (limit : ℕ) (p : Fed) → p.stopped ≡ None → p.treatment ≡ t → p.lines.most ≡ line_limit t → feeding.Stands [] p.lines → checking.Stands (setting_of f t limit) p.checker [] → Stands f t limit [] p
unfolding lines_fault with_lines
stands-nothing f t limit p working treatment most lines checker = record {
  working = working;
  treatment = treatment;
  most = most;
  lines_stand = lines;
  told = [];
  told_is = told_nothing (line_limit t);
  without_fault = refl;
  checker_stands = checker;
}

-- ---- the steps of the calls

pub takes-item : (f : Format) (t : Treatment) (lines : Feeding) (checker : Checking) (stopped : Option PageFault) (line : List ℕ) (number : ℕ) (item : Item) (new : Checking) (result : Result ⊤ PageFault)
    → line ≡ lines.line → number ≡ lines.number → IsRead f t line (reads.Item item)
    → ((st : Setting) (earlier : List Item) → checking.Stands st checker earlier → checking.Answers number (item_fault st earlier item) result)
    → ((st : Setting) (earlier : List Item) → checking.Stands st checker earlier → OnOk result (checking.Stands st new (item ∷ earlier)))
    → TakesLine f (record { treatment = t; lines = lines; checker = checker; stopped = stopped }) (record { treatment = t; lines = lines; checker = new; stopped = stopped }) result
takes-item f t lines checker stopped line number item new result e n read answer taken = record {
  treatment = refl;
  lines = refl;
  stopped = refl;
  answer = λ limit earlier s. subst (λ (x : List ℕ). LineAnswer (setting_of f t limit) earlier x lines.number new result) e
      (subst (λ k. LineAnswer (setting_of f t limit) earlier line k new result) n
      (answer-item f t limit earlier line number item new result read (answer (setting_of f t limit) earlier s) (taken (setting_of f t limit) earlier s)));
}

pub takes-refusal : (f : Format) (old : Fed) (line : List ℕ) (number : ℕ) (rule : Rule) → line ≡ old.lines.line → number ≡ old.lines.number → IsRead f old.treatment line (reads.Refused rule) → TakesLine f old old (Err (faults.Refused number rule))
takes-refusal f old line number rule e n read = record {
  treatment = refl;
  lines = refl;
  stopped = refl;
  answer = λ limit earlier s. (n, subst (λ (x : List ℕ). line_fault (setting_of f old.treatment limit) earlier (line_read f x) ≡ Some rule) e (answer-own f old.treatment limit earlier line rule read));
}

abbrev pub After : Format → Step → Fed → Fed → Result ⊤ PageFault → Type 0
After f More mid new result = IsOk result × (new ≡ mid)
After f Line mid new result = TakesLine f mid new result
After f TooLong mid new result = (new ≡ mid) × (result ≡ Err (faults.Refused mid.lines.number rules.TooLong))

pub after : (f : Format) (step : Step) (mid new : Fed) (used : ℕ) (result : Result ℕ PageFault) → (step ≡ More → IsOk result × (new ≡ mid)) → (step ≡ Line → TakesLine f mid new (line_result result))
    → (step ≡ TooLong → (new ≡ mid) × (result ≡ Err (faults.Refused mid.lines.number rules.TooLong))) → After f step mid new (line_result result)
after f More mid new used (Ok k) a b c = (refl, (a refl).1)
after f More mid new used (Err fault) a b c = absurd (let e = (a refl).0 in cc)
after f Line mid new used result a b c = b refl
after f TooLong mid new used result a b c = ((c refl).0, ap line_result (c refl).1)

used_is : (used : ℕ) (result : Result ℕ PageFault) → IfOk result (λ k. k ≡ used) → with_used used (line_result result) ≡ result
used_is used (Ok k) e = ap (λ n. Ok n) (sym e)
used_is used (Err fault) e = refl

kept-after : (f : Format) (step : Step) (mid new : Fed) (result : Result ⊤ PageFault) → After f step mid new result → (new.stopped ≡ mid.stopped) × (new.lines ≡ mid.lines)
kept-after f More mid new result a = (ap (λ (x : Fed). x.stopped) a.1, ap (λ (x : Fed). x.lines) a.1)
kept-after f Line mid new result a = (a.stopped, a.lines)
kept-after f TooLong mid new result a = (ap (λ (x : Fed). x.stopped) a.0, ap (λ (x : Fed). x.lines) a.0)

step-answer : (f : Format) (t : Treatment) (limit : ℕ) (fed piece : List ℕ) (old mid new : Fed) (used : ℕ) → Stands f t limit fed old → (step : Step) (result : Result ⊤ PageFault) → LinesStep old.lines mid.lines piece used step
    → mid.stopped ≡ old.stopped → mid.treatment ≡ old.treatment → mid.checker ≡ old.checker → After f step mid new result → StepAnswer f t limit fed piece new (with_used used result)
step-answer f t limit fed piece old mid new used s More (Ok u) l stopped treatment checker a = step-more f t limit fed piece old mid new used s l stopped treatment checker a.1
step-answer f t limit fed piece old mid new used s More (Err fault) l stopped treatment checker a = absurd (let f = a.0 in cc)
step-answer f t limit fed piece old mid new used s Line result l stopped treatment checker a = step-line f t limit fed piece old mid new used s l stopped treatment checker result a
step-answer f t limit fed piece old mid new used s TooLong result l stopped treatment checker a =
    subst (λ (r : Result ⊤ PageFault). StepAnswer f t limit fed piece new (with_used used r)) (sym a.1) (step-long f t limit fed piece old mid new used s l)

if_used : (used : ℕ) (result : Result ⊤ PageFault) (P : ℕ → Type 0) → P used → IfOk (with_used used result) P
if_used used (Ok u) P p = p
if_used used (Err fault) P p = tt

step_taken : (f : Format) (old mid new : Fed) (piece : List ℕ) (used : ℕ) (step : Step) (result : Result ⊤ PageFault) → LinesStep old.lines mid.lines piece used step
    → mid.stopped ≡ old.stopped → mid.treatment ≡ old.treatment → mid.checker ≡ old.checker → After f step mid new result → TakesStep f old new piece (with_used used result)
step_taken f old mid new piece used step result l stopped treatment checker a =
    let kept = kept-after f step mid new result a in
    record {
      taken = if_used used result (λ k. (k ≤ length piece) × (new.lines.fed ≡ old.lines.fed + k)) (l.taken, ap (λ (x : Feeding). x.fed) kept.1 ∙ l.fed);
      stopped = kept.0 ∙ stopped;
      answer = λ t limit fed s. step-answer f t limit fed piece old mid new used s step result l stopped treatment checker a;
    }

pub takes-step : (f : Format) (old mid new : Fed) (piece : List ℕ) (used : ℕ) (step : Step) (result : Result ℕ PageFault) → LinesStep old.lines mid.lines piece used step
    → mid.stopped ≡ old.stopped → mid.treatment ≡ old.treatment → mid.checker ≡ old.checker → IfOk result (λ k. k ≡ used) → After f step mid new (line_result result) → TakesStep f old new piece result
takes-step f old mid new piece used step result l stopped treatment checker taken a =
    subst (TakesStep f old new piece) (used_is used result taken) (step_taken f old mid new piece used step (line_result result) l stopped treatment checker a)

-- ---- a piece

module _ (fed piece : List ℕ) (at : ℕ) (within : at ≤ length piece) where
  slice_is : take (length piece - at) (drop at piece) ≡ drop at piece
  slice_is = tail_slice at piece within

  pub piece-on : (f : Format) (t : Treatment) (limit used : ℕ) (new : Fed) → Stands f t limit ((fed ++ take at piece) ++ take used (take (length piece - at) (drop at piece))) new → Stands f t limit (fed ++ take (at + used) piece) new
  piece-on f t limit used new s =
      let e : (fed ++ take at piece) ++ take used (take (length piece - at) (drop at piece)) ≡ fed ++ take (at + used) piece =
      append_assoc fed (take at piece) (take used (take (length piece - at) (drop at piece))) ∙ ap (λ (x : List ℕ). fed ++ (take at piece ++ take used x)) slice_is ∙ ap (λ (x : List ℕ). fed ++ x) (sym (take-add at used piece)) in
      subst (λ (x : List ℕ). Stands f t limit x new) e s

  pub refused-on : (st : Setting) (fault : PageFault) → Refuses st ((fed ++ take at piece) ++ take (length piece - at) (drop at piece)) fault → Refuses st (fed ++ piece) fault
  refused-on st fault h =
      let e : (fed ++ take at piece) ++ take (length piece - at) (drop at piece) ≡ fed ++ piece =
      append_assoc fed (take at piece) (take (length piece - at) (drop at piece)) ∙ ap (λ (x : List ℕ). fed ++ (take at piece ++ x)) slice_is ∙ ap (λ (x : List ℕ). fed ++ x) (take-append-drop at piece) in
      subst (λ (x : List ℕ). Refuses st x fault) e h

  pub slice_length : length (take (length piece - at) (drop at piece)) + at ≡ length piece
  slice_length = omega (arith, ap length slice_is, length-drop at piece)
