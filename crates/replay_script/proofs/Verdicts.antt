-- A text is one script or has one first fault, never both, and always one of them.
use Rattle.std.proofs.Common.{◌≡◌, ◌⊎◌, inl, inr, ℕ, zero, suc, ◌+◌, ◌-◌, ◌<◌, ◌≤◌, Bool, true, false, ◌&&◌, List, [], ◌∷◌, ◌++◌, length, Option, Some, None, Result, Ok, Err, refl, sym, ap, subst, ◌∙◌, arith, append_assoc, append-nil, length-append}
use Rattle.std.specs.List.{join_with_byte}
use Rattle.std.proofs.lemmas.Bool.{true≢false}
use Rattle.std.proofs.lemmas.Option.{none-some}
use Rattle.label_sets.specs.Lists.{when_true}
use Rattle.plain_words.proofs.Laws.{bind_some, when_some}
use Rattle.replay_script.specs.declared.script.Script.{Script}
use Rattle.replay_script.specs.ScriptParts.{Part, part_words, record_bytes, body_text, part_text, parts_text}
use Rattle.replay_script.specs.ScriptContents.{script_of}
use Rattle.replay_script.specs.ScriptRules.{may_stand_behind, may_end, AreInOrder}
use Rattle.replay_script.specs.Scripts.{IsScript, IsStuck, HasScriptFault}
use Rattle.replay_script.specs.ScriptReading.{front_part, next_part, is_empty, parts_from, answer_of, script_read}
use Rattle.replay_script.proofs.Found.{part_found, well_formed}
use Rattle.replay_script.proofs.Spelled.{part_spelled}

-- ---- one part

-- a part that may follow is the next one
next_found : (earlier : List Part) (p : Part) (more : List ℕ) → may_stand_behind earlier p ≡ true → next_part earlier (part_text p ++ more) ≡ Some (p, more)
unfolding next_part
next_found earlier p more e = rw (part_found p more (well_formed earlier p e), e) refl

-- the next part is spelled at the front, and may follow
pub next_spelled : (earlier : List Part) (text : List ℕ) (found : Part × List ℕ) → next_part earlier text ≡ Some found → (text ≡ part_text found.0 ++ found.1) × (may_stand_behind earlier found.0 ≡ true)
unfolding next_part
next_spelled earlier text found e =
    let first = bind_some (front_part text) (λ f. when_true (may_stand_behind earlier f.0) f) found e in
    let both = when_some (may_stand_behind earlier first.0.0) first.0 found first.2 in
    subst (λ (f : Part × List ℕ). (text ≡ part_text f.0 ++ f.1) × (may_stand_behind earlier f.0 ≡ true)) both.1 (part_spelled text first.0 first.1, both.0)

-- where no part comes next, none that may follow is spelled
pub nothing_next : (earlier : List Part) (rest : List ℕ) → next_part earlier rest ≡ None → (p : Part) (more : List ℕ) → rest ≡ part_text p ++ more → may_stand_behind earlier p ≡ false
nothing_next earlier rest none p more text = go (may_stand_behind earlier p) refl
  where
    go : (b : Bool) → may_stand_behind earlier p ≡ b → may_stand_behind earlier p ≡ false
    go false e = e
    go true e =
        let found : next_part earlier rest ≡ Some (p, more) = ap (next_part earlier) text ∙ next_found earlier p more e in
        absurd (none-some _ (sym none ∙ found))

-- where a text is stuck, no part comes next
stuck_next : (earlier : List Part) (rest : List ℕ) → IsStuck earlier rest → next_part earlier rest ≡ None
stuck_next earlier rest stuck = go (next_part earlier rest) refl
  where
    go : (o : Option (Part × List ℕ)) → next_part earlier rest ≡ o → next_part earlier rest ≡ None
    go None e = e
    go (Some found) e =
        let spelled = next_spelled earlier rest found e in
        absurd (true≢false (sym spelled.1 ∙ stuck.no_part found.0 found.1 spelled.0))

-- a part has some text
text_behind : (line body rest : List ℕ) → is_empty (((line ++ 10 ∷ []) ++ body) ++ rest) ≡ false
text_behind [] body rest = refl
text_behind (c ∷ line) body rest = refl

pub not_empty : (p : Part) (rest : List ℕ) → is_empty (part_text p ++ rest) ≡ false
not_empty p rest = text_behind (join_with_byte 32 (part_words p)) (body_text (record_bytes p)) rest

pub part_length : (p : Part) → 1 ≤ length (part_text p)
part_length p =
    let line = join_with_byte 32 (part_words p) in
    omega (arith, length-append (line ++ 10 ∷ []) (body_text (record_bytes p)), length-append line (10 ∷ []))

-- ---- all parts

-- the reader goes over parts in order
read_on : (parts : List Part) → AreInOrder parts → (k : ℕ) (rest : List ℕ) → parts_from (k + length parts) [] (parts_text parts ++ rest) ≡ parts_from k parts rest
unfolding parts_from
read_on [] o k rest = let same : k + 0 ≡ k = omega arith in ap (λ n. parts_from n [] rest) same
read_on (p ∷ earlier) o k rest =
    let fuel : k + length (p ∷ earlier) ≡ suc k + length earlier = omega arith in
    let text : (parts_text earlier ++ part_text p) ++ rest ≡ parts_text earlier ++ (part_text p ++ rest) = append_assoc (parts_text earlier) (part_text p) rest in
    let step : parts_from (suc k) earlier (part_text p ++ rest) ≡ parts_from k (p ∷ earlier) rest = rw (not_empty p rest, next_found earlier p rest o.0) refl in
    ap (λ n. parts_from n [] ((parts_text earlier ++ part_text p) ++ rest)) fuel ∙ ap (parts_from (suc k + length earlier) []) text
    ∙ read_on earlier o.1 (suc k) (part_text p ++ rest) ∙ step

-- there are no more parts than bytes
few_parts : (parts : List Part) → length parts ≤ length (parts_text parts)
few_parts [] = omega arith
few_parts (p ∷ earlier) = omega (arith, few_parts earlier, part_length p, length-append (parts_text earlier) (part_text p))

-- the reader of a whole text comes to the parts at its front, with some turns left
reaches : (bytes rest : List ℕ) (parts : List Part) → AreInOrder parts → bytes ≡ parts_text parts ++ rest → parts_from (length bytes + 1) [] bytes ≡ parts_from (suc (length bytes - length parts)) parts rest
reaches bytes rest parts o text =
    let len = length-append (parts_text parts) rest in
    let fuel : length bytes + 1 ≡ suc (length bytes - length parts) + length parts = omega (arith, ap (length {A = ℕ}) text, len, few_parts parts) in
    ap (λ n. parts_from n [] bytes) fuel ∙ ap (parts_from (suc (length bytes - length parts) + length parts) []) text ∙ read_on parts o (suc (length bytes - length parts)) rest

-- ---- verdicts

-- what is a script is read as that script
pub script_is_read : (bytes : List ℕ) (script : Script) → IsScript bytes script → script_read bytes ≡ Ok script
unfolding parts_from
script_is_read bytes script is =
    let end : (n : ℕ) → parts_from (suc n) is.parts [] ≡ Ok is.parts = λ n. rw (is.ends) refl in
    let read = reaches bytes [] is.parts is.in_order (is.text ∙ sym (append-nil (parts_text is.parts))) in
    ap answer_of (read ∙ end (length bytes - length is.parts)) ∙ ap Ok (sym is.says)

-- a text with a fault is read as that fault
pub fault_is_read : (bytes : List ℕ) (line : ℕ) → HasScriptFault bytes line → script_read bytes ≡ Err line
unfolding parts_from
fault_is_read bytes line has =
    let no_end : (is_empty has.rest && may_end has.parts) ≡ false = at_end has.rest (may_end has.parts) has.stuck.no_end in
    let end : (n : ℕ) → parts_from (suc n) has.parts has.rest ≡ Err has.parts = λ n. rw (no_end, stuck_next has.parts has.rest has.stuck) refl in
    let read = reaches bytes has.rest has.parts has.in_order has.text in
    ap answer_of (read ∙ end (length bytes - length has.parts)) ∙ ap Err (sym has.line_is)
  where
    at_end : (rest : List ℕ) (b : Bool) → (rest ≡ [] → b ≡ false) → (is_empty rest && b) ≡ false
    at_end [] b none = none refl
    at_end (c ∷ rest) b none = refl

-- one answer is one script, and one line
same_script : (r : Result Script ℕ) (a b : Script) → r ≡ Ok a → r ≡ Ok b → a ≡ b
same_script r a b one two = cc

same_line : (r : Result Script ℕ) (m n : ℕ) → r ≡ Err m → r ≡ Err n → m ≡ n
same_line r m n one two = cc

other_answer : (r : Result Script ℕ) (a : Script) (n : ℕ) → r ≡ Ok a → r ≡ Err n → ⊥
other_answer r a n one two = cc

-- a text is one script
pub one_script : (bytes : List ℕ) (a b : Script) → IsScript bytes a → IsScript bytes b → a ≡ b
one_script bytes a b one two = same_script (script_read bytes) a b (script_is_read bytes a one) (script_is_read bytes b two)

-- a text has one first fault
pub one_fault : (bytes : List ℕ) (m n : ℕ) → HasScriptFault bytes m → HasScriptFault bytes n → m ≡ n
one_fault bytes m n one two = same_line (script_read bytes) m n (fault_is_read bytes m one) (fault_is_read bytes n two)

-- a script has no fault
pub never_both : (bytes : List ℕ) (script : Script) (line : ℕ) → IsScript bytes script → HasScriptFault bytes line → ⊥
never_both bytes script line is has = other_answer (script_read bytes) script line (script_is_read bytes script is) (fault_is_read bytes line has)

-- a script, or a fault
abbrev Verdict : List ℕ → Type 0
Verdict bytes = ((script : Script) × IsScript bytes script) ⊎ ((line : ℕ) × HasScriptFault bytes line)

-- the verdict on what stands behind parts in order
verdict_from : (n : ℕ) (earlier : List Part) (rest : List ℕ) → length rest < n → AreInOrder earlier → Verdict (parts_text earlier ++ rest)
verdict_from zero earlier rest short o = absurd (omega arith)
verdict_from (suc n) earlier rest short o = go (next_part earlier rest) refl (λ p more. verdict_from n (p ∷ earlier) more)
  where
    ends : (xs : List ℕ) → (parts_text earlier ++ rest ≡ parts_text earlier ++ xs) → next_part earlier rest ≡ None → rest ≡ xs → Verdict (parts_text earlier ++ rest)
    ends (c ∷ xs) text none is = inr (_, record { parts = earlier; rest = rest; text = refl; in_order = o; stuck = record { no_part = nothing_next earlier rest none; no_end = λ e. absurd (full c xs (sym is ∙ e)) }; line_is = refl })
      where
        full : (d : ℕ) (ys : List ℕ) → d ∷ ys ≡ [] → ⊥
        full d ys e = cc
    ends [] text none is = by_end (may_end earlier) refl
      where
        by_end : (b : Bool) → may_end earlier ≡ b → Verdict (parts_text earlier ++ rest)
        by_end true e = inl (script_of earlier, record { parts = earlier; text = text ∙ append-nil (parts_text earlier); in_order = o; ends = e; says = refl })
        by_end false e = inr (_, record { parts = earlier; rest = rest; text = refl; in_order = o; stuck = record { no_part = nothing_next earlier rest none; no_end = λ _. e }; line_is = refl })

    go : (found : Option (Part × List ℕ)) → next_part earlier rest ≡ found → ((p : Part) (more : List ℕ) → length more < n → AreInOrder (p ∷ earlier) → Verdict (parts_text (p ∷ earlier) ++ more)) → Verdict (parts_text earlier ++ rest)
    go None e further = ends rest refl e refl
    go (Some found) e further =
        let spelled = next_spelled earlier rest found e in
        let len = length-append (part_text found.0) found.1 in
        let shorter : length found.1 < n = omega (arith, ap (length {A = ℕ}) spelled.0, len, part_length found.0) in
        let text : parts_text (found.0 ∷ earlier) ++ found.1 ≡ parts_text earlier ++ rest = append_assoc (parts_text earlier) (part_text found.0) found.1 ∙ ap (λ t. parts_text earlier ++ t) (sym spelled.0) in
        subst Verdict text (further found.0 found.1 shorter (spelled.1, o))

-- every text is a script or has a fault
pub some_verdict : (bytes : List ℕ) → Verdict bytes
some_verdict bytes = verdict_from (suc (length bytes)) [] bytes (omega arith) tt
