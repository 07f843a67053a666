-- Parts that were read, one part more, and where no part follows.
use Rattle.std.proofs.Common.{◌≡◌, ◌≢◌, ℕ, ◌+◌, ◌-◌, ◌<◌, ◌≤◌, Bool, true, false, ◌==◌, List, [], ◌∷◌, ◌++◌, length, take, Some, None, refl, sym, ap, ◌∙◌, arith, append_assoc, length-append}
use Rattle.std.proofs.lemmas.Bool.{true≢false, eqb-true}
use Rattle.std.proofs.lemmas.List.{take_at, nil_from_length}
use Rattle.plain_words.specs.HeadLines.{line_feeds}
use Rattle.replay_script.specs.declared.progress.Progress.{Progress}
use Rattle.replay_script.specs.ScriptParts.{Part, part_text, parts_text}
use Rattle.replay_script.specs.ScriptRules.{may_stand_behind, may_end}
use Rattle.replay_script.specs.Scripts.{IsStuck, HasScriptFault}
use Rattle.replay_script.specs.ScriptReading.{front_part, next_part, is_empty}
use Rattle.replay_script.specs.Progresses.{TakesPart, WasReadTo}
use Rattle.replay_script.proofs.Spelled.{part_spelled}
use Rattle.replay_script.proofs.Verdicts.{nothing_next, not_empty, part_length}

-- the text of the parts is what stands before the rest
front_text : (bytes front rest : List ℕ) → bytes ≡ front ++ rest → take (length bytes - length rest) bytes ≡ front
front_text bytes front rest text =
    let len : length bytes - length rest ≡ length front = omega (arith, ap (length {A = ℕ}) text, length-append front rest) in
    ap (λ n. take n bytes) len ∙ ap (take (length front)) text ∙ take_at front rest (length front) refl

-- what is left is no longer than all
pub rest_short : (bytes rest : List ℕ) (p : Progress) → WasReadTo bytes rest p → length rest ≤ length bytes
rest_short bytes rest p was = omega (arith, ap (length {A = ℕ}) was.text, length-append (parts_text was.parts) rest)

-- the fault where no part follows
pub fault_at : (bytes rest : List ℕ) (p : Progress) (line : ℕ) → (was : WasReadTo bytes rest p) → IsStuck was.parts rest → line ≡ line_feeds (take (length bytes - length rest) bytes) + 1 → HasScriptFault bytes line
fault_at bytes rest p line was stuck is = record {
  parts = was.parts;
  rest = rest;
  text = was.text;
  in_order = was.in_order;
  stuck = stuck;
  line_is = is ∙ ap (λ t. line_feeds t + 1) (front_text bytes (parts_text was.parts) rest was.text);
}

-- no part stands at the front of what is left
pub stuck_without : (earlier : List Part) (rest : List ℕ) → rest ≢ [] → front_part rest ≡ None → IsStuck earlier rest
unfolding next_part
stuck_without earlier rest some none =
    let nothing : next_part earlier rest ≡ None = rw none refl in
    record { no_part = nothing_next earlier rest nothing; no_end = λ e. absurd (some e) }

-- the part at the front may not follow
pub stuck_refused : (earlier : List Part) (rest more : List ℕ) (p : Part) → rest ≢ [] → Some (p, more) ≡ front_part rest → may_stand_behind earlier p ≡ false → IsStuck earlier rest
unfolding next_part
stuck_refused earlier rest more p some is other =
    let nothing : next_part earlier rest ≡ None = rw (← is, other) refl in
    record { no_part = nothing_next earlier rest nothing; no_end = λ e. absurd (some e) }

-- one part more was read
pub read_more : (bytes rest more : List ℕ) (old new : Progress) (p : Part) → WasReadTo bytes rest old → Some (p, more) ≡ front_part rest → TakesPart p old new true → WasReadTo bytes more new × (length more < length rest)
read_more bytes rest more old new p was is takes =
    let both = takes was.parts was.in_order was.knows in
    let spelled : rest ≡ part_text p ++ more = part_spelled rest (p, more) (sym is) in (
      record {
        parts = p ∷ was.parts;
        text = was.text ∙ ap (λ t. parts_text was.parts ++ t) spelled ∙ sym (append_assoc (parts_text was.parts) (part_text p) more);
        in_order = (sym both.0, was.in_order);
        knows = both.1 refl;
      },
      omega (arith, ap (length {A = ℕ}) spelled, length-append (part_text p) more, part_length p),
    )

-- nothing stands at the front of nothing
full : (p : Part) (more : List ℕ) → [] ≡ part_text p ++ more → ⊥
full p more e = let none : true ≡ false = ap is_empty e ∙ not_empty p more in true≢false none

-- a script may not end here
pub stuck_at_end : (earlier : List Part) (rest : List ℕ) → length rest ≡ 0 → may_end earlier ≡ false → IsStuck earlier rest
stuck_at_end earlier rest over other = record {
  no_part = λ p more text. absurd (full p more (sym (nil_from_length rest over) ∙ text));
  no_end = λ _. other;
}

-- what an empty rest is tested by
pub some_left : (rest : List ℕ) (none : Bool) → none ≡ (length rest == 0) → none ≡ false → rest ≢ []
some_left rest none e is same = true≢false (sym (ap (λ r. length r == 0) same) ∙ sym e ∙ is)

pub none_left : (rest : List ℕ) (none : Bool) → none ≡ (length rest == 0) → none ≡ true → length rest ≡ 0
none_left rest none e is = eqb-true (length rest) 0 (sym e ∙ is)
