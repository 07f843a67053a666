use Rattle.std.proofs.Common.{rules, ◌≡◌, [], ◌∷◌, map, Global}
use Rattle.std.proofs.lemmas.List.{length-map}
use Rattle.std.specs.Prelude.{string_bytes, codes}
use Rattle.replay_script.specs.ScriptParts.{format_word}
use Rattle.program_words.proofs.CommandLaws.{other_number}
use Rattle.program_words.proofs.WordLaws.{conversion_words, four_words, no_format, alike}
use Rattle.program_words.proofs.words.forms.other_command.Goals as goal
use Rattle.program_words.proofs.words.forms.other_command.Goals.{After-conversion, in_default-via-then-words-lt1, in_default-via-else-words-lt1+else-words-lt2+else-words-lt3+then-words-lt4, in_default-via-else-words-lt1+else-words-lt2+else-words-lt3+else-words-lt4+else-words-lt5+else-words-lt6}

-- the words are those of a conversion
five_words : (c : After-conversion)
    → codes "convert" ∷ format_word c.in-Some.format ∷ c.as_str-in-len5-3.result.now ∷ c.as_str-in-len5-4.result.now ∷ c.as_str-in-len5-5.result.now ∷ [] ≡ map string_bytes c.args.words.now
five_words c =
    conversion_words string_bytes c.args.words.now c.verb-item-then-words-lt6.result c.format-item.result c.job-item.result c.instance-item.result c.time-item.result
    c.as_str-in-len5.result.now c.as_str-in-len5-2.result.now c.as_str-in-len5-3.result.now c.as_str-in-len5-4.result.now c.as_str-in-len5-5.result.now c.in-len5.len_at_least
    c.in-len5.len_below c.verb-item-then-words-lt6.is c.format-item.is c.job-item.is c.instance-item.is c.time-item.is c.as_str-in-len5.ensures.value c.as_str-in-len5-2.ensures.value
    c.as_str-in-len5-3.ensures.value c.as_str-in-len5-4.ensures.value c.as_str-in-len5-5.ensures.value (alike _ _ _ c.ne.ensures c.if-ne.false)
    c.in-Some.format c.in-Some.ensures.found

pub returns-in-Some-clause-found : goal.returns-in-Some-clause-found
returns-in-Some-clause-found c = rw (← five_words c) c.conversion.ensures.found

pub returns-in-Some-clause-none : goal.returns-in-Some-clause-none
returns-in-Some-clause-none c = rw (← five_words c) c.conversion.ensures.none

pub returns-in-Some-clause-memory : goal.returns-in-Some-clause-memory
returns-in-Some-clause-memory c = rw (← five_words c) c.conversion.ensures.memory

pub returns-in-None-clause-none : goal.returns-in-None-clause-none
returns-in-None-clause-none c =
    no_format string_bytes c.args.words.now c.verb-item-then-words-lt6.result c.format-item.result c.job-item.result c.instance-item.result c.time-item.result
    c.as_str-in-len5-2.result.now c.in-len5.len_at_least c.in-len5.len_below c.verb-item-then-words-lt6.is c.format-item.is c.job-item.is c.instance-item.is c.time-item.is
    c.as_str-in-len5-2.ensures.value c.in-None.ensures.none

pub returns-in-len4-clause-none : goal.returns-in-len4-clause-none
returns-in-len4-clause-none c =
    let listed = four_words string_bytes c.args.words.now c.verb-item-then-words-lt5.result c.number-item.result c.targets-item.result c.rounds-item.result
    c.as_str-in-len4.result.now c.as_str-in-len4-2.result.now c.as_str-in-len4-3.result.now c.as_str-in-len4-4.result.now c.in-len4.len_at_least c.in-len4.len_below
    c.verb-item-then-words-lt5.is c.number-item.is c.targets-item.is c.rounds-item.is c.as_str-in-len4.ensures.value c.as_str-in-len4-2.ensures.value c.as_str-in-len4-3.ensures.value c.as_str-in-len4-4.ensures.value in
    rw (← listed) c.four_words.ensures.none

pub returns-in_default-clause-none : goal.returns-in_default-clause-none
returns-in_default-clause-none c =
    let same = length-map c.args.words.now (string_bytes {Z = Global}) in
    elim c.in_default.branch [
      | in_default-via-then-words-lt1 w ↦ other_number (map string_bytes c.args.words.now) (search rules) (search rules) (search rules) (search rules)
      | in_default-via-else-words-lt1+else-words-lt2+else-words-lt3+then-words-lt4 w ↦
          other_number (map string_bytes c.args.words.now) (search rules) (search rules) (search rules) (search rules)
      | in_default-via-else-words-lt1+else-words-lt2+else-words-lt3+else-words-lt4+else-words-lt5+else-words-lt6 w ↦
          other_number (map string_bytes c.args.words.now) (search rules) (search rules) (search rules) (search rules)
    ]
