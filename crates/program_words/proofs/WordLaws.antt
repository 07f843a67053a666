-- Words: what the words of a conversion hold.
use Rattle.std.proofs.Common.{◌≡◌, ◌≢◌, ℕ, ◌<◌, ◌≤◌, Bool, true, false, not, eqb, List, [], ◌∷◌, map, length, get_or, refl, sym, ap, subst, ◌∙◌, arith}
use Rattle.std.specs.Prelude.{codes}
use Rattle.std.specs.Fmt.{decimal}
use Rattle.std.proofs.lemmas.Bool.{eqb-false, not-false, true≢false}
use Rattle.std.proofs.lemmas.Fmt.{decimal_injective, decimal_is_IsNumeral}
use Rattle.std.proofs.lemmas.Slice.Eq.{bytes_eq-Decides}
use Rattle.std.specs.Str.{bytes_eq}
use Rattle.std.specs.Str.Parse.{digits_value}
use Rattle.page_model.specs.declared.format.Format.{Format}
use Rattle.plain_words.specs.Places.{IsHostAndPort}
use Rattle.replay_script.specs.ScriptParts.{format_word}
use Rattle.load_pages.specs.GeneratedScripts.{IsLoad, most_load_number}
use Rattle.bridge_ports.specs.Targets.{most_job_bytes}
use Rattle.program_words.specs.Limits.{most_instance_host, most_nanos, most_scrapers}
use Rattle.program_words.specs.CommandWords.{IsCommand, command_row, SaysScrapers, place_target}
use Rattle.program_words.specs.WordSteps.{FitNoOther, is_replay}
use Rattle.program_words.specs.declared.words.Command.{Command}
use Rattle.program_words.specs.declared.words.Command.TheVariants.{OverPage, Replay, Load}
use Rattle.program_words.specs.declared.words.PageCommand.TheVariants.{Convert}
use Rattle.program_words.proofs.PageWords.{other_verb, unlike}

-- a list of five by its elements
five : {A : Type 0} (xs : List A) (a b c d e : A) → 5 ≤ length xs → length xs < 6 → a ≡ get_or xs 0 a → b ≡ get_or xs 1 b → c ≡ get_or xs 2 c → d ≡ get_or xs 3 d → e ≡ get_or xs 4 e
    → a ∷ b ∷ c ∷ d ∷ e ∷ [] ≡ xs
five [] a b c d e low high = absurd (omega arith)
five (p ∷ []) a b c d e low high = absurd (omega arith)
five (p ∷ q ∷ []) a b c d e low high = absurd (omega arith)
five (p ∷ q ∷ r ∷ []) a b c d e low high = absurd (omega arith)
five (p ∷ q ∷ r ∷ s ∷ []) a b c d e low high = absurd (omega arith)
five (p ∷ q ∷ r ∷ s ∷ t ∷ []) a b c d e low high = λ i j k l m. cc
five (p ∷ q ∷ r ∷ s ∷ t ∷ u ∷ us) a b c d e low high = absurd (omega arith)

-- the bytes of a conversion's words
pub conversion_words : {A : Type 0} (bytes : A → List ℕ) (xs : List A) (a b c d e : A) (verb format job instance time : List ℕ) → 5 ≤ length xs → length xs < 6
    → a ≡ get_or xs 0 a → b ≡ get_or xs 1 b → c ≡ get_or xs 2 c → d ≡ get_or xs 3 d → e ≡ get_or xs 4 e
    → verb ≡ bytes a → format ≡ bytes b → job ≡ bytes c → instance ≡ bytes d → time ≡ bytes e → verb ≡ codes "convert" → (f : Format) → format ≡ format_word f
    → codes "convert" ∷ format_word f ∷ job ∷ instance ∷ time ∷ [] ≡ map bytes xs
conversion_words bytes xs a b c d e verb format job instance time low high at0 at1 at2 at3 at4 is0 is1 is2 is3 is4 converts f named =
    let listed : bytes a ∷ bytes b ∷ bytes c ∷ bytes d ∷ bytes e ∷ [] ≡ map bytes xs = ap (map bytes) (five xs a b c d e low high at0 at1 at2 at3 at4) in cc

-- a list of four by its elements
four : {A : Type 0} (xs : List A) (a b c d : A) → 4 ≤ length xs → length xs < 5 → a ≡ get_or xs 0 a → b ≡ get_or xs 1 b → c ≡ get_or xs 2 c → d ≡ get_or xs 3 d → a ∷ b ∷ c ∷ d ∷ [] ≡ xs
four [] a b c d low high = absurd (omega arith)
four (p ∷ []) a b c d low high = absurd (omega arith)
four (p ∷ q ∷ []) a b c d low high = absurd (omega arith)
four (p ∷ q ∷ r ∷ []) a b c d low high = absurd (omega arith)
four (p ∷ q ∷ r ∷ s ∷ []) a b c d low high = λ i j k l. cc
four (p ∷ q ∷ r ∷ s ∷ t ∷ ts) a b c d low high = absurd (omega arith)

-- the bytes of four words
pub four_words : {A : Type 0} (bytes : A → List ℕ) (xs : List A) (a b c d : A) (verb number targets rounds : List ℕ) → 4 ≤ length xs → length xs < 5
    → a ≡ get_or xs 0 a → b ≡ get_or xs 1 b → c ≡ get_or xs 2 c → d ≡ get_or xs 3 d → verb ≡ bytes a → number ≡ bytes b → targets ≡ bytes c → rounds ≡ bytes d
    → verb ∷ number ∷ targets ∷ rounds ∷ [] ≡ map bytes xs
four_words bytes xs a b c d verb number targets rounds low high at0 at1 at2 at3 is0 is1 is2 is3 =
    let listed : bytes a ∷ bytes b ∷ bytes c ∷ bytes d ∷ [] ≡ map bytes xs = ap (map bytes) (four xs a b c d low high at0 at1 at2 at3) in cc

-- words of a conversion whose second names no format fit no form but, maybe, one of a replay
pub no_format : {A : Type 0} (bytes : A → List ℕ) (xs : List A) (a b c d e : A) (format : List ℕ) → 5 ≤ length xs → length xs < 6
    → a ≡ get_or xs 0 a → b ≡ get_or xs 1 b → c ≡ get_or xs 2 c → d ≡ get_or xs 3 d → e ≡ get_or xs 4 e
    → format ≡ bytes b → ((f : Format) → format ≢ format_word f) → FitNoOther (map bytes xs)
no_format bytes xs a b c d e format low high at0 at1 at2 at3 at4 is none command other asked =
    by command other (subst (command_row command).words (sym (ap (map bytes) (five xs a b c d e low high at0 at1 at2 at3 at4))) asked.spelled)
  where
    by : (command : Command) → is_replay command ≡ false → (command_row command).words (bytes a ∷ bytes b ∷ bytes c ∷ bytes d ∷ bytes e ∷ []) → ⊥
    by (OverPage f what) other spelled = let named : bytes b ≡ format_word f = cc in none f (is ∙ named)
    by (Replay scrapers page) other spelled = true≢false other
    by _ other spelled = absurd cc

-- a length that was tested not to be 0
pub not_zero : (n : ℕ) (none : Bool) → none ≡ eqb n 0 → none ≡ false → 1 ≤ n
not_zero n none e no_zero = omega (arith, eqb-false n 0 (sym e ∙ no_zero))

-- a place and a time in the bytes of a word are those of the word
pub place_of : (instance bytes host : List ℕ) (port : ℕ) → bytes ≡ instance → IsHostAndPort most_instance_host bytes host port → IsHostAndPort most_instance_host instance host port
place_of instance bytes host port same is = let At : List ℕ → Type 0 = λ bs. IsHostAndPort most_instance_host bs host port in subst At same is

pub time_of : (time bytes : List ℕ) (nanos : ℕ) → bytes ≡ time → (bytes ≡ decimal nanos) × (nanos ≤ most_nanos) → (time ≡ decimal nanos) × (nanos ≤ most_nanos)
time_of time bytes nanos same is = (sym same ∙ is.0, is.1)

-- the words of a conversion
pub conversion_is : (format : Format) (job instance time host : List ℕ) (port nanos : ℕ) → 1 ≤ length job → length job ≤ most_job_bytes → IsHostAndPort most_instance_host instance host port → time ≡ decimal nanos → nanos ≤ most_nanos
    → IsCommand (codes "convert" ∷ format_word format ∷ job ∷ instance ∷ time ∷ []) (OverPage format (Convert (place_target job instance host port) nanos))
unfolding place_target
conversion_is format job instance time host port nanos some short place e small = record {
  spelled = ap (λ t. codes "convert" ∷ format_word format ∷ job ∷ instance ∷ t ∷ []) e;
  limits = (record { some_job = some; short_job = short; place = place; path = refl; honor = refl }, small);
}

-- texts that compare as the same are
pub alike : (a b : List ℕ) (different : Bool) → different ≡ not (bytes_eq a b) → different ≡ false → a ≡ b
alike a b different e is = (bytes_eq-Decides a b).0 (not-false _ (sym e ∙ is))

-- and those that differ compare as different
not_alike : (a b : List ℕ) → a ≢ b → bytes_eq a b ≡ false
not_alike a b other = by (bytes_eq a b) refl
  where
    by : (same : Bool) → bytes_eq a b ≡ same → bytes_eq a b ≡ false
    by true e = absurd (other ((bytes_eq-Decides a b).0 e))
    by false e = e

-- ---- the words of a replay

-- a word that writes no number of at most four says no number of scrapers
pub no_number : (word bytes : List ℕ) → bytes ≡ word → ((n : ℕ) → n ≤ most_scrapers → bytes ≢ decimal n) → (n : ℕ) → ¬ SaysScrapers word n
no_number word bytes same none n says = none n says.few (same ∙ says.spelled)

-- and neither does one that writes 0
pub not_one_scraper : (word bytes : List ℕ) (n : ℕ) → bytes ≡ word → (bytes ≡ decimal n) × (n ≤ most_scrapers) → n ≡ 0 → (m : ℕ) → ¬ SaysScrapers word m
not_one_scraper word bytes n same is zero_is m says =
    let one : n ≡ m = decimal_injective n m (omega (arith, is.1)) (omega (arith, says.few)) (sym is.0 ∙ same ∙ says.spelled) in
    absurd (omega (arith, one, says.some, zero_is))

-- a word that says how many scrapers there are
pub says_scrapers : (word bytes : List ℕ) (n : ℕ) → bytes ≡ word → (bytes ≡ decimal n) × (n ≤ most_scrapers) → 1 ≤ n → SaysScrapers word n
says_scrapers word bytes n same is some = record { spelled = sym same ∙ is.0; some = some; few = is.1 }

-- a number of scrapers is not written `page`
pub number_no_page : (n : ℕ) → n ≤ most_scrapers → bytes_eq (decimal n) (codes "page") ≡ false
number_no_page n few = not_alike (decimal n) (codes "page") (λ e. let value = (decimal_is_IsNumeral n (omega (arith, few))).1 in absurd (omega (arith, few, value, ap (digits_value 10) e)))

-- ---- the words of a load

-- the words of a load
pub load_is : (number targets rounds : List ℕ) (n t r : ℕ) → number ≡ decimal n → targets ≡ decimal t → rounds ≡ decimal r → IsLoad n t r → IsCommand (codes "load" ∷ number ∷ targets ∷ rounds ∷ []) (Load n t r)
load_is number targets rounds n t r a b c is = record {
  spelled = ap (λ w. codes "load" ∷ w ∷ targets ∷ rounds ∷ []) a ∙ ap (λ w. codes "load" ∷ decimal n ∷ w ∷ rounds ∷ []) b ∙ ap (λ w. codes "load" ∷ decimal n ∷ decimal t ∷ w ∷ []) c;
  limits = is;
}

-- words that are those of no load fit no form but, maybe, one of a replay
pub no_load : (number targets rounds : List ℕ) → ((n t r : ℕ) → IsLoad n t r → number ≡ decimal n → targets ≡ decimal t → rounds ≡ decimal r → ⊥) → FitNoOther (codes "load" ∷ number ∷ targets ∷ rounds ∷ [])
no_load number targets rounds none command other asked = by command other asked.limits asked.spelled
  where
    by : (command : Command) → is_replay command ≡ false → (command_row command).limits → (command_row command).words (codes "load" ∷ number ∷ targets ∷ rounds ∷ []) → ⊥
    by (Replay scrapers page) other limits spelled = true≢false other
    by (Load n t r) other limits spelled =
        let a : number ≡ decimal n = cc in
        let b : targets ≡ decimal t = cc in
        let c : rounds ≡ decimal r = cc in none n t r limits a b c
    by (OverPage f what) other limits spelled = unlike _ (codes "load") _ (number ∷ targets ∷ rounds ∷ []) (sym spelled) (other_verb what).no_load
    by _ other limits spelled = absurd cc

-- numbers that are no load
pub not_a_load : (number targets rounds : List ℕ) (n t r : ℕ) (test : Bool) → (number ≡ decimal n) × (n ≤ most_load_number) → (targets ≡ decimal t) × (t ≤ most_load_number) → (rounds ≡ decimal r) × (r ≤ most_load_number)
    → (IsLoad n t r → test ≡ true) → test ≡ false → FitNoOther (codes "load" ∷ number ∷ targets ∷ rounds ∷ [])
not_a_load number targets rounds n t r test a b c only fails = no_load number targets rounds (λ m u s is x y z.
    let numbers : n ≡ m = decimal_injective n m (omega (arith, a.1)) (omega (arith, is.small)) (sym a.0 ∙ x) in
    let targets_same : t ≡ u = decimal_injective t u (omega (arith, b.1)) (omega (arith, is.few_targets)) (sym b.0 ∙ y) in
    let rounds_same : r ≡ s = decimal_injective r s (omega (arith, c.1)) (omega (arith, is.few_rounds)) (sym c.0 ∙ z) in
    let here : IsLoad n t r = subst (λ k. IsLoad k t r) (sym numbers) (subst (λ k. IsLoad m k r) (sym targets_same) (subst (λ k. IsLoad m u k) (sym rounds_same) is)) in
    absurd (true≢false (sym (only here) ∙ fails)))
