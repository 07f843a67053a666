-- What the fields of a head say of its body, and the first cause for which it is refused.
use Rattle.std.proofs.Common.{◌≡◌, ℕ, ◌≤◌, Bool, true, false, not, List, [], ◌∷◌, length, refl, sym, ◌∙◌, subst, arith, Some, None}
use Rattle.std.specs.Prelude.{◌≢◌, ◌&&◌, ◌||◌, ◌==◌, map, filter, fold, codes, Err, if◌then◌else◌}
use Rattle.std.specs.List.{list_all}
use Rattle.std.specs.Str.Parse.{digits_value}
use Rattle.std.proofs.lemmas.Bool.{le-ltb, eq-eqb, ne_eqb}
use Rattle.httparse.specs.Grammar.{ResponseHead, Field, field_value, status_code}
use Rattle.httparse.specs.Spans.{name_and_value}
use Rattle.page_model.specs.declared.format.Format.{Format}
use Rattle.page_model.specs.declared.event.Cause.TheVariants as causes
use Rattle.http_talk.specs.declared.fault.ReplyFault.{ReplyFault}
use Rattle.http_talk.specs.declared.fault.ReplyFault.TheVariants as faults
use Rattle.http_talk.specs.declared.head_facts.HeadFacts.{HeadFacts}
use Rattle.http_talk.specs.declared.head_facts.Transfer.{Transfer}
use Rattle.http_talk.specs.declared.head_facts.Transfer.TheVariants as transfers
use Rattle.http_talk.specs.declared.head_facts.Media.{Media}
use Rattle.http_talk.specs.declared.head_facts.Media.TheVariants as medias
use Rattle.http_talk.specs.declared.head_facts.Lengths.{Lengths}
use Rattle.http_talk.specs.declared.head_facts.Lengths.TheVariants as lengths
use Rattle.http_talk.specs.Heads.{is_word, is_length, media_type, format_named, head_format, values_of, has_other_coding, framing_of, is_long, head_cause}
use Rattle.http_talk.specs.HeadFacts.{no_facts, with_coding, with_transfer, media_by, with_media, with_one_length, with_length, with_field, facts_by, IsTransfer, IsMedia, AreLengths, AreFactsOf, IsFramed, IsHeadFault, has_bad_lengths}

-- ---- fields of one name, by their values

by_name : {S : Type 0} (name : List ℕ) (step : S → List ℕ → S) (s : S) (fields : List Field)
    → fold (λ (s : S) (p : List ℕ × List ℕ). if is_word name p.0 then step s p.1 else s) s (map name_and_value fields) ≡ fold step s (map field_value (filter (λ f. is_word name f.name) fields))
by_name name step s [] = refl
by_name {S = S} name step s (f ∷ fields) =
    elim (is_word name f.name) as (λ t. fold (λ (s : S) (p : List ℕ × List ℕ). if is_word name p.0 then step s p.1 else s) (if t then step s (field_value f) else s) (map name_and_value fields)
    ≡ fold step s (map field_value (if t then f ∷ filter (λ f. is_word name f.name) fields else filter (λ f. is_word name f.name) fields))) [
      | true ↦ by_name name step (step s (field_value f)) fields
      | false ↦ by_name name step s fields
    ]

coded_by : (f : HeadFacts) (ps : List (List ℕ × List ℕ)) → (fold with_field f ps).coded ≡ fold (λ (s : Bool) (p : List ℕ × List ℕ). if is_word (codes "content-encoding") p.0 then with_coding s p.1 else s) f.coded ps
coded_by f [] = refl
coded_by f (p ∷ ps) = coded_by (with_field f p) ps

transfer_by : (f : HeadFacts) (ps : List (List ℕ × List ℕ)) → (fold with_field f ps).transfer ≡ fold (λ (s : Transfer) (p : List ℕ × List ℕ). if is_word (codes "transfer-encoding") p.0 then with_transfer s p.1 else s) f.transfer ps
transfer_by f [] = refl
transfer_by f (p ∷ ps) = transfer_by (with_field f p) ps

media_of : (f : HeadFacts) (ps : List (List ℕ × List ℕ)) → (fold with_field f ps).media ≡ fold (λ (s : Media) (p : List ℕ × List ℕ). if is_word (codes "content-type") p.0 then with_media s p.1 else s) f.media ps
media_of f [] = refl
media_of f (p ∷ ps) = media_of (with_field f p) ps

lengths_by : (f : HeadFacts) (ps : List (List ℕ × List ℕ)) → (fold with_field f ps).lengths ≡ fold (λ (s : Lengths) (p : List ℕ × List ℕ). if is_word (codes "content-length") p.0 then with_length s p.1 else s) f.lengths ps
lengths_by f [] = refl
lengths_by f (p ∷ ps) = lengths_by (with_field f p) ps

-- ---- values

or_not : (a p q : Bool) → ((a || not p) || not q) ≡ (a || not (p && q))
or_not true p q = refl
or_not false true q = refl
or_not false false q = refl

no_more : (a : Bool) → a ≡ (a || not true)
no_more true = refl
no_more false = refl

coding_is : (coded : Bool) (values : List (List ℕ)) → fold with_coding coded values ≡ (coded || not (list_all (λ v. is_word [] v || is_word (codes "identity") v) values))
coding_is coded [] = no_more coded
coding_is coded (v ∷ values) = coding_is (with_coding coded v) values ∙ or_not coded (is_word [] v || is_word (codes "identity") v) (list_all (λ v. is_word [] v || is_word (codes "identity") v) values)

other_stays : (values : List (List ℕ)) → fold with_transfer transfers.Other values ≡ transfers.Other
other_stays [] = refl
other_stays (v ∷ values) = other_stays values

transfer_is : (values : List (List ℕ)) → IsTransfer (fold with_transfer transfers.Absent values) values
transfer_is [] = refl
transfer_is (v ∷ []) =
    elim (is_word (codes "chunked") v) as (λ t. is_word (codes "chunked") v ≡ t → IsTransfer (if t then transfers.Chunked else transfers.Other) (v ∷ [])) [
      | true ↦ λ yes. (refl, yes)
      | false ↦ λ no. (refl, no)
    ] refl
transfer_is (v ∷ w ∷ values) =
    elim (is_word (codes "chunked") v) as (λ t. IsTransfer (fold with_transfer (with_transfer (if t then transfers.Chunked else transfers.Other) w) values) (v ∷ w ∷ values)) [
      | true ↦ rw (other_stays values) (many w values)
      | false ↦ rw (other_stays values) (many w values)
    ]
  where
    many : (w : List ℕ) (values : List (List ℕ)) → ((length (v ∷ w ∷ values) == 0) ≡ false) × (not true ≡ false)
    many w values = (grind arith, refl)

known_stays : (format : Format) (values : List (List ℕ)) → fold with_media (medias.Known format) values ≡ medias.Known format
known_stays format [] = refl
known_stays format (v ∷ values) = known_stays format values

no_format_stays : (values : List (List ℕ)) → fold with_media medias.Other values ≡ medias.Other
no_format_stays [] = refl
no_format_stays (v ∷ values) = no_format_stays values

media_is : (values : List (List ℕ)) → IsMedia (fold with_media medias.Absent values) values
media_is [] = refl
media_is (v ∷ values) =
    elim (format_named (media_type v)) as (λ o. format_named (media_type v) ≡ o → IsMedia (fold with_media (media_by o) values) (v ∷ values)) [
      | None ↦ λ none. rw (no_format_stays values) none
      | Some format ↦ λ some. rw (known_stays format values) some
    ] refl

bad_stays : (values : List (List ℕ)) → fold with_length lengths.Bad values ≡ lengths.Bad
bad_stays [] = refl
bad_stays (v ∷ values) =
    elim (is_length v) as (λ t. fold with_length (if t then lengths.Bad else lengths.Bad) values ≡ lengths.Bad) [
      | true ↦ bad_stays values
      | false ↦ bad_stays values
    ]

one_is : (m : ℕ) (values : List (List ℕ)) → fold with_length (lengths.One m) values ≡ (if list_all is_length values && list_all (λ n. n == m) (map (digits_value 10) values) then lengths.One m else lengths.Bad)
one_is m [] = refl
one_is m (v ∷ values) =
    elim (is_length v) as (λ t. fold with_length (if t then with_one_length (lengths.One m) (digits_value 10 v) else lengths.Bad) values
    ≡ (if (t && list_all is_length values) && ((digits_value 10 v == m) && list_all (λ n. n == m) (map (digits_value 10) values)) then lengths.One m else lengths.Bad)) [
      | true ↦
          elim (digits_value 10 v == m) as (λ t. fold with_length (if t then lengths.One m else lengths.Bad) values
          ≡ (if list_all is_length values && (t && list_all (λ n. n == m) (map (digits_value 10) values)) then lengths.One m else lengths.Bad)) [
            | true ↦ one_is m values
            | false ↦ bad_stays values ∙ no_one (list_all is_length values) m
          ]
      | false ↦ bad_stays values
    ]
  where
    no_one : (a : Bool) (m : ℕ) → lengths.Bad ≡ (if a && false then lengths.One m else lengths.Bad)
    no_one true m = refl
    no_one false m = refl

lengths_are : (values : List (List ℕ)) → AreLengths (fold with_length lengths.Absent values) values
lengths_are [] = (refl, refl)
lengths_are (v ∷ values) =
    elim (is_length v) as (λ t. is_length v ≡ t → AreLengths (fold with_length (if t then lengths.One (digits_value 10 v) else lengths.Bad) values) (v ∷ values)) [
      | true ↦ λ yes. rw (one_is (digits_value 10 v) values) (one v values yes)
      | false ↦ λ no. rw (bad_stays values, no) refl
    ] refl
  where
    one : (v : List ℕ) (values : List (List ℕ)) → is_length v ≡ true
        → AreLengths (if list_all is_length values && list_all (λ n. n == digits_value 10 v) (map (digits_value 10) values) then lengths.One (digits_value 10 v) else lengths.Bad) (v ∷ values)
    one v values right =
        elim (list_all is_length values && list_all (λ n. n == digits_value 10 v) (map (digits_value 10) values)) as (λ t. (list_all is_length values && list_all (λ n. n == digits_value 10 v) (map (digits_value 10) values)) ≡ t
        → AreLengths (if t then lengths.One (digits_value 10 v) else lengths.Bad) (v ∷ values)) [
          | true ↦ λ all. (rw (right, all) refl, refl)
          | false ↦ λ some. rw (right, some) refl
        ] refl

-- ---- the facts of a head

pub are_facts : (f : HeadFacts) (h : ResponseHead) → f ≡ facts_by (map name_and_value h.fields) → AreFactsOf f h
are_facts f h is = subst (λ g. AreFactsOf g h) (sym is) (record {
  coded = coded_by no_facts pairs ∙ by_name (codes "content-encoding") with_coding false h.fields ∙ coding_is false (values_of (codes "content-encoding") h);
  transfer = rw (transfer_by no_facts pairs, by_name (codes "transfer-encoding") with_transfer transfers.Absent h.fields) (transfer_is (values_of (codes "transfer-encoding") h));
  media = rw (media_of no_facts pairs, by_name (codes "content-type") with_media medias.Absent h.fields) (media_is (values_of (codes "content-type") h));
  lengths = rw (lengths_by no_facts pairs, by_name (codes "content-length") with_length lengths.Absent h.fields) (lengths_are (values_of (codes "content-length") h));
})
  where
    pairs : List (List ℕ × List ℕ)
    pairs = map name_and_value h.fields

-- ---- the first cause

module _ (most : ℕ) (h : ResponseHead) (code : ℕ) (few : length h.fields ≤ 64) (is : code ≡ status_code h) where
  pub cause_status : code ≢ 200 → Some (causes.Status code) ≡ head_cause most h
  unfolding head_cause
  cause_status other = rw (le-ltb 64 (length h.fields) few, ne_eqb (status_code h) 200 (λ same. other (is ∙ same)), is) refl

  module _ (good : code ≡ 200) where
    fine : (status_code h == 200) ≡ true
    fine = eq-eqb (status_code h) 200 (sym is ∙ good)

    pub cause_coding : has_other_coding h ≡ true → Some causes.Encoding ≡ head_cause most h
    unfolding head_cause
    cause_coding coded = rw (le-ltb 64 (length h.fields) few, fine, coded) refl

    module _ (plain : has_other_coding h ≡ false) where
      pub cause_media : head_format h ≡ None → Some causes.MediaType ≡ head_cause most h
      unfolding head_cause
      cause_media none = rw (le-ltb 64 (length h.fields) few, fine, plain, none) refl

      module _ (format : Format) (known : head_format h ≡ Some format) where
        cause_lengths : has_bad_lengths h ≡ true → Some causes.Head ≡ head_cause most h
        unfolding head_cause
        cause_lengths bad = rw (le-ltb 64 (length h.fields) few, fine, plain, known, bad) refl

        cause_long : has_bad_lengths h ≡ false → is_long most (framing_of h) ≡ true → Some causes.TooLong ≡ head_cause most h
        unfolding head_cause
        cause_long right long = rw (le-ltb 64 (length h.fields) few, fine, plain, known, right, long) refl

        pub no_cause : has_bad_lengths h ≡ false → is_long most (framing_of h) ≡ false → head_cause most h ≡ None
        unfolding head_cause
        no_cause right short = rw (le-ltb 64 (length h.fields) few, fine, plain, known, right, short) refl

pub cause_framed : (fault : ReplyFault) (most : ℕ) (h : ResponseHead) (code : ℕ) (format : Format) → length h.fields ≤ 64 → code ≡ status_code h → code ≡ 200 → has_other_coding h ≡ false → head_format h ≡ Some format
    → IsFramed most h (Err fault) → IsHeadFault most h fault
cause_framed faults.Head most h code format few is good plain known x = cause_lengths most h code few is good plain format known x
cause_framed faults.TooLong most h code format few is good plain known x = cause_long most h code few is good plain format known x.0 x.1
cause_framed fault most h code format few is good plain known x = absurd x
