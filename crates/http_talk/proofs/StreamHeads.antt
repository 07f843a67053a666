-- Steps of a stream through the head of a reply.
use Rattle.std.proofs.Common.{◌≡◌, ℕ, ◌+◌, ◌-◌, ◌≤◌, ◌<◌, true, false, List, [], ◌++◌, length, take, drop, map, refl, sym, ap, ◌∙◌, subst, arith, Option, Some}
use Rattle.std.specs.Prelude.{◌≢◌, ◌==◌, min, nat_le, if◌then◌else◌, Result, Ok, Err}
use Rattle.std.proofs.lemmas.Bool.{leb-true, leb-false}
use Rattle.std.proofs.lemmas.Grind.{common_steps}
use Rattle.std.proofs.lemmas.List.{length-append, length-take, take-append-drop, take-append-le}
use Rattle.httparse.specs.Grammar.{ResponseHead, print_response}
use Rattle.httparse.specs.Spans.{header_bytes}
use Rattle.httparse.specs.declared.spans.HeaderSpan.{HeaderSpan}
use Rattle.httparse.specs.declared.spans.ResponseSpans.{ResponseSpans}
use Rattle.page_model.specs.declared.format.Format.{Format}
use Rattle.http_talk.specs.declared.part.Part.{Part}
use Rattle.http_talk.specs.declared.part.Part.TheVariants as parts
use Rattle.http_talk.specs.declared.flow.Flow.TheVariants as flows
use Rattle.http_talk.specs.declared.flow.Step.{Step}
use Rattle.http_talk.specs.declared.fault.ReplyFault.{ReplyFault}
use Rattle.http_talk.specs.declared.fault.ReplyFault.TheVariants as faults
use Rattle.http_talk.specs.Heads.{HeadRead, unfinished, found, HeadIs, framing_of, Framing, in_chunks, to_the_end, of_length}
use Rattle.http_talk.specs.declared.head_facts.HeadFacts.{HeadFacts}
use Rattle.http_talk.specs.HeadFacts.{IsHeadFault, first_part, facts_by, AreFactsOf}
use Rattle.http_talk.specs.HeadFeeding.{IsHeadAt, IsBadHead}
use Rattle.http_talk.specs.ReplyReading.{Stands, IsRefusal, kept_by}
use Rattle.http_talk.specs.Streams.{Streaming, told_at, told_of_head, Flows, StepsOver, BeginsBody}
use Rattle.http_talk.proofs.FactLaws.{are_facts}
use Rattle.http_talk.proofs.Once.{take_past}
use Rattle.http_talk.proofs.ReplySteps.{reader, head_alone, head_bytes, refused_head, begin_stands, kept_head, fed_front, head_takes_more, head_takes_bad}
use Rattle.http_talk.proofs.StreamGiven.{streaming, flows_by, still_open}

head_no_memory : (fault : ReplyFault) (most : ℕ) (h : ResponseHead) → IsHeadFault most h fault → fault ≢ faults.Memory
head_no_memory faults.Memory most h x e = x
head_no_memory faults.Truncated most h x e = x
head_no_memory _ most h x e = cc e

kept_none : (part : Part) → kept_by part [] [] ≡ []
kept_none parts.Head = refl
kept_none _ = refl

first_told : (framing : Framing) (format : Format) → told_at (first_part framing) format ≡ Some format
first_told in_chunks format = refl
first_told to_the_end format = refl
first_told (of_length n) format = elim (n == 0) as (λ t. told_at (if t then parts.Whole else parts.Sized n) format ≡ Some format) [
  | true ↦ refl
  | false ↦ refl
]

take_less : (piece : List ℕ) (m count : ℕ) → m ≤ count → take m (take count piece) ≡ take m piece
take_less piece m count few = grind (arith, common_steps)

-- a head that is found ends behind what came before, where no head was
head_behind : (kept more : List ℕ) (spans : List HeaderSpan) (parsed : ResponseSpans) (h : ResponseHead) → HeadIs kept unfinished → IsHeadAt (kept ++ more) spans parsed h → length kept < parsed.len
head_behind kept more spans parsed h none at =
    elim (nat_le parsed.len (length kept)) as (λ t. nat_le parsed.len (length kept) ≡ t → length kept < parsed.len) [
      | true ↦ λ yes.
          let fits = leb-true parsed.len (length kept) yes in
          let front : take parsed.len kept ≡ print_response h = sym (take-append-le parsed.len kept more fits) ∙ head_bytes (kept ++ more) spans parsed h at in
          let reads : kept ≡ print_response h ++ drop parsed.len kept = sym (take-append-drop parsed.len kept) ∙ ap (λ xs. xs ++ drop parsed.len kept) front in
          absurd (none.1 h (drop parsed.len kept) (at.at.reads.0, reads))
      | false ↦ λ no. omega (arith, leb-false parsed.len (length kept) no)
    ] refl

module _ (most : ℕ) (format : Format) (kept piece after : List ℕ) (body got count : ℕ) (stopped : Option ReplyFault)
    (counted : count ≡ min (16384 - length kept) (length piece)) (more : after ≡ kept ++ take count piece) where
  abbrev before_head : Streaming
  before_head = streaming most parts.Head format kept body got stopped

  abbrev within_head : Streaming
  within_head = streaming most parts.Head format after body got stopped

  head_goes : ((g : List ℕ) → after ≡ take 16384 g → HeadIs g unfinished × (after ≡ g)) → StepsOver before_head within_head piece (Ok (record { flow = flows.More; taken = length piece }))
  head_goes says = record {
    same = refl;
    working = refl;
    within = omega arith;
    answer = λ fed given f.
        let t = (head_takes_more most parts.Head format kept piece after got count stopped refl counted more says).answer fed f.stands in
        record {
          all = refl;
          told = refl;
          flows_on = flows_by (fed ++ piece) given within_head t.stands (λ e. f.gave.0) f.count;
          known = t.known;
          judged_so = t.judged_so;
          undecided = still_open t.known t.progress_is;
        };
  }

  head_refuses : ((g : List ℕ) → after ≡ take 16384 g → (head : HeadRead) × HeadIs g head × IsBadHead head) → StepsOver before_head within_head piece (Err faults.Head)
  head_refuses says = record {
    same = refl;
    working = refl;
    within = tt;
    answer = λ fed given f. ((head_takes_bad most parts.Head format kept piece after got count stopped refl counted more says).answer fed f.stands, (λ e. cc e));
  }

  module _ (spans : List HeaderSpan) (parsed : ResponseSpans) (says : (g : List ℕ) → after ≡ take 16384 g → (h : ResponseHead) × IsHeadAt after spans parsed h × HeadIs g (found h (drop parsed.len after ++ drop 16384 g))) (new : Streaming) where
    head_caused : (fault : ReplyFault) → new.most ≡ most → new.stopped ≡ stopped → ((h : ResponseHead) → IsHeadAt after spans parsed h → BeginsBody within_head new h parsed.len (Err fault)) → StepsOver before_head new piece (Err fault)
    head_caused fault same working begins = record {
      same = same;
      working = working;
      within = tt;
      answer = λ fed given f.
          let told = says (fed ++ piece) (fed_front most parts.Head format kept piece after got count stopped refl counted more fed f.stands) in
          let x = begins told.0 told.1 in
          (subst (λ m. IsRefusal m (fed ++ piece) fault) (sym same) (refused_head fault most (fed ++ piece) told.0 (drop parsed.len after ++ drop 16384 (fed ++ piece)) x told.2), head_no_memory fault most told.0 x);
    }

    head_ends : (named : Format) → length kept ≤ 16384 → new.most ≡ most → new.stopped ≡ stopped → ((h : ResponseHead) → IsHeadAt after spans parsed h → BeginsBody within_head new h parsed.len (Ok named))
        → parsed.len ≤ length after → StepsOver before_head new piece (Ok (record { flow = flows.Page named; taken = parsed.len - length kept }))
    head_ends named small same working begins inside = record {
      same = same;
      working = working;
      within = omega (arith, inside, counted, ap (length {A = ℕ}) more, length-append kept (take count piece), length-take count piece);
      answer = λ fed given f.
          let front = fed_front most parts.Head format kept piece after got count stopped refl counted more fed f.stands in
          let told = says (fed ++ piece) front in
          let x = begins told.0 told.1 in
          let k = kept_head (reader most parts.Head format kept got stopped) fed refl f.stands in
          let at : IsHeadAt (kept ++ take count piece) spans parsed told.0 = subst (λ bs. IsHeadAt bs spans parsed told.0) more told.1 in
          let past = head_behind kept (take count piece) spans parsed told.0 (subst (λ bs. HeadIs bs unfinished) (sym k.0) k.1) at in
          let long : length after ≡ length kept + count = omega (arith, ap (length {A = ℕ}) more, length-append kept (take count piece), length-take count piece, counted) in
          let short : length after ≤ 16384 = omega (arith, ap (length {A = ℕ}) front, length-take 16384 (fed ++ piece)) in
          let m = parsed.len - length kept in
          let bytes : fed ++ take m piece ≡ take parsed.len after =
          ap (λ xs. xs ++ take m piece) (sym k.0) ∙ ap (λ xs. kept ++ xs) (sym (take_less piece m count (omega (arith, inside, long))))
          ∙ sym (take_past kept (take count piece) parsed.len (omega (arith, past))) ∙ ap (λ xs. take parsed.len xs) (sym more) in
          let alone = head_alone after spans parsed told.0 told.1 short in
          let stands = begin_stands most (take parsed.len after) told.0 named parsed.len alone x.0 x.1 told.1.at.len (omega (arith, inside, short)) (first_part (framing_of told.0)) stopped refl f.stands.working in
          let begun = streaming most (first_part (framing_of told.0)) named [] 0 parsed.len stopped in
          let held = subst (λ xs. Stands (take parsed.len after) (reader most (first_part (framing_of told.0)) named xs parsed.len stopped)) (sym (kept_none (first_part (framing_of told.0)))) stands in
          let flows_on = flows_by (take parsed.len after) [] begun held (λ e. refl) refl in
          record {
            first = refl;
            told = ap told_of_head x.2 ∙ first_told (framing_of told.0) named;
            none = f.gave.0;
            head = told.0;
            ends = subst (λ bs. HeadIs bs (found told.0 [])) (sym bytes) alone;
            flows_on = subst (λ bs. Flows bs [] new) (sym bytes) (subst (λ s. Flows (take parsed.len after) [] s) (sym x.2) flows_on);
          };
    }

-- the same, of streams that are given by their values
module _ (s next : Streaming) (piece : List ℕ) (count : ℕ) (is : s.part ≡ parts.Head) (counted : count ≡ min (16384 - length s.kept) (length piece)) (next_is : next ≡ record s { kept = s.kept ++ take count piece }) where
  abbrev after_piece : List ℕ
  after_piece = s.kept ++ take count piece

  abbrev headed : List ℕ → Streaming
  headed kept = streaming s.most parts.Head s.format kept s.body s.got s.stopped

  s_headed : headed s.kept ≡ s
  s_headed = ap (λ p. streaming s.most p s.format s.kept s.body s.got s.stopped) (sym is)

  next_headed : headed after_piece ≡ next
  next_headed = ap (λ p. streaming s.most p s.format after_piece s.body s.got s.stopped) (sym is) ∙ sym next_is

  pub head_goes_at : (result : Result Step ReplyFault) → result ≡ Ok (let a : Step = record { flow = flows.More; taken = length piece } in a) → ((g : List ℕ) → after_piece ≡ take 16384 g → HeadIs g unfinished × (after_piece ≡ g)) → StepsOver s next piece result
  head_goes_at result told says =
      subst (λ r. StepsOver s next piece r) (sym told) (subst (λ o. StepsOver o next piece (Ok (let a : Step = record { flow = flows.More; taken = length piece } in a))) s_headed (subst (λ n. StepsOver (headed s.kept) n piece (Ok (let a : Step = record { flow = flows.More; taken = length piece } in a))) next_headed
      (head_goes s.most s.format s.kept piece after_piece s.body s.got count s.stopped counted refl says)))

  pub head_refuses_at : ((g : List ℕ) → after_piece ≡ take 16384 g → (head : HeadRead) × HeadIs g head × IsBadHead head) → StepsOver s next piece (Err faults.Head)
  head_refuses_at says =
      subst (λ o. StepsOver o next piece (Err faults.Head)) s_headed (subst (λ n. StepsOver (headed s.kept) n piece (Err faults.Head)) next_headed
      (head_refuses s.most s.format s.kept piece after_piece s.body s.got count s.stopped counted refl says))

  module _ (spans : List HeaderSpan) (parsed : ResponseSpans) (new : Streaming) (same : new.most ≡ next.most) (working : new.stopped ≡ next.stopped)
      (says : (g : List ℕ) → after_piece ≡ take 16384 g → (h : ResponseHead) × IsHeadAt after_piece spans parsed h × HeadIs g (found h (drop parsed.len after_piece ++ drop 16384 g))) where
    pub head_caused_at : (fault : ReplyFault) → ((h : ResponseHead) → IsHeadAt next.kept spans parsed h → BeginsBody next new h parsed.len (Err fault)) → StepsOver s new piece (Err fault)
    head_caused_at fault begins =
        subst (λ o. StepsOver o new piece (Err fault)) s_headed
        (head_caused s.most s.format s.kept piece after_piece s.body s.got count s.stopped counted refl spans parsed says new fault
        (same ∙ sym (ap (λ n. n.most) next_headed)) (working ∙ sym (ap (λ n. n.stopped) next_headed))
        (subst (λ n. (h : ResponseHead) → IsHeadAt n.kept spans parsed h → BeginsBody n new h parsed.len (Err fault)) (sym next_headed) begins))

    pub head_ends_at : (named : Format) (m : ℕ) → m ≡ parsed.len - length s.kept → length s.kept ≤ 16384 → parsed.len ≤ length after_piece
        → ((h : ResponseHead) → IsHeadAt next.kept spans parsed h → BeginsBody next new h parsed.len (Ok named)) → StepsOver s new piece (Ok (let a : Step = record { flow = flows.Page named; taken = m } in a))
    head_ends_at named m m_is short inside begins =
        subst (λ k. StepsOver s new piece (Ok (let a : Step = record { flow = flows.Page named; taken = k } in a))) (sym m_is)
        (subst (λ o. StepsOver o new piece (Ok (let a : Step = record { flow = flows.Page named; taken = parsed.len - length s.kept } in a))) s_headed
        (head_ends s.most s.format s.kept piece after_piece s.body s.got count s.stopped counted refl spans parsed says new named short
        (same ∙ sym (ap (λ n. n.most) next_headed)) (working ∙ sym (ap (λ n. n.stopped) next_headed))
        (subst (λ n. (h : ResponseHead) → IsHeadAt n.kept spans parsed h → BeginsBody n new h parsed.len (Ok named)) (sym next_headed) begins) inside))

pub kept_count : (items kept piece : List ℕ) (count : ℕ) → items ≡ kept → count ≡ min (16384 - length items) (length piece) → count ≡ min (16384 - length kept) (length piece)
kept_count items kept piece count same is = is ∙ ap (λ xs. min (16384 - length xs) (length piece)) same

pub found_in : (g front after : List ℕ) (spans : List HeaderSpan) (parsed : ResponseSpans) → front ≡ after → ((h : ResponseHead) × IsHeadAt front spans parsed h × HeadIs g (found h (drop parsed.len front ++ drop 16384 g)))
    → (h : ResponseHead) × IsHeadAt after spans parsed h × HeadIs g (found h (drop parsed.len after ++ drop 16384 g))
found_in g front after spans parsed same x = subst (λ bs. (h : ResponseHead) × IsHeadAt bs spans parsed h × HeadIs g (found h (drop parsed.len bs ++ drop 16384 g))) same x

-- what the fields of a head that was found say
pub head_facts_of : (facts : HeadFacts) (front kept : List ℕ) (spans : List HeaderSpan) (parsed : ResponseSpans) (h : ResponseHead) → front ≡ kept → facts ≡ facts_by (map (header_bytes front) (take parsed.headers spans)) → IsHeadAt kept spans parsed h → AreFactsOf facts h
head_facts_of facts front kept spans parsed h same told at =
    are_facts facts h (told ∙ ap (λ bs. facts_by (map (header_bytes bs) (take parsed.headers spans))) same ∙ ap facts_by at.at.fields)

-- a stream behind a head
pub begun_so : (m most : ℕ) (part first : Part) (format : Format) (kept : List ℕ) (body got : ℕ) (stopped after : Option ReplyFault) → m ≡ most → part ≡ first → kept ≡ [] → stopped ≡ after
    → streaming m part format kept body got stopped ≡ streaming most first format [] body got after
begun_so m most part first format kept body got stopped after a b d e = cc (a, b, d, e)
