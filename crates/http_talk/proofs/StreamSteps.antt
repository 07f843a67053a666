-- Steps of a stream through the body of a reply.
use Rattle.std.proofs.Common.{◌≡◌, ℕ, ◌+◌, ◌-◌, ◌*◌, ◌≤◌, ◌<◌, true, false, List, [], ◌++◌, length, take, drop, refl, sym, ap, ◌∙◌, subst, arith, append_assoc, append-nil, Option, Some}
use Rattle.std.specs.Prelude.{◌≢◌, ◌||◌, ◌==◌, min, nat_lt, slice_range, if◌then◌else◌, Result, Ok, Err}
use Rattle.std.proofs.lemmas.Bool.{eqb-true, eqb-false}
use Rattle.std.proofs.lemmas.List.{length-append, length-take, take-append-drop, take_all}
use Rattle.page_model.specs.declared.format.Format.{Format}
use Rattle.http_talk.specs.declared.part.Part.{Part}
use Rattle.http_talk.specs.declared.part.Part.TheVariants as parts
use Rattle.http_talk.specs.declared.flow.Flow.TheVariants as flows
use Rattle.http_talk.specs.declared.flow.Step.{Step}
use Rattle.http_talk.specs.declared.chunk_place.ChunkPlace.{ChunkPlace}
use Rattle.http_talk.specs.declared.chunk_place.ChunkPlace.TheVariants as places
use Rattle.http_talk.specs.declared.fault.Progress.{Progress}
use Rattle.http_talk.specs.declared.fault.Progress.TheVariants as progresses
use Rattle.http_talk.specs.declared.fault.ReplyFault.{ReplyFault}
use Rattle.http_talk.specs.declared.fault.ReplyFault.TheVariants as faults
use Rattle.http_talk.specs.Chunks.{is_body_end, is_too_much, is_wrong, is_certain}
use Rattle.http_talk.specs.ChunkFeeding.{Counted, holding, is_past, is_over, TakesFront, IsChunkAnswer, part_behind}
use Rattle.http_talk.specs.Replies.{Judged, whole, IsJudged, HasVerdict, is_decided}
use Rattle.http_talk.specs.ReplyReading.{HasKept, Stands, IsRefusal, IsPieceTaken, kept_by, progress_of}
use Rattle.http_talk.specs.Streams.{Streaming, told_at, told_of_head, reader_with, Flows, StepFlow, StepsOver, step_to, step_behind}
use Rattle.http_talk.proofs.GoesOn.{verdict_stays}
use Rattle.http_talk.proofs.ReplySteps.{reader, ChunksAnswer, TakesBytes, sized_whole, sized_more, open_long, open_more, chunks_take, refusal_stays}
use Rattle.http_talk.proofs.StreamGiven.{streaming, flows_by, still_open}

-- a step of a stream that is given by its value, with what it answers
pub takes_from : (r s new : Streaming) (piece : List ℕ) (answer result : Result Step ReplyFault) → s ≡ r → result ≡ answer → StepsOver s new piece answer → StepsOver r new piece result
takes_from r s new piece answer result is told x = subst (λ a. StepsOver r new piece a) (sym told) (subst (λ q. StepsOver q new piece answer) is x)

-- ---- bytes of the body

pub step_taken : (from to : ℕ) → (step_to from to).taken ≡ to
step_taken from to = elim (from == to) as (λ t. (if t then (let a : Step = record { flow = flows.More; taken = to } in a) else (let b : Step = record { flow = flows.Body from to; taken = to } in b)).taken ≡ to) [
  | true ↦ refl
  | false ↦ refl
]

no_slice : (piece : List ℕ) (from to : ℕ) → from ≡ to → slice_range piece from to ≡ []
no_slice piece from to e = ap (λ n. take n (drop from piece)) (let none : to - from ≡ 0 = omega (arith, e) in none)

gives_step : (from to : ℕ) (fed given piece : List ℕ) (old new : Streaming) → from ≤ to → told_of_head new ≡ told_of_head old → Flows (fed ++ take to piece) (given ++ slice_range piece from to) new
    → (known : Judged) → IsJudged new.most (fed ++ take to piece) known → (from ≡ to → is_decided known ≡ false) → (from ≡ to → to ≡ length piece) → StepFlow fed given piece old new (Ok (step_to from to))
gives_step from to fed given piece old new order told f known judged_so undecided used =
    elim (from == to) as (λ t. (from == to) ≡ t → StepFlow fed given piece old new (Ok (if t then (let a : Step = record { flow = flows.More; taken = to } in a) else (let b : Step = record { flow = flows.Body from to; taken = to } in b)))) [
      | true ↦ λ same.
          let is = eqb-true from to same in
          let bytes : take to piece ≡ piece = take_all to piece (omega (arith, used is)) in
          let none : given ++ slice_range piece from to ≡ given = ap (λ xs. given ++ xs) (no_slice piece from to is) ∙ append-nil given in
          record {
            all = used is;
            told = told;
            flows_on = subst (λ xs. Flows (fed ++ xs) given new) bytes (subst (λ xs. Flows (fed ++ take to piece) xs new) none f);
            known = known;
            judged_so = subst (λ xs. IsJudged new.most (fed ++ xs) known) bytes judged_so;
            undecided = undecided is;
          }
      | false ↦ λ other. record { some = omega (arith, eqb-false from to other, order); last = refl; told = told; flows_on = f }
    ] refl

first_slice : (piece : List ℕ) (count : ℕ) → slice_range piece 0 count ≡ take count piece
first_slice piece count = ap (λ n. take n piece) (let all : count - 0 ≡ count = omega arith in all)

take_again : (piece : List ℕ) (count : ℕ) → take count (take count piece) ≡ take count piece
take_again piece count = take_all count (take count piece) (omega (arith, length-take count piece))

module _ (most n : ℕ) (format : Format) (kept : List ℕ) (body got : ℕ) (stopped : Option ReplyFault) (piece : List ℕ) (count : ℕ) (counted : count ≡ min (length piece) (n - body)) (below : body < n) where
  abbrev from_sized : Streaming
  from_sized = streaming most (parts.Sized n) format kept body got stopped

  sized_all : count ≡ n - body → StepsOver from_sized (streaming most parts.Whole format kept (body + count) got stopped) piece (Ok (step_to 0 count))
  sized_all all = record {
    same = refl;
    working = refl;
    within = omega (arith, step_taken 0 count, counted);
    answer = λ fed given f.
        let new = streaming most parts.Whole format kept (body + count) got stopped in
        let long : length (take count piece) ≡ count = omega (arith, length-take count piece, counted) in
        let t = (sized_whole most n (parts.Sized n) format given (take count piece) (given ++ take count piece) got count stopped refl (omega (arith, long, all, f.count, counted)) (ap (λ xs. given ++ xs) (sym (take_again piece count))) (omega (arith, all, f.count))).answer fed f.stands in
        let bytes : given ++ take count piece ≡ given ++ slice_range piece 0 count = ap (λ xs. given ++ xs) (sym (first_slice piece count)) in
        let f2 = flows_by (fed ++ take count piece) (given ++ take count piece) new t.stands (λ e. absurd (cc e)) (omega (arith, f.count, long, length-append given (take count piece))) in
        gives_step 0 count fed given piece from_sized new (omega arith) refl (subst (λ xs. Flows (fed ++ take count piece) xs new) bytes f2) t.known t.judged_so
        (λ none. absurd {A = is_decided t.known ≡ false} (omega (arith, none, all, below))) (λ none. absurd {A = count ≡ length piece} (omega (arith, none, all, below)));
  }

  sized_some : count ≢ n - body → StepsOver from_sized (streaming most (parts.Sized n) format kept (body + count) got stopped) piece (Ok (step_to 0 count))
  sized_some some = record {
    same = refl;
    working = refl;
    within = omega (arith, step_taken 0 count, counted);
    answer = λ fed given f.
        let new = streaming most (parts.Sized n) format kept (body + count) got stopped in
        let long : length (take count piece) ≡ count = omega (arith, length-take count piece, counted) in
        let t = (sized_more most n (parts.Sized n) format given (take count piece) (given ++ take count piece) got count stopped refl (omega (arith, long, f.count, counted)) (ap (λ xs. given ++ xs) (sym (take_again piece count))) (λ e. some (omega (arith, e, f.count)))).answer fed f.stands in
        let bytes : given ++ take count piece ≡ given ++ slice_range piece 0 count = ap (λ xs. given ++ xs) (sym (first_slice piece count)) in
        let f2 = flows_by (fed ++ take count piece) (given ++ take count piece) new t.stands (λ e. absurd (cc e)) (omega (arith, f.count, long, length-append given (take count piece))) in
        gives_step 0 count fed given piece from_sized new (omega arith) refl (subst (λ xs. Flows (fed ++ take count piece) xs new) bytes f2) t.known t.judged_so
        (λ none. still_open t.known t.progress_is) (λ none. omega (arith, none, counted, below));
  }

  pub sized_all_at : (part : Part) → part ≡ parts.Sized n → count ≡ n - body → StepsOver (streaming most part format kept body got stopped) (streaming most parts.Whole format kept (body + count) got stopped) piece (Ok (step_to 0 count))
  sized_all_at part is all = subst (λ p. StepsOver (streaming most p format kept body got stopped) (streaming most parts.Whole format kept (body + count) got stopped) piece (Ok (step_to 0 count))) (sym is) (sized_all all)

  pub sized_some_at : (part : Part) → part ≡ parts.Sized n → count ≢ n - body → StepsOver (streaming most part format kept body got stopped) (streaming most part format kept (body + count) got stopped) piece (Ok (step_to 0 count))
  sized_some_at part is some = subst (λ p. StepsOver (streaming most p format kept body got stopped) (streaming most p format kept (body + count) got stopped) piece (Ok (step_to 0 count))) (sym is) (sized_some some)

module _ (most : ℕ) (format : Format) (kept : List ℕ) (body got : ℕ) (stopped : Option ReplyFault) (piece : List ℕ) (short : body ≤ most) where
  open_gives : length piece ≤ most - body → StepsOver (streaming most parts.Open format kept body got stopped) (streaming most parts.Open format kept (body + length piece) got stopped) piece (Ok (step_to 0 (length piece)))
  open_gives few = record {
    same = refl;
    working = refl;
    within = omega (arith, step_taken 0 (length piece));
    answer = λ fed given f.
        let old = streaming most parts.Open format kept body got stopped in
        let new = streaming most parts.Open format kept (body + length piece) got stopped in
        let t = (open_more most parts.Open format given piece got stopped refl (omega (arith, few, f.count)) (given ++ piece) refl).answer fed f.stands in
        let all : take (length piece) piece ≡ piece = take_all (length piece) piece (omega arith) in
        let bytes : given ++ piece ≡ given ++ slice_range piece 0 (length piece) = ap (λ xs. given ++ xs) (sym all ∙ sym (first_slice piece (length piece))) in
        let f2 = flows_by (fed ++ piece) (given ++ piece) new t.stands (λ e. absurd (cc e)) (omega (arith, f.count, length-append given piece)) in
        let f3 = subst (λ xs. Flows (fed ++ xs) (given ++ piece) new) (sym all) f2 in
        gives_step 0 (length piece) fed given piece old new (omega arith) refl (subst (λ xs. Flows (fed ++ take (length piece) piece) xs new) bytes f3) t.known (subst (λ xs. IsJudged most (fed ++ xs) t.known) (sym all) t.judged_so)
        (λ none. still_open t.known t.progress_is) (λ none. refl);
  }

  pub open_gives_at : (part : Part) → part ≡ parts.Open → length piece ≤ most - body → StepsOver (streaming most part format kept body got stopped) (streaming most part format kept (body + length piece) got stopped) piece (Ok (step_to 0 (length piece)))
  open_gives_at part is few = subst (λ p. StepsOver (streaming most p format kept body got stopped) (streaming most p format kept (body + length piece) got stopped) piece (Ok (step_to 0 (length piece)))) (sym is) (open_gives few)

  open_refuses : most - body < length piece → StepsOver (streaming most parts.Open format kept body got stopped) (streaming most parts.Open format kept body got stopped) piece (Err faults.TooLong)
  open_refuses much = record {
    same = refl;
    working = refl;
    within = tt;
    answer = λ fed given f.
        ((open_long most parts.Open format given piece got stopped refl (omega (arith, much, f.count)) (reader most parts.Open format given got stopped) refl refl).answer fed f.stands, (λ e. cc e));
  }

  pub open_refuses_at : (part : Part) → part ≡ parts.Open → most - body < length piece → StepsOver (streaming most part format kept body got stopped) (streaming most part format kept body got stopped) piece (Err faults.TooLong)
  open_refuses_at part is much = subst (λ p. StepsOver (streaming most p format kept body got stopped) (streaming most p format kept body got stopped) piece (Err faults.TooLong)) (sym is) (open_refuses much)

-- ---- a reply that is whole

pub whole_again : (s : Streaming) → s.part ≡ parts.Whole → (fed given : List ℕ) → Flows fed given s → (more : List ℕ) → HasVerdict s.most (fed ++ more) (whole s.format given) × Flows (fed ++ more) given s
whole_again s is fed given f more =
    let v : HasVerdict s.most fed (whole s.format given) = subst (λ p. HasKept p s.most fed s.format (kept_by p s.kept given) s.got) is f.stands.keeps in
    let w = verdict_stays s.most fed more (whole s.format given) v in
    let again : Stands (fed ++ more) (reader_with s given) = record { working = f.stands.working; keeps = subst (λ p. HasKept p s.most (fed ++ more) s.format (kept_by p s.kept given) s.got) (sym is) w } in
    (w, flows_by (fed ++ more) given s again (λ head. absurd (cc (sym head ∙ is))) f.count)

pub whole_step : (s : Streaming) (piece : List ℕ) → s.part ≡ parts.Whole → StepsOver s s piece (Ok (record { flow = flows.Whole; taken = 0 }))
whole_step s piece is = record {
  same = refl;
  working = refl;
  within = omega arith;
  answer = λ fed given f.
      let x = whole_again s is fed given f [] in
      record { format = s.format; before = ap (λ p. told_at p s.format) is; told = refl; verdict = x.0; flows_on = x.1 };
}

-- ---- a body in chunks

past_same : (most : ℕ) (c : Counted) (held : List ℕ) → c.body ≡ length held → is_past most c ≡ is_too_much most (holding c held)
past_same most c held e = ap (λ n. nat_lt most n || nat_lt (8 * most + 65536) c.got) e

pub over_same : (most : ℕ) (c : Counted) (held : List ℕ) → c.body ≡ length held → is_over most c ≡ is_certain most (holding c held)
over_same most c held e = ap (λ t. is_body_end c.place || t || is_wrong c.place) (past_same most c held e)

answer_held : (result : Result Progress ReplyFault) (most : ℕ) (c : Counted) (held : List ℕ) → c.body ≡ length held → IsChunkAnswer most c result → ChunksAnswer most (holding c held) result
answer_held (Ok progresses.Whole) most c held e x = x
answer_held (Ok progresses.More) most c held e x = sym (over_same most c held e) ∙ x
answer_held (Err faults.TooLong) most c held e x = (x.0, sym (past_same most c held e) ∙ x.1)
answer_held (Err faults.Chunk) most c held e x = (x.0, sym (past_same most c held e) ∙ x.1, x.2)
answer_held (Err fault) most c held e x = absurd x

kept_behind : (place : ChunkPlace) (kept given : List ℕ) → kept_by (part_behind place) kept given ≡ given
kept_behind places.Whole kept given = refl
kept_behind _ kept given = refl

told_behind : (place : ChunkPlace) (format : Format) → told_at (part_behind place) format ≡ Some format
told_behind places.Whole format = refl
told_behind _ format = refl

not_behind : (place : ChunkPlace) → part_behind place ≢ parts.Head
not_behind places.Whole e = cc e
not_behind _ e = cc e

no_memory : (fault : ReplyFault) (most : ℕ) (c : Counted) → IsChunkAnswer most c (Err fault) → fault ≢ faults.Memory
no_memory faults.Memory most c x e = x
no_memory faults.TooLong most c x e = cc e
no_memory faults.Chunk most c x e = cc e
no_memory _ most c x e = x

module _ (most : ℕ) (place : ChunkPlace) (format : Format) (kept : List ℕ) (body got : ℕ) (stopped : Option ReplyFault) (piece : List ℕ) (c : Counted) (from to : ℕ)
    (t : TakesFront most (record { place = place; body = body; got = got }) c piece from to) where
  abbrev behind_chunks : Streaming
  behind_chunks = streaming most (part_behind c.place) format kept c.body c.got stopped

  abbrev in_front : Streaming
  in_front = streaming most (parts.Chunked place) format kept body got stopped

  chunks_give : (result : Result Progress ReplyFault) → IsChunkAnswer most c result → (fed given : List ℕ) → Flows fed given in_front
      → TakesBytes (reader most (parts.Chunked place) format given got stopped) (reader most (part_behind c.place) format (given ++ slice_range piece from to) c.got stopped) (take to piece) result
  chunks_give result x fed given f =
      let took = t.took given f.count in
      chunks_take result most place (parts.Chunked place) (part_behind c.place) format given got stopped (take to piece) (holding c (given ++ slice_range piece from to)) refl took.1 (answer_held result most c (given ++ slice_range piece from to) took.0 x) refl

  chunks_flow : (progress : Progress) → IsChunkAnswer most c (Ok progress) → (fed given : List ℕ) (f : Flows fed given in_front)
      → Flows (fed ++ take to piece) (given ++ slice_range piece from to) behind_chunks × (known : Judged) × IsJudged most (fed ++ take to piece) known × (progress ≡ progress_of known)
  chunks_flow progress x fed given f =
      let took = t.took given f.count in
      let all = given ++ slice_range piece from to in
      let taken : IsPieceTaken (fed ++ take to piece) (reader most (part_behind c.place) format all c.got stopped) progress = (chunks_give (Ok progress) x fed given f).answer fed f.stands in
      let stands = subst (λ xs. Stands (fed ++ take to piece) (reader most (part_behind c.place) format xs c.got stopped)) (sym (kept_behind c.place kept all)) taken.stands in
      (flows_by (fed ++ take to piece) all behind_chunks stands (λ e. absurd (not_behind c.place e)) took.0, taken.known, taken.judged_so, taken.progress_is)

  chunks_more : is_over most c ≡ false → StepsOver in_front behind_chunks piece (Ok (step_to from to))
  chunks_more going = record {
    same = refl;
    working = refl;
    within = omega (arith, step_taken from to, t.within);
    answer = λ fed given f.
        let x = chunks_flow progresses.More going fed given f in
        gives_step from to fed given piece in_front behind_chunks t.order (told_behind c.place format) x.0 x.1 x.2 (λ none. still_open x.1 x.3) (λ none. t.used none going);
  }

  chunks_whole : c.place ≡ places.Whole → StepsOver in_front behind_chunks piece (Ok (record { flow = flows.Whole; taken = to }))
  chunks_whole is = record {
    same = refl;
    working = refl;
    within = t.within;
    answer = λ fed given f.
        let x = chunks_flow progresses.Whole is fed given f in
        let none : given ++ slice_range piece from to ≡ given = ap (λ xs. given ++ xs) (no_slice piece from to (t.whole (ap is_body_end is))) ∙ append-nil given in
        let flows_on = subst (λ xs. Flows (fed ++ take to piece) xs behind_chunks) none x.0 in
        let here : behind_chunks.part ≡ parts.Whole = ap part_behind is in
        let bytes : (fed ++ take to piece) ++ [] ≡ fed ++ take to piece = append-nil (fed ++ take to piece) in
        let v = (whole_again behind_chunks here (fed ++ take to piece) given flows_on []).0 in
        record {
          format = format;
          before = refl;
          told = told_behind c.place format;
          verdict = subst (λ bs. HasVerdict most bs (whole format given)) bytes v;
          flows_on = flows_on;
        };
  }

  chunks_refuse : (fault : ReplyFault) → IsChunkAnswer most c (Err fault) → StepsOver in_front behind_chunks piece (Err fault)
  chunks_refuse fault x = record {
    same = refl;
    working = refl;
    within = tt;
    answer = λ fed given f.
        let refusal = (chunks_give (Err fault) x fed given f).answer fed f.stands in
        let all : (fed ++ take to piece) ++ drop to piece ≡ fed ++ piece = append_assoc fed (take to piece) (drop to piece) ∙ ap (λ xs. fed ++ xs) (take-append-drop to piece) in
        (subst (λ bs. IsRefusal most bs fault) all (refusal_stays fault most (fed ++ take to piece) (drop to piece) refusal), no_memory fault most c x);
  }

  chunks_step : (result : Result Progress ReplyFault) → IsChunkAnswer most c result → StepsOver in_front behind_chunks piece (step_behind result from to)
  chunks_step (Ok progresses.More) x = chunks_more x
  chunks_step (Ok progresses.Whole) x = chunks_whole x
  chunks_step (Err fault) x = chunks_refuse fault x

  pub chunks_step_at : (result : Result Progress ReplyFault) (part after : Part) (body2 got2 : ℕ) → part ≡ parts.Chunked place → after ≡ part_behind c.place → body2 ≡ c.body → got2 ≡ c.got → IsChunkAnswer most c result
      → StepsOver (streaming most part format kept body got stopped) (streaming most after format kept body2 got2 stopped) piece (step_behind result from to)
  chunks_step_at result part after body2 got2 is behind counted all x = rw (is, behind, counted, all) (chunks_step result x)
