-- Where the bytes between chunks end.
use Rattle.std.proofs.Common.{◌≡◌, ◌∙◌, ◌+◌, false, [], take, slice_index_or, sym, ap, subst, inl, inr, arith}
use Rattle.std.proofs.lemmas.List.{take_more}
use Rattle.http_talk.specs.Chunks.{place_after}
use Rattle.http_talk.specs.ChunkFeeding.{is_in_chunk, is_over, TakesChunks}
use Rattle.http_talk.proofs.ChunkSteps.{took_nothing, took_one, counted}
use Rattle.http_talk.proofs.chunk_reader.ChunkReader.skip.Goals as goal

pub loop-at-init : goal.loop-at-init
loop-at-init c = record { within = omega arith; took = took_nothing c.args.most c.args.self.now }

pub loop-at-preserved : goal.loop-at-preserved
loop-at-preserved c =
    let piece = c.args.piece.now in
    let now = c.loop-at.self in
    let going : is_over c.args.most now ≡ false = sym c.is_over.ensures ∙ c.if-not-is_over.true in
    let out : is_in_chunk now.place ≡ false = sym (ap (λ v. is_in_chunk v.place) c.self.view_is) ∙ sym c.is_in_chunk.ensures ∙ c.if-not-is_in_chunk.true in
    let one = took_one c.args.most c.args.self.now now (take c.loop-at.at piece) (slice_index_or piece c.loop-at.at 0) c.loop-at.invariant.took going out in
    let bytes = sym (take_more piece c.loop-at.at 0 c.loop-at-test.true) in
    record {
      within = omega (arith, c.loop-at-test.true);
      took = rw c.take_byte.ensures (subst (λ bs. TakesChunks c.args.most c.args.self.now (counted (place_after now.place (slice_index_or piece c.loop-at.at 0)) now.body (now.got + 1)) bs []) bytes one);
    }

pub returns-else-not-is_in_chunk : goal.returns-else-not-is_in_chunk
returns-else-not-is_in_chunk c = record {
  within = c.loop-at.invariant.within;
  took = c.loop-at.invariant.took;
  stops = λ more. inr (sym (ap (λ v. is_in_chunk v.place) c.self.view_is) ∙ sym c.is_in_chunk.ensures ∙ c.if-not-is_in_chunk.false);
}

pub returns-else-not-is_over : goal.returns-else-not-is_over
returns-else-not-is_over c = record {
  within = c.loop-at.invariant.within;
  took = c.loop-at.invariant.took;
  stops = λ more. inl (sym c.is_over.ensures ∙ c.if-not-is_over.false);
}

pub returns-after-loop-at : goal.returns-after-loop-at
returns-after-loop-at c = record {
  within = c.loop-at.invariant.within;
  took = c.loop-at.invariant.took;
  stops = λ more. absurd (omega (arith, more, c.loop-at-test.false));
}
