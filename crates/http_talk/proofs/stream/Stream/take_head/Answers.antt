-- Bytes of a head.
use Rattle.std.proofs.Common.{◌≡◌, ℕ, ◌++◌, ◌-◌, ◌∙◌, sym, ap, arith, take, length}
use Rattle.std.specs.Prelude.{min, Ok}
use Rattle.http_talk.proofs.StreamHeads.{head_goes_at, head_refuses_at, head_caused_at, head_ends_at, kept_count, found_in}
use Rattle.http_talk.proofs.stream.Stream.take_head.Goals as goal

pub returns-in-More : goal.returns-in-More
returns-in-More c =
    let s = c.args.self.now in
    let piece = c.args.piece.now in
    let count = c.min-count.result in
    let counted : count ≡ min (16384 - length s.kept) (length piece) = kept_count c.self.inside.kept.items s.kept piece count (ap (λ v. v.kept) c.self.view_is) (omega (arith, c.self.inside.kept.ok.0)) in
    let front : c.as_slice.result.now ≡ s.kept ++ take count piece = c.as_slice.ensures.value ∙ ap (λ v. v.kept) c.self-2.view_is ∙ ap (λ v. v.kept) c.keep.ensures in
    head_goes_at s c.keep.new.self piece count c.requires.part counted c.keep.ensures (Ok c.use_up.result) (ap (λ a. Ok a) c.use_up.ensures)
    (λ g is. let told = c.in-More.ensures.head g (front ∙ is) in (told.0, sym front ∙ told.1))

pub returns-in-Bad : goal.returns-in-Bad
returns-in-Bad c =
    let s = c.args.self.now in
    let piece = c.args.piece.now in
    let count = c.min-count.result in
    let counted : count ≡ min (16384 - length s.kept) (length piece) = kept_count c.self.inside.kept.items s.kept piece count (ap (λ v. v.kept) c.self.view_is) (omega (arith, c.self.inside.kept.ok.0)) in
    let front : c.as_slice.result.now ≡ s.kept ++ take count piece = c.as_slice.ensures.value ∙ ap (λ v. v.kept) c.self-2.view_is ∙ ap (λ v. v.kept) c.keep.ensures in
    head_refuses_at s c.keep.new.self piece count c.requires.part counted c.keep.ensures (λ g is. c.in-Bad.ensures.head g (front ∙ is))

pub returns-in-Ok : goal.returns-in-Ok
returns-in-Ok c =
    let s = c.args.self.now in
    let piece = c.args.piece.now in
    let count = c.min-count.result in
    let kept = ap (λ v. v.kept) c.self.view_is in
    let counted : count ≡ min (16384 - length s.kept) (length piece) = kept_count c.self.inside.kept.items s.kept piece count kept (omega (arith, c.self.inside.kept.ok.0)) in
    let front : c.as_slice.result.now ≡ s.kept ++ take count piece = c.as_slice.ensures.value ∙ ap (λ v. v.kept) c.self-2.view_is ∙ ap (λ v. v.kept) c.keep.ensures in
    head_ends_at s c.keep.new.self piece count c.requires.part counted c.keep.ensures c.head_of.new.spans c.in-Found.head c.begin.new.self c.begin.ensures.same c.begin.ensures.working
    (λ g is. found_in g c.as_slice.result.now (s.kept ++ take count piece) c.head_of.new.spans c.in-Found.head front (c.in-Found.ensures.head g (front ∙ is)))
    c.in-Ok.format c.saturating_sub.result (omega (arith, c.saturating_sub.ensures, c.len-before.ensures, c.self.inside.kept.ok.0, ap (length {A = ℕ}) kept))
    (omega (arith, c.self.invariant.1, ap (length {A = ℕ}) kept)) (omega (arith, c.in-Found.ensures.within.section.len_fits, ap (length {A = ℕ}) front)) c.in-Ok.ensures.begun

pub returns-in-Err : goal.returns-in-Err
returns-in-Err c =
    let s = c.args.self.now in
    let piece = c.args.piece.now in
    let count = c.min-count.result in
    let counted : count ≡ min (16384 - length s.kept) (length piece) = kept_count c.self.inside.kept.items s.kept piece count (ap (λ v. v.kept) c.self.view_is) (omega (arith, c.self.inside.kept.ok.0)) in
    let front : c.as_slice.result.now ≡ s.kept ++ take count piece = c.as_slice.ensures.value ∙ ap (λ v. v.kept) c.self-2.view_is ∙ ap (λ v. v.kept) c.keep.ensures in
    head_caused_at s c.keep.new.self piece count c.requires.part counted c.keep.ensures c.head_of.new.spans c.in-Found.head c.begin.new.self c.begin.ensures.same c.begin.ensures.working
    (λ g is. found_in g c.as_slice.result.now (s.kept ++ take count piece) c.head_of.new.spans c.in-Found.head front (c.in-Found.ensures.head g (front ∙ is)))
    c.in-Err.fault c.in-Err.ensures.begun
