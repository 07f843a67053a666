-- A run of the bytes of a chunk.
use Rattle.std.proofs.Common.{◌<◌, ◌+◌, ◌≡◌, ap, subst, ◌∙◌, arith}
use Rattle.http_talk.specs.declared.chunk_place.ChunkPlace.TheVariants.{Bytes}
use Rattle.http_talk.specs.ChunkFeeding.{TakesRun, IsChunkPlace}
use Rattle.http_talk.proofs.ChunkSteps.{took_run, going_room, counted}
use Rattle.http_talk.proofs.chunk_reader.ChunkReader.take_run.Goals as goal

pub returns : goal.returns
returns c =
    let inside = c.self.inside in
    let room = going_room c.args.most c.args.self.now c.requires.going in
    let body = ap (λ v. v.body) c.self.view_is in
    let got = ap (λ v. v.got) c.self.view_is in
    let at : inside.place ≡ Bytes c.args.left = ap (λ v. v.place) c.self.view_is ∙ c.requires.place in
    let some : 0 < c.args.left = subst IsChunkPlace at c.self.invariant in
    let count = c.min-count.result in
    let behind = c.behind_bytes-self-inside.result in
    subst (λ v. TakesRun c.args.most v (counted behind (inside.body + count) (inside.got + count)) c.args.piece.now count) c.self.view_is
    (took_run c.args.most c.args.left count inside.got inside.body inside.place behind c.args.piece.now at some (omega arith) (omega arith)
    (omega (arith, room.0, body)) (omega (arith, room.1, got)) (λ long. omega (arith, long, some, room.0, room.1, body, got)) c.behind_bytes-self-inside.ensures.place)
