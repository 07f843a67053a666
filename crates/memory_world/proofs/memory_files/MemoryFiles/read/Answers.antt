use Rattle.std.proofs.Common.{◌≡◌, ◌∙◌, true, List, IsSome, get_or, ap, sym, subst, arith}
use Rattle.bridge_ports.specs.declared.memory_world.MemoryFile.{MemoryFile}
use Rattle.memory_world.specs.WorldParts.{FilesState, bytes_at}
use Rattle.memory_world.proofs.FileLaws.{file_is_read, is_open_now, bytes_here}
use Rattle.memory_world.proofs.memory_files.MemoryFiles.read.Goals as goal

pub returns-clause-read : goal.returns-clause-read
returns-clause-read c =
    let told : IsSome c.args.self.now.left = c.requires in
    let was = ap (λ (s : FilesState). s.left) c.self.view_is in
    let is_open : c.self.inside.is_open ≡ true = is_open_now c.self.inside.files c.self.inside.is_open c.self.inside.place c.self.inside.read (subst IsSome (sym was) told) in
    let f : MemoryFile = c.index-as_slice-self.result in
    let got : f ≡ get_or c.self.inside.files c.self.inside.place f = c.index-as_slice-self.is ∙ ap (λ (fs : List MemoryFile). get_or fs c.self.inside.place f) c.as_slice.ensures in
    let bytes : bytes_at c.self.inside.files c.self.inside.place ≡ c.as_slice-2.result.now = bytes_here c.self.inside.files c.self.inside.place f (c.self.invariant.there is_open) got
    ∙ ap (λ (g : MemoryFile). g.bytes) c.index-as_slice-self.is ∙ sym c.as_slice-2.ensures in
    file_is_read c.self.inside.files c.self.inside.is_open c.self.inside.place c.self.inside.read c.copy_front-count.result c.as_slice-2.result.now c.copy_front-count.new.into c.args.self.now.left
    c.self.invariant was told bytes (omega (arith, c.copy_front-count.ensures.count, c.copy_front-count.auto.into)) c.copy_front-count.ensures.copied
