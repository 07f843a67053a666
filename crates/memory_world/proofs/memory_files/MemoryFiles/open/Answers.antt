use Rattle.std.proofs.Common.{◌≡◌, ◌∙◌, ◌<◌, ◌≤◌, length, bytes_eq, inr, ap, refl, sym, arith}
use Rattle.std.specs.List.{position_or_len}
use Rattle.bridge_ports.specs.declared.memory_world.MemoryFile.{MemoryFile}
use Rattle.bridge_ports.specs.MemoryWorlds.{file_of}
use Rattle.memory_world.specs.WorldParts.{FilesState}
use Rattle.memory_world.proofs.FileLaws.{file_here, file_missing}
use Rattle.memory_world.proofs.memory_files.MemoryFiles.open.Goals as goal

pub returns-then-place-len-clause-closed : goal.returns-then-place-len-clause-closed
returns-then-place-len-clause-closed c = λ closed.
    let long : length c.self.inside.files ≤ c.place_of-place.result = omega (arith, c.if-place-len.true, c.len.ensures) in
    let is : c.place_of-place.result ≡ position_or_len (λ (f : MemoryFile). bytes_eq f.path c.args.path.now) c.self.inside.files = c.place_of-place.ensures
    ∙ ap (position_or_len (λ (f : MemoryFile). bytes_eq f.path c.args.path.now)) c.as_slice.ensures in
    record {
      none_left = refl;
      why = inr (ap (λ (s : FilesState). file_of s.files c.args.path.now) (sym c.self.view_is) ∙ file_missing c.self.inside.files c.args.path.now c.place_of-place.result is long);
    }

pub returns-clause-opened : goal.returns-clause-opened
returns-clause-opened c = λ opened.
    let inside : c.place_of-place.result < length c.self.inside.files = omega (arith, c.if-place-len.false, c.len.ensures) in
    let is : c.place_of-place.result ≡ position_or_len (λ (f : MemoryFile). bytes_eq f.path c.args.path.now) c.self.inside.files = c.place_of-place.ensures
    ∙ ap (position_or_len (λ (f : MemoryFile). bytes_eq f.path c.args.path.now)) c.as_slice.ensures in
    (c.if-is_refused.false, refl, file_here c.self.inside.files c.args.path.now c.place_of-place.result is inside ∙ ap (λ (s : FilesState). file_of s.files c.args.path.now) c.self.view_is)
