-- The files of a world in memory: what is found at a path, and what is left of the file that is open.
use Rattle.std.proofs.Common.{◌≡◌, ◌∙◌, ℕ, ◌+◌, ◌-◌, ◌<◌, ◌≤◌, Bool, true, false, cond, List, [], ◌++◌, map, length, take, drop, get_or, Option, Some, None, option_map, refl, sym, ap, subst, arith}
use Rattle.std.specs.Prelude.{find, IsSome, bytes_eq, slice_get, unwrap_or, min}
use Rattle.std.specs.List.{position_or_len}
use Rattle.std.proofs.lemmas.List.{take_all, length-drop, drop-drop, drop_all, take-append-drop}
use Rattle.std.proofs.lemmas.List.Folds.{find_at}
use Rattle.std.proofs.lemmas.Option.{slice_get-get_or}
use Rattle.bridge_ports.specs.declared.memory_world.MemoryFile.{MemoryFile}
use Rattle.bridge_ports.specs.MemoryWorlds.{FileState, file_of}
use Rattle.memory_world.specs.WorldParts.{file_given, bytes_at, files_state, IsOpenWithin, IsFileRead}
use Rattle.bridge_ports.specs.InMemory.{most_at_once}
use Rattle.memory_world.proofs.PairLaws.{find_map, find_none}

file_found : (files : List MemoryFile) (path : List ℕ) → file_of (map file_given files) path ≡ option_map (λ (f : MemoryFile). f.bytes) (find (λ (f : MemoryFile). bytes_eq f.path path) files)
file_found files path =
    ap (option_map (λ (f : FileState). f.bytes)) (find_map (λ (f : FileState). bytes_eq f.path path) file_given files)
    ∙ twice (find (λ (f : MemoryFile). bytes_eq f.path path) files)
  where
    twice : (o : Option MemoryFile) → option_map (λ (f : FileState). f.bytes) (option_map file_given o) ≡ option_map (λ (f : MemoryFile). f.bytes) o
    twice None = refl
    twice (Some f) = refl

-- at the place of a path there is its file
pub file_here : (files : List MemoryFile) (path : List ℕ) (place : ℕ) → place ≡ position_or_len (λ (f : MemoryFile). bytes_eq f.path path) files → place < length files
    → Some (bytes_at files place) ≡ file_of (map file_given files) path
file_here files path place is inside =
    let got : slice_get files place ≡ Some (get_or files place (record { path = []; bytes = [] })) = slice_get-get_or files place (record { path = []; bytes = [] }) inside in
    let found : find (λ (f : MemoryFile). bytes_eq f.path path) files ≡ slice_get files place = find_at (λ (f : MemoryFile). bytes_eq f.path path) files ∙ ap (λ (n : ℕ). slice_get files n) (sym is) in
    ap (λ (o : Option MemoryFile). Some (unwrap_or (option_map (λ (f : MemoryFile). f.bytes) o) [])) got
    ∙ sym (file_found files path ∙ ap (option_map (λ (f : MemoryFile). f.bytes)) (found ∙ got))

-- past the end there is none
pub file_missing : (files : List MemoryFile) (path : List ℕ) (place : ℕ) → place ≡ position_or_len (λ (f : MemoryFile). bytes_eq f.path path) files → length files ≤ place → file_of (map file_given files) path ≡ None
file_missing files path place is long = file_found files path ∙ ap (option_map (λ (f : MemoryFile). f.bytes)) (find_none (λ (f : MemoryFile). bytes_eq f.path path) files place is long)

-- a file of which something is told is open
pub is_open_now : (files : List MemoryFile) (is_open : Bool) (place read : ℕ) → IsSome (files_state files is_open place read).left → is_open ≡ true
is_open_now files true place read told = refl
is_open_now files false place read told = absurd (cc told)

-- the bytes of the file at a place
pub bytes_here : (files : List MemoryFile) (place : ℕ) (f : MemoryFile) → place < length files → f ≡ get_or files place f → bytes_at files place ≡ f.bytes
bytes_here files place f inside read = ap (λ (o : Option MemoryFile). unwrap_or (option_map (λ (g : MemoryFile). g.bytes) o) []) (slice_get-get_or files place f inside) ∙ ap (λ (g : MemoryFile). g.bytes) (sym read)

-- what is left of a file behind some bytes, once its front was copied
pub file_is_read : (files : List MemoryFile) (is_open : Bool) (place read count : ℕ) (bytes into : List ℕ) (left : Option (List ℕ)) → IsOpenWithin files is_open place read → (files_state files is_open place read).left ≡ left
    → IsSome left → bytes_at files place ≡ bytes → count ≡ min (min (length (take (length bytes - read) (drop read bytes))) (length into)) most_at_once → take count into ≡ take count (take (length bytes - read) (drop read bytes))
    → IsFileRead left (cond is_open (Some (drop (read + count) (bytes_at files place))) None) count into
file_is_read files false place read count bytes into left within was told here counted copied = absurd (cc (subst IsSome (sym was) told))
file_is_read files true place read count bytes into left within was told here counted copied =
    let b = bytes_at files place in
    let fits : read ≤ length bytes = subst (λ (xs : List ℕ). read ≤ length xs) here (within.within refl) in
    let all : take (length bytes - read) (drop read bytes) ≡ drop read bytes = take_all (length bytes - read) (drop read bytes) (omega (arith, length-drop read bytes)) in
    let front : take count into ≡ take count (drop read b) = copied ∙ ap (take count) all ∙ ap (λ (xs : List ℕ). take count (drop read xs)) (sym here) in
    let cut : drop count (drop read b) ≡ drop (read + count) b = drop-drop count read b in
    record {
      left = drop read b;
      rest = drop (read + count) b;
      old_is = sym was;
      new_is = refl;
      bytes = sym (take-append-drop count (drop read b)) ∙ (λ i. sym front i ++ cut i);
      at_end = λ none some. none_left b (read + count) (at_the_end bytes b read count (length into) (ap length here) (ap length all ∙ length-drop read bytes) counted none some);
    }
  where
    none_left : (xs : List ℕ) (n : ℕ) → length xs ≤ n → drop n xs ≡ []
    none_left xs n past = drop_all n xs past

    at_the_end : (bytes b : List ℕ) (read count room : ℕ) → length b ≡ length bytes → length (take (length bytes - read) (drop read bytes)) ≡ length bytes - read
        → count ≡ min (min (length (take (length bytes - read) (drop read bytes))) room) most_at_once → count ≡ 0 → 0 < room → length b ≤ read + count
    at_the_end bytes b read count room same size counted none some = omega (arith, same, size, counted, none, some)
