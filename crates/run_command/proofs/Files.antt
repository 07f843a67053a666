-- A file that is read block by block, and what it comes to.
use Rattle.std.proofs.Common.{◌≡◌, ◌∙◌, ℕ, ◌<◌, List, length, take, Option, Some, None, Result, Ok, Err, refl, sym, ap, subst, arith, length-append}
use Rattle.std.specs.Prelude.{IsErrAnd}
use Rattle.std.specs.Io.KnownBytes.{Consumes, IsAtEnd}
use Rattle.bridge_ports.specs.Causes.{Rose}
use Rattle.bridge_ports.specs.Worlds.{WorldState, OpenFile, FileReadsFrom}
use Rattle.bridge_ports.specs.Outside.{Outside, with_file_at, with_file_open, with_no_file_open}
use Rattle.program_words.specs.Limits.{most_config}
use Rattle.program_words.specs.declared.stop.Stop.{Stop}
use Rattle.program_words.specs.declared.stop.Stop.TheVariants.{TooLong, Read, BadConfig, Memory}
use Rattle.run_command.specs.ConfigFiles.{IsTooLong, StopsReadingFile, LeavesFile, left_of, with_file_asked, IsFileAsked}
use Rattle.bridge_ports.specs.Inputs.{IsOverlong}

-- ---- one read

pub taken_of : (E : Type 0) (o n : Option OpenFile) (count : ℕ) (into : List ℕ) → FileReadsFrom {E = E} o n (Ok count) into
    → Consumes (left_of o) (left_of n) (take count into) × (count ≡ 0 → 0 < length into → IsAtEnd (left_of n))
taken_of E None n count into reads = absurd reads
taken_of E (Some o) None count into reads = absurd reads
taken_of E (Some o) (Some n) count into reads = reads

-- ---- what a stop tells

-- a file that is too long tells so
pub told_too_long : (told after : Option (List ℕ)) → IsOverlong most_config told after → IsTooLong told
told_too_long None after over = record { bytes = over.bytes; on_file = tt; long = over.many }
told_too_long (Some bytes) None over = absurd over.from
told_too_long (Some bytes) (Some rest) over = record { bytes = bytes; on_file = refl; long = omega (arith, over.many, ap (length {A = ℕ}) over.from, length-append over.bytes rest) }

-- what is true of a stop is true of a result that is that stop
pub leaves_as : {T : Type 0} (told : Option (List ℕ)) (old new : WorldState) (r : Result T Stop) (stop : Stop) → IsErrAnd r (λ s. s ≡ stop) → StopsReadingFile told old new stop → LeavesFile told old new r
leaves_as told old new (Ok x) stop is leaves = absurd is
leaves_as told old new (Err s) stop is leaves = let At : Stop → Type 0 = λ t. StopsReadingFile told old new t in subst At (sym is) leaves

-- ---- what becomes of a world

-- a read that is the last one, which may fail
pub read_off : (a b c : Outside) → b ≡ with_file_at b.world.file a.world.file_faults a → c ≡ with_file_at c.world.file c.world.file_faults b → c ≡ with_file_at c.world.file c.world.file_faults a
read_off a b c first then = then ∙ ap (with_file_at c.world.file c.world.file_faults) first

-- a file that was opened and read was asked for
pub read_asked : (path : List ℕ) (a b c : Outside) → b ≡ with_file_open path a → c ≡ with_file_at c.world.file c.world.file_faults b → IsFileAsked path a c
read_asked path a b c opened then = then ∙ ap (with_file_at c.world.file c.world.file_faults) opened

-- so was one that could not be
pub unopened_asked : (path : List ℕ) (a b : Outside) → b ≡ with_no_file_open path b.world.file_faults a → IsFileAsked path a b
unopened_asked path a b is = is ∙ ap (λ (f : Option OpenFile). with_file_asked path f b.world.file_faults a) (sym (ap (λ (o : Outside). o.world.file) is))

-- what a read leaves is counted from where the file was opened
leaves_from : {T : Type 0} (told : Option (List ℕ)) (a b c : WorldState) (r : Result T Stop) → b.file_faults ≡ a.file_faults → LeavesFile told b c r → LeavesFile told a c r
leaves_from told a b c (Ok x) same leaves = (leaves.0, leaves.1 ∙ same)
leaves_from told a b c (Err TooLong) same leaves = (leaves.0, leaves.1 ∙ same)
leaves_from told a b c (Err Read) same leaves = (subst (λ n. Rose n c.file_faults) same leaves.0, leaves.1)
leaves_from told a b c (Err (BadConfig fault)) same leaves = (leaves.0, leaves.1 ∙ same)
leaves_from told a b c (Err Memory) same leaves = (leaves.0, leaves.1 ∙ same)
leaves_from told a b c (Err _) same leaves = absurd leaves

pub opened_leaves : {T : Type 0} (path : List ℕ) (a b : Outside) (c : WorldState) (r : Result T Stop) → b ≡ with_file_open path a → LeavesFile (left_of b.world.file) b.world c r → LeavesFile (a.files path) a.world c r
opened_leaves path a b c r opened leaves =
    leaves_from (a.files path) a.world b.world c r (ap (λ (o : Outside). o.world.file_faults) opened)
    (subst (λ (told : Option (List ℕ)). LeavesFile told b.world c r) (ap (λ (o : Outside). left_of o.world.file) opened) leaves)
