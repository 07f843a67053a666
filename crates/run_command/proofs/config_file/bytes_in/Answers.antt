use Rattle.std.proofs.Common.{List, ℕ, Option, ap, subst}
use Rattle.std.specs.Prelude.{is_some, IfOk, IfErr}
use Rattle.bridge_ports.specs.Outside.{Outside}
use Rattle.run_command.specs.ConfigFiles.{HoldsWhole, StopsAtFile, left_of}
use Rattle.run_command.proofs.Files.{read_asked, unopened_asked, opened_leaves}
use Rattle.run_command.proofs.config_file.bytes_in.Goals as goal

pub file_bytes-requires-after_bounds : goal.file_bytes-requires-after_bounds
file_bytes-requires-after_bounds g c κs within = ap (λ (o : Outside). is_some o.world.file) c.in-Ok.ensures.done

pub returns-in-Ok-clause-bytes : goal.returns-in-Ok-clause-bytes
returns-in-Ok-clause-bytes g c =
    subst (λ (told : Option (List ℕ)). IfOk c.file_bytes.result (λ bytes. HoldsWhole told bytes.items)) (ap (λ (o : Outside). left_of o.world.file) c.in-Ok.ensures.done) c.file_bytes.ensures.bytes

pub returns-in-Ok-clause-stop : goal.returns-in-Ok-clause-stop
returns-in-Ok-clause-stop g c =
    subst (λ (told : Option (List ℕ)). IfErr c.file_bytes.result (StopsAtFile told)) (ap (λ (o : Outside). left_of o.world.file) c.in-Ok.ensures.done) c.file_bytes.ensures.stop

pub returns-in-Ok-clause-leaves : goal.returns-in-Ok-clause-leaves
returns-in-Ok-clause-leaves g c = opened_leaves c.args.path (g.W.World.seen c.args.world.now) (g.W.World.seen c.open_file.new.self) (g.W.World.seen c.file_bytes.new.world).world c.file_bytes.result c.in-Ok.ensures.done c.file_bytes.ensures.leaves

pub returns-in-Ok-clause-asked : goal.returns-in-Ok-clause-asked
returns-in-Ok-clause-asked g c = read_asked c.args.path (g.W.World.seen c.args.world.now) (g.W.World.seen c.open_file.new.self) (g.W.World.seen c.file_bytes.new.world) c.in-Ok.ensures.done c.file_bytes.ensures.rest

pub returns-in-Err-clause-asked : goal.returns-in-Err-clause-asked
returns-in-Err-clause-asked g c = unopened_asked c.args.path (g.W.World.seen c.args.world.now) (g.W.World.seen c.open_file.new.self) c.in-Err.ensures.failed
