use Rattle.std.proofs.Common.{◌-◌, ◌≤◌, length}
use Rattle.program_words.specs.Limits.{most_config}
use Rattle.run_command.specs.ConfigFiles.{ReadsFileOn}
use Rattle.run_command.proofs.config_file.file_bytes.Given as goal

abbrev pub invariant-loop-bytes : goal.invariant-loop-bytes
invariant-loop-bytes g l = record {
  short : length l.bytes.items ≤ most_config;
  reads : ReadsFileOn (g.W.World.seen l.initial.world) (g.W.World.seen l.world) l.bytes.items;
}

abbrev pub decreases-loop-bytes : goal.decreases-loop-bytes
decreases-loop-bytes g l = most_config - length l.bytes.items
