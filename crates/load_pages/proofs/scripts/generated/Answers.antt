use Rattle.std.proofs.Common.{◌∙◌, sym, subst, arith}
use Rattle.replay_script.specs.RightScripts.{IsRightScript}
use Rattle.load_pages.specs.GeneratedScripts.{TakesAllBodies}
use Rattle.load_pages.proofs.LoadLaws.{script_made, right_load, bodies_taken}
use Rattle.load_pages.proofs.scripts.generated.Goals as goal

pub load_targets-requires-clause-number : goal.load_targets-requires-clause-number
load_targets-requires-clause-number c = omega (arith, c.from.ensures, c.requires.small)

pub load_targets-requires-clause-targets : goal.load_targets-requires-clause-targets
load_targets-requires-clause-targets c = omega (arith, c.from-3.ensures, c.requires.few_targets)

pub load_targets-requires-clause-rounds : goal.load_targets-requires-clause-rounds
load_targets-requires-clause-rounds c = omega (arith, c.from-2.ensures, c.requires.few_rounds)

pub returns-clause-script : goal.returns-clause-script
returns-clause-script c =
    script_made c.args.number c.args.targets c.args.rounds c.from.result c.from-2.result c.from-3.result _ c.from.ensures c.from-2.ensures c.from-3.ensures (c.in_ok-from_vec.ensures ∙ c.in_ok-all.ensures)

pub returns-clause-right : goal.returns-clause-right
returns-clause-right c = subst IsRightScript (sym (returns-clause-script c)) (right_load c.args.number c.args.targets c.args.rounds c.requires)

pub returns-clause-bodies : goal.returns-clause-bodies
returns-clause-bodies c = subst TakesAllBodies (sym (returns-clause-script c)) (bodies_taken c.args.number c.args.targets c.args.rounds)
