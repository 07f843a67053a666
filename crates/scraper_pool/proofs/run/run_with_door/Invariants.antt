-- The run and its four lanes are named.
use Rattle.scraper_pool.specs.Turns.{run_of}
use Rattle.scraper_pool.proofs.run.run_with_door.Given as goal

abbrev pub ghosts-run_named-N-RunName : goal.ghosts-run_named-N-RunName
ghosts-run_named-N-RunName g a = record { run = run_of a.rounds a.tracks.items }

abbrev pub ghosts-run_named-A-Lane : goal.ghosts-run_named-A-Lane
ghosts-run_named-A-Lane g a = record { all = a.blanks.a.parts }

abbrev pub ghosts-run_named-A-Ledger : goal.ghosts-run_named-A-Ledger
ghosts-run_named-A-Ledger g a = record { name = a.blanks.a.name; parts = a.blanks.a.parts }

abbrev pub ghosts-run_named-B-Lane : goal.ghosts-run_named-B-Lane
ghosts-run_named-B-Lane g a = record { all = a.blanks.b.parts }

abbrev pub ghosts-run_named-B-Ledger : goal.ghosts-run_named-B-Ledger
ghosts-run_named-B-Ledger g a = record { name = a.blanks.b.name; parts = a.blanks.b.parts }

abbrev pub ghosts-run_named-C-Lane : goal.ghosts-run_named-C-Lane
ghosts-run_named-C-Lane g a = record { all = a.blanks.c.parts }

abbrev pub ghosts-run_named-C-Ledger : goal.ghosts-run_named-C-Ledger
ghosts-run_named-C-Ledger g a = record { name = a.blanks.c.name; parts = a.blanks.c.parts }

abbrev pub ghosts-run_named-D-Lane : goal.ghosts-run_named-D-Lane
ghosts-run_named-D-Lane g a = record { all = a.blanks.d.parts }

abbrev pub ghosts-run_named-D-Ledger : goal.ghosts-run_named-D-Ledger
ghosts-run_named-D-Ledger g a = record { name = a.blanks.d.name; parts = a.blanks.d.parts }
