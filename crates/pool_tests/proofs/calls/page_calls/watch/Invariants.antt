-- The run and its four lanes are named.
use Rattle.scraper_pool.specs.Turns.{run_of}
use Rattle.pool_tests.proofs.calls.page_calls.watch.Given as goal

abbrev pub ghosts-watch_named-N-RunName : goal.ghosts-watch_named-N-RunName
ghosts-watch_named-N-RunName g a = record { run = run_of 1 a.tracks.items }

abbrev pub ghosts-watch_named-A-Lane : goal.ghosts-watch_named-A-Lane
ghosts-watch_named-A-Lane g a = record { all = a.blanks.a.parts }

abbrev pub ghosts-watch_named-A-Ledger : goal.ghosts-watch_named-A-Ledger
ghosts-watch_named-A-Ledger g a = record { name = a.blanks.a.name; parts = a.blanks.a.parts }

abbrev pub ghosts-watch_named-B-Lane : goal.ghosts-watch_named-B-Lane
ghosts-watch_named-B-Lane g a = record { all = a.blanks.b.parts }

abbrev pub ghosts-watch_named-B-Ledger : goal.ghosts-watch_named-B-Ledger
ghosts-watch_named-B-Ledger g a = record { name = a.blanks.b.name; parts = a.blanks.b.parts }

abbrev pub ghosts-watch_named-C-Lane : goal.ghosts-watch_named-C-Lane
ghosts-watch_named-C-Lane g a = record { all = a.blanks.c.parts }

abbrev pub ghosts-watch_named-C-Ledger : goal.ghosts-watch_named-C-Ledger
ghosts-watch_named-C-Ledger g a = record { name = a.blanks.c.name; parts = a.blanks.c.parts }

abbrev pub ghosts-watch_named-D-Lane : goal.ghosts-watch_named-D-Lane
ghosts-watch_named-D-Lane g a = record { all = a.blanks.d.parts }

abbrev pub ghosts-watch_named-D-Ledger : goal.ghosts-watch_named-D-Ledger
ghosts-watch_named-D-Ledger g a = record { name = a.blanks.d.name; parts = a.blanks.d.parts }
