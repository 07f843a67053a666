use Rattle.std.proofs.Common.{◌≡◌, ◌-◌}
use Rattle.page_reader.specs.AnyReading.{format_of}
use Rattle.program_words.specs.Limits.{most_page}
use Rattle.page_commands.specs.PageInputs.{WasFed}
use Rattle.page_commands.proofs.pages.read_page.Given as goal

abbrev pub invariant-loop-count : goal.invariant-loop-count
invariant-loop-count g l =
    WasFed (format_of l.fn.reader) (g.I.Source.left l.initial.input) (g.I.Source.left l.input) l.taken l.page
    × (g.I.Source.read_faults l.input ≡ g.I.Source.read_faults l.initial.input)

abbrev pub decreases-loop-count : goal.decreases-loop-count
decreases-loop-count g l = most_page - l.taken
