-- What an input comes to whose page is fed while it is read.
use Rattle.std.proofs.Common.{◌≡◌, ℕ, ◌+◌, ◌-◌, ◌<◌, ◌≤◌, List, [], ◌++◌, length, take, Option, Some, None, Ok, Err, refl, sym, ap, subst, ◌∙◌, arith, length-append}
use Rattle.std.specs.Io.KnownBytes.{Consumes, Keeps, IsAtEnd}
use Rattle.std.proofs.lemmas.List.{append-nil, length-take}
use Rattle.page_model.specs.declared.format.Format.{Format}
use Rattle.page_model.specs.declared.format.Treatment.TheVariants.{Scraped}
use Rattle.page_model.specs.declared.fault.PageFault.{PageFault}
use Rattle.page_model.specs.declared.fault.PageFault.TheVariants as faults
use Rattle.page_model.specs.declared.counts.PageCounts.{PageCounts}
use Rattle.page_model.specs.declared.page.Page.{Page}
use Rattle.page_model.specs.Counts.{counts_of}
use Rattle.page_model.specs.declared.rule.Rule.{Rule}
use Rattle.page_model.specs.Pages.{FirstFault}
use Rattle.page_feeding.specs.PageFeeding.{Refuses}
use Rattle.page_feeding.specs.PageFeeding as pages
use Rattle.page_reader.specs.declared.any_reader.AnyReader.{AnyReader}
use Rattle.page_reader.specs.AnyReading.{format_of, StandsIn}
use Rattle.bridge_ports.specs.Causes.{Rose}
use Rattle.page_commands.specs.declared.pages.FedPage.{FedPage}
use Rattle.page_commands.specs.declared.pages.FedPage.TheVariants.{Reading, Faulty}
use Rattle.program_words.specs.declared.stop.Stop.TheVariants.{Read, Memory}
use Rattle.program_words.specs.declared.status.Status.TheVariants.{Done, TooLong}
use Rattle.program_words.specs.Limits.{most_page, most_samples}
use Rattle.program_words.specs.Statuses.{code_of}
use Rattle.program_words.specs.Stops.{too_long_text, stop_of}
use Rattle.bridge_ports.specs.Inputs.{most_block, Took, EndsWithin, IsOverlong}
use Rattle.page_commands.specs.PageAnswers.{page_setting, IsPageAnswer, page_done, page_refused, page_too_long}
use Rattle.page_commands.specs.PageInputs.{IsFed, HasRoomFor, WasFed, IsFedWhole, HoldsPage, HoldsCounts}
use Rattle.program_words.specs.StopInputs.{StopLeaves}
use Rattle.program_words.specs.InputAnswers.{HasAnswer}
use Rattle.program_words.specs.StopAnswers.{StopsAs}
use Rattle.bridge_ports.proofs.Laws.{consumes_none, consumes_twice, consumes_keeps}
use Rattle.page_commands.proofs.IoLaws.{all_taken}

-- a fault that stands however the bytes go on is theirs
pub fault_of : (f : Format) (bytes : List ℕ) (line : ℕ) (rule : Rule) → Refuses (page_setting f) bytes (faults.Refused line rule) → FirstFault (page_setting f) bytes (line, rule)
fault_of f bytes line rule refuses =
    let At : List ℕ → Type 0 = λ bs. FirstFault (page_setting f) bs (line, rule) in
    subst At (append-nil bytes) (refuses [])

-- nothing was fed so far
pub fed_nothing : (f : Format) (left : Option (List ℕ)) (page : AnyReader) → StandsIn f Scraped most_samples [] page → WasFed f left left 0 (Reading page)
fed_nothing f left page stands = record { took = record { bytes = []; from = consumes_none left; count = refl }; few = omega arith; fed = stands }

-- a block more was taken
abbrev pub took_more : (a b c : Option (List ℕ)) (taken count : ℕ) (block : List ℕ) → Took a b taken → Consumes b c (take count block) → count ≤ length block → Took a c (taken + count)
took_more a b c taken count block was more inside = record {
  bytes = was.bytes ++ take count block;
  from = consumes_twice a b c was.bytes (take count block) was.from more;
  count = omega (arith, length-append was.bytes (take count block), length-take count block, was.count);
}

-- a block more was fed
pub fed_more : (f : Format) (a b c : Option (List ℕ)) (taken count : ℕ) (block : List ℕ) (old new : FedPage) → (was : WasFed f a b taken old) → Consumes b c (take count block) → count ≤ length block
    → count ≤ most_page - taken → IsFed f (was.took.bytes ++ take count block) new → WasFed f a c (taken + count) new
fed_more f a b c taken count block old new was more inside few fed =
    record { took = took_more a b c taken count block was.took more inside; few = omega (arith, was.few); fed = fed }

-- a page that was fed no more than it may have has room for a block more
pub room_left : (f : Format) (a b : Option (List ℕ)) (taken count : ℕ) (block : List ℕ) (page : FedPage) → WasFed f a b taken page → count ≤ most_page - taken → HasRoomFor (length (take count block)) page
room_left f a b taken count block (Reading page) was few = omega (arith, was.fed.stands.lines_stand.count, was.took.count, was.few, few, length-take count block)
room_left f a b taken count block (Faulty line rule) was few = tt

-- the end was reached
pub fed_all : (f : Format) (a b c : Option (List ℕ)) (taken count : ℕ) (block : List ℕ) (page : FedPage) → WasFed f a b taken page → Consumes b c (take count block) → count ≡ 0 → IsAtEnd c
    → IsFedWhole f a page × EndsWithin most_page a c
fed_all f a b c taken count block page was more none ends =
    let bytes = was.took.bytes in
    let From : List ℕ → Type 0 = λ bs. Consumes a c bs in
    let same : bytes ++ take count block ≡ bytes = ap (λ k. bytes ++ take k block) none ∙ append-nil bytes in
    let from = subst From same (consumes_twice a b c bytes (take count block) was.took.from more) in
    let few : length bytes ≤ most_page = omega (arith, was.few, was.took.count) in (
      record { bytes = bytes; on_input = all_taken a c bytes from ends; short = few; fed = was.fed },
      record { took = record { bytes = bytes; from = from; few = few }; ends = ends },
    )

-- a block more is too much
pub fed_too_much : (f : Format) (a b c : Option (List ℕ)) (taken count : ℕ) (block : List ℕ) (page : FedPage) → WasFed f a b taken page → Consumes b c (take count block) → count ≤ length block
    → most_page - taken < count → count ≤ most_block → IsOverlong most_page a c
fed_too_much f a b c taken count block page was more inside many small =
    let all = took_more a b c taken count block was.took more inside in
    record { bytes = all.bytes; from = all.from; many = omega (arith, all.count, was.few); soon = omega (arith, all.count, was.few) }

-- what was fed in the format of the reader was fed in the format that this is
pub fed_in : (f : Format) (left : Option (List ℕ)) (reader : AnyReader) (page : FedPage) → format_of reader ≡ f → IsFedWhole (format_of reader) left page → IsFedWhole f left page
fed_in f left reader page same fed = let Whole : Format → Type 0 = λ g. IsFedWhole g left page in subst Whole same fed

-- ---- stops

-- a read failed
pub read_failed : (f : Format) (a b c : Option (List ℕ)) (before at now taken : ℕ) (page : FedPage) → WasFed f a b taken page → at ≡ before → Keeps b c → Rose at now → StopLeaves most_page a c before now Read
read_failed f a b c before at now taken page was same kept rose = (
  record { bytes = was.took.bytes; from = consumes_keeps a b c was.took.bytes was.took.from kept; few = omega (arith, was.took.count, was.few) },
  (let From : ℕ → Type 0 = λ n. Rose n now in subst From same rose),
)

-- memory was wanted for a block
pub memory_wanted : (f : Format) (a b c : Option (List ℕ)) (before at now taken count : ℕ) (block : List ℕ) (page : FedPage) → WasFed f a b taken page → at ≡ before → Consumes b c (take count block)
    → count ≤ length block → count ≤ most_page - taken → now ≡ at → StopLeaves most_page a c before now Memory
memory_wanted f a b c before at now taken count block page was same more inside few kept =
    let all = took_more a b c taken count block was.took more inside in
    (record { bytes = all.bytes; from = all.from; few = omega (arith, all.count, was.few) }, kept ∙ same)

-- ---- answers

-- the answer to an input that is too long
pub too_long_answer : (f : Format) (left after : Option (List ℕ)) (text_of : Page → List ℕ) → IsOverlong most_page left after → HasAnswer (IsPageAnswer (page_setting f) text_of) left (code_of TooLong) too_long_text
too_long_answer f None after text_of over = record { bytes = over.bytes; on_input = tt; says = page_too_long over.many }
too_long_answer f (Some bytes) None text_of over = absurd over.from
too_long_answer f (Some bytes) (Some rest) text_of over =
    record { bytes = bytes; on_input = refl; says = page_too_long (omega (arith, over.many, ap (length {A = ℕ}) over.from, length-append over.bytes rest)) }

-- the answer to a page with a fault
pub fault_answer : (f : Format) (left : Option (List ℕ)) (page : FedPage) (fault : PageFault) (text_of : Page → List ℕ) → IsFedWhole f left page
    → ((bytes : List ℕ) → IsFed f bytes page → pages.Answers (page_setting f) bytes (Err fault)) → StopsAs (IsPageAnswer (page_setting f) text_of) left (stop_of fault)
fault_answer f left page (faults.Refused line rule) text_of all ends =
    record { bytes = all.bytes; on_input = all.on_input; says = page_refused line rule (record { short = all.short; has = ends all.bytes all.fed }) }
fault_answer f left page faults.Memory text_of all ends = tt

-- the answer to a page without a fault, for each command that prints a text of it
pub page_answer : (f : Format) (left : Option (List ℕ)) (page : Page) (text_of : Page → List ℕ) (printed : List ℕ) → HoldsPage f left page → printed ≡ text_of page
    → HasAnswer (IsPageAnswer (page_setting f) text_of) left (code_of Done) printed
page_answer f left page text_of printed holds says =
    let Printed : List ℕ → Type 0 = λ t. HasAnswer (IsPageAnswer (page_setting f) text_of) left (code_of Done) t in
    subst Printed (sym says) (record { bytes = holds.bytes; on_input = holds.on_input; says = page_done page holds.is })

-- the answer to a page with a fault whose families and samples were asked for
pub count_fault_answer : (f : Format) (left : Option (List ℕ)) (page : FedPage) (fault : PageFault) (text_of : Page → List ℕ) → IsFedWhole f left page
    → ((bytes : List ℕ) → IsFed f bytes page → pages.CountAnswers (page_setting f) bytes (Err fault)) → StopsAs (IsPageAnswer (page_setting f) text_of) left (stop_of fault)
count_fault_answer f left page (faults.Refused line rule) text_of all ends = fault_answer f left page (faults.Refused line rule) text_of all ends
count_fault_answer f left page faults.Memory text_of all ends = tt

-- the page that an input holds
pub holds_page : (f : Format) (left : Option (List ℕ)) (page : FedPage) (held : Page) → IsFedWhole f left page
    → ((bytes : List ℕ) → IsFed f bytes page → pages.Answers (page_setting f) bytes (Ok held)) → HoldsPage f left held
holds_page f left page held all ends = record { bytes = all.bytes; on_input = all.on_input; is = record { short = all.short; is = ends all.bytes all.fed } }

-- the numbers of a page that an input holds
pub holds_counts : (f : Format) (left : Option (List ℕ)) (page : FedPage) (counts : PageCounts) → IsFedWhole f left page
    → ((bytes : List ℕ) → IsFed f bytes page → pages.CountAnswers (page_setting f) bytes (Ok counts)) → HoldsCounts f left counts
holds_counts f left page counts all ends =
    let has = ends all.bytes all.fed in
    record { page = has.page; holds = record { bytes = all.bytes; on_input = all.on_input; is = record { short = all.short; is = has.is_page } }; counted = has.counted }

-- the answer to a page without a fault, for a command that prints a text of its numbers
pub count_answer : (f : Format) (left : Option (List ℕ)) (counts : PageCounts) (text_of : PageCounts → List ℕ) (printed : List ℕ) → HoldsCounts f left counts → printed ≡ text_of counts
    → HasAnswer (IsPageAnswer (page_setting f) (λ page. text_of (counts_of page))) left (code_of Done) printed
count_answer f left counts text_of printed has says = page_answer f left has.page (λ page. text_of (counts_of page)) printed has.holds (says ∙ ap text_of has.counted)
