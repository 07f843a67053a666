-- What is kept of the parts that were read.
-- The bridge's own.
use Rattle.std.specs.Prelude.{◌≡◌, ℕ, Bool, true, false, ◌==◌, List, [], ◌∷◌, ◌++◌, reverse, Option, Some, None, ⊤}
use Rattle.replay_script.specs.declared.header.Header.{Header}
use Rattle.replay_script.specs.declared.header.HeaderLine.{HeaderLine}
use Rattle.replay_script.specs.declared.header.HeaderLine.TheVariants.{Keep, Tries, Limit, MaxPage, Cut, Honor, Rounds}
use Rattle.bridge_ports.specs.Targets.{Scraped}
use Rattle.bridge_ports.specs.declared.talk.MemoryReply.{MemoryReply}
use Rattle.replay_script.specs.declared.script.ScriptTarget.{ScriptTarget}
use Rattle.replay_script.specs.declared.script.Script.{Script}
use Rattle.replay_script.specs.declared.fault.ScriptFault.{ScriptFault}
use Rattle.replay_script.specs.declared.fault.ScriptFault.TheVariants as faults
use Rattle.replay_script.specs.declared.parts.FoundPart.{FoundPart}
use Rattle.replay_script.specs.declared.parts.FoundPart.TheVariants as found
use Rattle.replay_script.specs.declared.parts.TargetWords.{TargetWords}
use Rattle.replay_script.specs.declared.parts.Front.{Front}
use Rattle.replay_script.specs.declared.progress.Progress.{Progress}
use Rattle.replay_script.specs.HeaderLines.{place_of}
use Rattle.replay_script.specs.ScriptParts.{TargetLine, Part, opening, header, target, page, scrape, post, parts_text}
use Rattle.replay_script.specs.ScriptContents.{header_of, targets_of, script_of}
use Rattle.replay_script.specs.ScriptRules.{is_last_whole, may_stand_behind, may_end, AreInOrder}
use Rattle.replay_script.specs.Scripts.{HasScriptFault}

-- the words of a target line that were found
abbrev pub words_found_as : TargetWords → TargetLine
words_found_as t = record { job = t.job.now; host = t.host.now; port = t.port; path = t.path.now }

-- the part that was found
abbrev pub part_found_as : FoundPart → Part
part_found_as found.Opening = opening
part_found_as (found.Header line n) = header line n
part_found_as (found.Target t) = target (words_found_as t)
part_found_as (found.Page p) = page p.at p.format p.body.now
part_found_as (found.Scrape r) = scrape r.at r.ending r.got.now
part_found_as (found.Post r) = post r.at r.ending r.got.now

-- the part that was found, and what stands behind it
abbrev pub front_found_as : Front → Part × List ℕ
front_found_as f = (part_found_as f.part, f.rest.now)

-- where the parts are in the order of the header: before the opening line 8, and behind the header 7
abbrev pub place_behind : List Part → ℕ
place_behind [] = 8
place_behind (opening ∷ earlier) = 0
place_behind (header line n ∷ earlier) = place_of line
place_behind _ = 7

-- a header with another number of one line
abbrev pub with_header_number : HeaderLine → ℕ → Header → Header
with_header_number Keep n h = record { keep = n; tries = h.tries; limit = h.limit; max_page = h.max_page; cut = h.cut; honor = h.honor; rounds = h.rounds }
with_header_number Tries n h = record { keep = h.keep; tries = n; limit = h.limit; max_page = h.max_page; cut = h.cut; honor = h.honor; rounds = h.rounds }
with_header_number Limit n h = record { keep = h.keep; tries = h.tries; limit = n; max_page = h.max_page; cut = h.cut; honor = h.honor; rounds = h.rounds }
with_header_number MaxPage n h = record { keep = h.keep; tries = h.tries; limit = h.limit; max_page = n; cut = h.cut; honor = h.honor; rounds = h.rounds }
with_header_number Cut n h = record { keep = h.keep; tries = h.tries; limit = h.limit; max_page = h.max_page; cut = n; honor = h.honor; rounds = h.rounds }
with_header_number Honor n h = record { keep = h.keep; tries = h.tries; limit = h.limit; max_page = h.max_page; cut = h.cut; honor = n == 1; rounds = h.rounds }
with_header_number Rounds n h = record { keep = h.keep; tries = h.tries; limit = h.limit; max_page = h.max_page; cut = h.cut; honor = h.honor; rounds = n }

-- the target that records belong to, with the replies to its scrapes and posts that were read
abbrev pub target_read : Option Scraped → List MemoryReply → List MemoryReply → List ScriptTarget
target_read None scrapes posts = []
target_read (Some t) scrapes posts = record { target = t; scrapes = scrapes; posts = posts } ∷ []

-- the targets that were read, of which the last comes first
abbrev pub targets_read : Progress → List ScriptTarget
targets_read p = target_read p.target p.scrapes.items p.posts.items ++ reverse p.finished.items

-- the target that records belong to, where there is one, has all its scrapes
abbrev pub has_whole_target : Progress → Bool
has_whole_target p = is_last_whole p.header.rounds (target_read p.target p.scrapes.items p.posts.items)

-- this is kept of these parts, of which the last comes first
pub record Knows (parts : List Part) (p : Progress) : Type 0 where
  pub place : p.place ≡ place_behind parts
  pub header : p.header ≡ header_of parts
  pub targets : targets_of parts ≡ targets_read p
  pub none_finished : p.target ≡ None → p.finished.items ≡ []

-- the target that records belong to was put behind those that are finished
pub record IsClosed (old new : Progress) : Type 0 where
  pub header : new.header ≡ old.header
  pub targets : reverse new.finished.items ≡ targets_read old
  pub no_scrapes : new.scrapes.items ≡ []
  pub no_posts : new.posts.items ≡ []

-- the reply to a scrape was put behind those of the target that records belong to
pub record PutsReply (reply : MemoryReply) (old new : Progress) : Type 0 where
  pub place : new.place ≡ 7
  pub header : new.header ≡ old.header
  pub target : new.target ≡ old.target
  pub scrapes : new.scrapes.items ≡ old.scrapes.items ++ reply ∷ []
  pub posts : new.posts.items ≡ old.posts.items
  pub finished : new.finished.items ≡ old.finished.items

-- the answer to a part: whether it may follow, and where it may, what is kept of it too
abbrev pub TakesPart : Part → Progress → Progress → Bool → Type 0
TakesPart p old new taken = (earlier : List Part) → AreInOrder earlier → Knows earlier old → (taken ≡ may_stand_behind earlier p) × (taken ≡ true → Knows (p ∷ earlier) new)

-- what the parts say, where a script may end behind them
abbrev pub Ends : List Part → Option Script → Type 0
Ends parts None = may_end parts ≡ false
Ends parts (Some script) = (may_end parts ≡ true) × (script ≡ script_of parts)

-- some bytes were read as parts in order, of which this is kept, and the rest is left
pub record WasReadTo (bytes rest : List ℕ) (p : Progress) : Type 0 where
  pub parts : List Part
  pub text : bytes ≡ parts_text parts ++ rest
  pub in_order : AreInOrder parts
  pub knows : Knows parts p

-- a script isn't read for its first fault, or for want of memory
abbrev pub IsFaultOf : List ℕ → ScriptFault → Type 0
IsFaultOf bytes (faults.Line line) = HasScriptFault bytes line
IsFaultOf bytes faults.Memory = ⊤
