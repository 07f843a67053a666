-- What was printed of a script: of a visit, of a target, of all, and where that was cut off.
-- The bridge's own.
use Rattle.std.specs.Prelude.{◌≡◌, ◌⊎◌, ℕ, ◌≤◌, Bool, ◌∷◌, ◌++◌, List, [], length, slice_get, Option, Some, None, Result, Ok, Err, ⊤}
use Rattle.std.specs.Io.KnownBytes.{Appends}
use Rattle.page_model.specs.declared.event.Event.{Event}
use Rattle.page_model.specs.declared.event.Shown.{Shown}
use Rattle.bridge_ports.specs.Causes.{Rose}
use Rattle.bridge_ports.specs.Writing.{WroteFront}
use Rattle.bridge_ports.specs.Targets.{Scraped}
use Rattle.bridge_ports.specs.declared.talk.MemoryReply.{MemoryReply}
use Rattle.otlp_tree.specs.declared.tree.Request.{Request}
use Rattle.target_core.specs.Events.{request_after}
use Rattle.target_core.specs.States.{Following, StandsFor, ShowsLatest}
use Rattle.replay_script.specs.declared.header.Header.{Header}
use Rattle.replay_script.specs.declared.script.ScriptTarget.{ScriptTarget}
use Rattle.replay_script.specs.declared.script.Script.{Script}
use Rattle.replay_script.specs.RightScripts.{IsRightTarget, IsRightScript}
use Rattle.series_table.specs.Records.{Kept}
use Rattle.script_commands.specs.declared.replaying.Cut.{Cut}
use Rattle.script_commands.specs.declared.replaying.Cut.TheVariants.{Write, Memory}
use Rattle.program_words.specs.declared.status.Status.{Status}
use Rattle.program_words.specs.declared.status.Status.TheVariants.{WriteFailed, WantOfMemory}
use Rattle.script_commands.specs.Replays.{script_tracking, IsReplyEvent, AreEvents, body_after, bodies_of, IsTextOfSome, IsTextOf, AreTexts, joined_texts, IsLastShown, IsReplay, IsReplayOfSome, IsReplayWith, MayBeCut}
use Rattle.script_commands.specs.Rounds.{IsAtRound}
use Rattle.bridge_ports.specs.Inputs.{IsInput}
use Rattle.script_commands.specs.Loads.{IsLoadReport, MayBeReported}
use Rattle.script_commands.specs.ScriptAnswers.{IsScriptInput}
use Rattle.series_select.specs.declared.selector.Selector.{Selector}
use Rattle.series_select.specs.Selection.{selected_text}
use Rattle.federation_page.specs.Gathering.{federated_page}

-- the status where printing in pieces is cut off
abbrev pub cut_status : Cut → Status
cut_status Write = WriteFailed
cut_status Memory = WantOfMemory

-- the count of writes that failed rose only where that cut off what is printed
abbrev pub CutCause : {T : Type 0} → ℕ → ℕ → Result T Cut → Type 0
CutCause before now (Ok done) = now ≡ before
CutCause before now (Err Write) = Rose before now
CutCause before now (Err Memory) = now ≡ before

-- what making the tree of the next reply came to, behind these events
abbrev pub MakesTree : {E : Type 0} → Header → Scraped → MemoryReply → List Event → Following → Result Request E → Type 0
MakesTree h target r earlier new (Ok request) =
    (e : Event) × IsReplyEvent h r e × StandsFor target (script_tracking h target) new (e ∷ earlier) × (request ≡ request_after target (script_tracking h target) earlier e)
MakesTree h target r earlier new (Err wanting) = ⊤

-- what printing the body of the next reply came to, behind these events: it is printed, or a front of it, or nothing
abbrev pub PrintsNext : Header → Scraped → MemoryReply → List Event → Following → Option (List ℕ) → Option (List ℕ) → Result ⊤ Cut → Type 0
PrintsNext h target r earlier new before after (Ok done) =
    (e : Event) × IsReplyEvent h r e × StandsFor target (script_tracking h target) new (e ∷ earlier) × Appends before after (body_after h target earlier e)
PrintsNext h target r earlier new before after (Err Write) = (e : Event) × IsReplyEvent h r e × WroteFront before after (body_after h target earlier e)
PrintsNext h target r earlier new before after (Err Memory) = Appends before after []

-- what printing the body of a reply over the state of a target came to, whatever events of that target the state stands for
abbrev pub PrintsReply : Header → MemoryReply → Following → Following → Option (List ℕ) → Option (List ℕ) → Result ⊤ Cut → Type 0
PrintsReply h r old new before after result = (target : Scraped) (earlier : List Event) → StandsFor target (script_tracking h target) old earlier → PrintsNext h target r earlier new before after result

-- what printing the body of a visit came to: that of the reply to the round at which the track of a script's target stands, whatever events of the rounds before its state stands for
abbrev pub PrintsRound : Kept → Kept → Option (List ℕ) → Option (List ℕ) → Result ⊤ Cut → Type 0
PrintsRound old new before after result =
    (keeps : Bool) (h : Header) (t : ScriptTarget) (place at : ℕ) (r : MemoryReply) (earlier : List Event) → IsRightTarget h t → IsAtRound keeps h t place at old → slice_get t.scrapes at ≡ Some r
    → StandsFor t.target (script_tracking h t.target) old.following earlier → PrintsNext h t.target r earlier new.following before after result

-- so much of the texts of a target was printed
pub record PrintedSome (h : Header) (t : ScriptTarget) (at : ℕ) (state : Following) (before after : Option (List ℕ)) : Type 0 where
  pub events : List Event
  pub are : AreEvents h t.scrapes events
  pub count : length events ≡ at
  pub stands : StandsFor t.target (script_tracking h t.target) state events
  pub written : Appends before after (bodies_of h t.target events)

-- the state stands for all events of a target
pub record StandsForAll (h : Header) (t : ScriptTarget) (state : Following) : Type 0 where
  pub events : List Event
  pub are : AreEvents h t.scrapes events
  pub all : length events ≡ length t.scrapes
  pub stands : StandsFor t.target (script_tracking h t.target) state events

-- what a state shows stands behind what others show
abbrev pub ShowsLast : Following → List Shown → List Shown → Type 0
ShowsLast state before after = (shown : Shown) × ShowsLatest state shown × (after ≡ before ++ shown ∷ [])

-- what a target shows behind its last event stands behind what others show
abbrev pub ShowsOneMore : Header → ScriptTarget → List Shown → List Shown → Type 0
ShowsOneMore h t before after = (shown : Shown) × IsLastShown h t shown × (after ≡ before ++ shown ∷ [])

-- what was printed of a target where it was cut off: a front of the bodies that were made
abbrev pub CutsTarget : Header → ScriptTarget → Option (List ℕ) → Option (List ℕ) → Cut → Type 0
CutsTarget h t before after Write = (text : List ℕ) × IsTextOfSome h t text × WroteFront before after text
CutsTarget h t before after Memory = (text : List ℕ) × IsTextOfSome h t text × Appends before after text

-- what printing the bodies of a target came to: all are printed, or a front of those that were made
abbrev pub PrintsTarget : {T : Type 0} → Header → ScriptTarget → Option (List ℕ) → Option (List ℕ) → Result T Cut → Type 0
PrintsTarget h t before after (Ok done) = (text : List ℕ) × IsTextOf h t text × Appends before after text
PrintsTarget h t before after (Err cut) = CutsTarget h t before after cut

-- the texts of so many targets were printed
pub record PrintedTargets (s : Script) (at : ℕ) (before after : Option (List ℕ)) : Type 0 where
  pub texts : List (List ℕ)
  pub are : AreTexts s texts
  pub count : length texts ≡ at
  pub written : Appends before after (joined_texts texts)

-- what was printed of the bodies of a script where they were cut off
abbrev pub CutsBodies : Script → Option (List ℕ) → Option (List ℕ) → Cut → Type 0
CutsBodies s before after Write = (text : List ℕ) × IsReplayOfSome s text × WroteFront before after text
CutsBodies s before after Memory = (text : List ℕ) × IsReplayOfSome s text × Appends before after text

-- what printing the bodies of a script came to
abbrev pub PrintsBodies : {T : Type 0} → Script → Option (List ℕ) → Option (List ℕ) → Result T Cut → Type 0
PrintsBodies s before after (Ok done) = (text : List ℕ) × IsReplay s text × Appends before after text
PrintsBodies s before after (Err cut) = CutsBodies s before after cut

-- the bodies of a script were printed
abbrev pub PrintsAll : Script → Option (List ℕ) → Option (List ℕ) → Type 0
PrintsAll s before after = (text : List ℕ) × IsReplay s text × Appends before after text

-- what was printed of a text where it was cut off: a front of it, or nothing
abbrev pub CutsText : List ℕ → Option (List ℕ) → Option (List ℕ) → Cut → Type 0
CutsText text before after Write = WroteFront before after text
CutsText text before after Memory = Appends before after []

-- what printing a text came to
abbrev pub PrintsText : {T : Type 0} → List ℕ → Option (List ℕ) → Option (List ℕ) → Result T Cut → Type 0
PrintsText text before after (Ok done) = Appends before after text
PrintsText text before after (Err cut) = CutsText text before after cut

-- what was printed of a script, with its page or without it, where it was cut off: at want of memory no part of the page, or all of it
abbrev pub CutsScript : Option (List Selector) → Script → Option (List ℕ) → Option (List ℕ) → Cut → Type 0
CutsScript page s before after Write = (text : List ℕ) × MayBeCut page s text × WroteFront before after text
CutsScript page s before after Memory = (text : List ℕ) × MayBeCut page s text × Appends before after text

-- what printing a script came to, with its page or without it
abbrev pub PrintsScript : {T : Type 0} → Option (List Selector) → Script → Option (List ℕ) → Option (List ℕ) → Result T Cut → Type 0
PrintsScript page s before after (Ok done) = (text : List ℕ) × IsReplayWith page s text × Appends before after text
PrintsScript page s before after (Err cut) = CutsScript page s before after cut

-- the text of the page of what is shown, with what some selectors match, where it is asked for
abbrev pub page_text : Option (List Selector) → List Shown → List ℕ
page_text None shown = []
page_text (Some list) shown = selected_text list (federated_page shown)

-- what was printed of a text, behind which memory is wanted for more, where that was cut off: a front of it, nothing, or all of it
abbrev pub CutsFirst : List ℕ → Option (List ℕ) → Option (List ℕ) → Cut → Type 0
CutsFirst text before after Write = WroteFront before after text
CutsFirst text before after Memory = Appends before after [] ⊎ Appends before after text

-- what printing a text came to, behind which memory is wanted for more
abbrev pub PrintsFirst : {T : Type 0} → List ℕ → Option (List ℕ) → Option (List ℕ) → Result T Cut → Type 0
PrintsFirst text before after (Ok done) = Appends before after text
PrintsFirst text before after (Err cut) = CutsFirst text before after cut

-- what printing the report of a script's visits came to: at want of memory nothing is printed, or a whole report
abbrev pub PrintsReport : Script → Option (List ℕ) → Option (List ℕ) → Result ⊤ Cut → Type 0
PrintsReport s before after (Ok done) = (text : List ℕ) × IsLoadReport s text × Appends before after text
PrintsReport s before after (Err Write) = (text : List ℕ) × (MayBeReported s text ⊎ IsLoadReport s text) × WroteFront before after text
PrintsReport s before after (Err Memory) = (text : List ℕ) × (MayBeReported s text ⊎ IsLoadReport s text) × Appends before after text

-- the bytes on the input are these, and no more than so many
pub record HoldsBytes (most : ℕ) (left : Option (List ℕ)) (bytes : List ℕ) : Type 0 where
  pub on_input : IsInput left bytes
  pub short : length bytes ≤ most

-- the bytes on the input are this script, which is right
pub record HoldsScript (left : Option (List ℕ)) (script : Script) : Type 0 where
  pub bytes : List ℕ
  pub on_input : IsInput left bytes
  pub is : IsScriptInput script bytes
  pub right : IsRightScript script
