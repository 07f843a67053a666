-- What `replay` prints: what the replies of a script come to, the texts of these events, and the federation page behind them.
-- OTLP/HTTP, JSON; Prometheus, "Federation"; the line feeds and the rest are the bridge's own.
use Rattle.std.specs.Prelude.{◌≡◌, ◌⊎◌, ℕ, List, [], ◌∷◌, ◌++◌, length, codes, slice_get, Option, Some, None, ⊤}
use Rattle.std.specs.List.{AllZip}
use Rattle.page_model.specs.declared.event.Event.{Event}
use Rattle.page_model.specs.declared.event.Shown.{Shown}
use Rattle.bridge_ports.specs.Targets.{Scraped}
use Rattle.bridge_ports.specs.declared.talk.MemoryReply.{MemoryReply}
use Rattle.bridge_ports.specs.declared.talk.Talk.{Talk}
use Rattle.http_talk.specs.Replies.{HasOutcome}
use Rattle.start_times.specs.Starts.{Tracking}
use Rattle.target_core.specs.Events.{request_after, latest_shown}
use Rattle.otlp_json.specs.Texts.{request_text}
use Rattle.series_select.specs.declared.selector.Selector.{Selector}
use Rattle.series_select.specs.Selection.{selected_text}
use Rattle.federation_page.specs.Gathering.{federated_page}
use Rattle.replay_script.specs.declared.header.Header.{Header}
use Rattle.replay_script.specs.declared.script.ScriptTarget.{ScriptTarget}
use Rattle.replay_script.specs.declared.script.Script.{Script}

-- ---- events

-- the talk that a reply stands for: its time, its whole bytes and its end
abbrev pub reply_talk : MemoryReply → Talk
reply_talk reply = record { at = reply.at; sent = []; got = reply.got; end = reply.end }

-- the event that a reply comes to: a scrape's, at the time of the reply
pub record IsReplyEvent (h : Header) (reply : MemoryReply) (e : Event) : Type 0 where
  pub time : e.reading ≡ reply.at
  pub comes_to : HasOutcome h.limit h.max_page (reply_talk reply) e.outcome

-- the event is that of the reply at a place
pub record IsEventAt (h : Header) (replies : List MemoryReply) (at : ℕ) (e : Event) : Type 0 where
  pub reply : MemoryReply
  pub stands : slice_get replies at ≡ Some reply
  pub is : IsReplyEvent h reply e

-- these are the events of the first replies of a target, the last event first
abbrev pub AreEvents : Header → List MemoryReply → List Event → Type 0
AreEvents h replies [] = ⊤
AreEvents h replies (e ∷ earlier) = IsEventAt h replies (length earlier) e × AreEvents h replies earlier

-- ---- texts

-- how the series of a script's target are followed
abbrev pub script_tracking : Header → Scraped → Tracking
script_tracking h target = record { keep = h.keep; honor = target.honor }

-- the text of an event behind the earlier ones, and an LF
unfoldable pub body_after : Header → Scraped → List Event → Event → List ℕ
body_after h target earlier e = request_text (request_after target (script_tracking h target) earlier e) ++ codes "\n"

-- the texts of these events of a target
abbrev pub bodies_of : Header → Scraped → List Event → List ℕ
bodies_of h target [] = []
bodies_of h target (e ∷ earlier) = bodies_of h target earlier ++ body_after h target earlier e

-- a text is that of the first events of a target
pub record IsTextOfSome (h : Header) (t : ScriptTarget) (text : List ℕ) : Type 0 where
  pub events : List Event
  pub are : AreEvents h t.scrapes events
  pub says : text ≡ bodies_of h t.target events

-- a text is that of all events of a target: of each reply to a scrape one
pub record IsTextOf (h : Header) (t : ScriptTarget) (text : List ℕ) : Type 0 where
  pub events : List Event
  pub are : AreEvents h t.scrapes events
  pub all : length events ≡ length t.scrapes
  pub says : text ≡ bodies_of h t.target events

-- the text is that of the target at a place
pub record IsTextAt (s : Script) (at : ℕ) (text : List ℕ) : Type 0 where
  pub target : ScriptTarget
  pub stands : slice_get s.targets at ≡ Some target
  pub is : IsTextOf s.header target text

-- these are the texts of the first targets of a script, the last first
abbrev pub AreTexts : Script → List (List ℕ) → Type 0
AreTexts s [] = ⊤
AreTexts s (text ∷ earlier) = IsTextAt s (length earlier) text × AreTexts s earlier

-- texts, of which the last comes first, one behind the other
abbrev pub joined_texts : List (List ℕ) → List ℕ
joined_texts [] = []
joined_texts (text ∷ earlier) = joined_texts earlier ++ text

-- a text is what `replay` prints of a script without its page: the texts of all events of each target, in order
pub record IsReplay (s : Script) (text : List ℕ) : Type 0 where
  pub texts : List (List ℕ)
  pub are : AreTexts s texts
  pub all : length texts ≡ length s.targets
  pub says : text ≡ joined_texts texts

-- a text is the part that `replay` prints of a script up to some event of a target
pub record IsReplayOfSome (s : Script) (text : List ℕ) : Type 0 where
  pub texts : List (List ℕ)
  pub are : AreTexts s texts
  pub target : ScriptTarget
  pub stands : slice_get s.targets (length texts) ≡ Some target
  pub part : List ℕ
  pub is_part : IsTextOfSome s.header target part
  pub says : text ≡ joined_texts texts ++ part

-- ---- the page

-- this is what a target shows behind its last event
pub record IsLastShown (h : Header) (t : ScriptTarget) (shown : Shown) : Type 0 where
  pub events : List Event
  pub are : AreEvents h t.scrapes events
  pub all : length events ≡ length t.scrapes
  pub shows : shown ≡ latest_shown t.target events

-- each of these is what the target at its place shows behind its last event
abbrev pub AreLastShown : Header → List ScriptTarget → List Shown → Type 0
AreLastShown h targets shown = AllZip (IsLastShown h) targets shown

-- a text is that of the federation page of what the targets of a script show behind their last events, in order, with what these selectors match
pub record IsReplayPage (list : List Selector) (s : Script) (text : List ℕ) : Type 0 where
  pub shown : List Shown
  pub are : AreLastShown s.header s.targets shown
  pub says : text ≡ selected_text list (federated_page shown)

-- a text is what `replay page` prints of a script with these selectors: the texts of all events, and behind them that of the page
pub record IsReplayAndPage (list : List Selector) (s : Script) (text : List ℕ) : Type 0 where
  pub bodies : List ℕ
  pub page : List ℕ
  pub are_bodies : IsReplay s bodies
  pub is_page : IsReplayPage list s page
  pub says : text ≡ bodies ++ page

-- a text is what `replay` prints of a script, with its page by some selectors or without it
abbrev pub IsReplayWith : Option (List Selector) → Script → List ℕ → Type 0
IsReplayWith None = IsReplay
IsReplayWith (Some list) = IsReplayAndPage list

-- a text is one of which `replay` may print a front: that up to some event of a target, or all
abbrev pub MayBeCut : Option (List Selector) → Script → List ℕ → Type 0
MayBeCut page s text = IsReplayOfSome s text ⊎ IsReplayWith page s text
