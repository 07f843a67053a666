-- What the wires of a script's target answer: the plans of its two wires in memory.
-- The bridge's own; the default reply after RFC 9112, sections 4 to 6.
use Rattle.std.specs.Prelude.{Bool, true, [], ◌++◌, codes, Some, None}
use Rattle.bridge_ports.specs.declared.talk.End.TheVariants.{Ended}
use Rattle.bridge_ports.specs.declared.talk.MemoryReply.{MemoryReply}
use Rattle.bridge_ports.specs.declared.talk.Address.{Address}
use Rattle.bridge_ports.specs.declared.settings.Settings.{Settings}
use Rattle.bridge_ports.specs.Talks.{Plan}
use Rattle.replay_script.specs.declared.header.Header.{Header}
use Rattle.replay_script.specs.declared.script.ScriptTarget.{ScriptTarget}

-- what the post wire answers where its records are used up
unfoldable pub default_reply : MemoryReply
default_reply = record { at = 0; got = codes "HTTP/1.1 200 OK\r\n" ++ codes "Content-Length: 2\r\n" ++ codes "\r\n" ++ codes "{}"; end = Ended }

-- the plan of a target's scrape wire
abbrev pub scrape_plan : Header → ScriptTarget → Plan
scrape_plan header t = record { replies = t.scrapes; after = None; most = header.cut; failing = []; keeps = true }

-- the plan of a target's post wire, by whether what is posted is kept
abbrev pub post_plan : Bool → Header → ScriptTarget → Plan
post_plan keeps header t = record { replies = t.posts; after = Some default_reply; most = header.cut; failing = []; keeps = keeps }

-- where the bodies of a script are posted
unfoldable pub script_collector : Address
script_collector = record { host = codes "collector"; port = 4318; path = codes "/v1/metrics" }

-- how the targets of a script are followed: each visit at once
abbrev pub script_settings : Header → Settings
script_settings header = record { keep = header.keep; tries = header.tries; limit = header.limit; max_page = header.max_page; interval = 0 }
