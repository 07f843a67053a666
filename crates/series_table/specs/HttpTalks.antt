-- What the layers of HTTP and of posts say of talks.
-- RFC 9112; OpenTelemetry protocol, "OTLP/HTTP Response".
use Rattle.http_talk.specs.Requests.{get_request, post_request}
use Rattle.http_talk.specs.Replies.{IsWholeTalk, HasOutcome}
use Rattle.otlp_sender.specs.Posting.{IsPostRun}
use Rattle.series_table.specs.Talking.{Talking}

-- what is said of the talks of every track
unfoldable pub talking : Talking
talking = record {
  get_request = get_request;
  post_request = post_request;
  IsWholeTalk = IsWholeTalk;
  HasOutcome = HasOutcome;
  IsPostRun = IsPostRun;
}
