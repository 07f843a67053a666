-- What other crates may use of this crate's proofs.
pub use Rattle.http_talk.proofs.Once.{take_past, shows_once, known_once, verdict_once, outcome_once}
pub use Rattle.http_talk.proofs.Buffers.{got_front}
pub use Rattle.http_talk.proofs.GoesOn.{with_bytes-append, verdict_stays, shows_stays}
pub use Rattle.http_talk.proofs.Short.{undecided_is_short, unsettled_is_short}
pub use Rattle.http_talk.proofs.WholeTalks.{whole_talk_outcome}
pub use Rattle.http_talk.proofs.WholeReply.{whole_reply}
pub use Rattle.http_talk.proofs.HeadTrees.{is_field, all_fields, is_head, by_head, by_more, by_limit, by_first, field, feed_field, ok_head, bare_head, shows_head, shows_more}
pub use Rattle.http_talk.proofs.ReplySteps.{nothing_fed, nothing_shown}
pub use Rattle.http_talk.proofs.BodyLimits.{IsShortBody, body_is_short, flows_short}
pub use Rattle.http_talk.proofs.ReplySteps.{refusal_stays}
pub use Rattle.http_talk.proofs.Gathering.{whole_on}
