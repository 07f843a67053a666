-- The end of a stream.
use Rattle.std.proofs.Common.{◌∙◌, ap}
use Rattle.http_talk.proofs.StreamGiven.{ends_well, waits_of, part_of}
use Rattle.http_talk.proofs.stream.Stream.finish.Goals as goal

pub returns-in-Open-clause-answer : goal.returns-in-Open-clause-answer
returns-in-Open-clause-answer c = λ fed given f.
    ends_well c.args.self fed given (part_of c.self.inside.part c.args.self.part (ap (λ v. v.part) c.self.view_is) c.in-Open.is) f

pub returns : goal.returns
returns c =
    let here = ap (λ v. v.part) c.self.view_is in
    record {
      answer = λ fed given f. waits_of c.args.self fed given (λ same. c.in_default-part.not-Open (here ∙ same)) (λ same. c.in_default-part.not-Whole (here ∙ same)) f;
      stopped = λ fault is. absurd (c.in_default.not-Some fault (ap (λ v. v.stopped) c.self.view_is ∙ is));
    }
