-- What one exchange and its page give of a scrape.
use Rattle.std.proofs.Common.{◌≡◌, ℕ, List, ◌∷◌, Option, Some, None, Ok, sym, subst}
use Rattle.bridge_ports.specs.declared.talk.Talk.{Talk}
use Rattle.bridge_ports.specs.declared.talk.Address.{Address}
use Rattle.bridge_ports.specs.Talks.{WireState, ToldTalks, Tells}
use Rattle.page_model.specs.declared.event.Outcome.{Outcome}
use Rattle.http_talk.specs.Requests.{get_request}
use Rattle.http_talk.specs.Replies.{IsWholeTalk}
use Rattle.scrape_client.specs.Scraping.{IsTalkOfEvent, GrewByEvent, IsScrape}
use Rattle.scrape_client.specs.Exchanges.{IsExchange}
use Rattle.scrape_client.proofs.SampleLimit.{outcome_within}

tells_so : (P Q : List Talk → List Talk → Type 0) → ((a b : List Talk) → P a b → Q a b) → (old new : Option ToldTalks) → Tells P old new → Tells Q old new
tells_so P Q so None None x = tt
tells_so P Q so None (Some new) x = x
tells_so P Q so (Some old) None x = x
tells_so P Q so (Some old) (Some new) x = so old.talks new.talks x

-- an exchange that came to an outcome is a scrape
pub is_scrape : {E : Type 0} (limit most at : ℕ) (to : Address) (text : List ℕ) (old new : WireState) (outcome : Outcome) → text ≡ get_request to
    → IsExchange {E = E} limit most at text old new (Ok outcome) → IsScrape limit most to old new (record { reading = at; outcome = outcome })
is_scrape limit most at to text old new outcome request x =
    let over = x.over in
    let event : IsTalkOfEvent limit most to x.talk (record { reading = at; outcome = outcome }) = record {
      reading = sym x.at_is;
      whole_talk = subst (λ (t : List ℕ). IsWholeTalk most t x.talk) request over.whole_talk;
      outcome = over.outcome_is;
    } in
    record {
      free = x.talked.free;
      place = x.talked.place;
      plan = x.talked.plan;
      later = x.faults.later;
      rose = x.faults.rose;
      kept = x.faults.kept;
      page = outcome_within x.talk.end limit over.outcome_is.known outcome over.outcome_is.outcome_is;
      told = tells_so (λ (a b : List Talk). b ≡ x.talk ∷ a) (GrewByEvent limit most to (record { reading = at; outcome = outcome })) (λ (a b : List Talk) grew. (x.talk, grew, event)) old.told new.told x.talked.told;
    }

pub exchange_by : {E : Type 0} (l limit m most at : ℕ) (text : List ℕ) (old new : WireState) (outcome : Outcome) → l ≡ limit → m ≡ most → IsExchange {E = E} l m at text old new (Ok outcome) → IsExchange {E = E} limit most at text old new (Ok outcome)
exchange_by {E} l limit m most at text old new outcome e f x =
    subst (λ n. IsExchange {E = E} limit n at text old new (Ok outcome)) f (subst (λ n. IsExchange {E = E} n m at text old new (Ok outcome)) e x)
