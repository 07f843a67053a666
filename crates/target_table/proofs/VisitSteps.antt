-- A visit of a track is a deed of the machine, where a talk comes to one outcome.
use Rattle.std.proofs.Common.{◌≡◌, ℕ, suc, ◌+◌, ◌≤◌, inl, inr, Bool, true, false, cond, List, [], ◌∷◌, ◌++◌, length, Option, Some, None, is_some, refl, sym, ap, subst, ◌∙◌, arith}
use Rattle.std.proofs.lemmas.List.{nil_from_length}
use Rattle.page_model.specs.declared.event.Event.{Event}
use Rattle.target_core.specs.Events.{latest_shown}
use Rattle.series_table.specs.declared.counts.Counts.{Counts}
use Rattle.bridge_ports.specs.declared.talk.Talk.{Talk}
use Rattle.series_table.specs.declared.visited.Visited.TheVariants.{Done, Halted}
use Rattle.series_table.specs.Talking.{Talking, Followed}
use Rattle.series_table.specs.Bodies.{CameOfText}
use Rattle.series_table.specs.Emission.{IsEventOf, IsHistoryOf, post_text_after}
use Rattle.series_table.specs.Records.{Kept, Visits, IsVisit, IsHalt, talks_of}
use Rattle.target_table.specs.Machine.{OneTarget, visiting, halting, visits_of, visited_with, halted_with}
use Rattle.target_table.specs.Mirrors.{TrackMirrors, HasOneOutcome, IsDeedOrNone, VisitIsAStep}

-- ---- one history of the same talks

event_once : (w : Talking) (f : Followed) (s t : Talk) (a b : Event) → HasOneOutcome w → s ≡ t → IsEventOf w f s a → IsEventOf w f t b → a ≡ b
event_once w f s t a b once same p q =
    let r : a.reading ≡ b.reading = p.read_at ∙ ap (λ (x : Talk). x.at) same ∙ sym q.read_at in
    let o : a.outcome ≡ b.outcome = once f.settings.limit f.settings.max_page t a.outcome b.outcome (subst (λ x. w.HasOutcome f.settings.limit f.settings.max_page x a.outcome) same p.outcome) q.outcome in
    (λ i. record { reading = r i; outcome = o i })

history_once : (w : Talking) (f : Followed) (es gs : List Event) (talks : List Talk) → HasOneOutcome w → IsHistoryOf w f talks es → IsHistoryOf w f talks gs → es ≡ gs
history_once w f [] [] [] once p q = refl
history_once w f (a ∷ es) (b ∷ gs) (talk ∷ talks) once p q =
    let first = event_once w f talk talk a b once refl p.0 q.0 in
    let rest = history_once w f es gs talks once p.1 q.1 in
    (λ i. first i ∷ rest i)
history_once w f [] (b ∷ gs) [] once p q = absurd q
history_once w f [] gs (talk ∷ talks) once p q = absurd p
history_once w f (a ∷ es) gs [] once p q = absurd p
history_once w f (a ∷ es) [] (talk ∷ talks) once p q = absurd q

-- ---- a visit

told_some : {A : Type 0} (o : Option A) (p : Option A) (x : A) → is_some p ≡ is_some o → o ≡ Some x → (y : A) × (p ≡ Some y)
told_some o None x e there = absurd (let f : false ≡ true = e ∙ ap is_some there in cc)
told_some o (Some y) x e there = (y, refl)

visit-done : (w : Talking) (lane rounds : ℕ) (before after : Kept) (o : OneTarget) → HasOneOutcome w → TrackMirrors before o → IsHistoryOf w o.followed o.scrapes o.events → Visits w before after Done
    → o.out ≡ Some (record { lane = lane; from = visits_of o }) → IsDeedOrNone w rounds o after
unfolding visited_with
visit-done w lane rounds before after o once m history v out =
    let scrapes = told_some (talks_of before.scrape) (talks_of after.scrape) o.scrapes v.same.scrape_tells m.scrapes in
    let posts = told_some (talks_of before.post) (talks_of after.post) o.posts v.same.post_tells m.posts in
    let is : IsVisit w before after o.scrapes o.posts scrapes.0 posts.0 = v.told o.scrapes o.posts m.scrapes m.posts scrapes.0 posts.0 scrapes.1 posts.1 in
    let same : is.earlier ≡ o.events = history_once w o.followed is.earlier o.events o.scrapes once (subst (λ f. IsHistoryOf w f o.scrapes is.earlier) m.followed is.history) history in
    inl (
      visiting lane is.talk is.event is.tried is.came_to,
      record {
        out = out;
        working = sym m.halted ∙ v.went;
        event = subst (λ f. IsEventOf w f is.talk is.event) m.followed is.is_event;
        posts = subst (λ es. CameOfText w o.followed.settings.tries (post_text_after w o.followed es is.event) is.tried is.came_to) same
            (subst (λ f. CameOfText w f.settings.tries (post_text_after w f is.earlier is.event) is.tried is.came_to) m.followed is.is_posted);
      },
      record {
        followed = v.same.followed ∙ m.followed;
        scrapes = scrapes.1 ∙ ap Some is.scraped;
        posts = posts.1 ∙ ap Some is.posted;
        halted = v.goes_on ∙ sym v.went ∙ m.halted;
        visits = v.counted ∙ ap (λ n. n + 1) m.visits ∙ one_more (visits_of o);
        shown = is.shown ∙ ap (λ (f : Followed). latest_shown f.target (is.event ∷ is.earlier)) m.followed ∙ ap (λ es. latest_shown o.followed.target (is.event ∷ es)) same;
      },
    )
  where
    one_more : (n : ℕ) → n + 1 ≡ suc n
    one_more n = omega arith

visit-halted : (w : Talking) (lane rounds : ℕ) (before after : Kept) (o : OneTarget) → TrackMirrors before o → Visits w before after Halted → o.out ≡ Some (record { lane = lane; from = visits_of o }) → IsDeedOrNone w rounds o after
unfolding halted_with
visit-halted w lane rounds before after o m v out = go before.halted refl
  where
    scrapes : (ns : List Talk) × ((talks_of after.scrape) ≡ Some ns)
    scrapes = told_some (talks_of before.scrape) (talks_of after.scrape) o.scrapes v.same.scrape_tells m.scrapes

    posts : (ns : List Talk) × ((talks_of after.post) ≡ Some ns)
    posts = told_some (talks_of before.post) (talks_of after.post) o.posts v.same.post_tells m.posts

    is : IsHalt (cond before.halted 0 1) o.scrapes o.posts scrapes.0 posts.0
    is = v.told o.scrapes o.posts m.scrapes m.posts scrapes.0 posts.0 scrapes.1 posts.1

    visits : after.counts.visits ≡ visits_of o
    visits = ap (λ (c : Counts). c.visits) v.counts ∙ m.visits

    go : (b : Bool) → before.halted ≡ b → IsDeedOrNone w rounds o after
    go true e =
        let none : is.further ≡ [] = nil_from_length is.further (omega (arith, subst (λ b. length is.further ≤ cond b 0 1) e is.few)) in
        inr (record {
          followed = v.same.followed ∙ m.followed;
          scrapes = scrapes.1 ∙ ap Some (is.scraped ∙ ap (λ ts. ts ++ o.scrapes) none);
          posts = posts.1 ∙ ap Some is.posted;
          halted = v.halted ∙ sym e ∙ m.halted;
          visits = visits;
          shown = v.shown ∙ m.shown;
        })
    go false e =
        inl (
          halting lane is.further,
          record { from = visits_of o; out = out; working = sym m.halted ∙ e; few = subst (λ b. length is.further ≤ cond b 0 1) e is.few },
          record {
            followed = v.same.followed ∙ m.followed;
            scrapes = scrapes.1 ∙ ap Some is.scraped;
            posts = posts.1 ∙ ap Some is.posted;
            halted = v.halted;
            visits = visits;
            shown = v.shown ∙ m.shown;
          },
        )

pub visit_is_a_step : (w : Talking) → VisitIsAStep w
visit_is_a_step w lane rounds before after Done o once m history v out = visit-done w lane rounds before after o once m history v out
visit_is_a_step w lane rounds before after Halted o once m history v out = visit-halted w lane rounds before after o m v out
