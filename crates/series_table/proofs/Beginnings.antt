-- A track that was not visited.
use Rattle.std.proofs.Common.{◌≡◌, false, List, [], Option, Some, None, refl, sym, subst, ◌∙◌, arith}
use Rattle.std.specs.Prelude.{IfSome}
use Rattle.std.proofs.lemmas.Option.{none-some, same_Some}
use Rattle.page_model.specs.declared.event.Shown.{Shown}
use Rattle.bridge_ports.specs.declared.talk.Talk.{Talk}
use Rattle.bridge_ports.specs.Talks.{WireState}
use Rattle.target_core.specs.Events.{latest_shown}
use Rattle.target_core.specs.States.{Following, StandsFor}
use Rattle.series_table.specs.declared.aim.Aim.{Aim}
use Rattle.series_table.specs.declared.counts.Counts.{Counts}
use Rattle.series_table.specs.Talking.{Talking, Followed, AreInRange}
use Rattle.series_table.specs.Counting.{visit_counts}
use Rattle.series_table.specs.Records.{IsFresh, IsTrack, IsShownOf, BodiesOf}
use Rattle.series_table.specs.Keeping.{followed_by, kept_with}
use Rattle.series_table.proofs.Shows.{shows_nothing}
use Rattle.series_table.proofs.FewRows.{few_rows_behind}

no_talks : (told : Option (List Talk)) (talks : List Talk) → IfSome told (λ ts. ts ≡ []) → told ≡ Some talks → [] ≡ talks
no_talks None talks h e = absurd (none-some talks e)
no_talks (Some ts) talks h e = sym h ∙ same_Some ts talks e

nothing_posted : (w : Talking) (f : Followed) → BodiesOf w f 0 [] [] [] []
nothing_posted w f = record {
  tells = record { counted = []; further = []; talks_are = refl; few = omega arith; history = tt };
  in_order = (refl, refl);
}

pub new_track : (w : Talking) (aim : Aim) (s p : WireState) (f : Following) (shown : Shown) (counts : Counts) → AreInRange aim.settings → IsFresh s → IsFresh p
    → StandsFor aim.target (record { keep = aim.settings.keep; honor = aim.target.honor }) f [] → shown ≡ latest_shown aim.target [] → counts ≡ visit_counts (followed_by aim s.plan p.plan) [] []
    → IsTrack w (kept_with aim s p f shown None counts false)
new_track w aim s p f shown counts ranges scrape post stands shows counted =
    let followed = followed_by aim s.plan p.plan in
    record {
      ranges = ranges;
      scrape_wire = record { free = scrape.free; plan_is = refl };
      post_wire = record { free = post.free; plan_is = refl };
      history = record {
        events = [];
        posted = [];
        as_many = refl;
        pages = tt;
        counts = counted;
        shown = shows;
        stands = λ e. stands;
        bodies = λ scrapes posts a b. subst (λ ts. BodiesOf w followed 0 ts posts [] []) (no_talks _ scrapes scrape.untold a) (subst (λ ts. BodiesOf w followed 0 [] ts [] []) (no_talks _ posts post.untold b) (nothing_posted w followed));
      };
      few_rows = few_rows_behind followed f [] stands tt;
      shows = subst (IsShownOf followed) (sym shows) (shows_nothing followed);
      second_shows = tt;
      unvisited = λ e. refl;
    }
