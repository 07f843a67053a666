-- What a wire tells before and after.
use Rattle.std.proofs.Common.{◌≡◌, List, Option, Some, None, option_map, is_some, refl, sym, subst, ◌∙◌}
use Rattle.std.proofs.lemmas.Option.{none-some, same_Some}
use Rattle.bridge_ports.specs.declared.talk.Talk.{Talk}
use Rattle.bridge_ports.specs.Talks.{ToldTalks, Tells}

-- the talks that are told
abbrev pub told_talks : Option ToldTalks → Option (List Talk)
told_talks told = option_map (λ (t : ToldTalks). t.talks) told

-- where it tells now it told before
pub tells_before : (Says : List Talk → List Talk → Type 0) (old new : Option ToldTalks) (talks : List Talk) → Tells Says old new → told_talks new ≡ Some talks
    → (earlier : List Talk) × (told_talks old ≡ Some earlier) × Says earlier talks
tells_before Says (Some old) (Some new) talks h e = (old.talks, refl, subst (λ ts. Says old.talks ts) (same_Some new.talks talks e) h)
tells_before Says (Some old) None talks h e = absurd h
tells_before Says None (Some new) talks h e = absurd h
tells_before Says None None talks h e = absurd (none-some talks e)

-- what is said of both, where both are told
pub tells_both : (Says : List Talk → List Talk → Type 0) (old new : Option ToldTalks) (earlier talks : List Talk) → Tells Says old new → told_talks old ≡ Some earlier → told_talks new ≡ Some talks → Says earlier talks
tells_both Says old new earlier talks h before after =
    let t = tells_before Says old new talks h after in
    subst (λ ts. Says ts talks) (same_Some t.0 earlier (sym t.1 ∙ before)) t.2

-- it goes on telling, or telling nothing
pub tells_on : (Says : List Talk → List Talk → Type 0) (old new : Option ToldTalks) → Tells Says old new → is_some (told_talks new) ≡ is_some (told_talks old)
tells_on Says (Some old) (Some new) h = refl
tells_on Says (Some old) None h = absurd h
tells_on Says None (Some new) h = absurd h
tells_on Says None None h = refl
