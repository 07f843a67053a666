-- Talks come of texts just where they are the tries of these.
use Rattle.std.proofs.Common.{◌≡◌, ℕ, List, [], ◌∷◌, map, refl, sym, subst}
use Rattle.bridge_ports.specs.declared.talk.Talk.{Talk}
use Rattle.otlp_sender.specs.declared.posted.Try.{Try}
use Rattle.otlp_sender.specs.declared.posted.Posted.{Posted}
use Rattle.otlp_sender.specs.Posting.{posted_of, ArePosted}
use Rattle.series_table.specs.HttpTalks.{talking}
use Rattle.series_table.specs.Bodies.{CameOfTexts}
use Rattle.body_laws.specs.BodyLaws.{ArePostedSo, TriesComeOfTexts}

tries_of : (most : ℕ) (texts : List (List ℕ)) (talks : List Talk) (ps : List Posted) → CameOfTexts talking most texts talks ps → ArePostedSo most texts talks ps
unfolding talking
tries_of most [] talks ps came = ([], (came.0, refl), came.1)
tries_of most (text ∷ texts) talks [] came = absurd came
tries_of most (text ∷ texts) talks (p ∷ ps) came =
    let rest = tries_of most texts came.1 ps came.4 in
    (came.3.last ∷ rest.0, (came.0, came.1, came.2, came.3.run, rest.1), (λ i. came.3.posted_is i ∷ rest.2 i))

texts_of : (most : ℕ) (texts : List (List ℕ)) (talks : List Talk) (lasts : List Try) → ArePosted most texts talks lasts → CameOfTexts talking most texts talks (map posted_of lasts)
unfolding talking
texts_of most [] talks [] posted = (posted.0, refl)
texts_of most [] talks (last ∷ lasts) posted = absurd (let e : last ∷ lasts ≡ [] = posted.1 in cc)
texts_of most (text ∷ texts) talks [] posted = absurd posted
texts_of most (text ∷ texts) talks (last ∷ lasts) posted = (posted.0, posted.1, posted.2, record { last = last; run = posted.3; posted_is = refl }, texts_of most texts posted.1 lasts posted.4)

back : (most : ℕ) (texts : List (List ℕ)) (talks : List Talk) (ps : List Posted) → ArePostedSo most texts talks ps → CameOfTexts talking most texts talks ps
back most texts talks ps so = subst (CameOfTexts talking most texts talks) (sym so.2) (texts_of most texts talks so.0 so.1)

pub tries_come_of_texts : TriesComeOfTexts
tries_come_of_texts most texts talks ps = (tries_of most texts talks ps, back most texts talks ps)
