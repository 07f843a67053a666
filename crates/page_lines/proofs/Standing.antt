-- How a reader stands after each step, and what was told by then.
use Rattle.std.proofs.Common.{◌≡◌, ℕ, false, ◌+◌, ◌-◌, ◌<◌, ◌≤◌, List, [], ◌∷◌, ◌++◌, refl, sym, ap, subst, ◌∙◌, arith, length, take, drop, get_or}
use Rattle.std.proofs.Math.Seq.{take-append-add}
use Rattle.std.proofs.lemmas.List.{append-nil, append_assoc, length-append, length-drop, length-take, length-take-le, length_push, take-append-drop, take_at, take-append-le, take-take, take_all, take_more}
use Rattle.std.proofs.lemmas.List.Elements.{All-take, All-append}
use Rattle.page_lines.specs.declared.Place.{Place}
use Rattle.page_lines.specs.declared.Place.TheVariants.{Within, Behind, Passing}
use Rattle.page_lines.specs.declared.Step.{Step}
use Rattle.page_lines.specs.declared.Step.TheVariants.{Line, More, TooLong}
use Rattle.page_lines.specs.Lines.{is_line_feed, Plain, ended_lines, open_line}
use Rattle.page_lines.specs.Told.{whole, too_long, told_of}
use Rattle.page_lines.specs.Feeding.{Feeding, Stands, IsStep, Reaches, told_by}
use Rattle.page_lines.proofs.Ends.{ended-feed, open-feed, ended-plain, open-plain}
use Rattle.page_lines.proofs.Telling.{told-feed, told-feed_long, told-plain, told-plain_past, told-plain_long}

-- the reader took `used` bytes more, of which it kept `bytes`
pub record Grows (old new : Feeding) (used : ℕ) (bytes : List ℕ) (place : Place) : Type 0 where
  pub most_is : new.most ≡ old.most
  pub fed_is : new.fed ≡ old.fed + used
  pub line_is : new.line ≡ old.line ++ bytes
  pub number_is : new.number ≡ old.number
  pub place_is : new.place ≡ place

-- ---- a line that is under way

-- b stands behind the open line that the reader keeps
module _ (fed b : List ℕ) (old : Feeding) (stands : Stands fed old) (is_within : old.place ≡ Within) (plain : Plain b) where
  at_line : old.line ≡ open_line fed
  at_line = (stands.within is_within).line

  grown : open_line (fed ++ b) ≡ old.line ++ b
  grown = rw (at_line) (open-plain fed b plain)

  -- b is more of it
  pub stands-more : (new : Feeding) → length old.line + length b ≤ old.most → Grows old new (length b) b Within → Stands (fed ++ b) new
  stands-more new fits g =
      let w = stands.within is_within in
      record {
        count = g.fed_is ∙ ap (λ n. n + length b) stands.count ∙ sym (length-append fed b);
        within = λ _. record {
          number = g.number_is ∙ w.number ∙ ap (λ ls. length ls + 1) (sym (ended-plain fed b plain));
          line = g.line_is ∙ sym grown;
          short = omega (arith, ap length g.line_is, length-append old.line b, g.most_is);
        };
        behind = λ e. absurd (let p = g.place_is in cc);
        passing = λ e. absurd (let p = g.place_is in cc);
      }

  pub told-more : length old.line + length b ≤ old.most → told_of old.most (fed ++ b) ≡ told_of old.most fed
  told-more fits = told-plain old.most fed b plain (omega (arith, ap length at_line))

  -- a line feed behind b ends it
  pub stands-line : (new : Feeding) → length old.line + length b ≤ old.most → Grows old new (length b + 1) b Behind → Stands (fed ++ (b ++ 10 ∷ [])) new
  stands-line new fits g =
      let w = stands.within is_within in
      let page : fed ++ (b ++ 10 ∷ []) ≡ (fed ++ b) ++ 10 ∷ [] = sym (append_assoc fed b (10 ∷ [])) in
      let ended : ended_lines (fed ++ (b ++ 10 ∷ [])) ≡ ended_lines fed ++ new.line ∷ [] =
      ap ended_lines page ∙ ended-feed (fed ++ b) ∙ ap (λ l. ended_lines (fed ++ b) ++ l ∷ []) (grown ∙ sym g.line_is) ∙ ap (λ ls. ls ++ new.line ∷ []) (ended-plain fed b plain)
      in
      record {
        count = omega (arith, g.fed_is, stands.count, length-append fed (b ++ 10 ∷ []), length_push b 10);
        within = λ e. absurd (let p = g.place_is in cc);
        behind = λ _. record {
          number = g.number_is ∙ w.number ∙ sym (ap length ended ∙ length_push (ended_lines fed) new.line);
          before = ended_lines fed;
          last = ended;
          none = ap open_line page ∙ open-feed (fed ++ b);
          short = omega (arith, ap length g.line_is, length-append old.line b, g.most_is);
        };
        passing = λ e. absurd (let p = g.place_is in cc);
      }

  pub told-line : length old.line + length b ≤ old.most → told_of old.most (fed ++ (b ++ 10 ∷ [])) ≡ told_of old.most fed ++ whole (old.line ++ b) ∷ []
  told-line fits =
      let short : length (open_line (fed ++ b)) ≤ old.most = omega (arith, ap length grown, length-append old.line b) in
      ap (told_of old.most) (sym (append_assoc fed b (10 ∷ []))) ∙ told-feed old.most (fed ++ b) short
      ∙ ap (λ l. told_of old.most (fed ++ b) ++ whole l ∷ []) grown ∙ ap (λ ts. ts ++ whole (old.line ++ b) ∷ []) (told-more fits)

-- b and the byte c behind it stand behind the open line that the reader keeps, and c is past the limit
module _ (fed b : List ℕ) (c : ℕ) (old : Feeding) (stands : Stands fed old) (is_within : old.place ≡ Within) (plain : Plain (b ++ c ∷ [])) (full : length old.line + length b ≡ old.most) where
  past : open_line (fed ++ (b ++ c ∷ [])) ≡ (old.line ++ b) ++ c ∷ []
  past = open-plain fed (b ++ c ∷ []) plain ∙ ap (λ l. l ++ (b ++ c ∷ [])) (sym (stands.within is_within).line) ∙ sym (append_assoc old.line b (c ∷ []))

  pub stands-past : (new : Feeding) → Grows old new (length b + 1) b Passing → Stands (fed ++ (b ++ c ∷ [])) new
  stands-past new g =
      let w = stands.within is_within in
      let kept : length (old.line ++ b) ≡ new.most = length-append old.line b ∙ full ∙ sym g.most_is in
      record {
        count = omega (arith, g.fed_is, stands.count, length-append fed (b ++ c ∷ []), length_push b c);
        within = λ e. absurd (let p = g.place_is in cc);
        behind = λ e. absurd (let p = g.place_is in cc);
        passing = λ _. record {
          number = g.number_is ∙ w.number ∙ ap (λ ls. length ls + 1) (sym (ended-plain fed (b ++ c ∷ []) plain));
          line = g.line_is ∙ sym (ap (take new.most) past ∙ take_at (old.line ++ b) (c ∷ []) new.most kept);
          long = omega (arith, ap length past, length_push (old.line ++ b) c);
        };
      }

  pub told-past : told_of old.most (fed ++ (b ++ c ∷ [])) ≡ told_of old.most fed ++ too_long ∷ []
  told-past =
      told-plain_past old.most fed (b ++ c ∷ []) plain (omega (arith, ap length (stands.within is_within).line)) (omega (arith, ap length (stands.within is_within).line, length_push b c))

-- ---- a line that is passed over

module _ (fed b : List ℕ) (old : Feeding) (stands : Stands fed old) (is_passing : old.place ≡ Passing) (plain : Plain b) where
  long : old.most < length (open_line (fed ++ b))
  long = omega (arith, (stands.passing is_passing).long, ap length (open-plain fed b plain), length-append (open_line fed) b)

  -- b is more of it
  pub stands-passing : (new : Feeding) → Grows old new (length b) [] Passing → Stands (fed ++ b) new
  stands-passing new g =
      let w = stands.passing is_passing in
      let front : take old.most (open_line fed ++ b) ≡ take old.most (open_line fed) = take-append-le old.most (open_line fed) b (omega (arith, w.long)) in
      record {
        count = g.fed_is ∙ ap (λ n. n + length b) stands.count ∙ sym (length-append fed b);
        within = λ e. absurd (let p = g.place_is in cc);
        behind = λ e. absurd (let p = g.place_is in cc);
        passing = λ _. record {
          number = g.number_is ∙ w.number ∙ ap (λ ls. length ls + 1) (sym (ended-plain fed b plain));
          line = g.line_is ∙ append-nil old.line ∙ w.line ∙ sym front ∙ ap (take old.most) (sym (open-plain fed b plain)) ∙ ap (λ n. take n (open_line (fed ++ b))) (sym g.most_is);
          long = omega (arith, long, g.most_is);
        };
      }

  pub told-passing : told_of old.most (fed ++ b) ≡ told_of old.most fed
  told-passing = told-plain_long old.most fed b plain (stands.passing is_passing).long

  -- a line feed behind b ends it, and the next line begins
  pub stands-passed : Stands (fed ++ (b ++ 10 ∷ [])) (record { most = old.most; fed = old.fed + (length b + 1); line = []; number = old.number + 1; place = Within })
  stands-passed =
      let w = stands.passing is_passing in
      let page : fed ++ (b ++ 10 ∷ []) ≡ (fed ++ b) ++ 10 ∷ [] = sym (append_assoc fed b (10 ∷ [])) in
      let ended : length (ended_lines (fed ++ (b ++ 10 ∷ []))) ≡ length (ended_lines fed) + 1 =
      ap (λ p. length (ended_lines p)) page ∙ ap length (ended-feed (fed ++ b)) ∙ length_push (ended_lines (fed ++ b)) (open_line (fed ++ b)) ∙ ap (λ ls. length ls + 1) (ended-plain fed b plain)
      in
      record {
        count = omega (arith, stands.count, length-append fed (b ++ 10 ∷ []), length_push b 10);
        within = λ _. record {
          number = omega (arith, w.number, ended);
          line = sym (ap open_line page ∙ open-feed (fed ++ b));
          short = omega arith;
        };
        behind = λ e. absurd (cc);
        passing = λ e. absurd (cc);
      }

  pub told-passed : told_of old.most (fed ++ (b ++ 10 ∷ [])) ≡ told_of old.most fed
  told-passed = ap (told_of old.most) (sym (append_assoc fed b (10 ∷ []))) ∙ told-feed_long old.most (fed ++ b) long ∙ told-passing

-- ---- the steps that a call takes, by the fields of the reader

-- a line feed that stands in the front of a piece
pub record HasFeed (piece : List ℕ) (at : ℕ) : Type 0 where
  pub text : take (at + 1) piece ≡ take at piece ++ 10 ∷ []
  pub plain : Plain (take at piece)
  pub places : length (take at piece) ≡ at

pub feed_in_front : (piece : List ℕ) (window at : ℕ) → at < length (take window piece) → take (at + 1) (take window piece) ≡ take at (take window piece) ++ 10 ∷ []
    → Plain (take at (take window piece)) → HasFeed piece at
feed_in_front piece window at within found plain =
    let bound : at + 1 ≤ window = omega (arith, length-take window piece) in
    let size : at + 1 ≤ length piece = omega (arith, length-take window piece) in
    let front : take at (take window piece) ≡ take at piece = take-take at window piece (omega arith) in
    record {
      text = sym (take-take (at + 1) window piece bound) ∙ found ∙ ap (λ l. l ++ 10 ∷ []) front;
      plain = subst Plain front plain;
      places = length-take-le at piece (omega arith);
    }

-- what follows is about a line that is under way, with the fields that the reader had
module _ (most fed : ℕ) (line : List ℕ) (number : ℕ) (place : Place) (old : Feeding)
    (is : record { most = most; fed = fed; line = line; number = number; place = place } ≡ old) where
  grown_by : (line' bytes : List ℕ) (place' : Place) (used : ℕ) → line' ≡ line ++ bytes
      → Grows old (record { most = most; fed = fed + used; line = line'; number = number; place = place' }) used bytes place'
  grown_by line' bytes place' used e =
      subst (λ o. Grows o (record { most = most; fed = fed + used; line = line'; number = number; place = place' }) used bytes place') is
      (record { most_is = refl; fed_is = refl; line_is = e; number_is = refl; place_is = refl })

  fits_as : (n : ℕ) → length line + n ≤ most → length old.line + n ≤ old.most
  fits_as n h = subst (λ o. length o.line + n ≤ o.most) is h

  fills_as : (n : ℕ) → length line + n ≡ most → length old.line + n ≡ old.most
  fills_as n h = subst (λ o. length o.line + n ≡ o.most) is h

  -- the line's end stands in the piece
  pub step-line : (piece line' : List ℕ) (at : ℕ) → old.place ≡ Within → HasFeed piece at → length line + at ≤ most → at + 1 ≤ length piece → line' ≡ line ++ take at piece
      → IsStep old (record { most = most; fed = fed + (at + 1); line = line'; number = number; place = Behind }) piece (at + 1) Line
  step-line piece line' at within f fits inside e =
      let g' : Grows old (record { most = most; fed = fed + (at + 1); line = line'; number = number; place = Behind }) (at + 1) (take at piece) Behind = grown_by line' (take at piece) Behind (at + 1) e in
      let g : Grows old (record { most = most; fed = fed + (at + 1); line = line'; number = number; place = Behind }) (length (take at piece) + 1) (take at piece) Behind =
      rw f.places g'
      in
      let short : length old.line + length (take at piece) ≤ old.most = rw f.places (fits_as at fits) in
      record {
        same = g.most_is;
        count = g'.fed_is;
        taken = inside;
        some = λ _. omega arith;
        place = refl;
        stands = λ before s. rw f.text (stands-line before (take at piece) old s within f.plain _ short g);
        told = λ before s. rw f.text (told-line before (take at piece) old s within f.plain short ∙ ap (λ l. told_of old.most before ++ whole l ∷ []) (sym g.line_is));
        soonest = λ _ before s. let n : at + 1 - 1 ≡ at = omega arith in rw n (told-more before (take at piece) old s within f.plain short);
        all = λ e. absurd (cc);
      }

  -- the piece is more of the line
  pub step-more : (piece line' : List ℕ) (n : ℕ) → old.place ≡ Within → Plain piece → n ≡ length piece → length line + n ≤ most → line' ≡ line ++ piece
      → IsStep old (record { most = most; fed = fed + n; line = line'; number = number; place = place }) piece n More
  step-more piece line' n within plain size fits e =
      let here : place ≡ Within = ap (λ o. o.place) is ∙ within in
      let g : Grows old (record { most = most; fed = fed + n; line = line'; number = number; place = place }) (length piece) piece Within =
      rw (sym size) (rw here (grown_by line' piece Within n e))
      in
      let short : length old.line + length piece ≤ old.most = rw (sym size) (fits_as n fits) in
      let all : take n piece ≡ piece = take_all n piece (omega arith) in
      record {
        same = g.most_is;
        count = rw (sym size) at g.fed_is;
        taken = omega arith;
        some = λ no. absurd (no refl);
        place = tt;
        stands = λ before s. rw all (stands-more before piece old s within plain _ short g);
        told = λ before s. rw all (told-more before piece old s within plain short ∙ sym (append-nil (told_of old.most before)));
        soonest = λ no. absurd (no refl);
        all = λ _. size;
      }

  -- the line has a byte past the limit in the piece
  pub step-past : (piece line' : List ℕ) (n room : ℕ) → old.place ≡ Within → Plain (take n piece) → n ≡ room + 1 → n ≤ length piece → length line + room ≡ most → line' ≡ line ++ take room piece
      → IsStep old (record { most = most; fed = fed + n; line = line'; number = number; place = Passing }) piece n TooLong
  step-past piece line' n room within plain size inside full e =
      let kept : length (take room piece) ≡ room = length-take-le room piece (omega arith) in
      let text : take n piece ≡ take room piece ++ get_or piece room 0 ∷ [] = ap (λ k. take k piece) size ∙ take_more piece room 0 (omega arith) in
      let clear : Plain (take room piece ++ get_or piece room 0 ∷ []) = subst Plain text plain in
      let before_it : Plain (take room piece) = subst Plain (take-take room n piece (omega arith)) (All-take (λ c. is_line_feed c ≡ false) room (take n piece) plain) in
      let filled : length old.line + length (take room piece) ≡ old.most = rw kept (fills_as room full) in
      let g' : Grows old (record { most = most; fed = fed + n; line = line'; number = number; place = Passing }) n (take room piece) Passing = grown_by line' (take room piece) Passing n e in
      let used : n ≡ length (take room piece) + 1 = size ∙ ap (λ k. k + 1) (sym kept) in
      let g : Grows old (record { most = most; fed = fed + n; line = line'; number = number; place = Passing }) (length (take room piece) + 1) (take room piece) Passing =
      subst (λ k. Grows old (record { most = most; fed = fed + n; line = line'; number = number; place = Passing }) k (take room piece) Passing) used g'
      in
      record {
        same = g'.most_is;
        count = g'.fed_is;
        taken = inside;
        some = λ _. omega arith;
        place = refl;
        stands = λ before s. rw text (stands-past before (take room piece) (get_or piece room 0) old s within clear filled _ g);
        told = λ before s. rw text (told-past before (take room piece) (get_or piece room 0) old s within clear filled);
        soonest = λ _ before s. let k : n - 1 ≡ room = omega arith in rw k (told-more before (take room piece) old s within before_it (omega (arith, filled)));
        all = λ e. absurd (cc);
      }

  -- the piece is more of a line that is passed over
  pub step-passing : (piece : List ℕ) → place ≡ Passing → Plain piece
      → IsStep old (record { most = most; fed = fed + length piece; line = line; number = number; place = place }) piece (length piece) More
  step-passing piece here plain =
      let passing : old.place ≡ Passing = sym (ap (λ o. o.place) is) ∙ here in
      let g : Grows old (record { most = most; fed = fed + length piece; line = line; number = number; place = place }) (length piece) [] Passing =
      rw here (grown_by line [] Passing (length piece) (sym (append-nil line)))
      in
      let all : take (length piece) piece ≡ piece = take_all (length piece) piece (omega arith) in
      record {
        same = g.most_is;
        count = g.fed_is;
        taken = omega arith;
        some = λ no. absurd (no refl);
        place = tt;
        stands = λ before s. rw all (stands-passing before piece old s passing plain _ g);
        told = λ before s. rw all (told-passing before piece old s passing plain ∙ sym (append-nil (told_of old.most before)));
        soonest = λ no. absurd (no refl);
        all = λ _. refl;
      }

  -- the end of a line that is passed over stands in the piece
  pub reach-passed : (piece : List ℕ) (at : ℕ) → place ≡ Passing → HasFeed piece at → at + 1 ≤ length piece
      → Reaches old (record { most = most; fed = fed + (at + 1); line = []; number = number + 1; place = Within }) piece (at + 1)
  reach-passed piece at here f inside = record {
    same = ap (λ o. o.most) is;
    count = ap (λ o. o.fed + (at + 1)) is;
    taken = inside;
    place = refl;
    stands = λ before s. rw f.text (subst (Stands (before ++ (take at piece ++ 10 ∷ []))) new (stands-passed before (take at piece) old s passing f.plain));
    told = λ before s. rw f.text (told-passed before (take at piece) old s passing f.plain);
  }
    where
      passing : old.place ≡ Passing
      passing = sym (ap (λ o. o.place) is) ∙ here

      new : ◌≡◌ {A = Feeding} (record { most = old.most; fed = old.fed + (length (take at piece) + 1); line = []; number = old.number + 1; place = Within })
          (record { most = most; fed = fed + (at + 1); line = []; number = number + 1; place = Within })
      new = rw f.places (ap (λ o. record { most = o.most; fed = o.fed + (at + 1); line = []; number = o.number + 1; place = Within }) (sym is))

-- ---- a step behind a reach

-- the front of a piece in two parts
front_parts : (piece : List ℕ) (passed used : ℕ) → used ≤ length piece - passed → passed ≤ length piece
    → take (passed + used) piece ≡ take passed piece ++ take used (take (length piece - passed) (drop passed piece))
front_parts piece passed used h k =
    let front = take passed piece in
    let size : length front ≡ passed = length-take-le passed piece k in
    let whole : front ++ drop passed piece ≡ piece = take-append-drop passed piece in
    ap (take (passed + used)) (sym whole) ∙ ap (λ n. take (n + used) (front ++ drop passed piece)) (sym size) ∙ take-append-add front (drop passed piece) used
    ∙ ap (λ l. front ++ l) (sym (take-take used (length piece - passed) (drop passed piece) h))

pub step-reached : (old mid new : Feeding) (piece : List ℕ) (passed used : ℕ) (step : Step) → Reaches old mid piece passed
    → IsStep mid new (take (length piece - passed) (drop passed piece)) used step → IsStep old new piece (passed + used) step
step-reached old mid new piece passed used step r s =
    let rest : length (take (length piece - passed) (drop passed piece)) ≡ length piece - passed =
    length-take-le (length piece - passed) (drop passed piece) (omega (arith, length-drop passed piece))
    in
    let most = r.same in
    record {
      same = s.same ∙ r.same;
      count = omega (arith, s.count, r.count);
      taken = omega (arith, s.taken, r.taken, rest);
      some = λ no. omega (arith, s.some no);
      place = s.place;
      stands = λ fed at. rw (front_parts piece passed used (omega (arith, s.taken, rest)) r.taken)
          (rw (← append_assoc) (s.stands (fed ++ take passed piece) (r.stands fed at)));
      told = λ fed at. rw (front_parts piece passed used (omega (arith, s.taken, rest)) r.taken)
          (rw (← append_assoc) (subst (λ m. told_of m ((fed ++ take passed piece) ++ take used (take (length piece - passed) (drop passed piece))) ≡ told_of m (fed ++ take passed piece) ++ told_by step new.line) most (s.told (fed ++ take passed piece) (r.stands fed at))
          ∙ ap (λ ts. ts ++ told_by step new.line) (r.told fed at)));
      soonest = λ no fed at.
          let k : passed + used - 1 ≡ passed + (used - 1) = omega (arith, s.some no) in
          rw (k, front_parts piece passed (used - 1) (omega (arith, s.taken, rest)) r.taken)
          (rw (← append_assoc) (subst (λ m. told_of m ((fed ++ take passed piece) ++ take (used - 1) (take (length piece - passed) (drop passed piece))) ≡ told_of m (fed ++ take passed piece)) most (s.soonest no (fed ++ take passed piece) (r.stands fed at))
          ∙ r.told fed at));
      all = λ e. omega (arith, s.all e, rest, r.taken);
    }

-- ---- the start of a page

pub stands-new : (most : ℕ) → Stands [] (record { most = most; fed = 0; line = []; number = 1; place = Within })
stands-new most =
    let ended : ended_lines [] ≡ [] = unfold ended_lines in refl in
    let none : open_line [] ≡ [] = unfold open_line in refl in
    record {
      count = refl;
      within = λ _. record { number = ap (λ ls. length ls + 1) (sym ended); line = sym none; short = omega arith };
      behind = λ e. absurd (cc);
      passing = λ e. absurd (cc);
    }

-- a line without a line feed that takes the front of such bytes has none
pub plain-on : (line more piece : List ℕ) (room n : ℕ) → Plain line → Plain (take n piece) → room ≤ n → more ≡ line ++ take room piece → Plain more
plain-on line more piece room n a b within e =
    let front : Plain (take room piece) = subst Plain (take-take room n piece within) (All-take (λ c. is_line_feed c ≡ false) room (take n piece) b) in
    subst Plain (sym e) (All-append (λ c. is_line_feed c ≡ false) line (take room piece) a front)
