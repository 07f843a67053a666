-- A run beside a door is one over the wires alone, between the door's opening and its coming back.
use Rattle.std.proofs.Common.{◌≡◌, ◌⊎◌, ℕ, List, Option, Some, None, Result, Ok, Err, refl, sym, ap, subst, ◌∙◌, inl, inr}
use Rattle.std.specs.Prelude.{IfOk, IfSome, IsSome, OnErr, option_map}
use Rattle.bridge_ports.specs.declared.talk.Address.{Address}
use Rattle.bridge_ports.specs.Causes.{Rose}
use Rattle.bridge_ports.specs.Doors.{DoorState, new_door}
use Rattle.bridge_ports.specs.Worlds.{WorldState}
use Rattle.bridge_ports.specs.Outside.{Outside, Coming, at_address, with_door_asked, with_back_door}
use Rattle.bridge_ports.proofs.Laws.{at_other_addresses}
use Rattle.bridge_config.specs.declared.config.Config.{Config}
use Rattle.run_report.specs.declared.target_end.TargetEnd.{TargetEnd}
use Rattle.world_run.specs.Ends.{KeepsRest, IsRunEnd, IsNotBegun}
use Rattle.world_run.specs.Serving.{HasAsked, nothing_asked, asked_in_vain, asked_and_opened, comes_back, ServesRun, IsServedRun, IsUnserved, KeepsOtherComing, ChangesAtMost}

-- ---- the door

-- a door that could be opened is that of the configuration
pub opened_is : (c : Config) (before after : Outside) (at : Address) (d : DoorState) → c.door ≡ Some at → after ≡ with_door_asked at after.world.door_faults (after.coming at) before → after.world.door_faults ≡ before.world.door_faults → d ≡ new_door (before.coming at)
    → HasAsked c before after (Some d)
opened_is c before after at d is asked kept fresh =
    let With : ℕ → Outside = λ n. with_door_asked at n (after.coming at) before in
    let same : after ≡ With before.world.door_faults = asked ∙ ap With kept in
    subst (λ (o : Outside). HasAsked c before o (Some d)) (sym same) (subst (λ (e : DoorState). HasAsked c before (With before.world.door_faults) (Some e)) (sym fresh) (asked_and_opened at (after.coming at) is))

-- one that could not be is too
pub in_vain_is : (c : Config) (before after : Outside) (at : Address) → c.door ≡ Some at → after ≡ with_door_asked at after.world.door_faults (after.coming at) before → Rose before.world.door_faults after.world.door_faults → HasAsked c before after None
in_vain_is c before after at is asked rose = subst (λ (o : Outside). HasAsked c before o None) (sym asked) (asked_in_vain at after.world.door_faults (after.coming at) is rose)

-- the pairs at home stay
pub asked_home : (c : Config) (before after : Outside) (opened : Option DoorState) → HasAsked c before after opened → after.home ≡ before.home
asked_home c before after opened (nothing_asked none) = refl
asked_home c before after opened (asked_in_vain at faults left is rose) = refl
asked_home c before after opened (asked_and_opened at left is) = refl

weaker : {D : Type 0} (P Q : Type 0) (o : Option D) → (P → Q) → IfSome o (λ d. P) → IfSome o (λ d. Q)
weaker P Q None then holds = tt
weaker P Q (Some d) then holds = then holds

-- what is known of doors stays where a run changed pairs alone
rest_known : (many : ℕ) (during over : Outside) → KeepsRest many during over → IsSome during.world.door_at → IsSome over.world.door_at
rest_known many during over rest known = subst (λ (o : Outside). IsSome o.world.door_at) (sym rest.but_pairs) known

-- a door that comes back is one that was asked for
pub known_still : {T X D : Type 0} (r : Result T X) (shown : D → DoorState) (ends : T → List TargetEnd) (served : T → ℕ) (c : Config) (during over : Outside) (opened closed : Option D) → IfSome opened (λ d. IsSome during.world.door_at)
    → IfOk r (λ t. IsRunEnd c during over (ends t)) → IfOk r (λ t. ServesRun c (option_map shown opened) (option_map shown closed) (served t)) → OnErr r (IsNotBegun c during over) → OnErr r (closed ≡ opened) → IfSome closed (λ d. IsSome over.world.door_at)
known_still (Ok t) shown ends served c during over opened None known run serves none same = tt
known_still (Ok t) shown ends served c during over None (Some d) known run serves none same = absurd serves.serves
known_still (Ok t) shown ends served c during over (Some o) (Some d) known run serves none same = rest_known _ during over run.rest known
known_still (Err x) shown ends served c during over opened closed known run serves none same =
    subst (λ o. IfSome o (λ d. IsSome over.world.door_at)) (sym same) (weaker (IsSome during.world.door_at) (IsSome over.world.door_at) opened (rest_known _ during over none.rest) known)

-- ---- runs

-- what comes of a run is that of a run beside the door
pub result_served : {T X : Type 0} (r : Result T X) (ends : T → List TargetEnd) (served : T → ℕ) (c : Config) (before during over after : Outside) (opened closed : Option DoorState) → HasAsked c before during opened → after ≡ comes_back closed over
    → IfOk r (λ t. IsRunEnd c during over (ends t)) → IfOk r (λ t. ServesRun c opened closed (served t)) → IfOk r (λ t. IsServedRun c before after (ends t) (served t))
result_served (Ok t) ends served c before during over after opened closed asked back run serves =
    record { during = during; over = over; opened = opened; closed = closed; asked = asked; run = run; serves = serves; back = back }
result_served (Err x) ends served c before during over after opened closed asked back run serves = tt

-- a run that was not begun leaves the door as it was opened
pub result_unserved : {T X D : Type 0} (r : Result T X) (shown : D → DoorState) (opened closed : Option D) (c : Config) (before during over after : Outside) → HasAsked c before during (option_map shown opened) → after ≡ comes_back (option_map shown closed) over
    → OnErr r (IsNotBegun c during over) → OnErr r (closed ≡ opened) → OnErr r (IsUnserved c before after)
result_unserved (Ok t) shown opened closed c before during over after asked back run same = tt
result_unserved (Err x) shown opened closed c before during over after asked back run same =
    record { during = during; over = over; opened = option_map shown opened; asked = inr asked; run = run; back = back ∙ ap (λ d. comes_back (option_map shown d) over) same }

-- where an address finds no memory nothing was asked
pub result_unasked : {T X : Type 0} (r : Result T X) (c : Config) (before after : Outside) → after ≡ before → OnErr r (IsUnserved c before after)
result_unasked (Ok t) c before after same = tt
result_unasked (Err x) c before after same = record {
  during = before;
  over = before;
  opened = None;
  asked = inl (refl, refl);
  run = record { homes = λ n. refl; rest = record { but_pairs = refl; homes = λ n outside. refl; addresses = λ n outside. refl } };
  back = same;
}

-- ---- what becomes of a world

keeps_itself : (door : Option Address) (coming : Coming) → KeepsOtherComing door coming coming
keeps_itself None coming = refl
keeps_itself (Some at) coming = λ other apart. refl

asked_changes : (c : Config) (before after : Outside) (opened : Option DoorState) → HasAsked c before after opened → ChangesAtMost c.door before after
asked_changes c before after opened (nothing_asked none) = record { doors = refl; files = refl; coming = keeps_itself c.door before.coming }
asked_changes c before after opened (asked_in_vain at faults left is rose) = record {
  doors = refl;
  files = refl;
  coming = subst (λ (door : Option Address). KeepsOtherComing door before.coming (at_address at left before.coming)) (sym is) (at_other_addresses at left before.coming);
}
asked_changes c before after opened (asked_and_opened at left is) = record {
  doors = refl;
  files = refl;
  coming = subst (λ (door : Option Address). KeepsOtherComing door before.coming (at_address at left before.coming)) (sym is) (at_other_addresses at left before.coming);
}

run_changes : (door : Option Address) (many : ℕ) (before during over : Outside) → ChangesAtMost door before during → KeepsRest many during over → ChangesAtMost door before over
run_changes door many before during over changes rest = subst (ChangesAtMost door before) (sym rest.but_pairs) (record { doors = changes.doors; files = changes.files; coming = changes.coming })

back_changes : (door : Option Address) (before over : Outside) (closed : Option DoorState) → ChangesAtMost door before over → ChangesAtMost door before (comes_back closed over)
back_changes door before over None changes = changes
back_changes door before over (Some d) changes = record {
  doors = ap (λ (w : WorldState). record w { back_door = (with_back_door d over).world.back_door }) changes.doors;
  files = changes.files;
  coming = changes.coming;
}

-- a run changes at most what is told of pairs and doors
pub served_changes : {c : Config} {before after : Outside} {ends : List TargetEnd} {served : ℕ} → IsServedRun c before after ends served → ChangesAtMost c.door before after
served_changes {c} {before} {after} run =
    subst (ChangesAtMost c.door before) (sym run.back) (back_changes c.door before run.over run.closed (run_changes c.door _ before run.during run.over (asked_changes c before run.during run.opened run.asked) run.run.rest))

-- and so does one that was not begun
pub unserved_changes : {c : Config} {before after : Outside} → IsUnserved c before after → ChangesAtMost c.door before after
unserved_changes {c} {before} {after} run =
    subst (ChangesAtMost c.door before) (sym run.back) (back_changes c.door before run.over run.opened (run_changes c.door _ before run.during run.over (during_changes run.asked) run.run.rest))
  where
    during_changes : ((run.during ≡ before) × (run.opened ≡ None)) ⊎ HasAsked c before run.during run.opened → ChangesAtMost c.door before run.during
    during_changes (inl same) = subst (ChangesAtMost c.door before) (sym same.0) (record { doors = refl; files = refl; coming = keeps_itself c.door before.coming })
    during_changes (inr asked) = asked_changes c before run.during run.opened asked
