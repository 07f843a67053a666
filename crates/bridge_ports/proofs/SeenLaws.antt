-- Worlds as they are seen: equal part by part, and what is at a number or at an address.
use Rattle.std.proofs.Common.{◌≡◌, ℕ, Bool, true, false, cond, refl, sym, ap, subst, arith}
use Rattle.std.specs.Prelude.{◌≢◌, ◌==◌, ◌&&◌, bytes_eq, List, Option}
use Rattle.std.proofs.lemmas.Bool.{eqb-true, eqb-false, and_parts}
use Rattle.std.proofs.lemmas.Bool.Decides.{nat_tests}
use Rattle.std.proofs.lemmas.Slice.Eq.{bytes_eq-Decides}
use Rattle.bridge_ports.specs.declared.talk.Address.{Address}
use Rattle.bridge_ports.specs.Worlds.{KeepsOthers, KeepsComing, is_address}
use Rattle.bridge_ports.specs.Outside.{Outside, Coming, at_number, at_address}

-- what is seen of two worlds is the same where its parts are
pub seen_by : (a b : Outside) → a.world ≡ b.world → a.files ≡ b.files → a.home ≡ b.home → a.given ≡ b.given → a.coming ≡ b.coming → a ≡ b
seen_by a b world files home given coming = λ i. record { world = world i; files = files i; home = home i; given = given i; coming = coming i }

-- ---- numbers

pub same_number : (n : ℕ) → (n == n) ≡ true
same_number n = grind (arith, nat_tests)

pub another_number : (n number : ℕ) → n ≢ number → (n == number) ≡ false
another_number n number other = by_test (n == number) refl
  where
    by_test : (t : Bool) → (n == number) ≡ t → t ≡ false
    by_test true e = absurd (other (eqb-true n number e))
    by_test false e = refl

-- a number has what was put there
pub at_same : {A : Type 0} (number : ℕ) (value : A) (before : ℕ → A) → at_number number value before number ≡ value
at_same number value before = ap (λ t. cond t value (before number)) (same_number number)

-- the others keep what they had
pub at_others : {A : Type 0} (number : ℕ) (value : A) (before : ℕ → A) → KeepsOthers number before (at_number number value before)
at_others number value before = λ n other. ap (λ t. cond t value (before n)) (another_number n number other)

at_each : {A : Type 0} (number : ℕ) (value : A) (before after : ℕ → A) → after number ≡ value → KeepsOthers number before after → (n : ℕ) → after n ≡ at_number number value before n
at_each number value before after here others n = by_test (n == number) refl
  where
    by_test : (t : Bool) → (n == number) ≡ t → after n ≡ cond t value (before n)
    by_test true e = subst (λ m. after m ≡ value) (sym (eqb-true n number e)) here
    by_test false e = others n (eqb-false n number e)

-- this is at a number, where the others keep what they had
pub is_at_number : {A : Type 0} (number : ℕ) (value : A) (before after : ℕ → A) → after number ≡ value → KeepsOthers number before after → after ≡ at_number number value before
is_at_number number value before after here others = λ i n. at_each number value before after here others n i

-- ---- addresses

-- one address is the other
pub one_address : (a b : Address) → is_address a b ≡ true → a ≡ b
one_address a b e =
    let x = and_parts (bytes_eq a.host b.host) (a.port == b.port && bytes_eq a.path b.path) e in
    let y = and_parts (a.port == b.port) (bytes_eq a.path b.path) x.1 in
    let host : a.host ≡ b.host = (bytes_eq-Decides a.host b.host).0 x.0 in
    let port : a.port ≡ b.port = eqb-true a.port b.port y.0 in
    let path : a.path ≡ b.path = (bytes_eq-Decides a.path b.path).0 y.1 in
    λ i. record { host = host i; port = port i; path = path i }

-- at every other address the same is to come
pub at_other_addresses : (at : Address) (left : Option (List (List ℕ))) (before : Coming) → KeepsComing at before (at_address at left before)
at_other_addresses at left before = λ other apart. ap (λ t. cond t left (before other)) apart

at_each_address : (at : Address) (before after : Coming) → KeepsComing at before after → (other : Address) → after other ≡ at_address at (after at) before other
at_each_address at before after others other = by_test (is_address other at) refl
  where
    by_test : (t : Bool) → is_address other at ≡ t → after other ≡ cond t (after at) (before other)
    by_test true e = ap after (one_address other at e)
    by_test false e = others other e

-- where that is so, an address alone has another
pub is_at_address : (at : Address) (before after : Coming) → KeepsComing at before after → after ≡ at_address at (after at) before
is_at_address at before after others = λ i other. at_each_address at before after others other i
