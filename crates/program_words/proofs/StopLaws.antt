-- Where a command stops: what is printed, its status, and how the input is left.
use Rattle.std.proofs.Common.{◌≡◌, ◌≢◌, ℕ, List, [], Option, Result, Ok, Err, refl, sym, subst, inl, inr, arith}
use Rattle.std.specs.Prelude.{IfErr, IsErrAnd}
use Rattle.std.proofs.lemmas.Bool.{cases_eq}
use Rattle.bridge_ports.specs.Causes.{Rose}
use Rattle.bridge_ports.specs.Inputs.{TookAtMost, IsReadThrough}
use Rattle.program_words.specs.declared.status.Status.{Status}
use Rattle.program_words.specs.declared.status.Status.TheVariants as statuses
use Rattle.program_words.specs.declared.stop.Stop.{Stop}
use Rattle.program_words.specs.declared.stop.Stop.TheVariants.{Refused, BadScript, BadConfig, TooLong, Read, Memory}
use Rattle.program_words.specs.Statuses.{code_of, IsTold, IsUntold, TellsFault}
use Rattle.program_words.specs.Stops.{StopCause, stop_status, IsUnread}
use Rattle.program_words.specs.StopInputs.{StopLeaves, Leaves}
use Rattle.program_words.specs.InputAnswers.{HasAnswer}
use Rattle.program_words.specs.StopAnswers.{IsStopAnswer, said, wanting, StopsAs}

-- what is true of a stop is true of a result that is that stop
pub stop_has : {T : Type 0} (P : Stop → Type 0) (r : Result T Stop) (stop : Stop) → IsErrAnd r (λ s. s ≡ stop) → P stop → IfErr r P
stop_has P (Ok x) stop is has = absurd is
stop_has P (Err s) stop is has = subst P (sym is) has

-- a result that is a stop leaves the input as that stop does
pub stop_leaves : {T : Type 0} (most : ℕ) (left after : Option (List ℕ)) (before now : ℕ) (r : Result T Stop) (stop : Stop) → IsErrAnd r (λ s. s ≡ stop) → StopLeaves most left after before now stop
    → Leaves most left after before now r
stop_leaves most left after before now (Ok x) stop is leaves = absurd is
stop_leaves most left after before now (Err s) stop is leaves =
    let At : Stop → Type 0 = λ t. StopLeaves most left after before now t in subst At (sym is) leaves

-- what is printed is the answer, at the statuses with a text
pub stop_told : (Says : List ℕ → ℕ → List ℕ → Type 0) (left : Option (List ℕ)) (stop : Stop) (status : Status) (text : List ℕ) → IsStopAnswer stop status text → StopsAs Says left stop
    → IsTold (code_of status) → HasAnswer Says left (code_of status) text
stop_told Says left (Refused line rule) status text said has told = has
stop_told Says left (BadScript line) status text said has told = has
stop_told Says left (BadConfig fault) status text said has told = has
stop_told Says left TooLong status text said has told = has
stop_told Says left Read status text said has told = absurd (told.0 refl)
stop_told Says left Memory status text said has told = absurd (told.2 refl)
stop_told Says left stop status text (wanting takes) has told = absurd (told.2 refl)

-- nothing is printed at the others
pub stop_untold : (stop : Stop) (status : Status) (text : List ℕ) → IsStopAnswer stop status text → IsUntold (code_of status) → text ≡ []
stop_untold (Refused line rule) status text said untold = absurd (omega (arith, untold))
stop_untold (BadScript line) status text said untold = absurd (omega (arith, untold))
stop_untold (BadConfig fault) status text said untold = absurd (omega (arith, untold))
stop_untold TooLong status text said untold = absurd (omega (arith, untold))
stop_untold Read status text said untold = refl
stop_untold Memory status text said untold = refl
stop_untold stop status text (wanting takes) untold = refl

-- at the statuses with a text the input was read through
pub stop_through : (most : ℕ) (left after : Option (List ℕ)) (before now : ℕ) (stop : Stop) (status : Status) (text : List ℕ) → IsStopAnswer stop status text → StopLeaves most left after before now stop
    → IsTold (code_of status) → IsReadThrough most left after
stop_through most left after before now (Refused line rule) status text said leaves told = inl leaves.0
stop_through most left after before now (BadScript line) status text said leaves told = inl leaves.0
stop_through most left after before now (BadConfig fault) status text said leaves told = absurd leaves.0
stop_through most left after before now TooLong status text said leaves told = inr leaves.0
stop_through most left after before now Read status text said leaves told = absurd (told.0 refl)
stop_through most left after before now Memory status text said leaves told = absurd (told.2 refl)
stop_through most left after before now stop status text (wanting takes) leaves told = absurd (told.2 refl)

-- unless it was too long, no more was taken than the limit
pub stop_in_part : (most : ℕ) (left after : Option (List ℕ)) (before now : ℕ) (stop : Stop) (status : Status) (text : List ℕ) → IsStopAnswer stop status text → StopLeaves most left after before now stop
    → status ≢ statuses.TooLong → TookAtMost most left after
stop_in_part most left after before now (Refused line rule) status text answer leaves other = leaves.0.took
stop_in_part most left after before now (BadScript line) status text answer leaves other = leaves.0.took
stop_in_part most left after before now (BadConfig fault) status text answer leaves other = absurd leaves.0
stop_in_part most left after before now TooLong status text said leaves other = absurd (other refl)
stop_in_part most left after before now TooLong status text (wanting takes) leaves other = absurd takes
stop_in_part most left after before now Read status text answer leaves other = leaves.0
stop_in_part most left after before now Memory status text answer leaves other = leaves.0

-- a stop has no other status than its own, or that of want of memory
stop_not : (stop : Stop) (status other : Status) (text : List ℕ) → IsStopAnswer stop status text → stop_status stop ≢ other → statuses.WantOfMemory ≢ other → status ≢ other
stop_not stop status other text said own memory = own
stop_not stop status other text (wanting takes) own memory = memory

-- its own is neither that of what is done, nor that of a failed write, nor that of words that fit no form
stop_ends : (stop : Stop) → (stop_status stop ≢ statuses.Done) × (stop_status stop ≢ statuses.WriteFailed) × (stop_status stop ≢ statuses.NoForm)
stop_ends Read = (λ e. absurd cc, λ e. absurd cc, λ e. absurd cc)
stop_ends _ = (λ e. absurd cc, λ e. absurd cc, λ e. absurd cc)

-- so it is not done
pub stop_undone : (stop : Stop) (status : Status) (text : List ℕ) → IsStopAnswer stop status text → status ≢ statuses.Done
stop_undone stop status text is = stop_not stop status statuses.Done text is (stop_ends stop).0 (λ e. absurd cc)

-- nor is its status that of a failed write
pub stop_written : (stop : Stop) (status : Status) (text : List ℕ) → IsStopAnswer stop status text → status ≢ statuses.WriteFailed
stop_written stop status text is = stop_not stop status statuses.WriteFailed text is (stop_ends stop).1 (λ e. absurd cc)

-- nor that of words that fit no form
pub stop_formed : (stop : Stop) (status : Status) (text : List ℕ) → IsStopAnswer stop status text → status ≢ statuses.NoForm
stop_formed stop status text is = stop_not stop status statuses.NoForm text is (stop_ends stop).2 (λ e. absurd cc)

-- where nothing was read, none is of a read that failed
pub stop_not_read : (stop : Stop) (status : Status) (text : List ℕ) → IsStopAnswer stop status text → IsUnread stop → status ≢ statuses.ReadFailed
stop_not_read stop status text is unread = stop_not stop status statuses.ReadFailed text is (by stop unread) (λ e. absurd cc)
  where
    by : (s : Stop) → IsUnread s → stop_status s ≢ statuses.ReadFailed
    by Memory u e = absurd cc
    by (Refused line rule) u e = u
    by (BadScript line) u e = u
    by (BadConfig fault) u e = u
    by TooLong u e = u
    by Read u e = u

-- the count of faults tells the status
pub tells_fault : (fault status before now : ℕ) → (status ≡ fault → Rose before now) → (status ≢ fault → now ≡ before) → TellsFault fault status before now
tells_fault fault status before now rose kept = record {
  rose = rose;
  only = λ less. elim (cases_eq status fault) [ inl same ↦ same | inr other ↦ absurd (omega (arith, kept other)) ];
  kept = kept;
}

-- a count that stayed tells that the status is another
no_fault : (fault status before now : ℕ) → status ≢ fault → now ≡ before → TellsFault fault status before now
no_fault fault status before now other same = tells_fault fault status before now (λ e. absurd (other e)) (λ _. same)

-- where a command stops, its status is that of a failed read just where the count of reads that failed rose
pub stop_fault : (before now : ℕ) (stop : Stop) (status : Status) (text : List ℕ) → IsStopAnswer stop status text → StopCause before now stop
    → TellsFault (code_of statuses.ReadFailed) (code_of status) before now
stop_fault before now Read status text said cause = tells_fault _ _ before now (λ _. cause) (λ other. absurd (other refl))
stop_fault before now (Refused line rule) status text (wanting takes) cause = no_fault _ _ before now (λ e. omega (arith, e)) cause
stop_fault before now (BadScript line) status text (wanting takes) cause = no_fault _ _ before now (λ e. omega (arith, e)) cause
stop_fault before now (BadConfig fault) status text (wanting takes) cause = no_fault _ _ before now (λ e. omega (arith, e)) cause
stop_fault before now Memory status text (wanting takes) cause = no_fault _ _ before now (λ e. omega (arith, e)) cause
stop_fault before now TooLong status text (wanting takes) cause = absurd takes
stop_fault before now Read status text (wanting takes) cause = absurd takes
stop_fault before now _ status text said cause = no_fault _ _ before now (λ e. omega (arith, e)) cause
