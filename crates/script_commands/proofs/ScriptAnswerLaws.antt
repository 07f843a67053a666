-- What a command that reads a script may answer.
use Rattle.std.proofs.Common.{◌≡◌, ◌≢◌, ℕ, List, refl, ap, subst, arith}
use Rattle.replay_script.specs.declared.script.Script.{Script}
use Rattle.replay_script.proofs.Laws.{one_script, one_fault, never_both}
use Rattle.program_words.specs.declared.status.Status.TheVariants.{NoForm}
use Rattle.program_words.specs.Statuses.{code_of}
use Rattle.program_words.specs.Stops.{script_text}
use Rattle.script_commands.specs.ScriptAnswers.{IsScriptAnswer, script_done, script_refused, script_too_long}
use Rattle.program_words.proofs.Laws.{AreSame}

-- a command that prints one text of a script has one answer
script_once : (Prints : Script → List ℕ → Type 0) → ((s : Script) (a b : List ℕ) → Prints s a → Prints s b → a ≡ b) → (bytes : List ℕ) (s r : ℕ) (t u : List ℕ) → IsScriptAnswer Prints bytes s t
    → IsScriptAnswer Prints bytes r u → AreSame s r t u
script_once Prints once bytes s r t u (script_done a x is p) (script_done b y has q) =
    let At : Script → Type 0 = λ c. Prints c x in (refl, once b x y (subst At (one_script bytes a b is.is has.is) p) q)
script_once Prints once bytes s r t u (script_done a x is p) (script_refused line short has) = absurd (never_both bytes a line is.is has)
script_once Prints once bytes s r t u (script_done a x is p) (script_too_long long) = absurd (omega (arith, is.short, long))
script_once Prints once bytes s r t u (script_refused line short has) (script_done b y is q) = absurd (never_both bytes b line is.is has)
script_once Prints once bytes s r t u (script_refused line short has) (script_refused other also is) = (refl, ap script_text (one_fault bytes line other has is))
script_once Prints once bytes s r t u (script_refused line short has) (script_too_long long) = absurd (omega (arith, short, long))
script_once Prints once bytes s r t u (script_too_long long) (script_done b y is q) = absurd (omega (arith, is.short, long))
script_once Prints once bytes s r t u (script_too_long long) (script_refused line short has) = absurd (omega (arith, short, long))
script_once Prints once bytes s r t u (script_too_long long) (script_too_long longer) = (refl, refl)

-- the same over bytes that are the same
pub script_once_at : (Prints : Script → List ℕ → Type 0) → ((s : Script) (a b : List ℕ) → Prints s a → Prints s b → a ≡ b) → (bytes others : List ℕ) (s r : ℕ) (t u : List ℕ) → bytes ≡ others
    → IsScriptAnswer Prints bytes s t → IsScriptAnswer Prints others r u → AreSame s r t u
script_once_at Prints once bytes others s r t u same a b =
    let At : List ℕ → Type 0 = λ bs. IsScriptAnswer Prints bs s t in script_once Prints once others s r t u (subst At same a) b

-- a command that reads a script doesn't answer that the words fit no form
pub script_form : (Prints : Script → List ℕ → Type 0) (bytes : List ℕ) (status : ℕ) (text : List ℕ) → IsScriptAnswer Prints bytes status text → status ≢ code_of NoForm
script_form Prints bytes status text (script_done script t is p) e = omega (arith, e)
script_form Prints bytes status text (script_refused line short has) e = omega (arith, e)
script_form Prints bytes status text (script_too_long long) e = omega (arith, e)
