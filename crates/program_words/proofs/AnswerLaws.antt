-- Answers to the bytes on an input, and those that are always the same.
use Rattle.std.proofs.Common.{◌≡◌, ℕ, List, [], Option, Some, None, refl, sym, subst, ◌∙◌}
use Rattle.std.specs.Prelude.{IsSome}
use Rattle.bridge_ports.specs.Inputs.{IsInput}
use Rattle.program_words.specs.declared.status.Status.TheVariants.{Done}
use Rattle.program_words.specs.Statuses.{code_of}
use Rattle.program_words.specs.HelpTexts.{IsFixedAnswer}
use Rattle.program_words.specs.InputAnswers.{HasAnswer}

-- an answer that holds whatever the bytes are
pub any_bytes : (Says : List ℕ → ℕ → List ℕ → Type 0) (left : Option (List ℕ)) (status : ℕ) (text : List ℕ) → ((bytes : List ℕ) → Says bytes status text) → HasAnswer Says left status text
any_bytes Says None status text says = record { bytes = []; on_input = tt; says = says [] }
any_bytes Says (Some bytes) status text says = record { bytes = bytes; on_input = refl; says = says bytes }

-- the answer of a command that prints always the same
pub fixed_answer : (left : Option (List ℕ)) (fixed text : List ℕ) → text ≡ fixed → HasAnswer (λ bytes. IsFixedAnswer fixed) left (code_of Done) text
fixed_answer left fixed text e = any_bytes (λ bytes. IsFixedAnswer fixed) left (code_of Done) text (λ bytes. record { done = refl; says = e })

-- an answer of a text that is the same
pub same_text : (Says : List ℕ → ℕ → List ℕ → Type 0) (left : Option (List ℕ)) (status : ℕ) (made text : List ℕ) → HasAnswer Says left status made → text ≡ made → HasAnswer Says left status text
same_text Says left status made text has same = let At : List ℕ → Type 0 = λ t. HasAnswer Says left status t in subst At (sym same) has

-- two answers are one
abbrev pub AreSame : (status other : ℕ) (text printed : List ℕ) → Type 0
AreSame status other text printed = (status ≡ other) × (text ≡ printed)

-- a command that prints always the same has one answer
pub fixed_once : (fixed : List ℕ) (s r : ℕ) (t u : List ℕ) → IsFixedAnswer fixed s t → IsFixedAnswer fixed r u → AreSame s r t u
fixed_once fixed s r t u a b = (a.done ∙ sym b.done, a.says ∙ sym b.says)

-- what an input tells is one
pub same_input : (left : Option (List ℕ)) (bytes others : List ℕ) → IsSome left → IsInput left bytes → IsInput left others → bytes ≡ others
same_input None bytes others told a b = cc
same_input (Some whole) bytes others told a b = a ∙ sym b
