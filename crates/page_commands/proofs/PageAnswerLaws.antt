-- What a command that prints a text of a page may answer.
use Rattle.std.proofs.Common.{◌≡◌, ◌≢◌, ℕ, List, refl, ap, subst, arith}
use Rattle.page_model.specs.declared.page.Page.{Page}
use Rattle.page_model.specs.declared.rule.Rule.{Rule}
use Rattle.page_model.specs.Written.{Setting}
use Rattle.page_model.proofs.Laws.{first_fault_once, page_of_once, fault_or_page}
use Rattle.program_words.specs.declared.status.Status.TheVariants.{NoForm}
use Rattle.program_words.specs.Statuses.{code_of}
use Rattle.program_words.specs.Stops.{refused_text}
use Rattle.page_commands.specs.PageAnswers.{IsFaultyInput, IsPageAnswer, page_done, page_refused, page_too_long}
use Rattle.program_words.proofs.Laws.{AreSame}

-- a fault has one line
refused_once : (st : Setting) (bytes : List ℕ) (line other : ℕ) (rule rule2 : Rule) → IsFaultyInput st line rule bytes → IsFaultyInput st other rule2 bytes
    → refused_text line rule ≡ refused_text other rule2
refused_once st bytes line other rule rule2 a b =
    let same : (line, rule) ≡ (other, rule2) = first_fault_once st bytes (line, rule) (other, rule2) a.has b.has in
    ap (λ (f : ℕ × Rule). refused_text f.0 f.1) same

-- a command that prints a text of a page has one answer
page_once : (st : Setting) (text_of : Page → List ℕ) (bytes : List ℕ) (s r : ℕ) (t u : List ℕ) → IsPageAnswer st text_of bytes s t → IsPageAnswer st text_of bytes r u → AreSame s r t u
page_once st text_of bytes s r t u (page_done page a) (page_done other b) = (refl, ap text_of (page_of_once st bytes page other a.is b.is))
page_once st text_of bytes s r t u (page_done page a) (page_refused line rule b) = absurd (fault_or_page st bytes (line, rule) page b.has a.is)
page_once st text_of bytes s r t u (page_done page a) (page_too_long long) = absurd (omega (arith, a.short, long))
page_once st text_of bytes s r t u (page_refused line rule a) (page_done page b) = absurd (fault_or_page st bytes (line, rule) page a.has b.is)
page_once st text_of bytes s r t u (page_refused line rule a) (page_refused other rule2 b) = (refl, refused_once st bytes line other rule rule2 a b)
page_once st text_of bytes s r t u (page_refused line rule a) (page_too_long long) = absurd (omega (arith, a.short, long))
page_once st text_of bytes s r t u (page_too_long long) (page_done page b) = absurd (omega (arith, b.short, long))
page_once st text_of bytes s r t u (page_too_long long) (page_refused line rule b) = absurd (omega (arith, b.short, long))
page_once st text_of bytes s r t u (page_too_long long) (page_too_long longer) = (refl, refl)

-- the same over bytes that are the same
pub page_once_at : (st : Setting) (text_of : Page → List ℕ) (bytes others : List ℕ) (s r : ℕ) (t u : List ℕ) → bytes ≡ others → IsPageAnswer st text_of bytes s t
    → IsPageAnswer st text_of others r u → AreSame s r t u
page_once_at st text_of bytes others s r t u same a b =
    let At : List ℕ → Type 0 = λ bs. IsPageAnswer st text_of bs s t in page_once st text_of others s r t u (subst At same a) b

-- a command that reads a page doesn't answer that the words fit no form
pub page_form : (st : Setting) (text_of : Page → List ℕ) (bytes : List ℕ) (status : ℕ) (text : List ℕ) → IsPageAnswer st text_of bytes status text → status ≢ code_of NoForm
page_form st text_of bytes status text (page_done page is) e = omega (arith, e)
page_form st text_of bytes status text (page_refused line rule has) e = omega (arith, e)
page_form st text_of bytes status text (page_too_long long) e = omega (arith, e)
