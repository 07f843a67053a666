-- The words of a script's target are texts of their lengths, as the type of a target keeps.
use Rattle.std.proofs.Common.{◌≡◌, zero, suc, ◌+◌, ◌≤◌, true, ◌++◌, length, codes, sym, ap, ◌∙◌, subst, arith, nat_le, length-append}
use Rattle.std.specs.Prelude.{IsUtf8}
use Rattle.std.specs.Str.{IsAscii}
use Rattle.std.specs.Fmt.{decimal}
use Rattle.std.proofs.lemmas.Bool.{and_parts, leb-true}
use Rattle.std.proofs.lemmas.Str.{IsUtf8-from_ascii, IsAscii-append}
use Rattle.std.proofs.lemmas.Fmt.{IsAscii-decimal, length-decimal-le}
use Rattle.bridge_ports.specs.Targets.{Scraped, IsTextUpTo, IsScraped}
use Rattle.plain_words.specs.Places.{is_visible_word, is_port}
use Rattle.plain_words.proofs.Laws.{word_parts}
use Rattle.replay_script.specs.ScriptParts.{TargetLine}
use Rattle.replay_script.specs.ScriptRules.{is_target_line}
use Rattle.replay_script.proofs.Found.{target_words}

-- a colon
colon : IsAscii (codes ":")
colon zero = omega arith
colon (suc i) = omega arith

-- the texts of a target line
pub job_text : (t : TargetLine) → is_target_line t ≡ true → IsUtf8 t.job
job_text t line = IsUtf8-from_ascii t.job (word_parts 256 t.job (target_words t line).job).2

pub instance_text : (t : TargetLine) → is_target_line t ≡ true → IsUtf8 (t.host ++ (codes ":" ++ decimal t.port))
instance_text t line =
    let w = target_words t line in
    let p = and_parts (nat_le 1 t.port) (nat_le t.port 65535) w.port in
    let small : t.port ≤ 65535 = leb-true t.port 65535 p.1 in
    IsUtf8-from_ascii (t.host ++ (codes ":" ++ decimal t.port))
    (IsAscii-append t.host (codes ":" ++ decimal t.port) (word_parts 256 t.host w.host).2 (IsAscii-append (codes ":") (decimal t.port) colon (IsAscii-decimal t.port (omega (arith, small)))))

-- a target of these words
pub script_target : (t : Scraped) → t.instance ≡ t.address.host ++ (codes ":" ++ decimal t.address.port) → is_visible_word 256 t.job ≡ true → is_visible_word 256 t.address.host ≡ true → is_port t.address.port ≡ true → IsScraped t
script_target t instance job host port =
    let j = word_parts 256 t.job job in
    let h = word_parts 256 t.address.host host in
    let p = and_parts (nat_le 1 t.address.port) (nat_le t.address.port 65535) port in
    let small : t.address.port ≤ 65535 = leb-true t.address.port 65535 p.1 in
    let digits : length (decimal t.address.port) ≤ 5 = length-decimal-le 5 t.address.port (omega arith) (omega (arith, small)) (omega (arith, small)) in
    let more : length (codes ":" ++ decimal t.address.port) ≡ 1 + length (decimal t.address.port) = length-append (codes ":") (decimal t.address.port) in
    let all : length (t.address.host ++ (codes ":" ++ decimal t.address.port)) ≡ length t.address.host + length (codes ":" ++ decimal t.address.port) = length-append t.address.host (codes ":" ++ decimal t.address.port) in
    let made : IsTextUpTo 262 (t.address.host ++ (codes ":" ++ decimal t.address.port)) = record {
      text = ∣ IsUtf8-from_ascii (t.address.host ++ (codes ":" ++ decimal t.address.port))
          (IsAscii-append t.address.host (codes ":" ++ decimal t.address.port) h.2 (IsAscii-append (codes ":") (decimal t.address.port) colon (IsAscii-decimal t.address.port (omega (arith, small))))) ∣₁;
      some = omega (arith, all, more);
      short = omega (arith, all, more, h.1, digits);
    } in
    record {
      job = record { text = ∣ IsUtf8-from_ascii t.job j.2 ∣₁; some = j.0; short = j.1 };
      instance = subst (IsTextUpTo 262) (sym instance) made;
      host = ∣ IsUtf8-from_ascii t.address.host h.2 ∣₁;
    }

-- the same, where the words are those of a target line
pub scraped_line : (t : TargetLine) (s : Scraped) → is_target_line t ≡ true → s.job ≡ t.job → s.instance ≡ t.host ++ (codes ":" ++ decimal t.port) → s.address.host ≡ t.host → s.address.port ≡ t.port → IsScraped s
scraped_line t s line job instance host port =
    let w = target_words t line in
    script_target s (instance ∙ ap (λ h. h ++ (codes ":" ++ decimal t.port)) (sym host) ∙ ap (λ p. s.address.host ++ (codes ":" ++ decimal p)) (sym port))
    (ap (is_visible_word 256) job ∙ w.job) (ap (is_visible_word 256) host ∙ w.host) (ap is_port port ∙ w.port)
