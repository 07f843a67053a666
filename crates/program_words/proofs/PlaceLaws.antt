-- The host and the port of an instance are told by it, and the words of a target are what its type keeps.
use Rattle.std.proofs.Common.{◌≡◌, ℕ, ◌+◌, ◌≤◌, false, List, [], ◌++◌, length, Option, unwrap_or, codes, sym, ap, ◌∙◌, arith, length-append}
use Rattle.std.specs.Prelude.{IsUtf8}
use Rattle.std.specs.Fmt.{decimal}
use Rattle.std.proofs.lemmas.Str.{IsUtf8-from_ascii}
use Rattle.std.proofs.lemmas.Fmt.{length-decimal-le}
use Rattle.plain_words.specs.Places.{most_port, IsHostAndPort, place_in}
use Rattle.plain_words.proofs.Laws.{place_found, in_range, word_parts}
use Rattle.bridge_ports.specs.Targets.{Scraped, IsScraped}
use Rattle.program_words.specs.CommandWords.{IsTarget, place_target}
use Rattle.program_words.specs.Limits.{most_instance_host}

-- the host and the port that an instance tells
abbrev place_told : List ℕ → List ℕ × ℕ
place_told instance = unwrap_or (place_in most_instance_host instance) ([], 0)

told_place : (instance host : List ℕ) (port : ℕ) → IsHostAndPort most_instance_host instance host port → place_told instance ≡ (host, port)
told_place instance host port place =
    ap (λ (found : Option (List ℕ × ℕ)). unwrap_or found ([], 0)) (ap (place_in most_instance_host) place.spelled ∙ place_found most_instance_host host port place.host_word place.port_number)

-- the target that a job and an instance tell
abbrev pub target_of : List ℕ → List ℕ → Scraped
target_of job instance = place_target job instance (place_told instance).0 (place_told instance).1

pub told_target : (t : Scraped) → IsTarget t → target_of t.job t.instance ≡ t
unfolding place_target
told_target t is =
    let place = told_place t.instance t.address.host t.address.port is.place in
    λ i. record { job = t.job; instance = t.instance; address = record { host = (place i).0; port = (place i).1; path = sym is.path i }; honor = sym is.honor i }

-- the type of a target keeps a host and a port
pub place_is_scraped : (job instance host path : List ℕ) (port : ℕ) → IsUtf8 job → IsUtf8 instance → 1 ≤ length job → length job ≤ 256 → IsHostAndPort most_instance_host instance host port
    → IsScraped (record { job = job; instance = instance; address = record { host = host; port = port; path = path }; honor = false })
place_is_scraped job instance host path port job_text instance_text some short place =
    let word = word_parts most_instance_host host place.host_word in
    let ports = in_range 1 most_port port place.port_number in
    let digits : length (decimal port) ≤ 5 = length-decimal-le 5 port (omega arith) (omega (arith, ports.1)) (omega (arith, ports.1)) in
    let more : length (codes ":" ++ decimal port) ≡ 1 + length (decimal port) = length-append (codes ":") (decimal port) in
    let all : length instance ≡ length host + length (codes ":" ++ decimal port) = ap (length {A = ℕ}) place.spelled ∙ length-append host (codes ":" ++ decimal port) in
    record {
      job = record { text = ∣ job_text ∣₁; some = some; short = short };
      instance = record { text = ∣ instance_text ∣₁; some = omega (arith, all, more); short = omega (arith, all, more, digits, word.1) };
      host = ∣ IsUtf8-from_ascii host word.2 ∣₁;
    }
