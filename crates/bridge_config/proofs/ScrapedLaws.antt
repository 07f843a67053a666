-- What the type of a target asks for, of the targets of a document.
use Rattle.std.proofs.Common.{◌≡◌, ℕ, ◌+◌, ◌≤◌, Bool, true, List, ◌++◌, length, codes, nat_le, Some, ap, ◌∙◌, arith, length-append}
use Rattle.std.specs.Prelude.{IsUtf8}
use Rattle.std.specs.Fmt.{decimal}
use Rattle.std.proofs.lemmas.Bool.{and_parts, leb-true}
use Rattle.std.proofs.lemmas.Fmt.{length-decimal-le}
use Rattle.plain_words.proofs.Laws.{in_range}
use Rattle.bridge_ports.specs.declared.talk.Address.{Address}
use Rattle.bridge_ports.specs.Targets.{IsScraped}
use Rattle.url.specs.Parts.{Parts}
use Rattle.bridge_config.specs.Addresses.{url_host, port_of, address_of, right_url}
use Rattle.bridge_config.specs.Configurations.{instance_of}
use Rattle.bridge_config.specs.KeyFaults.{is_job}
use Rattle.bridge_config.proofs.RightLaws.{url_right, right_is}

pub scraped : (honor : Bool) (job instance text : List ℕ) (address : Address) (u : Parts) → IsUtf8 job → IsUtf8 instance → IsUtf8 address.host → is_job job ≡ true
    → instance ≡ instance_of (address_of u) → address ≡ address_of u → right_url text ≡ Some u → IsScraped (record { job = job; instance = instance; address = address; honor = honor })
scraped honor job instance text address u job_text instance_text host_text right is same found =
    let parts = url_right u (right_is text u found) in
    let host = in_range 1 256 (length (url_host u)) parts.0 in
    let port = in_range 1 65535 (port_of u) parts.1 in
    let long = and_parts (nat_le 1 (length job)) (nat_le (length job) 256) right in
    let digits : length (decimal (port_of u)) ≤ 5 = length-decimal-le 5 (port_of u) (omega arith) (omega (arith, port.1)) (omega (arith, port.1)) in
    let more : length (codes ":" ++ decimal (port_of u)) ≡ 1 + length (decimal (port_of u)) = length-append (codes ":") (decimal (port_of u)) in
    let all : length instance ≡ length (url_host u) + length (codes ":" ++ decimal (port_of u)) = ap (length {A = ℕ}) is ∙ length-append (url_host u) (codes ":" ++ decimal (port_of u)) in
    record {
      job = record { text = ∣ job_text ∣₁; some = leb-true 1 (length job) long.0; short = leb-true (length job) 256 long.1 };
      instance = record { text = ∣ instance_text ∣₁; some = omega (arith, all, more); short = omega (arith, all, more, digits, host.1) };
      host = ∣ host_text ∣₁;
    }
