-- The attributes that every target has, put behind others one after the other.
use Rattle.std.proofs.Common.{◌≡◌, ℕ, List, [], ◌∷◌, ◌++◌, codes, refl, ap, ◌∙◌}
use Rattle.otlp_tree.specs.declared.tree.Attribute.{Attribute}
use Rattle.otlp_tree.specs.declared.tree.AttributeValue.{AttributeValue}
use Rattle.otlp_tree.specs.declared.tree.AttributeValue.TheVariants.{Str, Int}
use Rattle.bridge_ports.specs.Targets.{Scraped}
use Rattle.target_core.specs.Trees.{own_attributes}

five_more : {A : Type 0} (xs : List A) (a b c d e : A) → xs ++ a ∷ [] ++ b ∷ [] ++ c ∷ [] ++ d ∷ [] ++ e ∷ [] ≡ xs ++ (a ∷ b ∷ c ∷ d ∷ e ∷ [])
five_more [] a b c d e = refl
five_more (x ∷ xs) a b c d e = ap (λ l. x ∷ l) (five_more xs a b c d e)

abbrev attribute : List ℕ → AttributeValue → Attribute
attribute key value = record { key = key; value = value }

pub own_pushed : (t : Scraped) (old first second third fourth all : List Attribute) (job instance host scheme : List ℕ) (port : ℕ)
    → job ≡ t.job → instance ≡ t.instance → host ≡ t.address.host → port ≡ t.address.port → scheme ≡ codes "http"
    → first ≡ old ++ attribute (codes "service.name") (Str job) ∷ [] → second ≡ first ++ attribute (codes "service.instance.id") (Str instance) ∷ []
    → third ≡ second ++ attribute (codes "server.address") (Str host) ∷ [] → fourth ≡ third ++ attribute (codes "server.port") (Int port) ∷ []
    → all ≡ fourth ++ attribute (codes "url.scheme") (Str scheme) ∷ [] → all ≡ old ++ own_attributes t
unfolding own_attributes
own_pushed t old first second third fourth all job instance host scheme port job_is instance_is host_is port_is scheme_is a b c d e =
    e ∙ (λ i. d i ++ attribute (codes "url.scheme") (Str (scheme_is i)) ∷ [])
    ∙ (λ i. c i ++ attribute (codes "server.port") (Int (port_is i)) ∷ [] ++ attribute (codes "url.scheme") (Str (codes "http")) ∷ [])
    ∙ (λ i. b i ++ attribute (codes "server.address") (Str (host_is i)) ∷ [] ++ attribute (codes "server.port") (Int t.address.port) ∷ [] ++ attribute (codes "url.scheme") (Str (codes "http")) ∷ [])
    ∙ (λ i. a i ++ attribute (codes "service.instance.id") (Str (instance_is i)) ∷ [] ++ attribute (codes "server.address") (Str t.address.host) ∷ [] ++ attribute (codes "server.port") (Int t.address.port) ∷ []
    ++ attribute (codes "url.scheme") (Str (codes "http")) ∷ [])
    ∙ (λ i. old ++ attribute (codes "service.name") (Str (job_is i)) ∷ [] ++ attribute (codes "service.instance.id") (Str t.instance) ∷ [] ++ attribute (codes "server.address") (Str t.address.host) ∷ []
    ++ attribute (codes "server.port") (Int t.address.port) ∷ [] ++ attribute (codes "url.scheme") (Str (codes "http")) ∷ [])
    ∙ five_more old (attribute (codes "service.name") (Str t.job)) (attribute (codes "service.instance.id") (Str t.instance)) (attribute (codes "server.address") (Str t.address.host))
    (attribute (codes "server.port") (Int t.address.port)) (attribute (codes "url.scheme") (Str (codes "http")))
