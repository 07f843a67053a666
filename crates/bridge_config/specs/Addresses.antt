-- The address of a URL.
-- URL Standard, sections 4.1 (URL record) and 4.4 (URL parsing); RFC 9110, section 4.2.1 (http URI scheme);
-- RFC 9112, section 3.2.1 (origin form). What is refused is the bridge's own.
use Rattle.std.specs.Prelude.{ℕ, Bool, ◌&&◌, ◌==◌, List, [], ◌++◌, length, codes, bytes_eq, Option, Some, None, is_none, option_map, unwrap_or, Ok, Err, if◌then◌else◌}
use Rattle.std.specs.Int.{is_in_range}
use Rattle.std.specs.Option.{option_or}
use Rattle.label_sets.specs.Lists.{when_true}
use Rattle.plain_words.specs.Places.{is_port}
use Rattle.bridge_ports.specs.declared.talk.Address.{Address}
use Rattle.bridge_ports.specs.Targets.{most_host_bytes}
use Rattle.url.specs.Parts.{Parts, nonempty_host}
use Rattle.url.specs.Host.{host_text}
use Rattle.url.specs.Scheme.{default_port}
use Rattle.url.specs.Parser.{Parsed, parse_url}

-- the URL's host, where it has one
abbrev pub url_host : Parts → List ℕ
url_host u = unwrap_or (option_map host_text (nonempty_host u)) []

-- the URL's port, or its scheme's
abbrev pub port_of : Parts → ℕ
port_of u = unwrap_or (option_or u.port (default_port u.scheme)) 0

-- what is asked of the host: the path and, where there is one, a question mark and the query
abbrev pub asked_of : Parts → List ℕ
asked_of u = u.path ++ unwrap_or (option_map (λ query. codes "?" ++ query) u.query) []

-- a host of 1 to 256 bytes
abbrev pub is_host : List ℕ → Bool
is_host host = is_in_range 1 most_host_bytes (length host)

-- no user, no password and no fragment
abbrev pub is_bare : Parts → Bool
is_bare u = length u.username == 0 && length u.password == 0 && is_none u.fragment

-- a URL that is an address: `http`, a host, a port, and no user, password or fragment
unfoldable pub is_url_address : Parts → Bool
is_url_address u = bytes_eq u.scheme (codes "http") && (is_host (url_host u) && (is_port (port_of u) && is_bare u))

-- the URL that a text is parsed as
abbrev pub url_in : Parsed Parts → Option Parts
url_in (Ok u) = Some u
url_in (Err e) = None

-- the URL of a text, where it is an address
unfoldable pub right_url : List ℕ → Option Parts
right_url text = elim (url_in (parse_url None text)) [ Some u ↦ when_true (is_url_address u) u | None ↦ None ]

-- the address of a URL
abbrev pub address_of : Parts → Address
address_of u = record { host = url_host u; port = port_of u; path = asked_of u }

-- the URL has no path of its own
abbrev pub is_pathless : Parts → Bool
is_pathless u = bytes_eq u.path (codes "/") && is_none u.query

-- where metrics are posted: a URL without a path of its own stands for that of OTLP
abbrev pub collector_of : Parts → Address
collector_of u = if is_pathless u then record { host = url_host u; port = port_of u; path = codes "/v1/metrics" } else address_of u
