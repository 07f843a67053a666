-- The limits of the program. The bridge's own.
use Rattle.std.specs.Prelude.{ℕ, ◌^◌}

-- the most bytes of a page: 64 MiB
abbrev pub most_page : ℕ
most_page = 2 ^ 26

-- the most bytes of a script: 256 MiB
abbrev pub most_script : ℕ
most_script = 2 ^ 28

-- the most bytes of a configuration: 1 MiB
abbrev pub most_config : ℕ
most_config = 2 ^ 20

-- the most scrapers that visit the targets of a script at once
abbrev pub most_scrapers : ℕ
most_scrapers = 4

-- the most selectors behind the word `page`
abbrev pub most_selectors : ℕ
most_selectors = 16

-- the most samples of a page
abbrev pub most_samples : ℕ
most_samples = 200000

-- the latest time, in nanoseconds since the Unix epoch
abbrev pub most_nanos : ℕ
most_nanos = 2 ^ 62

-- the most bytes of the host of an instance
abbrev pub most_instance_host : ℕ
most_instance_host = 255

-- the most scrapes of a target of a script
abbrev pub most_rounds : ℕ
most_rounds = 1000000
