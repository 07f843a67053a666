-- What is scraped, and what its type keeps.
-- Prometheus, "Jobs and instances"; the lengths are the bridge's own.
use Rattle.std.specs.Prelude.{ℕ, ◌≤◌, Bool, ◌&&◌, List, length, bytes_eq, IsUtf8}
use Rattle.bridge_ports.specs.declared.talk.Address.{Address}

-- a target: its job, its instance, where it is asked, and whether times of its page count
pub record Scraped : Type 0 where
  pub job : List ℕ
  pub instance : List ℕ
  pub address : Address
  pub honor : Bool

-- the most bytes of the name of a job
abbrev pub most_job_bytes : ℕ
most_job_bytes = 256

-- the most bytes of the host of a target
abbrev pub most_host_bytes : ℕ
most_host_bytes = 256

-- the most targets of a run
abbrev pub most_targets : ℕ
most_targets = 256

-- the most bytes of an instance
abbrev pub most_instance_bytes : ℕ
most_instance_bytes = 262

-- two targets have one job and one instance
abbrev pub have_same_names : Scraped → Scraped → Bool
have_same_names a b = bytes_eq a.job b.job && bytes_eq a.instance b.instance

-- a text that isn't empty, of at most so many bytes
pub record IsTextUpTo (most : ℕ) (name : List ℕ) : Type 0 where
  pub text : ∥ IsUtf8 name ∥₁
  pub some : 1 ≤ length name
  pub short : length name ≤ most

-- what the type of a target keeps
pub record IsScraped (t : Scraped) : Type 0 where
  pub job : IsTextUpTo most_job_bytes t.job
  pub instance : IsTextUpTo most_instance_bytes t.instance
  pub host : ∥ IsUtf8 t.address.host ∥₁
