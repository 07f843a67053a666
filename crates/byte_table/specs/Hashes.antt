-- The hashes of byte strings (the bridge's own).
use Rattle.std.specs.Prelude.{ℕ, List, bit_and}
use Rattle.std.specs.Hash.FoldHasher.{initial, write, finish}
use Rattle.std.specs.Hash.DefaultHasher.{initial as sip_initial, write as sip_write, finish as sip_finish}

-- the low half of the hash of bytes
unfoldable pub hash_of : List ℕ → ℕ
hash_of bytes = bit_and (finish (write initial bytes)) 0xffff_ffff

-- the hash of bytes by SipHash-1-3, whose keys are 0
unfoldable pub second_hash : List ℕ → ℕ
second_hash bytes = sip_finish (sip_write sip_initial bytes)
