-- The most bytes of a block, of a CID and of a digest.
use Rattle.std.specs.Prelude.{ℕ}

abbrev pub max_block_len : ℕ
max_block_len = 2097152

abbrev pub max_cid_len : ℕ
max_cid_len = 133

abbrev pub max_digest_len : ℕ
max_digest_len = 128
