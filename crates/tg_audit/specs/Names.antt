-- Names of the files of `many` that have one hash (UnixFS specification, HAMTDirectory).
use Rattle.std.specs.Prelude.{ℕ, ◌<◌, ◌≡◌, ◌≢◌}
use Rattle.tg_draws.specs.Trees.{file_name}
use Rattle.tg_murmur.specs.NameHash.{name_hash}

-- two of the files of `many`, so many of them, have names with one hash
pub record TwoNamesCollide (files : ℕ) : Type 0 where
  pub one : ℕ
  pub other : ℕ
  pub is_one : one < files
  pub is_other : other < files
  pub differ : one ≢ other
  pub same : name_hash (file_name one) ≡ name_hash (file_name other)
