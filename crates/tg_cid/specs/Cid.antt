-- What a contract sees of a CID: its four parts.
use Rattle.std.specs.Prelude.{ℕ, List}
use Rattle.tg_cid.specs.declared.cid.Codec.{Codec}
use Rattle.tg_cid.specs.declared.cid.HashKind.{HashKind}

pub record CidParts : Type 0 where
  pub version : ℕ
  pub codec : Codec
  pub hash : HashKind
  pub digest : List ℕ
