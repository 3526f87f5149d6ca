-- Worked examples: what targets and `Accept` ask is computed.
use Rattle.std.proofs.Common.{◌≡◌, ℕ, List, [], ◌∷◌, ◌++◌, None, Ok, Err, codes, refl, false}
use Rattle.httparse.specs.Grammar.{trim_ows}
use Rattle.percent_encoding.specs.Percent.{percent_decode}
use Rattle.tg_base32.specs.Base32.{bits}
use Rattle.tg_base32.specs.Computed.{base32}
use Rattle.tg_cid.specs.Cid.{CidParts}
use Rattle.tg_cid.specs.declared.cid.Codec.TheVariants.{DagPb}
use Rattle.tg_cid.specs.declared.cid.HashKind.TheVariants.{Sha256}
use Rattle.tg_model.specs.declared.queries.Form.TheVariants.{Car}
use Rattle.tg_model.specs.declared.queries.Scope.TheVariants.{Entity}
use Rattle.tg_query.specs.CidAnswers.{bytes_of_letters, cid_answer}
use Rattle.tg_query.specs.Paths.{names_of}
use Rattle.tg_query.specs.declared.fault.QueryFault.TheVariants.{BadParam}
use Rattle.tg_query.specs.Accepts.{form_of_range, param_of}
use Rattle.tg_query.specs.Laws.{asked_by}

-- the empty directory
abbrev root : CidParts
root = record {
  version = 1;
  codec = DagPb;
  hash = Sha256;
  digest = 0x59 ∷ 0x94 ∷ 0x84 ∷ 0x39 ∷ 0x06 ∷ 0x5f ∷ 0x29 ∷ 0x61 ∷ 0x9e ∷ 0xf4 ∷ 0x12 ∷ 0x80 ∷ 0xcb ∷ 0xb9 ∷ 0x32 ∷ 0xbe ∷ 0x52 ∷ 0xc5 ∷ 0x6d ∷ 0x99 ∷ 0xc5 ∷ 0x96 ∷ 0x6b ∷ 0x65 ∷ 0xe0 ∷ 0x11 ∷ 0x12 ∷ 0x39 ∷ 0xf0 ∷ 0x98 ∷ 0xbb ∷ 0xef ∷ [];
}

abbrev root_target : List ℕ
root_target = codes "/ipfs/bafybeiczsscdsbs7ffqz55asqdf3smv6klcw3gofszvwlyarci47bgf354"

pub asks_for_entity : asked_by (root_target ++ codes "/a%20b?dag-scope=entity") (codes "application/vnd.ipld.car; dups=n" ∷ [])
    ≡ Ok (record { root = root; path = codes "a b" ∷ []; form = Car; scope = Entity; span = None; dups = false })
unfolding trim_ows percent_decode bits base32 bytes_of_letters cid_answer names_of form_of_range param_of
asks_for_entity = refl

pub refuses_version : asked_by root_target (codes "application/vnd.ipld.car; version=2" ∷ []) ≡ Err BadParam
unfolding trim_ows percent_decode bits base32 bytes_of_letters cid_answer names_of form_of_range param_of
refuses_version = refl
