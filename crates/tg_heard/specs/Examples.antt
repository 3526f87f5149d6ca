-- Worked examples: what is heard of the replies with the CAR of the empty directory.
use Rattle.std.specs.Prelude.{List, None, [], codes, true, ℕ, ◌∷◌}
use Rattle.tg_cid.specs.Cid.{CidParts}
use Rattle.tg_cid.specs.declared.cid.Codec.TheVariants as codecs
use Rattle.tg_cid.specs.declared.cid.HashKind.TheVariants as hashes
use Rattle.tg_model.specs.Dag.{Section}
use Rattle.tg_model.specs.Queries.{QueryParts}
use Rattle.tg_model.specs.declared.queries.Form.TheVariants as forms
use Rattle.tg_model.specs.declared.queries.Scope.TheVariants as scopes
use Rattle.tg_reply.specs.Examples.{empty_block, empty_digest, lines}

abbrev pub empty_cid : CidParts
empty_cid = record { version = 1; codec = codecs.DagPb; hash = hashes.Sha256; digest = empty_digest }

-- for all of a path below the empty directory
abbrev pub query_of : List (List ℕ) → QueryParts
query_of path = record { root = empty_cid; path = path; form = forms.Car; scope = scopes.All; span = None; dups = true }

-- the one section that is sent
abbrev pub empty_section : Section
empty_section = record { cid = empty_cid; block = empty_block }

-- an interim head
abbrev pub early_hints : List ℕ
early_hints = lines (codes "HTTP/1.1 103 Early Hints" ∷ [])
