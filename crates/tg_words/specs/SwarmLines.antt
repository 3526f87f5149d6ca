-- The line `swarm ROOT ADDR.. [--part N]`.
use Rattle.std.specs.Prelude.{ℕ, List, [], ◌∷◌, ◌≤◌, All, codes, length}
use Rattle.tg_cid.specs.Cid.{CidParts}
use Rattle.tg_cid.specs.Spelling.{CidText}
use Rattle.tg_query.specs.Requests.{IsAddr}
use Rattle.tg_words.specs.ImportLines.{NumberAsked}
use Rattle.tg_words.specs.Words.{Given, Line, Names}

-- what is asked of a swarm: the root of a file, the addresses of gateways, 1 to 16, and how many bytes a part of the file has,
-- 1 to 16,777,216, or 4,194,304 where the option is absent
pub record SwarmParts : Type 0 where
  pub root : CidParts
  pub addrs : List (List ℕ)
  pub part : ℕ

abbrev pub swarm_names : Names
swarm_names = record { valued = codes "part" ∷ []; flags = [] }

pub record SwarmLine (words : List (List ℕ)) (parts : SwarmParts) : Type 0 where
  pub text : List ℕ
  pub options : List Given
  pub line : Line (codes "swarm") swarm_names words (text ∷ parts.addrs) options
  pub root : CidText parts.root text
  pub addrs : All IsAddr parts.addrs
  pub some : 1 ≤ length parts.addrs
  pub most : length parts.addrs ≤ 16
  pub part : NumberAsked options (codes "part") 1 16777216 4194304 parts.part
