-- What was accepted of peers, each part of a file in a connection of its own.
use Rattle.std.specs.List.{flat_map}
use Rattle.std.specs.Prelude.{All, Contains, List, Ok, [], suc, zero, ℕ, ◌++◌, ◌<◌, ◌≡◌}
use Rattle.tg_cid.specs.Cid.{CidParts}
use Rattle.tg_model.specs.Computed.{read}
use Rattle.tg_model.specs.Dag.{Section, total_of}
use Rattle.tg_model.specs.Queries.{QueryParts}
use Rattle.tg_model.specs.Sound.{IsFileKind}
use Rattle.tg_model.specs.declared.kinds.Kind.{Kind}
use Rattle.tg_parts.specs.Parts.{part_query, root_query}
use Rattle.tg_verify.specs.Sound.{ForEachSound, IsItsAnswer}

-- a connection: what was asked in it, what was heard, and the sections that stand whole in that
pub record Connection : Type 0 where
  pub query : QueryParts
  pub heard : List ℕ
  pub sections : List Section

-- the sections of all
abbrev pub all_sections : List Connection → List Section
all_sections connections = flat_map (λ c. c.sections) connections

-- in one of them this text was accepted for a query
pub record WasAccepted (connections : List Connection) (q : QueryParts) (text : List ℕ) : Type 0 where
  pub connection : Connection
  pub among : Contains connections connection
  pub query_is : connection.query ≡ q
  pub answer : ForEachSound q (λ d. IsItsAnswer q d connection.sections text)

-- a block of bytes was accepted for the root's
pub record IsRootBlock (root : CidParts) (connections : List Connection) (block : List ℕ) : Type 0 where
  pub accepted : WasAccepted connections (root_query root) block
  pub bytes : All (λ b. b < 256) block

-- the root's block says that there is a file with so many bytes
pub record IsRootOfFile (root : CidParts) (connections : List Connection) (total : ℕ) : Type 0 where
  pub block : List ℕ
  pub block_is : IsRootBlock root connections block
  pub kind : Kind
  pub reads : read root block ≡ Ok kind
  pub file : IsFileKind kind
  pub total_is : total ≡ total_of (record { cid = root; block = block }) kind

-- these texts, one behind another, are answers for the first parts
pub data AreAnswers (answers : ℕ → List ℕ → Type 0) : ℕ → List ℕ → Type 0 where
  none : AreAnswers answers zero []
  more : (n : ℕ) (written text : List ℕ) → AreAnswers answers n written → answers n text → AreAnswers answers (suc n) (written ++ text)

-- they were accepted for the first parts of a file with so many bytes
abbrev pub AreAccepted : CidParts → ℕ → ℕ → List Connection → ℕ → List ℕ → Type 0
AreAccepted root size total connections n written = AreAnswers (λ k text. WasAccepted connections (part_query root size total k) text) n written
