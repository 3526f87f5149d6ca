-- How a block passes at its place, and what it gives there.
use Rattle.std.specs.Prelude.{All, List, None, Ok, Option, Some, [], false, true, ℕ, ◌++◌, ◌<◌, ◌≡◌, ◌≤◌}
use Rattle.tg_cid.specs.Cid.{CidParts}
use Rattle.tg_cid.specs.Names.{Names}
use Rattle.tg_model.specs.Computed.{read}
use Rattle.tg_model.specs.Dag.{Section, links_of}
use Rattle.tg_model.specs.LimitNumbers.{LimitNumbers}
use Rattle.tg_model.specs.Queries.{QueryParts}
use Rattle.tg_model.specs.declared.kinds.Kind.{Kind}
use Rattle.tg_traversal.specs.Left.{WantedAt}
use Rattle.tg_traversal.specs.PlaceTexts.{IsSizeFault}
use Rattle.tg_model_laws.specs.Stages.{Given, up_to_next, with_place}
use Rattle.tg_model_laws.specs.Tasks.{Task, depth_of, fault_at, is_read_at, position_of, tasks_of, text_at}

-- a section of bytes, which its CID names
pub record IsNamed (section : Section) : Type 0 where
  pub named : Names section.cid section.block
  pub are_bytes : All (λ b. b < 256) section.block

-- the place lies no deeper than the limit, and the block is read there as a kind that may stand there
pub record IsReadBlock (q : QueryParts) (limits : LimitNumbers) (at : WantedAt) (section : Section) (kind : Kind) : Type 0 where
  pub shallow : depth_of at.want ≤ limits.depth
  pub is_read : is_read_at q at.want ≡ true
  pub reads : read section.cid section.block ≡ Ok kind
  pub fits : fault_at q at.want kind ≡ None

-- the block passes at the place: it is read there as this kind with right sizes; or it isn't read there, where no kind is
-- given
abbrev pub PassesAs : QueryParts → LimitNumbers → WantedAt → Section → Option Kind → Type 0
PassesAs q limits at section None = (depth_of at.want ≤ limits.depth) × (is_read_at q at.want ≡ false)
PassesAs q limits at section (Some kind) =
    IsReadBlock q limits at section kind × IsSizeFault (position_of at.want) section kind None

-- what the block says there itself, and the tasks that it leaves
abbrev pub text_of : QueryParts → WantedAt → Section → Option Kind → List ℕ
text_of q at section None = section.block
text_of q at section (Some kind) = text_at q at.want section kind

abbrev pub tasks_behind : QueryParts → WantedAt → Section → Option Kind → List (Task CidParts)
tasks_behind q at section None = []
tasks_behind q at section (Some kind) = tasks_of q at.want section kind (links_of kind)

-- what was given with the block opened at the place, up to the next place
abbrev pub given_with : QueryParts → Given → List (Task CidParts) → WantedAt → Section → Option Kind → Given
given_with q given later at section kind =
    up_to_next (tasks_behind q at section kind ++ later) (with_place at.want section (text_of q at section kind) given)
