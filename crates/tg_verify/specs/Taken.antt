-- What was taken of a query's sections, and what is written for them.
use Rattle.std.specs.Prelude.{Bool, Contains, List, None, Option, Some, [], false, map, true, ⊤, ℕ, ◌++◌, ◌∷◌}
use Rattle.std.specs.Prelude.{◌≡◌, ◌≢◌}
use Rattle.tg_cid.specs.Cid.{CidParts}
use Rattle.tg_traversal.specs.Left.{WantedAt, tasks_left}
use Rattle.tg_model.specs.Dag.{Section}
use Rattle.tg_model.specs.Queries.{QueryParts}
use Rattle.tg_model.specs.Traversal.{is_sent_behind}
use Rattle.tg_model_laws.specs.Stages.{Given, nothing_given}
use Rattle.tg_model_laws.specs.Tasks.{Miss, Task, open_block, start, stop_at}
use Rattle.tg_model_laws.specs.Verified.{Verified, written_whole}
use Rattle.tg_verify.specs.Counting.{AreUnpassed, HasCounted, counts_given}
use Rattle.tg_model.specs.LimitNumbers.{LimitNumbers}
use Rattle.tg_verify.specs.Opening.{IsNamed}
use Rattle.tg_verify.specs.Reached.{IsReached, IsReachedBefore, stage_of}
use Rattle.tg_verify.specs.State.{VerifierState, count_of, listed_lines}
use Rattle.tg_verify.specs.Terminals.{IsTerminalAt}

-- these sections were taken, no limit is passed by them, this is written for them, and a block that is sent behind them is wanted
-- here
pub record IsUpTo (q : QueryParts) (limits : LimitNumbers) (sections : List Section) (written : List ℕ) (at : WantedAt) : Type 0 where
  pub given : Given
  pub later : List (Task CidParts)
  pub verified : Verified q sections given (open_block at.want at.cid ∷ later)
  pub reached : IsReached q limits (stage_of sections given (open_block at.want at.cid ∷ later))
  pub sends : is_sent_behind q sections at.cid ≡ true
  pub text : written ≡ given.text

-- these are all sections of the query, no limit is passed by them, and all is written
pub record IsThrough (q : QueryParts) (limits : LimitNumbers) (sections : List Section) (written : List ℕ) : Type 0 where
  pub given : Given
  pub verified : Verified q sections given []
  pub reached : IsReached q limits (stage_of sections given [])
  pub text : written ≡ written_whole q given

-- these sections were taken, no limit is passed before the last block of them, and a segment of the path leads nowhere
pub record IsNowhere (q : QueryParts) (limits : LimitNumbers) (sections : List Section) (written : List ℕ) (miss : Miss) : Type 0 where
  pub given : Given
  pub later : List (Task CidParts)
  pub verified : Verified q sections given (stop_at miss ∷ later)
  pub reached : IsReachedBefore q limits (stage_of sections given (stop_at miss ∷ later))
  pub text : written ≡ given.text

-- these are all sections of the query, and all is written but for the listing at the end, of which nothing is
pub record IsUnlisted (q : QueryParts) (sections : List Section) (written : List ℕ) : Type 0 where
  pub given : Given
  pub verified : Verified q sections given []
  pub text : written ≡ given.text

-- these sections were taken, and a front is written of what they say
abbrev pub most_text : QueryParts → Given → List (Task CidParts) → List ℕ
most_text q given [] = written_whole q given
most_text q given (task ∷ tasks) = given.text

pub record IsFrontWritten (q : QueryParts) (sections : List Section) (written : List ℕ) : Type 0 where
  pub given : Given
  pub tasks : List (Task CidParts)
  pub verified : Verified q sections given tasks
  pub rest : List ℕ
  pub text : most_text q given tasks ≡ written ++ rest

-- these sections were taken, and all is written that they say
pub record IsWritten (q : QueryParts) (sections : List Section) (written : List ℕ) : Type 0 where
  pub given : Given
  pub tasks : List (Task CidParts)
  pub verified : Verified q sections given tasks
  pub text : written ≡ most_text q given tasks

-- ---- a verifier that refused nothing

-- before it opened anything
pub record IsFresh (state : VerifierState) : Type 0 where
  pub left : tasks_left state.left ≡ start state.left.query state.left.query.root
  pub wanted : state.left.wanted ≢ None
  pub lines : state.lines ≡ []
  pub counted : HasCounted state.left.query state.counts nothing_given
  pub seen : state.seen ≡ []
  pub taken : state.taken ≡ 0
  pub terminal : state.terminal ≡ None
  pub refused : state.refused ≡ None

-- as long as a block is wanted, the text that was given is written, and the lines of a listing are kept; and then all
-- is written
abbrev pub IsWrittenAt : VerifierState → Given → List ℕ → Option WantedAt → Type 0
IsWrittenAt state given written (Some at) =
    (written ≡ given.text) × (state.lines ≡ listed_lines state.left.query.scope given.met)
IsWrittenAt state given written None = (state.left.later ≡ []) × (written ≡ written_whole state.left.query given)

abbrev pub AreNamed : List Section → Type 0
AreNamed sections = (section : Section) → Contains sections section → IsNamed section

-- where each block is sent once, the blocks of the sections are remembered, each under its CID
abbrev pub Remembers : Bool → List (CidParts × List ℕ) → List Section → Type 0
Remembers true seen sections = seen ≡ []
Remembers false seen sections = seen ≡ map (λ section. (section.cid, section.block)) sections

-- what a verifier keeps of the sections that it took
pub record Keeps (state : VerifierState) (sections : List Section) : Type 0 where
  pub named : AreNamed sections
  pub remembers : Remembers state.left.query.dups state.seen sections
  pub count : state.taken ≡ count_of sections

-- what was given is counted, and passes no limit
pub record IsCountedWithin (state : VerifierState) (given : Given) : Type 0 where
  pub counted : HasCounted state.left.query state.counts given
  pub within : AreUnpassed state.limits (counts_given state.left.query given)

-- where a block is wanted, one under its CID is sent behind the sections
abbrev pub IsSentFor : QueryParts → List Section → Option WantedAt → Type 0
IsSentFor q sections None = ⊤
IsSentFor q sections (Some at) = is_sent_behind q sections at.cid ≡ true

-- it goes on where a section is wanted, or took all
pub record IsGoing (state : VerifierState) (sections : List Section) (written : List ℕ) : Type 0 where
  pub given : Given
  pub verified : Verified state.left.query sections given (tasks_left state.left)
  pub reached : IsReached state.left.query state.limits (stage_of sections given (tasks_left state.left))
  pub sends : IsSentFor state.left.query sections state.left.wanted
  pub keeps : Keeps state sections
  pub counted : IsCountedWithin state given
  pub writes : IsWrittenAt state given written state.left.wanted
  pub terminal : IsTerminalAt state.left.query sections given (tasks_left state.left) state.terminal

-- it goes on, and places whose blocks no section brings may come before a section is wanted
pub record IsOn (state : VerifierState) (sections : List Section) (written : List ℕ) : Type 0 where
  pub given : Given
  pub verified : Verified state.left.query sections given (tasks_left state.left)
  pub reached : IsReached state.left.query state.limits (stage_of sections given (tasks_left state.left))
  pub ends : state.left.wanted ≡ None → state.left.later ≡ []
  pub keeps : Keeps state sections
  pub counted : IsCountedWithin state given
  pub text : written ≡ given.text
  pub lines : state.lines ≡ listed_lines state.left.query.scope given.met
  pub terminal : IsTerminalAt state.left.query sections given (tasks_left state.left) state.terminal
