-- What lanes that are new write for a piece.
use Rattle.std.specs.Prelude.{List, Option, Some, [], take, ℕ, ◌∷◌, ◌≡◌, ◌⊎◌}
use Rattle.tg_gateway.specs.Sessions.{SessionView}
use Rattle.tg_lanes.specs.History.{Fed, LaneStands}
use Rattle.tg_lanes.specs.Laws.{HasFailedItself}
use Rattle.tg_model.specs.Stores.{Store}
use Rattle.tg_reply.specs.Written.{replies_for}
use Rattle.tg_streams.specs.Streams.{Output, Put}

-- A lane was fed a piece and nothing else, and this was put for it; over a store that tells its blocks that is the replies to the
-- piece, of which so many bytes may be received, or in this event a count rose, or the lane wanted memory.
pub record IsFedAlone (told : Option Store) (most since now : ℕ) (session : SessionView) (piece : List ℕ) (out : Output) : Type 0 where
  pub fed : Fed
  pub piece_is : fed.piece ≡ piece
  pub put : Put fed.written out
  pub stands : LaneStands session told since now (fed ∷ [])
  pub most_is : session.state.most ≡ most
  pub replies : (store : Store) → told ≡ Some store → (fed.written ≡ replies_for store (take most piece)) ⊎ HasFailedItself session (fed ∷ [])

-- each of two lanes was fed a piece of its own
pub record AreFedAlone (told : Option Store) (most since now : ℕ) (sessions : List SessionView) (first second : List ℕ) (out other : Output) : Type 0 where
  pub session : SessionView
  pub beside : SessionView
  pub sessions_are : sessions ≡ session ∷ beside ∷ []
  pub fed_first : IsFedAlone told most since now session first out
  pub fed_second : IsFedAlone told most since now beside second other
