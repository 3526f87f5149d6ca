-- What a sink is told that the query's path leads to, while a CAR is verified into it.
use Rattle.std.specs.Prelude.{List, None, Ok, Option, Result, ⊤, ℕ, ◌++◌, ◌≡◌}
use Rattle.tg_client.specs.Body.{IsBody}
use Rattle.tg_client.specs.Received.{HasReceived}
use Rattle.tg_client.specs.declared.body.CarBody.{CarBody}
use Rattle.tg_client.specs.declared.fault.ClientFault.{ClientFault}
use Rattle.tg_model.specs.Dag.{Section}
use Rattle.tg_model.specs.LimitNumbers.{LimitNumbers}
use Rattle.tg_model.specs.Queries.{QueryParts}
use Rattle.tg_streams.specs.Streams.{Input, SinkMeaning, Took}
use Rattle.tg_verify.specs.Terminals.{IsTerminalTold, IsToldIn}
use Rattle.tg_verify.specs.declared.terminal.Terminal.{Terminal}

-- what a sink means, where it may be told something between the bytes that go into it
abbrev pub telling : {S : Type 0} → SinkMeaning S → (S → S → List ℕ → Type 0) → SinkMeaning S
telling m wrote = record { held = m.held; faults = m.faults; calls = m.calls; wrote = wrote }

-- sections that stand whole in a front of these bytes say where the path leads: it leads there in each sound DAG with the
-- query's root, or a block of them and one of the DAG are a collision pair
pub record IsTerminalHeard (q : QueryParts) (limits : LimitNumbers) (bytes : List ℕ) (t : Option Terminal) : Type 0 where
  pub heard : List ℕ
  pub unheard : List ℕ
  pub whole : bytes ≡ heard ++ unheard
  pub sections : List Section
  pub received : HasReceived limits.block heard sections
  pub told : IsTerminalTold q sections t

-- what was told by the bytes that were taken of an input; and where the CAR was accepted it was told, but where the block
-- alone is asked for
pub record HasTold (q : QueryParts) (limits : LimitNumbers) (input : Input) (knows : Option Terminal → Type 0) (result : Result ⊤ ClientFault) : Type 0 where
  pub bytes : List ℕ
  pub took : Took bytes input
  pub terminal : Option Terminal
  pub known : knows terminal
  pub heard : IsTerminalHeard q limits bytes terminal
  pub all : result ≡ Ok tt → IsToldIn q.scope terminal

-- ---- of a CAR of which nothing was refused

-- what its verifier tells is so; and once no block is wanted it is told, but where the block alone is asked for
pub record TellsSo (body : CarBody) (heard : List ℕ) : Type 0 where
  pub so : IsTerminalHeard body.verifier.left.query body.verifier.limits heard body.verifier.terminal
  pub all : body.verifier.left.wanted ≡ None → IsToldIn body.verifier.left.query.scope body.verifier.terminal

abbrev pub BodyTells : Type 0
BodyTells = (body : CarBody) (heard : List ℕ) (sections : List Section) (written : List ℕ) → IsBody body heard sections written → TellsSo body heard
