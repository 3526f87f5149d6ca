-- What a sink is told that the query's path leads to, while a reply is fetched into it.
use Rattle.std.specs.Prelude.{List, None, Ok, Option, Result, ⊤, ℕ, ◌≡◌}
use Rattle.tg_bytes.specs.Told.{grown}
use Rattle.tg_dials.specs.Dials.{Dialling}
use Rattle.tg_fetch.specs.Received.{AreReceived, HeardIn}
use Rattle.tg_fetch.specs.declared.client.Client.{Client}
use Rattle.tg_fetch.specs.declared.client.Stage.{Stage}
use Rattle.tg_fetch.specs.declared.client.Stage.TheVariants as stages
use Rattle.tg_fetch.specs.declared.fault.FetchFault.{FetchFault}
use Rattle.tg_fetch.specs.declared.sections.Sections.{Sections}
use Rattle.tg_fetch.specs.declared.sections.Sections.TheVariants as takings
use Rattle.tg_links.specs.Steps.{LinkStep}
use Rattle.tg_model.specs.Dag.{Section}
use Rattle.tg_model.specs.LimitNumbers.{LimitNumbers}
use Rattle.tg_model.specs.Queries.{QueryParts}
use Rattle.tg_model.specs.declared.queries.Form.TheVariants as forms
use Rattle.tg_verify.specs.Terminals.{IsTerminalTold, IsToldIn}
use Rattle.tg_verify.specs.declared.terminal.Terminal.{Terminal}

-- of an answer's CAR what its verifier tells; of any other body nothing
abbrev pub terminal_in : Sections → Option Terminal
terminal_in (takings.Answer body) = body.verifier.terminal
terminal_in (takings.Absence body) = None
terminal_in (takings.Block raw) = None

-- nothing before a body, and behind a whole reply what was told in it
abbrev pub terminal_at : Stage → Option Terminal → Option Terminal
terminal_at (stages.Heads heads) last = None
terminal_at (stages.Content content) last = terminal_in content.sections
terminal_at stages.Done last = last

abbrev pub terminal_of : Client → Option Terminal
terminal_of client = terminal_at client.stage client.terminal

-- sections that stand whole in what was heard say where the path leads: it leads there in each sound DAG with the query's
-- root, or a block of them and one of the DAG are a collision pair
pub record IsTerminalReceived (q : QueryParts) (limits : LimitNumbers) (heard : List ℕ) (t : Option Terminal) : Type 0 where
  pub sections : List Section
  pub received : AreReceived limits.block heard q sections
  pub told : IsTerminalTold q sections t

-- it is told of a CAR, but where the block alone is asked for
abbrev pub IsToldBy : QueryParts → Option Terminal → Type 0
IsToldBy q t = q.form ≡ forms.Car → IsToldIn q.scope t

-- what a client tells behind these bytes of a reply, refused or not, is so; and behind a whole reply it is told
pub record Tells (client : Client) (heard : List ℕ) : Type 0 where
  pub so : IsTerminalReceived client.query client.limits heard (terminal_of client)
  pub all : client.stage ≡ stages.Done → IsToldBy client.query (terminal_of client)

-- ---- a call

-- what was told by what was heard; and where the reply was accepted it was told
pub record HeardTells (q : QueryParts) (limits : LimitNumbers) (heard : List ℕ) (knows : Option Terminal → Type 0) (result : Result ⊤ FetchFault) : Type 0 where
  pub terminal : Option Terminal
  pub known : knows terminal
  pub so : IsTerminalReceived q limits heard terminal
  pub all : result ≡ Ok tt → IsToldBy q terminal

pub record LinkTells (q : QueryParts) (limits : LimitNumbers) (link : LinkStep) (knows : Option Terminal → Type 0) (result : Result ⊤ FetchFault) : Type 0 where
  pub heard : List ℕ
  pub is_heard : link.heard_new ≡ grown link.heard_old heard
  pub tells : HeardTells q limits heard knows result

pub record CallTells (q : QueryParts) (limits : LimitNumbers) (dial : Dialling) (knows : Option Terminal → Type 0) (result : Result ⊤ FetchFault) : Type 0 where
  pub heard : List ℕ
  pub heard_in : HeardIn dial heard
  pub tells : HeardTells q limits heard knows result
