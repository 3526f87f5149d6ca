-- What a query's path leads to, and what stands for it once a verifier tells it (Path Gateway specification, Path
-- Resolution; UnixFS specification, node types).
use Rattle.std.specs.Prelude.{Bool, Err, List, None, Ok, Option, Result, Some, [], false, true, ⊤, ℕ, ◌++◌, ◌∷◌, ◌≡◌, ◌≢◌}
use Rattle.std.specs.Prelude.{◌⊎◌}
use Rattle.tg_cid.specs.Cid.{CidParts}
use Rattle.tg_model.specs.Computed.{read}
use Rattle.tg_model.specs.Dag.{Dag, Section, bare, node, unopened}
use Rattle.tg_model.specs.Fits.{CollisionPair}
use Rattle.tg_model.specs.Lookup.{lookup_path}
use Rattle.tg_model.specs.Lookup as lookups
use Rattle.tg_model.specs.Queries.{QueryParts}
use Rattle.tg_model.specs.Traversal.{Place}
use Rattle.tg_model.specs.declared.kinds.Kind.{Kind}
use Rattle.tg_model.specs.declared.kinds.Kind.TheVariants.{Basic, File, Raw, Shard, Symlink}
use Rattle.tg_model.specs.declared.queries.Scope.{Scope}
use Rattle.tg_model.specs.declared.queries.Scope.TheVariants as scopes
use Rattle.tg_model_laws.specs.Stages.{Given}
use Rattle.tg_model_laws.specs.Tasks.{Task, Want, give_entries, give_text, node_want, open_block, segment_want, stop_at}
use Rattle.tg_model_laws.specs.Tasks.{terminal_want}
use Rattle.tg_model_laws.specs.Verified.{Verified}
use Rattle.tg_verify.specs.Opening.{IsNamed}
use Rattle.tg_verify.specs.Sound.{ForEachSound}
use Rattle.tg_verify.specs.declared.fault.Refusal.{Refusal}
use Rattle.tg_verify.specs.declared.terminal.Terminal.{Terminal}
use Rattle.tg_verify.specs.declared.terminal.Terminal.TheVariants as terminals
use Rattle.tg_verify.specs.declared.verifier.Progress.{Progress}
use Rattle.tg_verify.specs.declared.verifier.Progress.TheVariants as progresses

-- ---- what a block of a kind is

abbrev pub terminal_kind : Kind → Terminal
terminal_kind Raw = terminals.File
terminal_kind (File inline filesize parts) = terminals.File
terminal_kind (Basic entries) = terminals.Directory
terminal_kind (Shard slots) = terminals.Directory
terminal_kind (Symlink target) = terminals.Symlink

-- what was told before a block was opened stays; and else it is told with the terminal's block, where that is read
abbrev pub told_of : Option Kind → Option Terminal
told_of None = None
told_of (Some kind) = Some (terminal_kind kind)

abbrev pub terminal_behind : Option Terminal → Bool → Option Kind → Option Terminal
terminal_behind (Some t) at_terminal kind = Some t
terminal_behind None true kind = told_of kind
terminal_behind None false kind = None

-- ---- in a DAG

-- the node is of a kind of this terminal
abbrev pub IsOfKind : Dag → Terminal → Type 0
IsOfKind (unopened cid) t = ⊥
IsOfKind (bare section fault) t = ⊥
IsOfKind (node section kind children) t = t ≡ terminal_kind kind

-- the path leads to such a node of the DAG
abbrev pub IsTerminalOf : Dag → List (List ℕ) → Terminal → Type 0
IsTerminalOf d path t = (x : Dag) × (lookup_path path d ≡ lookups.found x) × IsOfKind x t

-- what is told is so in each sound DAG with the query's root, or a received block and one of the DAG are a collision pair
abbrev pub IsTerminalTold : QueryParts → List Section → Option Terminal → Type 0
IsTerminalTold q sections None = ⊤
IsTerminalTold q sections (Some t) = ForEachSound q (λ d. IsTerminalOf d q.path t ⊎ CollisionPair sections d)

-- ---- by the sections

-- the query for the terminal's block alone
abbrev pub block_query : QueryParts → QueryParts
block_query q = record q { scope = scopes.Block }

-- a front of the sections is all that the terminal's block alone asks for, and that block, which is opened last, is read
-- as a kind of this terminal
pub record LeadsTo (q : QueryParts) (sections : List Section) (t : Terminal) : Type 0 where
  pub front : List Section
  pub rest : List Section
  pub whole : sections ≡ front ++ rest
  pub given : Given
  pub verified : Verified (block_query q) front given []
  pub before : List Place
  pub last : Place
  pub places : given.places ≡ before ++ last ∷ []
  pub is_named : IsNamed last.section
  pub kind : Kind
  pub reads : read last.section.cid last.section.block ≡ Ok kind
  pub told : t ≡ terminal_kind kind

-- a place on the path, or its terminal
abbrev pub IsOnPath : Want → Type 0
IsOnPath (segment_want i position name path depth) = ⊤
IsOnPath (terminal_want depth) = ⊤
IsOnPath (node_want reach position depth) = ⊥

-- just one task is left: such a place, or a segment that leads nowhere
abbrev pub AreOnPath : List (Task CidParts) → Type 0
AreOnPath [] = ⊥
AreOnPath (open_block w cid ∷ tasks) = IsOnPath w × (tasks ≡ [])
AreOnPath (give_text text ∷ tasks) = ⊥
AreOnPath (give_entries met ∷ tasks) = ⊥
AreOnPath (stop_at miss ∷ tasks) = tasks ≡ []

-- as long as none is told the sections are the first of those that the terminal's block alone asks for
abbrev pub IsTerminalBy : QueryParts → List Section → Given → List (Task CidParts) → Option Terminal → Type 0
IsTerminalBy q sections given tasks None = Verified (block_query q) sections given tasks × AreOnPath tasks
IsTerminalBy q sections given tasks (Some t) = LeadsTo q sections t

-- where the block alone is asked for none is told
abbrev pub IsTerminalIn : Scope → QueryParts → List Section → Given → List (Task CidParts) → Option Terminal → Type 0
IsTerminalIn scopes.Block q sections given tasks t = t ≡ None
IsTerminalIn scopes.Entity q sections given tasks t = IsTerminalBy q sections given tasks t
IsTerminalIn scopes.All q sections given tasks t = IsTerminalBy q sections given tasks t

-- what is told behind these sections, where this was given and these tasks are left
abbrev pub IsTerminalAt : QueryParts → List Section → Given → List (Task CidParts) → Option Terminal → Type 0
IsTerminalAt q sections given tasks t = IsTerminalIn q.scope q sections given tasks t

-- ---- once all came

abbrev pub IsToldIn : Scope → Option Terminal → Type 0
IsToldIn scopes.Block t = ⊤
IsToldIn scopes.Entity t = t ≢ None
IsToldIn scopes.All t = t ≢ None

-- it is told then, but where the block alone is asked for
abbrev pub IsToldThen : QueryParts → Option Terminal → Result Progress Refusal → Type 0
IsToldThen q t (Ok progresses.More) = ⊤
IsToldThen q t (Ok progresses.Done) = IsToldIn q.scope t
IsToldThen q t (Err fault) = ⊤

-- ---- laws

-- what sections lead to is so in each sound DAG
abbrev pub TerminalsTold : Type 0
TerminalsTold = (q : QueryParts) (sections : List Section) (t : Terminal) → LeadsTo q sections t → IsTerminalTold q sections (Some t)
