-- When received sections fit a query, what is written meanwhile, and when they can't be the DAG's.
use Rattle.tg_model.specs.declared.queries.Scope.TheVariants as scopes
use Rattle.std.specs.Prelude.{Option, Some, None, ◌++◌, ◌||◌, Bool, Contains, List, [], false, true, ℕ, ⊤, ◌≡◌, ◌≢◌}
use Rattle.sha2.specs.Sha256.{sha256}
use Rattle.tg_cid.specs.declared.cid.HashKind.TheVariants.{Sha256}
use Rattle.tg_model.specs.Answer.{is_listed, node_text}
use Rattle.tg_model.specs.Dag.{Dag, Section, bare, blocks, node, root_cid, unopened}
use Rattle.tg_model.specs.PathWalk.{PathEnd, Spot, TraversalEnd, gone, not_reached, path_walk, stopped, terminal, whole}
use Rattle.tg_model.specs.Queries.{QueryParts}
use Rattle.tg_model.specs.Sound.{IsChecked}
use Rattle.tg_model.specs.Traversal.{block_list, is_asked, opened_list, traversal}
use Rattle.tg_model.specs.declared.queries.Scope.{Scope}

-- one block stands under each CID
abbrev pub HasOneBlockEach : List Section → Type 0
HasOneBlockEach sections =
    (a b : Section) → Contains sections a → Contains sections b → a.cid ≡ b.cid → a.block ≡ b.block

-- where each block is sent once
abbrev pub IfOnce : Bool → Type 0 → Type 0
IfOnce true P = ⊤
IfOnce false P = P

-- of a terminal of which the block alone is asked for only the block is told
abbrev pub IsToldAlone : Dag → Type 0
IsToldAlone (unopened cid) = ⊤
IsToldAlone (bare section fault) = ⊤
IsToldAlone (node section kind children) = ⊥

-- where scope block asks for the terminal, it is told alone
abbrev pub IsAloneAt : Scope → PathEnd → Type 0
IsAloneAt scopes.Block (terminal d) = IsToldAlone d
IsAloneAt scopes.Block (not_reached stop) = ⊤
IsAloneAt scopes.Entity end = ⊤
IsAloneAt scopes.All end = ⊤

-- what the sections of a query have opened, and nothing else, is right
pub record IsOpenedFor (d : Dag) (q : QueryParts) : Type 0 where
  pub root : root_cid d ≡ q.root
  pub opened : blocks d ≡ opened_list q d
  pub alone : IsAloneAt q.scope (path_walk q.path d).end
  pub checked : IsChecked d
  pub one_each : IfOnce q.dups (HasOneBlockEach (blocks d))

-- the text of the terminal, once the traversal came through
abbrev pub terminal_text : QueryParts → PathEnd → List ℕ
terminal_text q (terminal d) = node_text q.scope q.span d
terminal_text q (not_reached stop) = []

-- what the terminal of a partial DAG says
abbrev pub whole_text : QueryParts → Dag → List ℕ
whole_text q d = terminal_text q (path_walk q.path d).end

-- the sections are all that the query asks for, and this is the answer's text
pub record Fits (d : Dag) (q : QueryParts) (sections : List Section) (out : List ℕ) : Type 0 where
  pub right : IsOpenedFor d q
  pub list : block_list q d ≡ sections
  pub end : (traversal q d).end ≡ whole
  pub text : out ≡ whole_text q d

-- the sections are those up to a spot, for which a block is wanted
pub record IsInProgress (d : Dag) (q : QueryParts) (sections : List Section) (wanted : Spot) : Type 0 where
  pub right : IsOpenedFor d q
  pub list : block_list q d ≡ sections
  pub end : (traversal q d).end ≡ stopped (gone wanted)
  pub asked : is_asked q wanted.cid ≡ true
  pub not_seen : IfOnce q.dups ((section : Section) → Contains sections section → section.cid ≢ wanted.cid)

-- whether a block alone is asked for
abbrev pub is_block : Scope → Bool
is_block scopes.Block = true
is_block scopes.Entity = false
is_block scopes.All = false

-- whether the text is written at the end alone: a block's, and a directory's listing
abbrev pub is_late_terminal : Scope → PathEnd → Bool
is_late_terminal scope (terminal d) = is_block scope || is_listed scope d
is_late_terminal scope (not_reached stop) = false

-- what is written: the whole text where it is late and the traversal came through, and else the text so far
abbrev pub so_far : Bool → TraversalEnd → List ℕ → List ℕ → List ℕ
so_far true whole all text = all
so_far true (stopped stop) all text = []
so_far false end all text = text

-- what is written for a partial DAG: the text in preorder up to the first block that isn't opened
abbrev pub output_so_far : QueryParts → Dag → List ℕ
output_so_far q d =
    so_far (is_late_terminal q.scope (path_walk q.path d).end) (traversal q d).end (whole_text q d) (traversal q d).text

-- a received section and a node of the DAG have one CID, with sha2-256, and different blocks with one SHA-256
pub record CollisionPair (sections : List Section) (d : Dag) : Type 0 where
  pub received : Section
  pub held : Section
  pub is_received : Contains sections received
  pub is_held : Contains (blocks d) held
  pub same_cid : received.cid ≡ held.cid
  pub kind : received.cid.hash ≡ Sha256
  pub differ : received.block ≢ held.block
  pub same_hash : sha256 received.block ≡ sha256 held.block

-- what is written is a front of the answer, and nothing where there is none
abbrev pub IsFrontOfAnswer : List ℕ → Option (List ℕ) → Type 0
IsFrontOfAnswer out (Some text) = (rest : List ℕ) × (text ≡ out ++ rest)
IsFrontOfAnswer out None = out ≡ []
