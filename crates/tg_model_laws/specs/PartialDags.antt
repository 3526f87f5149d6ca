-- A DAG with some blocks unopened.
use Rattle.std.specs.Prelude.{Contains, List, Option, None, [], false, map, true, ℕ, ◌++◌, ◌∷◌, ◌≡◌, ◌⊎◌}
use Rattle.tg_cid.specs.Cid.{CidParts}
use Rattle.tg_cid.specs.Names.{Names}
use Rattle.tg_model.specs.Answer.{answer, is_listed, named_of, node_text}
use Rattle.tg_model.specs.Content.{entries}
use Rattle.tg_model.specs.Dag.{Children, Dag, Section, bare, blocks, no_child, node, root_cid, unopened, with_child}
use Rattle.tg_model.specs.Fits.{CollisionPair, Fits, IsFrontOfAnswer, IsOpenedFor, output_so_far}
use Rattle.tg_model.specs.PathWalk.{Spot, gone, path_walk, stopped, terminal, whole}
use Rattle.tg_model.specs.Queries.{QueryParts}
use Rattle.tg_model.specs.Sound.{IsChecked, IsSound}
use Rattle.tg_model.specs.Traversal.{ListedEntry, Place, Traversal, block_list, named_met, sent, traversal}
use Rattle.tg_model.specs.declared.fault.BlockFault.{BlockFault}
use Rattle.tg_model.specs.declared.kinds.Kind.{Kind}
use Rattle.tg_model.specs.declared.queries.Scope.TheVariants as scopes

-- the first DAG is the second with some blocks unopened, or told alone
mutual
  pub data OpenedFrom : Dag → Dag → Type 0 where
    unseen : (cid : CidParts) (d : Dag) → cid ≡ root_cid d → OpenedFrom (unopened cid) d
    alone : (section : Section) (kind : Kind) (children : Children)
        → OpenedFrom (bare section None) (node section kind children)
    same_bare : (section : Section) (fault : Option BlockFault) → OpenedFrom (bare section fault) (bare section fault)
    opened : (section : Section) (kind : Kind) (children others : Children) → ChildrenOpenedFrom children others
        → OpenedFrom (node section kind children) (node section kind others)

  pub data ChildrenOpenedFrom : Children → Children → Type 0 where
    none : ChildrenOpenedFrom no_child no_child
    each : (s d : Dag) (children others : Children) → OpenedFrom s d → ChildrenOpenedFrom children others
        → ChildrenOpenedFrom (with_child s children) (with_child d others)

-- a received block and one of a DAG that one CID names are equal, or they are a collision pair
abbrev pub AreOneBlock : Type 0
AreOneBlock = (d : Dag) (received held : Section) → Contains (blocks d) held → received.cid ≡ held.cid → Names received.cid received.block → Names held.cid held.block
    → (received ≡ held) ⊎ CollisionPair (received ∷ []) d

-- a checked partial DAG is the sound DAG of its root with some blocks unopened, or there is a collision pair
abbrev pub AreOpenedFrom : Type 0
AreOpenedFrom =
    (d s : Dag) → IsSound d → IsChecked s → root_cid s ≡ root_cid d → OpenedFrom s d ⊎ CollisionPair (blocks s) d

-- a sound DAG with some blocks unopened is checked, and has its root
abbrev pub AreChecked : Type 0
AreChecked = (d s : Dag) → IsSound d → OpenedFrom s d → IsChecked s × (root_cid s ≡ root_cid d)

-- the text of a traversal that came through is what the terminal says, where that is no listing
abbrev pub SayTexts : Type 0
SayTexts = (q : QueryParts) (s t : Dag) → IsOpenedFor s q → (path_walk q.path s).end ≡ terminal t → (traversal q s).end ≡ whole → is_listed q.scope t ≡ false
    → (traversal q s).text ≡ node_text q.scope q.span t

-- and of a listing it meets just the entries
abbrev pub MeetEntries : Type 0
MeetEntries = (q : QueryParts) (s t : Dag) → IsOpenedFor s q → (path_walk q.path s).end ≡ terminal t → (traversal q s).end ≡ whole → is_listed q.scope t ≡ true
    → map named_met (traversal q s).met ≡ map named_of (entries t)

-- whatever was opened for a query, what is written is a front of the sound DAG's answer, or there is a collision pair
abbrev pub WriteFronts : Type 0
WriteFronts = (q : QueryParts) (d s : Dag) → IsSound d → root_cid d ≡ q.root → IsOpenedFor s q → IsFrontOfAnswer (output_so_far q s) (answer q d) ⊎ CollisionPair (block_list q s) d

-- under scope all, without a path, what fits is what is sent of the sound DAG's blocks, where repeats are each that is
-- asked for, or there is a collision pair
abbrev pub HoldAll : Type 0
HoldAll = (q : QueryParts) (d s : Dag) (sections : List Section) (out : List ℕ) → IsSound d → root_cid d ≡ q.root → q.scope ≡ scopes.All → q.path ≡ [] → Fits s q sections out
    → (sections ≡ sent q (blocks d)) ⊎ CollisionPair sections d

-- a traversal stops at an unopened block, and what it gives are fronts of what the other gives
pub record StopsBefore (t u : Traversal) : Type 0 where
  pub spot : Spot
  pub end : t.end ≡ stopped (gone spot)
  pub places_behind : List Place
  pub places : u.places ≡ t.places ++ places_behind
  pub text_behind : List ℕ
  pub text : u.text ≡ t.text ++ text_behind
  pub met_behind : List ListedEntry
  pub met : u.met ≡ t.met ++ met_behind

-- the traversal of a DAG with some blocks unopened is the DAG's, or it stops before it
abbrev pub AreFollowed : Type 0
AreFollowed = (q : QueryParts) (d s : Dag) → OpenedFrom s d → (traversal q s ≡ traversal q d) ⊎ StopsBefore (traversal q s) (traversal q d)
