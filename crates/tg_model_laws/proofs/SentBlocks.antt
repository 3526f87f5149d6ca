-- A traversal that asks for all below a whole and checked node gives its blocks in preorder.
use Rattle.std.proofs.Common.{◌≡◌, Option, Some, None, List, [], ◌∷◌, ◌++◌, ℕ, ◌+◌, length, refl, sym, ap, ap₂, ◌∙◌, subst}
use Rattle.std.proofs.lemmas.List.{map-append}
use Rattle.std.specs.Prelude.{⊤}
use Rattle.tg_cid.specs.Cid.{CidParts}
use Rattle.tg_model_laws.proofs.OpenedParts.{opened, opened_at, opened_gives, opened_children, sections_in}
use Rattle.tg_model_laws.proofs.Terminals.{terminal_sound}
use Rattle.tg_model_laws.proofs.VisitPlaces.{each_mapped}
use Rattle.tg_model_laws.proofs.WholeTraversals.{traverse-whole}
use Rattle.tg_model_laws.specs.Standing.{Each}
use Rattle.tg_model.specs.Dag.{Dag, Children, Section, bare, blocks, with_child, no_child, node, root_cid, unopened}
use Rattle.tg_model.specs.PathWalk.{PathEnd, PathWalk, path_walk, terminal}
use Rattle.tg_model.specs.Queries.{QueryParts, SpanParts}
use Rattle.tg_model.specs.Sound.{AreCheckedAt, IsCheckedAt, IsSound, Position, part, passed, position_by_name, position_fault, positions, slot_position, top}
use Rattle.tg_model.specs.Traversal.{Place, Reach, Visit, all_reach, at_terminal, bundled, entire, entry_visit, from_end, opened_list, sections_of, slot_visit, visit_by_name, visits, walk_places}
use Rattle.tg_model.specs.declared.kinds.Kind.{Kind}
use Rattle.tg_model.specs.declared.kinds.Kind.TheVariants.{Basic, File, Raw, Shard, Symlink}
use Rattle.tg_model.specs.declared.queries.Scope.{Scope}
use Rattle.tg_model.specs.declared.queries.Scope.TheVariants as scopes

-- ---- what asks for all

-- all is asked for below a node of this kind: a bundle of anything, or the whole of what isn't a directory
abbrev AsksAll : Reach → Kind → Type 0
AsksAll (bundled path) kind = ⊤
AsksAll entire (Basic entries) = ⊥
AsksAll entire (Shard slots) = ⊥
AsksAll entire kind = ⊤
AsksAll reach kind = ⊥

-- and below whatever may stand at a position
abbrev AsksAllAt : Reach → Position → Type 0
AsksAllAt reach position = (kind : Kind) → position_fault position kind ≡ None → AsksAll reach kind

-- a child is gone into at its position, and all is asked for there
abbrev GoesOn : Option (Reach × Position) → Position → Type 0
GoesOn None position = ⊥
GoesOn (Some into) position = (into.1 ≡ position) × AsksAllAt into.0 position

-- a part is a raw block or a file
part_asked : (size : ℕ) → AsksAllAt entire (part size)
part_asked size (Basic entries) e = cc
part_asked size (Shard slots) e = cc
part_asked size _ e = tt

-- a slot of a shard that is bundled
slot_goes_on : (path : List ℕ) (position : Position) (number : ℕ) (cid : CidParts) (name : Option (List ℕ))
    → GoesOn (visit_by_name (bundled path) position number cid name).into (position_by_name (passed position ++ number ∷ []) name)
slot_goes_on path position number cid (Some name) = (refl, λ kind e. tt)
slot_goes_on path position number cid None = (refl, λ kind e. tt)

-- where all is asked for it is asked for at each child
visits_go_on : (reach : Reach) (position : Position) (kind : Kind) → AsksAll reach kind → Each GoesOn (visits reach position kind) (positions position kind)
visits_go_on reach position Raw a = tt
visits_go_on reach position (Symlink target) a = tt
visits_go_on (bundled path) position (File inline filesize parts) a =
    each_mapped GoesOn (λ p. record { met = []; into = Some (entire, part p.size) }) (λ p. part p.size) (λ p. (refl, part_asked p.size)) parts
visits_go_on (bundled path) position (Basic entries) a =
    each_mapped GoesOn (λ e. entry_visit (bundled path) e.name e.cid) (λ entry. top) (λ e. (refl, λ kind e. tt)) entries
visits_go_on (bundled path) position (Shard slots) a =
    each_mapped GoesOn (slot_visit (bundled path) position) (slot_position (passed position)) (λ s. slot_goes_on path position s.slot s.cid s.name) slots
visits_go_on entire position (File inline filesize parts) a =
    each_mapped GoesOn (λ p. record { met = []; into = Some (entire, part p.size) }) (λ p. part p.size) (λ p. (refl, part_asked p.size)) parts
visits_go_on _ position kind a = absurd a

-- ---- where all is asked for, all is opened

-- all is asked for below the root of a DAG
abbrev AsksAllOf : Reach → Dag → Type 0
AsksAllOf reach (unopened cid) = ⊤
AsksAllOf reach (bare section fault) = ⊤
AsksAllOf reach (node section kind children) = AsksAll reach kind

-- a checked node is one that may stand there
all_of : (reach : Reach) (position : Position) (d : Dag) → AsksAllAt reach position → IsCheckedAt position d → AsksAllOf reach d
all_of reach position (unopened cid) a h = tt
all_of reach position (bare section fault) a h = tt
all_of reach position (node section kind children) a h = a kind h.0.stands

-- a child of which all is asked for
child_all : (into : Option (Reach × Position)) (position : Position) (d : Dag) → GoesOn into position
    → ((reach : Reach) → AsksAllAt reach position → opened reach position d ≡ d)
    → opened_at (λ reach position. opened reach position d) (root_cid d) into ≡ d
child_all None position d on h = absurd on
child_all (Some into) position d on h = subst (λ (p : Position). opened into.0 p d ≡ d) (sym on.0) (h into.0 on.1)

mutual
  -- a node of which all is asked for
  opened_all : (reach : Reach) (position : Position) (d : Dag) → AsksAllOf reach d → IsCheckedAt position d → opened reach position d ≡ d
  opened_all reach position (unopened cid) a h = refl
  opened_all reach position (bare section fault) a h = refl
  opened_all reach position (node section kind children) a h =
      ap (λ (children : Children). node section kind children) (children_all (visits reach position kind) (positions position kind) children (visits_go_on reach position kind a) h.1)

  -- and children
  children_all : (todo : List Visit) (places : List Position) (children : Children) → Each GoesOn todo places → AreCheckedAt places children → opened_children todo children ≡ children
  children_all todo places no_child on h = refl
  children_all todo [] (with_child d children) on h = absurd h
  children_all [] (place ∷ places) (with_child d children) on h = absurd on
  children_all (visit ∷ todo) (place ∷ places) (with_child d children) on h =
      ap₂ (λ (d : Dag) (children : Children). with_child d children)
      (child_all visit.into place d on.0 (λ reach a. opened_all reach place d (all_of reach place d a h.0) h.0))
      (children_all todo places children on.1 h.1)

-- ---- under scope all

-- scope all asks for all below a terminal
all_asked : (kind : Kind) → AsksAll (all_reach kind) kind
all_asked Raw = tt
all_asked _ = tt

-- a traversal from a terminal gives the terminal's blocks
terminal_blocks : (span : Option SpanParts) (depth : ℕ) (t : Dag) → IsSound t → sections_in (at_terminal scopes.All span depth t) ≡ blocks t
terminal_blocks span depth (unopened cid) sound = absurd sound.whole
terminal_blocks span depth (bare section fault) sound = absurd sound.whole
terminal_blocks span depth (node section kind children) sound =
    sym (opened_gives (all_reach kind) top depth (node section kind children) (traverse-whole (all_reach kind) top depth (node section kind children) sound.whole sound.checked)).sent
    ∙ ap blocks (opened_all (all_reach kind) top (node section kind children) (all_asked kind) sound.checked)

-- the places of a walk have its sections
pub walk_sections : (depth : ℕ) (sections : List Section) → sections_of (walk_places depth sections) ≡ sections
walk_sections depth [] = refl
walk_sections depth (section ∷ sections) = ap (λ (rest : List Section). section ∷ rest) (walk_sections (depth + 1) sections)

-- the traversal of a query for all gives the blocks of the path and then the terminal's
pub all_opened : (q : QueryParts) (d t : Dag) → IsSound d → (path_walk q.path d).end ≡ terminal t → q.scope ≡ scopes.All
    → opened_list q d ≡ (path_walk q.path d).sections ++ blocks t
all_opened q d t sound e all =
    let walk : PathWalk = path_walk q.path d in
    let depth : ℕ = length walk.sections + 1 in
    map-append (λ (p : Place). p.section) (walk_places 1 walk.sections) (from_end walk.end q.scope q.span depth).places
    ∙ ap₂ (λ (a b : List Section). a ++ b) (walk_sections 1 walk.sections)
    (ap₂ (λ (end : PathEnd) (scope : Scope). sections_in (from_end end scope q.span depth)) e all
    ∙ terminal_blocks q.span depth t (terminal_sound q.path d t sound e))
