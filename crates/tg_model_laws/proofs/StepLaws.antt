-- One traversal behind another, and one step of a traversal.
use Rattle.std.proofs.Common.{◌≡◌, ◌+◌, ◌++◌, ◌∷◌, ℕ, suc, List, [], Option, Some, None, length, refl, sym, ap, ◌∙◌, arith, append-nil, append_assoc, zero-add}
use Rattle.tg_model_laws.specs.Steps.{after_step, from_child, from_node, from_walk}
use Rattle.tg_model.specs.Dag.{Children, Dag, Section, node}
use Rattle.tg_model.specs.PathWalk.{PathWalk, Spot, StepTo, TraversalEnd, absent, bad_block, behind, child_below, not_folder_here, spot_at, step_of, stopped, to_child, to_entry, unless_misfit, walk_child, walk_step, whole}
use Rattle.tg_model.specs.Queries.{QueryParts}
use Rattle.tg_model.specs.Sound.{Position, passed, position_fault, top}
use Rattle.tg_model.specs.Traversal.{ListedEntry, Place, Reach, Traversal, after_end, and_then, at_terminal, ended, from_end, giving_place, giving_text, text_before, text_behind, traversal, traverse, traverse_children, unless_bad, visits, walk_places}
use Rattle.tg_model.specs.declared.fault.BlockFault.{BlockFault}
use Rattle.tg_model.specs.declared.kinds.Kind.{Kind}
use Rattle.tg_murmur.specs.NameHash.{slot_of}

-- equal parts make equal traversals
same_parts : (p p2 : List Place) (t t2 : List ℕ) (m m2 : List ListedEntry) (e e2 : TraversalEnd) → p ≡ p2 → t ≡ t2 → m ≡ m2 → e ≡ e2
    → (let a : Traversal = record { places = p; text = t; met = m; end = e } in let b : Traversal = record { places = p2; text = t2; met = m2; end = e2 } in a ≡ b)
same_parts p p2 t t2 m m2 e e2 hp ht hm he = λ i. record { places = hp i; text = ht i; met = hm i; end = he i }

-- nothing before a traversal
pub nothing_before : (t : Traversal) → and_then (giving_text []) t ≡ t
nothing_before t = refl

-- nothing behind one, of which the end is a variable
behind_end : (end : TraversalEnd) (t : Traversal) → t.end ≡ end → after_end end t (giving_text []) ≡ t
behind_end whole t e =
    same_parts (t.places ++ []) t.places (t.text ++ []) t.text (t.met ++ []) t.met whole t.end (append-nil t.places) (append-nil t.text) (append-nil t.met) (sym e)
behind_end (stopped stop) t e = refl

pub nothing_behind : (t : Traversal) → and_then t (giving_text []) ≡ t
nothing_behind t = behind_end t.end t refl

-- behind two of which the first came through
behind_second : (second : TraversalEnd) (a b c : Traversal)
    → after_end second (record { places = a.places ++ b.places; text = a.text ++ b.text; met = a.met ++ b.met; end = b.end }) c
    ≡ (let rest : Traversal = after_end second b c in
    let both : Traversal = record { places = a.places ++ rest.places; text = a.text ++ rest.text; met = a.met ++ rest.met; end = rest.end } in both)
behind_second whole a b c =
    same_parts ((a.places ++ b.places) ++ c.places) (a.places ++ (b.places ++ c.places)) ((a.text ++ b.text) ++ c.text) (a.text ++ (b.text ++ c.text))
    ((a.met ++ b.met) ++ c.met) (a.met ++ (b.met ++ c.met)) c.end c.end
    (append_assoc a.places b.places c.places) (append_assoc a.text b.text c.text) (append_assoc a.met b.met c.met) refl
behind_second (stopped stop) a b c = refl

-- behind the first, of which the end is a variable
behind_first : (first : TraversalEnd) (a b c : Traversal) → a.end ≡ first → and_then (after_end first a b) c ≡ after_end first a (and_then b c)
behind_first whole a b c e = behind_second b.end a b c
behind_first (stopped stop) a b c e = ap (λ (end : TraversalEnd). after_end end a c) e

pub associative : (a b c : Traversal) → and_then (and_then a b) c ≡ and_then a (and_then b c)
associative a b c = behind_first a.end a b c refl

-- ---- along a path

pub begins_at_root : (q : QueryParts) (d : Dag) → traversal q d ≡ from_node q 0 top 1 q.path d
begins_at_root q d = refl

-- what is left from a walk with a section before it
pub behind_section : (q : QueryParts) (depth : ℕ) (section : Section) (walk : PathWalk)
    → from_walk q depth (behind section walk) ≡ and_then (giving_place (record { section = section; depth = depth }) []) (from_walk q (depth + 1) walk)
behind_section q depth section walk =
    let same : suc (length walk.sections) + depth ≡ length walk.sections + (depth + 1) = omega arith in
    ap (λ (n : ℕ).
    let below : Traversal = from_end walk.end q.scope q.span n in
    let all : Traversal = record { places = walk_places depth (section ∷ walk.sections) ++ below.places; text = below.text; met = below.met; end = below.end } in all) same

-- a node that may stand there, or not
fits : (q : QueryParts) (depth : ℕ) (section : Section) (spot : Spot) (fault : Option BlockFault) (walk : PathWalk) → fault ≡ None
    → from_walk q depth (unless_misfit section spot fault walk) ≡ and_then (giving_place (record { section = section; depth = depth }) []) (from_walk q (depth + 1) walk)
fits q depth section spot None walk e = behind_section q depth section walk
fits q depth section spot (Some fault) walk e = absurd (cc)

misfits : (q : QueryParts) (depth : ℕ) (section : Section) (spot : Spot) (given : Option BlockFault) (fault : BlockFault) (walk : PathWalk) → given ≡ Some fault
    → from_walk q depth (unless_misfit section spot given walk) ≡ ended (bad_block spot fault)
misfits q depth section spot None fault walk e = absurd (cc)
misfits q depth section spot (Some given) fault walk e = let same : given ≡ fault = cc in ap (λ (fault : BlockFault). ended (bad_block spot fault)) same

-- what is left from a step on
from_step : (q : QueryParts) (depth i : ℕ) (entry inner : ℕ → PathWalk) (step : StepTo)
    → from_walk q depth (walk_step i entry inner step) ≡ after_step i (λ k. from_walk q depth (entry k)) (λ k. from_walk q depth (inner k)) step
from_step q depth i entry inner (to_entry k) = refl
from_step q depth i entry inner (to_child k) = refl
from_step q depth i entry inner absent = refl
from_step q depth i entry inner not_folder_here = refl

pub steps_on : (q : QueryParts) (i : ℕ) (position : Position) (depth : ℕ) (name : List ℕ) (path : List (List ℕ)) (section : Section) (kind : Kind) (children : Children)
    → position_fault position kind ≡ None
    → from_node q i position depth (name ∷ path) (node section kind children) ≡ and_then (giving_place (record { section = section; depth = depth }) [])
    (after_step i
    (λ k. from_child q k (i + 1) top (depth + 1) path children)
    (λ k. from_child q k i (child_below position (slot_of name (length (passed position)))) (depth + 1) (name ∷ path) children)
    (step_of kind (length (passed position)) name))
steps_on q i position depth name path section kind children e =
    let below : Position = child_below position (slot_of name (length (passed position))) in
    let entry : ℕ → PathWalk = λ k. walk_child k (i + 1) top (depth + 1) path children in
    let inner : ℕ → PathWalk = λ k. walk_child k i below (depth + 1) (name ∷ path) children in
    let step : StepTo = step_of kind (length (passed position)) name in
    fits q depth section (spot_at section.cid depth position) (position_fault position kind) (walk_step i entry inner step) e
    ∙ ap (λ (t : Traversal). and_then (giving_place (record { section = section; depth = depth }) []) t) (from_step q (depth + 1) i entry inner step)

pub stops_on_path : (q : QueryParts) (i : ℕ) (position : Position) (depth : ℕ) (name : List ℕ) (path : List (List ℕ)) (section : Section) (kind : Kind) (children : Children) (fault : BlockFault)
    → position_fault position kind ≡ Some fault
    → from_node q i position depth (name ∷ path) (node section kind children) ≡ ended (bad_block (spot_at section.cid depth position) fault)
stops_on_path q i position depth name path section kind children fault e =
    misfits q depth section (spot_at section.cid depth position) (position_fault position kind) fault _ e

pub ends_at_terminal : (q : QueryParts) (i : ℕ) (position : Position) (depth : ℕ) (section : Section) (kind : Kind) (children : Children)
    → from_node q i position depth [] (node section kind children) ≡ at_terminal q.scope q.span depth (node section kind children)
ends_at_terminal q i position depth section kind children =
    ap (λ (n : ℕ). at_terminal q.scope q.span n (node section kind children)) (zero-add depth)

-- ---- below the terminal

-- a node that may stand there, or not
goes : (spot : Spot) (fault : Option BlockFault) (t : Traversal) → fault ≡ None → unless_bad spot fault t ≡ t
goes spot None t e = refl
goes spot (Some fault) t e = absurd (cc)

stops : (spot : Spot) (given : Option BlockFault) (fault : BlockFault) (t : Traversal) → given ≡ Some fault → unless_bad spot given t ≡ ended (bad_block spot fault)
stops spot None fault t e = absurd (cc)
stops spot (Some given) fault t e = let same : given ≡ fault = cc in ap (λ (fault : BlockFault). ended (bad_block spot fault)) same

pub goes_below : (reach : Reach) (position : Position) (depth : ℕ) (section : Section) (kind : Kind) (children : Children) → position_fault position kind ≡ None
    → traverse reach position depth (node section kind children)
    ≡ and_then (giving_place (record { section = section; depth = depth }) (text_before reach position section kind))
    (and_then (traverse_children (visits reach position kind) (depth + 1) children) (giving_text (text_behind reach kind)))
goes_below reach position depth section kind children e = goes (spot_at section.cid depth position) (position_fault position kind) _ e

pub stops_below : (reach : Reach) (position : Position) (depth : ℕ) (section : Section) (kind : Kind) (children : Children) (fault : BlockFault) → position_fault position kind ≡ Some fault
    → traverse reach position depth (node section kind children) ≡ ended (bad_block (spot_at section.cid depth position) fault)
stops_below reach position depth section kind children fault e = stops (spot_at section.cid depth position) (position_fault position kind) fault _ e
