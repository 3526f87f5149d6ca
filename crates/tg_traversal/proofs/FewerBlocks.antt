-- How many blocks are left of a traversal at most.
use Rattle.std.proofs.Common.{List, None, Option, Some, [], ap, ap₂, arith, length, refl, subst, suc, sym, zero, ℕ, ◌*◌, ◌++◌, ◌+◌, ◌-◌, ◌<◌, ◌^◌, ◌∙◌, ◌∷◌, ◌≡◌, ◌≤◌}
use Rattle.std.proofs.Math.Nat.{mul-lt-mul_of_pos_right, suc-mul}
use Rattle.std.proofs.lemmas.List.{length-map}
use Rattle.std.proofs.lemmas.Option.{same_Some}
use Rattle.std.proofs.lemmas.Result.{on_ok_weaker}
use Rattle.std.specs.Prelude.{OnOk, Result}
use Rattle.tg_cid.specs.Cid.{CidParts}
use Rattle.tg_traversal.specs.Left.{IsReadHere, LeftState, WantedAt, tasks_left, wanted_tasks}
use Rattle.tg_model.specs.Dag.{Section, links_of}
use Rattle.tg_model.specs.PathWalk.{StepTo, absent, not_folder_here, step_of, to_child, to_entry}
use Rattle.tg_model.specs.Placed.{StandsForKind}
use Rattle.tg_model.specs.Queries.{QueryParts, SpanParts}
use Rattle.tg_model.specs.Sound.{Position, top}
use Rattle.tg_model.specs.Traversal.{ListedEntry, Reach, Visit, all_reach, entity_reach, text_behind, visits}
use Rattle.tg_model.specs.declared.kinds.Kind.{Kind}
use Rattle.tg_model.specs.declared.kinds.Kind.TheVariants.{Basic, File, Raw, Shard, Symlink}
use Rattle.tg_model.specs.declared.placed.PlacedKind.TheVariants as placed
use Rattle.tg_model.specs.declared.placed.PlacedKind.{PlacedKind}
use Rattle.tg_model.specs.declared.queries.Scope.TheVariants as scopes
use Rattle.tg_model.specs.declared.queries.Scope.{Scope}
use Rattle.tg_model_laws.specs.Tasks.{Task, Want, child_then, children_tasks, depth_at_top, depth_of, entries_then, give_entries, give_text, link_tasks, node_tasks, node_want, open_block, segment_want, step_tasks, stop_at, tasks_of, terminal_tasks, terminal_want, text_last}
use Rattle.tg_traversal.specs.BlocksLeft.{HasFewer, blocks_from, blocks_over}
use Rattle.tg_traversal.specs.Opening.{placed_links}

-- ---- the tasks that a block leaves

over-append : (most : ℕ) (xs ys : List (Task CidParts)) → blocks_over most (xs ++ ys) ≡ blocks_over most xs + blocks_over most ys
over-append most [] ys = omega arith
over-append most (open_block w cid ∷ xs) ys = let h = over-append most xs ys in omega arith
over-append most (give_text text ∷ xs) ys = over-append most xs ys
over-append most (give_entries met ∷ xs) ys = over-append most xs ys
over-append most (stop_at miss ∷ xs) ys = over-append most xs ys

over-entries : (most : ℕ) (met : List ListedEntry) (tasks : List (Task CidParts)) → blocks_over most (entries_then met tasks) ≡ blocks_over most tasks
over-entries most [] tasks = refl
over-entries most (m ∷ met) tasks = refl

over-text : (most : ℕ) (text : List ℕ) → blocks_over most (text_last text) ≡ 0
over-text most [] = refl
over-text most (b ∷ text) = refl

over-child : (most depth : ℕ) (into : Option (Reach × Position)) (cid : CidParts) (tasks : List (Task CidParts))
    → blocks_over most (child_then into depth cid tasks) ≤ blocks_from (most + 1 - depth) + blocks_over most tasks
over-child most depth None cid tasks = omega arith
over-child most depth (Some into) cid tasks = omega arith

-- at most one place for each link
over-children : (most depth : ℕ) (todo : List Visit) (cids : List CidParts) → blocks_over most (children_tasks todo depth cids) ≤ length cids * blocks_from (most + 1 - depth)
over-children most depth todo [] = omega arith
over-children most depth [] (cid ∷ cids) = omega arith
over-children most depth (visit ∷ todo) (cid ∷ cids) =
    let rest = over-children most depth todo cids in
    let entries = over-entries most visit.met (child_then visit.into depth cid (children_tasks todo depth cids)) in
    let child = over-child most depth visit.into cid (children_tasks todo depth cids) in
    let more = suc-mul (length cids) (blocks_from (most + 1 - depth)) in
    omega arith

over-node : (most depth : ℕ) (reach : Reach) (position : Position) (kind : Kind) (cids : List CidParts)
    → blocks_over most (node_tasks reach position depth kind cids) ≤ length cids * blocks_from (most + 1 - (depth + 1))
over-node most depth reach position kind cids =
    let both = over-append most (children_tasks (visits reach position kind) (depth + 1) cids) (text_last (text_behind reach kind)) in
    let text = over-text most (text_behind reach kind) in
    let children = over-children most (depth + 1) (visits reach position kind) cids in
    omega arith

over-link : (most k i depth : ℕ) (w : Want) (cids : List CidParts) → depth_of w ≡ depth → blocks_over most (link_tasks k i w cids) ≤ length cids * blocks_from (most + 1 - depth)
over-link most k i depth w [] e = omega arith
over-link most zero i depth w (cid ∷ cids) e =
    let more = suc-mul (length cids) (blocks_from (most + 1 - depth)) in
    let same = ap (λ (d : ℕ). blocks_from (most + 1 - d)) e in
    omega arith
over-link most (suc k) i depth w (cid ∷ cids) e =
    let rest = over-link most k i depth w cids e in
    let more = suc-mul (length cids) (blocks_from (most + 1 - depth)) in
    omega arith

over-step : (most i depth : ℕ) (entry inner : Want) (step : StepTo) (cids : List CidParts) → depth_of entry ≡ depth → depth_of inner ≡ depth
    → blocks_over most (step_tasks i entry inner step cids) ≤ length cids * blocks_from (most + 1 - depth)
over-step most i depth entry inner (to_entry k) cids e f = over-link most k (i + 1) depth entry cids e
over-step most i depth entry inner (to_child k) cids e f = over-link most k i depth inner cids f
over-step most i depth entry inner absent cids e f = omega arith
over-step most i depth entry inner not_folder_here cids e f = omega arith

over-terminal : (most depth : ℕ) (scope : Scope) (span : Option SpanParts) (section : Section) (kind : Kind) (cids : List CidParts)
    → blocks_over most (terminal_tasks scope span depth section kind cids) ≤ length cids * blocks_from (most + 1 - (depth + 1))
over-terminal most depth scopes.Block span section kind cids = omega arith
over-terminal most depth scopes.Entity span section kind cids = over-node most depth (entity_reach span section kind) top kind cids
over-terminal most depth scopes.All span section kind cids = over-node most depth (all_reach kind) top kind cids

over-tasks : (most : ℕ) (q : QueryParts) (w : Want) (section : Section) (kind : Kind) (cids : List CidParts)
    → blocks_over most (tasks_of q w section kind cids) ≤ length cids * blocks_from (most + 1 - (depth_of w + 1))
over-tasks most q (segment_want i position name path depth) section kind cids =
    over-step most i (depth + 1) _ _ (step_of kind _ name) cids (depth_at_top (i + 1) path (depth + 1)) refl
over-tasks most q (terminal_want depth) section kind cids = over-terminal most depth q.scope q.span section kind cids
over-tasks most q (node_want reach position depth) section kind cids = over-node most depth reach position kind cids

-- ---- a place that isn't too deep

from_positive : (levels : ℕ) → 0 < blocks_from levels
from_positive zero = omega arith
from_positive (suc levels) = let h = from_positive levels in omega arith

levels_below : (most depth : ℕ) → depth ≤ most → most + 1 - depth ≡ suc (most + 1 - (depth + 1))
levels_below most depth h = omega arith

-- with less than 2 ^ 64 links it has more blocks from it on than from its links on
from_links : (most depth links : ℕ) → depth ≤ most → links < 2 ^ 64 → links * blocks_from (most + 1 - (depth + 1)) < blocks_from (most + 1 - depth)
from_links most depth links h few =
    subst (λ (levels : ℕ). links * blocks_from (most + 1 - (depth + 1)) < blocks_from levels) (sym (levels_below most depth h))
    (mul-lt-mul_of_pos_right few (from_positive (most + 1 - (depth + 1))))

-- ---- how many links a block has

links_placed : (block : List ℕ) (found : PlacedKind) (kind : Kind) → StandsForKind block found kind → length (links_of kind) ≡ placed_links found
links_placed block placed.Raw Raw h = refl
links_placed block (placed.File places) (File inline filesize parts) h = length-map parts _ ∙ sym h.count_is
links_placed block (placed.Basic entries) (Basic found) h = length-map found _ ∙ ap length (sym h)
links_placed block (placed.Shard slots) (Shard found) h = length-map found _ ∙ ap length (sym h)
links_placed block (placed.Symlink target) (Symlink bytes) h = refl
links_placed block placed.Raw (File inline filesize parts) h = absurd h
links_placed block placed.Raw (Basic found) h = absurd h
links_placed block placed.Raw (Shard found) h = absurd h
links_placed block placed.Raw (Symlink bytes) h = absurd h
links_placed block (placed.File places) Raw h = absurd h
links_placed block (placed.File places) (Basic found) h = absurd h
links_placed block (placed.File places) (Shard found) h = absurd h
links_placed block (placed.File places) (Symlink bytes) h = absurd h
links_placed block (placed.Basic entries) Raw h = absurd h
links_placed block (placed.Basic entries) (File inline filesize parts) h = absurd h
links_placed block (placed.Basic entries) (Shard found) h = absurd h
links_placed block (placed.Basic entries) (Symlink bytes) h = absurd h
links_placed block (placed.Shard slots) Raw h = absurd h
links_placed block (placed.Shard slots) (File inline filesize parts) h = absurd h
links_placed block (placed.Shard slots) (Basic found) h = absurd h
links_placed block (placed.Shard slots) (Symlink bytes) h = absurd h
links_placed block (placed.Symlink target) Raw h = absurd h
links_placed block (placed.Symlink target) (File inline filesize parts) h = absurd h
links_placed block (placed.Symlink target) (Basic found) h = absurd h
links_placed block (placed.Symlink target) (Shard found) h = absurd h

-- ---- steps

wanted_over : (most : ℕ) (old : LeftState) (at : WantedAt) → old.wanted ≡ Some at
    → blocks_over most (tasks_left old) ≡ blocks_from (most + 1 - depth_of at.want) + blocks_over most old.later
wanted_over most old at e = ap (λ (w : Option WantedAt). blocks_over most (wanted_tasks w ++ old.later)) e

pub fewer_passed : (old new : LeftState) → new.wanted ≡ None → new.later ≡ old.later → HasFewer old new
fewer_passed old new gone same most at e deep =
    let whole = wanted_over most old at e in
    let rest = ap₂ (λ (w : Option WantedAt) (later : List (Task CidParts)). blocks_over most (wanted_tasks w ++ later)) gone same in
    let one = from_positive (most + 1 - depth_of at.want) in
    omega arith

fewer_opened : (old new : LeftState) (at : WantedAt) (section : Section) (kind : Kind) → old.wanted ≡ Some at → length (links_of kind) < 2 ^ 64
    → tasks_left new ≡ tasks_of old.query at.want section kind (links_of kind) ++ old.later → HasFewer old new
fewer_opened old new here section kind e few t most at w deep =
    let same : here ≡ at = same_Some here at (sym e ∙ w) in
    let d : depth_of here.want ≤ most = subst (λ (a : WantedAt). depth_of a.want ≤ most) (sym same) deep in
    let whole = wanted_over most old here e in
    let rest = ap (blocks_over most) t ∙ over-append most (tasks_of old.query here.want section kind (links_of kind)) old.later in
    let links = over-tasks most old.query here.want section kind (links_of kind) in
    let less = from_links most (depth_of here.want) (length (links_of kind)) d few in
    omega arith

-- a block that was read there, and opened
pub fewer_read : (old new : LeftState) (found : PlacedKind) (links : ℕ) → links ≡ placed_links found → links < 2 ^ 64
    → (at : WantedAt) (section : Section) (kind : Kind) → IsReadHere old at section kind found
    → tasks_left new ≡ tasks_of old.query at.want section kind (links_of kind) ++ old.later → HasFewer old new
fewer_read old new found links e few at section kind here =
    fewer_opened old new at section kind here.wanted (subst (λ (n : ℕ). n < 2 ^ 64) (e ∙ sym (links_placed section.block found kind here.stands)) few)

pub fewer_left : {A E : Type 0} (old new : LeftState) (found : PlacedKind) (result : Result A E) (links : ℕ) → links ≡ placed_links found → links < 2 ^ 64
    → (at : WantedAt) (section : Section) (kind : Kind) → IsReadHere old at section kind found
    → OnOk result (tasks_left new ≡ tasks_of old.query at.want section kind (links_of kind) ++ old.later) → OnOk result (HasFewer old new)
fewer_left old new found result links e few at section kind here = on_ok_weaker result (fewer_read old new found links e few at section kind here)
