-- What is counted on the blocks of a query's path is counted of the query, but for the bytes of the answer.
use Rattle.std.proofs.Common.{◌≡◌, ◌<◌, ◌≤◌, ◌⊎◌, ◌+◌, ◌++◌, ◌∷◌, ℕ, List, [], None, Option, Some, length, refl, ap, sym, subst, inl, inr, arith}
use Rattle.tg_client.specs.declared.fault.ClientFault.TheVariants as clients
use Rattle.tg_fetch.specs.Bodies.{SaysOf}
use Rattle.tg_fetch.specs.Faults.{absence_fault}
use Rattle.tg_model.specs.Answer.{answer}
use Rattle.tg_model.specs.Counts.{counts, counts_of}
use Rattle.tg_model.specs.Dag.{Dag, Section, bare, node, unopened}
use Rattle.tg_model.specs.LimitNumbers.{AreWithin, LimitNumbers, standard}
use Rattle.tg_model.specs.PathWalk.{PathEnd, Stop, TraversalEnd, not_reached, path_walk, spot_at, stopped, terminal, whole}
use Rattle.tg_model.specs.Queries.{QueryParts, SpanParts}
use Rattle.tg_model.specs.Sound.{IsSound, position_fault, top}
use Rattle.tg_model.specs.Traversal.{ListedEntry, Place, Reach, Traversal, all_reach, and_then, at_terminal, block_alone, entity_reach, from_end, giving_place}
use Rattle.tg_model.specs.Traversal.{giving_text, kind_reach, text_before, text_behind, traversal, traverse, traverse_children, unless_bad, visits, walk_places}
use Rattle.tg_model.specs.declared.fault.BlockFault.{BlockFault}
use Rattle.tg_model.specs.declared.limits.LimitKind.TheVariants as kinds
use Rattle.tg_model.specs.declared.queries.Form.{Form}
use Rattle.tg_model.specs.declared.queries.Form.TheVariants as forms
use Rattle.tg_model.specs.declared.queries.Scope.{Scope}
use Rattle.tg_model.specs.declared.queries.Scope.TheVariants as scopes
use Rattle.tg_model_laws.specs.CountsWithin.{GivesFront, counts_within}
use Rattle.tg_model_laws.specs.ListFronts.{FrontOf, front_behind, front_empty, front_whole}
use Rattle.tg_verify.specs.Absences.{path_query}
use Rattle.tg_verify.specs.Sound.{SaysOfDag}
use Rattle.tg_verify.specs.declared.fault.Refusal.{Refusal}
use Rattle.tg_verify.specs.declared.fault.Refusal.TheVariants as refusals

-- where the traversal of a sound DAG stops the path leads nowhere, and the query has no answer
abbrev pub OwnNowhere : Type 0
OwnNowhere = (q : QueryParts) (d : Dag) (stop : Stop) → IsSound d → (traversal q d).end ≡ stopped stop → ((path_walk q.path d).end ≡ not_reached stop) × (answer q d ≡ None)

-- for a CAR the same is counted, for the query and for its path alone
pub same_counts : (q : QueryParts) (t : Traversal) → q.form ≡ forms.Car → counts_of q t ≡ counts_of (path_query q) t
same_counts q t e = ap (λ (f : Form). counts_of (record q { form = f }) t) e

-- ---- the terminal's place

-- it comes first of what is asked of the terminal, where that comes through
place_first : (reach : Reach) (depth : ℕ) (t : Dag) → (traverse reach top depth t).end ≡ whole → FrontOf (block_alone depth t).places (traverse reach top depth t).places
place_first reach depth (unopened cid) e = absurd (cc e)
place_first reach depth (bare section None) e = absurd (cc e)
place_first reach depth (bare section (Some fault)) e = absurd (cc e)
place_first reach depth (node section kind children) e = by (position_fault top kind) e
  where
    here : Place
    here = record { section = section; depth = depth }

    below : Traversal
    below = and_then (traverse_children (visits reach top kind) (depth + 1) children) (giving_text (text_behind reach kind))

    by : (fault : Option BlockFault) → (unless_bad (spot_at section.cid depth top) fault (and_then (giving_place here (text_before reach top section kind)) below)).end ≡ whole
        → FrontOf (here ∷ []) (unless_bad (spot_at section.cid depth top) fault (and_then (giving_place here (text_before reach top section kind)) below)).places
    by None through = record { rest = below.places; is = refl }
    by (Some fault) through = absurd (cc through)

first_of : (scope : Scope) (span : Option SpanParts) (depth : ℕ) (t : Dag) → (at_terminal scope span depth t).end ≡ whole
    → FrontOf (block_alone depth t).places (at_terminal scope span depth t).places
first_of scopes.Block span depth t e = front_whole (block_alone depth t).places
first_of scopes.Entity span depth t e = place_first (kind_reach (entity_reach span) t) depth t e
first_of scopes.All span depth t e = place_first (kind_reach (λ section kind. all_reach kind) t) depth t e

-- ---- behind the path

-- a traversal comes through, or its path leads nowhere
abbrev IsThroughOr : TraversalEnd → PathEnd → Type 0
IsThroughOr end leads = (end ≡ whole) ⊎ ((stop : Stop) × (leads ≡ not_reached stop))

-- the places for the terminal's block are a front of those for what is asked of it
below_front : (scope : Scope) (span : Option SpanParts) (depth : ℕ) (end : PathEnd) → IsThroughOr (from_end end scope span depth).end end
    → FrontOf (from_end end scopes.Block None depth).places (from_end end scope span depth).places
below_front scope span depth (terminal t) (inl through) = first_of scope span depth t through
below_front scope span depth (terminal t) (inr (stop, leads)) = absurd (cc leads)
below_front scope span depth (not_reached stop) leads = front_empty []

-- and no entries are met for it
none_alone : (depth : ℕ) (t : Dag) → (block_alone depth t).met ≡ []
none_alone depth (unopened cid) = refl
none_alone depth (bare section fault) = refl
none_alone depth (node section kind children) = refl

none_met : (depth : ℕ) (end : PathEnd) → (from_end end scopes.Block None depth).met ≡ []
none_met depth (terminal t) = none_alone depth t
none_met depth (not_reached stop) = refl

-- ---- the whole traversal

-- without its text
abbrev unwritten : Traversal → Traversal
unwritten t = record { places = t.places; text = []; met = t.met; end = t.end }

is_through : OwnNowhere → (q : QueryParts) (d : Dag) → IsSound d → IsThroughOr (traversal q d).end (path_walk q.path d).end
is_through nowhere q d sound = by (traversal q d).end refl
  where
    by : (end : TraversalEnd) → (traversal q d).end ≡ end → IsThroughOr (traversal q d).end (path_walk q.path d).end
    by whole e = inl e
    by (stopped stop) e = inr (stop, (nowhere q d stop sound e).0)

path_front : OwnNowhere → (q : QueryParts) (d : Dag) → IsSound d → GivesFront (unwritten (traversal (path_query q) d)) (traversal q d)
path_front nowhere q d sound =
    let walk = path_walk q.path d in
    let depth = length walk.sections + 1 in
    let all : List ListedEntry = (traversal q d).met in
    record {
      places = front_behind (walk_places 1 walk.sections) _ _ (below_front q.scope q.span depth walk.end (is_through nowhere q d sound));
      text = front_empty (traversal q d).text;
      met = record { rest = all; is = ap (λ (met : List ListedEntry). met ++ all) (sym (none_met depth walk.end)) };
    }

-- no more is counted
pub path_counts : OwnNowhere → (q : QueryParts) (d : Dag) → IsSound d → q.form ≡ forms.Car → AreWithin (counts q d) (counts_of (path_query q) (unwritten (traversal (path_query q) d)))
path_counts nowhere q d sound car =
    let own = counts_within q (unwritten (traversal (path_query q) d)) (traversal q d) (path_front nowhere q d sound) in
    subst (AreWithin (counts q d)) (same_counts q (unwritten (traversal (path_query q) d)) car) own

-- ---- what a refusal of a block on the path says of a sound DAG, it says for the query

above : (number n most : ℕ) → number < n → n ≤ most → number < most
above number n most over within = omega (arith, over, within)

module _ (nowhere : OwnNowhere) (q : QueryParts) (d : Dag) (sound : IsSound d) (car : q.form ≡ forms.Car) (sections : List Section) where
  abbrev fewer : AreWithin (counts q d) (counts_of (path_query q) (unwritten (traversal (path_query q) d)))
  fewer = path_counts nowhere q d sound car

  -- what is counted on the path
  abbrev there : LimitNumbers
  there = counts (path_query q) d

  pub path_says : (fault : Refusal) → ((number : ℕ) → fault ≡ refusals.Limit kinds.Output number → number ≡ standard.output)
      → SaysOfDag (path_query q) d sections fault → SaysOf q d sections (absence_fault (clients.Refused fault))
  path_says (refusals.Extra number) most says = tt
  path_says (refusals.Limit kinds.Block number) most says = tt
  path_says (refusals.Limit kinds.Received number) most says = tt
  path_says (refusals.Limit kinds.Output number) most says = inr (most number refl, says)
  path_says (refusals.Limit kinds.Depth number) most (inl over) = inl (above number there.depth (counts q d).depth over fewer.depth)
  path_says (refusals.Limit kinds.Depth number) most (inr pair) = inr pair
  path_says (refusals.Limit kinds.Entries number) most (inl over) = inl (above number there.entries (counts q d).entries over fewer.entries)
  path_says (refusals.Limit kinds.Entries number) most (inr pair) = inr pair
  path_says (refusals.Limit kinds.Names number) most (inl over) = inl (above number there.names (counts q d).names over fewer.names)
  path_says (refusals.Limit kinds.Names number) most (inr pair) = inr pair
  path_says (refusals.Limit kinds.SeenBlocks number) most (inl over) = inl (above number there.seen_blocks (counts q d).seen_blocks over fewer.seen_blocks)
  path_says (refusals.Limit kinds.SeenBlocks number) most (inr pair) = inr pair
  path_says (refusals.Limit kinds.SeenBytes number) most (inl over) = inl (above number there.seen_bytes (counts q d).seen_bytes over fewer.seen_bytes)
  path_says (refusals.Limit kinds.SeenBytes number) most (inr pair) = inr pair
  path_says (refusals.Limit kinds.Reused number) most (inl over) = inl (above number there.reused (counts q d).reused over fewer.reused)
  path_says (refusals.Limit kinds.Reused number) most (inr pair) = inr pair
  path_says (refusals.BadDigest cid) most says = tt
  path_says (refusals.WrongBlock want got) most says = tt
  path_says (refusals.BadBlock cid fault) most says = says
  path_says (refusals.BadSize declared actual) most says = says
  path_says (refusals.NotFolder segment) most says = says
  path_says (refusals.NotThere segment) most says = says
  path_says refusals.SinkFault most says = tt
  path_says (refusals.Truncated want number) most says = tt
  path_says refusals.OutOfMemory most says = tt
