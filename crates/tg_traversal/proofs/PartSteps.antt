-- A step over the parts of a file: the first of those that are left is taken, and the others stay.
use Rattle.tg_traversal.specs.declared.position.Ask.TheVariants as asks
use Rattle.tg_traversal.specs.declared.position.Position.TheVariants as positions
use Rattle.std.proofs.Common.{◌≡◌, ap, arith, drop, false, length, List, None, Option, Some, refl, subst, sum, sym, true, map, Bool, if◌then◌else◌, ℕ, zero, suc, [], ◌∷◌, ◌++◌, ◌+◌, ◌-◌, ◌<◌, ◌≤◌, ◌^◌, ◌∙◌}
use Rattle.std.proofs.lemmas.List.Sums.{sum-map, sum_by-cons}
use Rattle.std.specs.Prelude.{sum_by}
use Rattle.tg_cid.specs.Cid.{CidParts}
use Rattle.tg_traversal.specs.Frames.{ArePartsLeft, block_parts, into_tasks, last_parts, part_tasks, visits_from}
use Rattle.tg_traversal.specs.Places.{IsReachOfPart, part_reach}
use Rattle.tg_traversal.specs.declared.frame.PartsLeft.{PartsLeft}
use Rattle.tg_traversal.specs.declared.position.Place.{Place}
use Rattle.tg_traversal.specs.declared.position.Reach.{Reach}
use Rattle.tg_model.specs.Placed.{ArePartsAhead}
use Rattle.tg_model.specs.Sound.{part}
use Rattle.tg_model.specs.Traversal.{Visit, is_met, passed_over, ranged}
use Rattle.tg_model.specs.Traversal.{Reach as Reaching}
use Rattle.tg_model.specs.declared.kinds.Part.{Part}
use Rattle.tg_model.specs.declared.placed.PartCursor.{PartCursor}
use Rattle.tg_model_laws.specs.Tasks.{Task, children_tasks, node_want, open_block}

-- ---- the last elements of a list

-- the list goes on where something is left of it
inside : (k : ℕ) (xs : List Part) (x : Part) (rest : List Part) → drop k xs ≡ x ∷ rest → k < length xs
inside zero [] x rest e = absurd (cc)
inside zero (y ∷ ys) x rest e = omega arith
inside (suc k) [] x rest e = absurd (cc)
inside (suc k) (y ∷ ys) x rest e = let w : k < length ys = inside k ys x rest e in omega arith

one_further : (k : ℕ) (xs : List Part) (x : Part) (rest : List Part) → drop k xs ≡ x ∷ rest → drop (suc k) xs ≡ rest
one_further zero [] x rest e = absurd (cc)
one_further zero (y ∷ ys) x rest e = ap (drop 1) e
one_further (suc k) [] x rest e = absurd (cc)
one_further (suc k) (y ∷ ys) x rest e = one_further k ys x rest e

-- ---- the first part of those that are left

-- it is this one, and others are ahead of the cursor behind it
pub record IsPartNext (p : PartsLeft) (first : Part) (cursor : PartCursor) : Type 0 where
  pub more : List Part
  pub parts_are : last_parts p.block p.count ≡ first ∷ more
  pub ahead : ArePartsAhead p.block cursor more

-- what is left behind it
abbrev pub behind : PartsLeft → Part → PartCursor → PartsLeft
behind p first cursor = record { block = p.block; cursor = cursor; count = p.count - 1; from = p.from + first.size; range = p.range }

abbrev pub place_of_part : ℕ → Part → Option Reach → Option Place
place_of_part depth first None = None
place_of_part depth first (Some reach) = Some (record { cid = first.cid; depth = depth; ask = asks.Node reach (positions.Part first.size) })

pub next_of : (p : PartsLeft) (block : List ℕ) (first : Part) (cursor : PartCursor) → ArePartsLeft p → block ≡ p.block
    → ((parts : List Part) → ArePartsAhead block p.cursor parts → (more : List Part) × (parts ≡ first ∷ more) × ArePartsAhead block cursor more)
    → IsPartNext p first cursor
next_of p block first cursor left e h =
    let parts : List Part = last_parts p.block p.count in
    let found : (more : List Part) × (parts ≡ first ∷ more) × ArePartsAhead block cursor more = h parts (subst (λ (block : List ℕ). ArePartsAhead block p.cursor parts) (sym e) left.ahead) in
    record {
      more = found.0;
      parts_are = found.1;
      ahead = subst (λ (block : List ℕ). ArePartsAhead block cursor found.0) e found.2;
    }

pub one_left : (p : PartsLeft) (first : Part) (cursor : PartCursor) → ArePartsLeft p → IsPartNext p first cursor → 1 ≤ p.count
one_left p first cursor left next =
    let few : p.count ≤ length (block_parts p.block) = left.few in
    let within : length (block_parts p.block) - p.count < length (block_parts p.block) = inside (length (block_parts p.block) - p.count) (block_parts p.block) first next.more next.parts_are in
    omega arith

last_behind : (xs : List Part) (count : ℕ) (first : Part) (more : List Part) → count ≤ length xs → drop (length xs - count) xs ≡ first ∷ more → drop (length xs - (count - 1)) xs ≡ more
last_behind xs count first more few e =
    let within : length xs - count < length xs = inside (length xs - count) xs first more e in
    let further : length xs - (count - 1) ≡ suc (length xs - count) = omega arith in
    ap (λ (k : ℕ). drop k xs) further ∙ one_further (length xs - count) xs first more e

sized : (p : PartsLeft) (first : Part) (more : List Part) → ArePartsLeft p → last_parts p.block p.count ≡ first ∷ more
    → p.from + (first.size + sum (map (λ (q : Part). q.size) more)) < 2 ^ 64
sized p first more left e =
    let size : Part → ℕ = λ (q : Part). q.size in
    let parts : List Part = last_parts p.block p.count in
    let total : p.from + sum (map size parts) < 2 ^ 64 = left.sized in
    omega (arith, total, sum-map size parts, ap (sum_by size) e, sum_by-cons size first more, sum-map size more)

pub fits : (p : PartsLeft) (first : Part) (cursor : PartCursor) → ArePartsLeft p → IsPartNext p first cursor → p.from + first.size < 2 ^ 64
fits p first cursor left next =
    let total : p.from + (first.size + sum (map (λ (q : Part). q.size) next.more)) < 2 ^ 64 = sized p first next.more left next.parts_are in
    omega arith

pub left_behind : (p : PartsLeft) (first : Part) (cursor : PartCursor) → ArePartsLeft p → IsPartNext p first cursor → ArePartsLeft (behind p first cursor)
left_behind p first cursor left next =
    let others : last_parts p.block (p.count - 1) ≡ next.more = last_behind (block_parts p.block) p.count first next.more left.few next.parts_are in
    record {
      few = let few : p.count ≤ length (block_parts p.block) = left.few in omega arith;
      ahead = subst (λ (parts : List Part). ArePartsAhead p.block cursor parts) (sym others) next.ahead;
      sized =
          let total : p.from + (first.size + sum (map (λ (q : Part). q.size) next.more)) < 2 ^ 64 = sized p first next.more left next.parts_are in
          subst (λ (parts : List Part). p.from + first.size + sum (map (λ (q : Part). q.size) parts) < 2 ^ 64) (sym others) (omega arith);
    }

-- ---- its task

abbrev tasks_from : Option (ℕ × ℕ) → ℕ → ℕ → List Part → List (Task CidParts)
tasks_from range depth from parts = children_tasks (visits_from range from parts) depth (map (λ (q : Part). q.cid) parts)

at_met : (met : Bool) (depth : ℕ) (first : Part) (asked : Reaching) (reach : Option Reach) (todo : List Visit) (cids : List CidParts)
    → IsReachOfPart reach (if met then Some asked else None)
    → children_tasks ((if met then record { met = []; into = Some (asked, part first.size) } else passed_over) ∷ todo) depth (first.cid ∷ cids)
    ≡ into_tasks (place_of_part depth first reach) ++ children_tasks todo depth cids
at_met true depth first asked None todo cids h = absurd h
at_met true depth first asked (Some reach) todo cids h =
    ap (λ (r : Reaching). open_block (node_want r (part first.size) depth) first.cid ∷ children_tasks todo depth cids) (sym h)
at_met false depth first asked None todo cids h = refl
at_met false depth first asked (Some reach) todo cids h = absurd h

at_first : (range : Option (ℕ × ℕ)) (depth from : ℕ) (first : Part) (more : List Part) (reach : Option Reach) → IsReachOfPart reach (part_reach range from first.size)
    → tasks_from range depth from (first ∷ more) ≡ into_tasks (place_of_part depth first reach) ++ tasks_from range depth (from + first.size) more
at_first None depth from first more None h = absurd h
at_first None depth from first more (Some reach) h =
    ap (λ (r : Reaching). open_block (node_want r (part first.size) depth) first.cid ∷ tasks_from None depth from more) (sym h)
at_first (Some range) depth from first more reach h =
    at_met (is_met range.0 range.1 from first.size) depth first (ranged (range.0 - from) (range.1 - from)) reach (visits_from (Some range) (from + first.size) more) (map (λ (q : Part). q.cid) more) h

pub next_tasks : (depth : ℕ) (p : PartsLeft) (first : Part) (cursor : PartCursor) (reach : Option Reach) → ArePartsLeft p → IsPartNext p first cursor
    → IsReachOfPart reach (part_reach p.range p.from first.size)
    → part_tasks depth p ≡ into_tasks (place_of_part depth first reach) ++ part_tasks depth (behind p first cursor)
next_tasks depth p first cursor reach left next h =
    let others : last_parts p.block (p.count - 1) ≡ next.more = last_behind (block_parts p.block) p.count first next.more left.few next.parts_are in
    ap (tasks_from p.range depth p.from) next.parts_are ∙ at_first p.range depth p.from first next.more reach h
    ∙ ap (λ (parts : List Part). into_tasks (place_of_part depth first reach) ++ tasks_from p.range depth (p.from + first.size) parts) (sym others)

pub no_tasks : (depth : ℕ) (p : PartsLeft) → last_parts p.block p.count ≡ [] → part_tasks depth p ≡ []
no_tasks depth p e = ap (tasks_from p.range depth p.from) e
