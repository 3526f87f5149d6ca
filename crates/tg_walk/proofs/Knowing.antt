-- What is known below the blocks that a walk goes through.
use Rattle.std.proofs.Common.{All, Bool, List, None, Ok, Option, Some, [], ap, arith, false, inl, inr, length, refl, subst, suc, sym, true, zero, ℕ, ◌+◌, ◌-◌, ◌++◌, ◌∙◌, ◌∷◌, ◌≡◌, ◌≤◌}
use Rattle.std.proofs.lemmas.List.{map-append}
use Rattle.std.proofs.lemmas.List.Elements.{All-contains, All-weaker}
use Rattle.std.proofs.lemmas.Option.{same_Some}
use Rattle.tg_cid.specs.Cid.{CidParts}
use Rattle.tg_model.specs.Computed.{read}
use Rattle.tg_model.specs.Dag.{Section, links_of}
use Rattle.tg_model.specs.Queries.{QueryParts}
use Rattle.tg_model.specs.StoreView.{block_at}
use Rattle.tg_model.specs.Stores.{Store}
use Rattle.tg_model.specs.Traversal.{ListedEntry, Reach, bundled, entire, is_sent_behind, listed, ranged, sent}
use Rattle.tg_model.specs.declared.kinds.Kind.{Kind}
use Rattle.tg_model_laws.specs.SentSections.{sent_step, taken_if}
use Rattle.tg_model_laws.specs.Stages.{Given, place_of, up_to_next, with_place}
use Rattle.tg_model_laws.specs.StoreWalks.{IsWalked, WalkLaws, section_of}
use Rattle.tg_model_laws.specs.TakenBlocks.{opened_by}
use Rattle.tg_model_laws.specs.Tasks.{Task, Want, depth_of, entries_now, fault_at, give_entries, give_text, node_want, open_block, segment_want, stop_at, tasks_of, tasks_then, terminal_want, text_at}
use Rattle.tg_model.specs.Sound.{child, part, top}
use Rattle.tg_traversal.specs.Places.{role_at}
use Rattle.tg_traversal.specs.declared.position.Role.{Role}
use Rattle.tg_traversal.specs.declared.position.Role.TheVariants as roles
use Rattle.tg_walk.proofs.Entryless.{IsDirectoryReach, anywhere, entryless_here, entryless_more}
use Rattle.tg_walk.proofs.TaskShapes.{all_then, all_within, each_alone, each_map, each_there, first_own, fits_alone, no_own, one_deeper, then_again, then_none, within_both}
use Rattle.tg_walk.specs.Known.{AreAllAt, AreOpen, EachAt, HasMetNone, HoldsIn, IsChild, IsDeepened, IsEntryless, IsKeptOf, IsKnownAs, IsKnownIn, IsMet, IsMoreGiven, IsNextWithin, IsOpenAt, IsWhole, IsWholeHere, KnownState, KnowsBelow, LieAbove, entry_want, part_want, role_above, role_with_entry, want_alone}
use Rattle.tg_walk.specs.declared.known.Opened.{Opened}
use Rattle.tg_walk.specs.declared.known.Walked.{Walked}

-- ---- what is whole stays so

pub whole_more : (q : QueryParts) (store : Store) (sections more : List Section) → IsMoreGiven q sections more → (levels most : ℕ) (w : Want) (cid : CidParts) → levels ≤ most
    → IsWhole q store sections levels w cid → IsWhole q store more most w cid
whole_more q store sections more g zero most w cid h whole = absurd whole
whole_more q store sections more g (suc levels) zero w cid h whole = absurd (omega (arith, h))
whole_more q store sections more g (suc levels) (suc most) w cid h whole = record {
  block = whole.block;
  kind = whole.kind;
  stored = whole.stored;
  reads = whole.reads;
  fits = whole.fits;
  given = g cid whole.given;
  below = each_map (λ w cid. IsWhole q store sections levels (want_alone w) cid) (λ w cid. IsWhole q store more most (want_alone w) cid)
      (λ w cid. whole_more q store sections more g levels most (want_alone w) cid (omega (arith, h)))
      (tasks_of q w (section_of cid whole.block) whole.kind (links_of whole.kind)) whole.below;
}

pub none_more : (q : QueryParts) (sections : List Section) → IsMoreGiven q sections sections
none_more q sections cid h = h

pub known_more : (q : QueryParts) (store : Store) (sections more : List Section) (cid : CidParts) (known : Option Walked) → IsMoreGiven q sections more → IsKnownAs q store sections cid known
    → IsKnownAs q store more cid known
known_more q store sections more cid None g h = tt
known_more q store sections more cid (Some walked) g h = known_in_more walked.role h
  where
    known_in_more : (role : Role) → IsKnownIn q store sections role (suc walked.levels) cid → IsKnownIn q store more role (suc walked.levels) cid
    known_in_more roles.Entry h = whole_more q store sections more g (suc walked.levels) (suc walked.levels) entry_want cid (omega arith) h
    known_in_more roles.Part h = whole_more q store sections more g (suc walked.levels) (suc walked.levels) part_want cid (omega arith) h
    known_in_more (roles.Child slots) h = entryless_more q store sections more g (suc walked.levels) (suc walked.levels) cid (omega arith) h

-- ---- the blocks on the way

-- what is asked of a child of a shard behind so many slots
pub record IsChildWant (slots : ℕ) (w : Want) : Type 0 where
  pub reach : Reach
  pub above : List ℕ
  pub depth : ℕ
  pub is : w ≡ node_want reach (child above) depth
  pub directory : IsDirectoryReach reach
  pub few : length above ≡ slots

-- what is asked of a block in a role
abbrev pub HasRoleWant : Role → Want → Type 0
HasRoleWant roles.Entry w = want_alone w ≡ entry_want
HasRoleWant roles.Part w = want_alone w ≡ part_want
HasRoleWant (roles.Child slots) w = IsChildWant slots w

pub role_alone : (w : Want) (role : Role) → role_at w ≡ Some role → HasRoleWant role w
role_alone (segment_want i position name path depth) role e = cc
role_alone (terminal_want depth) role e = cc
role_alone (node_want (bundled path) top depth) role e = subst (λ (r : Role). HasRoleWant r (node_want (bundled path) top depth)) (same_Some roles.Entry role e) refl
role_alone (node_want (bundled path) (part size) depth) role e = cc
role_alone (node_want (bundled path) (child above) depth) role e =
    subst (λ (r : Role). HasRoleWant r (node_want (bundled path) (child above) depth)) (same_Some (roles.Child (length above)) role e) (record { reach = bundled path; above = above; depth = depth; is = refl; directory = tt; few = refl })
role_alone (node_want entire top depth) role e = cc
role_alone (node_want entire (part size) depth) role e = subst (λ (r : Role). HasRoleWant r (node_want entire (part size) depth)) (same_Some roles.Part role e) refl
role_alone (node_want entire (child above) depth) role e = cc
role_alone (node_want (ranged low high) position depth) role e = cc
role_alone (node_want listed top depth) role e = cc
role_alone (node_want listed (part size) depth) role e = cc
role_alone (node_want listed (child above) depth) role e =
    subst (λ (r : Role). HasRoleWant r (node_want listed (child above) depth)) (same_Some (roles.Child (length above)) role e) (record { reach = listed; above = above; depth = depth; is = refl; directory = tt; few = refl })

-- an entry is bundled
entry_alone : (w : Want) → role_at w ≡ Some roles.Entry → (path : List ℕ) × (depth : ℕ) × (w ≡ node_want (bundled path) top depth)
entry_alone (segment_want i position name path depth) e = cc
entry_alone (terminal_want depth) e = cc
entry_alone (node_want (bundled path) top depth) e = (path, depth, refl)
entry_alone (node_want (bundled path) (part size) depth) e = cc
entry_alone (node_want (bundled path) (child above) depth) e = cc
entry_alone (node_want entire top depth) e = cc
entry_alone (node_want entire (part size) depth) e = cc
entry_alone (node_want entire (child above) depth) e = cc
entry_alone (node_want (ranged low high) position depth) e = cc
entry_alone (node_want listed top depth) e = cc
entry_alone (node_want listed (part size) depth) e = cc
entry_alone (node_want listed (child above) depth) e = cc

-- all of a block is known that is known in a role which holds there
pub whole_in : (q : QueryParts) (store : Store) (sections : List Section) (known_in role : Role) (levels : ℕ) (w : Want) (cid : CidParts) → role_at w ≡ Some role → HoldsIn known_in levels role
    → IsKnownIn q store sections known_in (suc levels) cid → IsWhole q store sections (suc levels) (want_alone w) cid
whole_in q store sections roles.Entry roles.Entry levels w cid r holds known = subst (λ (v : Want). IsWhole q store sections (suc levels) v cid) (sym (role_alone w roles.Entry r)) known
whole_in q store sections roles.Entry roles.Part levels w cid r holds known = absurd holds
whole_in q store sections roles.Entry (roles.Child slots) levels w cid r holds known = absurd holds
whole_in q store sections roles.Part roles.Entry levels w cid r holds known = absurd holds
whole_in q store sections roles.Part roles.Part levels w cid r holds known = subst (λ (v : Want). IsWhole q store sections (suc levels) v cid) (sym (role_alone w roles.Part r)) known
whole_in q store sections roles.Part (roles.Child slots) levels w cid r holds known = absurd holds
whole_in q store sections (roles.Child above) roles.Entry levels w cid r holds known =
    let entry = entry_alone w r in
    subst (λ (v : Want). IsWhole q store sections (suc levels) (want_alone v) cid) (sym entry.2) (anywhere q store sections (suc levels) (bundled entry.0) top entry.1 cid tt tt (omega (arith, holds)) known)
whole_in q store sections (roles.Child above) roles.Part levels w cid r holds known = absurd holds
whole_in q store sections (roles.Child above) (roles.Child slots) levels w cid r holds known =
    let here = role_alone w (roles.Child slots) r in
    let few = here.few in
    subst (λ (v : Want). IsWhole q store sections (suc levels) (want_alone v) cid) (sym here.is) (anywhere q store sections (suc levels) here.reach (child here.above) here.depth cid here.directory tt (omega (arith, holds, few)) known)

-- and it is one without an entry, where a child of a shard is wanted
pub entryless_in : (q : QueryParts) (store : Store) (sections : List Section) (known_in role : Role) (levels : ℕ) (cid : CidParts) → HoldsIn known_in levels role → IsKnownIn q store sections known_in (suc levels) cid
    → IsChild (Some role) → IsEntryless q store sections (suc levels) cid
entryless_in q store sections known_in roles.Entry levels cid holds known c = absurd c
entryless_in q store sections known_in roles.Part levels cid holds known c = absurd c
entryless_in q store sections roles.Entry (roles.Child slots) levels cid holds known c = absurd holds
entryless_in q store sections roles.Part (roles.Child slots) levels cid holds known c = absurd holds
entryless_in q store sections (roles.Child above) (roles.Child slots) levels cid holds known c = known

-- a child of a shard above another block: that is a child of a shard too
pub child_above : (below role : Option Role) → IsChild (role_above below role) → IsChild below × IsChild role
child_above None None c = absurd c
child_above None (Some roles.Entry) c = absurd c
child_above None (Some roles.Part) c = absurd c
child_above None (Some (roles.Child slots)) c = absurd c
child_above (Some roles.Entry) None c = absurd c
child_above (Some roles.Entry) (Some roles.Entry) c = absurd c
child_above (Some roles.Entry) (Some roles.Part) c = absurd c
child_above (Some roles.Entry) (Some (roles.Child slots)) c = absurd c
child_above (Some roles.Part) None c = absurd c
child_above (Some roles.Part) (Some roles.Entry) c = absurd c
child_above (Some roles.Part) (Some roles.Part) c = absurd c
child_above (Some roles.Part) (Some (roles.Child slots)) c = absurd c
child_above (Some (roles.Child above)) role c = (tt, c)

-- its role stays, or it has none
with_entry : (role : Option Role) (some : Role) → role_with_entry role ≡ Some some → role ≡ Some some
with_entry None some e = e
with_entry (Some roles.Entry) some e = e
with_entry (Some roles.Part) some e = e
with_entry (Some (roles.Child slots)) some e = cc

role_kept : (below role : Option Role) (some : Role) → role_above below role ≡ Some some → role ≡ Some some
role_kept None role some e = with_entry role some e
role_kept (Some roles.Entry) role some e = with_entry role some e
role_kept (Some roles.Part) role some e = with_entry role some e
role_kept (Some (roles.Child slots)) role some e = e

met_none : (tasks : List (Task CidParts)) (now all : List ListedEntry) → now ≡ all → HasMetNone tasks now all
met_none [] now all e = tt
met_none (task ∷ tasks) now all e = e

met_as : (tasks : List (Task CidParts)) (now other all : List ListedEntry) → other ≡ now → HasMetNone tasks now all → HasMetNone tasks other all
met_as [] now other all e h = tt
met_as (task ∷ tasks) now other all e h = e ∙ h

-- the innermost block is a child of a shard
abbrev pub IsChildFirst : List Opened → Type 0
IsChildFirst [] = ⊥
IsChildFirst (node ∷ nodes) = IsChild node.role

module _ (q : QueryParts) (store : Store) where
  pub open_more : (sections more : List Section) → IsMoreGiven q sections more → (nodes : List Opened) (tasks : List (Task CidParts)) → AreOpen q store sections nodes tasks
      → AreOpen q store more nodes tasks
  open_more sections more g [] tasks h = h
  open_more sections more g (node ∷ nodes) tasks (here, above, outer) = (
    record {
      want = here.want;
      own = here.own;
      rest = here.rest;
      left = here.left;
      depth = here.depth;
      role = here.role;
      deepest = here.deepest;
      below = here.below;
      behind = here.behind;
      whole = λ most f. here.whole most (λ cid e. f cid (g cid e));
      unmet = here.unmet;
      entryless = λ c most f. here.entryless c most (λ cid e. f cid (g cid e));
    },
    above,
    open_more sections more g nodes (open_block here.want node.cid ∷ here.rest) outer,
  )

  -- texts before the next place don't matter, nor do entries but for a child of a shard
  pub open_then : (sections : List Section) (nodes : List Opened) (tasks other : List (Task CidParts)) → tasks_then other ≡ tasks_then tasks → (IsChildFirst nodes → entries_now other ≡ entries_now tasks)
      → AreOpen q store sections nodes tasks → AreOpen q store sections nodes other
  open_then sections [] tasks other e same h = subst (AreAllAt 1) (sym e) h
  open_then sections (node ∷ nodes) tasks other e same (here, above, outer) = (
    record {
      want = here.want;
      own = here.own;
      rest = here.rest;
      left = e ∙ here.left;
      depth = here.depth;
      role = here.role;
      deepest = here.deepest;
      below = here.below;
      behind = here.behind;
      whole = here.whole;
      unmet = λ c.
          subst (λ (l : List (Task CidParts)). HasMetNone l (entries_now other) (entries_now (here.own ++ here.rest))) (sym e)
          (met_as (tasks_then tasks) (entries_now tasks) (entries_now other) (entries_now (here.own ++ here.rest)) (same c) (here.unmet c));
      entryless = here.entryless;
    },
    above,
    outer,
  )

  -- at the end nothing before it matters
  pub open_end : (sections : List Section) (nodes : List Opened) (tasks : List (Task CidParts)) → tasks_then tasks ≡ [] → AreOpen q store sections nodes tasks → AreOpen q store sections nodes []
  open_end sections [] tasks e h = tt
  open_end sections (node ∷ nodes) tasks e (here, above, outer) = (
    record {
      want = here.want;
      own = here.own;
      rest = here.rest;
      left = sym e ∙ here.left;
      depth = here.depth;
      role = here.role;
      deepest = here.deepest;
      below = here.below;
      behind = here.behind;
      whole = here.whole;
      unmet = λ c. tt;
      entryless = here.entryless;
    },
    above,
    outer,
  )

  -- an entry was met, or none was
  pub open_met : (met : Bool) (sections : List Section) (nodes new : List Opened) (tasks : List (Task CidParts)) → IsMet met nodes new → (met ≡ false → entries_now tasks ≡ []) → AreOpen q store sections nodes tasks
      → AreOpen q store sections new (tasks_then tasks)
  open_met false sections nodes new tasks m none h =
      subst (λ (nodes : List Opened). AreOpen q store sections nodes (tasks_then tasks)) (sym m) (open_then sections nodes tasks (tasks_then tasks) (then_again tasks) (λ c. then_none tasks ∙ sym (none refl)) h)
  open_met true sections [] new tasks m none h =
      subst (λ (nodes : List Opened). AreOpen q store sections nodes (tasks_then tasks)) (sym m) (open_then sections [] tasks (tasks_then tasks) (then_again tasks) (λ c. absurd c) h)
  open_met true sections (node ∷ nodes) new tasks (deepest, d, e, is) none (here, above, outer) =
      subst (λ (nodes : List Opened). AreOpen q store sections nodes (tasks_then tasks)) (sym is) (
        record {
          want = here.want;
          own = here.own;
          rest = here.rest;
          left = then_again tasks ∙ here.left;
          depth = here.depth;
          role = λ role r. here.role role (role_kept None node.role role r);
          deepest = let deep = here.deepest in omega (arith, deep, d);
          below = here.below;
          behind = here.behind;
          whole = λ more g levels bound. here.whole more g levels (omega (arith, d, bound));
          unmet = λ c. absurd ((child_above None node.role c).0);
          entryless = λ c. absurd ((child_above None node.role c).0);
        },
        above,
        outer,
      )

  -- a place below the innermost block was gone through wholly
  pub went_through : (sections : List Section) (nodes new : List Opened) (w : Want) (cid : CidParts) (rest : List (Task CidParts)) (levels : ℕ) (role : Option Role)
      → IsDeepened (depth_of w + levels) role nodes new → LieAbove nodes (depth_of w) → IsWhole q store sections (suc levels) (want_alone w) cid → (IsChild role → IsEntryless q store sections (suc levels) cid)
      → AreOpen q store sections nodes (open_block w cid ∷ rest) → AreOpen q store sections new rest
  went_through sections [] new w cid rest levels role deepened above whole entryless h =
      subst (λ (nodes : List Opened). AreOpen q store sections nodes rest) (sym deepened) (all_then 1 rest h.1)
  went_through sections (node ∷ nodes) new w cid rest levels role (deepest, d, e, is) above whole entryless (here, over, outer) =
      let there = first_own node.depth w cid rest here.own here.rest here.below here.behind above (sym here.left) in
      subst (λ (nodes : List Opened). AreOpen q store sections nodes rest) (sym is) (
        record {
          want = here.want;
          own = there.left;
          rest = here.rest;
          left = ap tasks_then there.is;
          depth = here.depth;
          role = λ some r. here.role some (role_kept role node.role some r);
          deepest = let deep = here.deepest in omega (arith, deep, d);
          below = there.below;
          behind = here.behind;
          whole = λ more g most bound each.
              let depth = there.depth in
              here.whole more g most (omega (arith, d, bound))
              (there.gives (λ w cid. IsWhole q store more most (want_alone w) cid) (whole_more q store sections more g (suc levels) most (want_alone w) cid (omega (arith, depth, e, bound)) whole) each);
          unmet = λ c. met_none (tasks_then rest) (entries_now rest) (entries_now (there.left ++ here.rest)) (ap entries_now there.is);
          entryless = λ c more g most bound each.
              let depth = there.depth in
              let both = child_above role node.role c in
              here.entryless both.1 more g most (omega (arith, d, bound))
              (there.child (IsEntryless q store more most) (sym (here.unmet both.1)) (entryless_more q store sections more g (suc levels) most cid (omega (arith, depth, e, bound)) (entryless both.0)) each);
        },
        over,
        outer,
      )

  -- the innermost block was, where the next place isn't below it
  pub left_whole : (sections : List Section) (node : Opened) (tasks : List (Task CidParts)) (w : Want) (cid : CidParts) (later : List (Task CidParts)) → (here : IsOpenAt q store sections node tasks)
      → tasks ≡ open_block w cid ∷ later → depth_of w ≤ node.depth → IsWhole q store sections (suc (node.deepest - node.depth)) (want_alone here.want) node.cid
  left_whole sections node tasks w cid later here e d =
      let none = no_own node.depth w cid later here.own here.rest here.below d (sym here.left ∙ ap tasks_then e) in
      let deep = here.deepest in
      here.whole sections (none_more q sections) (node.deepest - node.depth) (omega (arith, deep)) (none.each _)

  -- and it is one without an entry
  left_entryless : (sections : List Section) (node : Opened) (w : Want) (cid : CidParts) (later : List (Task CidParts)) → (here : IsOpenAt q store sections node (open_block w cid ∷ later))
      → depth_of w ≤ node.depth → IsChild node.role → IsEntryless q store sections (suc (node.deepest - node.depth)) node.cid
  left_entryless sections node w cid later here d c =
      let none = no_own node.depth w cid later here.own here.rest here.below d (sym here.left) in
      let deep = here.deepest in
      here.entryless c sections (none_more q sections) (node.deepest - node.depth) (omega (arith, deep)) (none.child _ (sym (here.unmet c)))

  none_deepened : (depth : ℕ) (role : Option Role) (nodes new : List Opened) → IsDeepened depth role nodes new → IsChildFirst new → IsChild role
  none_deepened depth role [] new is c = absurd (subst IsChildFirst is c)
  none_deepened depth role (node ∷ nodes) new (deepest, d, e, is) c = (child_above role node.role (subst IsChildFirst is c)).0

  pub left_open : (sections : List Section) (node : Opened) (nodes new : List Opened) (w : Want) (cid : CidParts) (later : List (Task CidParts)) → IsDeepened node.deepest node.role nodes new → depth_of w ≤ node.depth
      → AreOpen q store sections (node ∷ nodes) (open_block w cid ∷ later) → AreOpen q store sections new (open_block w cid ∷ later)
  left_open sections node nodes new w cid later deepened d (here, above, outer) =
      let none = no_own node.depth w cid later here.own here.rest here.below d (sym here.left) in
      let deep = here.deepest in
      let same = here.depth in
      let sum : node.deepest ≡ depth_of here.want + (node.deepest - node.depth) = omega (arith, deep, same) in
      open_then sections new here.rest (open_block w cid ∷ later) (sym none.is)
      (λ c. sym (none.unmet (sym (here.unmet (none_deepened node.deepest node.role nodes new deepened c)))))
      (went_through sections nodes new here.want node.cid here.rest (node.deepest - node.depth) node.role (subst (λ (n : ℕ). IsDeepened n node.role nodes new) sum deepened)
      (subst (LieAbove nodes) (sym same) above) (left_whole sections node (open_block w cid ∷ later) w cid later here refl d)
      (left_entryless sections node w cid later here d) outer)

  behind_first : (sections : List Section) (nodes : List Opened) (w : Want) (cid : CidParts) (later : List (Task CidParts)) → LieAbove nodes (depth_of w)
      → AreOpen q store sections nodes (open_block w cid ∷ later) → IsNextWithin (depth_of w) later
  behind_first sections [] w cid later above (e, h) = subst (λ (n : ℕ). IsNextWithin n later) (sym e) (all_within 1 later h)
  behind_first sections (node ∷ nodes) w cid later above (here, over, outer) =
      let there = first_own node.depth w cid later here.own here.rest here.below here.behind above (sym here.left) in
      subst (λ (n : ℕ). IsNextWithin n later) (sym there.depth) (subst (IsNextWithin (node.depth + 1)) (sym there.is) (within_both node.depth there.left here.rest there.below here.behind))

  -- a block is opened at the next place
  pub opened_below : (sections : List Section) (nodes : List Opened) (node : Opened) (w : Want) (cid : CidParts) (later tasks : List (Task CidParts)) (block : List ℕ) (kind : Kind)
      → node ≡ record { cid = cid; depth = depth_of w; deepest = depth_of w; role = role_at w } → block_at store cid ≡ Some block → read cid block ≡ Ok kind → fault_at q w kind ≡ None
      → tasks ≡ tasks_of q w (section_of cid block) kind (links_of kind) ++ later → is_sent_behind q sections cid ≡ false → LieAbove nodes (depth_of w)
      → AreOpen q store sections nodes (open_block w cid ∷ later) → AreOpen q store sections (node ∷ nodes) tasks
  opened_below sections nodes node w cid later tasks block kind is stored reads fits t given above h =
      subst (λ (n : Opened). AreOpen q store sections (n ∷ nodes) tasks) (sym is) (
        record {
          want = w;
          own = tasks_of q w (section_of cid block) kind (links_of kind);
          rest = later;
          left = ap tasks_then t;
          depth = refl;
          role = λ role r. r;
          deepest = omega arith;
          below = one_deeper q w (section_of cid block) kind (links_of kind);
          behind = behind_first sections nodes w cid later above h;
          whole = λ more g levels bound each. record {
            block = block;
            kind = kind;
            stored = stored;
            reads = reads;
            fits = fits_alone q w kind ∙ fits;
            given = g cid given;
            below = each_alone (λ w cid. IsWhole q store more levels w cid) q w (section_of cid block) kind (links_of kind) each;
          };
          unmet = λ c. met_none (tasks_then tasks) (entries_now tasks) _ (ap entries_now t);
          entryless = λ c more g levels bound each. entryless_here q store more levels cid block w kind c stored reads fits (g cid given) each;
        },
        above,
        h,
      )

  -- it is kept as such
  left_kept : (sections : List Section) (node : Opened) (entries : List (CidParts × Option Walked)) (w : Want) (cid : CidParts) (later : List (Task CidParts)) → (here : IsOpenAt q store sections node (open_block w cid ∷ later))
      → depth_of w ≤ node.depth → All (λ e. IsKnownAs q store sections e.0 e.1) entries → (e : CidParts × Option Walked) → IsKeptOf entries node e → IsKnownAs q store sections e.0 e.1
  left_kept sections node entries w cid later here d all e (inl there) = All-contains (λ e. IsKnownAs q store sections e.0 e.1) entries e all there
  left_kept sections node entries w cid later here d all e (inr (role, is, same)) =
      subst (λ (e : CidParts × Option Walked). IsKnownAs q store sections e.0 e.1) (sym same)
      (known_now role is)
    where
      known_now : (role : Role) → node.role ≡ Some role → IsKnownIn q store sections role (suc (node.deepest - node.depth)) node.cid
      known_now roles.Entry is =
          subst (λ (v : Want). IsWhole q store sections (suc (node.deepest - node.depth)) v node.cid) (role_alone here.want roles.Entry (here.role roles.Entry is))
          (left_whole sections node (open_block w cid ∷ later) w cid later here refl d)
      known_now roles.Part is =
          subst (λ (v : Want). IsWhole q store sections (suc (node.deepest - node.depth)) v node.cid) (role_alone here.want roles.Part (here.role roles.Part is))
          (left_whole sections node (open_block w cid ∷ later) w cid later here refl d)
      known_now (roles.Child slots) is = left_entryless sections node w cid later here d (subst IsChild (sym is) tt)

  pub left_one : (sections : List Section) (old taken deep new : KnownState) (node : Opened) (w : Want) (cid : CidParts) (later : List (Task CidParts)) → taken.entries ≡ old.entries → old.nodes ≡ node ∷ taken.nodes
      → depth_of w ≤ node.depth → deep.entries ≡ taken.entries → IsDeepened node.deepest node.role taken.nodes deep.nodes → new.nodes ≡ deep.nodes → All (IsKeptOf deep.entries node) new.entries
      → KnowsBelow q store sections old (open_block w cid ∷ later) → KnowsBelow q store sections new (open_block w cid ∷ later)
  left_one sections old taken deep new node w cid later te tn d de dn nn ke knows =
      let way : AreOpen q store sections (node ∷ taken.nodes) (open_block w cid ∷ later) = subst (λ (nodes : List Opened). AreOpen q store sections nodes (open_block w cid ∷ later)) tn knows.way in
      let blocks : All (λ e. IsKnownAs q store sections e.0 e.1) deep.entries = subst (All (λ e. IsKnownAs q store sections e.0 e.1)) (sym (de ∙ te)) knows.blocks in
      record {
        blocks = All-weaker (IsKeptOf deep.entries node) (λ e. IsKnownAs q store sections e.0 e.1) (left_kept sections node deep.entries w cid later way.0 d blocks) new.entries ke;
        way = subst (λ (nodes : List Opened). AreOpen q store sections nodes (open_block w cid ∷ later)) (sym nn) (left_open sections node taken.nodes deep.nodes w cid later dn d way);
      }

pub deep_length : (depth : ℕ) (role : Option Role) (nodes new : List Opened) → IsDeepened depth role nodes new → length new ≡ length nodes
deep_length depth role [] new e = ap length e
deep_length depth role (node ∷ nodes) new (deepest, d, h, e) = ap length e

-- ---- a place of which all is known is passed over

-- a walk has given these sections, with these tasks left
pub record HasGivenTo (q : QueryParts) (store : Store) (most : ℕ) (sections : List Section) (tasks : List (Task CidParts)) : Type 0 where
  pub given : Given
  pub gave : sent q (opened_by given) ≡ sections
  pub walked : IsWalked q store most given tasks

module _ (laws : WalkLaws) (q : QueryParts) (store : Store) (most : ℕ) (small : most ≤ 1100) (sections : List Section) where
  abbrev pub Gone : List (Task CidParts) → Type 0
  Gone tasks = HasGivenTo q store most sections (tasks_then tasks)

  pub gone_to : (tasks : List (Task CidParts)) → HasGivenTo q store most sections tasks → Gone tasks
  gone_to tasks h = record { given = up_to_next tasks h.given; gave = h.gave; walked = laws.up_to_next q store most h.given tasks h.walked }

  abbrev Passes : ℕ → Type 0
  Passes levels = (w : Want) (cid : CidParts) (later : List (Task CidParts)) → depth_of w + levels ≤ most + 1 → IsWhole q store sections levels (want_alone w) cid → Gone (open_block w cid ∷ later)
      → Gone later

  pass_all : (levels depth : ℕ) → Passes levels → depth + levels ≤ most + 1 → (tasks later : List (Task CidParts)) → AreAllAt depth tasks
      → EachAt (λ w cid. IsWhole q store sections levels (want_alone w) cid) tasks → Gone (tasks ++ later) → Gone later
  pass_all levels depth one bound [] later h each g = g
  pass_all levels depth one bound (open_block w cid ∷ tasks) later h each g =
      let same = h.0 in
      pass_all levels depth one bound tasks later h.1 each.1 (one w cid (tasks ++ later) (omega (arith, same, bound)) each.0 g)
  pass_all levels depth one bound (give_text text ∷ tasks) later h each g = pass_all levels depth one bound tasks later h each g
  pass_all levels depth one bound (give_entries met ∷ tasks) later h each g = pass_all levels depth one bound tasks later h each g
  pass_all levels depth one bound (stop_at miss ∷ tasks) later h each g = absurd each

  more_text : (w : Want) (cid : CidParts) (block text : List ℕ) (given : Given) → sent q (opened_by given) ≡ sections → is_sent_behind q sections cid ≡ false
      → sent q (opened_by (with_place w (section_of cid block) text given)) ≡ sections
  more_text w cid block text given gave known =
      ap (sent q) (map-append (λ p. p.section) given.places (place_of w (section_of cid block) ∷ []))
      ∙ sent_step q (opened_by given) (section_of cid block)
      ∙ ap (λ (l : List Section). taken_if (is_sent_behind q l cid) l (section_of cid block)) gave
      ∙ ap (λ (b : Bool). taken_if b sections (section_of cid block)) known

  opens_one : (levels : ℕ) → Passes levels → (w : Want) (cid : CidParts) (later : List (Task CidParts)) → depth_of w + suc levels ≤ most + 1
      → IsWholeHere q store sections (λ w cid. IsWhole q store sections levels (want_alone w) cid) (want_alone w) cid → Gone (open_block w cid ∷ later) → Gone later
  opens_one levels one w cid later bound whole g =
      let fits : fault_at q w whole.kind ≡ None = sym (fits_alone q w whole.kind) ∙ whole.fits in
      let text = text_at q w (section_of cid whole.block) whole.kind in
      let own = tasks_of q w (section_of cid whole.block) whole.kind (links_of whole.kind) in
      let opened : HasGivenTo q store most sections (own ++ later) = record {
        given = with_place w (section_of cid whole.block) text g.given;
        gave = more_text w cid whole.block text g.given g.gave whole.given;
        walked = laws.opened q store most g.given w cid whole.block whole.kind later small (omega (arith, bound)) whole.stored whole.reads fits g.walked;
      } in
      pass_all levels (depth_of w + 1) one (omega (arith, bound)) own later (one_deeper q w (section_of cid whole.block) whole.kind (links_of whole.kind))
      (each_there (λ w cid. IsWhole q store sections levels w cid) q w (section_of cid whole.block) whole.kind (links_of whole.kind) whole.below)
      (gone_to (own ++ later) opened)

  pub pass_one : (levels : ℕ) → Passes levels
  pass_one zero w cid later bound whole g = absurd whole
  pass_one (suc levels) w cid later bound whole g = opens_one levels (pass_one levels) w cid later bound whole g
