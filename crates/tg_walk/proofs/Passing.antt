-- From place to place, where all is known of some.
use Rattle.std.proofs.Common.{All, Bool, Err, List, None, Ok, Option, Some, [], ap, arith, false, inl, inr, map, refl, subst, suc, sym, ℕ, ◌+◌, ◌++◌, ◌∙◌, ◌∷◌, ◌≡◌}
use Rattle.std.proofs.lemmas.List.Elements.{All-contains}
use Rattle.std.specs.Map.{keys_of}
use Rattle.tg_cid.specs.Cid.{CidParts}
use Rattle.tg_model.specs.Dag.{Section}
use Rattle.tg_model.specs.PathWalk.{whole}
use Rattle.tg_model.specs.Queries.{QueryParts}
use Rattle.tg_model.specs.Stores.{Store}
use Rattle.tg_model_laws.specs.SentSections.{once}
use Rattle.tg_model_laws.specs.StoreWalks.{IsWalked, WalkLaws}
use Rattle.tg_model_laws.specs.TakenBlocks.{opened_by}
use Rattle.tg_model_laws.specs.Tasks.{Task, Want, depth_of, entries_now, open_block, stop_at, tasks_then}
use Rattle.tg_traversal.specs.BlocksLeft.{blocks_over, then_keeps}
use Rattle.tg_traversal.specs.Left.{LeftState, WantedAt, tasks_left, wanted_tasks}
use Rattle.tg_traversal.specs.Places.{missing_of, role_at}
use Rattle.tg_traversal.specs.declared.position.Role.{Role}
use Rattle.tg_traversal.specs.declared.position.Wanted.{Wanted}
use Rattle.tg_walk.proofs.Giving.{if_once}
use Rattle.tg_walk.proofs.Knowing.{HasGivenTo, entryless_in, gone_to, open_end, open_met, pass_one, went_through, whole_in}
use Rattle.tg_walk.proofs.TaskShapes.{then_again}
use Rattle.tg_walk.proofs.Walking.{HasWalked, front_of, is_done, is_missing}
use Rattle.tg_walk.specs.Known.{AreOpen, HasLevels, IsChild, IsDeepened, IsKnownAs, IsKnownIn, IsMet, IsWhole, KnownState, Knows, KnowsBelow, LieAbove, want_alone}
use Rattle.tg_walk.specs.Walks.{HasEnded, HasLevelsAt, HasWalkCause, IsFront, IsNextPlace, IsOnWalk, IsOwnFault, fault_of_miss, max_depth}
use Rattle.tg_walk.specs.declared.fault.WalkFault.{WalkFault}
use Rattle.tg_walk.specs.declared.known.Walked.{Walked}

-- a walk that gives each block once, up to the texts and entries before the next place
pub record IsNear (left : LeftState) (known : KnownState) (store : Store) (sections : List Section) : Type 0 where
  pub walked : HasGivenTo left.query store max_depth sections (tasks_then (tasks_left left))
  pub keys : keys_of known.entries ≡ map (λ (s : Section). s.cid) sections
  pub knows : Knows left.query store sections known (tasks_left left)

pub near_on : (laws : WalkLaws) (left : LeftState) (known : KnownState) (store : Store) (sections : List Section) → left.query.dups ≡ false → IsOnWalk max_depth left known store sections
    → IsNear left known store sections
near_on laws left known store sections d on =
    let knows = once left.query.dups _ d on.knows in
    record {
      walked = gone_to laws left.query store max_depth (omega arith) sections (tasks_left left) (record { given = on.given; gave = on.gave; walked = on.walked });
      keys = knows.0;
      knows = knows.1;
    }

pub on_at : (left : LeftState) (known : KnownState) (store : Store) (sections : List Section) (tasks : List (Task CidParts)) → left.query.dups ≡ false → tasks_left left ≡ tasks → tasks_then tasks ≡ tasks
    → IsNear left known store sections → IsOnWalk max_depth left known store sections
on_at left known store sections tasks d t e near = record {
  given = near.walked.given;
  gave = near.walked.gave;
  knows = if_once left.query.dups _ (near.keys, near.knows);
  walked = subst (IsWalked left.query store max_depth near.walked.given) (ap tasks_then t ∙ e ∙ sym t) near.walked.walked;
}

wanted_left : (left : LeftState) (at : WantedAt) → left.wanted ≡ Some at → tasks_left left ≡ open_block at.want at.cid ∷ left.later
wanted_left left at w = ap (λ (wanted : Option WantedAt). wanted_tasks wanted ++ left.later) w

pub on_wanted : (left : LeftState) (known : KnownState) (store : Store) (sections : List Section) (at : WantedAt) → left.query.dups ≡ false → left.wanted ≡ Some at → IsNear left known store sections
    → IsOnWalk max_depth left known store sections
on_wanted left known store sections at d w near = on_at left known store sections (open_block at.want at.cid ∷ left.later) d (wanted_left left at w) refl near

-- ---- to the next place

pub near_then : (old new : LeftState) (known now : KnownState) (met : Bool) (store : Store) (sections : List Section) → new.query ≡ old.query → tasks_left new ≡ tasks_then (tasks_left old)
    → (met ≡ false → entries_now (tasks_left old) ≡ []) → now.entries ≡ known.entries → IsMet met known.nodes now.nodes → IsNear old known store sections → IsNear new now store sections
near_then old new known now met store sections e t none n m near =
    let same : tasks_then (tasks_left new) ≡ tasks_then (tasks_left old) = ap tasks_then t ∙ then_again (tasks_left old) in
    record {
      walked = subst (λ (q : QueryParts). HasGivenTo q store max_depth sections (tasks_then (tasks_left new))) (sym e)
          (subst (HasGivenTo old.query store max_depth sections) (sym same) near.walked);
      keys = ap keys_of n ∙ near.keys;
      knows = subst (λ (q : QueryParts). Knows q store sections now (tasks_left new)) (sym e) (λ b. record {
        blocks = subst (All (λ e. IsKnownAs old.query store sections e.0 e.1)) (sym n) (near.knows b).blocks;
        way = subst (AreOpen old.query store sections now.nodes) (sym t) (open_met old.query store met sections known.nodes now.nodes (tasks_left old) m none (near.knows b).way);
      });
    }

walked_near : (q : QueryParts) (store : Store) (sections : List Section) (tasks : List (Task CidParts)) → (h : HasGivenTo q store max_depth sections tasks) → HasWalked q max_depth store (opened_by h.given) tasks
walked_near q store sections tasks h = record { given = h.given; gave = refl; walked = h.walked }

pub near_front : (laws : WalkLaws) (q : QueryParts) (left : LeftState) (known : KnownState) (store : Store) (sections : List Section) → q ≡ left.query → IsNear left known store sections → IsFront q store sections
near_front laws q left known store sections e near =
    subst (λ (p : QueryParts). IsFront p store sections) (sym e)
    (subst (IsFront left.query store) near.walked.gave (front_of laws left.query max_depth store (opened_by near.walked.given) (tasks_then (tasks_left left)) (walked_near left.query store sections _ near.walked)))

pub near_stops : (laws : WalkLaws) (old new : LeftState) (known : KnownState) (store : Store) (sections : List Section) (fault : WalkFault) → new.query ≡ old.query → IsNear old known store sections
    → IsNextPlace old (Err fault) new → HasWalkCause new.query store max_depth sections fault
near_stops laws old new known store sections fault e near (inl memory) =
    subst (HasWalkCause new.query store max_depth sections) (sym memory) (near_front laws new.query old known store sections e near)
near_stops laws old new known store sections fault e near (inr (miss, more, f, t)) =
    let walked : HasGivenTo old.query store max_depth sections (stop_at (missing_of miss) ∷ more) = subst (HasGivenTo old.query store max_depth sections) t near.walked in
    subst (λ (q : QueryParts). HasWalkCause q store max_depth sections fault) (sym e) (subst (HasWalkCause old.query store max_depth sections) (sym f)
    (subst (λ (l : List Section). HasWalkCause old.query store max_depth l (fault_of_miss miss)) walked.gave
    (is_missing laws old.query max_depth store (opened_by walked.given) miss more (walked_near old.query store sections (stop_at (missing_of miss) ∷ more) walked))))

pub near_done : (laws : WalkLaws) (old new : LeftState) (known : KnownState) (store : Store) (sections : List Section) → new.query ≡ old.query → old.query.dups ≡ false → IsNear old known store sections
    → IsNextPlace old (Ok None) new → IsOnWalk max_depth new known store sections × HasEnded new.query store max_depth sections whole
near_done laws old new known store sections e d near (t, n) =
    let walked : HasGivenTo new.query store max_depth sections [] =
    subst (λ (q : QueryParts). HasGivenTo q store max_depth sections []) (sym e) (subst (HasGivenTo old.query store max_depth sections) t near.walked) in
    let there : IsNear new known store sections = record {
      walked = subst (λ (tasks : List (Task CidParts)). HasGivenTo new.query store max_depth sections (tasks_then tasks)) (sym n) walked;
      keys = near.keys;
      knows = subst (λ (q : QueryParts). Knows q store sections known (tasks_left new)) (sym e) (λ b. record {
        blocks = (near.knows b).blocks;
        way = subst (AreOpen old.query store sections known.nodes) (sym n) (open_end old.query store sections known.nodes (tasks_left old) t (near.knows b).way);
      });
    } in (
      on_at new known store sections [] (ap (λ (q : QueryParts). q.dups) e ∙ d) n refl there,
      subst (λ (l : List Section). HasEnded new.query store max_depth l whole) walked.gave
          (is_done laws new.query max_depth store (opened_by walked.given) (walked_near new.query store sections [] walked)),
    )

pub own_fault : (old new : LeftState) (fault : WalkFault) → IsNextPlace old (Err fault) new → IsOwnFault fault
own_fault old new fault (inl memory) = inl memory
own_fault old new fault (inr (miss, more, is, t)) = inr (miss, is)

-- a place that is wanted is there
pub not_done : {A : Type 0} → (old new : LeftState) (at : WantedAt) → old.wanted ≡ Some at → IsNextPlace old (Ok None) new → A
not_done old new at w (t, n) = let none : open_block at.want at.cid ∷ old.later ≡ [] = ap tasks_then (sym (wanted_left old at w)) ∙ t in cc

-- ---- what is known there

pub near_left : (left : LeftState) (old new : KnownState) (store : Store) (sections : List Section) (at : WantedAt) (depth : ℕ) → left.wanted ≡ Some at → depth_of at.want ≡ depth
    → keys_of new.entries ≡ keys_of old.entries
    → ((q : QueryParts) (store : Store) (sections : List Section) (w : Want) (cid : CidParts) (later : List (Task CidParts)) → depth_of w ≡ depth → KnowsBelow q store sections old (open_block w cid ∷ later)
    → KnowsBelow q store sections new (open_block w cid ∷ later))
    → IsNear left old store sections → IsNear left new store sections
near_left left old new store sections at depth w d k f near = record {
  walked = near.walked;
  keys = k ∙ near.keys;
  knows = λ b.
      subst (KnowsBelow left.query store sections new) (sym (wanted_left left at w))
      (f left.query store sections at.want at.cid left.later d (subst (KnowsBelow left.query store sections old) (wanted_left left at w) (near.knows b)));
}

is_known : (q : QueryParts) (store : Store) (sections : List Section) (entries : List (CidParts × Option Walked)) (cid : CidParts) (role : Role) (levels : ℕ) → (has : HasLevels entries cid role levels)
    → All (λ e. IsKnownAs q store sections e.0 e.1) entries → IsKnownIn q store sections has.known_in (suc levels) cid
is_known q store sections entries cid role levels has all =
    All-contains (λ e. IsKnownAs q store sections e.0 e.1) entries (cid, Some (record { role = has.known_in; levels = levels })) all has.there

-- all of a place is known, and it is passed over
pub near_pass : (laws : WalkLaws) (old new : LeftState) (known now : KnownState) (store : Store) (sections : List Section) (at : WantedAt) (wanted : Wanted) (role : Option Role) (levels : ℕ)
    → old.wanted ≡ Some at → wanted ≡ record { cid = at.cid; depth = depth_of at.want } → role ≡ role_at at.want → HasLevelsAt old.query known wanted role levels → LieAbove known.nodes wanted.depth
    → now.entries ≡ known.entries → IsDeepened (wanted.depth + levels) role known.nodes now.nodes → new.query ≡ old.query → new.wanted ≡ None → new.later ≡ old.later
    → IsNear old known store sections → IsNear new now store sections
near_pass laws old new known now store sections at wanted role levels w is r has above n deepened e none later near =
    let q = old.query in
    let knows = near.knows has.not_block in
    let depth : wanted.depth ≡ depth_of at.want = ap (λ (x : Wanted). x.depth) is in
    let cid : wanted.cid ≡ at.cid = ap (λ (x : Wanted). x.cid) is in
    let there : HasLevels known.entries at.cid has.in_role levels = subst (λ (c : CidParts). HasLevels known.entries c has.in_role levels) cid has.has in
    let known_here : IsKnownIn q store sections there.known_in (suc levels) at.cid = is_known q store sections known.entries at.cid has.in_role levels there knows.blocks in
    let whole : IsWhole q store sections (suc levels) (want_alone at.want) at.cid =
    whole_in q store sections there.known_in has.in_role levels at.want at.cid (sym r ∙ has.role_is) there.holds known_here in
    let shallow = has.shallow in
    let tasks : tasks_left new ≡ old.later = ap (λ (x : Option WantedAt). wanted_tasks x ++ new.later) none ∙ later in
    let gone = pass_one laws q store max_depth (omega arith) sections (suc levels) at.want at.cid old.later (omega (arith, depth, shallow)) whole
    (subst (λ (t : List (Task CidParts)). HasGivenTo q store max_depth sections (tasks_then t)) (wanted_left old at w) near.walked) in
    record {
      walked = subst (λ (p : QueryParts). HasGivenTo p store max_depth sections (tasks_then (tasks_left new))) (sym e)
          (subst (λ (t : List (Task CidParts)). HasGivenTo q store max_depth sections (tasks_then t)) (sym tasks) gone);
      keys = ap keys_of n ∙ near.keys;
      knows = subst (λ (p : QueryParts). Knows p store sections now (tasks_left new)) (sym e) (λ b. record {
        blocks = subst (All (λ e. IsKnownAs q store sections e.0 e.1)) (sym n) knows.blocks;
        way = subst (AreOpen q store sections now.nodes) (sym tasks) (went_through q store sections known.nodes now.nodes at.want at.cid old.later levels role
            (subst (λ (d : ℕ). IsDeepened (d + levels) role known.nodes now.nodes) depth deepened) (subst (LieAbove known.nodes) depth above) whole
            (λ c. entryless_in q store sections there.known_in has.in_role levels at.cid there.holds known_here (subst IsChild has.role_is c))
            (subst (AreOpen q store sections known.nodes) (wanted_left old at w) knows.way));
      });
    }

-- ---- how many blocks are left at most

pub as_many : (most : ℕ) (old new : LeftState) (wanted : Wanted) → IsNextPlace old (Ok (Some wanted)) new → blocks_over most (tasks_left new) ≡ blocks_over most (tasks_left old)
as_many most old new wanted (at, w, told, t) = ap (blocks_over most) t ∙ then_keeps most (tasks_left old)
