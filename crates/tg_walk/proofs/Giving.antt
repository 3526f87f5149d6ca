-- Which blocks a walk gives of those that it opens.
use Rattle.std.proofs.Common.{All, Bool, arith, Err, List, None, Ok, OnOk, Option, Result, Some, [], ap, ap₂, false, inl, inr, length, map, not, refl, subst, sym, true, ℕ, ◌++◌, ◌∙◌, ◌∷◌, ◌≡◌, ◌≤◌, ◌&&◌, ◌||◌}
use Rattle.std.proofs.lemmas.List.{map-append}
use Rattle.std.proofs.lemmas.List.Elements.{All-append, All-cons, All-nil, All-weaker, Contains-push}
use Rattle.std.proofs.lemmas.List.Folds.{list_any-append}
use Rattle.std.specs.Map.{keys_of}
use Rattle.tg_cid.specs.Cid.{CidParts}
use Rattle.tg_cid.specs.CodeLaws.{same_cid}
use Rattle.tg_cid.specs.declared.cid.HashKind.TheVariants.{Identity, Sha256}
use Rattle.tg_model.specs.Dag.{Section, links_of}
use Rattle.tg_model.specs.Fits.{IfOnce, is_block}
use Rattle.tg_model.specs.PathWalk.{whole}
use Rattle.tg_model.specs.Queries.{QueryParts}
use Rattle.tg_model.specs.StoreView.{block_at}
use Rattle.tg_model.specs.Stores.{BlocksMeaning, IsCauseOf, LookedUp, Lookups, LookupsQuiet, Store, looked_in}
use Rattle.tg_model.specs.Traversal.{has_cid, is_asked, is_sent_behind, sent, unrepeated}
use Rattle.tg_model.specs.declared.stores.BlocksFault.{BlocksFault}
use Rattle.tg_model_laws.specs.SentSections.{is_under, once, sent_step, taken_if}
use Rattle.tg_traversal.specs.Left.{LeftState, WantedAt, tasks_left, wanted_tasks}
use Rattle.tg_traversal.specs.Places.{role_at}
use Rattle.tg_traversal.specs.declared.position.Miss.{Miss}
use Rattle.tg_traversal.specs.declared.position.Miss.TheVariants as misses
use Rattle.tg_model_laws.specs.TakenBlocks.{opened_by}
use Rattle.tg_model_laws.specs.StoreWalks.{WalkLaws, section_of}
use Rattle.tg_model_laws.specs.Tasks.{Task, Want, depth_at_top, depth_of, fault_at, is_read_at, node_want, open_block, segment_want, start, tasks_of, tasks_then, terminal_want}
use Rattle.tg_walk.proofs.Knowing.{known_more, open_more, opened_below}
use Rattle.tg_walk.proofs.Lookups.{looked_few, looked_hashed, looked_none}
use Rattle.tg_walk.proofs.Walking.{on_walk, starts}
use Rattle.tg_walk.specs.Known.{AreAllAt, AreOpen, IsKnownAs, IsMoreGiven, IsNoted, KnownState, Knows, KnowsBelow, LieAbove, is_known, with_block}
use Rattle.tg_walk.specs.Walks.{HasEnded, HasGone, HasKnown, HasLookedOnce, HasOpened, HasSought, HasStoreCause, HasWalkCause, IsAloneIn, IsFront, IsLastOf, IsOnWalk, IsOpened, HasOpenedAt, IsOwnFault, fault_of_miss}
use Rattle.tg_walk.specs.declared.fault.WalkFault.{WalkFault}
use Rattle.tg_walk.specs.declared.fault.WalkFault.TheVariants as faults
use Rattle.tg_walk.specs.declared.known.Opened.{Opened}
use Rattle.tg_walk.specs.declared.known.Walked.{Walked}

-- ---- the CIDs that are known

known_has : (cid : CidParts) (sections : List Section) → is_known cid (map (λ (s : Section). s.cid) sections) ≡ has_cid cid sections
known_has cid [] = refl
known_has cid (s ∷ sections) = ap (λ (b : Bool). same_cid cid s.cid || b) (known_has cid sections)

sent_noted : (asks dups : Bool) (old new : KnownState) (cid : CidParts) (given : Bool) (sections : List Section) → dups ≡ false → keys_of old.entries ≡ map (λ (s : Section). s.cid) sections
    → IsNoted asks old cid given new → (asks && (dups || not (has_cid cid sections))) ≡ given
sent_noted true true old new cid given sections d k n = cc
sent_noted true false old new cid given sections d k (g, e) = ap not (sym (known_has cid sections)) ∙ ap (λ (l : List CidParts). not (is_known cid l)) (sym k) ∙ sym g
sent_noted false dups old new cid given sections d k (g, e) = sym g

keys_with : (given : Bool) (cid : CidParts) (old : KnownState) (sections : List Section) (s : Section) → s.cid ≡ cid → keys_of old.entries ≡ map (λ (s : Section). s.cid) sections
    → keys_of (with_block given cid old).entries ≡ map (λ (s : Section). s.cid) (taken_if given sections s)
keys_with true cid old sections s e k =
    map-append (λ (e : CidParts × Option Walked). e.0) old.entries ((cid, None) ∷ [])
    ∙ ap₂ (λ (l : List CidParts) (c : CidParts). l ++ c ∷ []) k (sym e)
    ∙ sym (map-append (λ (s : Section). s.cid) sections (s ∷ []))
keys_with false cid old sections s e k = k

keys_noted : (asks : Bool) (old new : KnownState) (given : Bool) (sections : List Section) (s : Section) → keys_of old.entries ≡ map (λ (s : Section). s.cid) sections → IsNoted asks old s.cid given new
    → keys_of new.entries ≡ map (λ (s : Section). s.cid) (taken_if given sections s)
keys_noted true old new given sections s k (g, e) = ap (λ (n : KnownState). keys_of n.entries) e ∙ keys_with given s.cid old sections s refl k
keys_noted false old new given sections s k (g, e) = ap (λ (n : KnownState). keys_of n.entries) e ∙ k ∙ ap (λ (b : Bool). map (λ (s : Section). s.cid) (taken_if b sections s)) (sym g)

-- a block that is given is asked for
pub noted_asked : (asks : Bool) (old new : KnownState) (cid : CidParts) (given : Bool) → IsNoted asks old cid given new → given ≡ true → asks ≡ true
noted_asked true old new cid given n e = refl
noted_asked false old new cid given n e = sym n.0 ∙ e

open_noted : (asks : Bool) (old new : KnownState) (cid : CidParts) (given : Bool) → IsNoted asks old cid given new → new.nodes ≡ old.nodes
open_noted true old new cid given (g, e) = ap (λ (n : KnownState). n.nodes) e ∙ same given
  where
    same : (given : Bool) → (with_block given cid old).nodes ≡ old.nodes
    same true = refl
    same false = refl
open_noted false old new cid given (g, e) = ap (λ (n : KnownState). n.nodes) e

blocks_noted : (P : CidParts × Option Walked → Type 0) (asks : Bool) (old new : KnownState) (cid : CidParts) (given : Bool) → IsNoted asks old cid given new → P (cid, None) → All P old.entries → All P new.entries
blocks_noted P true old new cid given (g, e) one all = subst (λ (n : KnownState). All P n.entries) (sym e) (with given)
  where
    with : (given : Bool) → All P (with_block given cid old).entries
    with true = All-append P old.entries ((cid, None) ∷ []) all (All-cons P (cid, None) [] one (All-nil P))
    with false = all
blocks_noted P false old new cid given (g, e) one all = subst (λ (n : KnownState). All P n.entries) (sym e) all

-- ---- what isn't given any more

-- behind more sections no more is
pub more_given : (q : QueryParts) (sections : List Section) (given : Bool) (s : Section) → IsMoreGiven q sections (taken_if given sections s)
more_given q sections false s cid e = e
more_given q sections true s cid e = by (is_asked q cid) q.dups (has_cid cid sections) refl e
  where
    by : (a d h : Bool) → has_cid cid sections ≡ h → (a && (d || not h)) ≡ false → (a && (d || not (has_cid cid (sections ++ s ∷ [])))) ≡ false
    by false d h k t = refl
    by true true h k t = cc
    by true false false k t = cc
    by true false true k t = ap not (list_any-append (λ (x : Section). same_cid cid x.cid) sections (s ∷ []) ∙ ap (λ (b : Bool). b || has_cid cid (s ∷ [])) k)

-- nor is the last of them, where each is given once
now_given : (q : QueryParts) (sections : List Section) (given : Bool) (s : Section) → q.dups ≡ false → is_sent_behind q sections s.cid ≡ given → is_sent_behind q (taken_if given sections s) s.cid ≡ false
now_given q sections false s d e = e
now_given q sections true s d e = by (is_asked q s.cid) q.dups d
  where
    there : has_cid s.cid (sections ++ s ∷ []) ≡ true
    there = is_under s.cid (sections ++ s ∷ []) s (Contains-push sections s) refl

    by : (a b : Bool) → b ≡ false → (a && (b || not (has_cid s.cid (sections ++ s ∷ [])))) ≡ false
    by false b f = refl
    by true true f = cc
    by true false f = ap not there

-- ---- from block to block

pub if_once : (dups : Bool) (P : Type 0) → P → IfOnce dups P
if_once true P p = tt
if_once false P p = p

if_repeated : (dups : Bool) (P : Type 0) → dups ≡ true → IfOnce dups P
if_repeated true P e = tt
if_repeated false P e = cc

-- before the first one
pub starts_on : (laws : WalkLaws) (q : QueryParts) (most : ℕ) (left : LeftState) (known : KnownState) (store : Store) → left.query ≡ q → tasks_left left ≡ start q q.root → known ≡ record { entries = []; nodes = [] }
    → IsOnWalk most left known store []
starts_on laws q most left known store e t k =
    let first = on_walk q most left store [] (start q q.root) e t (starts laws q most store) in
    record {
      given = first.given;
      gave = ap (sent left.query) first.gave ∙ nothing_sent left.query.dups;
      knows = if_once left.query.dups _ (
        ap (λ (n : KnownState). keys_of n.entries) k,
        λ b. record {
          blocks = subst (λ (n : KnownState). All (λ e. IsKnownAs left.query store [] e.0 e.1) n.entries) (sym k) (All-nil (λ e. IsKnownAs left.query store [] e.0 e.1));
          way = subst (λ (n : KnownState). AreOpen left.query store [] n.nodes (tasks_left left)) (sym k)
              (subst (λ (tasks : List (Task CidParts)). AreAllAt 1 (tasks_then tasks)) (sym t) (depth_at_top 0 q.path 1, tt));
        },
      );
      walked = first.walked;
    }
  where
    nothing_sent : (dups : Bool) → unrepeated dups [] ≡ []
    nothing_sent true = refl
    nothing_sent false = refl

pub opened_so : (most : ℕ) (left : LeftState) (known : KnownState) (store : Store) (sections : List Section) → (on : IsOnWalk most left known store sections) → HasOpened most left store (opened_by on.given)
opened_so most left known store sections on = record { given = on.given; gave = refl; walked = on.walked }

-- what is sent of one block more
sent_one : (old q : QueryParts) (most : ℕ) (new : LeftState) (store : Store) (opened sections : List Section) (s : Section) (given : Bool) → q ≡ old → sent old opened ≡ sections → is_sent_behind old sections s.cid ≡ given
    → (h : HasOpened most new store (opened ++ s ∷ [])) → sent q (opened_by h.given) ≡ taken_if given sections s
sent_one old q most new store opened sections s given e gave is h =
    ap (λ (p : QueryParts). sent p (opened_by h.given)) e ∙ ap (sent old) h.gave ∙ sent_step old opened s
    ∙ ap (λ (l : List Section). taken_if (is_sent_behind old l s.cid) l s) gave
    ∙ ap (λ (b : Bool). taken_if b sections s) is

-- where repeats are given
pub goes_repeated : (most : ℕ) (old new : LeftState) (known : KnownState) (store : Store) (sections : List Section) (s : Section) (asks : Bool) → new.query ≡ old.query → old.query.dups ≡ true
    → (on : IsOnWalk most old known store sections) → is_asked old.query s.cid ≡ asks → HasOpened most new store (opened_by on.given ++ s ∷ []) → IsOnWalk most new known store (taken_if asks sections s)
goes_repeated most old new known store sections s asks e d on is h = record {
  given = h.given;
  gave = sent_one old.query new.query most new store (opened_by on.given) sections s asks e on.gave (by (is_asked old.query s.cid) old.query.dups (has_cid s.cid sections) d is) h;
  knows = if_repeated new.query.dups _ (ap (λ (q : QueryParts). q.dups) e ∙ d);
  walked = h.walked;
}
  where
    by : (a b c : Bool) → b ≡ true → a ≡ asks → (a && (b || not c)) ≡ asks
    by true true c f g = g
    by true false c f g = cc
    by false b c f g = g

-- a block is read, but for the one that is asked for alone
reads_there : (q : QueryParts) (w : Want) → is_block q.scope ≡ false → is_read_at q w ≡ true
reads_there q (segment_want i position name path depth) e = refl
reads_there q (terminal_want depth) e = ap not e
reads_there q (node_want reach position depth) e = refl

-- where each is given once, one more is known
knows_one : (q : QueryParts) (store : Store) (sections : List Section) (known noted now : KnownState) (old new : LeftState) (at : WantedAt) (s : Section) (block : List ℕ) (asks given : Bool) (place : Opened)
    → s ≡ section_of at.cid block → old.query ≡ q → old.wanted ≡ Some at → q.dups ≡ false
    → place ≡ record { cid = at.cid; depth = depth_of at.want; deepest = depth_of at.want; role = role_at at.want } → LieAbove known.nodes (depth_of at.want) → IsNoted asks known s.cid given noted
    → now ≡ record noted { nodes = place ∷ noted.nodes } → is_sent_behind q sections s.cid ≡ given → block_at store at.cid ≡ Some block → IsOpened old at block (Ok tt) new
    → Knows q store sections known (tasks_left old) → Knows q store (taken_if given sections s) now (tasks_left new)
knows_one q store sections known noted now old new at s block asks given place s_is e w d p above note n is stored (inl (unread, t)) knows b =
    let reads = reads_there q at.want b in
    let same : is_read_at q at.want ≡ false = ap (λ (p : QueryParts). is_read_at p at.want) (sym e) ∙ unread in
    cc
knows_one q store sections known noted now old new at s block asks given place s_is e w d p above note n is stored (inr there) knows b =
    let more = more_given q sections given s in
    let was = knows b in
    let here : AreOpen q store (taken_if given sections s) known.nodes (open_block at.want at.cid ∷ old.later) =
    subst (λ (wanted : Option WantedAt). AreOpen q store (taken_if given sections s) known.nodes (wanted_tasks wanted ++ old.later)) w
    (open_more q store sections (taken_if given sections s) more known.nodes (tasks_left old) was.way) in
    let behind : is_sent_behind q (taken_if given sections s) at.cid ≡ false =
    ap (λ (x : Section). is_sent_behind q (taken_if given sections s) x.cid) (sym s_is) ∙ now_given q sections given s d is in
    subst (λ (k : KnownState). KnowsBelow q store (taken_if given sections s) k (tasks_left new)) (sym n) (record {
      blocks = blocks_noted (λ e. IsKnownAs q store (taken_if given sections s) e.0 e.1) asks known noted s.cid given note tt
          (All-weaker (λ e. IsKnownAs q store sections e.0 e.1) (λ e. IsKnownAs q store (taken_if given sections s) e.0 e.1) (λ e h. known_more q store sections (taken_if given sections s) e.0 e.1 more h) known.entries was.blocks);
      way = subst (λ (nodes : List Opened). AreOpen q store (taken_if given sections s) (place ∷ nodes) (tasks_left new)) (sym (open_noted asks known noted s.cid given note))
          (opened_below q store (taken_if given sections s) known.nodes place at.want at.cid old.later (tasks_left new) block there.kind p stored there.reads
          (ap (λ (p : QueryParts). fault_at p at.want there.kind) (sym e) ∙ there.fits)
          (there.tasks ∙ ap (λ (p : QueryParts). tasks_of p at.want (section_of at.cid block) there.kind (links_of there.kind) ++ old.later) e) behind above here);
    })

pub goes_once : (most : ℕ) (old new : LeftState) (known noted now : KnownState) (store : Store) (sections : List Section) (found : CidParts × List ℕ) (asks given : Bool) (place : Opened) → new.query ≡ old.query
    → old.query.dups ≡ false → (on : IsOnWalk most old known store sections) → is_asked old.query found.0 ≡ asks → (at : WantedAt) → old.wanted ≡ Some at → HasOpenedAt old store at found new
    → place ≡ record { cid = at.cid; depth = depth_of at.want; deepest = depth_of at.want; role = role_at at.want } → LieAbove known.nodes (depth_of at.want) → IsNoted asks known found.0 given noted
    → now ≡ record noted { nodes = place ∷ noted.nodes } → HasOpened most new store (opened_by on.given ++ section_of found.0 found.1 ∷ [])
    → IsOnWalk most new now store (taken_if given sections (section_of found.0 found.1))
goes_once most old new known noted now store sections found asks given place e d on is at w there p above note n h =
    let s = section_of found.0 found.1 in
    let q = old.query in
    let knows = once q.dups _ d on.knows in
    let sends : is_sent_behind q sections s.cid ≡ given =
    ap (λ (b : Bool). b && (q.dups || not (has_cid s.cid sections))) is ∙ sent_noted asks q.dups known noted s.cid given sections d knows.0 note in
    record {
      given = h.given;
      gave = sent_one q new.query most new store (opened_by on.given) sections s given e on.gave sends h;
      knows = subst (λ (p : QueryParts). HasKnown p store now (taken_if given sections s) (tasks_left new)) (sym e) (if_once q.dups _ (
        ap (λ (k : KnownState). keys_of k.entries) n ∙ keys_noted asks known noted given sections s knows.0 note,
        knows_one q store sections known noted now old new at s found.1 asks given place (ap (λ (c : CidParts). section_of c found.1) there.cid_is) refl w d p above note n sends there.stored there.opened knows.1,
      ));
      walked = h.walked;
    }

-- all were opened, where repeats are given
pub all_gone : (most : ℕ) (old new : LeftState) (known : KnownState) (store : Store) (sections : List Section) → new.query ≡ old.query → old.query.dups ≡ true → (on : IsOnWalk most old known store sections)
    → HasGone (Ok None) most new store (opened_by on.given) → IsOnWalk most new known store sections × HasEnded new.query store most sections whole
all_gone most old new known store sections e d on (h, ended) =
    let gave : sent new.query (opened_by on.given) ≡ sections = ap (λ (p : QueryParts). sent p (opened_by on.given)) e ∙ on.gave in (
      record {
        given = h.given;
        gave = ap (sent new.query) h.gave ∙ gave;
        knows = if_repeated new.query.dups _ (ap (λ (q : QueryParts). q.dups) e ∙ d);
        walked = h.walked;
      },
      subst (λ (l : List Section). HasEnded new.query store most l whole) gave ended,
    )

-- all were opened
pub all_given : (most : ℕ) (old new : LeftState) (known : KnownState) (store : Store) (sections : List Section) → new.query ≡ old.query → (on : IsOnWalk most old known store sections)
    → (h : HasOpened most new store (opened_by on.given)) → HasEnded new.query store most (sent new.query (opened_by on.given)) whole → HasEnded new.query store most sections whole
all_given most old new known store sections e on h ended =
    subst (λ (l : List Section). HasEnded new.query store most l whole) (ap (λ (p : QueryParts). sent p (opened_by on.given)) e ∙ on.gave) ended

-- no further one was
pub stops : (most : ℕ) (old new : LeftState) (known : KnownState) (store : Store) (sections : List Section) (fault : WalkFault) → new.query ≡ old.query → (on : IsOnWalk most old known store sections)
    → HasGone (Err fault) most new store (opened_by on.given) → HasWalkCause new.query store most sections fault
stops most old new known store sections fault e on h =
    subst (λ (l : List Section). HasWalkCause new.query store most l fault) (ap (λ (p : QueryParts). sent p (opened_by on.given)) e ∙ on.gave) h

-- what was given is a front
pub front_so : (laws : WalkLaws) (most : ℕ) (old : LeftState) (q : QueryParts) (known : KnownState) (store : Store) (sections : List Section) → q ≡ old.query → IsOnWalk most old known store sections
    → IsFront q store sections
front_so laws most old q known store sections e on =
    let found = laws.front old.query store most on.given (tasks_left old) on.walked in
    subst (λ (p : QueryParts). IsFront p store sections) (sym e) (record { given = on.given; gave = on.gave; rest = found.0; front = found.1 })

-- ---- look-ups

-- what was looked up for blocks that were passed over: nothing where repeats are given, since these are under identity CIDs
pub record HasPassed (q : QueryParts) (lookups : Lookups) : Type 0 where
  pub cids : List CidParts
  pub looked : LookedUp cids lookups
  pub hashed : All (λ cid. cid.hash ≡ Sha256) cids
  pub none : q.dups ≡ true → cids ≡ []
  pub quiet : LookupsQuiet lookups

pub passed_none : {S : Type 0} → (m : BlocksMeaning S) (a : S) (q : QueryParts) → m.looked a a [] → HasPassed q (looked_in m a a)
passed_none m a q rests = record {
  cids = [];
  looked = record { moved = rests; stored = refl };
  hashed = All-nil (λ (cid : CidParts). cid.hash ≡ Sha256);
  none = λ e. refl;
  quiet = refl;
}

abbrev pub LooksJoin : (S : Type 0) → BlocksMeaning S → Type 0
LooksJoin S m = (a b c : S) (u v : List CidParts) → m.looked a b u → m.looked b c v → m.looked a c (u ++ v)

pub looks_both : {S : Type 0} → (m : BlocksMeaning S) (a b c : S) (u v : List CidParts) → LooksJoin S m → LookedUp u (looked_in m a b) → LookedUp v (looked_in m b c) → LookedUp (u ++ v) (looked_in m a c)
looks_both m a b c u v joins p q = record { moved = joins a b c u v p.moved q.moved; stored = q.stored ∙ p.stored }

last_behind : (result : Result (Option (CidParts × List ℕ)) WalkFault) (u v : List CidParts) → IsAloneIn result v → IsLastOf result (u ++ v)
last_behind (Ok (Some found)) u v h = λ e. (u, ap (λ (l : List CidParts). u ++ l) (h ∙ looked_hashed found.0 e))
last_behind (Ok None) u v h = tt
last_behind (Err (faults.BadBlock cid fault)) u v h = λ e. (u, ap (λ (l : List CidParts). u ++ l) (h ∙ looked_hashed cid e))
last_behind (Err (faults.Gone cid)) u v h = (u, ap (λ (l : List CidParts). u ++ l) h)
last_behind (Err faults.TooDeep) u v h = tt
last_behind (Err (faults.Store fault)) u v h = tt
last_behind (Err (faults.NotThere i)) u v h = tt
last_behind (Err (faults.NotFolder i)) u v h = tt
last_behind (Err faults.OutOfMemory) u v h = tt

alone_behind : (result : Result (Option (CidParts × List ℕ)) WalkFault) (u v : List CidParts) → u ≡ [] → IsAloneIn result v → IsAloneIn result (u ++ v)
alone_behind result u v e h = subst (λ (l : List CidParts). IsAloneIn result (l ++ v)) (sym e) h

both_quiet : {T : Type 0} (result : Result T WalkFault) (P Q R : Type 0) → (P → Q → R) → P → OnOk result Q → OnOk result R
both_quiet (Ok done) P Q R f p q = f p q
both_quiet (Err fault) P Q R f p q = tt

few_alone : (result : Result (Option (CidParts × List ℕ)) WalkFault) (cids : List CidParts) → IsAloneIn result cids → length cids ≤ 1
few_alone (Ok (Some found)) cids h = subst (λ (l : List CidParts). length l ≤ 1) (sym h) (looked_few found.0)
few_alone (Ok None) cids h = subst (λ (l : List CidParts). length l ≤ 1) (sym h) (omega arith)
few_alone (Err (faults.BadBlock cid fault)) cids h = subst (λ (l : List CidParts). length l ≤ 1) (sym h) (looked_few cid)
few_alone (Err (faults.Gone cid)) cids h = subst (λ (l : List CidParts). length l ≤ 1) (sym h) (omega arith)
few_alone (Err faults.TooDeep) cids h = subst (λ (l : List CidParts). length l ≤ 1) (sym h) (omega arith)
few_alone (Err (faults.Store fault)) cids h = subst (λ (l : List CidParts). length l ≤ 1) (sym h) (omega arith)
few_alone (Err (faults.NotThere i)) cids h = subst (λ (l : List CidParts). length l ≤ 1) (sym h) (omega arith)
few_alone (Err (faults.NotFolder i)) cids h = subst (λ (l : List CidParts). length l ≤ 1) (sym h) (omega arith)
few_alone (Err faults.OutOfMemory) cids h = h

pub looked_since : {S : Type 0} → (m : BlocksMeaning S) (a b c : S) (q : QueryParts) (result : Result (Option (CidParts × List ℕ)) WalkFault) → LooksJoin S m → HasPassed q (looked_in m a b)
    → HasLookedOnce result (looked_in m b c) → HasSought q result (looked_in m a c)
looked_since m a b c q result joins so h = record {
  up = record {
    cids = so.cids ++ h.cids;
    looked = looks_both m a b c so.cids h.cids joins so.looked h.looked;
    hashed = All-append (λ (cid : CidParts). cid.hash ≡ Sha256) so.cids h.cids so.hashed h.hashed;
    few = λ e. few_alone result (so.cids ++ h.cids) (alone_behind result so.cids h.cids (so.none e) h.alone);
    quiet = both_quiet result (LookupsQuiet (looked_in m a b)) (LookupsQuiet (looked_in m b c)) (LookupsQuiet (looked_in m a c)) (λ p r. r ∙ p) so.quiet h.quiet;
  };
  last = last_behind result so.cids h.cids h.alone;
  alone = λ e. alone_behind result so.cids h.cids (so.none e) h.alone;
}

pub passed_since : {S : Type 0} → (m : BlocksMeaning S) (a b c : S) (q : QueryParts) (found : CidParts × List ℕ) → LooksJoin S m → HasPassed q (looked_in m a b)
    → HasLookedOnce (Ok (Some found)) (looked_in m b c) → (q.dups ≡ true → found.0.hash ≡ Identity) → HasPassed q (looked_in m a c)
passed_since m a b c q found joins so h unasked = record {
  cids = so.cids ++ h.cids;
  looked = looks_both m a b c so.cids h.cids joins so.looked h.looked;
  hashed = All-append (λ (cid : CidParts). cid.hash ≡ Sha256) so.cids h.cids so.hashed h.hashed;
  none = λ e. ap₂ (λ (u v : List CidParts). u ++ v) (so.none e) (h.alone ∙ looked_none found.0 (unasked e));
  quiet = h.quiet ∙ so.quiet;
}

-- a block that was opened isn't given for want of memory
pub refused_behind : (found : CidParts × List ℕ) (lookups : Lookups) → HasLookedOnce (Ok (Some found)) lookups → HasLookedOnce (Err faults.OutOfMemory) lookups
refused_behind found lookups h = record {
  cids = h.cids;
  looked = h.looked;
  hashed = h.hashed;
  alone = subst (λ (l : List CidParts). length l ≤ 1) (sym h.alone) (looked_few found.0);
  quiet = tt;
}

-- the next place isn't found where each block is given once
own_last : (fault : WalkFault) (cids : List CidParts) → IsOwnFault fault → IsLastOf (Err fault) cids
own_last fault cids (inl memory) = subst (λ (f : WalkFault). IsLastOf (Err f) cids) (sym memory) tt
own_last fault cids (inr (miss, is)) = subst (λ (f : WalkFault). IsLastOf (Err f) cids) (sym is) (by miss)
  where
    by : (miss : Miss) → IsLastOf (Err (fault_of_miss miss)) cids
    by (misses.NoEntry i) = tt
    by (misses.NoDirectory i) = tt

pub refused_before : (q : QueryParts) (fault : WalkFault) (lookups : Lookups) → q.dups ≡ false → IsOwnFault fault → HasPassed q lookups → HasSought q (Err fault) lookups
refused_before q fault lookups d own so = record {
  up = record {
    cids = so.cids;
    looked = so.looked;
    hashed = so.hashed;
    few = λ e. let both : false ≡ true = sym d ∙ e in absurd (cc both);
    quiet = tt;
  };
  last = own_last fault so.cids own;
  alone = λ e. let both : false ≡ true = sym d ∙ e in absurd (cc both);
}

-- ---- causes

pub own_cause : (told : Option Store) (fault : WalkFault) (lookups : Lookups) → IsOwnFault fault → LookupsQuiet lookups → HasStoreCause (Err fault) told lookups
own_cause told fault lookups (inl memory) quiet = subst (λ (f : WalkFault). HasStoreCause (Err f) told lookups) (sym memory) quiet
own_cause told fault lookups (inr (miss, is)) quiet = subst (λ (f : WalkFault). HasStoreCause (Err f) told lookups) (sym is) (by miss)
  where
    by : (miss : Miss) → HasStoreCause (Err (fault_of_miss miss)) told lookups
    by (misses.NoEntry i) = quiet
    by (misses.NoDirectory i) = quiet

cause_by : {S : Type 0} (m : BlocksMeaning S) (a b c : S) (q : QueryParts) (cid : CidParts) (fault : BlocksFault) → HasPassed q (looked_in m a b)
    → IsCauseOf (m.stored b) cid (m.faults b) (m.faults c) fault → IsCauseOf (m.stored a) cid (m.faults a) (m.faults c) fault
cause_by m a b c q cid fault so h =
    subst (λ (told : Option Store). IsCauseOf told cid (m.faults a) (m.faults c) fault) so.looked.stored
    (subst (λ (n : ℕ). IsCauseOf (m.stored b) cid n (m.faults c) fault) so.quiet h)

pub cause_since : {S : Type 0} (m : BlocksMeaning S) (a b c : S) (q : QueryParts) (fault : WalkFault) → HasPassed q (looked_in m a b)
    → HasStoreCause (Err fault) (m.stored b) (looked_in m b c) → HasStoreCause (Err fault) (m.stored a) (looked_in m a c)
cause_since m a b c q (faults.BadBlock cid fault) so h = h ∙ so.quiet
cause_since m a b c q (faults.Gone cid) so h = h ∙ so.quiet
cause_since m a b c q faults.TooDeep so h = h ∙ so.quiet
cause_since m a b c q (faults.Store fault) so h = (h.0, cause_by m a b c q h.0 fault so h.1)
cause_since m a b c q (faults.NotThere i) so h = h ∙ so.quiet
cause_since m a b c q (faults.NotFolder i) so h = h ∙ so.quiet
cause_since m a b c q faults.OutOfMemory so h = h ∙ so.quiet
