-- A walk over a store, from place to place.
use Rattle.std.proofs.Common.{Err, List, None, Ok, Some, [], ap, false, refl, inl, inr, subst, sym, true, ℕ, ◌++◌, ◌<◌, ◌∙◌, ◌∷◌, ◌≡◌, ◌≤◌, ◌⊎◌}
use Rattle.std.proofs.lemmas.List.{map-append}
use Rattle.tg_cid.specs.Cid.{CidParts}
use Rattle.tg_traversal.specs.Left.{LeftState, WantedAt, tasks_left}
use Rattle.tg_traversal.specs.Places.{missing_of}
use Rattle.tg_walk.specs.declared.fault.WalkFault.TheVariants as faults
use Rattle.tg_traversal.specs.declared.position.Miss.{Miss}
use Rattle.tg_traversal.specs.declared.position.Miss.TheVariants as misses
use Rattle.tg_walk.specs.Walks.{HasEnded, HasOpened, HasWalkCause, IsFront, fault_of_miss}
use Rattle.tg_model.specs.Computed.{read}
use Rattle.tg_model.specs.Dag.{Section, links_of}
use Rattle.tg_model.specs.PathWalk.{whole}
use Rattle.tg_model.specs.Queries.{QueryParts}
use Rattle.tg_model.specs.StoreView.{block_at}
use Rattle.tg_model.specs.Stores.{Store}
use Rattle.tg_model.specs.Traversal.{sent}
use Rattle.tg_model.specs.declared.fault.BlockFault.{BlockFault}
use Rattle.tg_model_laws.specs.TakenBlocks.{opened_by}
use Rattle.tg_model_laws.specs.StoreWalks.{IsWalked, WalkLaws, section_of}
use Rattle.tg_model_laws.specs.Stages.{Given, nothing_given, place_of, up_to_next, with_place}
use Rattle.tg_model_laws.specs.Tasks.{Task, depth_of, fault_at, is_read_at, open_block, spot_of, start, stop_at, tasks_of, tasks_then, text_at}

-- a walk that has opened these sections, with these tasks left
pub record HasWalked (q : QueryParts) (most : ℕ) (store : Store) (sections : List Section) (tasks : List (Task CidParts)) : Type 0 where
  pub given : Given
  pub gave : opened_by given ≡ sections
  pub walked : IsWalked q store most given tasks

pub walked_of : (most : ℕ) (left : LeftState) (store : Store) (sections : List Section) → HasOpened most left store sections
    → HasWalked left.query most store sections (tasks_left left)
walked_of most left store sections on = record { given = on.given; gave = on.gave; walked = on.walked }

pub on_walk : (q : QueryParts) (most : ℕ) (left : LeftState) (store : Store) (sections : List Section) (tasks : List (Task CidParts)) → left.query ≡ q → tasks_left left ≡ tasks
    → HasWalked q most store sections tasks → HasOpened most left store sections
on_walk q most left store sections tasks e f w = record {
  given = w.given;
  gave = w.gave;
  walked = subst (λ (p : QueryParts). IsWalked p store most w.given (tasks_left left)) (sym e) (subst (λ (t : List (Task CidParts)). IsWalked q store most w.given t) (sym f) w.walked);
}

pub starts : (laws : WalkLaws) (q : QueryParts) (most : ℕ) (store : Store) → HasWalked q most store [] (start q q.root)
starts laws q most store = record { given = nothing_given; gave = refl; walked = laws.start q store most }

pub front_of : (laws : WalkLaws) (q : QueryParts) (most : ℕ) (store : Store) (sections : List Section) (tasks : List (Task CidParts)) → HasWalked q most store sections tasks
    → IsFront q store (sent q sections)
front_of laws q most store sections tasks w =
    let found = laws.front q store most w.given tasks w.walked in
    record { given = w.given; gave = ap (sent q) w.gave; rest = found.0; front = found.1 }

-- up to the next place nothing is opened
pub moved_on : (laws : WalkLaws) (q : QueryParts) (most : ℕ) (store : Store) (sections : List Section) (tasks : List (Task CidParts)) → HasWalked q most store sections tasks
    → HasWalked q most store sections (tasks_then tasks)
moved_on laws q most store sections tasks w = record {
  given = up_to_next tasks w.given;
  gave = w.gave;
  walked = laws.up_to_next q store most w.given tasks w.walked;
}

one_more : (given : Given) (sections : List Section) (want : _) (section : Section) (text : List ℕ) → opened_by given ≡ sections
    → opened_by (with_place want section text given) ≡ sections ++ section ∷ []
one_more given sections want section text gave =
    map-append (λ p. p.section) given.places (place_of want section ∷ []) ∙ ap (λ (l : List Section). l ++ section ∷ []) gave

pub opened : (laws : WalkLaws) (q : QueryParts) (most : ℕ) (store : Store) (sections : List Section) (at : WantedAt) (later : List (Task CidParts)) (block : List ℕ) (kind : _)
    → most ≤ 1100 → depth_of at.want ≤ most → block_at store at.cid ≡ Some block → read at.cid block ≡ Ok kind → fault_at q at.want kind ≡ None
    → HasWalked q most store sections (open_block at.want at.cid ∷ later)
    → HasWalked q most store (sections ++ section_of at.cid block ∷ []) (tasks_of q at.want (section_of at.cid block) kind (links_of kind) ++ later)
opened laws q most store sections at later block kind m d s r f w = record {
  given = with_place at.want (section_of at.cid block) (text_at q at.want (section_of at.cid block) kind) w.given;
  gave = one_more w.given sections at.want (section_of at.cid block) (text_at q at.want (section_of at.cid block) kind) w.gave;
  walked = laws.opened q store most w.given at.want at.cid block kind later m d s r f w.walked;
}

pub passed_over : (laws : WalkLaws) (q : QueryParts) (most : ℕ) (store : Store) (sections : List Section) (at : WantedAt) (later : List (Task CidParts)) (block : List ℕ)
    → most ≤ 1100 → depth_of at.want ≤ most → block_at store at.cid ≡ Some block → is_read_at q at.want ≡ false
    → HasWalked q most store sections (open_block at.want at.cid ∷ later)
    → HasWalked q most store (sections ++ section_of at.cid block ∷ []) later
passed_over laws q most store sections at later block m d s n w = record {
  given = with_place at.want (section_of at.cid block) block w.given;
  gave = one_more w.given sections at.want (section_of at.cid block) block w.gave;
  walked = laws.alone q store most w.given at.want at.cid block later m d s n w.walked;
}

-- ---- why it gives no more

pub too_deep : (laws : WalkLaws) (q : QueryParts) (most : ℕ) (store : Store) (sections : List Section) (at : WantedAt) (later : List (Task CidParts))
    → most < depth_of at.want → HasWalked q most store sections (open_block at.want at.cid ∷ later) → HasWalkCause q store most (sent q sections) faults.TooDeep
too_deep laws q most store sections at later d w = record {
  given = w.given;
  gave = ap (sent q) w.gave;
  want = at.want;
  cid = at.cid;
  deep = laws.too_deep q store most w.given at.want at.cid later d w.walked;
}

pub is_gone : (laws : WalkLaws) (q : QueryParts) (most : ℕ) (store : Store) (sections : List Section) (at : WantedAt) (later : List (Task CidParts))
    → most ≤ 1100 → depth_of at.want ≤ most → block_at store at.cid ≡ None → HasWalked q most store sections (open_block at.want at.cid ∷ later)
    → HasWalkCause q store most (sent q sections) (faults.Gone at.cid)
is_gone laws q most store sections at later m d s w =
    (spot_of at.want at.cid, refl, d, record { given = w.given; gave = ap (sent q) w.gave; ends = laws.not_stored q store most w.given at.want at.cid later m d s w.walked })

pub is_bad : (laws : WalkLaws) (q : QueryParts) (most : ℕ) (store : Store) (sections : List Section) (at : WantedAt) (later : List (Task CidParts)) (block : List ℕ) (fault : BlockFault)
    → most ≤ 1100 → depth_of at.want ≤ most → block_at store at.cid ≡ Some block → is_read_at q at.want ≡ true
    → (read at.cid block ≡ Err fault) ⊎ ((kind : _) × (read at.cid block ≡ Ok kind) × (fault_at q at.want kind ≡ Some fault))
    → HasWalked q most store sections (open_block at.want at.cid ∷ later) → HasWalkCause q store most (sent q sections) (faults.BadBlock at.cid fault)
is_bad laws q most store sections at later block fault m d s r (inl e) w =
    (spot_of at.want at.cid, refl, d, record { given = w.given; gave = ap (sent q) w.gave; ends = laws.unreadable q store most w.given at.want at.cid block fault later m d s e r w.walked })
is_bad laws q most store sections at later block fault m d s r (inr (kind, e, f)) w =
    (spot_of at.want at.cid, refl, d, record { given = w.given; gave = ap (sent q) w.gave; ends = laws.misfit q store most w.given at.want at.cid block kind fault later m d s e f w.walked })

pub is_missing : (laws : WalkLaws) (q : QueryParts) (most : ℕ) (store : Store) (sections : List Section) (miss : Miss) (later : List (Task CidParts))
    → HasWalked q most store sections (stop_at (missing_of miss) ∷ later) → HasWalkCause q store most (sent q sections) (fault_of_miss miss)
is_missing laws q most store sections (misses.NoEntry i) later w = record { given = w.given; gave = ap (sent q) w.gave; ends = laws.miss q store most w.given _ later w.walked }
is_missing laws q most store sections (misses.NoDirectory i) later w = record { given = w.given; gave = ap (sent q) w.gave; ends = laws.miss q store most w.given _ later w.walked }

pub is_done : (laws : WalkLaws) (q : QueryParts) (most : ℕ) (store : Store) (sections : List Section) → HasWalked q most store sections [] → HasEnded q store most (sent q sections) whole
is_done laws q most store sections w = record { given = w.given; gave = ap (sent q) w.gave; ends = laws.done q store most w.given w.walked }
