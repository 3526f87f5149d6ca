-- What is asked at the wanted place, and what the block there is read as.
use Rattle.tg_traversal.specs.declared.position.Ask.TheVariants as asks
use Rattle.tg_traversal.specs.declared.position.Position.TheVariants as positions
use Rattle.std.proofs.Common.{◌≡◌, ◌∙◌, ap, sym, subst, refl, Err, List, None, Ok, Option, Result, Some, [], false, length, true, inr, ℕ, ◌<◌}
use Rattle.tg_cid.specs.Cid.{CidParts}
use Rattle.tg_traversal.proofs.StepsLeft.{segment_there}
use Rattle.tg_traversal.specs.Left.{IsFitting, IsOnPath, IsPlaceOnPath, IsReadAs, IsReadHere, LeftState, WantedAt, wanted_at}
use Rattle.tg_traversal.specs.Opening.{IsReadBy}
use Rattle.tg_traversal.specs.Places.{is_terminal, standing_of, want_of}
use Rattle.tg_model.specs.Dag.{Section}
use Rattle.tg_traversal.specs.declared.position.Ask.{Ask}
use Rattle.tg_traversal.specs.declared.position.Place.{Place}
use Rattle.tg_traversal.specs.declared.position.Position.{Position}
use Rattle.tg_model.specs.Computed.{read}
use Rattle.tg_model.specs.Placed.{StandsForKind}
use Rattle.tg_model.specs.Queries.{QueryParts}
use Rattle.tg_model.specs.Sound.{position_fault}
use Rattle.tg_model.specs.Sound.{Position as Standing}
use Rattle.tg_model.specs.declared.fault.BlockFault.{BlockFault}
use Rattle.tg_model.specs.declared.kinds.Kind.{Kind}
use Rattle.tg_model.specs.declared.placed.PlacedKind.{PlacedKind}
use Rattle.tg_model_laws.specs.Tasks.{Task, Want, fault_at, is_read_at}

-- ---- what is asked there

abbrev pub at_place : List (List ℕ) → Place → WantedAt
at_place path place = record { want = want_of path place.ask place.depth; cid = place.cid }

pub place_wanted : (path : List (List ℕ)) (wanted : Option Place) (place : Place) (told : Option WantedAt) (at : WantedAt)
    → wanted ≡ Some place → wanted_at path wanted ≡ told → told ≡ Some at → at ≡ at_place path place
place_wanted path wanted place told at h e g =
    let all : Some (at_place path place) ≡ Some at = ap (wanted_at path) (sym h) ∙ (e ∙ g) in cc

pub on_path_below : (i : ℕ) (position : Position) (n : ℕ) → IsOnPath (asks.Segment i position) n → i < n
on_path_below i positions.Top n h = h
on_path_below i (positions.Part size) n h = absurd h
on_path_below i (positions.Child above) n h = h

-- a block is read there, but at a terminal
pub is_read_segment : (q : QueryParts) (i : ℕ) (position : Position) (depth : ℕ) → IsOnPath (asks.Segment i position) (length q.path)
    → is_read_at q (want_of q.path (asks.Segment i position) depth) ≡ true
is_read_segment q i position depth h = ap (is_read_at q) (segment_there i (standing_of position) q.path depth _ [] (on_path_below i position (length q.path) h) refl)

-- why a kind can't stand there
pub segment_fault : (q : QueryParts) (i : ℕ) (position : Position) (depth : ℕ) (kind : Kind) → IsOnPath (asks.Segment i position) (length q.path)
    → fault_at q (want_of q.path (asks.Segment i position) depth) kind ≡ position_fault (standing_of position) kind
segment_fault q i position depth kind h =
    ap (λ (w : Want). fault_at q w kind) (segment_there i (standing_of position) q.path depth _ [] (on_path_below i position (length q.path) h) refl)

-- ---- what it is read as

pub read_as : (q : QueryParts) (at : WantedAt) (block : List ℕ) (found : PlacedKind) (result : Result PlacedKind BlockFault) (standing : Standing) (kind : Kind)
    → read at.cid block ≡ Ok kind → StandsForKind block found kind → fault_at q at.want kind ≡ position_fault standing kind
    → IsFitting standing kind found result → IsReadAs q at block result
read_as q at block found (Ok same) standing kind reads stands e h =
    (kind, reads, e ∙ h.1, subst (λ (placed : PlacedKind). StandsForKind block placed kind) (sym h.0) stands)
read_as q at block found (Err fault) standing kind reads stands e h = inr (inr (kind, reads, e ∙ h))

-- ---- at the wanted place

pub place_on_path : (wanted : Option Place) (place : Place) (n : ℕ) → wanted ≡ Some place → IsPlaceOnPath wanted n → IsOnPath place.ask n
place_on_path wanted place n e h = subst (λ (wanted : Option Place). IsPlaceOnPath wanted n) e h

pub is_read_ask : (q : QueryParts) (ask : Ask) (depth : ℕ) → (ask ≡ asks.Terminal → ⊥) → IsOnPath ask (length q.path) → is_read_at q (want_of q.path ask depth) ≡ true
is_read_ask q (asks.Segment i position) depth other h = is_read_segment q i position depth h
is_read_ask q asks.Terminal depth other h = absurd (other refl)
is_read_ask q (asks.Node reach position) depth other h = refl

-- nor is another ask that is on the path one of the terminal
is_terminal_segment : (q : QueryParts) (i : ℕ) (position : Position) (depth : ℕ) → IsOnPath (asks.Segment i position) (length q.path)
    → is_terminal (want_of q.path (asks.Segment i position) depth) ≡ false
is_terminal_segment q i position depth h =
    ap is_terminal (segment_there i (standing_of position) q.path depth _ [] (on_path_below i position (length q.path) h) refl)

pub is_terminal_ask : (q : QueryParts) (ask : Ask) (depth : ℕ) → (ask ≡ asks.Terminal → ⊥) → IsOnPath ask (length q.path)
    → is_terminal (want_of q.path ask depth) ≡ false
is_terminal_ask q (asks.Segment i position) depth other h = is_terminal_segment q i position depth h
is_terminal_ask q asks.Terminal depth other h = absurd (other refl)
is_terminal_ask q (asks.Node reach position) depth other h = refl

-- the position where it stands, but of a terminal
abbrev pub IsAskAt : Ask → Position → Type 0
IsAskAt (asks.Segment i position) at = position ≡ at
IsAskAt asks.Terminal at = ⊥
IsAskAt (asks.Node reach position) at = position ≡ at

pub ask_fault : (q : QueryParts) (ask : Ask) (position : Position) (depth : ℕ) (kind : Kind) → IsAskAt ask position → IsOnPath ask (length q.path)
    → fault_at q (want_of q.path ask depth) kind ≡ position_fault (standing_of position) kind
ask_fault q (asks.Segment i other) position depth kind e h =
    segment_fault q i other depth kind h ∙ ap (λ (p : Position). position_fault (standing_of p) kind) e
ask_fault q asks.Terminal position depth kind e h = absurd e
ask_fault q (asks.Node reach other) position depth kind e h = ap (λ (p : Position). position_fault (standing_of p) kind) e

-- ---- what is opened there

pub read_there : (q : QueryParts) (position : Position) {wanted : Option Place} {place : Place} {later : List (Task CidParts)} {state : LeftState} {ask : Ask} {at : WantedAt} {section : Section}
    {kind : Kind} {found : PlacedKind} → wanted ≡ Some place → record { query = q; wanted = wanted_at q.path wanted; later = later } ≡ state → IsPlaceOnPath wanted (length q.path)
    → place.ask ≡ ask → IsAskAt ask position → IsReadHere state at section kind found → IsReadBy position section kind found
read_there q position {wanted} {place} {later} {state} {ask} {at} {section} {kind} is view on_path ask_is stands here =
    let there : at ≡ at_place q.path place = place_wanted q.path wanted place state.wanted at is (ap (λ (s : LeftState). s.wanted) view) here.wanted in
    let fits : fault_at q at.want kind ≡ None = ap (λ (s : LeftState). fault_at s.query at.want kind) view ∙ here.fits in
    let asked : fault_at q at.want kind ≡ position_fault (standing_of position) kind = ap (λ (a : WantedAt). fault_at q a.want kind) there
    ∙ ask_fault q place.ask position place.depth kind (subst (λ (a : Ask). IsAskAt a position) (sym ask_is) stands) (place_on_path wanted place (length q.path) is on_path) in
    record { reads = here.reads; fits = sym asked ∙ fits; stands = here.stands }
