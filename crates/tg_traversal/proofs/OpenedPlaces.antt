-- What is left once the block at the wanted place was opened.
use Rattle.tg_traversal.specs.declared.position.Ask.TheVariants as asks
use Rattle.tg_traversal.specs.declared.position.Position.TheVariants as positions
use Rattle.tg_model.specs.declared.queries.Scope.TheVariants as scopes
use Rattle.std.proofs.Common.{Err, List, None, Ok, Option, Result, Some, ap, append_assoc, false, length, refl, subst, sym, true, ℕ, ◌++◌, ◌∙◌, ◌≡◌, ◌≢◌}
use Rattle.std.specs.Prelude.{Bool, OnOk}
use Rattle.std.proofs.lemmas.Result.{on_ok_weaker}
use Rattle.tg_model.specs.Fits.{is_block}
use Rattle.tg_traversal.specs.Places.{reach_of}
use Rattle.tg_traversal.specs.declared.position.Reach.{Reach}
use Rattle.tg_model.specs.Sound.{top}
use Rattle.tg_cid.specs.Cid.{CidParts}
use Rattle.tg_traversal.specs.Left.{HasOneAtMost, IsPlaceOnPath, IsReadHere, LeftState, WantedAt, missed_tasks, wanted_at, wanted_tasks}
use Rattle.tg_traversal.specs.Opening.{IsParted, IsReadBy, IsStepLeft}
use Rattle.tg_traversal.specs.Places.{standing_of, want_of}
use Rattle.tg_traversal.specs.declared.position.Ask.{Ask}
use Rattle.tg_traversal.specs.declared.position.Miss.{Miss}
use Rattle.tg_traversal.specs.declared.position.Place.{Place}
use Rattle.tg_traversal.specs.declared.position.Position.{Position}
use Rattle.tg_traversal.proofs.Opened.{at_place, place_wanted}
use Rattle.tg_traversal.specs.FaultLaws.{fault_same}
use Rattle.tg_model.specs.Dag.{Section, links_of}
use Rattle.tg_model.specs.Queries.{QueryParts}
use Rattle.tg_model.specs.declared.kinds.Kind.{Kind}
use Rattle.tg_model.specs.declared.placed.PlacedKind.{PlacedKind}
use Rattle.tg_model.specs.declared.queries.Scope.{Scope}
use Rattle.tg_model_laws.specs.Tasks.{Task, Want, fault_at, is_read_at, node_tasks, tasks_of, terminal_tasks, terminal_want}

-- where a block is wanted, no segment led nowhere
pub none_missed : (wanted : Option Place) (place : Place) (missed : Option Miss) → wanted ≡ Some place → HasOneAtMost wanted missed → missed ≡ None
none_missed wanted place missed e h = subst (λ (w : Option Place). HasOneAtMost w missed) e h

-- the frames are all that is left behind it
pub frames_later : (wanted : Option Place) (place : Place) (missed : Option Miss) (stack later : List (Task CidParts)) → wanted ≡ Some place → HasOneAtMost wanted missed
    → missed_tasks missed ++ stack ≡ later → stack ≡ later
frames_later wanted place missed stack later e h g =
    sym (ap (λ (m : Option Miss). missed_tasks m ++ stack) (none_missed wanted place missed e h)) ∙ g

-- ---- a segment

abbrev StepTasks : QueryParts → ℕ → Position → ℕ → Section → Kind → List (Task CidParts)
StepTasks q i position depth section kind = tasks_of q (want_of q.path (asks.Segment i position) depth) section kind (links_of kind)

parted_tasks : (q : QueryParts) (i : ℕ) (position : Position) (depth : ℕ) (section : Section) (kind : Kind) (stepped : Result Place Miss) (wanted : Option Place) (missed : Option Miss)
    → IsStepLeft q i position depth section kind stepped → IsParted stepped wanted missed
    → wanted_tasks (wanted_at q.path wanted) ++ missed_tasks missed ≡ StepTasks q i position depth section kind
parted_tasks q i position depth section kind (Ok place) wanted missed h (w, m) = rw w (rw m (sym h.0))
parted_tasks q i position depth section kind (Err miss) wanted missed h (w, m) = rw w (rw m (sym h))

pub parted_one : (stepped : Result Place Miss) (wanted : Option Place) (missed : Option Miss) → IsParted stepped wanted missed → HasOneAtMost wanted missed
parted_one (Ok place) wanted missed (w, m) = subst (λ (o : Option Place). HasOneAtMost o missed) (sym w) m
parted_one (Err miss) wanted missed (w, m) = subst (λ (o : Option Place). HasOneAtMost o missed) (sym w) _

pub parted_on_path : (q : QueryParts) (i : ℕ) (position : Position) (depth : ℕ) (section : Section) (kind : Kind) (stepped : Result Place Miss) (wanted : Option Place) (missed : Option Miss)
    → IsStepLeft q i position depth section kind stepped → IsParted stepped wanted missed → IsPlaceOnPath wanted (length q.path)
parted_on_path q i position depth section kind (Ok place) wanted missed h (w, m) = subst (λ (o : Option Place). IsPlaceOnPath o (length q.path)) (sym w) h.1
parted_on_path q i position depth section kind (Err miss) wanted missed h (w, m) = subst (λ (o : Option Place). IsPlaceOnPath o (length q.path)) (sym w) _

segment_at : (q : QueryParts) (place : Place) (i : ℕ) (position : Position) (at : WantedAt) → at ≡ at_place q.path place → place.ask ≡ asks.Segment i position
    → at.want ≡ want_of q.path (asks.Segment i position) place.depth
segment_at q place i position at e g = ap (λ (a : WantedAt). a.want) e ∙ ap (λ (ask : Ask). want_of q.path ask place.depth) g

pub stepped_left : (q : QueryParts) (before : Option Place) (place : Place) (i : ℕ) (position : Position) (gone : Option Miss) (stack : List (Task CidParts)) (state : LeftState)
    (stepped : Result Place Miss) (wanted : Option Place) (missed : Option Miss) (found : PlacedKind)
    → before ≡ Some place → place.ask ≡ asks.Segment i position → HasOneAtMost before gone → record { query = q; wanted = wanted_at q.path before; later = missed_tasks gone ++ stack } ≡ state
    → ((section : Section) (kind : Kind) → IsReadBy position section kind found → IsStepLeft q i position place.depth section kind stepped) → IsParted stepped wanted missed
    → ((at : WantedAt) (section : Section) (kind : Kind) → IsReadHere state at section kind found → IsReadBy position section kind found)
    → (at : WantedAt) (section : Section) (kind : Kind) → IsReadHere state at section kind found
    → wanted_tasks (wanted_at q.path wanted) ++ (missed_tasks missed ++ stack) ≡ tasks_of state.query at.want section kind (links_of kind) ++ state.later
stepped_left q before place i position gone stack state stepped wanted missed found b a one same left parts reads at section kind here =
    let there : at ≡ at_place q.path place = place_wanted q.path before place state.wanted at b (ap (λ (s : LeftState). s.wanted) same) here.wanted in
    let want : at.want ≡ want_of q.path (asks.Segment i position) place.depth = segment_at q place i position at there a in
    let behind : stack ≡ state.later = frames_later before place gone stack state.later b one (ap (λ (s : LeftState). s.later) same) in
    let first : wanted_tasks (wanted_at q.path wanted) ++ missed_tasks missed ≡ StepTasks q i position place.depth section kind
    = parted_tasks q i position place.depth section kind stepped wanted missed (left section kind (reads at section kind here)) parts in
    let asked : tasks_of state.query at.want section kind (links_of kind) ≡ StepTasks q i position place.depth section kind
    = ap (λ (p : QueryParts). tasks_of p at.want section kind (links_of kind)) (sym (ap (λ (s : LeftState). s.query) same))
    ∙ ap (λ (w : Want). tasks_of q w section kind (links_of kind)) want in
    sym (append_assoc (wanted_tasks (wanted_at q.path wanted)) (missed_tasks missed) stack)
    ∙ ap (λ (l : List (Task CidParts)). l ++ stack) (first ∙ sym asked)
    ∙ ap (λ (l : List (Task CidParts)). tasks_of state.query at.want section kind (links_of kind) ++ l) behind

-- ---- a terminal

pub not_block : (scope asked : Scope) (answer : Bool) → asked ≡ scope → answer ≡ is_block asked → answer ≡ false → scope ≢ scopes.Block
not_block scope asked answer e f g h = absurd (let t : is_block asked ≡ true = ap is_block (e ∙ h) in cc)

read_terminal : (scope : Scope) (q : QueryParts) (depth : ℕ) → q.scope ≡ scope → q.scope ≢ scopes.Block → is_read_at q (terminal_want depth) ≡ true
read_terminal scopes.Block q depth e other = absurd (other e)
read_terminal scopes.Entity q depth e other = rw e refl
read_terminal scopes.All q depth e other = rw e refl

terminal_at : (q : QueryParts) (place : Place) (at : WantedAt) → at ≡ at_place q.path place → place.ask ≡ asks.Terminal → at.want ≡ terminal_want place.depth
terminal_at q place at e g = ap (λ (a : WantedAt). a.want) e ∙ ap (λ (ask : Ask). want_of q.path ask place.depth) g

read_at_top : (q : QueryParts) (state : LeftState) (place : Place) (at : WantedAt) (section : Section) (kind : Kind) (found : PlacedKind)
    → q ≡ state.query → at.want ≡ terminal_want place.depth → q.scope ≢ scopes.Block → IsReadHere state at section kind found → IsReadBy positions.Top section kind found
read_at_top q state place at section kind found e w other here =
    let told : fault_at q (terminal_want place.depth) kind ≡ None = ap (λ (want : Want). fault_at q want kind) (sym w) ∙ ap (λ (p : QueryParts). fault_at p at.want kind) e ∙ here.fits in
    record {
      reads = here.reads;
      fits = sym (fault_same q (terminal_want place.depth) kind (read_terminal q.scope q place.depth refl other)) ∙ told;
      stands = here.stands;
    }

pub terminal_left : {A E : Type 0} (q : QueryParts) (before after : Option Place) (place : Place) (gone : Option Miss) (stack now : List (Task CidParts)) (state : LeftState)
    (reach : Reach) (frame : List (Task CidParts)) (result : Result A E) (found : PlacedKind) (block : List ℕ)
    → before ≡ Some place → after ≡ None → place.ask ≡ asks.Terminal → HasOneAtMost before gone → q.scope ≢ scopes.Block
    → record { query = q; wanted = wanted_at q.path before; later = missed_tasks gone ++ stack } ≡ state
    → ((depth : ℕ) (section : Section) (kind : Kind) → IsReadBy positions.Top section kind found → q.scope ≢ scopes.Block
    → node_tasks (reach_of reach) top depth kind (links_of kind) ≡ terminal_tasks q.scope q.span depth section kind (links_of kind))
    → ((section : Section) (kind : Kind) → IsReadBy positions.Top section kind found → section.block ≡ block
    → frame ≡ node_tasks (reach_of reach) (standing_of positions.Top) place.depth kind (links_of kind))
    → OnOk result (now ≡ frame ++ stack)
    → (at : WantedAt) (section : Section) (kind : Kind) → IsReadHere state at section kind found → section.block ≡ block
    → OnOk result (wanted_tasks (wanted_at q.path after) ++ (missed_tasks gone ++ now) ≡ tasks_of state.query at.want section kind (links_of kind) ++ state.later)
terminal_left q before after place gone stack now state reach frame result found block b n a one other same asked framed pushed at section kind here is =
    let there : at ≡ at_place q.path place = place_wanted q.path before place state.wanted at b (ap (λ (s : LeftState). s.wanted) same) here.wanted in
    let want : at.want ≡ terminal_want place.depth = terminal_at q place at there a in
    let query : q ≡ state.query = ap (λ (s : LeftState). s.query) same in
    let behind : stack ≡ state.later = frames_later before place gone stack state.later b one (ap (λ (s : LeftState). s.later) same) in
    let reads : IsReadBy positions.Top section kind found = read_at_top q state place at section kind found query want other here in
    let first : frame ≡ terminal_tasks q.scope q.span place.depth section kind (links_of kind) = framed section kind reads is ∙ asked place.depth section kind reads other in
    let wanted : tasks_of state.query at.want section kind (links_of kind) ≡ tasks_of q (terminal_want place.depth) section kind (links_of kind)
    = ap (λ (p : QueryParts). tasks_of p at.want section kind (links_of kind)) (sym query) ∙ ap (λ (w : Want). tasks_of q w section kind (links_of kind)) want in
    let none : missed_tasks gone ++ now ≡ now = ap (λ (m : Option Miss). missed_tasks m ++ now) (none_missed before place gone b one) in
    on_ok_weaker result (λ (p : now ≡ frame ++ stack).
    ap (λ (o : Option Place). wanted_tasks (wanted_at q.path o) ++ (missed_tasks gone ++ now)) n ∙ none ∙ p
    ∙ ap (λ (l : List (Task CidParts)). l ++ stack) (first ∙ sym wanted)
    ∙ ap (λ (l : List (Task CidParts)). tasks_of state.query at.want section kind (links_of kind) ++ l) behind) pushed
