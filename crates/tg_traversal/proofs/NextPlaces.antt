-- What stays wanted or missed, and that the place of a child asks for no segment of the path.
use Rattle.tg_traversal.specs.declared.position.Ask.TheVariants as asks
use Rattle.std.proofs.Common.{◌≡◌, ap, ap₂, drop, false, List, None, Option, Some, refl, sym, true, ℕ, zero, suc, [], ◌∷◌, ◌++◌, ◌∙◌}
use Rattle.std.proofs.Math.Seq.{drop-nil}
use Rattle.std.specs.Option.{is_some}
use Rattle.tg_cid.specs.Cid.{CidParts}
use Rattle.tg_traversal.specs.Frames.{IsOfChild}
use Rattle.tg_traversal.specs.Left.{HasOneAtMost, IsOnPath, IsPlaceOnPath, LeftState, WantedAt, missed_tasks, tasks_left, wanted_at, wanted_tasks}
use Rattle.tg_traversal.specs.Places.{missing_of, standing_of, step_want, want_of}
use Rattle.tg_traversal.specs.declared.position.Ask.{Ask}
use Rattle.tg_traversal.specs.declared.position.Miss.{Miss}
use Rattle.tg_traversal.specs.declared.position.Place.{Place}
use Rattle.tg_traversal.specs.declared.position.Position.{Position}
use Rattle.tg_model_laws.specs.Tasks.{Task, segment_want, stop_at, terminal_want}

pub still_wanted : (state : LeftState) (path : List (List ℕ)) (place : Option Place) → state.wanted ≡ wanted_at path place → true ≡ is_some place
    → (at : WantedAt) × (state.wanted ≡ Some at) × (tasks_left state ≡ tasks_left state)
still_wanted state path None e h = absurd (cc)
still_wanted state path (Some place) e h = (record { want = want_of path place.ask place.depth; cid = place.cid }, e, refl)

pub still_missed : (state : LeftState) (path : List (List ℕ)) (place : Option Place) (missed : Option Miss) (miss : Miss) (more : List (Task CidParts))
    → state.wanted ≡ wanted_at path place → state.later ≡ missed_tasks missed ++ more → false ≡ is_some place → missed ≡ Some miss
    → tasks_left state ≡ stop_at (missing_of miss) ∷ more
still_missed state path None missed miss more e g h k =
    ap₂ (λ (wanted : Option WantedAt) (later : List (Task CidParts)). wanted_tasks wanted ++ later) e (g ∙ ap (λ (missed : Option Miss). missed_tasks missed ++ more) k)
still_missed state path (Some place) missed miss more e g h k = absurd (cc)

-- ---- a child's place asks the same whatever the path is, so that it asks for no segment

-- a path of which one segment is left behind so many
abbrev path_past : ℕ → List (List ℕ)
path_past zero = [] ∷ []
path_past (suc i) = [] ∷ path_past i

one_left : (i : ℕ) → drop i (path_past i) ≡ [] ∷ []
one_left zero = refl
one_left (suc i) = one_left i

no_segment : (i : ℕ) (position : Position) (depth : ℕ)
    → ((path : List (List ℕ)) → want_of path (asks.Segment i position) depth ≡ want_of [] (asks.Segment i position) depth) → ⊥
no_segment i position depth h =
    let same : segment_want i (standing_of position) [] [] depth ≡ terminal_want depth =
    ap (λ (names : List (List ℕ)). step_want i (standing_of position) names depth) (sym (one_left i)) ∙ h (path_past i)
    ∙ ap (λ (names : List (List ℕ)). step_want i (standing_of position) names depth) (drop-nil i) in
    absurd (cc)

ask_on_path : (ask : Ask) (depth segments : ℕ) → ((path : List (List ℕ)) → want_of path ask depth ≡ want_of [] ask depth) → IsOnPath ask segments
ask_on_path (asks.Segment i position) depth segments h = absurd (no_segment i position depth h)
ask_on_path asks.Terminal depth segments h = tt
ask_on_path (asks.Node reach position) depth segments h = tt

pub child_on_path : (into : Option Place) (segments : ℕ) → IsOfChild into → IsPlaceOnPath into segments
child_on_path None segments h = tt
child_on_path (Some place) segments h = ask_on_path place.ask place.depth segments h

pub one_at_most : (into : Option Place) (missed : Option Miss) → missed ≡ None → HasOneAtMost into missed
one_at_most None missed e = tt
one_at_most (Some place) missed e = e
