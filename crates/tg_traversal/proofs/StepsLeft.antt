-- What the step with a segment leaves.
use Rattle.tg_model.specs.declared.kinds.Kind.TheVariants as kinds
use Rattle.tg_model.specs.declared.kinds.Step.TheVariants as steps
use Rattle.tg_model.specs.declared.placed.PlacedKind.TheVariants as placed
use Rattle.std.proofs.Common.{◌≡◌, ◌∙◌, ap, sym, subst, refl, List, Some, [], get_or, drop, length, suc, zero, ℕ, ◌+◌, ◌<◌, ◌∷◌}
use Rattle.std.specs.Prelude.{slice_get}
use Rattle.std.proofs.lemmas.List.{drop_more}
use Rattle.tg_cid.specs.Cid.{CidParts}
use Rattle.tg_traversal.specs.Opening.{directory_kind}
use Rattle.tg_traversal.specs.Places.{step_want}
use Rattle.tg_traversal.proofs.Reaches.{basic_kind, file_kind, link_kind, raw_kind, shard_kind}
use Rattle.tg_model.specs.Dag.{Section, links_of}
use Rattle.tg_model.specs.PathWalk.{StepTo, absent, not_folder_here, step_of, to_child, to_entry}
use Rattle.tg_model.specs.Placed.{StandsForKind}
use Rattle.tg_model.specs.Queries.{QueryParts}
use Rattle.tg_model.specs.Sound.{passed}
use Rattle.tg_model.specs.Sound.{Position as Standing}
use Rattle.tg_model.specs.StepAnswers.{IsStepOver}
use Rattle.tg_model.specs.declared.kinds.Kind.{Kind}
use Rattle.tg_model.specs.declared.kinds.Step.{Step}
use Rattle.tg_model.specs.declared.placed.PlacedKind.{PlacedKind}
use Rattle.tg_model_laws.specs.Tasks.{Want, link_tasks, no_directory, no_entry, open_block, path_want, position_below, segment_want, step_tasks, stop_at, tasks_of}

-- ---- what is taken of the links

link_left : (k i : ℕ) (w : Want) (xs : List CidParts) (cid : CidParts) → slice_get xs k ≡ Some cid → link_tasks k i w xs ≡ open_block w cid ∷ []
link_left k i w [] cid h = absurd (cc)
link_left zero i w (x ∷ xs) cid h = let e : x ≡ cid = cc in ap (λ (cid : CidParts). open_block w cid ∷ []) e
link_left (suc k) i w (x ∷ xs) cid h = link_left k i w xs cid h

pub found_left : (i : ℕ) (entry inner : Want) (step : StepTo) (xs : List CidParts) (cid : CidParts) → IsStepOver xs step (steps.Found cid)
    → step_tasks i entry inner step xs ≡ open_block entry cid ∷ []
found_left i entry inner (to_entry k) xs cid h = link_left k (i + 1) entry xs cid h
found_left i entry inner (to_child k) xs cid h = absurd h
found_left i entry inner absent xs cid h = absurd h
found_left i entry inner not_folder_here xs cid h = absurd h

pub down_left : (i : ℕ) (entry inner : Want) (step : StepTo) (xs : List CidParts) (cid : CidParts) → IsStepOver xs step (steps.Down cid)
    → step_tasks i entry inner step xs ≡ open_block inner cid ∷ []
down_left i entry inner (to_entry k) xs cid h = absurd h
down_left i entry inner (to_child k) xs cid h = link_left k i inner xs cid h
down_left i entry inner absent xs cid h = absurd h
down_left i entry inner not_folder_here xs cid h = absurd h

pub absent_left : (i : ℕ) (entry inner : Want) (step : StepTo) (xs : List CidParts) → IsStepOver xs step steps.Absent
    → step_tasks i entry inner step xs ≡ stop_at (no_entry i) ∷ []
absent_left i entry inner (to_entry k) xs h = absurd h
absent_left i entry inner (to_child k) xs h = absurd h
absent_left i entry inner absent xs h = refl
absent_left i entry inner not_folder_here xs h = absurd h

pub nowhere_left : (i : ℕ) (entry inner : Want) (step : StepTo) (xs : List CidParts) → IsStepOver xs step steps.NotFolder
    → step_tasks i entry inner step xs ≡ stop_at (no_directory i) ∷ []
nowhere_left i entry inner (to_entry k) xs h = absurd h
nowhere_left i entry inner (to_child k) xs h = absurd h
nowhere_left i entry inner absent xs h = absurd h
nowhere_left i entry inner not_folder_here xs h = refl

-- ---- the step from the kind

not_folder_any : (xs ys : List CidParts) (answer : Step) → IsStepOver xs not_folder_here answer → IsStepOver ys not_folder_here answer
not_folder_any xs ys (steps.Found cid) h = h
not_folder_any xs ys (steps.Down cid) h = h
not_folder_any xs ys steps.Absent h = h
not_folder_any xs ys steps.NotFolder h = h

abbrev pub IsStepFrom : Kind → ℕ → List ℕ → Step → Type 0
IsStepFrom kind level name answer = IsStepOver (links_of kind) (step_of kind level name) answer

pub step_from_kind : (block : List ℕ) (found : PlacedKind) (kind : Kind) (level : ℕ) (name : List ℕ) (answer : Step) → StandsForKind block found kind
    → IsStepFrom (directory_kind found) level name answer → IsStepFrom kind level name answer
step_from_kind block placed.Raw kind level name answer stands h =
    subst (λ (k : Kind). IsStepFrom k level name answer) (sym (raw_kind block kind stands)) h
step_from_kind block (placed.File places) kind level name answer stands h =
    let file = file_kind block places kind stands in
    subst (λ (k : Kind). IsStepFrom k level name answer) (sym file.kind_is) (not_folder_any [] (links_of (kinds.File file.inline file.filesize file.parts)) answer h)
step_from_kind block (placed.Basic entries) kind level name answer stands h =
    subst (λ (k : Kind). IsStepFrom k level name answer) (sym (basic_kind block entries kind stands)) h
step_from_kind block (placed.Shard slots) kind level name answer stands h =
    subst (λ (k : Kind). IsStepFrom k level name answer) (sym (shard_kind block slots kind stands)) h
step_from_kind block (placed.Symlink target) kind level name answer stands h =
    let link = link_kind block (placed.Symlink target) kind tt stands in
    subst (λ (k : Kind). IsStepFrom k level name answer) (sym link.1) (not_folder_any [] [] answer h)

-- ---- with the segment that is asked for

pub segment_there : (i : ℕ) (standing : Standing) (path : List (List ℕ)) (depth : ℕ) (name other : List ℕ) → i < length path → name ≡ get_or path i other
    → step_want i standing (drop i path) depth ≡ segment_want i standing name (drop (i + 1) path) depth
segment_there i standing path depth name other h e =
    ap (λ (names : List (List ℕ)). step_want i standing names depth) (drop_more path i other h)
    ∙ ap (λ (n : List ℕ). segment_want i standing n (drop (i + 1) path) depth) (sym e)

-- the step of a segment, and that the segment of the path has this name
pub record IsStepThere (q : QueryParts) (i : ℕ) (standing : Standing) (depth : ℕ) (section : Section) (kind : Kind) (name : List ℕ) (answer : Step) : Type 0 where
  pub step : StepTo
  pub over : IsStepOver (links_of kind) step answer
  pub tasks : tasks_of q (step_want i standing (drop i q.path) depth) section kind (links_of kind)
      ≡ step_tasks i (path_want (i + 1) (drop (i + 1) q.path) (depth + 1)) (segment_want i (position_below standing name) name (drop (i + 1) q.path) (depth + 1)) step (links_of kind)
  pub segment : (at : Standing) (below : ℕ) → step_want i at (drop i q.path) below ≡ segment_want i at name (drop (i + 1) q.path) below

-- from what the calls give: the path, its segment, what was passed, the kind, and the answer
pub step_there : (q : QueryParts) (i : ℕ) (standing : Standing) (depth : ℕ) (section : Section) (kind : Kind) (found : PlacedKind) (answer : Step)
    (other : List ℕ) {folder : Kind} {above name : List ℕ} {path : List (List ℕ)} {given : Step} → i < length q.path → name ≡ get_or path i other → path ≡ q.path → above ≡ passed standing
    → folder ≡ directory_kind found → StandsForKind section.block found kind → given ≡ answer → IsStepFrom folder (length above) name given
    → IsStepThere q i standing depth section kind name answer
step_there q i standing depth section kind found answer other {folder} {above} {name} {path} {given} inside named same passed_is folder_is stands is over =
    let segment = λ (at : Standing) (below : ℕ). segment_there i at q.path below name other inside (named ∙ ap (λ (p : List (List ℕ)). get_or p i other) same) in
    record {
      step = step_of kind (length (passed standing)) name;
      over = step_from_kind section.block found kind (length (passed standing)) name answer stands
          (subst (λ (k : Kind). IsStepFrom k (length (passed standing)) name answer) folder_is
          (subst (λ (above : List ℕ). IsStepFrom folder (length above) name answer) passed_is
          (subst (λ (answer : Step). IsStepFrom folder (length above) name answer) is over)));
      tasks = ap (λ (w : Want). tasks_of q w section kind (links_of kind)) (segment standing depth);
      segment = segment;
    }
