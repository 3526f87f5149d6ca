-- What follows from what a verifier stands for.
use Rattle.std.specs.Prelude.{List, None, Some, ⊤, ℕ, ◌++◌, ◌≡◌, ◌⊎◌}
use Rattle.tg_traversal.specs.Left.{WantedAt}
use Rattle.tg_model.specs.Counts.{counts}
use Rattle.tg_model.specs.Dag.{Dag, Section, root_cid}
use Rattle.tg_model.specs.Fits.{Fits, IsInProgress, IsOpenedFor, output_so_far}
use Rattle.tg_model.specs.LimitNumbers.{AreWithin, LimitNumbers}
use Rattle.tg_model.specs.PathWalk.{Spot, stopped}
use Rattle.tg_model.specs.Queries.{QueryParts}
use Rattle.tg_model.specs.Sound.{IsSound}
use Rattle.tg_model.specs.Traversal.{block_list, traversal}
use Rattle.tg_model_laws.specs.Tasks.{Miss, no_directory, no_entry, spot_of, stop_of}
use Rattle.tg_verify.specs.Refusals.{HasRefused}
use Rattle.tg_verify.specs.Sound.{IsItsAnswer, IsItsFront, SaysOfDag}
use Rattle.tg_verify.specs.State.{VerifierState}
use Rattle.tg_verify.specs.Taken.{IsGoing, IsNowhere, IsThrough, IsUpTo}
use Rattle.tg_verify.specs.declared.fault.Refusal.{Refusal}
use Rattle.tg_verify.specs.declared.fault.Refusal.TheVariants as refusals

-- ---- what the sections are

-- they are in progress, the block is wanted for the spot, and the output so far is written
pub record IsProgressOf (q : QueryParts) (sections : List Section) (written : List ℕ) (wanted : Spot) : Type 0 where
  pub s : Dag
  pub progress : IsInProgress s q sections wanted
  pub output : output_so_far q s ≡ written

-- they fit, and their text is written
pub record IsFitOf (q : QueryParts) (sections : List Section) (written : List ℕ) : Type 0 where
  pub s : Dag
  pub fits : Fits s q sections written

-- they open a DAG in which a segment of the path leads nowhere
pub record IsNowhereOf (q : QueryParts) (sections : List Section) (written : List ℕ) (miss : Miss) : Type 0 where
  pub s : Dag
  pub opened : IsOpenedFor s q
  pub list : block_list q s ≡ sections
  pub end : (traversal q s).end ≡ stopped (stop_of miss)
  pub output : output_so_far q s ≡ written

abbrev pub UpToProgress : Type 0
UpToProgress = (q : QueryParts) (limits : LimitNumbers) (sections : List Section) (written : List ℕ) (at : WantedAt) → IsUpTo q limits sections written at → IsProgressOf q sections written (spot_of at.want at.cid)

abbrev pub ThroughFits : Type 0
ThroughFits = (q : QueryParts) (limits : LimitNumbers) (sections : List Section) (written : List ℕ) → IsThrough q limits sections written → IsFitOf q sections written

abbrev pub NowhereLeads : Type 0
NowhereLeads = (q : QueryParts) (limits : LimitNumbers) (sections : List Section) (written : List ℕ) (miss : Miss) → IsNowhere q limits sections written miss → IsNowhereOf q sections written miss

-- ---- a verifier that goes on, by whether a block is wanted

abbrev pub GoingUpTo : Type 0
GoingUpTo = (state : VerifierState) (sections : List Section) (written : List ℕ) → IsGoing state sections written → (at : WantedAt) → state.left.wanted ≡ Some at
    → IsUpTo state.left.query state.limits sections written at

abbrev pub GoingThrough : Type 0
GoingThrough = (state : VerifierState) (sections : List Section) (written : List ℕ) → IsGoing state sections written → state.left.wanted ≡ None
    → IsThrough state.left.query state.limits sections written

-- ---- beside each sound DAG of the query's root

-- an answer is a front of itself
abbrev pub AnswerIsFront : Type 0
AnswerIsFront = (q : QueryParts) (d : Dag) (sections : List Section) (written : List ℕ) → IsItsAnswer q d sections written → IsItsFront q d sections written

abbrev pub UpToSound : Type 0
UpToSound = (q : QueryParts) (limits : LimitNumbers) (d : Dag) (sections : List Section) (written : List ℕ) (at : WantedAt) → IsSound d → root_cid d ≡ q.root
    → IsUpTo q limits sections written at → IsItsFront q d sections written

abbrev pub ThroughSound : Type 0
ThroughSound = (q : QueryParts) (limits : LimitNumbers) (d : Dag) (sections : List Section) (written : List ℕ) → IsSound d → root_cid d ≡ q.root
    → IsThrough q limits sections written → IsItsAnswer q d sections written

abbrev pub RefusedSound : Type 0
RefusedSound = (q : QueryParts) (limits : LimitNumbers) (d : Dag) (sections : List Section) (written : List ℕ) (fault : Refusal) → IsSound d → root_cid d ≡ q.root
    → HasRefused q limits sections written fault → IsItsFront q d sections written × SaysOfDag q d sections fault

-- ---- sections that fit, or are in progress, are taken

-- no count of the DAG for the query is above its limit
abbrev pub IsWithinLimits : QueryParts → LimitNumbers → Dag → Type 0
IsWithinLimits q limits d = AreWithin limits (counts q d)

-- a fault of out, or want of memory
abbrev pub IsOwnFault : Refusal → Type 0
IsOwnFault refusals.SinkFault = ⊤
IsOwnFault refusals.OutOfMemory = ⊤
IsOwnFault (refusals.Truncated want number) = ⊤
IsOwnFault other = ⊥

-- the refusal of this segment
abbrev pub IsMissOf : Miss → Refusal → Type 0
IsMissOf (no_entry i) (refusals.NotThere segment) = segment ≡ i
IsMissOf (no_directory i) (refusals.NotFolder segment) = segment ≡ i
IsMissOf miss other = ⊥

-- no front of sections that fit, or that are in progress, is refused for what it is
abbrev pub FitIsTaken : Type 0
FitIsTaken = (q : QueryParts) (limits : LimitNumbers) (d : Dag) (sections rest : List Section) (written text : List ℕ) (fault : Refusal)
    → Fits d q (sections ++ rest) text → IsWithinLimits q limits d → HasRefused q limits sections written fault → IsOwnFault fault

abbrev pub ProgressIsTaken : Type 0
ProgressIsTaken = (q : QueryParts) (limits : LimitNumbers) (d : Dag) (sections rest : List Section) (written : List ℕ) (wanted : Spot) (fault : Refusal)
    → IsInProgress d q (sections ++ rest) wanted → IsWithinLimits q limits d → HasRefused q limits sections written fault → IsOwnFault fault

-- nor is a front of sections that open a DAG in which a segment of the path leads nowhere, but for that segment
abbrev pub NowhereIsTaken : Type 0
NowhereIsTaken = (q : QueryParts) (limits : LimitNumbers) (d : Dag) (sections rest : List Section) (written : List ℕ) (miss : Miss) (fault : Refusal)
    → IsOpenedFor d q → block_list q d ≡ sections ++ rest → (traversal q d).end ≡ stopped (stop_of miss) → IsWithinLimits q limits d
    → HasRefused q limits sections written fault → IsMissOf miss fault ⊎ IsOwnFault fault

-- once all sections that fit were taken no block is wanted, and their text is written; and for those in progress it is
-- the wanted one
abbrev pub FitIsThrough : Type 0
FitIsThrough = (state : VerifierState) (d : Dag) (sections : List Section) (written text : List ℕ) → Fits d state.left.query sections text → IsGoing state sections written
    → (state.left.wanted ≡ None) × (written ≡ text)

abbrev pub ProgressIsUpTo : Type 0
ProgressIsUpTo = (state : VerifierState) (d : Dag) (sections : List Section) (written : List ℕ) (wanted : Spot) → IsInProgress d state.left.query sections wanted
    → IsGoing state sections written → (at : WantedAt) × (state.left.wanted ≡ Some at) × (spot_of at.want at.cid ≡ wanted) × (written ≡ output_so_far state.left.query d)

-- all of these
pub record AnswerLaws : Type 0 where
  pub up_to : UpToProgress
  pub through : ThroughFits
  pub nowhere : NowhereLeads
  pub sound_up_to : UpToSound
  pub sound_through : ThroughSound
  pub sound_refused : RefusedSound
  pub fit_taken : FitIsTaken
  pub progress_taken : ProgressIsTaken
  pub nowhere_taken : NowhereIsTaken
  pub fit_through : FitIsThrough
  pub progress_up_to : ProgressIsUpTo
  pub going_up_to : GoingUpTo
  pub going_through : GoingThrough
  pub answer_front : AnswerIsFront
