-- What a verifier's answers mean for each sound DAG with the query's root.
use Rattle.std.specs.Prelude.{Err, List, Ok, Result, Some, ⊤, ℕ, ◌<◌, ◌≡◌, ◌⊎◌}
use Rattle.tg_model.specs.Answer.{answer}
use Rattle.tg_model.specs.Counts.{counts}
use Rattle.tg_model.specs.Dag.{Dag, Section, root_cid}
use Rattle.tg_model.specs.Fits.{CollisionPair, IsFrontOfAnswer}
use Rattle.tg_model.specs.LimitNumbers.{number_of}
use Rattle.tg_model.specs.Lookup.{lookup_path}
use Rattle.tg_model.specs.Lookup as lookups
use Rattle.tg_model.specs.Queries.{QueryParts}
use Rattle.tg_model.specs.Sound.{IsSound}
use Rattle.tg_model.specs.declared.limits.LimitKind.TheVariants as kinds
use Rattle.tg_verify.specs.declared.fault.Refusal.{Refusal}
use Rattle.tg_verify.specs.declared.fault.Refusal.TheVariants as refusals
use Rattle.tg_verify.specs.declared.verifier.Progress.{Progress}
use Rattle.tg_verify.specs.declared.verifier.Progress.TheVariants as progresses

-- what is written is the DAG's answer, or a received block and one of the DAG are a collision pair
abbrev pub IsItsAnswer : QueryParts → Dag → List Section → List ℕ → Type 0
IsItsAnswer q d sections written = (answer q d ≡ Some written) ⊎ CollisionPair sections d

-- what is written is a front of the DAG's answer, and nothing where it has none; or there is a pair
abbrev pub IsItsFront : QueryParts → Dag → List Section → List ℕ → Type 0
IsItsFront q d sections written = IsFrontOfAnswer written (answer q d) ⊎ CollisionPair sections d

-- what a refusal says of the DAG: its path leads nowhere at that segment; it counts more than the limit; or there is a
-- pair. Of the size of a block that was received, and of bytes that were fed, it says nothing
abbrev pub SaysOfDag : QueryParts → Dag → List Section → Refusal → Type 0
SaysOfDag q d sections (refusals.NotThere segment) =
    (lookup_path q.path d ≡ lookups.not_there segment) ⊎ CollisionPair sections d
SaysOfDag q d sections (refusals.NotFolder segment) =
    (lookup_path q.path d ≡ lookups.not_folder segment) ⊎ CollisionPair sections d
SaysOfDag q d sections (refusals.Limit kinds.Block number) = ⊤
SaysOfDag q d sections (refusals.Limit kinds.Received number) = ⊤
SaysOfDag q d sections (refusals.Limit kind number) = (number < number_of kind (counts q d)) ⊎ CollisionPair sections d
SaysOfDag q d sections (refusals.BadBlock cid fault) = CollisionPair sections d
SaysOfDag q d sections (refusals.BadSize declared actual) = CollisionPair sections d
SaysOfDag q d sections other = ⊤

-- of an answer to a section
abbrev pub AnswersFor : QueryParts → Dag → List Section → List ℕ → Result Progress Refusal → Type 0
AnswersFor q d sections written (Ok progresses.More) = IsItsFront q d sections written
AnswersFor q d sections written (Ok progresses.Done) = IsItsAnswer q d sections written
AnswersFor q d sections written (Err fault) = IsItsFront q d sections written × SaysOfDag q d sections fault

-- of an answer that no more come
abbrev pub EndsFor : QueryParts → Dag → List Section → List ℕ → Result ⊤ Refusal → Type 0
EndsFor q d sections written (Ok done) = IsItsAnswer q d sections written
EndsFor q d sections written (Err fault) = IsItsFront q d sections written × SaysOfDag q d sections fault

-- for each sound DAG with the query's root
abbrev pub ForEachSound : QueryParts → (Dag → Type 0) → Type 0
ForEachSound q P = (d : Dag) → IsSound d → root_cid d ≡ q.root → P d
