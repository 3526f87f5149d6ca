-- The sections of a sound DAG's own traversal are taken, and give its answer.
use Rattle.std.specs.Prelude.{List, None, Some, ℕ, ◌++◌, ◌≡◌}
use Rattle.tg_model.specs.Answer.{answer}
use Rattle.tg_model.specs.Dag.{Dag, Section, root_cid}
use Rattle.tg_model.specs.Fits.{HasOneBlockEach, IfOnce}
use Rattle.tg_model.specs.LimitNumbers.{LimitNumbers}
use Rattle.tg_model.specs.Queries.{QueryParts}
use Rattle.tg_model.specs.Sound.{IsSound}
use Rattle.tg_model.specs.Traversal.{block_list, opened_list}
use Rattle.tg_verify.specs.Laws.{IsOwnFault, IsWithinLimits}
use Rattle.tg_verify.specs.Refusals.{HasRefused}
use Rattle.tg_verify.specs.State.{VerifierState}
use Rattle.tg_verify.specs.Taken.{IsGoing}
use Rattle.tg_verify.specs.declared.fault.Refusal.{Refusal}

-- no front of them is refused for what it is, where the DAG has an answer, and one block under each CID where each is
-- sent once
abbrev pub OwnIsTaken : Type 0
OwnIsTaken = (q : QueryParts) (limits : LimitNumbers) (d : Dag) (sections rest : List Section) (written text : List ℕ) (fault : Refusal)
    → IsSound d → root_cid d ≡ q.root → IfOnce q.dups (HasOneBlockEach (opened_list q d)) → answer q d ≡ Some text
    → block_list q d ≡ sections ++ rest → IsWithinLimits q limits d
    → HasRefused q limits sections written fault → IsOwnFault fault

-- once all of them were taken no block is wanted, and the answer is written
abbrev pub OwnIsThrough : Type 0
OwnIsThrough = (state : VerifierState) (d : Dag) (written text : List ℕ) → IsSound d → root_cid d ≡ state.left.query.root
    → IfOnce state.left.query.dups (HasOneBlockEach (opened_list state.left.query d)) → answer state.left.query d ≡ Some text
    → IsGoing state (block_list state.left.query d) written → (state.left.wanted ≡ None) × (written ≡ text)

-- both of these
pub record OwnLaws : Type 0 where
  pub taken : OwnIsTaken
  pub through : OwnIsThrough
