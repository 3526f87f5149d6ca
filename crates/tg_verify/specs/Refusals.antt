-- Why a verifier refuses a section, or that no more come.
use Rattle.std.specs.Prelude.{All, Err, List, Ok, Option, Some, [], false, length, true, ⊤, ℕ, ◌++◌, ◌<◌, ◌∷◌, ◌≡◌, ◌≢◌, ◌≤◌}
use Rattle.std.specs.Prelude.{◌⊎◌}
use Rattle.tg_cid.specs.Cid.{CidParts}
use Rattle.tg_cid.specs.Names.{Names}
use Rattle.tg_traversal.specs.Left.{WantedAt}
use Rattle.tg_traversal.specs.PlaceTexts.{IsSizeFault}
use Rattle.tg_traversal.specs.SaidFaults.{fault_said}
use Rattle.tg_traversal.specs.declared.text.SizeFault.{SizeFault}
use Rattle.tg_model.specs.Computed.{read}
use Rattle.tg_model.specs.Dag.{Section}
use Rattle.tg_model.specs.LimitNumbers.{LimitNumbers, number_of}
use Rattle.tg_model.specs.Queries.{QueryParts}
use Rattle.tg_model.specs.declared.fault.BlockFault.{BlockFault}
use Rattle.tg_model.specs.declared.kinds.Kind.{Kind}
use Rattle.tg_model.specs.declared.limits.LimitKind.TheVariants as kinds
use Rattle.tg_model.specs.declared.limits.LimitKind.{LimitKind}
use Rattle.tg_model.specs.Traversal.{is_sent_behind}
use Rattle.tg_model_laws.specs.Stages.{Given}
use Rattle.tg_model_laws.specs.Tasks.{Miss, Task, depth_of, fault_at, is_read_at, no_directory, no_entry, open_block, position_of, stop_at, tasks_then}
use Rattle.tg_model_laws.specs.Verified.{IsHad, Verified}
use Rattle.tg_verify.specs.Counting.{IsFirstPassed, counts_given}
use Rattle.tg_verify.specs.State.{count_of}
use Rattle.tg_verify.specs.Opening.{IsNamed, IsReadBlock, PassesAs, given_with, tasks_behind}
use Rattle.tg_verify.specs.Reached.{IsReached, stage_of}
use Rattle.tg_verify.specs.Taken.{IsFrontWritten, IsNowhere, IsThrough, IsUnlisted, IsUpTo}
use Rattle.tg_verify.specs.declared.fault.Refusal.{Refusal}
use Rattle.tg_verify.specs.declared.fault.Refusal.TheVariants as refusals

-- ---- the checks of a section, each of which stands on those before it

-- the block is no larger than the limit, and the CID names it
pub record IsNamedBlock (limits : LimitNumbers) (section : Section) : Type 0 where
  pub small : length section.block ≤ limits.block
  pub named : Names section.cid section.block

-- it is the wanted one
pub record IsWantedBlock (limits : LimitNumbers) (at : WantedAt) (section : Section) : Type 0 where
  pub block : IsNamedBlock limits section
  pub same : section.cid ≡ at.cid

-- ---- the checks of a block at a place, where a section brought it or none need to

-- ---- and why one fails

pub record IsTooLarge (limits : LimitNumbers) (section : Section) (number : ℕ) : Type 0 where
  pub number_is : number ≡ limits.block
  pub large : number < length section.block

pub record IsMisnamed (limits : LimitNumbers) (section : Section) : Type 0 where
  pub small : length section.block ≤ limits.block
  pub misnamed : Names section.cid section.block → ⊥

pub record IsAnother (limits : LimitNumbers) (at : WantedAt) (section : Section) : Type 0 where
  pub block : IsNamedBlock limits section
  pub other : section.cid ≢ at.cid

pub record IsTooDeep (limits : LimitNumbers) (at : WantedAt) (number : ℕ) : Type 0 where
  pub number_is : number ≡ limits.depth
  pub deep : number < depth_of at.want

-- the block has no kind, or one that can't stand there
pub record IsBadBlock (q : QueryParts) (limits : LimitNumbers) (at : WantedAt) (section : Section) (fault : BlockFault) : Type 0 where
  pub shallow : depth_of at.want ≤ limits.depth
  pub is_read : is_read_at q at.want ≡ true
  pub cause : (read section.cid section.block ≡ Err fault) ⊎ ((kind : Kind) × (read section.cid section.block ≡ Ok kind) × (fault_at q at.want kind ≡ Some fault))

-- a size that is told of it isn't its own
pub record IsMissized (q : QueryParts) (limits : LimitNumbers) (at : WantedAt) (section : Section) (fault : SizeFault) : Type 0 where
  pub kind : Kind
  pub block : IsReadBlock q limits at section kind
  pub size : IsSizeFault (position_of at.want) section kind (Some fault)

-- why its CID doesn't name a block, or not one of a size that may come; of the checks the first that fails
abbrev pub HasNameCause : LimitNumbers → Section → Refusal → Type 0
HasNameCause limits section (refusals.Limit kinds.Block number) = IsTooLarge limits section number
HasNameCause limits section (refusals.BadDigest cid) = (cid ≡ section.cid) × IsMisnamed limits section
HasNameCause limits section other = ⊥

-- why a section isn't the wanted one; of the checks the first that fails
abbrev pub HasReceiptCause : LimitNumbers → WantedAt → Section → Refusal → Type 0
HasReceiptCause limits at section (refusals.Limit kinds.Block number) = IsTooLarge limits section number
HasReceiptCause limits at section (refusals.BadDigest cid) = (cid ≡ section.cid) × IsMisnamed limits section
HasReceiptCause limits at section (refusals.WrongBlock want got) =
    (want ≡ at.cid) × (got ≡ section.cid) × IsAnother limits at section
HasReceiptCause limits at section other = ⊥

-- with the block opened at the place, up to the next place, to which the path leads on, more is counted of this kind than its
-- limit, which is the first that is passed
pub record IsOver (q : QueryParts) (limits : LimitNumbers) (given : Given) (later : List (Task CidParts)) (at : WantedAt) (section : Section) (limit : LimitKind) (number : ℕ) : Type 0 where
  pub kind : Option Kind
  pub passes : PassesAs q limits at section kind
  pub no_stop : (miss : Miss) (more : List (Task CidParts)) → tasks_then (tasks_behind q at section kind ++ later) ≡ stop_at miss ∷ more → ⊥
  pub number_is : number ≡ number_of limit limits
  pub over : IsFirstPassed limits (counts_given q (given_with q given later at section kind)) limit

-- why a block is refused at a place, behind what was given; of the checks the first that fails
abbrev pub HasPlaceCause : QueryParts → LimitNumbers → Given → List (Task CidParts) → WantedAt → Section → Refusal → Type 0
HasPlaceCause q limits given later at section (refusals.Limit kinds.Block number) = ⊥
HasPlaceCause q limits given later at section (refusals.Limit kinds.Received number) = ⊥
HasPlaceCause q limits given later at section (refusals.Limit kinds.Depth number) = IsTooDeep limits at number
HasPlaceCause q limits given later at section (refusals.Limit limit number) =
    IsOver q limits given later at section limit number
HasPlaceCause q limits given later at section (refusals.BadBlock cid fault) =
    (cid ≡ section.cid) × IsBadBlock q limits at section fault
HasPlaceCause q limits given later at section (refusals.BadSize declared actual) =
    IsMissized q limits at section (record { declared = declared; actual = actual })
HasPlaceCause q limits given later at section refusals.OutOfMemory = ⊤
HasPlaceCause q limits given later at section other = ⊥

-- ---- what was received and taken when a verifier refused

-- the last of these sections was refused, and what was written for those before it stays
pub record IsRefusedAt (q : QueryParts) (limits : LimitNumbers) (sections : List Section) (written : List ℕ) (why : Given → List (Task CidParts) → WantedAt → Section → Type 0) : Type 0 where
  pub taken : List Section
  pub section : Section
  pub received : sections ≡ taken ++ section ∷ []
  pub are_bytes : All (λ b. b < 256) section.block
  pub at : WantedAt
  pub up_to : IsUpTo q limits taken written at
  pub cause : why up_to.given up_to.later at section

-- all came before the last of them
pub record IsSurplus (q : QueryParts) (limits : LimitNumbers) (sections : List Section) (written : List ℕ) (number : ℕ) : Type 0 where
  pub taken : List Section
  pub section : Section
  pub received : sections ≡ taken ++ section ∷ []
  pub through : IsThrough q limits taken written
  pub number_is : number ≡ count_of taken

-- no more come, and a block is wanted
pub record IsCutShort (q : QueryParts) (limits : LimitNumbers) (sections : List Section) (written : List ℕ) (at : WantedAt) (number : ℕ) : Type 0 where
  pub up_to : IsUpTo q limits sections written at
  pub number_is : number ≡ count_of sections

-- why a section is refused where a block is wanted: it isn't the wanted one, or it is refused at its place
abbrev pub HasSectionCause : QueryParts → LimitNumbers → Given → List (Task CidParts) → WantedAt → Section → Refusal → Type 0
HasSectionCause q limits given later at section fault =
    HasReceiptCause limits at section fault
    ⊎ (IsWantedBlock limits at section × HasPlaceCause q limits given later at section fault)

-- behind these sections, at a place whose block no section brings: it was received before, or is its CID's digest; and
-- it was refused there
pub record IsRefusedBehind (q : QueryParts) (limits : LimitNumbers) (sections : List Section) (written : List ℕ) (fault : Refusal) : Type 0 where
  pub given : Given
  pub at : WantedAt
  pub later : List (Task CidParts)
  pub verified : Verified q sections given (open_block at.want at.cid ∷ later)
  pub reached : IsReached q limits (stage_of sections given (open_block at.want at.cid ∷ later))
  pub text : written ≡ given.text
  pub known : is_sent_behind q sections at.cid ≡ false
  pub section : Section
  pub same : section.cid ≡ at.cid
  pub had : IsHad sections section
  pub is_named : IsNamed section
  pub cause : HasPlaceCause q limits given later at section fault

-- memory was wanted behind these sections: at a place whose block no section brings, of which nothing is written; or for
-- the listing at the end, of which nothing is written
abbrev pub HasWantedBehind : QueryParts → LimitNumbers → List Section → List ℕ → Type 0
HasWantedBehind q limits sections written =
    IsRefusedBehind q limits sections written refusals.OutOfMemory ⊎ IsUnlisted q sections written

-- each refusal, by the sections that were received and what is written
abbrev pub HasRefused : QueryParts → LimitNumbers → List Section → List ℕ → Refusal → Type 0
HasRefused q limits sections written (refusals.Extra number) = IsSurplus q limits sections written number
HasRefused q limits sections written (refusals.NotFolder segment) = IsNowhere q limits sections written (no_directory segment)
HasRefused q limits sections written (refusals.NotThere segment) = IsNowhere q limits sections written (no_entry segment)
HasRefused q limits sections written (refusals.Truncated want number) =
    (at : WantedAt) × (want ≡ at.cid) × IsCutShort q limits sections written at number
HasRefused q limits sections written refusals.SinkFault = IsFrontWritten q sections written
HasRefused q limits sections written refusals.OutOfMemory =
    IsRefusedAt q limits sections written (λ given later at section. HasSectionCause q limits given later at section refusals.OutOfMemory)
    ⊎ HasWantedBehind q limits sections written
HasRefused q limits sections written fault =
    IsRefusedAt q limits sections written (λ given later at section. HasSectionCause q limits given later at section fault)
    ⊎ IsRefusedBehind q limits sections written fault

-- the refusal at a block with this fault; want of memory is the verifier's own
abbrev pub refusal_of_block : CidParts → BlockFault → Refusal
refusal_of_block cid fault = fault_said refusals.OutOfMemory refusals.BadBlock cid fault
