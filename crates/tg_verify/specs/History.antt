-- What a verifier stands for: the sections that it received and what it wrote for them.
use Rattle.std.specs.Prelude.{Err, List, None, Ok, Option, Result, Some, [], ⊤, ℕ, ◌++◌, ◌+◌, ◌≡◌, ◌≢◌, ◌⊎◌}
use Rattle.tg_cid.specs.Cid.{CidParts}
use Rattle.tg_traversal.specs.Left.{WantedAt}
use Rattle.tg_model.specs.Dag.{Section}
use Rattle.tg_model.specs.LimitNumbers.{LimitNumbers}
use Rattle.tg_model.specs.declared.limits.LimitKind.TheVariants as kinds
use Rattle.tg_model.specs.Queries.{QueryParts}
use Rattle.tg_streams.specs.Streams.{Output, OutputQuiet, OutputRose, Put}
use Rattle.tg_model_laws.specs.Tasks.{no_directory, no_entry, spot_of}
use Rattle.tg_verify.specs.Laws.{IsFitOf, IsNowhereOf, IsProgressOf}
use Rattle.tg_verify.specs.Refusals.{HasRefused, HasWantedBehind, IsRefusedBehind}
use Rattle.tg_verify.specs.Sound.{AnswersFor, ForEachSound}
use Rattle.tg_verify.specs.State.{VerifierState, told}
use Rattle.tg_verify.specs.Taken.{IsFrontWritten, IsGoing, IsNowhere, IsOn, IsThrough, IsUpTo, IsWritten}
use Rattle.tg_verify.specs.declared.fault.Refusal.{Refusal}
use Rattle.tg_verify.specs.declared.fault.Refusal.TheVariants as refusals
use Rattle.tg_verify.specs.declared.verifier.Progress.{Progress}
use Rattle.tg_verify.specs.declared.verifier.Progress.TheVariants as progresses

-- the verifier received these sections, the refused one with them, and wrote this; it goes on or was refused
abbrev pub StandsBy : Option Refusal → VerifierState → List Section → List ℕ → Type 0
StandsBy None state sections written = IsGoing state sections written
StandsBy (Some fault) state sections written = HasRefused state.left.query state.limits sections written fault

abbrev pub StandsFor : VerifierState → List Section → List ℕ → Type 0
StandsFor state sections written = StandsBy state.refused state sections written

-- a block is wanted exactly as long as there is more to come
abbrev pub IsProgress : Progress → VerifierState → Type 0
IsProgress progresses.More state = state.left.wanted ≢ None
IsProgress progresses.Done state = state.left.wanted ≡ None

-- a fault of out comes where one was counted, and nowhere else; and nobody says to `section` that no more come
abbrev pub HasPutCause : Result Progress Refusal → Output → Type 0
HasPutCause (Ok progress) out = OutputQuiet out
HasPutCause (Err refusals.SinkFault) out = OutputRose out
HasPutCause (Err (refusals.Truncated want number)) out = ⊥
HasPutCause (Err other) out = OutputQuiet out

-- how many sections were taken, by how many were before: one more where it passed, also where a segment leads nowhere
-- behind it; one more or none where out failed or memory was wanted, or where a place behind it may be the refused one
abbrev pub one_more : ℕ → ℕ
one_more n = told (n + 1)

abbrev pub IsCounted : ℕ → ℕ → Result Progress Refusal → Type 0
IsCounted before now (Ok progress) = now ≡ one_more before
IsCounted before now (Err (refusals.Extra number)) = now ≡ before
IsCounted before now (Err (refusals.Limit kinds.Block number)) = now ≡ before
IsCounted before now (Err (refusals.BadDigest cid)) = now ≡ before
IsCounted before now (Err (refusals.WrongBlock want got)) = now ≡ before
IsCounted before now (Err other) = (now ≡ before) ⊎ (now ≡ one_more before)

-- a refusal puts nothing, but that out may fail in what the section says and what places behind it say; and that such a
-- place may be refused, or memory be wanted there or for a listing, behind what was put, of which nothing is put then
abbrev pub PutsFor : QueryParts → LimitNumbers → List Section → List ℕ → Result Progress Refusal → List ℕ → Type 0
PutsFor q limits sections written (Ok progress) text = ⊤
PutsFor q limits sections written (Err refusals.SinkFault) text = ⊤
PutsFor q limits sections written (Err refusals.OutOfMemory) text =
    (text ≡ []) ⊎ HasWantedBehind q limits sections (written ++ text)
PutsFor q limits sections written (Err fault) text =
    (text ≡ []) ⊎ IsRefusedBehind q limits sections (written ++ text) fault

-- what the sections are: in progress up to the wanted spot, or what fits; or they show that the path leads nowhere
abbrev pub ShowsFor : QueryParts → Option WantedAt → List Section → List ℕ → Result Progress Refusal → Type 0
ShowsFor q wanted sections written (Ok progresses.More) =
    (at : WantedAt) × (wanted ≡ Some at) × IsProgressOf q sections written (spot_of at.want at.cid)
ShowsFor q wanted sections written (Ok progresses.Done) = IsFitOf q sections written
ShowsFor q wanted sections written (Err (refusals.NotThere segment)) = IsNowhereOf q sections written (no_entry segment)
ShowsFor q wanted sections written (Err (refusals.NotFolder segment)) =
    IsNowhereOf q sections written (no_directory segment)
ShowsFor q wanted sections written (Err other) = ⊤

-- a text was put, and with it the verifier stands for these sections; what they are; and what that says of each sound
-- DAG of the root
pub record HasWritten (state : VerifierState) (sections : List Section) (written : List ℕ) (out : Output) (result : Result Progress Refusal) : Type 0 where
  pub text : List ℕ
  pub put : Put text out
  pub puts : PutsFor state.left.query state.limits sections written result text
  pub stands : StandsFor state sections (written ++ text)
  pub shows : ShowsFor state.left.query state.left.wanted sections (written ++ text) result
  pub sound : ForEachSound state.left.query (λ d. AnswersFor state.left.query d sections (written ++ text) result)

-- the same of a step that keeps no refusal
abbrev pub StandsAfter : Result Progress Refusal → VerifierState → List Section → List ℕ → Type 0
StandsAfter (Ok progress) state sections written = IsGoing state sections written
StandsAfter (Err fault) state sections written = HasRefused state.left.query state.limits sections written fault

pub record HasTaken (state : VerifierState) (sections : List Section) (written : List ℕ) (out : Output) (result : Result Progress Refusal) : Type 0 where
  pub text : List ℕ
  pub put : Put text out
  pub puts : PutsFor state.left.query state.limits sections written result text
  pub stands : StandsAfter result state sections (written ++ text)

-- why it stops behind these sections: at a place whose block no section brings, or of a segment that leads nowhere; or
-- memory was wanted there or for a listing; or out failed behind a front of what they say
abbrev pub HasStopped : QueryParts → LimitNumbers → List Section → List ℕ → Refusal → Type 0
HasStopped q limits sections written (refusals.NotFolder segment) = IsNowhere q limits sections written (no_directory segment)
HasStopped q limits sections written (refusals.NotThere segment) = IsNowhere q limits sections written (no_entry segment)
HasStopped q limits sections written refusals.SinkFault = IsFrontWritten q sections written
HasStopped q limits sections written refusals.OutOfMemory = HasWantedBehind q limits sections written
HasStopped q limits sections written fault = IsRefusedBehind q limits sections written fault

abbrev pub StandsBehind : Result Progress Refusal → VerifierState → List Section → List ℕ → Type 0
StandsBehind (Ok progress) state sections written = IsGoing state sections written
StandsBehind (Err fault) state sections written = HasStopped state.left.query state.limits sections written fault

-- a text was put behind these sections, and with it the verifier goes on up to the next section, or it stops
pub record HasGone (state : VerifierState) (sections : List Section) (written : List ℕ) (out : Output) (result : Result Progress Refusal) : Type 0 where
  pub text : List ℕ
  pub put : Put text out
  pub stands : StandsBehind result state sections (written ++ text)

-- a text was put, and with it the verifier goes on
pub record HasOn (state : VerifierState) (sections : List Section) (written : List ℕ) (out : Output) : Type 0 where
  pub text : List ℕ
  pub put : Put text out
  pub quiet : OutputQuiet out
  pub on : IsOn state sections (written ++ text)

-- one more section was taken, or refused
abbrev pub HasAccepted : VerifierState → List Section → List ℕ → Output → Result ⊤ Refusal → Type 0
HasAccepted state sections written out (Ok done) = HasOn state sections written out
HasAccepted state sections written out (Err fault) = HasTaken state sections written out (Err fault)

-- a place whose block no section brings was opened, or none is next, or it was refused
abbrev pub HasTurned : VerifierState → List Section → List ℕ → Output → Result (Option Progress) Refusal → Type 0
HasTurned state sections written out (Ok None) = HasOn state sections written out
HasTurned state sections written out (Ok (Some progress)) = HasGone state sections written out (Ok progress)
HasTurned state sections written out (Err fault) = HasGone state sections written out (Err fault)

-- a refusal at a place, or of a segment that leads nowhere behind it, and not of a section that isn't the wanted one
abbrev pub IsPlaceFault : Refusal → Type 0
IsPlaceFault (refusals.Extra number) = ⊥
IsPlaceFault (refusals.Limit kinds.Block number) = ⊥
IsPlaceFault (refusals.Limit kind number) = ⊤
IsPlaceFault (refusals.BadDigest cid) = ⊥
IsPlaceFault (refusals.WrongBlock want got) = ⊥
IsPlaceFault (refusals.Truncated want number) = ⊥
IsPlaceFault other = ⊤

-- what `section` and `start` change of a verifier, besides what is left
pub record IsSameVerifier (old new : VerifierState) : Type 0 where
  pub query : new.left.query ≡ old.left.query
  pub limits : new.limits ≡ old.limits
  pub refused : new.refused ≡ old.refused

-- ---- sections in a list

abbrev pub section_of_pair : CidParts × List ℕ → Section
section_of_pair pair = record { cid = pair.0; block = pair.1 }

-- a text was put for the sections, of which this holds
pub record HasPut (out : Output) (holds : List ℕ → Type 0) : Type 0 where
  pub text : List ℕ
  pub put : Put text out
  pub is_so : holds text

-- memory was wanted for the next section, or for a verifier before the first, of which nothing is put
abbrev pub HasWantedNext : QueryParts → List Section → List ℕ → Refusal → Type 0
HasWantedNext q sections written refusals.OutOfMemory = IsWritten q sections written
HasWantedNext q sections written other = ⊥

-- of the sections these were received, and the refusal came at or behind the last of them, or before the next one
pub record HasRefusedFront (q : QueryParts) (limits : LimitNumbers) (sections : List Section) (written : List ℕ) (fault : Refusal) : Type 0 where
  pub front : List Section
  pub rest : List Section
  pub whole : sections ≡ front ++ rest
  pub refused : HasRefused q limits front written fault ⊎ HasWantedNext q front written fault

-- how a list of sections ends: all came; or a block is wanted behind them; or one of them was refused
abbrev pub AllEnd : QueryParts → LimitNumbers → List Section → Output → Result (Option CidParts) Refusal → Type 0
AllEnd q limits sections out (Ok None) = HasPut out (λ text. IsThrough q limits sections text) × OutputQuiet out
AllEnd q limits sections out (Ok (Some want)) =
    HasPut out (λ text. (at : WantedAt) × (want ≡ at.cid) × IsUpTo q limits sections text at) × OutputQuiet out
AllEnd q limits sections out (Err fault) =
    HasPut out (λ text. HasRefusedFront q limits sections text fault) × HasPutCause (Err fault) out
