-- What a verifier's answer to a section says.
use Rattle.std.proofs.Common.{Err, List, None, Ok, Option, Some, refl, subst, sym, ℕ, ◌++◌, ◌≡◌, ◌≢◌}
use Rattle.std.specs.Prelude.{IfErr, IfOk, MatchResult, Result}
use Rattle.tg_traversal.specs.Left.{WantedAt}
use Rattle.tg_model.specs.Dag.{Section}
use Rattle.tg_model.specs.LimitNumbers.{LimitNumbers}
use Rattle.tg_model.specs.Queries.{QueryParts}
use Rattle.tg_streams.specs.Streams.{Output}
use Rattle.tg_model_laws.specs.Tasks.{no_directory, no_entry}
use Rattle.tg_verify.proofs.Going.{going_through, going_up_to}
use Rattle.tg_verify.specs.History.{HasTaken, HasWritten, IsProgress, ShowsFor, StandsAfter, StandsBy, StandsFor}
use Rattle.tg_verify.specs.Laws.{AnswerLaws, IsOwnFault}
use Rattle.tg_verify.specs.Refusals.{HasRefused}
use Rattle.tg_verify.specs.Sound.{AnswersFor, ForEachSound}
use Rattle.tg_verify.specs.State.{VerifierState}
use Rattle.tg_verify.specs.Taken.{IsGoing, IsUpTo, IsWrittenAt}
use Rattle.tg_verify.specs.declared.fault.Refusal.{Refusal}
use Rattle.tg_verify.specs.declared.fault.Refusal.TheVariants as refusals
use Rattle.tg_verify.specs.declared.verifier.Progress.{Progress}
use Rattle.tg_verify.specs.declared.verifier.Progress.TheVariants as progresses

-- a verifier that refused nothing goes on
pub is_going : (state : VerifierState) (sections : List Section) (written : List ℕ) → state.refused ≡ None → StandsFor state sections written → IsGoing state sections written
is_going state sections written e h = subst (λ (r : Option Refusal). StandsBy r state sections written) e h

wants_some : (state : VerifierState) (sections : List Section) (written : List ℕ) → IsGoing state sections written → (wanted : Option WantedAt) → state.left.wanted ≡ wanted
    → state.left.wanted ≢ None
    → (at : WantedAt) × (state.left.wanted ≡ Some at) × IsUpTo state.left.query state.limits sections written at
wants_some state sections written h None e more = absurd (more e)
wants_some state sections written h (Some at) e more = (at, e, going_up_to state sections written h at e)

module _ (laws : AnswerLaws) (state : VerifierState) (sections : List Section) (written : List ℕ) where
  shows_of : (result : Result Progress Refusal) → StandsAfter result state sections written → IfOk result (λ progress. IsProgress progress state)
      → ShowsFor state.left.query state.left.wanted sections written result
  shows_of (Ok progresses.More) h progress =
      let (at, e, up_to) = wants_some state sections written h state.left.wanted refl progress in (at, e, laws.up_to state.left.query state.limits sections written at up_to)
  shows_of (Ok progresses.Done) h progress = laws.through state.left.query state.limits sections written (going_through state sections written h progress)
  shows_of (Err (refusals.NotThere segment)) h progress = laws.nowhere state.left.query state.limits sections written (no_entry segment) h
  shows_of (Err (refusals.NotFolder segment)) h progress = laws.nowhere state.left.query state.limits sections written (no_directory segment) h
  shows_of (Err (refusals.Extra number)) h progress = tt
  shows_of (Err (refusals.Limit kind number)) h progress = tt
  shows_of (Err (refusals.BadDigest cid)) h progress = tt
  shows_of (Err (refusals.WrongBlock want got)) h progress = tt
  shows_of (Err (refusals.BadBlock cid fault)) h progress = tt
  shows_of (Err (refusals.BadSize declared actual)) h progress = tt
  shows_of (Err refusals.SinkFault) h progress = tt
  shows_of (Err (refusals.Truncated want number)) h progress = tt
  shows_of (Err refusals.OutOfMemory) h progress = tt

  sound_of : (result : Result Progress Refusal) → StandsAfter result state sections written → IfOk result (λ progress. IsProgress progress state)
      → ForEachSound state.left.query (λ d. AnswersFor state.left.query d sections written result)
  sound_of (Ok progresses.More) h progress d sound root =
      let (at, e, up_to) = wants_some state sections written h state.left.wanted refl progress in laws.sound_up_to state.left.query state.limits d sections written at sound root up_to
  sound_of (Ok progresses.Done) h progress d sound root = laws.sound_through state.left.query state.limits d sections written sound root (going_through state sections written h progress)
  sound_of (Err fault) h progress d sound root = laws.sound_refused state.left.query state.limits d sections written fault sound root h

  -- with the refusal kept
  pub stands_by : (refused : Option Refusal) (result : Result Progress Refusal) → MatchResult result (λ _. refused ≡ None) (λ fault. refused ≡ Some fault)
      → StandsAfter result state sections written → StandsFor (record state { refused = refused }) sections written
  stands_by refused (Ok progress) e h =
      subst (λ (r : Option Refusal). StandsBy r (record state { refused = refused }) sections written) (sym e)
      (record {
        given = h.given;
        verified = h.verified;
        reached = h.reached;
        sends = h.sends;
        keeps = record { named = h.keeps.named; remembers = h.keeps.remembers; count = h.keeps.count };
        counted = record { counted = h.counted.counted; within = h.counted.within };
        writes = writes_as state.left.wanted h.writes;
        terminal = h.terminal;
      })
    where
      writes_as : (wanted : Option WantedAt) → IsWrittenAt state h.given written wanted → IsWrittenAt (record state { refused = refused }) h.given written wanted
      writes_as None w = w
      writes_as (Some at) w = w
  stands_by refused (Err fault) e h = subst (λ (r : Option Refusal). StandsBy r (record state { refused = refused }) sections written) (sym e) h

pub written_of : (laws : AnswerLaws) (state : VerifierState) (refused : Option Refusal) (sections : List Section) (written : List ℕ) (out : Output) (result : Result Progress Refusal)
    → MatchResult result (λ _. refused ≡ None) (λ fault. refused ≡ Some fault) → IfOk result (λ progress. IsProgress progress state) → HasTaken state sections written out result
    → HasWritten (record state { refused = refused }) sections written out result
written_of laws state refused sections written out result kept progress h = record {
  text = h.text;
  put = h.put;
  puts = h.puts;
  stands = stands_by laws state sections (written ++ h.text) refused result kept h.stands;
  shows = shows_of laws state sections (written ++ h.text) result h.stands progress;
  sound = sound_of laws state sections (written ++ h.text) result h.stands progress;
}

-- ---- sections that fit, or are in progress

pub own_fault : (q : QueryParts) (limits : LimitNumbers) (state : VerifierState) (sections : List Section) (written : List ℕ) (out : Output) (result : Result Progress Refusal)
    → state.left.query ≡ q
    → state.limits ≡ limits → HasTaken state sections written out result → ((written : List ℕ) (fault : Refusal) → HasRefused q limits sections written fault → IsOwnFault fault) → IfErr result IsOwnFault
own_fault q limits state sections written out (Ok progress) same_query same_limits h own = tt
own_fault q limits state sections written out (Err fault) same_query same_limits h own =
    own (written ++ h.text) fault
    (subst (λ (q : QueryParts). HasRefused q limits sections (written ++ h.text) fault) same_query
    (subst (λ (l : LimitNumbers). HasRefused state.left.query l sections (written ++ h.text) fault) same_limits h.stands))
