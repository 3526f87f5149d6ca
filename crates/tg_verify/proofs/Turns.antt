-- Turns one after another, and a section with the turns behind it.
use Rattle.std.proofs.Common.{[], Err, List, None, Ok, Option, Some, append-nil, append_assoc, inl, inr, refl, subst, sym, ℕ, ◌++◌, ◌∙◌, ◌∷◌, ◌≡◌}
use Rattle.std.specs.Prelude.{IfErr, IfSome, Result}
use Rattle.tg_faults.specs.Faults.{Rose}
use Rattle.tg_model.specs.Dag.{Section}
use Rattle.tg_model.specs.LimitNumbers.{LimitNumbers}
use Rattle.tg_model.specs.Queries.{QueryParts}
use Rattle.tg_model.specs.declared.limits.LimitKind.TheVariants as kinds
use Rattle.tg_streams.specs.Joining.{SinkJoins, put_nothing, put_put}
use Rattle.tg_streams.specs.Streams.{Output, OutputQuiet, SinkMeaning, into}
use Rattle.tg_model_laws.specs.Verified.{VerifiedLaws}
use Rattle.tg_verify.specs.History.{HasGone, HasOn, HasPutCause, HasStopped, HasTaken, IsCounted, IsPlaceFault, IsSameVerifier, PutsFor, StandsBehind, one_more}
use Rattle.tg_verify.specs.Refusals.{HasRefused}
use Rattle.tg_verify.specs.State.{VerifierState}
use Rattle.tg_verify.specs.Taken.{IsNowhere, IsOn}
use Rattle.tg_verify.specs.declared.fault.Refusal.{Refusal}
use Rattle.tg_verify.specs.declared.fault.Refusal.TheVariants as refusals
use Rattle.tg_verify.specs.declared.terminal.Terminal.{Terminal}
use Rattle.tg_verify.specs.declared.verifier.Progress.{Progress}
use Rattle.tg_model_laws.specs.Tasks.{Miss, no_directory, no_entry}

-- ---- faults of out, one behind the other

rose_later : (a b c : ℕ) → b ≡ a → Rose b c → Rose a c
rose_later a b c e h = subst (λ (n : ℕ). Rose n c) e h

pub cause_later : {S : Type 0} (m : SinkMeaning S) (a b c : S) (result : Result Progress Refusal) → OutputQuiet (into m a b) → HasPutCause result (into m b c) → HasPutCause result (into m a c)
cause_later m a b c (Ok progress) quiet h = h ∙ quiet
cause_later m a b c (Err refusals.SinkFault) quiet h = rose_later (m.faults a) (m.faults b) (m.faults c) quiet h
cause_later m a b c (Err (refusals.Truncated want number)) quiet h = h
cause_later m a b c (Err (refusals.Extra number)) quiet h = h ∙ quiet
cause_later m a b c (Err (refusals.Limit kind number)) quiet h = h ∙ quiet
cause_later m a b c (Err (refusals.BadDigest cid)) quiet h = h ∙ quiet
cause_later m a b c (Err (refusals.WrongBlock want got)) quiet h = h ∙ quiet
cause_later m a b c (Err (refusals.BadBlock cid fault)) quiet h = h ∙ quiet
cause_later m a b c (Err (refusals.BadSize declared actual)) quiet h = h ∙ quiet
cause_later m a b c (Err (refusals.NotFolder segment)) quiet h = h ∙ quiet
cause_later m a b c (Err (refusals.NotThere segment)) quiet h = h ∙ quiet
cause_later m a b c (Err refusals.OutOfMemory) quiet h = h ∙ quiet

-- ---- turns

-- what is told stays
pub told_still : (t : Option Terminal) → IfSome t (λ x. t ≡ Some x)
told_still None = tt
told_still (Some x) = refl

pub told_later : (a b c : Option Terminal) → IfSome a (λ t. b ≡ Some t) → IfSome b (λ t. c ≡ Some t) → IfSome a (λ t. c ≡ Some t)
told_later None b c h k = tt
told_later (Some t) b c h k = subst (λ (o : Option Terminal). IfSome o (λ x. c ≡ Some x)) h k

-- the verifier went on from one moment to another
pub record HasTurnedOn {S : Type 0} (m : SinkMeaning S) (old new : VerifierState) (a b : S) : Type 0 where
  pub same : IsSameVerifier old new
  pub taken : new.taken ≡ old.taken
  pub quiet : OutputQuiet (into m a b)
  pub told : IfSome old.terminal (λ t. new.terminal ≡ Some t)
  pub stands : (sections : List Section) (written : List ℕ) → IsOn old sections written → HasOn new sections written (into m a b)

pub same_both : (old mid new : VerifierState) → IsSameVerifier old mid → IsSameVerifier mid new → IsSameVerifier old new
same_both old mid new first next = record { query = next.query ∙ first.query; limits = next.limits ∙ first.limits; refused = next.refused ∙ first.refused }

pub no_turn : {S : Type 0} (m : SinkMeaning S) (state : VerifierState) (a : S) → m.wrote a a [] → HasTurnedOn m state state a a
no_turn {S} m state a rests = record {
  same = record { query = refl; limits = refl; refused = refl };
  taken = refl;
  quiet = refl;
  told = told_still state.terminal;
  stands = λ sections written on. record {
    text = [];
    put = put_nothing S m a rests;
    quiet = refl;
    on = subst (λ (t : List ℕ). IsOn state sections t) (sym (append-nil written)) on;
  };
}

module _ {S : Type 0} (m : SinkMeaning S) (joins : SinkJoins S m) (a b c : S) (old mid new : VerifierState) (h : HasTurnedOn m old mid a b) where
  on_later : (sections : List Section) (written : List ℕ) → HasOn mid sections written (into m a b)
      → ((text : List ℕ) → IsOn mid sections text → HasOn new sections text (into m b c)) → HasOn new sections written (into m a c)
  on_later sections written on step =
      let next = step (written ++ on.text) on.on in
      record {
        text = on.text ++ next.text;
        put = put_put S m a b c on.text next.text joins on.put next.put;
        quiet = next.quiet ∙ on.quiet;
        on = subst (λ (t : List ℕ). IsOn new sections t) (append_assoc written on.text next.text) next.on;
      }

  pub one_turn : IsSameVerifier mid new → new.taken ≡ mid.taken → OutputQuiet (into m b c) → IfSome mid.terminal (λ t. new.terminal ≡ Some t)
      → ((sections : List Section) (written : List ℕ) → IsOn mid sections written → HasOn new sections written (into m b c)) → HasTurnedOn m old new a c
  one_turn same taken quiet told step = record {
    same = same_both old mid new h.same same;
    taken = taken ∙ h.taken;
    quiet = quiet ∙ h.quiet;
    told = told_later old.terminal mid.terminal new.terminal h.told told;
    stands = λ sections written on. on_later sections written (h.stands sections written on) (λ text. step sections text);
  }

-- the last turn
pub gone_later : {S : Type 0} (m : SinkMeaning S) → SinkJoins S m → (a b c : S) (mid new : VerifierState) (sections : List Section) (written : List ℕ) (result : Result Progress Refusal)
    → HasOn mid sections written (into m a b) → ((text : List ℕ) → IsOn mid sections text → HasGone new sections text (into m b c) result) → HasGone new sections written (into m a c) result
gone_later {S} m joins a b c mid new sections written result on step =
    let next = step (written ++ on.text) on.on in
    record {
      text = on.text ++ next.text;
      put = put_put S m a b c on.text next.text joins on.put next.put;
      stands = subst (λ (t : List ℕ). StandsBehind result new sections t) (append_assoc written on.text next.text) next.stands;
    }

-- ---- what stands behind the last turn

module _ (v : VerifiedLaws) (q : QueryParts) (limits : LimitNumbers) (sections : List Section) where
  stopped_refused : (written : List ℕ) (fault : Refusal) → HasStopped q limits sections written fault → HasRefused q limits sections written fault
  stopped_refused written (refusals.NotFolder segment) h = h
  stopped_refused written (refusals.NotThere segment) h = h
  stopped_refused written refusals.SinkFault h = h
  stopped_refused written refusals.OutOfMemory h = inr h
  stopped_refused written (refusals.Extra number) h = absurd h.cause
  stopped_refused written (refusals.Truncated want number) h = absurd h.cause
  stopped_refused written (refusals.Limit kind number) h = inr h
  stopped_refused written (refusals.BadDigest cid) h = inr h
  stopped_refused written (refusals.WrongBlock want got) h = inr h
  stopped_refused written (refusals.BadBlock cid fault) h = inr h
  stopped_refused written (refusals.BadSize declared actual) h = inr h

  -- where a segment leads nowhere nothing was ever written
  nothing_before : (written text : List ℕ) (miss : Miss) → IsNowhere q limits sections (written ++ text) miss → text ≡ []
  nothing_before written text miss h = second written text (h.text ∙ (v.misses q sections h.given miss h.later h.verified).nothing)
    where
      second : (a b : List ℕ) → a ++ b ≡ [] → b ≡ []
      second [] b e = e
      second (x ∷ a) b e = cc

  stopped_puts : (written text : List ℕ) (fault : Refusal) → HasStopped q limits sections (written ++ text) fault → PutsFor q limits sections written (Err fault) text
  stopped_puts written text (refusals.NotFolder segment) h = inl (nothing_before written text (no_directory segment) h)
  stopped_puts written text (refusals.NotThere segment) h = inl (nothing_before written text (no_entry segment) h)
  stopped_puts written text refusals.SinkFault h = tt
  stopped_puts written text refusals.OutOfMemory h = inr h
  stopped_puts written text (refusals.Extra number) h = inr h
  stopped_puts written text (refusals.Truncated want number) h = inr h
  stopped_puts written text (refusals.Limit kind number) h = inr h
  stopped_puts written text (refusals.BadDigest cid) h = inr h
  stopped_puts written text (refusals.WrongBlock want got) h = inr h
  stopped_puts written text (refusals.BadBlock cid fault) h = inr h
  stopped_puts written text (refusals.BadSize declared actual) h = inr h

pub gone_taken : VerifiedLaws → (state : VerifierState) (sections : List Section) (written : List ℕ) (out : Output) (result : Result Progress Refusal) → HasGone state sections written out result
    → HasTaken state sections written out result
gone_taken v state sections written out (Ok progress) h = record { text = h.text; put = h.put; puts = tt; stands = h.stands }
gone_taken v state sections written out (Err fault) h = record {
  text = h.text;
  put = h.put;
  puts = stopped_puts v state.left.query state.limits sections written h.text fault h.stands;
  stands = stopped_refused v state.left.query state.limits sections (written ++ h.text) fault h.stands;
}

-- ---- how many sections were taken then

pub counted_none : (before now : ℕ) (fault : Refusal) → now ≡ before → IsCounted before now (Err fault)
counted_none before now (refusals.Extra number) e = e
counted_none before now (refusals.Limit kinds.Block number) e = e
counted_none before now (refusals.Limit kinds.Depth number) e = inl e
counted_none before now (refusals.Limit kinds.Entries number) e = inl e
counted_none before now (refusals.Limit kinds.Names number) e = inl e
counted_none before now (refusals.Limit kinds.Received number) e = inl e
counted_none before now (refusals.Limit kinds.Output number) e = inl e
counted_none before now (refusals.Limit kinds.SeenBlocks number) e = inl e
counted_none before now (refusals.Limit kinds.SeenBytes number) e = inl e
counted_none before now (refusals.Limit kinds.Reused number) e = inl e
counted_none before now (refusals.BadDigest cid) e = e
counted_none before now (refusals.WrongBlock want got) e = e
counted_none before now (refusals.BadBlock cid fault) e = inl e
counted_none before now (refusals.BadSize declared actual) e = inl e
counted_none before now (refusals.NotFolder segment) e = inl e
counted_none before now (refusals.NotThere segment) e = inl e
counted_none before now refusals.SinkFault e = inl e
counted_none before now (refusals.Truncated want number) e = inl e
counted_none before now refusals.OutOfMemory e = inl e

pub counted_one : (before now : ℕ) (result : Result Progress Refusal) → now ≡ one_more before → IfErr result IsPlaceFault → IsCounted before now result
counted_one before now (Ok progress) e h = e
counted_one before now (Err (refusals.Extra number)) e h = absurd h
counted_one before now (Err (refusals.Limit kinds.Block number)) e h = absurd h
counted_one before now (Err (refusals.Limit kinds.Depth number)) e h = inr e
counted_one before now (Err (refusals.Limit kinds.Entries number)) e h = inr e
counted_one before now (Err (refusals.Limit kinds.Names number)) e h = inr e
counted_one before now (Err (refusals.Limit kinds.Received number)) e h = inr e
counted_one before now (Err (refusals.Limit kinds.Output number)) e h = inr e
counted_one before now (Err (refusals.Limit kinds.SeenBlocks number)) e h = inr e
counted_one before now (Err (refusals.Limit kinds.SeenBytes number)) e h = inr e
counted_one before now (Err (refusals.Limit kinds.Reused number)) e h = inr e
counted_one before now (Err (refusals.BadDigest cid)) e h = absurd h
counted_one before now (Err (refusals.WrongBlock want got)) e h = absurd h
counted_one before now (Err (refusals.BadBlock cid fault)) e h = inr e
counted_one before now (Err (refusals.BadSize declared actual)) e h = inr e
counted_one before now (Err (refusals.NotFolder segment)) e h = inr e
counted_one before now (Err (refusals.NotThere segment)) e h = inr e
counted_one before now (Err refusals.SinkFault) e h = inr e
counted_one before now (Err (refusals.Truncated want number)) e h = absurd h
counted_one before now (Err refusals.OutOfMemory) e h = inr e
