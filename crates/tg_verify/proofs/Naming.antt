-- A section whose CID names its block, or not.
use Rattle.std.proofs.Common.{[], All, Err, List, None, Ok, Option, Some, append-nil, refl, subst, sym, ℕ, ◌++◌, ◌<◌, ◌∷◌, ◌≡◌}
use Rattle.std.specs.Prelude.{MatchResult, Result, ⊤, ◌≢◌}
use Rattle.tg_model.specs.Dag.{Section}
use Rattle.tg_model.specs.LimitNumbers.{LimitNumbers}
use Rattle.tg_model.specs.declared.limits.LimitKind.TheVariants as kinds
use Rattle.tg_streams.specs.Joining.{put_nothing}
use Rattle.tg_streams.specs.Streams.{Output, OutputQuiet, SinkMeaning, into}
use Rattle.tg_traversal.specs.Left.{WantedAt}
use Rattle.tg_verify.proofs.Opened.{nothing_put}
use Rattle.tg_verify.proofs.Sections.{is_going, written_of}
use Rattle.tg_verify.proofs.Taking.{HasReceived, puts_none, refused_by}
use Rattle.tg_verify.specs.History.{HasPutCause, HasWritten, StandsFor}
use Rattle.tg_verify.specs.Laws.{AnswerLaws}
use Rattle.tg_verify.specs.Refusals.{HasNameCause, HasReceiptCause, HasRefused, IsNamedBlock}
use Rattle.tg_verify.specs.State.{VerifierState}
use Rattle.tg_verify.specs.Steps.{IsReceivedAt}
use Rattle.tg_verify.specs.declared.fault.Refusal.{Refusal}
use Rattle.tg_verify.specs.declared.fault.Refusal.TheVariants as refusals

abbrev refused_as : Refusal → Result ⊤ Refusal
refused_as fault = Err fault

-- ---- it does, and is the wanted one, or another

met_at : (limits : LimitNumbers) (at : WantedAt) (section : Section) (result : Result ⊤ Refusal) → IsNamedBlock limits section
    → MatchResult result (λ _. section.cid ≡ at.cid) (λ fault. (fault ≡ refusals.WrongBlock at.cid section.cid) × (section.cid ≢ at.cid)) → IsReceivedAt limits at section result
met_at limits at section (Ok done) named same = record { block = named; same = same }
met_at limits at section (Err fault) named (is, other) =
    subst (λ (f : Refusal). HasReceiptCause limits at section f) (sym is) (refl, refl, record { block = named; other = other })

pub met_received : (state : VerifierState) (section : Section) (result : Result ⊤ Refusal) → IsNamedBlock state.limits section
    → (state.left.wanted ≡ None → result ≡ Err (refusals.Extra state.taken))
    → ((at : WantedAt) → state.left.wanted ≡ Some at → MatchResult result (λ _. section.cid ≡ at.cid) (λ fault. (fault ≡ refusals.WrongBlock at.cid section.cid) × (section.cid ≢ at.cid)))
    → HasReceived state section result
met_received state section result named surplus met = record {
  surplus = surplus;
  received = λ at wanted. met_at state.limits at section result named (met at wanted);
}

-- ---- it doesn't

name_cause : (limits : LimitNumbers) (at : WantedAt) (section : Section) (fault : Refusal) → HasNameCause limits section fault → HasReceiptCause limits at section fault
name_cause limits at section (refusals.Limit kinds.Block number) h = h
name_cause limits at section (refusals.BadDigest cid) h = h
name_cause limits at section (refusals.Extra n) h = absurd h
name_cause limits at section (refusals.Limit kinds.Depth n) h = absurd h
name_cause limits at section (refusals.Limit kinds.Entries n) h = absurd h
name_cause limits at section (refusals.Limit kinds.Names n) h = absurd h
name_cause limits at section (refusals.Limit kinds.Received n) h = absurd h
name_cause limits at section (refusals.Limit kinds.Output n) h = absurd h
name_cause limits at section (refusals.Limit kinds.SeenBlocks n) h = absurd h
name_cause limits at section (refusals.Limit kinds.SeenBytes n) h = absurd h
name_cause limits at section (refusals.Limit kinds.Reused n) h = absurd h
name_cause limits at section (refusals.WrongBlock w g) h = absurd h
name_cause limits at section (refusals.BadBlock c f) h = absurd h
name_cause limits at section (refusals.BadSize a b) h = absurd h
name_cause limits at section (refusals.NotFolder n) h = absurd h
name_cause limits at section (refusals.NotThere n) h = absurd h
name_cause limits at section refusals.SinkFault h = absurd h
name_cause limits at section (refusals.Truncated w n) h = absurd h
name_cause limits at section refusals.OutOfMemory h = absurd h

pub name_received : (state : VerifierState) (section : Section) (fault : Refusal)
    → (state.left.wanted ≡ None → refused_as fault ≡ refused_as (refusals.Extra state.taken))
    → ((at : WantedAt) → state.left.wanted ≡ Some at → HasNameCause state.limits section fault)
    → HasReceived state section (Err fault)
name_received state section fault surplus why = record {
  surplus = surplus;
  received = λ at wanted. name_cause state.limits at section fault (why at wanted);
}

-- with nothing put, that is no fault of out
quiet_name : (limits : LimitNumbers) (section : Section) (out : Output) (fault : Refusal) → OutputQuiet out → HasNameCause limits section fault → HasPutCause (Err fault) out
quiet_name limits section out (refusals.Limit kind n) quiet h = quiet
quiet_name limits section out (refusals.BadDigest cid) quiet h = quiet
quiet_name limits section out (refusals.Extra n) quiet h = absurd h
quiet_name limits section out (refusals.WrongBlock w g) quiet h = absurd h
quiet_name limits section out (refusals.BadBlock c f) quiet h = absurd h
quiet_name limits section out (refusals.BadSize a b) quiet h = absurd h
quiet_name limits section out (refusals.NotFolder n) quiet h = absurd h
quiet_name limits section out (refusals.NotThere n) quiet h = absurd h
quiet_name limits section out refusals.SinkFault quiet h = absurd h
quiet_name limits section out (refusals.Truncated w n) quiet h = absurd h
quiet_name limits section out refusals.OutOfMemory quiet h = absurd h

module _ (state : VerifierState) (section : Section) (out : Output) (fault : Refusal) (quiet : OutputQuiet out)
    (surplus : state.left.wanted ≡ None → refused_as fault ≡ refused_as (refusals.Extra state.taken))
    (why : (at : WantedAt) → state.left.wanted ≡ Some at → HasNameCause state.limits section fault) where
  quiet_by : (wanted : Option WantedAt) → state.left.wanted ≡ wanted → HasPutCause (Err fault) out
  quiet_by None e =
      let both = surplus e in
      let is_extra : refusals.Extra state.taken ≡ fault = cc in
      subst (λ (f : Refusal). HasPutCause (Err f) out) is_extra quiet
  quiet_by (Some at) e = quiet_name state.limits section out fault quiet (why at e)

  pub name_quiet : HasPutCause (Err fault) out
  name_quiet = quiet_by state.left.wanted refl

-- what the refusal says of what was received
pub name_refused : (state : VerifierState) (sections : List Section) (written : List ℕ) → state.refused ≡ None → StandsFor state sections written → (section : Section)
    → All (λ b. b < 256) section.block → (fault : Refusal) → HasReceived state section (Err fault)
    → HasRefused state.left.query state.limits (sections ++ section ∷ []) written fault
name_refused state sections written none h section bytes fault received =
    refused_by state sections written (is_going state sections written none h) section bytes state.left.wanted refl fault received

-- and the verifier puts nothing with it
pub name_written : {S : Type 0} (m : SinkMeaning S) (a : S) → m.wrote a a [] → (laws : AnswerLaws) (state : VerifierState) (sections : List Section) (written : List ℕ) (fault : Refusal)
    → HasRefused state.left.query state.limits sections written fault → HasWritten (record state { refused = Some fault }) sections written (into m a a) (Err fault)
name_written {S} m a rests laws state sections written fault refused =
    written_of laws state (Some fault) sections written (into m a a) (Err fault) refl tt
    (record {
      text = [];
      put = put_nothing S m a rests;
      puts = puts_none state.left.query state.limits sections written [] fault (nothing_put fault);
      stands = subst (λ (t : List ℕ). HasRefused state.left.query state.limits sections t fault) (sym (append-nil written)) refused;
    })
