-- Which sections of a body are kept, and where they stand in a reply.
use Rattle.std.proofs.Common.{◌≡◌, ℕ, List, [], ◌++◌, ◌∙◌, Err, Ok, Result, ap, append-nil, append_assoc, arith, subst, sym}
use Rattle.std.specs.Prelude.{MatchResult, ⊤}
use Rattle.tg_body.specs.Bodies.{BodyFront}
use Rattle.tg_client.specs.Body.{BodyStands, HasEnded, HasOutCause, IsStopped}
use Rattle.tg_client.specs.Keeping.{AreKept, StoppedKeeping, WentOnKeeping}
use Rattle.tg_client.specs.Received.{HasReceived}
use Rattle.tg_client.specs.declared.body.CarBody.{CarBody}
use Rattle.tg_client.specs.declared.fault.ClientFault.{ClientFault}
use Rattle.tg_fetch.proofs.KeptSections.{by_client, kept_none, none_more, none_second}
use Rattle.tg_fetch.proofs.Standing.{taking_is_open}
use Rattle.tg_fetch.proofs.Taking.{by_its, ends_short, ends_whole, is_short, never_of_input, stopped}
use Rattle.tg_fetch.specs.Bodies.{EndsTaking, IsTaking, IsTakingAnswer, StopsTaking, TakesOn}
use Rattle.tg_fetch.specs.Faults.{fault_of_client}
use Rattle.tg_fetch.specs.Keeping.{AreKeptBy, IsAnswerCar, KeepsBehind, StandIn}
use Rattle.tg_fetch.specs.Keeping as keeps
use Rattle.tg_fetch.specs.KeepingSteps.{BodyEndKeeps, BodyFailsKeeping, BodyGoesOnKeeping, BodyKeeps, BodyStopsKeeping, BodyWholeKeeping, KeptOf, TakenIn}
use Rattle.tg_fetch.specs.declared.fault.FetchFault.{FetchFault}
use Rattle.tg_fetch.specs.declared.sections.RawBlock.{RawBlock}
use Rattle.tg_fetch.specs.declared.sections.Sections.{Sections}
use Rattle.tg_fetch.specs.declared.sections.Sections.TheVariants as takings
use Rattle.tg_heard.specs.Carried.{IsAbsenceHead, IsAnswerHead}
use Rattle.tg_heard.specs.FinalHeads.{FinalHead}
use Rattle.tg_heard.specs.FrontLaws.{BodyPieceLaws, HeadLaws}
use Rattle.tg_http.specs.declared.reply.ReplyHead.{ReplyHead}
use Rattle.tg_model.specs.Dag.{Section}
use Rattle.tg_model.specs.LimitNumbers.{LimitNumbers}
use Rattle.tg_model.specs.Queries.{QueryParts}
use Rattle.tg_model.specs.Stores.{Keeping}
use Rattle.tg_model.specs.declared.queries.Form.TheVariants as forms
use Rattle.tg_streams.specs.Streams.{Output, Put}

-- what was received is one
abbrev pub OneReceived : Type 0
OneReceived = (limit : ℕ) (bytes : List ℕ) (a b : List Section) → HasReceived limit bytes a → HasReceived limit bytes b → a ≡ b

-- ---- the answer's CAR

module _ (stands : BodyStands) (one : OneReceived) (q : QueryParts) (limits : LimitNumbers) (head : ReplyHead) (body : CarBody) (given written : List ℕ) (h : IsTakingAnswer q limits head body given written)
    (before : List Section) (received : HasReceived limits.block given before) where
  pub same : h.sections ≡ before
  same =
      let s = stands body given h.sections written h.is_body in
      one limits.block given h.sections before (subst (λ (n : ℕ). HasReceived n given h.sections) (ap (λ (l : LimitNumbers). l.block) h.limits_are) s.received) received

  pub goes_keeping : (new : CarBody) (bytes : List ℕ) (out : Output) (keeping : Keeping) → new.verifier.limits ≡ body.verifier.limits
      → WentOnKeeping new bytes h.sections written out keeping → BodyGoesOnKeeping (takings.Answer new) limits bytes before keeping
  goes_keeping new bytes out keeping limits_are w = record {
    came = w.came;
    taken = subst (λ (l : List Section). HasReceived limits.block bytes (l ++ w.came)) same
        (subst (λ (n : ℕ). HasReceived n bytes (h.sections ++ w.came)) (ap (λ (l : LimitNumbers). l.block) (limits_are ∙ h.limits_are)) w.received);
    kept = w.kept;
  }

  abbrev stopped_so : (taken : ℕ) (part : List ℕ) (out : Output) (keeping : Keeping) (cause : ClientFault) → StoppedKeeping q limits taken given part h.sections written out keeping cause
      → IsStopped q limits taken (given ++ part) written out cause
  stopped_so taken part out keeping cause s = record {
    heard = given ++ s.front;
    unheard = s.unheard;
    whole = ap (λ (l : List ℕ). given ++ l) s.whole ∙ sym (append_assoc given s.front s.unheard);
    within = s.stopped.within;
    sections = h.sections ++ s.came;
    received = s.stopped.received;
    text = s.stopped.text;
    put = s.stopped.put;
    ends = s.stopped.ends;
    sound = s.stopped.sound;
    wanted = s.stopped.wanted;
    counted = s.stopped.counted;
  }

  stopped_keeping : (taken : ℕ) (part : List ℕ) (out : Output) (keeping : Keeping) (cause : ClientFault) → HasOutCause out cause
      → StoppedKeeping q limits taken given part h.sections written out keeping cause
      → BodyStopsKeeping q limits head (takings.Answer body) (given ++ part) before written out keeping (fault_of_client cause)
  stopped_keeping taken part out keeping cause has s = record {
    stops = stopped q limits head body given written h taken (given ++ part) out cause (never_of_input out cause has) (stopped_so taken part out keeping cause s);
    kept = record { came = s.came; all_is = ap (λ (l : List Section). l ++ s.came) same; kept = by_client cause s.came keeping s.kept };
  }

  pub stops_keeping : {taken : ℕ} → (part : List ℕ) (out : Output) (keeping : Keeping) (cause : ClientFault) → HasOutCause out cause
      → StoppedKeeping body.verifier.left.query body.verifier.limits taken given part h.sections written out keeping cause
      → BodyStopsKeeping q limits head (takings.Answer body) (given ++ part) before written out keeping (fault_of_client cause)
  stops_keeping {taken} part out keeping cause has s =
      stopped_keeping taken part out keeping cause has
      (subst (λ (n : LimitNumbers). StoppedKeeping q n taken given part h.sections written out keeping cause) h.limits_are
      (subst (λ (p : QueryParts). StoppedKeeping p body.verifier.limits taken given part h.sections written out keeping cause) h.query s))

  -- no more bytes come
  all_here : h.sections ≡ before ++ []
  all_here = same ∙ sym (append-nil before)

  pub short_keeping : (out : Output) (keeping : Keeping) → Put [] out → AreKept [] keeping → (cause : ClientFault)
      → HasEnded body.verifier.left.query body.verifier.limits given h.sections written (Err cause)
      → BodyFailsKeeping q limits head (takings.Answer body) given before written out keeping (fault_of_client cause)
  short_keeping out keeping put none cause e =
      let s = is_short q limits given h.sections written cause (by_its q limits head body given written h (Err cause) e).ends in
      record {
        fails = ends_short q limits head body given written h out put cause e;
        kept = record {
          came = [];
          all_is = all_here;
          kept = subst (λ (c : ClientFault). AreKeptBy (fault_of_client c) [] keeping) (sym s.cause_is) none;
        };
      }

  pub whole_keeping : (out : Output) (keeping : Keeping) → Put [] out → AreKept [] keeping → HasEnded body.verifier.left.query body.verifier.limits given h.sections written (Ok tt)
      → BodyWholeKeeping q limits head (takings.Answer body) given before written out keeping
  whole_keeping out keeping put none e = record {
    whole = ends_whole q limits head body given written h out put e;
    kept = record { came = []; all_is = all_here; kept = none };
  }

-- ---- of which nothing is kept

module _ (q : QueryParts) (limits : LimitNumbers) (head : ReplyHead) (bytes written : List ℕ) (out : Output) (keeping : Keeping) (before : List Section) (none : before ≡ []) (kept : AreKept [] keeping) where
  pub absence_keeps : (body new : CarBody) (result : Result ⊤ FetchFault)
      → MatchResult result (λ _. TakesOn q limits head (takings.Absence new) bytes written out) (StopsTaking q limits head bytes written out)
      → BodyKeeps q limits head (takings.Absence body) (takings.Absence new) bytes before written out keeping result
  absence_keeps body new (Ok done) t = record { came = []; taken = none_more before none; kept = kept }
  absence_keeps body new (Err fault) t = record { stops = t; kept = kept }

  pub block_keeps : (raw new : RawBlock) (result : Result ⊤ FetchFault)
      → MatchResult result (λ _. TakesOn q limits head (takings.Block new) bytes written out) (StopsTaking q limits head bytes written out)
      → BodyKeeps q limits head (takings.Block raw) (takings.Block new) bytes before written out keeping result
  block_keeps raw new (Ok done) t = record { came = []; taken = none_more before none; kept = kept }
  block_keeps raw new (Err fault) t = record { stops = t; kept = kept }

-- where no more bytes come
module _ (q : QueryParts) (limits : LimitNumbers) (head : ReplyHead) (bytes written : List ℕ) (out : Output) (keeping : Keeping) (before : List Section) (kept : AreKept [] keeping) where
  pub absence_end_keeps : (body : CarBody) (result : Result ⊤ FetchFault) → EndsTaking q limits head bytes written out result
      → BodyEndKeeps q limits head (takings.Absence body) bytes before written out keeping result
  absence_end_keeps body (Ok done) t = record { whole = t; kept = kept }
  absence_end_keeps body (Err fault) t = record { fails = t; kept = kept }

  pub block_end_keeps : (raw : RawBlock) (result : Result ⊤ FetchFault) → EndsTaking q limits head bytes written out result
      → BodyEndKeeps q limits head (takings.Block raw) bytes before written out keeping result
  block_end_keeps raw (Ok done) t = record { whole = t; kept = kept }
  block_end_keeps raw (Err fault) t = record { fails = t; kept = kept }

-- ---- in a reply

no_absence_answers : (q : QueryParts) (head : ReplyHead) → IsAbsenceHead q head → IsAnswerHead q head → ⊥
no_absence_answers q head absent answers = omega (arith, absent.status, answers.status)

pub raw_is_no_car : (q : QueryParts) → q.form ≡ forms.Raw → q.form ≡ forms.Car → ⊥
raw_is_no_car q raw car = let e : forms.Raw ≡ forms.Car = sym raw ∙ car in let no : ⊥ = cc in no

module _ (heads : HeadLaws) (pieces : BodyPieceLaws) (q : QueryParts) (limits : LimitNumbers) (heard : List ℕ) (head : ReplyHead) (rest : List ℕ) (final : FinalHead heard head rest) where
  abbrev car_of : q.form ≡ forms.Car → IsAnswerHead q head → IsAnswerCar q heard
  car_of form is_head = record { form = form; head = head; rest = rest; final = final; is_head = is_head }

  -- behind the head of an absence, and of a raw block, there is no answer's CAR
  not_absent : IsAbsenceHead q head → IsAnswerCar q heard → ⊥
  not_absent absent car =
      no_absence_answers q head absent (subst (λ (h : ReplyHead). IsAnswerHead q h) (heads.one_final heard car.rest rest car.head head car.final final).0 car.is_head)

  not_raw : q.form ≡ forms.Raw → IsAnswerCar q heard → ⊥
  not_raw raw car = raw_is_no_car q raw car.form

  none_in : (before : List Section) → (IsAnswerCar q heard → ⊥) → StandIn q limits heard before → before ≡ []
  none_in before none (keeps.outside not e) = e
  none_in before none (keeps.inside car given front received) = absurd (none car)

  received_in : (given : List ℕ) (before : List Section) → BodyFront head.framing given rest → IsAnswerCar q heard → StandIn q limits heard before → HasReceived limits.block given before
  received_in given before front is (keeps.outside not e) = absurd (not is)
  received_in given before front is (keeps.inside car other behind received) =
      let both = heads.one_final heard car.rest rest car.head head car.final final in
      let there : BodyFront head.framing other rest =
      subst (λ (l : List ℕ). BodyFront head.framing other l) both.1 (subst (λ (h : ReplyHead). BodyFront h.framing other car.rest) both.0 behind) in
      subst (λ (l : List ℕ). HasReceived limits.block l before) (pieces.one_front head.framing other given rest there front) received

  pub taken_of : (s : Sections) (given written : List ℕ) (before : List Section) → BodyFront head.framing given rest → IsTaking q limits head s given written
      → StandIn q limits heard before → TakenIn s limits given before
  taken_of (takings.Answer body) given written before front t stand = received_in given before front (car_of t.form t.is_head) stand
  taken_of (takings.Absence body) given written before front t stand = none_in before (not_absent t.0.is_head) stand
  taken_of (takings.Block raw) given written before front t stand = none_in before (not_raw t.0.form) stand

  pub stand_of : (s : Sections) (given written : List ℕ) (before : List Section) → BodyFront head.framing given rest → IsTaking q limits head s given written
      → TakenIn s limits given before → StandIn q limits heard before
  stand_of (takings.Answer body) given written before front t received = keeps.inside (car_of t.form t.is_head) given front received
  stand_of (takings.Absence body) given written before front t none = keeps.outside (not_absent t.0.is_head) none
  stand_of (takings.Block raw) given written before front t none = keeps.outside (not_raw t.0.form) none

  pub behind_of : (s : Sections) (given written : List ℕ) (before all : List Section) (Now : List Section → Keeping → Type 0) (keeping : Keeping) → IsTaking q limits head s given written
      → KeptOf s before all Now keeping → KeepsBehind q heard before all Now keeping
  behind_of (takings.Answer body) given written before all Now keeping t k = keeps.inside (car_of t.form t.is_head) k.came k.all_is k.kept
  behind_of (takings.Absence body) given written before all Now keeping t k = keeps.outside (not_absent t.0.is_head) k
  behind_of (takings.Block raw) given written before all Now keeping t k = keeps.outside (not_raw t.0.form) k

-- of an open body, of which nothing more is taken
pub open_keeps : (stands : BodyStands) → OneReceived → (q : QueryParts) (limits : LimitNumbers) (head : ReplyHead) (s : Sections) (given written : List ℕ) (t : IsTaking q limits head s given written)
    (before came : List Section) (keeping : Keeping) → TakenIn s limits given (before ++ came) → AreKept came keeping
    → KeptOf s before (taking_is_open stands q limits head s given written t).sections AreKept keeping
open_keeps stands one q limits head (takings.Answer body) given written t before came keeping taken kept = record {
  came = came;
  all_is = same stands one q limits head body given written t (before ++ came) taken;
  kept = kept;
}
open_keeps stands one q limits head (takings.Absence body) given written t before came keeping taken kept = kept_none came keeping (none_second before came taken) kept
open_keeps stands one q limits head (takings.Block raw) given written t before came keeping taken kept = kept_none came keeping (none_second before came taken) kept
