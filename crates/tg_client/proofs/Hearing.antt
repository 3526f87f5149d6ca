-- What was heard of an input when a CAR on it ends, or is refused.
use Rattle.std.proofs.Common.{◌≡◌, ℕ, ◌^◌, ◌<◌, List, [], ◌++◌, length, Ok, Err, refl, sym, subst, ◌∙◌, inl, inr, append-nil, arith}
use Rattle.std.specs.Prelude.{Result, ⊤}
use Rattle.std.proofs.lemmas.List.{length-append}
use Rattle.std.proofs.lemmas.List.Elements.{All-nil}
use Rattle.tg_car.specs.CarText.{IsRoot, header_map}
use Rattle.tg_car.specs.Fronts.{IsInHeader}
use Rattle.tg_car.specs.History.{GoesOn}
use Rattle.tg_faults.specs.Faults.{Rose}
use Rattle.tg_model.specs.Dag.{Section}
use Rattle.tg_model.specs.LimitNumbers.{LimitNumbers}
use Rattle.tg_model.specs.Queries.{QueryParts}
use Rattle.tg_model.specs.declared.limits.LimitKind.TheVariants as kinds
use Rattle.tg_streams.specs.Streams.{Ended, Input, Output, OutputQuiet, OutputRose, Put, SinkMeaning, Took, into}
use Rattle.tg_varint.specs.Computed.{varint}
use Rattle.tg_varint.specs.Laws.{SpellingLaws}
use Rattle.tg_verify.specs.Laws.{AnswerLaws}
use Rattle.tg_verify.specs.declared.fault.Refusal.TheVariants as refusals
use Rattle.tg_client.specs.Body.{EndsAt, HasEnded, HasOutCause, IsAfterWanted, IsEndFault, IsStopped, IsVerified, unknown}
use Rattle.tg_client.specs.Ends.{EndsBy, HasStreamCause, IsBeforeHeader, IsHeld, IsWithinReceived, Verifies}
use Rattle.tg_client.specs.Received.{HasReceived}
use Rattle.tg_client.specs.declared.body.CarBody.{CarBody}
use Rattle.tg_client.specs.declared.fault.ClientFault.{ClientFault}
use Rattle.tg_client.specs.declared.fault.ClientFault.TheVariants as faults
use Rattle.tg_client.proofs.Coming.{HasCome}
use Rattle.tg_client.proofs.Going.{held_front, is_held, is_received, is_within}

-- with nothing more to say
as_verified : (q : QueryParts) (limits : LimitNumbers) (input : Input) (out : Output) (fault : ClientFault) → ((heard : List ℕ) (sections : List Section) → IsAfterWanted q limits heard sections fault)
    → Verifies q limits input out (Err fault) → IsVerified q limits input out (Err fault)
as_verified q limits input out fault any v = record { verifies = v; wanted = λ other e. subst (λ (f : ClientFault). IsAfterWanted q limits v.heard v.sections f) (cc e) (any v.heard v.sections) }

-- ---- before the first byte

in_header : SpellingLaws → IsInHeader []
in_header varints =
    let below : length (header_map []) < 2 ^ 63 = omega arith in
    record {
      roots = [];
      more = varint (length (header_map [])) ++ header_map [];
      not_whole = omega (arith, length-append (varint (length (header_map []))) (header_map []));
      text = record {
        few = omega arith;
        each = All-nil (λ (root : List ℕ). IsRoot root);
        size = varint (length (header_map []));
        size_is = varints.computed (length (header_map [])) below;
        whole = refl;
      };
    }

goes_on_first : SpellingLaws → (limit : ℕ) → GoesOn limit [] []
goes_on_first varints limit = inl (record { nothing_given = refl; inside = in_header varints })

pub received_first : SpellingLaws → (limit : ℕ) → HasReceived limit [] []
received_first varints limit = record { given = []; goes_on = goes_on_first varints limit; sections_are = refl }

-- no memory was found before the first byte
pub none_heard : SpellingLaws → AnswerLaws → (q : QueryParts) (limits : LimitNumbers) (input : Input) (out : Output) → Took [] input → Put [] out → IsVerified q limits input out (Err faults.OutOfMemory)
none_heard varints laws q limits input out took put =
    let before : IsBeforeHeader limits [] [] [] = record { goes_on = goes_on_first varints limits.block; no_section = refl; no_text = refl } in
    as_verified q limits input out faults.OutOfMemory (λ heard sections. tt) (record {
      heard = [];
      unheard = [];
      took = took;
      within = omega arith;
      sections = [];
      received = received_first varints limits.block;
      text = [];
      put = put;
      ends = inr (inl (inl before));
      sound = λ d sound root. held_front laws q limits [] [] [] (inl (inl before)) d sound root;
    })

-- ---- the input fails, or ends

pub fault_heard : AnswerLaws → (limits : LimitNumbers) (q : QueryParts) (body : CarBody) (input : Input) (out : Output) → body.verifier.left.query ≡ q → body.verifier.limits ≡ limits → HasCome body input out
    → IsVerified q limits input out (Err faults.InputFault)
fault_heard laws limits q body input out query same come =
    let w = come.went in
    let held = subst (λ (l : LimitNumbers). IsHeld q l come.heard w.sections w.text) same
    (subst (λ (q : QueryParts). IsHeld q body.verifier.limits come.heard w.sections w.text) query (is_held laws body come.heard w.sections w.text w.is_body)) in
    as_verified q limits input out faults.InputFault (λ heard sections. tt) (record {
      heard = come.heard;
      unheard = [];
      took = subst (λ (l : List ℕ). Took l input) (sym (append-nil come.heard)) come.took;
      within = subst (λ (l : LimitNumbers). IsWithinReceived l come.heard) same (is_within body come.heard w.sections w.text w.is_body);
      sections = w.sections;
      received = subst (λ (l : LimitNumbers). HasReceived l.block come.heard w.sections) same (is_received body come.heard w.sections w.text w.is_body);
      text = w.text;
      put = w.put;
      ends = (refl, held);
      sound = λ d sound root. held_front laws q limits come.heard w.sections w.text held d sound root;
    })

ends_there : (q : QueryParts) (limits : LimitNumbers) (input : Input) (heard : List ℕ) (sections : List Section) (text : List ℕ) (result : Result ⊤ ClientFault) → Ended input
    → EndsAt q limits heard sections text result → EndsBy q limits input heard [] sections text result
ends_there q limits input heard sections text (Ok done) ended h = (record { all = refl; ended = ended }, h)
ends_there q limits input heard sections text (Err (faults.Refused (refusals.Truncated want number))) ended h = (record { all = refl; ended = ended }, h)
ends_there q limits input heard sections text (Err (faults.Refused (refusals.Extra number))) ended h = absurd h
ends_there q limits input heard sections text (Err (faults.Refused (refusals.Limit kind number))) ended h = absurd h
ends_there q limits input heard sections text (Err (faults.Refused (refusals.BadDigest cid))) ended h = absurd h
ends_there q limits input heard sections text (Err (faults.Refused (refusals.WrongBlock want got))) ended h = absurd h
ends_there q limits input heard sections text (Err (faults.Refused (refusals.BadBlock cid fault))) ended h = absurd h
ends_there q limits input heard sections text (Err (faults.Refused (refusals.BadSize declared actual))) ended h = absurd h
ends_there q limits input heard sections text (Err (faults.Refused (refusals.NotFolder segment))) ended h = absurd h
ends_there q limits input heard sections text (Err (faults.Refused (refusals.NotThere segment))) ended h = absurd h
ends_there q limits input heard sections text (Err (faults.Refused refusals.SinkFault)) ended h = absurd h
ends_there q limits input heard sections text (Err (faults.Refused refusals.OutOfMemory)) ended h = absurd h
ends_there q limits input heard sections text (Err (faults.BadCar car)) ended h = absurd h
ends_there q limits input heard sections text (Err faults.InputFault) ended h = absurd h
ends_there q limits input heard sections text (Err faults.KeepFault) ended h = absurd h
ends_there q limits input heard sections text (Err faults.OutOfMemory) ended h = absurd h

pub end_heard : (limits : LimitNumbers) (q : QueryParts) (input : Input) (out : Output) (heard : List ℕ) (sections : List Section) (text : List ℕ) (result : Result ⊤ ClientFault) → Took heard input → Ended input
    → IsWithinReceived limits heard → Put text out → HasEnded q limits heard sections text result → IsVerified q limits input out result
end_heard limits q input out heard sections text result took ended within put h = record {
  verifies = record {
    heard = heard;
    unheard = [];
    took = subst (λ (l : List ℕ). Took l input) (sym (append-nil heard)) took;
    within = within;
    sections = sections;
    received = h.received;
    text = text;
    put = put;
    ends = ends_there q limits input heard sections text result ended h.ends;
    sound = h.sound;
  };
  wanted = h.wanted;
}

-- ---- a refusal before the end of a piece

known : (q : QueryParts) (limits : LimitNumbers) (input : Input) (heard unheard : List ℕ) (sections : List Section) (text : List ℕ) (fault : ClientFault)
    → EndsBy q limits unknown heard unheard sections text (Err fault) → EndsBy q limits input heard unheard sections text (Err fault)
known q limits input heard unheard sections text (faults.Refused (refusals.Truncated want number)) h = absurd h.0.ended.ended
known q limits input heard unheard sections text (faults.Refused (refusals.Extra number)) h = h
known q limits input heard unheard sections text (faults.Refused (refusals.Limit kinds.Block number)) h = h
known q limits input heard unheard sections text (faults.Refused (refusals.Limit kinds.Depth number)) h = h
known q limits input heard unheard sections text (faults.Refused (refusals.Limit kinds.Entries number)) h = h
known q limits input heard unheard sections text (faults.Refused (refusals.Limit kinds.Names number)) h = h
known q limits input heard unheard sections text (faults.Refused (refusals.Limit kinds.Received number)) h = h
known q limits input heard unheard sections text (faults.Refused (refusals.Limit kinds.Output number)) h = h
known q limits input heard unheard sections text (faults.Refused (refusals.Limit kinds.SeenBlocks number)) h = h
known q limits input heard unheard sections text (faults.Refused (refusals.Limit kinds.SeenBytes number)) h = h
known q limits input heard unheard sections text (faults.Refused (refusals.Limit kinds.Reused number)) h = h
known q limits input heard unheard sections text (faults.Refused (refusals.BadDigest cid)) h = h
known q limits input heard unheard sections text (faults.Refused (refusals.WrongBlock want got)) h = h
known q limits input heard unheard sections text (faults.Refused (refusals.BadBlock cid fault)) h = h
known q limits input heard unheard sections text (faults.Refused (refusals.BadSize declared actual)) h = h
known q limits input heard unheard sections text (faults.Refused (refusals.NotFolder segment)) h = h
known q limits input heard unheard sections text (faults.Refused (refusals.NotThere segment)) h = h
known q limits input heard unheard sections text (faults.Refused refusals.SinkFault) h = h
known q limits input heard unheard sections text (faults.Refused refusals.OutOfMemory) h = h
known q limits input heard unheard sections text (faults.BadCar car) h = h
known q limits input heard unheard sections text faults.InputFault h = h
known q limits input heard unheard sections text faults.KeepFault h = h
known q limits input heard unheard sections text faults.OutOfMemory h = h

pub stop_heard : (limits : LimitNumbers) (q : QueryParts) (input : Input) (out : Output) (bytes : List ℕ) (fault : ClientFault) → Took bytes input → (taken : ℕ) → IsStopped q limits taken bytes [] out fault
    → IsVerified q limits input out (Err fault)
stop_heard limits q input out bytes fault took taken s = record { verifies = stop_verifies; wanted = λ other e. subst (λ (f : ClientFault). IsAfterWanted q limits s.heard s.sections f) (cc e) s.wanted }
  where
    stop_verifies : Verifies q limits input out (Err fault)
    stop_verifies = record {
      heard = s.heard;
      unheard = s.unheard;
      took = subst (λ (l : List ℕ). Took l input) s.whole took;
      within = s.within;
      sections = s.sections;
      received = s.received;
      text = s.text;
      put = s.put;
      ends = known q limits input s.heard s.unheard s.sections s.text fault s.ends;
      sound = s.sound;
    }

-- ---- whose faults were counted

pub end_cause : (input : Input) (out : Output) (result : Result ⊤ ClientFault) → input.faults_new ≡ input.faults_old → OutputQuiet out → ((fault : ClientFault) → result ≡ Err fault → IsEndFault fault)
    → HasStreamCause input out result
end_cause input out (Ok done) heard put is = (heard, put)
end_cause input out (Err (faults.Refused (refusals.Truncated want number))) heard put is = (heard, put)
end_cause input out (Err (faults.Refused (refusals.Extra number))) heard put is = (heard, put)
end_cause input out (Err (faults.Refused (refusals.Limit kind number))) heard put is = (heard, put)
end_cause input out (Err (faults.Refused (refusals.BadDigest cid))) heard put is = (heard, put)
end_cause input out (Err (faults.Refused (refusals.WrongBlock want got))) heard put is = (heard, put)
end_cause input out (Err (faults.Refused (refusals.BadBlock cid fault))) heard put is = (heard, put)
end_cause input out (Err (faults.Refused (refusals.BadSize declared actual))) heard put is = (heard, put)
end_cause input out (Err (faults.Refused (refusals.NotFolder segment))) heard put is = (heard, put)
end_cause input out (Err (faults.Refused (refusals.NotThere segment))) heard put is = (heard, put)
end_cause input out (Err (faults.Refused refusals.SinkFault)) heard put is = absurd (is _ refl)
end_cause input out (Err (faults.Refused refusals.OutOfMemory)) heard put is = (heard, put)
end_cause input out (Err (faults.BadCar car)) heard put is = (heard, put)
end_cause input out (Err faults.InputFault) heard put is = absurd (is _ refl)
end_cause input out (Err faults.KeepFault) heard put is = absurd (is _ refl)
end_cause input out (Err faults.OutOfMemory) heard put is = (heard, put)

pub stop_cause : (input : Input) (out : Output) (fault : ClientFault) → input.faults_new ≡ input.faults_old → (fault ≡ faults.KeepFault → ⊥) → HasOutCause out fault
    → HasStreamCause input out (Err fault)
stop_cause input out (faults.Refused (refusals.Truncated want number)) heard unkept h = (heard, h)
stop_cause input out (faults.Refused (refusals.Extra number)) heard unkept h = (heard, h)
stop_cause input out (faults.Refused (refusals.Limit kind number)) heard unkept h = (heard, h)
stop_cause input out (faults.Refused (refusals.BadDigest cid)) heard unkept h = (heard, h)
stop_cause input out (faults.Refused (refusals.WrongBlock want got)) heard unkept h = (heard, h)
stop_cause input out (faults.Refused (refusals.BadBlock cid fault)) heard unkept h = (heard, h)
stop_cause input out (faults.Refused (refusals.BadSize declared actual)) heard unkept h = (heard, h)
stop_cause input out (faults.Refused (refusals.NotFolder segment)) heard unkept h = (heard, h)
stop_cause input out (faults.Refused (refusals.NotThere segment)) heard unkept h = (heard, h)
stop_cause input out (faults.Refused refusals.SinkFault) heard unkept h = (heard, h)
stop_cause input out (faults.Refused refusals.OutOfMemory) heard unkept h = (heard, h)
stop_cause input out (faults.BadCar car) heard unkept h = (heard, h)
stop_cause input out faults.InputFault heard unkept h = absurd h
stop_cause input out faults.KeepFault heard unkept h = absurd (unkept refl)
stop_cause input out faults.OutOfMemory heard unkept h = (heard, h)

-- where the same faults were counted
module _ (a b : Output) (quiet : OutputQuiet a → OutputQuiet b) (rose : OutputRose a → OutputRose b) where
  out_cause_as : (fault : ClientFault) → HasOutCause a fault → HasOutCause b fault
  out_cause_as (faults.Refused (refusals.Truncated want number)) h = quiet h
  out_cause_as (faults.Refused (refusals.Extra number)) h = quiet h
  out_cause_as (faults.Refused (refusals.Limit kind number)) h = quiet h
  out_cause_as (faults.Refused (refusals.BadDigest cid)) h = quiet h
  out_cause_as (faults.Refused (refusals.WrongBlock want got)) h = quiet h
  out_cause_as (faults.Refused (refusals.BadBlock cid fault)) h = quiet h
  out_cause_as (faults.Refused (refusals.BadSize declared actual)) h = quiet h
  out_cause_as (faults.Refused (refusals.NotFolder segment)) h = quiet h
  out_cause_as (faults.Refused (refusals.NotThere segment)) h = quiet h
  out_cause_as (faults.Refused refusals.SinkFault) h = rose h
  out_cause_as (faults.Refused refusals.OutOfMemory) h = quiet h
  out_cause_as (faults.BadCar car) h = quiet h
  out_cause_as faults.InputFault h = absurd h
  out_cause_as faults.KeepFault h = quiet h
  out_cause_as faults.OutOfMemory h = quiet h

-- quiet before
pub out_cause_from : {S : Type 0} (m : SinkMeaning S) (a b c : S) → OutputQuiet (into m a b) → (fault : ClientFault) → HasOutCause (into m b c) fault → HasOutCause (into m a c) fault
out_cause_from m a b c quiet fault h = out_cause_as (into m b c) (into m a c) (λ q. q ∙ quiet) (λ r. subst (λ (n : ℕ). Rose n (m.faults c)) quiet r) fault h

-- and quiet behind
pub out_cause_then : {S : Type 0} (m : SinkMeaning S) (a b c : S) → OutputQuiet (into m b c) → (fault : ClientFault) → HasOutCause (into m a b) fault → HasOutCause (into m a c) fault
out_cause_then m a b c quiet fault h = out_cause_as (into m a b) (into m a c) (λ q. quiet ∙ q) (λ r. subst (λ (n : ℕ). Rose (m.faults a) n) (sym quiet) r) fault h
