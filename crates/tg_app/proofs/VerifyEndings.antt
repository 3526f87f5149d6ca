-- What each exit status says of `verify`.
use Rattle.std.proofs.Common.{◌≡◌, ◌≢◌, ℕ, ◌⊎◌, inl, inr, List, [], ◌∷◌, ◌++◌, Option, Some, None, Err, refl, sym, ap, ◌∙◌, subst, append-nil, arith, rules}
use Rattle.std.specs.Prelude.{Ok, Result, ⊤}
use Rattle.tg_commands.specs.Blocks.{OutputUntouched, Untouched}
use Rattle.tg_commands.specs.Lines.{Says, exit_status, status_of}
use Rattle.tg_commands.specs.Verify.{IsGoodCar, IsNoAnswer, IsVerifyRefusal, NotAccepted, SaysLine, ShowsSome, TellsVerify, VerifiedInput, VerifyEnds, Vouched}
use Rattle.tg_commands.specs.declared.fault.CommandFault.{CommandFault}
use Rattle.tg_commands.specs.declared.fault.CommandFault.TheVariants.{OutOfMemory, Usage}
use Rattle.tg_app.proofs.Refusals.{verify_own}
use Rattle.tg_app.proofs.Statuses.{differs, not_zero}
use Rattle.tg_bytes.specs.Told.{after_front, grown}
use Rattle.tg_car.specs.CarText.{header_map}
use Rattle.tg_car.specs.Fronts.{IsInHeader}
use Rattle.tg_client.specs.Ends.{EndsBy, HasStreamCause, IsOwnEnd, SaysFor, Verifies}
use Rattle.tg_client.specs.declared.fault.ClientFault.{ClientFault}
use Rattle.tg_client.specs.declared.fault.ClientFault.TheVariants as clients
use Rattle.tg_model.specs.Answer.{answer}
use Rattle.tg_model.specs.Dag.{Dag, Section, root_cid}
use Rattle.tg_model.specs.Fits.{CollisionPair, IsFrontOfAnswer}
use Rattle.tg_model.specs.LimitNumbers.{LimitNumbers, standard}
use Rattle.tg_model.specs.Queries.{QueryParts}
use Rattle.tg_model.specs.Sound.{IsSound}
use Rattle.tg_model.specs.declared.limits.LimitKind.TheVariants as kinds
use Rattle.tg_streams.specs.Streams.{Input, InputQuiet, InputRose, Output, OutputQuiet, OutputRose, Put, Took, Unput}
use Rattle.tg_model_laws.specs.Tasks.{Miss, no_directory, no_entry}
use Rattle.tg_model_laws.specs.Verified.{VerifiedMisses}
use Rattle.tg_verify.specs.Laws.{AnswerIsFront, ThroughFits}
use Rattle.tg_verify.specs.Refusals.{HasRefused}
use Rattle.tg_verify.specs.Sound.{IsItsAnswer, IsItsFront}
use Rattle.tg_verify.specs.Taken.{IsNowhere}
use Rattle.tg_verify.specs.declared.fault.Refusal.{Refusal}
use Rattle.tg_verify.specs.declared.fault.Refusal.TheVariants as verifiers

-- ---- the status of each fault

-- where memory is found for its line
abbrev pub status_for : ClientFault → ℕ
status_for (clients.Refused (verifiers.Limit kind number)) = 7
status_for (clients.Refused (verifiers.NotFolder segment)) = 9
status_for (clients.Refused (verifiers.NotThere segment)) = 9
status_for (clients.Refused verifiers.SinkFault) = 6
status_for (clients.Refused verifiers.OutOfMemory) = 8
status_for (clients.Refused fault) = 3
status_for (clients.BadCar fault) = 3
status_for clients.InputFault = 6
status_for clients.KeepFault = 6
status_for clients.OutOfMemory = 8

tells_status : (fault : ClientFault) (refusal : CommandFault) → TellsVerify fault refusal → status_of refusal ≡ status_for fault
tells_status (clients.Refused (verifiers.Extra sections)) refusal h = ap status_of h
tells_status (clients.Refused (verifiers.Limit kind number)) refusal h = ap status_of h
tells_status (clients.Refused (verifiers.BadDigest cid)) refusal (text, is_text, h) = ap status_of h
tells_status (clients.Refused (verifiers.WrongBlock want got)) refusal (a, b, is_a, is_b, h) = ap status_of h
tells_status (clients.Refused (verifiers.BadBlock cid fault)) refusal (text, is_text, h) = ap status_of h
tells_status (clients.Refused (verifiers.BadSize declared actual)) refusal h = ap status_of h
tells_status (clients.Refused (verifiers.NotFolder segment)) refusal h = ap status_of h
tells_status (clients.Refused (verifiers.NotThere segment)) refusal h = ap status_of h
tells_status (clients.Refused verifiers.SinkFault) refusal h = ap status_of h
tells_status (clients.Refused (verifiers.Truncated want sections)) refusal (text, is_text, h) = ap status_of h
tells_status (clients.Refused verifiers.OutOfMemory) refusal h = ap status_of h
tells_status (clients.BadCar fault) refusal h = ap status_of h
tells_status clients.InputFault refusal h = ap status_of h
tells_status clients.KeepFault refusal h = ap status_of h
tells_status clients.OutOfMemory refusal h = ap status_of h

-- the refusal has the status of its fault, or memory was wanted for its line
abbrev pub HasStatus : ClientFault → CommandFault → Type 0
HasStatus fault refusal = (status_of refusal ≡ status_for fault) ⊎ (ShowsSome fault × (status_of refusal ≡ 8))

pub has_status : (fault : ClientFault) (refusal : CommandFault) → IsVerifyRefusal fault refusal → HasStatus fault refusal
has_status fault refusal (inl tells) = inl (tells_status fault refusal tells)
has_status fault refusal (inr memory) = inr (memory.0, ap status_of memory.1)

-- ---- status 2

never_2 : (fault : ClientFault) → status_for fault ≡ 2 → ⊥
never_2 (clients.Refused (verifiers.Extra sections)) e = cc
never_2 (clients.Refused fault) e = cc
never_2 fault e = cc

no_usage : (fault : ClientFault) → HasStatus fault Usage → ⊥
no_usage fault (inl e) = never_2 fault (sym e)
no_usage fault (inr e) = let k = e.1 in cc

pub no_verify_usage : (q : QueryParts) (input : Input) (out : Output) → VerifyEnds q input out (Some Usage) → ⊥
no_verify_usage q input out ends = no_usage ends.fault (has_status ends.fault Usage ends.tells)

-- ---- status 6

rose_at_6 : (input : Input) (out : Output) (fault : ClientFault) → status_for fault ≡ 6 → HasStreamCause input out (Err fault) → InputRose input ⊎ OutputRose out
rose_at_6 input out clients.InputFault e cause = inl cause.0
rose_at_6 input out clients.KeepFault e cause = absurd cause
rose_at_6 input out (clients.Refused verifiers.SinkFault) e cause = inr cause.1
rose_at_6 input out (clients.Refused fault) e cause = cc
rose_at_6 input out fault e cause = cc

rose_of : (input : Input) (out : Output) (fault : ClientFault) (refusal : CommandFault) → status_of refusal ≡ 6 → HasStatus fault refusal
    → HasStreamCause input out (Err fault) → InputRose input ⊎ OutputRose out
rose_of input out fault refusal e (inl h) cause = rose_at_6 input out fault (sym h ∙ e) cause
rose_of input out fault refusal e (inr h) cause = let k = sym h.1 ∙ e in cc

pub verify_fault : (q : QueryParts) (input : Input) (out : Output) (end : Option CommandFault) → exit_status end ≡ 6 → VerifyEnds q input out end → InputRose input ⊎ OutputRose out
verify_fault q input out None e ends = cc
verify_fault q input out (Some refusal) e ends = rose_of input out ends.fault refusal e (has_status ends.fault refusal ends.tells) ends.cause

pub quiet_else : (input : Input) (out : Output) (fault : ClientFault) → (status_for fault ≡ 6 → ⊥) → HasStreamCause input out (Err fault) → InputQuiet input × OutputQuiet out
quiet_else input out clients.InputFault ne cause = absurd (ne refl)
quiet_else input out clients.KeepFault ne cause = absurd cause
quiet_else input out (clients.Refused verifiers.SinkFault) ne cause = absurd (ne refl)
quiet_else input out (clients.Refused fault) ne cause = cause
quiet_else input out fault ne cause = cause

some_shown : (fault : ClientFault) → ShowsSome fault → status_for fault ≡ 6 → ⊥
some_shown clients.InputFault some e = absurd some
some_shown clients.KeepFault some e = absurd some
some_shown (clients.Refused verifiers.SinkFault) some e = absurd some
some_shown (clients.Refused fault) some e = cc
some_shown fault some e = cc

quiet_for : (input : Input) (out : Output) (fault : ClientFault) (refusal : CommandFault) → status_of refusal ≢ 6 → HasStatus fault refusal
    → HasStreamCause input out (Err fault) → InputQuiet input × OutputQuiet out
quiet_for input out fault refusal ne (inl h) cause = quiet_else input out fault (λ six. ne (h ∙ six)) cause
quiet_for input out fault refusal ne (inr h) cause = quiet_else input out fault (some_shown fault h.0) cause

pub verify_quiet : (q : QueryParts) (input : Input) (out : Output) (end : Option CommandFault) → exit_status end ≢ 6 → VerifyEnds q input out end → InputQuiet input × OutputQuiet out
verify_quiet q input out None ne ends = ends.cause
verify_quiet q input out (Some refusal) ne ends = quiet_for input out ends.fault refusal ne (has_status ends.fault refusal ends.tells) ends.cause

-- ---- status 0

all_heard : (heard unheard : List ℕ) → unheard ≡ [] → heard ++ unheard ≡ heard
all_heard heard unheard e = ap (λ xs. heard ++ xs) e ∙ append-nil heard

pub verified_of : (q : QueryParts) (input : Input) (out : Output) (end : Option CommandFault) → ThroughFits → exit_status end ≡ 0 → VerifyEnds q input out end → VerifiedInput q input out
verified_of q input out None law e ends =
    let did = ends.verifies in
    record {
      bytes = did.heard;
      took = record { taken = subst (λ (bytes : List ℕ). Took bytes input) (all_heard did.heard did.unheard did.ends.0.all) did.took; ended = did.ends.0.ended };
      quiet = ends.cause.0;
      sections = did.sections;
      is_car = did.ends.1.is_car;
      text = did.text;
      fits = law q _ did.sections did.text did.ends.1.through;
      put = did.put;
      no_fault = ends.cause.1;
      sound = did.sound;
    }
verified_of q input out (Some refusal) law e ends = absurd (not_zero refusal (verify_own ends.fault refusal ends.tells) e)

-- ---- status 9

-- bytes that are none
none_held : (old new : Option (List ℕ)) → new ≡ grown old [] → new ≡ old
none_held None new e = e
none_held (Some held) new e = e ∙ ap Some (append-nil held)

pub unput_of : (text : List ℕ) (out : Output) → text ≡ [] → Put text out → Unput out
unput_of text out none put =
    let nothing : Put [] out = subst (λ (bytes : List ℕ). Put bytes out) none put in
    record { moved = nothing.moved; held = none_held out.held_old out.held_new nothing.held }

-- where a segment leads nowhere no text was given before it
module _ (misses : VerifiedMisses) (q : QueryParts) (limits : LimitNumbers) (sections : List Section) (text : List ℕ) where
  no_text : (miss : Miss) → IsNowhere q limits sections text miss → text ≡ []
  no_text miss h = h.text ∙ (misses q sections h.given miss h.later h.verified).nothing

  pub refused_none : (fault : Refusal) → status_for (clients.Refused fault) ≡ 9 → HasRefused q limits sections text fault → text ≡ []
  refused_none (verifiers.NotThere segment) e h = no_text (no_entry segment) h
  refused_none (verifiers.NotFolder segment) e h = no_text (no_directory segment) h
  refused_none fault e h = cc

  pub ended_none : (input : Input) (heard unheard : List ℕ) (fault : ClientFault) → status_for fault ≡ 9 → EndsBy q limits input heard unheard sections text (Err fault) → text ≡ []
  ended_none input heard unheard (clients.Refused (verifiers.NotThere segment)) e h = no_text (no_entry segment) h
  ended_none input heard unheard (clients.Refused (verifiers.NotFolder segment)) e h = no_text (no_directory segment) h
  ended_none input heard unheard (clients.Refused fault) e h = cc
  ended_none input heard unheard fault e h = cc

pub nine_for : (fault : ClientFault) (refusal : CommandFault) → status_of refusal ≡ 9 → HasStatus fault refusal → status_for fault ≡ 9
nine_for fault refusal e (inl h) = sym h ∙ e
nine_for fault refusal e (inr h) = let k = sym h.1 ∙ e in cc

pub verify_nothing_of : VerifiedMisses → (q : QueryParts) (input : Input) (out : Output) (end : Option CommandFault) → exit_status end ≡ 9 → VerifyEnds q input out end → OutputUntouched out
verify_nothing_of misses q input out None e ends = cc
verify_nothing_of misses q input out (Some refusal) e ends =
    let did = ends.verifies in
    let nine = nine_for ends.fault refusal e (has_status ends.fault refusal ends.tells) in
    record {
      unput = unput_of did.text out (ended_none misses q standard did.sections did.text input did.heard did.unheard ends.fault nine did.ends) did.put;
      quiet = (verify_quiet q input out (Some refusal) (λ six. differs 9 6 refl (sym e ∙ six)) ends).1;
    }

-- ---- a good CAR

-- a counted fault or want of memory is left
own_8 : (input : Input) (out : Output) (fault : ClientFault) (refusal : CommandFault) → (InputRose input → ⊥) → (OutputRose out → ⊥) → IsOwnEnd fault
    → IsVerifyRefusal fault refusal → HasStreamCause input out (Err fault) → status_of refusal ≡ 8
own_8 input out clients.InputFault refusal no_in no_out own tells cause = absurd (no_in cause.0)
own_8 input out clients.KeepFault refusal no_in no_out own tells cause = absurd cause
own_8 input out (clients.Refused verifiers.SinkFault) refusal no_in no_out own tells cause = absurd (no_out cause.1)
own_8 input out clients.OutOfMemory refusal no_in no_out own (inl tells) cause = ap status_of tells
own_8 input out clients.OutOfMemory refusal no_in no_out own (inr memory) cause = ap status_of memory.1
own_8 input out (clients.Refused fault) refusal no_in no_out own tells cause = absurd own
own_8 input out fault refusal no_in no_out own tells cause = absurd own

pub verify_answered_of : (q : QueryParts) (bytes : List ℕ) (input : Input) (out : Output) (end : Option CommandFault) → input.left_old ≡ Some bytes → IsGoodCar q bytes
    → (InputRose input → ⊥) → (OutputRose out → ⊥) → VerifyEnds q input out end → (exit_status end ≡ 8) ⊎ (exit_status end ≡ 0)
verify_answered_of q bytes input out None told good no_in no_out ends = inr refl
verify_answered_of q bytes input out (Some refusal) told good no_in no_out ends =
    inl (own_8 input out ends.fault refusal no_in no_out (ends.else bytes told good) ends.tells ends.cause)

-- ---- beside a sound DAG

pub front_at_fault : (q : QueryParts) (d : Dag) (sections : List Section) (text : List ℕ) (fault : ClientFault) → SaysFor q d sections text (Err fault) → IsItsFront q d sections text
front_at_fault q d sections text (clients.Refused fault) says = says.0
front_at_fault q d sections text fault says = says

nowhere_at_9 : (q : QueryParts) (d : Dag) (sections : List Section) (text : List ℕ) (fault : ClientFault) → status_for fault ≡ 9 → SaysFor q d sections text (Err fault)
    → IsNoAnswer q d ⊎ CollisionPair sections d
nowhere_at_9 q d sections text (clients.Refused (verifiers.NotThere segment)) e says = elim says.1 [ inl leads ↦ inl (inl (segment, leads)) | inr pair ↦ inr pair ]
nowhere_at_9 q d sections text (clients.Refused (verifiers.NotFolder segment)) e says = elim says.1 [ inl leads ↦ inl (inr (segment, leads)) | inr pair ↦ inr pair ]
nowhere_at_9 q d sections text (clients.Refused fault) e says = cc
nowhere_at_9 q d sections text fault e says = cc

pub nowhere_for : (q : QueryParts) (d : Dag) (sections : List Section) (text : List ℕ) (fault : ClientFault) (refusal : CommandFault) → status_of refusal ≡ 9 → HasStatus fault refusal
    → SaysFor q d sections text (Err fault) → IsNoAnswer q d ⊎ CollisionPair sections d
nowhere_for q d sections text fault refusal e (inl h) says = nowhere_at_9 q d sections text fault (sym h ∙ e) says
nowhere_for q d sections text fault refusal e (inr h) says = let k = sym h.1 ∙ e in cc

-- what a refusal says of the DAG, its line says
says_line : (q : QueryParts) (d : Dag) (sections : List Section) (text : List ℕ) (fault : ClientFault) (refusal : CommandFault) → TellsVerify fault refusal → SaysFor q d sections text (Err fault)
    → SaysLine q d sections (Some refusal)
says_line q d sections text (clients.Refused (verifiers.Extra number)) refusal h says = rw h tt
says_line q d sections text (clients.Refused (verifiers.Limit kinds.Block number)) refusal h says = rw h tt
says_line q d sections text (clients.Refused (verifiers.Limit kinds.Received number)) refusal h says = rw h tt
says_line q d sections text (clients.Refused (verifiers.Limit kind number)) refusal h says = rw h says.1
says_line q d sections text (clients.Refused (verifiers.BadDigest cid)) refusal (shown, is_text, h) says = rw h tt
says_line q d sections text (clients.Refused (verifiers.WrongBlock want got)) refusal (a, b, is_a, is_b, h) says = rw h tt
says_line q d sections text (clients.Refused (verifiers.BadBlock cid fault)) refusal (shown, is_text, h) says = rw h says.1
says_line q d sections text (clients.Refused (verifiers.BadSize declared actual)) refusal h says = rw h says.1
says_line q d sections text (clients.Refused (verifiers.NotFolder segment)) refusal h says = rw h says.1
says_line q d sections text (clients.Refused (verifiers.NotThere segment)) refusal h says = rw h says.1
says_line q d sections text (clients.Refused verifiers.SinkFault) refusal h says = rw h tt
says_line q d sections text (clients.Refused (verifiers.Truncated want number)) refusal (shown, is_text, h) says = rw h tt
says_line q d sections text (clients.Refused verifiers.OutOfMemory) refusal h says = rw h tt
says_line q d sections text (clients.BadCar car) refusal h says = rw h tt
says_line q d sections text clients.InputFault refusal h says = rw h tt
says_line q d sections text clients.KeepFault refusal h says = rw h tt
says_line q d sections text clients.OutOfMemory refusal h says = rw h tt

line_for : (q : QueryParts) (d : Dag) (sections : List Section) (text : List ℕ) (fault : ClientFault) (refusal : CommandFault) → IsVerifyRefusal fault refusal → SaysFor q d sections text (Err fault)
    → SaysLine q d sections (Some refusal)
line_for q d sections text fault refusal (inl tells) says = says_line q d sections text fault refusal tells says
line_for q d sections text fault refusal (inr memory) says = rw (memory.1) tt

module _ (law : AnswerIsFront) (q : QueryParts) (d : Dag) (input : Input) (out err : Output) (status : ℕ) (sound : IsSound d) (root : root_cid d ≡ q.root) where
  vouched_at : (result : Result ⊤ ClientFault) (end : Option CommandFault) → status ≡ exit_status end → Says end err → (did : Verifies q standard input out result)
      → (exit_status end ≡ 0 → IsItsAnswer q d did.sections did.text) → IsItsFront q d did.sections did.text → (exit_status end ≡ 9 → IsNoAnswer q d ⊎ CollisionPair did.sections d)
      → SaysLine q d did.sections end → Vouched q d input out err status
  vouched_at result end e line did accepted front nowhere says = record {
    heard = did.heard;
    unheard = did.unheard;
    took = did.took;
    sections = did.sections;
    received = did.received;
    text = did.text;
    put = did.put;
    accepted = λ zero. accepted (sym e ∙ zero);
    front = front;
    nowhere = λ nine. nowhere (sym e ∙ nine);
    end = end;
    status_is = e;
    line = line;
    says = says;
  }

  pub vouched_of : (end : Option CommandFault) → status ≡ exit_status end → Says end err → VerifyEnds q input out end → Vouched q d input out err status
  vouched_of None e line ends =
      let did = ends.verifies in
      let is = did.sound d sound root in
      vouched_at (Ok ends.done) None e line did (λ zero. is) (law q d did.sections did.text is) (λ nine. cc) tt
  vouched_of (Some refusal) e line ends =
      let did = ends.verifies in
      let says = did.sound d sound root in
      vouched_at (Err ends.fault) (Some refusal) e line did (λ zero. absurd (not_zero refusal (verify_own ends.fault refusal ends.tells) zero)) (front_at_fault q d did.sections did.text ends.fault says)
      (λ nine. nowhere_for q d did.sections did.text ends.fault refusal nine (has_status ends.fault refusal ends.tells) says)
      (line_for q d did.sections did.text ends.fault refusal ends.tells says)

-- ---- nothing was done for want of memory

untaken_is : (old new : Option (List ℕ)) → new ≡ old → old ≡ after_front [] new
untaken_is old None e = sym e
untaken_is old (Some rest) e = sym e

unput_is : (old new : Option (List ℕ)) → new ≡ old → new ≡ grown old []
unput_is None new e = e
unput_is (Some held) new e = e ∙ ap Some (sym (append-nil held))

-- of a header no byte came
before_header : IsInHeader []
before_header = record {
  roots = [];
  more = 17 ∷ header_map [];
  not_whole = omega arith;
  text = record {
    few = omega arith;
    each = search rules;
    size = 17 ∷ [];
    size_is = record {
      front = [];
      last = 17;
      whole = refl;
      are_bytes = search rules;
      goes_on = search rules;
      ends = omega arith;
      shortest = λ some. omega arith;
      at_most = omega arith;
      spells = refl;
    };
    whole = refl;
  };
}

front_of_any : (found : Option (List ℕ)) → IsFrontOfAnswer [] found
front_of_any None = refl
front_of_any (Some text) = (text, refl)

pub unverified : (q : QueryParts) (input : Input) (out : Output) → Untouched input out → NotAccepted q input out OutOfMemory
unverified q input out none = record {
  fault = clients.OutOfMemory;
  tells = inl refl;
  verifies = record {
    heard = [];
    unheard = [];
    took = record { moved = none.untaken.untaken.moved; left = untaken_is input.left_old input.left_new none.untaken.untaken.left };
    within = omega arith;
    sections = [];
    received = record { given = []; goes_on = inl (record { nothing_given = refl; inside = before_header }); sections_are = refl };
    text = [];
    put = record { moved = none.unput.unput.moved; held = unput_is out.held_old out.held_new none.unput.unput.held };
    ends = inr (inl (inl (record { goes_on = inl (record { nothing_given = refl; inside = before_header }); no_section = refl; no_text = refl })));
    sound = λ d sound root. inl (front_of_any (answer q d));
  };
  cause = (none.untaken.quiet, none.unput.quiet);
  else = λ bytes told good. tt;
}
