-- What each exit status says of `fetch` and of `verify` with `--into`.
use Rattle.std.proofs.Common.{IfSome, List, None, Option, Some, ap, false, inl, inr, nat_eq, refl, subst, sym, ℕ, ◌++◌, ◌∙◌, ◌≡◌, ◌≢◌, ◌⊎◌}
use Rattle.std.specs.Prelude.{Err, Ok, Result, ⊤}
use Rattle.tg_app.proofs.FetchEndings.{answer_by, fetch_answers_own, fetch_rose_of, front_by, no_fetch_usage, nowhere_by, peer_rose}
use Rattle.tg_app.proofs.IntoReadings.{MadeLaws, place_is}
use Rattle.tg_app.proofs.IntoStatuses.{IsOther, all_done, inner_has, into_own, into_quiet, into_unput, no_into_usage}
use Rattle.tg_app.proofs.IntoVouching.{IsNoStop, Went, answered_by, vouched_by}
use Rattle.tg_app.proofs.Refusals.{verify_own}
use Rattle.tg_app.proofs.Statuses.{IsOwn, differs}
use Rattle.tg_app.proofs.VerifyEndings.{front_at_fault, has_status, no_verify_usage, nowhere_for}
use Rattle.tg_app.specs.Fetches.{FetchAnswers, IsFetchEnd, IsFetchRefusal}
use Rattle.tg_app.specs.Intos.{AreMadeAt, FetchIntoAnswers, FetchesInto, HasPairHeard, HasPairTaken, IntoEnds, IsCarFor, IsPathMade, IsReplyOf, IsUnmade, NoNewFolder, TreeRose, VerifiesInto, VerifyIntoAnswers, VouchedFolder, counts_line, into_extract}
use Rattle.tg_app.specs.Makings.{Making, made_in}
use Rattle.tg_app.specs.Objects.{DialUse}
use Rattle.tg_client.specs.Ends.{HasStreamCause, IsOwnEnd}
use Rattle.tg_client.specs.declared.fault.ClientFault.{ClientFault}
use Rattle.tg_client.specs.declared.fault.ClientFault.TheVariants as clients
use Rattle.tg_commands.specs.Blocks.{OutputUntouched}
use Rattle.tg_commands.specs.Lines.{PutAll, Says, exit_status, status_of}
use Rattle.tg_commands.specs.Verify.{IsVerifyRefusal, TellsVerify, VerifyEnds}
use Rattle.tg_commands.specs.declared.fault.CommandFault.{CommandFault}
use Rattle.tg_commands.specs.declared.fault.CommandFault.TheVariants as refusals
use Rattle.tg_dials.specs.Dials.{DialRose, Dialling}
use Rattle.tg_extract.specs.Answers.{IsMeasured}
use Rattle.tg_extract.specs.Counts.{counts_of}
use Rattle.tg_faults.specs.declared.calls.Failed.{Failed}
use Rattle.tg_fetch.specs.Calls.{FetchEnds}
use Rattle.tg_fetch.specs.Faults.{QuietUnlessSink}
use Rattle.tg_fetch.specs.Laws.{IsAcceptedElse}
use Rattle.tg_fetch.specs.declared.fault.FetchFault.{FetchFault}
use Rattle.tg_fetch.specs.declared.fault.FetchFault.TheVariants as faults
use Rattle.tg_model.specs.Answer.{answer, answer_at, node_text}
use Rattle.tg_model.specs.Dag.{Dag, Section, root_cid}
use Rattle.tg_model.specs.Fits.{CollisionPair}
use Rattle.tg_model.specs.LimitNumbers.{standard}
use Rattle.tg_model.specs.Queries.{QueryParts}
use Rattle.tg_model.specs.Sound.{IsSound}
use Rattle.tg_model.specs.declared.queries.Form.TheVariants as forms
use Rattle.tg_model.specs.declared.queries.Scope.{Scope}
use Rattle.tg_model.specs.declared.queries.Scope.TheVariants as scopes
use Rattle.tg_streams.specs.Streams.{Input, InputQuiet, InputRose, Output, OutputQuiet, OutputRose, Put, Took}
use Rattle.tg_verify.specs.Laws.{AnswerIsFront}
use Rattle.tg_verify.specs.Terminals.{IsTerminalOf, IsTerminalTold, IsToldIn}
use Rattle.tg_verify.specs.declared.fault.Refusal.TheVariants as verifiers
use Rattle.tg_verify.specs.declared.terminal.Terminal.{Terminal}
use Rattle.tg_words.specs.FetchLines.{FetchParts}
use Rattle.tg_words.specs.IntoLines.{FetchIntoParts, VerifyIntoParts}

-- ---- refusals

some_is : (a b : CommandFault) → ◌≡◌ {A = Option CommandFault} (Some a) (Some b) → a ≡ b
some_is a b e = cc e

plain_same : (a b : CommandFault) → a ≡ b → IsNoStop b → IsNoStop a
plain_same a b e h = subst IsNoStop (sym e) h

tells_plain : (fault : ClientFault) (refusal : CommandFault) → TellsVerify fault refusal → IsNoStop refusal
tells_plain (clients.Refused (verifiers.BadDigest cid)) refusal (text, is_text, is) = plain_same refusal _ is tt
tells_plain (clients.Refused (verifiers.WrongBlock want got)) refusal (first, second, is_first, is_second, is) = plain_same refusal _ is tt
tells_plain (clients.Refused (verifiers.BadBlock cid fault)) refusal (text, is_text, is) = plain_same refusal _ is tt
tells_plain (clients.Refused (verifiers.Truncated want sections)) refusal (text, is_text, is) = plain_same refusal _ is tt
tells_plain (clients.Refused fault) refusal is = plain_same refusal _ is tt
tells_plain fault refusal is = plain_same refusal _ is tt

verify_plain : (fault : ClientFault) (refusal : CommandFault) → IsVerifyRefusal fault refusal → IsNoStop refusal
verify_plain fault refusal (inl tells) = tells_plain fault refusal tells
verify_plain fault refusal (inr memory) = plain_same refusal _ memory.1 tt

fetch_plain : (fault : FetchFault) (refusal : CommandFault) → IsFetchRefusal fault refusal → IsNoStop refusal
fetch_plain (faults.Refused fault) refusal tells = verify_plain (clients.Refused fault) refusal tells
fetch_plain fault refusal is = plain_same refusal _ is tt

end_plain : (result : Result ⊤ FetchFault) (end : Option CommandFault) → IsFetchEnd result end → (refusal : CommandFault) → end ≡ Some refusal → IsNoStop refusal
end_plain (Ok done) end is refusal e = absurd (cc (sym is ∙ e))
end_plain (Err fault) end (told, is, tells) refusal e = plain_same refusal told (some_is refusal told (sym e ∙ is)) (fetch_plain fault told tells)

ok_of : (result : Result ⊤ FetchFault) (end : Option CommandFault) → IsFetchEnd result end → end ≡ None → result ≡ Ok tt
ok_of (Ok tt) end is e = refl
ok_of (Err fault) end (told, is, tells) e = absurd (cc (sym is ∙ e))

-- what was told is so in a sound DAG, or there is a pair
leads_of : (q : QueryParts) (d : Dag) (sections : List Section) (t : Option Terminal) → IsSound d → root_cid d ≡ q.root → IsTerminalTold q sections t → IfSome t (IsTerminalOf d q.path) ⊎ CollisionPair sections d
leads_of q d sections None sound root told = inl tt
leads_of q d sections (Some t) sound root told = told d sound root

told_in : (scope : Scope) (t : Option Terminal) → scope ≡ scopes.All → IsToldIn scope t → t ≡ None → ⊥
told_in scope t is h = subst (λ (s : Scope). IsToldIn s t) is h

answer_is : (q : QueryParts) (d : Dag) (made : AreMadeAt q d) → answer q d ≡ Some (node_text q.scope q.span made.at)
answer_is q d made = ap (answer_at q) made.found

-- ---- `fetch`

abbrev call_parts : FetchIntoParts → FetchParts
call_parts parts = record { addr = parts.addr; query = parts.query }

five : IsOther 5
five = record { zero = refl; six = refl; seven = refl; eight = refl }

nine : IsOther 9
nine = record { zero = refl; six = refl; seven = refl; eight = refl }

module _ (parts : FetchIntoParts) (dial : Dialling) (making : Making) (out : Output) (end : Option CommandFault) (h : FetchesInto parts dial making out end) where
  inner_own : (refusal : CommandFault) → h.inner ≡ Some refusal → IsOwn refusal
  inner_own refusal is =
      fetch_answers_own (call_parts parts) dial (into_extract making.meaning h.begun h.called) refusal
      (subst (FetchAnswers (call_parts parts) dial (into_extract making.meaning h.begun h.called)) is h.fetch)

  fetch_told : exit_status end ≡ 0 → PutAll (counts_line (counts_of (made_in making))) out
  fetch_told zero = (all_done making.meaning making.new out end h.inner h.finished inner_own zero h.ends).put

  fetch_rose : exit_status end ≡ 5 → DialRose dial
  fetch_rose e =
      fetch_rose_of (call_parts parts) dial (into_extract making.meaning h.begun h.called) h.inner
      (inner_has making.meaning making.new out end 5 h.inner h.finished five e h.ends) h.fetch

  fetch_unput : exit_status end ≡ 9 → OutputUntouched out
  fetch_unput e = into_unput making.meaning making.new out end 9 h.inner h.finished nine e h.ends

  place : making.meaning.place making.new.tree ≡ Some parts.folder
  place =
      place_is making.meaning parts.folder h.fetch.sound.text making.old h.begun h.called making.new h.finished h.begins h.fetch.sound.put.moved h.finish

  -- beside a sound DAG
  module _ (law : AnswerIsFront) (d : Dag) (sound : IsSound d) (root : root_cid d ≡ parts.query.root) (scope : parts.query.scope ≡ scopes.All) (form : parts.query.form ≡ forms.Car) where
    abbrev Pair : Type 0
    Pair = HasPairHeard parts.query d dial

    heard_pair : CollisionPair h.fetch.sound.sections d → Pair
    heard_pair pair = record { heard = h.fetch.sound.heard; heard_in = h.fetch.sound.heard_in; sections = h.fetch.sound.sections; received = h.fetch.sound.received; pair = pair }

    told_pair : CollisionPair h.told.tells.so.sections d → Pair
    told_pair pair = record { heard = h.told.heard; heard_in = h.told.heard_in; sections = h.told.tells.so.sections; received = h.told.tells.so.received; pair = pair }

    fetch_went : Went making.meaning parts.query d Pair h.begun h.called h.inner
    fetch_went =
        let s = h.fetch.sound in
        let says = s.sound d sound root in
        record {
          text = s.text;
          grows = s.put.moved;
          terminal = h.told.tells.terminal;
          kind = h.told.tells.known;
          leads = elim (leads_of parts.query d h.told.tells.so.sections h.told.tells.terminal sound root h.told.tells.so.told) [ inl leads ↦ inl leads | inr pair ↦ inr (told_pair pair) ];
          front = elim (front_by law parts.query d s.sections s.text h.fetch.result says) [ inl front ↦ inl front | inr pair ↦ inr (heard_pair pair) ];
          whole = λ accepted. elim (answer_by parts.query d s.sections s.text h.fetch.result h.inner (ap exit_status accepted) h.fetch.end_is says)
              [ inl whole ↦ inl whole | inr pair ↦ inr (heard_pair pair) ];
          told = λ accepted. told_in parts.query.scope h.told.tells.terminal scope (h.told.tells.all (ok_of h.fetch.result h.inner h.fetch.end_is accepted) form);
          nowhere = λ e. elim (nowhere_by parts.query d s.sections s.text h.fetch.result h.inner e h.fetch.end_is says) [ inl none ↦ inl none | inr pair ↦ inr (heard_pair pair) ];
          plain = end_plain h.fetch.result h.inner h.fetch.end_is;
          own = inner_own;
        }

    fetch_vouched : MadeLaws → IsMeasured d → (err : Output) (status : ℕ) → status ≡ exit_status end → Says end err → VouchedFolder parts.query d parts.folder Pair making err status
    fetch_vouched laws measured err status e line =
        vouched_by laws making.meaning parts.query d Pair parts.folder making.old h.begun h.called making.new h.inner h.finished out end sound measured scope h.begins fetch_went h.finish h.ends
        err status making e line place refl

    -- the answer was accepted, or memory was wanted, or the extract failed
    Taken : Option CommandFault → Type 0
    Taken inner = (inner ≡ None) ⊎ ((inner ≡ Some refusals.OutOfMemory) ⊎ ((inner ≡ Some refusals.SinkFault) × OutputRose (into_extract making.meaning h.begun h.called)))

    sink_refusal : (refusal : CommandFault) → IsVerifyRefusal (clients.Refused verifiers.SinkFault) refusal → refusal ≡ refusals.SinkFault
    sink_refusal refusal (inl tells) = tells
    sink_refusal refusal (inr memory) = absurd memory.0

    taken_by : (DialRose dial → ⊥) → (text : List ℕ) (result : Result ⊤ FetchFault) (inner : Option CommandFault) → IsFetchEnd result inner
        → FetchEnds parts.query standard parts.addr dial (into_extract making.meaning h.begun h.called) result → QuietUnlessSink (into_extract making.meaning h.begun h.called) result
        → IsAcceptedElse text (into_extract making.meaning h.begun h.called) result → Taken inner
    unfolding Taken
    taken_by no_dial text (Ok done) inner is ends cause put = inl is
    taken_by no_dial text (Err (faults.Refused verifiers.SinkFault)) inner (refusal, is, tells) ends cause own = inr (inr (is ∙ ap Some (sink_refusal refusal tells), cause))
    taken_by no_dial text (Err faults.PeerFault) inner is ends cause own =
        absurd (no_dial (peer_rose parts.query standard parts.addr dial (into_extract making.meaning h.begun h.called) ends))
    taken_by no_dial text (Err faults.KeepFault) inner is ends cause own = absurd cause
    taken_by no_dial text (Err faults.OutOfMemory) inner (refusal, is, tells) ends cause own = inr (inl (is ∙ ap Some tells))
    taken_by no_dial text (Err (faults.Refused fault)) inner is ends cause own = absurd own
    taken_by no_dial text (Err fault) inner is ends cause own = absurd own

    fetch_answered : MadeLaws → IsReplyOf parts.query d dial → (DialRose dial → ⊥) → (TreeRose making → ⊥) → (OutputRose out → ⊥)
        → (exit_status end ≡ 8) ⊎ (((exit_status end ≡ 0) × IsPathMade parts.query d (made_in making)) ⊎ Pair)
    unfolding Taken
    fetch_answered laws reply no_dial no_tree no_out =
        let text = node_text parts.query.scope parts.query.span reply.made.at in
        let good = inl (record {
          d = d;
          sound = reply.sound;
          root = reply.root;
          answers = answer_is parts.query d reply.made;
          one_each = reply.one_each;
          within = reply.within;
          tells = reply.tells;
        }) in
        answered_by laws making.meaning parts.query d Pair parts.folder making.old h.begun h.called making.new h.inner h.finished out end sound reply.measured scope h.begins fetch_went h.finish h.ends
        reply.made no_tree no_out (taken_by no_dial text h.fetch.result h.inner h.fetch.end_is h.fetch.ends h.fetch.cause (h.fetch.accepts text good))

-- the status of a folder that can't be begun is 6
no_folder_6 : (making : Making) (out : Output) (end : Option CommandFault) → NoNewFolder making out end → exit_status end ≡ 6
no_folder_6 making out end none = ap exit_status none.end_is

module _ (parts : FetchIntoParts) (dial : DialUse) (making : Making) (out : Output) where
  pub no_fetch_into_usage : FetchIntoAnswers parts dial making out (Some refusals.Usage) → ⊥
  no_fetch_into_usage (inl none) = let is = none.0.end_is in absurd (cc is)
  no_fetch_into_usage (inr h) =
      no_into_usage making.meaning making.new out h.inner h.finished
      (λ is. no_fetch_usage (call_parts parts) dial.dialling (into_extract making.meaning h.begun h.called)
      (subst (FetchAnswers (call_parts parts) dial.dialling (into_extract making.meaning h.begun h.called)) is h.fetch)) h.ends

  pub fetch_into_own : (refusal : CommandFault) → FetchIntoAnswers parts dial making out (Some refusal) → IsOwn refusal
  fetch_into_own refusal (inl none) = λ words status e. let is = none.0.end_is in cc
  fetch_into_own refusal (inr h) = into_own making.meaning making.new out refusal h.inner h.finished (inner_own parts dial.dialling making out (Some refusal) h) h.ends

  pub fetch_into_quiet : (end : Option CommandFault) → exit_status end ≢ 6 → FetchIntoAnswers parts dial making out end → OutputQuiet out
  fetch_into_quiet end ne (inl none) = none.0.unput.quiet
  fetch_into_quiet end ne (inr h) = into_quiet making.meaning making.new out end h.inner h.finished ne h.ends

  pub fetch_into_told : (end : Option CommandFault) → exit_status end ≡ 0 → FetchIntoAnswers parts dial making out end → PutAll (counts_line (counts_of (made_in making))) out
  fetch_into_told end e (inl none) = absurd (differs 6 0 refl (sym (no_folder_6 making out end none.0) ∙ e))
  fetch_into_told end e (inr h) = fetch_told parts dial.dialling making out end h e

  pub fetch_into_rose : (end : Option CommandFault) → exit_status end ≡ 5 → FetchIntoAnswers parts dial making out end → DialRose dial.dialling
  fetch_into_rose end e (inl none) = absurd (differs 6 5 refl (sym (no_folder_6 making out end none.0) ∙ e))
  fetch_into_rose end e (inr h) = fetch_rose parts dial.dialling making out end h e

  pub fetch_into_nothing : (end : Option CommandFault) → exit_status end ≡ 9 → FetchIntoAnswers parts dial making out end → OutputUntouched out
  fetch_into_nothing end e (inl none) = none.0.unput
  fetch_into_nothing end e (inr h) = fetch_unput parts dial.dialling making out end h e

  module _ (laws : MadeLaws) (law : AnswerIsFront) (scope : parts.query.scope ≡ scopes.All) (form : parts.query.form ≡ forms.Car) (d : Dag) (end : Option CommandFault) (status : ℕ) (e : status ≡ exit_status end) where
    pub fetch_into_vouched : (err : Output) → Says end err → IsSound d → IsMeasured d → root_cid d ≡ parts.query.root → FetchIntoAnswers parts dial making out end
        → IsUnmade making status ⊎ VouchedFolder parts.query d parts.folder (HasPairHeard parts.query d dial.dialling) making err status
    fetch_into_vouched err line sound measured root (inl none) = inl (record { failed = none.0.failed; status_is = e ∙ no_folder_6 making out end none.0 })
    fetch_into_vouched err line sound measured root (inr h) = inr (fetch_vouched parts dial.dialling making out end h law d sound root scope form laws measured err status e line)

    pub fetch_into_answered : IsReplyOf parts.query d dial.dialling → (DialRose dial.dialling → ⊥) → (TreeRose making → ⊥) → (OutputRose out → ⊥) → FetchIntoAnswers parts dial making out end
        → (status ≡ 8) ⊎ (((status ≡ 0) × IsPathMade parts.query d (made_in making)) ⊎ HasPairHeard parts.query d dial.dialling)
    fetch_into_answered reply no_dial no_tree no_out (inl none) = absurd (no_tree none.0.failed.rose.rose)
    fetch_into_answered reply no_dial no_tree no_out (inr h) =
        subst (λ (n : ℕ). (n ≡ 8) ⊎ (((n ≡ 0) × IsPathMade parts.query d (made_in making)) ⊎ HasPairHeard parts.query d dial.dialling)) (sym e)
        (fetch_answered parts dial.dialling making out end h law d reply.sound reply.root scope form laws reply no_dial no_tree no_out)

-- ---- `verify`

module _ (parts : VerifyIntoParts) (input : Input) (making : Making) (out : Output) (end : Option CommandFault) (h : VerifiesInto parts input making out end) where
  abbrev Into : Output
  Into = into_extract making.meaning h.begun h.called

  verify_inner_own : (inner : Option CommandFault) → VerifyEnds parts.query input Into inner → (refusal : CommandFault) → inner ≡ Some refusal → IsOwn refusal
  verify_inner_own None ends refusal is = absurd (cc is)
  verify_inner_own (Some other) ends refusal is = subst IsOwn (some_is other refusal is) (verify_own ends.fault other ends.tells)

  inner_usage : h.inner ≡ Some refusals.Usage → ⊥
  inner_usage is = no_verify_usage parts.query input Into (subst (VerifyEnds parts.query input Into) is h.verify)

  -- the text that went into the extract
  record Reads : Type 0 where
    text : List ℕ
    put : Put text Into

  read_of : (inner : Option CommandFault) → VerifyEnds parts.query input Into inner → Reads
  read_of None ends = record { text = ends.verifies.text; put = ends.verifies.put }
  read_of (Some refusal) ends = record { text = ends.verifies.text; put = ends.verifies.put }

  verify_place : making.meaning.place making.new.tree ≡ Some parts.folder
  verify_place =
      let reads = read_of h.inner h.verify in
      place_is making.meaning parts.folder reads.text making.old h.begun h.called making.new h.finished h.begins reads.put.moved h.finish

  input_quiet : (fault : ClientFault) (refusal : CommandFault) → IsVerifyRefusal fault refusal → HasStreamCause input Into (Err fault) → (refusal ≡ refusals.InputFault → ⊥) → InputQuiet input
  input_quiet clients.InputFault refusal (inl tells) cause none = absurd (none tells)
  input_quiet clients.InputFault refusal (inr memory) cause none = absurd memory.0
  input_quiet clients.KeepFault refusal tells cause none = absurd cause
  input_quiet (clients.Refused verifiers.SinkFault) refusal tells cause none = cause.0
  input_quiet (clients.Refused fault) refusal tells cause none = cause.0
  input_quiet fault refusal tells cause none = cause.0

  -- a fault of the input has status 6
  no_input_fault : exit_status end ≢ 6 → (inner : Option CommandFault) → IntoEnds making.meaning making.new inner h.finished out end → inner ≡ Some refusals.InputFault → ⊥
  no_input_fault ne inner ends is = ne (ap exit_status (subst (λ (i : Option CommandFault). IntoEnds making.meaning making.new i h.finished out end) is ends).0)

  input_at : exit_status end ≢ 6 → (inner : Option CommandFault) → VerifyEnds parts.query input Into inner → IntoEnds making.meaning making.new inner h.finished out end → InputQuiet input
  input_at ne None ends into = ends.cause.0
  input_at ne (Some refusal) ends into = input_quiet ends.fault refusal ends.tells ends.cause (λ is. no_input_fault ne (Some refusal) into (ap Some is))

  verify_told : exit_status end ≡ 0 → PutAll (counts_line (counts_of (made_in making))) out
  verify_told zero = (all_done making.meaning making.new out end h.inner h.finished (verify_inner_own h.inner h.verify) zero h.ends).put

  -- beside a sound DAG
  module _ (law : AnswerIsFront) (d : Dag) (sound : IsSound d) (root : root_cid d ≡ parts.query.root) (scope : parts.query.scope ≡ scopes.All) where
    abbrev VerifyPair : Type 0
    VerifyPair = HasPairTaken d input

    taken_pair : CollisionPair h.told.heard.sections d → VerifyPair
    taken_pair pair = record {
      heard = h.told.heard.heard;
      unheard = h.told.heard.unheard;
      took = subst (λ (bytes : List ℕ). Took bytes input) h.told.heard.whole h.told.took;
      sections = h.told.heard.sections;
      received = h.told.heard.received;
      pair = pair;
    }

    verify_leads : IfSome h.told.terminal (IsTerminalOf d parts.query.path) ⊎ VerifyPair
    verify_leads = elim (leads_of parts.query d h.told.heard.sections h.told.terminal sound root h.told.heard.told) [ inl leads ↦ inl leads | inr pair ↦ inr (taken_pair pair) ]

    went_at : (inner : Option CommandFault) → VerifyEnds parts.query input Into inner → (inner ≡ None → h.result ≡ Ok tt) → Went making.meaning parts.query d VerifyPair h.begun h.called inner
    went_at None ends accepted =
        let did = ends.verifies in
        let is = did.sound d sound root in
        let pair : CollisionPair did.sections d → VerifyPair = λ p. record { heard = did.heard; unheard = did.unheard; took = did.took; sections = did.sections; received = did.received; pair = p } in
        record {
          text = did.text;
          grows = did.put.moved;
          terminal = h.told.terminal;
          kind = h.told.known;
          leads = verify_leads;
          front = elim (law parts.query d did.sections did.text is) [ inl front ↦ inl front | inr p ↦ inr (pair p) ];
          whole = λ e. elim is [ inl whole ↦ inl whole | inr p ↦ inr (pair p) ];
          told = λ e. told_in parts.query.scope h.told.terminal scope (h.told.all (accepted e));
          nowhere = λ e. absurd (differs 0 9 refl e);
          plain = λ refusal e. absurd (cc e);
          own = λ refusal e. absurd (cc e);
        }
    went_at (Some refusal) ends accepted =
        let did = ends.verifies in
        let says = did.sound d sound root in
        let pair : CollisionPair did.sections d → VerifyPair = λ p. record { heard = did.heard; unheard = did.unheard; took = did.took; sections = did.sections; received = did.received; pair = p } in
        record {
          text = did.text;
          grows = did.put.moved;
          terminal = h.told.terminal;
          kind = h.told.known;
          leads = verify_leads;
          front = elim (front_at_fault parts.query d did.sections did.text ends.fault says) [ inl front ↦ inl front | inr p ↦ inr (pair p) ];
          whole = λ e. absurd (cc e);
          told = λ e. absurd (cc e);
          nowhere = λ e. elim (nowhere_for parts.query d did.sections did.text ends.fault refusal e (has_status ends.fault refusal ends.tells) says) [ inl none ↦ inl none | inr p ↦ inr (pair p) ];
          plain = λ other e. plain_same other refusal (some_is other refusal (sym e)) (verify_plain ends.fault refusal ends.tells);
          own = λ other e. subst IsOwn (some_is refusal other e) (verify_own ends.fault refusal ends.tells);
        }

    verify_vouched : MadeLaws → IsMeasured d → (err : Output) (status : ℕ) → status ≡ exit_status end → Says end err → VouchedFolder parts.query d parts.folder VerifyPair making err status
    verify_vouched laws measured err status e line =
        vouched_by laws making.meaning parts.query d VerifyPair parts.folder making.old h.begun h.called making.new h.inner h.finished out end sound measured scope h.begins
        (went_at h.inner h.verify h.accepted) h.finish h.ends err status making e line verify_place refl

    abbrev TakenInput : Option CommandFault → Type 0
    TakenInput inner = (inner ≡ None) ⊎ ((inner ≡ Some refusals.OutOfMemory) ⊎ ((inner ≡ Some refusals.SinkFault) × OutputRose Into))

    car_taken_by : (InputRose input → ⊥) → (fault : ClientFault) (refusal : CommandFault) → IsVerifyRefusal fault refusal → HasStreamCause input Into (Err fault) → IsOwnEnd fault → TakenInput (Some refusal)
    car_taken_by no_in clients.InputFault refusal tells cause own = absurd (no_in cause.0)
    car_taken_by no_in clients.KeepFault refusal tells cause own = absurd cause
    car_taken_by no_in (clients.Refused verifiers.SinkFault) refusal (inl tells) cause own = inr (inr (ap Some tells, cause.1))
    car_taken_by no_in (clients.Refused verifiers.SinkFault) refusal (inr memory) cause own = absurd memory.0
    car_taken_by no_in clients.OutOfMemory refusal (inl tells) cause own = inr (inl (ap Some tells))
    car_taken_by no_in clients.OutOfMemory refusal (inr memory) cause own = inr (inl (ap Some memory.1))
    car_taken_by no_in (clients.Refused fault) refusal tells cause own = absurd own
    car_taken_by no_in fault refusal tells cause own = absurd own

    car_taken : (bytes : List ℕ) → input.left_old ≡ Some bytes → IsCarFor parts.query d bytes → (InputRose input → ⊥) → (inner : Option CommandFault) → VerifyEnds parts.query input Into inner → TakenInput inner
    car_taken bytes told good no_in None ends = inl refl
    car_taken bytes told good no_in (Some refusal) ends =
        car_taken_by no_in ends.fault refusal ends.tells ends.cause (ends.else bytes told (inl (d, good.text, good.car), good.few))

    verify_answered : MadeLaws → (bytes : List ℕ) → input.left_old ≡ Some bytes → IsCarFor parts.query d bytes → (InputRose input → ⊥) → (TreeRose making → ⊥) → (OutputRose out → ⊥)
        → (exit_status end ≡ 8) ⊎ (((exit_status end ≡ 0) × IsPathMade parts.query d (made_in making)) ⊎ VerifyPair)
    verify_answered laws bytes told good no_in no_tree no_out =
        answered_by laws making.meaning parts.query d VerifyPair parts.folder making.old h.begun h.called making.new h.inner h.finished out end sound good.measured scope h.begins
        (went_at h.inner h.verify h.accepted) h.finish h.ends good.made no_tree no_out (car_taken bytes told good no_in h.inner h.verify)

module _ (parts : VerifyIntoParts) (input : Input) (making : Making) (out : Output) where
  pub no_verify_into_usage : VerifyIntoAnswers parts input making out (Some refusals.Usage) → ⊥
  no_verify_into_usage (inl none) = let is = none.0.end_is in absurd (cc is)
  no_verify_into_usage (inr h) = no_into_usage making.meaning making.new out h.inner h.finished (inner_usage parts input making out (Some refusals.Usage) h) h.ends

  pub verify_into_own : (refusal : CommandFault) → VerifyIntoAnswers parts input making out (Some refusal) → IsOwn refusal
  verify_into_own refusal (inl none) = λ words status e. let is = none.0.end_is in cc
  verify_into_own refusal (inr h) = into_own making.meaning making.new out refusal h.inner h.finished (verify_inner_own parts input making out (Some refusal) h h.inner h.verify) h.ends

  pub verify_into_quiet : (end : Option CommandFault) → exit_status end ≢ 6 → VerifyIntoAnswers parts input making out end → InputQuiet input × OutputQuiet out
  verify_into_quiet end ne (inl none) = (none.1.quiet, none.0.unput.quiet)
  verify_into_quiet end ne (inr h) = (input_at parts input making out end h ne h.inner h.verify h.ends, into_quiet making.meaning making.new out end h.inner h.finished ne h.ends)

  pub verify_into_told : (end : Option CommandFault) → exit_status end ≡ 0 → VerifyIntoAnswers parts input making out end → PutAll (counts_line (counts_of (made_in making))) out
  verify_into_told end e (inl none) = absurd (differs 6 0 refl (sym (no_folder_6 making out end none.0) ∙ e))
  verify_into_told end e (inr h) = verify_told parts input making out end h e

  pub verify_into_nothing : (end : Option CommandFault) → exit_status end ≡ 9 → VerifyIntoAnswers parts input making out end → OutputUntouched out
  verify_into_nothing end e (inl none) = none.0.unput
  verify_into_nothing end e (inr h) = into_unput making.meaning making.new out end 9 h.inner h.finished nine e h.ends

  module _ (laws : MadeLaws) (law : AnswerIsFront) (scope : parts.query.scope ≡ scopes.All) (d : Dag) (end : Option CommandFault) (status : ℕ) (e : status ≡ exit_status end) where
    pub verify_into_vouched : (err : Output) → Says end err → IsSound d → IsMeasured d → root_cid d ≡ parts.query.root → VerifyIntoAnswers parts input making out end
        → IsUnmade making status ⊎ VouchedFolder parts.query d parts.folder (HasPairTaken d input) making err status
    verify_into_vouched err line sound measured root (inl none) = inl (record { failed = none.0.failed; status_is = e ∙ no_folder_6 making out end none.0 })
    verify_into_vouched err line sound measured root (inr h) = inr (verify_vouched parts input making out end h law d sound root scope laws measured err status e line)

    pub verify_into_answered : (bytes : List ℕ) → input.left_old ≡ Some bytes → IsCarFor parts.query d bytes → (InputRose input → ⊥) → (TreeRose making → ⊥) → (OutputRose out → ⊥)
        → VerifyIntoAnswers parts input making out end → (status ≡ 8) ⊎ (((status ≡ 0) × IsPathMade parts.query d (made_in making)) ⊎ HasPairTaken d input)
    verify_into_answered bytes told good no_in no_tree no_out (inl none) = absurd (no_tree none.0.failed.rose.rose)
    verify_into_answered bytes told good no_in no_tree no_out (inr h) =
        subst (λ (n : ℕ). (n ≡ 8) ⊎ (((n ≡ 0) × IsPathMade parts.query d (made_in making)) ⊎ HasPairTaken d input)) (sym e)
        (verify_answered parts input making out end h law d good.car.sound good.car.root scope laws bytes told good no_in no_tree no_out)
