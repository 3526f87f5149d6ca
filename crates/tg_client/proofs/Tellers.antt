-- A sink that is told something between the bytes that go into it.
use Rattle.std.proofs.Common.{◌≡◌, ℕ, List, [], ◌∷◌, ◌++◌, Option, Some, None, Err, refl, ap, sym, subst, ◌∙◌, append-nil}
use Rattle.std.specs.Prelude.{IfSome, Result, ⊤}
use Rattle.tg_car.specs.History.{GoesOn}
use Rattle.tg_car.specs.declared.event.Event.{Event}
use Rattle.tg_client.specs.Body.{EndsAt, HasEnded, IsBody, IsBodyAt, IsStopped, WentOn}
use Rattle.tg_client.specs.Ends.{IsAccepted}
use Rattle.tg_client.specs.ReceivedLaws.{ReceivedLaws}
use Rattle.tg_client.specs.Telling.{HasTold, IsTerminalHeard, TellsSo, telling}
use Rattle.tg_client.specs.declared.body.CarBody.{CarBody}
use Rattle.tg_client.specs.declared.fault.ClientFault.{ClientFault}
use Rattle.tg_model.specs.Dag.{Section}
use Rattle.tg_model.specs.LimitNumbers.{LimitNumbers}
use Rattle.tg_model.specs.Queries.{QueryParts}
use Rattle.tg_streams.specs.Joining.{SinkJoins, put_unput}
use Rattle.tg_streams.specs.Streams.{Input, OutputQuiet, Put, SinkMeaning, Took, Unput, into}
use Rattle.tg_varint.specs.Laws.{SpellingLaws}
use Rattle.tg_verify.specs.Laws.{AnswerLaws}
use Rattle.tg_verify.specs.Terminals.{IsToldIn}
use Rattle.tg_verify.specs.declared.terminal.Terminal.{Terminal}
use Rattle.tg_client.proofs.Coming.{HasCome}
use Rattle.tg_client.proofs.Going.{goes_here, past_header}
use Rattle.tg_client.proofs.Hearing.{received_first}

-- ---- what is put into it

module _ {S : Type 0} (m : SinkMeaning S) (wrote : S → S → List ℕ → Type 0) (puts : (a b : S) (u : List ℕ) → m.wrote a b u → wrote a b u) (a b : S) where
  put_telling : (text : List ℕ) → Put text (into m a b) → Put text (into (telling m wrote) a b)
  put_telling text p = record { moved = puts a b text p.moved; held = p.held }

  pub went_telling : (body : CarBody) (heard written : List ℕ) → WentOn body heard written (into m a b) → WentOn body heard written (into (telling m wrote) a b)
  went_telling body heard written w = record { sections = w.sections; text = w.text; put = put_telling w.text w.put; is_body = w.is_body }

  pub stopped_telling : (q : QueryParts) (limits : LimitNumbers) (taken : ℕ) (bytes written : List ℕ) (fault : ClientFault) → IsStopped q limits taken bytes written (into m a b) fault
      → IsStopped q limits taken bytes written (into (telling m wrote) a b) fault
  stopped_telling q limits taken bytes written fault s = record {
    heard = s.heard;
    unheard = s.unheard;
    whole = s.whole;
    within = s.within;
    sections = s.sections;
    received = s.received;
    text = s.text;
    put = put_telling s.text s.put;
    ends = s.ends;
    sound = s.sound;
    wanted = s.wanted;
    counted = s.counted;
  }

-- ---- and nothing behind it

module _ {S : Type 0} (m : SinkMeaning S) (joins : SinkJoins S m) (a b c : S) (none : Unput (into m b c)) where
  pub come_then : (body : CarBody) (input : Input) → HasCome body input (into m a b) → HasCome body input (into m a c)
  come_then body input come =
      let w = come.went in
      record { heard = come.heard; took = come.took; went = record { sections = w.sections; text = w.text; put = put_unput S m a b c w.text joins w.put none; is_body = w.is_body } }

  pub stopped_then : (q : QueryParts) (limits : LimitNumbers) (taken : ℕ) (bytes written : List ℕ) (fault : ClientFault) → IsStopped q limits taken bytes written (into m a b) fault
      → IsStopped q limits taken bytes written (into m a c) fault
  stopped_then q limits taken bytes written fault s = record {
    heard = s.heard;
    unheard = s.unheard;
    whole = s.whole;
    within = s.within;
    sections = s.sections;
    received = s.received;
    text = s.text;
    put = put_unput S m a b c s.text joins s.put none;
    ends = s.ends;
    sound = s.sound;
    wanted = s.wanted;
    counted = s.counted;
  }

-- ---- what it knows

-- where nothing is told now nothing was told before
none_before : (old now : Option Terminal) → IfSome old (λ t. now ≡ Some t) → now ≡ None → old ≡ None
none_before None now stays none = refl
none_before (Some t) now stays none = let both = sym stays ∙ none in absurd (cc both)

-- what was told before is told now
same_before : (old now : Option Terminal) (t : Terminal) → IfSome old (λ u. now ≡ Some u) → now ≡ Some t → IfSome old (λ u. u ≡ t)
same_before None now t stays is = tt
same_before (Some u) now t stays is = let both = sym stays ∙ is in cc both

module _ {S : Type 0} (m : SinkMeaning S) (knows : S → Option Terminal → Type 0) (stays : (a b : S) (u : List ℕ) (told : Option Terminal) → m.wrote a b u → knows a told → knows b told) (a b : S) where
  pub knows_went : (body : CarBody) (heard written : List ℕ) → WentOn body heard written (into m a b) → (told : Option Terminal) → knows a told → knows b told
  knows_went body heard written w told k = stays a b w.text told w.put.moved k

  pub knows_stopped : (q : QueryParts) (limits : LimitNumbers) (taken : ℕ) (bytes written : List ℕ) (fault : ClientFault) → IsStopped q limits taken bytes written (into m a b) fault
      → (told : Option Terminal) → knows a told → knows b told
  knows_stopped q limits taken bytes written fault s told k = stays a b s.text told s.put.moved k

-- ---- where it may be told what the path leads to, which is known now

pub record MayTell {S : Type 0} (m : SinkMeaning S) (wrote : S → S → List ℕ → Type 0) (knows : S → Option Terminal → Type 0) (a b : S) (now : Option Terminal) : Type 0 where
  pub none : Unput (into (telling m wrote) a b)
  pub quiet : OutputQuiet (into m a b)
  pub known : (old : Option Terminal) → IfSome old (λ t. now ≡ Some t) → knows a old → knows b now

pub not_told : {S : Type 0} (m : SinkMeaning S) (wrote : S → S → List ℕ → Type 0) (knows : S → Option Terminal → Type 0) (a : S) (now : Option Terminal) → wrote a a [] → now ≡ None → MayTell m wrote knows a a now
not_told m wrote knows a now rests none = record {
  none = record { moved = rests; held = refl };
  quiet = refl;
  known = λ old stays k. subst (knows a) (none_before old now stays none ∙ sym none) k;
}

module _ {S : Type 0} (m : SinkMeaning S) (wrote : S → S → List ℕ → Type 0) (knows : S → Option Terminal → Type 0) (a b : S) (now : Option Terminal) where
  pub is_told : (t : Terminal) → now ≡ Some t → wrote a b [] → m.held b ≡ m.held a → m.faults b ≡ m.faults a
      → ((old : Option Terminal) → knows a old → IfSome old (λ u. u ≡ t) → knows b (Some t)) → MayTell m wrote knows a b now
  is_told t is moved held quiet known = record {
    none = record { moved = moved; held = held };
    quiet = quiet;
    known = λ old stays k. subst (knows b) (sym is) (known old k (same_before old now t stays is));
  }

-- ---- before the first byte

not_empty : (u : List ℕ) (x : ℕ) (v w : List ℕ) → [] ≡ (u ++ x ∷ v) ++ w → ⊥
not_empty [] x v w e = absurd (cc e)
not_empty (y ∷ u) x v w e = absurd (cc e)

-- nothing is given of no bytes
none_given : (limit : ℕ) (event : Event) (given : List Event) → GoesOn limit [] (event ∷ given) → ⊥
none_given limit event given on =
    let (rest, a) = past_header limit [] event given on in
    let own = a.reaches in
    not_empty own.header_is.size _ _ (own.done ++ rest) (own.whole ∙ ap (λ (l : List ℕ). l ++ (own.done ++ rest)) own.header_is.whole)

pub untold_first : (body : CarBody) → IsBody body [] [] [] → body.verifier.terminal ≡ None
untold_first body h = by h.given (goes_here body [] [] [] h) h.at
  where
    by : (given : List Event) → GoesOn body.verifier.limits.block [] given → IsBodyAt body given [] [] → body.verifier.terminal ≡ None
    by [] on (fresh, none) = fresh.terminal
    by (event ∷ given) on going = absurd (none_given body.verifier.limits.block event given on)

-- ---- once all came

none_wanted : ReceivedLaws → AnswerLaws → (body : CarBody) (heard : List ℕ) (sections : List Section) (written : List ℕ) → IsBody body heard sections written
    → IsAccepted body.verifier.left.query body.verifier.limits heard sections written → body.verifier.left.wanted ≡ None
none_wanted received laws body heard sections written h accepted = by h.given (goes_here body heard sections written h) h.at
  where
    by : (given : List Event) → GoesOn body.verifier.limits.block heard given → IsBodyAt body given sections written → body.verifier.left.wanted ≡ None
    by [] on at = absurd (received.headed body.verifier.limits.block sections heard [] heard accepted.is_car (sym (append-nil heard)) on)
    by (event ∷ given) on going =
        let fit = laws.through body.verifier.left.query body.verifier.limits sections written accepted.through in
        (laws.fit_through body.verifier fit.s sections written written fit.fits going).0

-- ---- what was told when it ends

-- of the query, and within the limits
pub heard_as : (q other : QueryParts) (limits others : LimitNumbers) (bytes : List ℕ) (terminal : Option Terminal) → q ≡ other → limits ≡ others → IsTerminalHeard q limits bytes terminal
    → IsTerminalHeard other others bytes terminal
heard_as q other limits others bytes terminal query same heard =
    subst (λ (n : LimitNumbers). IsTerminalHeard other n bytes terminal) same (subst (λ (q : QueryParts). IsTerminalHeard q limits bytes terminal) query heard)

module _ (q : QueryParts) (limits : LimitNumbers) (input : Input) (knows : Option Terminal → Type 0) where
  pub told_refused : (bytes : List ℕ) (terminal : Option Terminal) (fault : ClientFault) → Took bytes input → knows terminal → IsTerminalHeard q limits bytes terminal
      → HasTold q limits input knows (Err fault)
  told_refused bytes terminal fault took known heard = record { bytes = bytes; took = took; terminal = terminal; known = known; heard = heard; all = λ e. absurd (cc e) }

  -- before the first byte
  pub told_nothing : SpellingLaws → (fault : ClientFault) → Took [] input → knows None → HasTold q limits input knows (Err fault)
  told_nothing varints fault took known =
      told_refused [] None fault took known (record { heard = []; unheard = []; whole = refl; sections = []; received = received_first varints limits.block; told = tt })

  -- where no more bytes come
  pub told_end : ReceivedLaws → AnswerLaws → (body : CarBody) (bytes : List ℕ) (sections : List Section) (text : List ℕ) (result : Result ⊤ ClientFault) → body.verifier.left.query ≡ q → body.verifier.limits ≡ limits
      → IsBody body bytes sections text → TellsSo body bytes → HasEnded body.verifier.left.query body.verifier.limits bytes sections text result → Took bytes input → knows body.verifier.terminal
      → HasTold q limits input knows result
  told_end received laws body bytes sections text result query same h so ended took known = record {
    bytes = bytes;
    took = took;
    terminal = body.verifier.terminal;
    known = known;
    heard = heard_as body.verifier.left.query q body.verifier.limits limits bytes body.verifier.terminal query same so.so;
    all = λ e.
        let accepted = subst (λ (r : Result ⊤ ClientFault). EndsAt body.verifier.left.query body.verifier.limits bytes sections text r) e ended.ends in
        subst (λ (q : QueryParts). IsToldIn q.scope body.verifier.terminal) query (so.all (none_wanted received laws body bytes sections text h accepted));
  }
