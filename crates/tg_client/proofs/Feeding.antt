-- A whole piece, step by step.
use Rattle.std.proofs.Common.{◌≡◌, ℕ, List, [], ◌∷◌, ◌++◌, ◌∙◌, Err, None, Ok, Option, Some, ap, sym, subst, append-nil, append_assoc, take}
use Rattle.std.proofs.lemmas.List.Elements.{All-append}
use Rattle.std.specs.Prelude.{MatchResult, Result, ⊤}
use Rattle.tg_faults.specs.Faults.{Rose}
use Rattle.tg_model.specs.Dag.{Section}
use Rattle.tg_model.specs.LimitNumbers.{LimitNumbers}
use Rattle.tg_model.specs.Queries.{QueryParts}
use Rattle.tg_model.specs.Stores.{KeepMeaning, Keeping, KeepingQuiet, kept_in}
use Rattle.tg_model_laws.specs.Stores.{KeepingJoins, MayKeep}
use Rattle.tg_streams.specs.Joining.{SinkJoins, put_nothing, put_put}
use Rattle.tg_streams.specs.Streams.{Output, Put, SinkMeaning, into}
use Rattle.tg_verify.specs.Sound.{ForEachSound}
use Rattle.tg_verify.specs.declared.fault.Refusal.TheVariants as refusals
use Rattle.tg_client.specs.Body.{IsBody, IsStopped, IsStoppedAt, WentOn, unknown}
use Rattle.tg_client.specs.Ends.{EndsBy, SaysFor}
use Rattle.tg_client.specs.Keeping.{AreKept, AreKeptAt, HasKeepCause, StoppedKeeping, WentOnKeeping}
use Rattle.tg_client.specs.declared.body.CarBody.{CarBody}
use Rattle.tg_client.specs.declared.fault.ClientFault.{ClientFault}
use Rattle.tg_client.specs.declared.fault.ClientFault.TheVariants as faults
use Rattle.tg_client.proofs.Going.{is_received}
use Rattle.tg_client.proofs.Kept.{none_kept}

-- one step of a keeper after another
abbrev pub KeepJoins : (K : Type 0) → KeepMeaning K → Type 0
KeepJoins K m = (a b c : K) (u v : List Section) → m.kept a b u → m.kept b c v → m.kept a c (u ++ v)

-- of a piece of which nothing was taken
pub went_nothing : {K S : Type 0} (k : KeepMeaning K) (p : K) → k.kept p p [] → (m : SinkMeaning S) (a : S) → m.wrote a a []
    → (body : CarBody) (heard : List ℕ) (sections : List Section) (written : List ℕ) → IsBody body heard sections written
    → WentOnKeeping body (heard ++ []) sections written (into m a a) (kept_in k p p)
went_nothing {K} {S} k p keeps m a stays body heard sections written h =
    subst (λ (l : List ℕ). WentOnKeeping body l sections written (into m a a) (kept_in k p p)) (sym (append-nil heard))
    (record {
      came = [];
      received = is_received body heard (sections ++ []) written here;
      kept = none_kept k p keeps;
      text = [];
      put = put_nothing S m a stays;
      is_body = subst (λ (t : List ℕ). IsBody body heard (sections ++ []) t) (sym (append-nil written)) here;
    })
  where
    here : IsBody body heard (sections ++ []) written
    here = subst (λ (s : List Section). IsBody body heard s written) (sym (append-nil sections)) h

-- ---- one step after another

module _ {K : Type 0} (k : KeepMeaning K) (keeps : KeepJoins K k) (laws : KeepingJoins) (p q r : K) (came : List Section) (first : AreKept came (kept_in k p q)) where
  kept_on : (more : List Section) → AreKept more (kept_in k q r) → AreKept (came ++ more) (kept_in k p r)
  kept_on more next = record {
    may = All-append MayKeep came more first.may next.may;
    kept = record {
      moved = keeps p q r came more first.kept.moved next.kept.moved;
      stored = laws (k.stored p) (k.stored q) (k.stored r) came more first.kept.stored next.kept.stored;
    };
    quiet = next.quiet ∙ first.quiet;
  }

  kept_at_on : (fault : ClientFault) (more : List Section) → AreKeptAt fault more (kept_in k q r) → AreKeptAt fault (came ++ more) (kept_in k p r)
  kept_at_on faults.KeepFault more next = record {
    may = All-append MayKeep came more first.may next.may;
    moved = keeps p q r came more first.kept.moved next.moved;
    told = next.told;
    stored = laws (k.stored p) (k.stored q) next.told came more first.kept.stored next.stored;
    left = next.left;
    rose = subst (λ (n : ℕ). Rose n (k.faults r)) first.quiet next.rose;
  }
  kept_at_on (faults.Refused (refusals.BadDigest cid)) more next = record {
    named = came ++ next.named;
    last = next.last;
    sections_are = ap (λ (s : List Section). came ++ s) next.sections_are ∙ sym (append_assoc came next.named (next.last ∷ []));
    kept = kept_on next.named next.kept;
    cid_is = next.cid_is;
    misnamed = next.misnamed;
  }
  kept_at_on (faults.Refused (refusals.Extra number)) more next = kept_on more next
  kept_at_on (faults.Refused (refusals.Limit kind number)) more next = kept_on more next
  kept_at_on (faults.Refused (refusals.WrongBlock want got)) more next = kept_on more next
  kept_at_on (faults.Refused (refusals.BadBlock cid fault)) more next = kept_on more next
  kept_at_on (faults.Refused (refusals.BadSize declared actual)) more next = kept_on more next
  kept_at_on (faults.Refused (refusals.NotFolder segment)) more next = kept_on more next
  kept_at_on (faults.Refused (refusals.NotThere segment)) more next = kept_on more next
  kept_at_on (faults.Refused refusals.SinkFault) more next = kept_on more next
  kept_at_on (faults.Refused (refusals.Truncated want number)) more next = kept_on more next
  kept_at_on (faults.Refused refusals.OutOfMemory) more next = kept_on more next
  kept_at_on (faults.BadCar car) more next = kept_on more next
  kept_at_on faults.InputFault more next = kept_on more next
  kept_at_on faults.OutOfMemory more next = kept_on more next

  module _ {S : Type 0} (m : SinkMeaning S) (joins : SinkJoins S m) (a b c : S) (sections : List Section) (written text : List ℕ) (put : Put text (into m a b)) where
    pub stopped_on : (query : QueryParts) (limits : LimitNumbers) (taken : ℕ) (heard piece part rest : List ℕ) (fault : ClientFault) → piece ≡ part ++ rest
        → StoppedKeeping query limits taken (heard ++ part) rest (sections ++ came) (written ++ text) (into m b c) (kept_in k q r) fault
        → StoppedKeeping query limits taken heard piece sections written (into m a c) (kept_in k p r) fault
    stopped_on query limits taken heard piece part rest fault whole s =
        let same : (written ++ text) ++ s.stopped.text ≡ written ++ (text ++ s.stopped.text) = append_assoc written text s.stopped.text in
        let all : List Section = (sections ++ came) ++ s.came in
        let at : List ℕ = (heard ++ part) ++ s.front in
        let here : IsStoppedAt query limits taken at s.unheard all written (into m a c) fault = record {
          within = s.stopped.within;
          received = s.stopped.received;
          text = text ++ s.stopped.text;
          put = put_put S m a b c text s.stopped.text joins put s.stopped.put;
          ends = subst (λ (t : List ℕ). EndsBy query limits unknown at s.unheard all t (Err fault)) same s.stopped.ends;
          sound = subst (λ (t : List ℕ). ForEachSound query (λ d. SaysFor query d all t (Err fault))) same s.stopped.sound;
          wanted = s.stopped.wanted;
          counted = s.stopped.counted;
        } in
        record {
          front = part ++ s.front;
          unheard = s.unheard;
          whole = whole ∙ (ap (λ (l : List ℕ). part ++ l) s.whole ∙ sym (append_assoc part s.front s.unheard));
          came = came ++ s.came;
          stopped = subst (λ (l : List Section). IsStoppedAt query limits taken (heard ++ (part ++ s.front)) s.unheard l written (into m a c) fault) (append_assoc sections came s.came)
              (subst (λ (l : List ℕ). IsStoppedAt query limits taken l s.unheard all written (into m a c) fault) (append_assoc heard part s.front) here);
          kept = kept_at_on fault s.came s.kept;
        }

    pub went_further : (body : CarBody) (heard : List ℕ) → WentOnKeeping body heard (sections ++ came) (written ++ text) (into m b c) (kept_in k q r)
        → WentOnKeeping body heard sections written (into m a c) (kept_in k p r)
    went_further body heard w =
        let same : (sections ++ came) ++ w.came ≡ sections ++ (came ++ w.came) = append_assoc sections came w.came in
        let is_body : IsBody body heard (sections ++ (came ++ w.came)) ((written ++ text) ++ w.text) = subst (λ (l : List Section). IsBody body heard l ((written ++ text) ++ w.text)) same w.is_body in
        record {
          came = came ++ w.came;
          received = is_received body heard (sections ++ (came ++ w.came)) ((written ++ text) ++ w.text) is_body;
          kept = kept_on w.came w.kept;
          text = text ++ w.text;
          put = put_put S m a b c text w.text joins put w.put;
          is_body = subst (λ (t : List ℕ). IsBody body heard (sections ++ (came ++ w.came)) t) (append_assoc written text w.text) is_body;
        }

-- whose fault was counted
pub keep_cause_from : {K : Type 0} (k : KeepMeaning K) (p q r : K) → KeepingQuiet (kept_in k p q) → (fault : ClientFault) → HasKeepCause {A = ℕ} (kept_in k q r) (Err fault)
    → HasKeepCause {A = ⊤} (kept_in k p r) (Err fault)
keep_cause_from k p q r quiet faults.KeepFault h = subst (λ (n : ℕ). Rose n (k.faults r)) quiet h
keep_cause_from k p q r quiet (faults.Refused refusal) h = h ∙ quiet
keep_cause_from k p q r quiet (faults.BadCar car) h = h ∙ quiet
keep_cause_from k p q r quiet faults.InputFault h = h ∙ quiet
keep_cause_from k p q r quiet faults.OutOfMemory h = h ∙ quiet

-- ---- without what is kept

pub went_so : (body : CarBody) (heard : List ℕ) (sections : List Section) (written : List ℕ) (out : Output) (keeping : Keeping) → WentOnKeeping body heard sections written out keeping
    → WentOn body heard written out
went_so body heard sections written out keeping w = record { sections = sections ++ w.came; text = w.text; put = w.put; is_body = w.is_body }

pub stopped_so : (q : QueryParts) (limits : LimitNumbers) (taken : ℕ) (heard piece : List ℕ) (sections : List Section) (written : List ℕ) (out : Output) (keeping : Keeping) (fault : ClientFault)
    → StoppedKeeping q limits taken heard piece sections written out keeping fault → IsStopped q limits taken (heard ++ piece) written out fault
stopped_so q limits taken heard piece sections written out keeping fault s = record {
  heard = heard ++ s.front;
  unheard = s.unheard;
  whole = ap (λ (l : List ℕ). heard ++ l) s.whole ∙ sym (append_assoc heard s.front s.unheard);
  within = s.stopped.within;
  sections = sections ++ s.came;
  received = s.stopped.received;
  text = s.stopped.text;
  put = s.stopped.put;
  ends = s.stopped.ends;
  sound = s.stopped.sound;
  wanted = s.stopped.wanted;
  counted = s.stopped.counted;
}

pub fed_stands : (result : Result ⊤ ClientFault) (q : QueryParts) (limits : LimitNumbers) (taken : ℕ) (body : CarBody) (heard piece : List ℕ) (sections : List Section) (written : List ℕ)
    (out : Output) (keeping : Keeping)
    → MatchResult result (λ _. WentOnKeeping body (heard ++ piece) sections written out keeping) (λ fault. StoppedKeeping q limits taken heard piece sections written out keeping fault)
    → MatchResult result (λ _. WentOn body (heard ++ piece) written out) (λ fault. IsStopped q limits taken (heard ++ piece) written out fault)
fed_stands (Ok done) q limits taken body heard piece sections written out keeping w = went_so body (heard ++ piece) sections written out keeping w
fed_stands (Err fault) q limits taken body heard piece sections written out keeping s = stopped_so q limits taken heard piece sections written out keeping fault s

-- ---- nothing was refused, and that is kept

kept_so : (body : CarBody) (refused : Option ClientFault) (heard : List ℕ) (sections : List Section) (written : List ℕ) (out : Output) (keeping : Keeping) → refused ≡ body.refused
    → WentOnKeeping body heard sections written out keeping → WentOnKeeping (record body { refused = refused }) heard sections written out keeping
kept_so body refused heard sections written out keeping e w = subst (λ (r : Option ClientFault). WentOnKeeping (record body { refused = r }) heard sections written out keeping) (sym e) w

pub taken_so : (result : Result ℕ ClientFault) (old body : CarBody) (refused : Option ClientFault) (heard piece : List ℕ) (sections : List Section) (written : List ℕ) (out : Output) (keeping : Keeping)
    → old.refused ≡ None → body.refused ≡ old.refused → MatchResult result (λ _. refused ≡ None) (λ fault. refused ≡ Some fault)
    → MatchResult result (λ n. WentOnKeeping body (heard ++ take n piece) sections written out keeping)
    (λ fault. StoppedKeeping old.verifier.left.query old.verifier.limits body.verifier.taken heard piece sections written out keeping fault)
    → MatchResult result (λ n. WentOnKeeping (record body { refused = refused }) (heard ++ take n piece) sections written out keeping)
    (λ fault. StoppedKeeping old.verifier.left.query old.verifier.limits body.verifier.taken heard piece sections written out keeping fault)
taken_so (Ok n) old body refused heard piece sections written out keeping none same is on = kept_so body refused (heard ++ take n piece) sections written out keeping (is ∙ sym (same ∙ none)) on
taken_so (Err fault) old body refused heard piece sections written out keeping none same is stopped = stopped

pub taken_stands : (result : Result ℕ ClientFault) (q : QueryParts) (limits : LimitNumbers) (taken : ℕ) (body : CarBody) (heard piece : List ℕ) (sections : List Section) (written : List ℕ)
    (out : Output) (keeping : Keeping)
    → MatchResult result (λ n. WentOnKeeping body (heard ++ take n piece) sections written out keeping)
    (λ fault. StoppedKeeping q limits taken heard piece sections written out keeping fault)
    → MatchResult result (λ n. WentOn body (heard ++ take n piece) written out) (λ fault. IsStopped q limits taken (heard ++ piece) written out fault)
taken_stands (Ok n) q limits taken body heard piece sections written out keeping w = went_so body (heard ++ take n piece) sections written out keeping w
taken_stands (Err fault) q limits taken body heard piece sections written out keeping s = stopped_so q limits taken heard piece sections written out keeping fault s

-- ---- behind what was put before

pub stopped_behind : {S : Type 0} (m : SinkMeaning S) (joins : SinkJoins S m) (a b c : S) (written text : List ℕ) → Put text (into m a b) → (q : QueryParts) (limits : LimitNumbers) (taken : ℕ)
    (bytes : List ℕ) (fault : ClientFault) → IsStopped q limits taken bytes (written ++ text) (into m b c) fault → IsStopped q limits taken bytes written (into m a c) fault
stopped_behind {S} m joins a b c written text put q limits taken bytes fault s =
    let same : (written ++ text) ++ s.text ≡ written ++ (text ++ s.text) = append_assoc written text s.text in
    record {
      heard = s.heard;
      unheard = s.unheard;
      whole = s.whole;
      within = s.within;
      sections = s.sections;
      received = s.received;
      text = text ++ s.text;
      put = put_put S m a b c text s.text joins put s.put;
      ends = subst (λ (t : List ℕ). EndsBy q limits unknown s.heard s.unheard s.sections t (Err fault)) same s.ends;
      sound = subst (λ (t : List ℕ). ForEachSound q (λ d. SaysFor q d s.sections t (Err fault))) same s.sound;
      wanted = s.wanted;
      counted = s.counted;
    }
