-- A sink that is told what the path leads to, while a reply goes into it.
use Rattle.std.proofs.Common.{◌≡◌, ℕ, Bool, false, true, List, [], ◌++◌, Option, Some, None, Ok, Err, Result, refl, sym, subst, ◌∙◌, ap}
use Rattle.std.specs.Prelude.{IfSome, ⊤}
use Rattle.tg_bytes.specs.Told.{IsNothing, grown}
use Rattle.tg_bytes.specs.ToldLaws.{grown-nothing}
use Rattle.tg_client.specs.Telling.{telling}
use Rattle.tg_dials.specs.Dials.{Dialling, IsHungUp, KeepsCalls}
use Rattle.tg_faults.specs.Faults.{Rose}
use Rattle.tg_fetch.proofs.Receiving.{told_in, untold}
use Rattle.tg_fetch.specs.Clients.{EndEnds, EndedWhole, FedAll, FedMore, FeedEnds}
use Rattle.tg_fetch.specs.Keeping.{EndKeeps, FeedKeeps, HasFaultCause}
use Rattle.tg_fetch.specs.Received as received
use Rattle.tg_fetch.specs.Replies.{IsRefused}
use Rattle.tg_fetch.specs.Telling.{CallTells, HeardTells, IsTerminalReceived, IsToldBy, LinkTells, Tells, terminal_of}
use Rattle.tg_fetch.specs.declared.client.Client.{Client}
use Rattle.tg_fetch.specs.declared.client.Stage.TheVariants as stages
use Rattle.tg_fetch.specs.declared.fault.FetchFault.{FetchFault}
use Rattle.tg_fetch.specs.declared.fault.FetchFault.TheVariants as faults
use Rattle.tg_links.specs.Links.{LinkMeaning, PutsAreSaid}
use Rattle.tg_links.specs.Steps.{LinkStep, link_step}
use Rattle.tg_links.specs.Views.{LinkView, between}
use Rattle.tg_model.specs.Dag.{Section}
use Rattle.tg_model.specs.LimitNumbers.{LimitNumbers}
use Rattle.tg_model.specs.Queries.{QueryParts}
use Rattle.tg_model.specs.Stores.{Keeping}
use Rattle.tg_streams.specs.Joining.{SinkJoins, put_unput}
use Rattle.tg_streams.specs.Streams.{Output, OutputQuiet, Put, SinkMeaning, SourceMeaning, Unput, into}
use Rattle.tg_verify.specs.declared.fault.Refusal.TheVariants as refusals
use Rattle.tg_verify.specs.declared.terminal.Terminal.{Terminal}
use Rattle.tg_verify.specs.declared.verifier.Progress.{Progress}
use Rattle.tg_verify.specs.declared.verifier.Progress.TheVariants as progresses

-- ---- what is put into it, and nothing behind it

module _ {S : Type 0} (m : SinkMeaning S) (wrote : S → S → List ℕ → Type 0) (puts : (a b : S) (u : List ℕ) → m.wrote a b u → wrote a b u) (joins : SinkJoins S (telling m wrote)) (a b c : S)
    (nothing : Unput (into (telling m wrote) b c)) where
  put_then : (text : List ℕ) → Put text (into m a b) → Put text (into (telling m wrote) a c)
  put_then text p = put_unput S (telling m wrote) a b c text joins (record { moved = puts a b text p.moved; held = p.held }) nothing

  more_then : (client : Client) (heard written : List ℕ) → FedMore client heard written (into m a b) → FedMore client heard written (into (telling m wrote) a c)
  more_then client heard written e = record { text = e.text; put = put_then e.text e.put; is_open = e.is_open }

  all_then : (q : QueryParts) (limits : LimitNumbers) (heard piece written : List ℕ) → FedAll q limits heard piece written (into m a b) → FedAll q limits heard piece written (into (telling m wrote) a c)
  all_then q limits heard piece written e = record {
    front = e.front;
    more = e.more;
    whole = e.whole;
    text = e.text;
    put = put_then e.text e.put;
    sections = e.sections;
    answered = e.answered;
    sound = e.sound;
  }

  refused_then : (q : QueryParts) (limits : LimitNumbers) (heard piece : List ℕ) (ended : Bool) (written : List ℕ) (fault : FetchFault) → IsRefused q limits heard piece ended written (into m a b) fault
      → IsRefused q limits heard piece ended written (into (telling m wrote) a c) fault
  refused_then q limits heard piece ended written fault e = record {
    front = e.front;
    more = e.more;
    whole = e.whole;
    text = e.text;
    put = put_then e.text e.put;
    sections = e.sections;
    within = e.within;
    refused = e.refused;
    sound = e.sound;
  }

  whole_then : (q : QueryParts) (limits : LimitNumbers) (heard written : List ℕ) → EndedWhole q limits heard written (into m a b) → EndedWhole q limits heard written (into (telling m wrote) a c)
  whole_then q limits heard written e = record { text = e.text; put = put_then e.text e.put; sections = e.sections; answered = e.answered; sound = e.sound }

  pub feed_ends_then : (client : Client) (heard piece written : List ℕ) (result : Result Progress FetchFault) → FeedEnds client heard piece written (into m a b) result
      → FeedEnds client heard piece written (into (telling m wrote) a c) result
  feed_ends_then client heard piece written (Ok progresses.More) e = more_then client (heard ++ piece) written e
  feed_ends_then client heard piece written (Ok progresses.Done) e = (all_then client.query client.limits heard piece written e.0, e.1)
  feed_ends_then client heard piece written (Err fault) e = refused_then client.query client.limits heard piece false written fault e

  pub end_ends_then : (q : QueryParts) (limits : LimitNumbers) (heard written : List ℕ) (result : Result ⊤ FetchFault) → EndEnds q limits heard written (into m a b) result
      → EndEnds q limits heard written (into (telling m wrote) a c) result
  end_ends_then q limits heard written (Ok done) e = whole_then q limits heard written e
  end_ends_then q limits heard written (Err fault) e = refused_then q limits heard [] true written fault e

  pub feed_keeps_then : (client : Client) (heard piece : List ℕ) (before : List Section) (written : List ℕ) (keeping : Keeping) (result : Result Progress FetchFault)
      → FeedKeeps client heard piece before written (into m a b) keeping result → FeedKeeps client heard piece before written (into (telling m wrote) a c) keeping result
  unfolding all_then refused_then
  feed_keeps_then client heard piece before written keeping (Ok progresses.More) e = record { fed = more_then client (heard ++ piece) written e.fed; came = e.came; stand = e.stand; kept = e.kept }
  feed_keeps_then client heard piece before written keeping (Ok progresses.Done) e = record { fed = all_then client.query client.limits heard piece written e.fed; kept = e.kept }
  feed_keeps_then client heard piece before written keeping (Err fault) e = record { refused = refused_then client.query client.limits heard piece false written fault e.refused; kept = e.kept }

  pub end_keeps_then : (q : QueryParts) (limits : LimitNumbers) (heard : List ℕ) (before : List Section) (written : List ℕ) (keeping : Keeping) (result : Result ⊤ FetchFault)
      → EndKeeps q limits heard before written (into m a b) keeping result → EndKeeps q limits heard before written (into (telling m wrote) a c) keeping result
  unfolding whole_then refused_then
  end_keeps_then q limits heard before written keeping (Ok done) e = record { ended = whole_then q limits heard written e.ended; kept = e.kept }
  end_keeps_then q limits heard before written keeping (Err fault) e = record { refused = refused_then q limits heard [] true written fault e.refused; kept = e.kept }

pub unput : {S : Type 0} (m : SinkMeaning S) (wrote : S → S → List ℕ → Type 0) → ((a b : S) (u : List ℕ) → m.wrote a b u → wrote a b u) → (a : S) → m.wrote a a [] → Unput (into (telling m wrote) a a)
unput m wrote puts a rests = record { moved = puts a a [] rests; held = refl }

-- ---- its faults

module _ (out all : Output) (keeping : Keeping) (old : all.faults_old ≡ out.faults_old) (new : all.faults_new ≡ out.faults_new) where
  still : OutputQuiet out → OutputQuiet all
  still quiet = new ∙ quiet ∙ sym old

  cause_fault : (A : Type 0) (fault : FetchFault) → HasFaultCause {A = A} out keeping (Err fault) → HasFaultCause {A = A} all keeping (Err fault)
  cause_fault A (faults.Refused (refusals.Extra number)) h = (still h.0, h.1)
  cause_fault A (faults.Refused (refusals.Limit kind number)) h = (still h.0, h.1)
  cause_fault A (faults.Refused (refusals.BadDigest cid)) h = (still h.0, h.1)
  cause_fault A (faults.Refused (refusals.WrongBlock want got)) h = (still h.0, h.1)
  cause_fault A (faults.Refused (refusals.BadBlock cid fault)) h = (still h.0, h.1)
  cause_fault A (faults.Refused (refusals.BadSize declared actual)) h = (still h.0, h.1)
  cause_fault A (faults.Refused (refusals.NotFolder segment)) h = (still h.0, h.1)
  cause_fault A (faults.Refused (refusals.NotThere segment)) h = (still h.0, h.1)
  cause_fault A (faults.Refused refusals.SinkFault) h =
      (subst (λ (n : ℕ). Rose n all.faults_new) (sym old) (subst (λ (n : ℕ). Rose out.faults_old n) (sym new) h.0), h.1)
  cause_fault A (faults.Refused (refusals.Truncated want number)) h = (still h.0, h.1)
  cause_fault A (faults.Refused refusals.OutOfMemory) h = (still h.0, h.1)
  cause_fault A (faults.Status number) h = (still h.0, h.1)
  cause_fault A faults.BadType h = (still h.0, h.1)
  cause_fault A faults.BadReplyHead h = (still h.0, h.1)
  cause_fault A faults.BadFraming h = (still h.0, h.1)
  cause_fault A (faults.BadCar car) h = (still h.0, h.1)
  cause_fault A faults.PeerFault h = (still h.0, h.1)
  cause_fault A faults.KeepFault h = (still h.0, h.1)
  cause_fault A faults.OutOfMemory h = (still h.0, h.1)

  pub cause_as : (A : Type 0) (result : Result A FetchFault) → HasFaultCause {A = A} out keeping result → HasFaultCause {A = A} all keeping result
  cause_as A (Ok done) h = (still h.0, h.1)
  cause_as A (Err fault) h = cause_fault A fault h

-- ---- what it knows

module _ {S : Type 0} (m : SinkMeaning S) (knows : S → Option Terminal → Type 0) (stays : (a b : S) (u : List ℕ) (told : Option Terminal) → m.wrote a b u → knows a told → knows b told) (a b : S)
    (told : Option Terminal) (k : knows a told) where
  pub knows_fed : (client : Client) (heard piece written : List ℕ) (result : Result Progress FetchFault) → FeedEnds client heard piece written (into m a b) result → knows b told
  knows_fed client heard piece written (Ok progresses.More) e = stays a b e.text told e.put.moved k
  knows_fed client heard piece written (Ok progresses.Done) e = stays a b e.0.text told e.0.put.moved k
  knows_fed client heard piece written (Err fault) e = stays a b e.text told e.put.moved k

  pub knows_ended : (q : QueryParts) (limits : LimitNumbers) (heard written : List ℕ) (result : Result ⊤ FetchFault) → EndEnds q limits heard written (into m a b) result → knows b told
  knows_ended q limits heard written (Ok done) e = stays a b e.text told e.put.moved k
  knows_ended q limits heard written (Err fault) e = stays a b e.text told e.put.moved k

-- where nothing is told now nothing was told before
none_before : (old now : Option Terminal) → IfSome old (λ t. now ≡ Some t) → now ≡ None → old ≡ None
none_before None now stays none = refl
none_before (Some t) now stays none = let both = sym stays ∙ none in absurd (cc both)

-- what was told before is told now
same_before : (old now : Option Terminal) (t : Terminal) → IfSome old (λ u. now ≡ Some u) → now ≡ Some t → IfSome old (λ u. u ≡ t)
same_before None now t stays is = tt
same_before (Some u) now t stays is = let both = sym stays ∙ is in cc both

-- it may be told what the path leads to, which is known now
pub record MayTell {S : Type 0} (m : SinkMeaning S) (wrote : S → S → List ℕ → Type 0) (knows : S → Option Terminal → Type 0) (a b : S) (now : Option Terminal) : Type 0 where
  pub nothing : Unput (into (telling m wrote) a b)
  pub quiet : OutputQuiet (into m a b)
  pub known : (old : Option Terminal) → IfSome old (λ t. now ≡ Some t) → knows a old → knows b now

pub not_told : {S : Type 0} (m : SinkMeaning S) (wrote : S → S → List ℕ → Type 0) (knows : S → Option Terminal → Type 0) (a : S) (now : Option Terminal) → wrote a a [] → now ≡ None → MayTell m wrote knows a a now
not_told m wrote knows a now rests none = record {
  nothing = record { moved = rests; held = refl };
  quiet = refl;
  known = λ old stays k. subst (knows a) (none_before old now stays none ∙ sym none) k;
}

pub is_told : {S : Type 0} (m : SinkMeaning S) (wrote : S → S → List ℕ → Type 0) (knows : S → Option Terminal → Type 0) (a b : S) (now : Option Terminal) (t : Terminal) → now ≡ Some t → wrote a b []
    → m.held b ≡ m.held a → m.faults b ≡ m.faults a → ((old : Option Terminal) → knows a old → IfSome old (λ u. u ≡ t) → knows b (Some t)) → MayTell m wrote knows a b now
is_told m wrote knows a b now t is moved held quiet known = record {
  nothing = record { moved = moved; held = held };
  quiet = quiet;
  known = λ old stays k. subst (knows b) (sym is) (known old k (same_before old now t stays is));
}

-- ---- what was told by what was heard

-- of a client for this query, within these limits
pub client_tells : (q : QueryParts) (limits : LimitNumbers) (client : Client) → client.query ≡ q → client.limits ≡ limits → (heard : List ℕ) → Tells client heard → (knows : Option Terminal → Type 0)
    → knows (terminal_of client) → (result : Result ⊤ FetchFault) → (result ≡ Ok tt → client.stage ≡ stages.Done) → HeardTells q limits heard knows result
client_tells q limits client query same heard tells knows known result done = record {
  terminal = terminal_of client;
  known = known;
  so = subst (λ (n : LimitNumbers). IsTerminalReceived q n heard (terminal_of client)) same
      (subst (λ (p : QueryParts). IsTerminalReceived p client.limits heard (terminal_of client)) query tells.so);
  all = λ e. subst (λ (p : QueryParts). IsToldBy p (terminal_of client)) query (tells.all (done e));
}

-- of a reply that is whole
pub done_stage : (told : Progress) (client : Client) (heard piece written : List ℕ) (out : Output) → told ≡ progresses.Done → FeedEnds client heard piece written out (Ok told) → client.stage ≡ stages.Done
done_stage progresses.More client heard piece written out is e = absurd (let no : ⊥ = cc is in no)
done_stage progresses.Done client heard piece written out is e = e.1

-- nothing was heard
tells_nothing : (q : QueryParts) (limits : LimitNumbers) (knows : Option Terminal → Type 0) → knows None → (fault : FetchFault) → HeardTells q limits [] knows (Err fault)
tells_nothing q limits knows known fault = record {
  terminal = None;
  known = known;
  so = record { sections = []; received = received.none refl; told = tt };
  all = λ e. absurd (let no : ⊥ = cc e in no);
}

pub unheard_tells : (q : QueryParts) (limits : LimitNumbers) (link : LinkStep) → link.heard_new ≡ link.heard_old → (knows : Option Terminal → Type 0) → knows None → (fault : FetchFault)
    → LinkTells q limits link knows (Err fault)
unheard_tells q limits link same knows known fault =
    record { heard = []; is_heard = same ∙ grown-nothing link.heard_old; tells = tells_nothing q limits knows known fault }

-- the request was put before
pub asked_tells : {L : Type 0} (m : LinkMeaning L) (source : SourceMeaning L) (sink : SinkMeaning L) → PutsAreSaid L m sink → (q : QueryParts) (limits : LimitNumbers) (l₀ l₁ l₂ : L) (text : List ℕ)
    → sink.wrote l₀ l₁ text → (knows : Option Terminal → Type 0) (result : Result ⊤ FetchFault) → LinkTells q limits (link_step m source l₁ l₂) knows result
    → LinkTells q limits (link_step m source l₀ l₂) knows result
asked_tells m source sink says q limits l₀ l₁ l₂ text wrote knows result h = record {
  heard = h.heard;
  is_heard = h.is_heard ∙ ap (λ (told : Option (List ℕ)). grown told h.heard) (says l₀ l₁ text wrote).heard;
  tells = h.tells;
}

-- by a dial, which made no link
pub missed_tells : (q : QueryParts) (limits : LimitNumbers) (dial : Dialling) → KeepsCalls dial → (knows : Option Terminal → Type 0) → knows None → (fault : FetchFault)
    → CallTells q limits dial knows (Err fault)
missed_tells q limits dial keeps knows known fault = record { heard = []; heard_in = untold dial keeps; tells = tells_nothing q limits knows known fault }

-- or one
pub called_tells : (q : QueryParts) (limits : LimitNumbers) (dial : Dialling) (made link : LinkView) → IsNothing made.heard → IsHungUp link dial → (knows : Option Terminal → Type 0)
    (result : Result ⊤ FetchFault) → LinkTells q limits (between made link) knows result → CallTells q limits dial knows result
called_tells q limits dial made link nothing up knows result h =
    record { heard = h.heard; heard_in = told_in link dial made.heard h.heard nothing h.is_heard up; tells = h.tells }
