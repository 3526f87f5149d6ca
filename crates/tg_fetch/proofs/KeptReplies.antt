-- Which sections of a reply are kept, step by step.
use Rattle.std.proofs.Common.{◌≡◌, ◌+◌, ◌<◌, ◌≤◌, ℕ, true, false, nat_eq, List, [], ◌∷◌, ◌++◌, ◌∙◌, Err, Ok, Option, None, Result, ap, append-nil, append_assoc, arith, length, refl, subst, sym, take}
use Rattle.std.proofs.lemmas.Bool.{eqb-true}
use Rattle.std.specs.Prelude.{⊤}
use Rattle.tg_body.specs.Bodies.{BodyFront, BodyText}
use Rattle.tg_body.specs.History.{HasEndCause, HasFeedCause}
use Rattle.tg_body.specs.State.{StandsFor as ReaderStandsFor}
use Rattle.tg_body.specs.declared.reader.BodyReader.{BodyReader}
use Rattle.tg_client.specs.Body.{BodyStands}
use Rattle.tg_client.specs.Keeping.{AreKept}
use Rattle.tg_fetch.proofs.Contents.{answered, cut_refused, failed, framing_refused, has_ended, part_refused}
use Rattle.tg_fetch.proofs.Feeding.{all_taken, answered_after, answered_all, answered_front, at_open, head_stops, heads_cut, heads_stop, in_heads, passed, refused_after, refused_behind}
use Rattle.tg_fetch.proofs.KeptSections.{KeepJoins, all_still, behind_on, behind_still, kept_by_on, kept_none, kept_on, none_first, none_second, stands_on}
use Rattle.tg_fetch.proofs.Longer.{refused_front}
use Rattle.tg_fetch.proofs.Standing.{taking_is_open}
use Rattle.tg_fetch.proofs.TakenSections.{OneReceived, behind_of, open_keeps, stand_of, taken_of}
use Rattle.tg_fetch.specs.Bodies.{IsTaking}
use Rattle.tg_fetch.specs.Clients.{FedMore, IsAt, IsOpen, IsShortAt, StepEnds}
use Rattle.tg_fetch.specs.Faults.{fault_of_http}
use Rattle.tg_fetch.specs.Heads.{HeadsStop, IsInHeads}
use Rattle.tg_fetch.specs.HeadsStates.{HeadsState}
use Rattle.tg_fetch.specs.Keeping.{AreKeptBy, FeedKeeps, IsAnswerCar, KeepsBehind, KeptAll, KeptCut, KeptEnded, KeptMore, KeptRefused, StandIn, unkept}
use Rattle.tg_fetch.specs.Keeping as keeps
use Rattle.tg_fetch.specs.KeepingSteps.{AnsweredKeeping, BodyEndKeeps, BodyFailsKeeping, BodyGoesOnKeeping, BodyStopsKeeping, BodyWholeKeeping, ContentEndKeeps, ContentKeeps, StandsKeeping, StepKeeps, TakenIn}
use Rattle.tg_fetch.specs.Replies.{HeadStops, IsInContent, MovesOn}
use Rattle.tg_fetch.specs.declared.client.Client.{Client}
use Rattle.tg_fetch.specs.declared.client.Stage.{Stage}
use Rattle.tg_fetch.specs.declared.client.Stage.TheVariants as stages
use Rattle.tg_fetch.specs.declared.content.Content.{Content}
use Rattle.tg_fetch.specs.declared.content.Move.{Move}
use Rattle.tg_fetch.specs.declared.content.Move.TheVariants as moves
use Rattle.tg_fetch.specs.declared.fault.FetchFault.{FetchFault}
use Rattle.tg_fetch.specs.declared.fault.FetchFault.TheVariants as faults
use Rattle.tg_fetch.specs.declared.sections.Sections.{Sections}
use Rattle.tg_heard.specs.FinalHeads.{FinalHead, IsOpenHead}
use Rattle.tg_heard.specs.FrontLaws.{BodyPieceLaws, HeadLaws}
use Rattle.tg_http.specs.declared.fault.HttpFault.{HttpFault}
use Rattle.tg_http.specs.declared.fault.HttpFault.TheVariants as https
use Rattle.tg_http.specs.declared.framing.Framing.{Framing}
use Rattle.tg_http.specs.declared.framing.Framing.TheVariants as framings
use Rattle.tg_http.specs.declared.reply.ReplyHead.{ReplyHead}
use Rattle.tg_model.specs.Dag.{Section}
use Rattle.tg_model.specs.LimitNumbers.{LimitNumbers}
use Rattle.tg_model.specs.Queries.{QueryParts}
use Rattle.tg_model.specs.Stores.{KeepMeaning, Keeping, kept_in}
use Rattle.tg_model.specs.declared.limits.LimitKind.TheVariants as kinds
use Rattle.tg_model_laws.specs.Stores.{KeepingJoins}
use Rattle.tg_streams.specs.Joining.{SinkJoins}
use Rattle.tg_streams.specs.Streams.{Output, Put, SinkMeaning, into}
use Rattle.tg_verify.specs.declared.fault.Refusal.TheVariants as refusals
use Rattle.tg_verify.specs.declared.verifier.Progress.{Progress}
use Rattle.tg_verify.specs.declared.verifier.Progress.TheVariants as progresses

-- ---- the body behind a final head

-- nothing was kept, and it goes on
pub stands_nothing : (q : QueryParts) (limits : LimitNumbers) (heard : List ℕ) (before : List Section) (keeping : Keeping) → StandIn q limits heard before → AreKept [] keeping
    → StandsKeeping q limits heard before keeping
stands_nothing q limits heard before keeping stand kept = record {
  came = [];
  stand = subst (λ (s : List Section). StandIn q limits heard s) (sym (append-nil before)) stand;
  kept = kept;
}

pub goes_on_nothing : (sections : Sections) (limits : LimitNumbers) (given : List ℕ) (before : List Section) (keeping : Keeping) → TakenIn sections limits given before → AreKept [] keeping
    → BodyGoesOnKeeping sections limits given before keeping
goes_on_nothing sections limits given before keeping taken kept = record {
  came = [];
  taken = subst (λ (s : List Section). TakenIn sections limits given s) (sym (append-nil before)) taken;
  kept = kept;
}

module _ (heads : HeadLaws) (pieces : BodyPieceLaws) (q : QueryParts) (limits : LimitNumbers) (old : Content) (heard written : List ℕ) (h : IsInContent q limits old heard written) where
  front_here : BodyFront h.head.framing h.given h.rest
  front_here = subst (λ (f : Framing). BodyFront f h.given h.rest) h.framing h.reads.exact.so_far

  pub taken_here : (before : List Section) → StandIn q limits heard before → TakenIn old.sections limits h.given before
  taken_here before stand = taken_of heads pieces q limits heard h.head h.rest h.final old.sections h.given written before front_here h.taking stand

  -- more of it was taken
  pub content_stands : (reader : BodyReader) (sections : Sections) (given front : List ℕ) (text : List ℕ) (before : List Section) (keeping : Keeping) → reader.framing ≡ old.reader.framing
      → ReaderStandsFor reader (record { fed = h.rest ++ front; given = given; ended = false; stop = None }) → IsTaking q limits h.head sections given text
      → BodyGoesOnKeeping sections limits given before keeping → StandsKeeping q limits (heard ++ front) before keeping
  content_stands reader sections given front text before keeping same reads t k = record {
    came = k.came;
    stand = stand_of heads pieces q limits (heard ++ front) h.head (h.rest ++ front) (heads.final_stays heard front h.rest h.head h.final) sections given text (before ++ k.came)
        (subst (λ (f : Framing). BodyFront f given (h.rest ++ front)) (same ∙ h.framing) reads.exact.so_far) t k.taken;
    kept = k.kept;
  }

  -- a part of it is refused
  pub part_keeps : (reader : BodyReader) (given front more piece : List ℕ) (before : List Section) (out : Output) (keeping : Keeping) (fault : FetchFault) → piece ≡ front ++ more
      → length (heard ++ front) ≤ limits.received → reader.framing ≡ old.reader.framing
      → ReaderStandsFor reader (record { fed = h.rest ++ front; given = given; ended = false; stop = None })
      → BodyStopsKeeping q limits h.head old.sections given before written out keeping fault → KeptRefused q limits heard piece before written out keeping fault
  part_keeps reader given front more piece before out keeping fault whole within same reads k = record {
    refused = part_refused q limits old heard written h heads reader given front more piece out fault whole within same reads k.stops;
    kept = behind_of heads pieces q limits (heard ++ front) h.head (h.rest ++ front) (heads.final_stays heard front h.rest h.head h.final) old.sections h.given written before k.stops.sections
        (AreKeptBy fault) keeping h.taking k.kept;
  }

  -- it is whole, and isn't accepted
  pub whole_refused : (front more piece : List ℕ) (before : List Section) (out : Output) (keeping : Keeping) (fault : FetchFault) → piece ≡ front ++ more
      → length (heard ++ front) ≤ limits.received → BodyText h.head.framing h.given (h.rest ++ front) → (h.head.framing ≡ framings.UntilClose → false ≡ true)
      → AreKept [] keeping → BodyFailsKeeping q limits h.head old.sections h.given before written out unkept fault → KeptRefused q limits heard piece before written out keeping fault
  whole_refused front more piece before out keeping fault whole within text closed kept k = record {
    refused = failed q limits heard front more piece (h.rest ++ front) h.given written h.head out false fault whole within (heads.final_stays heard front h.rest h.head h.final) text closed k.fails;
    kept = behind_still keeping kept q (heard ++ front) before k.fails.sections fault
        (behind_of heads pieces q limits (heard ++ front) h.head (h.rest ++ front) (heads.final_stays heard front h.rest h.head h.final) old.sections h.given written before k.fails.sections
        (AreKeptBy fault) unkept h.taking k.kept);
  }

  -- or is
  pub whole_answered : (front : List ℕ) (before : List Section) (out : Output) (keeping : Keeping) → BodyText h.head.framing h.given (h.rest ++ front)
      → (h.head.framing ≡ framings.UntilClose → false ≡ true) → AreKept [] keeping → BodyWholeKeeping q limits h.head old.sections h.given before written out unkept
      → AnsweredKeeping q limits (heard ++ front) false before written out keeping
  whole_answered front before out keeping text closed kept k =
      let final = heads.final_stays heard front h.rest h.head h.final in
      record {
        answered = answered q limits (heard ++ front) (h.rest ++ front) h.given written h.head out false final text closed k.whole;
        kept = all_still keeping kept q (heard ++ front) before k.whole.sections
            (behind_of heads pieces q limits (heard ++ front) h.head (h.rest ++ front) final old.sections h.given written before k.whole.sections AreKept unkept h.taking k.kept);
      }

  -- the link ended behind it
  pub ended_keeps : (text : BodyText h.head.framing h.given h.rest) → length heard ≤ limits.received → (before : List Section) (out : Output) (keeping : Keeping) (result : Result ⊤ FetchFault)
      → BodyEndKeeps q limits h.head old.sections h.given before written out keeping result → ContentEndKeeps q limits heard before written out keeping result
  ended_keeps text within before out keeping (Ok done) k = record {
    answered = has_ended q limits old heard written h text within out (Ok done) k.whole;
    kept = behind_of heads pieces q limits heard h.head h.rest h.final old.sections h.given written before k.whole.sections AreKept keeping h.taking k.kept;
  }
  ended_keeps text within before out keeping (Err fault) k = record {
    refused = has_ended q limits old heard written h text within out (Err fault) k.fails;
    kept = subst (λ (l : List ℕ). KeepsBehind q l before k.fails.sections (AreKeptBy fault) keeping) (sym (append-nil heard))
        (behind_of heads pieces q limits heard h.head h.rest h.final old.sections h.given written before k.fails.sections (AreKeptBy fault) keeping h.taking k.kept);
  }

  module _ (stands : BodyStands) (one : OneReceived) (S : Type 0) (m : SinkMeaning S) (a : S) (rests : m.wrote a a []) (before : List Section) (keeping : Keeping) (stand : StandIn q limits heard before)
      (kept : AreKept [] keeping) where
    -- it is refused before its next byte
    here : KeepsBehind q (heard ++ []) before (taking_is_open stands q limits h.head old.sections h.given written h.taking).sections AreKept keeping
    here =
        let all = (taking_is_open stands q limits h.head old.sections h.given written h.taking).sections in
        subst (λ (l : List ℕ). KeepsBehind q l before all AreKept keeping) (sym (append-nil heard))
        (behind_of heads pieces q limits heard h.head h.rest h.final old.sections h.given written before all AreKept keeping h.taking
        (open_keeps stands one q limits h.head old.sections h.given written h.taking before [] keeping
        (subst (λ (s : List Section). TakenIn old.sections limits h.given s) (sym (append-nil before)) (taken_here before stand)) kept))

    pub framing_keeps : (piece : List ℕ) (fault : HttpFault) → length heard + length piece ≤ limits.received → HasFeedCause h.head.framing h.rest h.given piece fault
        → KeptRefused q limits heard piece before written (into m a a) keeping (fault_of_http fault)
    framing_keeps piece https.BadHead few cause = absurd cause
    framing_keeps piece https.HeadLimit few cause = absurd cause
    framing_keeps piece https.BadFraming few cause = record { refused = framing_refused q limits old heard written h stands S m a rests piece https.BadFraming few cause; kept = here }
    framing_keeps piece https.OutOfMemory few cause = record { refused = framing_refused q limits old heard written h stands S m a rests piece https.OutOfMemory few cause; kept = here }

    pub cut_keeps : (fault : HttpFault) → length heard ≤ limits.received → HasEndCause h.head.framing h.rest h.given fault
        → KeptCut q limits heard before written (into m a a) keeping (fault_of_http fault)
    cut_keeps https.BadHead few cause = absurd cause
    cut_keeps https.HeadLimit few cause = absurd cause
    cut_keeps https.OutOfMemory few cause = absurd cause
    cut_keeps https.BadFraming few cause = record { refused = cut_refused q limits old heard written h stands S m a rests https.BadFraming few cause; kept = here }

-- ---- heads

pub open_of : (heads : HeadsState) (heard : List ℕ) → IsInHeads heads heard → IsOpenHead heard
open_of heads heard h = record { count = heads.interims; behind = heads.came; interims = h.interims; few = h.few; waiting = h.waiting }

module _ (laws : HeadLaws) (q : QueryParts) (limits : LimitNumbers) where
  -- before the final head is whole no section stands
  pub no_car : (heard : List ℕ) → IsOpenHead heard → IsAnswerCar q heard → ⊥
  no_car heard is_open car = laws.open_not_final heard car.rest car.head is_open car.final

  pub heads_none_stand : (heard : List ℕ) (before : List Section) → IsOpenHead heard → StandIn q limits heard before → before ≡ []
  heads_none_stand heard before is_open (keeps.outside not e) = e
  heads_none_stand heard before is_open (keeps.inside car given front received) = absurd (no_car heard is_open car)

  pub heads_stand : (heard : List ℕ) (before : List Section) → IsOpenHead heard → before ≡ [] → StandIn q limits heard before
  heads_stand heard before is_open none = keeps.outside (no_car heard is_open) none

  -- how it goes on
  pub step_keeps : (told : Move) (heard : List ℕ) (before : List Section) (written : List ℕ) (out : Output) (keeping : Keeping) → (told ≡ moves.Done → ⊥)
      → StandsKeeping q limits heard before keeping → ContentKeeps q limits heard before written out keeping told
  step_keeps moves.On heard before written out keeping done s = s
  step_keeps moves.Wait heard before written out keeping done s = s
  step_keeps moves.Done heard before written out keeping done s = absurd (done refl)

  -- the body begins
  pub begins_keeping : BodyPieceLaws → (content : Content) (head : ReplyHead) (heard : List ℕ) (before : List Section) (keeping : Keeping) → FinalHead heard head [] → MovesOn q limits head content
      → TakenIn content.sections limits [] [] → before ≡ [] → AreKept [] keeping → StandsKeeping q limits heard before keeping
  begins_keeping pieces content head heard before keeping final m fresh none kept =
      stands_nothing q limits heard before keeping
      (subst (λ (s : List Section). StandIn q limits heard s) (sym none)
      (stand_of laws pieces q limits heard head [] final content.sections [] [] [] (subst (λ (f : Framing). BodyFront f [] []) m.framing m.reads.exact.so_far) m.taking fresh)) kept

module _ (client : Client) (heads : HeadsState) (heard written : List ℕ) (e : client.stage ≡ stages.Heads heads) (h : IsOpen client heard written) (laws : HeadLaws) (before : List Section)
    (stand : StandIn client.query client.limits heard before) (out : Output) (put : Put [] out) (keeping : Keeping) (kept : AreKept [] keeping) where
  pub before_heads : before ≡ []
  before_heads =
      heads_none_stand laws client.query client.limits heard before (open_of heads heard (in_heads client.query client.limits client.stage heads heard written e h.at).0) stand

  -- the heads are refused
  pub heads_keep : (piece : List ℕ) (fault : FetchFault) → length heard + length piece ≤ client.limits.received → HeadsStop (heard ++ piece) fault
      → KeptRefused client.query client.limits heard piece before written out keeping fault
  heads_keep piece faults.BadReplyHead few stop = record {
    refused = heads_stop client heads heard piece written out faults.BadReplyHead e h put few stop;
    kept = keeps.none refl before_heads kept;
  }
  heads_keep piece faults.OutOfMemory few stop = record {
    refused = heads_stop client heads heard piece written out faults.OutOfMemory e h put few stop;
    kept = keeps.none refl before_heads kept;
  }
  heads_keep piece (faults.Refused refusal) few stop = absurd stop
  heads_keep piece (faults.Status status) few stop = absurd stop
  heads_keep piece faults.BadType few stop = absurd stop
  heads_keep piece faults.BadFraming few stop = absurd stop
  heads_keep piece (faults.BadCar car) few stop = absurd stop
  heads_keep piece faults.PeerFault few stop = absurd stop
  heads_keep piece faults.KeepFault few stop = absurd stop

  -- they aren't whole where the link ended
  pub heads_cut_keep : KeptCut client.query client.limits heard before written out keeping faults.BadReplyHead
  heads_cut_keep = record { refused = heads_cut client heads heard written out e h put; kept = keeps.none refl before_heads kept }

  -- the final head is refused
  kept_by_head : (fault : FetchFault) (piece : List ℕ) (head : ReplyHead) (taken : ℕ) → length heard + length piece ≤ client.limits.received → FinalHead (heard ++ take taken piece) head []
      → HeadStops client.query head fault → KeptRefused client.query client.limits heard piece before written out keeping fault
  kept_by_head fault piece head taken few final stops = record {
    refused = head_stops client heads heard piece written out taken head fault e h put final few stops;
    kept = keeps.none refl before_heads kept;
  }

  pub head_keeps : (piece : List ℕ) (head : ReplyHead) (taken : ℕ) (fault : FetchFault) → length heard + length piece ≤ client.limits.received → FinalHead (heard ++ take taken piece) head []
      → HeadStops client.query head fault → KeptRefused client.query client.limits heard piece before written out keeping fault
  head_keeps piece head taken fault few final stops = kept_by_head fault piece head taken few final stops

-- ---- what a step said, by its move

module _ (q : QueryParts) (limits : LimitNumbers) (heard : List ℕ) (before : List Section) (written : List ℕ) (out : Output) (keeping : Keeping) (told : Move)
    (s : ContentKeeps q limits heard before written out keeping told) where
  pub on_keeps : told ≡ moves.On → StandsKeeping q limits heard before keeping
  on_keeps e = subst (λ (t : Move). ContentKeeps q limits heard before written out keeping t) e s

  pub wait_keeps : told ≡ moves.Wait → StandsKeeping q limits heard before keeping
  wait_keeps e = subst (λ (t : Move). ContentKeeps q limits heard before written out keeping t) e s

  pub done_keeps : told ≡ moves.Done → AnsweredKeeping q limits heard false before written out keeping
  done_keeps e = subst (λ (t : Move). ContentKeeps q limits heard before written out keeping t) e s

-- where more is wanted all bytes were taken
pub all_waited : (client : Client) (heard bytes written : List ℕ) (out : Output) (taken : ℕ) (told : Move) → StepEnds client heard bytes written out (Ok (taken, told)) → told ≡ moves.Wait
    → take taken bytes ≡ bytes
all_waited client heard bytes written out taken told s e = all_taken taken bytes (subst (λ (t : Move). StepEnds client heard bytes written out (Ok (taken, t))) e s).0

-- ---- for the same query and limits

module _ (q p : QueryParts) (limits most : LimitNumbers) (same : p ≡ q) (same_limits : most ≡ limits) where
  pub keeps_at : (heard bytes : List ℕ) (before : List Section) (written : List ℕ) (out : Output) (keeping : Keeping) (result : Result (ℕ × Move) FetchFault) → StandIn q limits heard before
      → (StandIn p most heard before → StepKeeps p most heard bytes before written out keeping result) → StepKeeps q limits heard bytes before written out keeping result
  keeps_at heard bytes before written out keeping result stand step =
      subst (λ (n : LimitNumbers). StepKeeps q n heard bytes before written out keeping result) same_limits
      (subst (λ (a : QueryParts). StepKeeps a most heard bytes before written out keeping result) same
      (step (subst (λ (n : LimitNumbers). StandIn p n heard before) (sym same_limits) (subst (λ (a : QueryParts). StandIn a limits heard before) (sym same) stand))))

  pub refused_at : (heard piece : List ℕ) (before : List Section) (written : List ℕ) (out : Output) (keeping : Keeping) (fault : FetchFault)
      → KeptRefused q limits heard piece before written out keeping fault → KeptRefused p most heard piece before written out keeping fault
  refused_at heard piece before written out keeping fault r =
      subst (λ (n : LimitNumbers). KeptRefused p n heard piece before written out keeping fault) (sym same_limits)
      (subst (λ (a : QueryParts). KeptRefused a limits heard piece before written out keeping fault) (sym same) r)

  pub answered_at : (heard piece : List ℕ) (before : List Section) (written : List ℕ) (out : Output) (keeping : Keeping)
      → KeptAll q limits heard piece before written out keeping → KeptAll p most heard piece before written out keeping
  answered_at heard piece before written out keeping r =
      subst (λ (n : LimitNumbers). KeptAll p n heard piece before written out keeping) (sym same_limits)
      (subst (λ (a : QueryParts). KeptAll a limits heard piece before written out keeping) (sym same) r)

pub more_at : (client : Client) (q : QueryParts) (limits : LimitNumbers) (heard : List ℕ) (before : List Section) (written : List ℕ) (out : Output) (keeping : Keeping) → client.query ≡ q → client.limits ≡ limits
    → FedMore client heard written out → StandsKeeping q limits heard before keeping → KeptMore client heard before written out keeping
more_at client q limits heard before written out keeping same same_limits fed s = record {
  fed = fed;
  came = s.came;
  stand = subst (λ (n : LimitNumbers). StandIn client.query n heard (before ++ s.came)) (sym same_limits)
      (subst (λ (a : QueryParts). StandIn a limits heard (before ++ s.came)) (sym same) s.stand);
  kept = s.kept;
}

-- ---- bytes came before

module _ {S K : Type 0} (m : SinkMeaning S) (joins : SinkJoins S m) (a b c : S) (written text : List ℕ) (put : Put text (into m a b))
    (k : KeepMeaning K) (steps : KeepJoins K k) (laws : KeepingJoins) (u v w : K) (heads : HeadLaws) (q : QueryParts) (limits : LimitNumbers) (heard bytes front rest : List ℕ) (before : List Section)
    (whole : bytes ≡ front ++ rest) (s : StandsKeeping q limits (heard ++ front) before (kept_in k u v)) where
  behind : (more : List ℕ) (all : List Section) (Now : List Section → Keeping → Type 0) → ((next : List Section) → Now next (kept_in k v w) → Now (s.came ++ next) (kept_in k u w))
      → KeepsBehind q ((heard ++ front) ++ more) (before ++ s.came) all Now (kept_in k v w) → KeepsBehind q (heard ++ (front ++ more)) before all Now (kept_in k u w)
  behind more all Now on h =
      subst (λ (l : List ℕ). KeepsBehind q l before all Now (kept_in k u w)) (append_assoc heard front more)
      (behind_on k steps laws u v w s.came s.kept heads q limits (heard ++ front) before s.stand more all Now on h)

  pub refused_keeping : (fault : FetchFault) → KeptRefused q limits (heard ++ front) rest (before ++ s.came) (written ++ text) (into m b c) (kept_in k v w) fault
      → KeptRefused q limits heard bytes before written (into m a c) (kept_in k u w) fault
  refused_keeping fault r = record {
    refused = refused_behind q limits heard bytes front rest written (into m a c) fault whole (refused_after m joins a b c written text put q limits (heard ++ front) rest fault r.refused);
    kept = behind r.refused.front r.refused.sections (AreKeptBy fault) (kept_by_on k steps laws u v w s.came s.kept fault) r.kept;
  }

  pub answered_keeping : (taken : ℕ) → length (heard ++ front) + length rest ≤ limits.received
      → AnsweredKeeping q limits ((heard ++ front) ++ take taken rest) false (before ++ s.came) (written ++ text) (into m b c) (kept_in k v w)
      → KeptAll q limits heard bytes before written (into m a c) (kept_in k u w)
  answered_keeping taken few h = record {
    fed = answered_all q limits heard bytes front rest written (into m a c) taken whole few
        (answered_after m joins a b c written text put q limits ((heard ++ front) ++ take taken rest) h.answered);
    kept = behind (take taken rest) h.answered.sections AreKept (kept_on k steps laws u v w s.came s.kept) h.kept;
  }

  pub stands_further : (more : List ℕ) → StandsKeeping q limits ((heard ++ front) ++ more) (before ++ s.came) (kept_in k v w) → StandsKeeping q limits (heard ++ (front ++ more)) before (kept_in k u w)
  stands_further more next =
      subst (λ (l : List ℕ). StandsKeeping q limits l before (kept_in k u w)) (append_assoc heard front more)
      (stands_on k steps laws u v w s.came s.kept q limits ((heard ++ front) ++ more) before next)

-- ---- a piece of which a front was fed

pub refused_front_keeps : (q : QueryParts) (limits : LimitNumbers) (heard front tail piece : List ℕ) (before : List Section) (written : List ℕ) (out : Output) (keeping : Keeping) (fault : FetchFault)
    → piece ≡ front ++ tail → KeptRefused q limits heard front before written out keeping fault → KeptRefused q limits heard piece before written out keeping fault
refused_front_keeps q limits heard front tail piece before written out keeping fault e r = record {
  refused = refused_front q limits heard front tail piece written out fault e r.refused;
  kept = r.kept;
}

pub answered_front_keeps : (told : Progress) (client : Client) (heard front tail piece : List ℕ) (before : List Section) (written : List ℕ) (out : Output) (keeping : Keeping)
    → piece ≡ front ++ tail → told ≡ progresses.Done → FeedKeeps client heard front before written out keeping (Ok told) → KeptAll client.query client.limits heard piece before written out keeping
answered_front_keeps progresses.More client heard front tail piece before written out keeping e done f = absurd (let no : ⊥ = cc in no)
answered_front_keeps progresses.Done client heard front tail piece before written out keeping e done f = record {
  fed = answered_front client.query client.limits heard front tail piece written out e f.fed;
  kept = f.kept;
}

pub more_keeps : (told : Progress) (client : Client) (heard piece : List ℕ) (before : List Section) (written : List ℕ) (out : Output) (keeping : Keeping) → (told ≡ progresses.Done → ⊥)
    → FeedKeeps client heard piece before written out keeping (Ok told) → KeptMore client (heard ++ piece) before written out keeping
more_keeps progresses.More client heard piece before written out keeping none f = f
more_keeps progresses.Done client heard piece before written out keeping none f = absurd (none refl)

-- of what came by a value that stands
module _ (heads : HeadLaws) (pieces : BodyPieceLaws) (stands : BodyStands) (one : OneReceived) (q : QueryParts) (limits : LimitNumbers) where
  at_open_keeps : (stage : Stage) (heard written : List ℕ) (at : IsAt q limits stage heard written) (short : IsShortAt q limits stage heard) (before came : List Section) (keeping : Keeping)
      → StandIn q limits heard (before ++ came) → AreKept came keeping → KeepsBehind q heard before (at_open stands q limits stage heard written at short).sections AreKept keeping
  at_open_keeps (stages.Heads state) heard written (inside, unsaid) short before came keeping stand kept =
      let none = heads_none_stand heads q limits heard (before ++ came) (open_of state heard inside) stand in
      keeps.none refl (none_first before came none) (kept_none came keeping (none_second before came none) kept)
  at_open_keeps (stages.Content content) heard written t short before came keeping stand kept =
      behind_of heads pieces q limits heard t.head t.rest t.final content.sections t.given written before
      (taking_is_open stands q limits t.head content.sections t.given written t.taking).sections AreKept keeping t.taking
      (open_keeps stands one q limits t.head content.sections t.given written t.taking before came keeping
      (taken_here heads pieces q limits content heard written t (before ++ came) stand) kept)
  at_open_keeps stages.Done heard written at short before came keeping stand kept = absurd at

pub passed_keeps : HeadLaws → BodyPieceLaws → BodyStands → OneReceived → (client : Client) (heard front tail piece : List ℕ) (before : List Section) (written : List ℕ) (out : Output) (keeping : Keeping)
    → piece ≡ front ++ tail → length (heard ++ front) ≡ client.limits.received → 0 < length tail → KeptMore client (heard ++ front) before written out keeping
    → IsShortAt client.query client.limits client.stage (heard ++ front)
    → KeptRefused client.query client.limits heard piece before written out keeping (faults.Refused (refusals.Limit kinds.Received client.limits.received))
passed_keeps heads pieces stands one client heard front tail piece before written out keeping e full some f short = record {
  refused = passed stands client heard front tail piece written out e full some f.fed short;
  kept = at_open_keeps heads pieces stands one client.query client.limits client.stage (heard ++ front) (written ++ f.fed.text) f.fed.is_open.at short before f.came keeping f.stand f.kept;
}

-- the link ended, and the reply is the answer
pub whole_at_end : (q : QueryParts) (limits : LimitNumbers) (heard : List ℕ) (before : List Section) (written : List ℕ) (out : Output) (keeping : Keeping) → length heard ≤ limits.received
    → AnsweredKeeping q limits heard true before written out keeping → KeptEnded q limits heard before written out keeping
whole_at_end q limits heard before written out keeping within a = record {
  ended = record {
    text = a.answered.text;
    put = a.answered.put;
    sections = a.answered.sections;
    answered = record { carries = a.answered.carries; through = a.answered.through; within = within };
    sound = a.answered.sound;
  };
  kept = a.kept;
}

-- where nothing is behind a front it is all
pub none_past : (tail : List ℕ) → true ≡ nat_eq (length tail) 0 → tail ≡ []
none_past [] e = refl
none_past (n ∷ tail) e = let none : length (n ∷ tail) ≡ 0 = eqb-true (length (n ∷ tail)) 0 (sym e) in absurd (omega (arith, none))

pub more_front : (client : Client) (heard front tail piece : List ℕ) (before : List Section) (written : List ℕ) (out : Output) (keeping : Keeping) → piece ≡ front ++ tail → tail ≡ []
    → KeptMore client (heard ++ front) before written out keeping → KeptMore client (heard ++ piece) before written out keeping
more_front client heard front tail piece before written out keeping e none k =
    subst (λ (l : List ℕ). KeptMore client (heard ++ l) before written out keeping) (sym (e ∙ (ap (λ (l : List ℕ). front ++ l) none ∙ append-nil front))) k

-- what was fed, where what is refused is kept
pub fed_so : (result : Result Progress FetchFault) (client : Client) (refused : Option FetchFault) (heard piece : List ℕ) (before : List Section) (written : List ℕ) (out : Output) (keeping : Keeping)
    → FeedKeeps client heard piece before written out keeping result → FeedKeeps (record client { refused = refused }) heard piece before written out keeping result
fed_so (Ok progresses.More) client refused heard piece before written out keeping f = record {
  fed = record {
    text = f.fed.text;
    put = f.fed.put;
    is_open = record { count = f.fed.is_open.count; within = f.fed.is_open.within; at = f.fed.is_open.at };
  };
  came = f.came;
  stand = f.stand;
  kept = f.kept;
}
fed_so (Ok progresses.Done) client refused heard piece before written out keeping f = f
fed_so (Err fault) client refused heard piece before written out keeping f = f
