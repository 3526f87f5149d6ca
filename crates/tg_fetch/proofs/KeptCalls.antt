-- Which sections of what is heard over a link are kept.
use Rattle.std.proofs.Common.{◌≡◌, ℕ, Bool, true, false, List, [], ◌++◌, ◌∙◌, Err, Ok, Option, Result, ap, append-nil, inl, inr, refl, subst, sym}
use Rattle.std.specs.Prelude.{⊤, ◌≢◌}
use Rattle.tg_bytes.specs.Told.{IsNothing, grown}
use Rattle.tg_client.specs.Body.{BodyStands}
use Rattle.tg_client.specs.Keeping.{AreKept}
use Rattle.tg_dials.specs.Dials.{Dialling, IsHungUp}
use Rattle.tg_fetch.proofs.Calling.{none_behind, whole_behind}
use Rattle.tg_fetch.proofs.HearingOn.{body_open, open_at, refused_not, stands_open}
use Rattle.tg_fetch.proofs.KeptReplies.{heads_none_stand, open_of, taken_here}
use Rattle.tg_fetch.proofs.KeptSections.{KeepJoins, all_still, behind_on, behind_still, kept_by_on, kept_none, kept_on, none_kept, stands_on}
use Rattle.tg_fetch.proofs.Receiving.{told_in}
use Rattle.tg_fetch.proofs.TakenSections.{OneReceived, behind_of, raw_is_no_car, same}
use Rattle.tg_fetch.specs.Bodies.{IsTaking}
use Rattle.tg_fetch.specs.Clients.{IsAt, StandsFor}
use Rattle.tg_fetch.specs.Keeping.{AreKeptBy, AreKeptOf, EndKeeps, FetchKeeps, HeardKeeping, KeepsBehind, KeptAll, KeptMore, KeptNone, KeptOpen, KeptRefused, KeptUntil, StandIn, unkept}
use Rattle.tg_fetch.specs.Keeping as keeps
use Rattle.tg_fetch.specs.KeepingSteps.{HeardKeeps, KeptOf, LinkKeeps, StandsKeeping, TakenIn}
use Rattle.tg_fetch.specs.Replies.{IsAnswered, IsRefused}
use Rattle.tg_fetch.specs.declared.client.Client.{Client}
use Rattle.tg_fetch.specs.declared.client.Stage.{Stage}
use Rattle.tg_fetch.specs.declared.client.Stage.TheVariants as stages
use Rattle.tg_fetch.specs.declared.fault.FetchFault.{FetchFault}
use Rattle.tg_fetch.specs.declared.fault.FetchFault.TheVariants as faults
use Rattle.tg_fetch.specs.declared.sections.Sections.{Sections}
use Rattle.tg_fetch.specs.declared.sections.Sections.TheVariants as takings
use Rattle.tg_heard.specs.FinalHeads.{FinalHead}
use Rattle.tg_heard.specs.FrontLaws.{BodyPieceLaws, HeadLaws}
use Rattle.tg_http.specs.declared.reply.ReplyHead.{ReplyHead}
use Rattle.tg_links.specs.Links.{LinkMeaning, PutsAreSaid}
use Rattle.tg_links.specs.Steps.{link_step}
use Rattle.tg_links.specs.Views.{LinkView, between}
use Rattle.tg_model.specs.Dag.{Section}
use Rattle.tg_model.specs.LimitNumbers.{LimitNumbers}
use Rattle.tg_model.specs.Queries.{QueryParts}
use Rattle.tg_model.specs.Stores.{KeepMeaning, Keeping, kept_in}
use Rattle.tg_model.specs.declared.queries.Form.{Form}
use Rattle.tg_model.specs.declared.queries.Form.TheVariants as forms
use Rattle.tg_model_laws.specs.Stores.{KeepingJoins}
use Rattle.tg_streams.specs.Joining.{SinkJoins, put_nothing, put_put}
use Rattle.tg_streams.specs.Streams.{Output, Put, SinkMeaning, SourceMeaning, into}
use Rattle.tg_verify.specs.declared.verifier.Progress.{Progress}
use Rattle.tg_verify.specs.declared.verifier.Progress.TheVariants as progresses

-- ---- the link failed

body_keeps : (stands : BodyStands) → OneReceived → (q : QueryParts) (limits : LimitNumbers) (head : ReplyHead) (s : Sections) (given written : List ℕ) (t : IsTaking q limits head s given written)
    (came : List Section) (keeping : Keeping) → TakenIn s limits given came → AreKept came keeping
    → KeptOf s [] (body_open stands q limits head s given written t).sections AreKept keeping
body_keeps stands one q limits head (takings.Answer body) given written t came keeping taken kept = record {
  came = came;
  all_is = same stands one q limits head body given written t came taken;
  kept = kept;
}
body_keeps stands one q limits head (takings.Absence body) given written (t, none) came keeping taken kept = kept_none came keeping taken kept
body_keeps stands one q limits head (takings.Block raw) given written (t, none) came keeping taken kept = kept_none came keeping taken kept

open_at_keeps : (heads : HeadLaws) (pieces : BodyPieceLaws) (stands : BodyStands) (one : OneReceived) (q : QueryParts) (limits : LimitNumbers) (stage : Stage) (heard written : List ℕ)
    (at : IsAt q limits stage heard written) (came : List Section) (keeping : Keeping) → StandIn q limits heard came → AreKept came keeping
    → KeepsBehind q heard [] (open_at stands q limits stage heard written at).sections AreKept keeping
open_at_keeps heads pieces stands one q limits (stages.Heads state) heard written (inside, unsaid) came keeping stand kept =
    keeps.none refl refl (kept_none came keeping (heads_none_stand heads q limits heard came (open_of state heard inside) stand) kept)
open_at_keeps heads pieces stands one q limits (stages.Content content) heard written t came keeping stand kept =
    behind_of heads pieces q limits heard t.head t.rest t.final content.sections t.given written [] (body_open stands q limits t.head content.sections t.given written t.taking).sections
    AreKept keeping t.taking
    (body_keeps stands one q limits t.head content.sections t.given written t.taking came keeping (taken_here heads pieces q limits content heard written t came stand) kept)
open_at_keeps heads pieces stands one q limits stages.Done heard written at came keeping stand kept = absurd at

open_keeping : (heads : HeadLaws) (pieces : BodyPieceLaws) (stands : BodyStands) (one : OneReceived) (client : Client) (heard written : List ℕ) → StandsFor client heard written
    → (came : List Section) (out : Output) (keeping : Keeping) → Put written out → StandIn client.query client.limits heard came → AreKept came keeping
    → KeptOpen client.query client.limits heard out keeping
open_keeping heads pieces stands one client heard written h came out keeping put stand kept =
    let o = stands_open stands client heard written h in
    record {
      is_open = record { sections = o.sections; text = written; put = put; is_open = o.is_open; sound = o.sound };
      kept = open_at_keeps heads pieces stands one client.query client.limits client.stage heard written h.is_open.at came keeping stand kept;
    }

-- for the same query and limits
module _ (q p : QueryParts) (limits most : LimitNumbers) (same : p ≡ q) (same_limits : most ≡ limits) where
  pub stand_back : (heard : List ℕ) (before : List Section) → StandIn q limits heard before → StandIn p most heard before
  stand_back heard before stand = subst (λ (n : LimitNumbers). StandIn p n heard before) (sym same_limits) (subst (λ (a : QueryParts). StandIn a limits heard before) (sym same) stand)

  pub refused_back : (heard piece : List ℕ) (before : List Section) (written : List ℕ) (out : Output) (keeping : Keeping) (fault : FetchFault)
      → KeptRefused p most heard piece before written out keeping fault → KeptRefused q limits heard piece before written out keeping fault
  refused_back heard piece before written out keeping fault r =
      subst (λ (n : LimitNumbers). KeptRefused q n heard piece before written out keeping fault) same_limits
      (subst (λ (a : QueryParts). KeptRefused a most heard piece before written out keeping fault) same r)

  pub all_back : (heard piece : List ℕ) (before : List Section) (written : List ℕ) (out : Output) (keeping : Keeping)
      → KeptAll p most heard piece before written out keeping → KeptAll q limits heard piece before written out keeping
  all_back heard piece before written out keeping r =
      subst (λ (n : LimitNumbers). KeptAll q n heard piece before written out keeping) same_limits
      (subst (λ (a : QueryParts). KeptAll a most heard piece before written out keeping) same r)

  pub end_back : (heard : List ℕ) (before : List Section) (written : List ℕ) (out : Output) (keeping : Keeping) (result : Result ⊤ FetchFault)
      → EndKeeps p most heard before written out keeping result → EndKeeps q limits heard before written out keeping result
  end_back heard before written out keeping result r =
      subst (λ (n : LimitNumbers). EndKeeps q n heard before written out keeping result) same_limits
      (subst (λ (a : QueryParts). EndKeeps a most heard before written out keeping result) same r)

  open_back : (heard : List ℕ) (out : Output) (keeping : Keeping) → KeptOpen p most heard out keeping → KeptOpen q limits heard out keeping
  open_back heard out keeping r =
      subst (λ (n : LimitNumbers). KeptOpen q n heard out keeping) same_limits (subst (λ (a : QueryParts). KeptOpen a most heard out keeping) same r)

  more_back : (heard : List ℕ) (before : List Section) (keeping : Keeping) → StandsKeeping p most heard before keeping → StandsKeeping q limits heard before keeping
  more_back heard before keeping r =
      subst (λ (n : LimitNumbers). StandsKeeping q n heard before keeping) same_limits (subst (λ (a : QueryParts). StandsKeeping a most heard before keeping) same r)

pub fault_keeps : (heads : HeadLaws) (pieces : BodyPieceLaws) (stands : BodyStands) (one : OneReceived) (q : QueryParts) (limits : LimitNumbers) (client : Client) → client.query ≡ q → client.limits ≡ limits
    → (heard written : List ℕ) → StandsFor client heard written → (out : Output) (keeping : Keeping) → Put written out → StandsKeeping q limits heard [] keeping
    → KeptOpen q limits heard out keeping
fault_keeps heads pieces stands one q limits client same_query same_limits heard written h out keeping put s =
    open_back q client.query limits client.limits same_query same_limits heard out keeping
    (open_keeping heads pieces stands one client heard written h s.came out keeping put
    (stand_back q client.query limits client.limits same_query same_limits heard s.came s.stand) s.kept)

-- ---- the reply is the answer

module _ (heads : HeadLaws) (q : QueryParts) (limits : LimitNumbers) (front : List ℕ) (ended : Bool) (sections : List Section) (text : List ℕ) (a : IsAnswered q limits front ended sections text)
    (keeping : Keeping) where
  of_form : (form : Form) → q.form ≡ form → KeepsBehind q front [] sections AreKept keeping → AreKeptOf form sections keeping
  of_form forms.Raw e (keeps.none none before kept) = kept
  of_form forms.Raw e (keeps.outside not kept) = kept
  of_form forms.Raw e (keeps.inside car came all_is kept) = absurd (raw_is_no_car q e car.form)
  of_form forms.Car e (keeps.none none before kept) = subst (λ (s : List Section). AreKept s keeping) (sym none) kept
  of_form forms.Car e (keeps.outside not kept) =
      let c = a.carries in
      absurd (not (record {
        form = e;
        head = c.head;
        rest = c.rest ++ c.more;
        final = subst (λ (l : List ℕ). FinalHead l c.head (c.rest ++ c.more)) (sym c.heard_is) (heads.final_stays c.front c.more c.rest c.head c.final);
        is_head = c.is_head;
      }))
  of_form forms.Car e (keeps.inside car came all_is kept) = subst (λ (s : List Section). AreKept s keeping) (sym all_is) kept

  kept_of : KeepsBehind q front [] sections AreKept keeping → AreKeptOf q.form sections keeping
  kept_of k = of_form q.form refl k

-- ---- how what was heard ends

by_keeping : (q : QueryParts) (limits : LimitNumbers) (heard : List ℕ) (over : Bool) (out : Output) (keeping : Keeping) (fault : FetchFault) → fault ≢ faults.PeerFault
    → KeptUntil q limits heard over out keeping fault → HeardKeeping q limits heard over out keeping (Err fault)
by_keeping q limits heard over out keeping (faults.Refused refusal) other h = h
by_keeping q limits heard over out keeping (faults.Status status) other h = h
by_keeping q limits heard over out keeping faults.BadType other h = h
by_keeping q limits heard over out keeping faults.BadReplyHead other h = h
by_keeping q limits heard over out keeping faults.BadFraming other h = h
by_keeping q limits heard over out keeping (faults.BadCar car) other h = h
by_keeping q limits heard over out keeping faults.PeerFault other h = absurd (other refl)
by_keeping q limits heard over out keeping faults.KeepFault other h = h
by_keeping q limits heard over out keeping faults.OutOfMemory other h = h

module _ {S K : Type 0} (sink : SinkMeaning S) (joins : SinkJoins S sink) (s₀ s₁ s₂ : S) (k : KeepMeaning K) (steps : KeepJoins K k) (laws : KeepingJoins) (k₀ k₁ k₂ : K) (heads : HeadLaws)
    (q : QueryParts) (limits : LimitNumbers) (heard written : List ℕ) (put : Put written (into sink s₀ s₁)) (s : StandsKeeping q limits heard [] (kept_in k k₀ k₁)) (piece : List ℕ) (over : Bool) where
  refused_so : (ended : Bool) → (ended ≡ true → (over ≡ true) × (piece ≡ [])) → (fault : FetchFault) (r : IsRefused q limits heard piece ended written (into sink s₁ s₂) fault)
      → KeepsBehind q (heard ++ r.front) s.came r.sections (AreKeptBy fault) (kept_in k k₁ k₂)
      → HeardKeeping q limits (heard ++ piece) over (into sink s₀ s₂) (kept_in k k₀ k₂) (Err fault)
  refused_so ended is_over fault r kept =
      let not = λ (e : fault ≡ faults.PeerFault). refused_not q limits fault e (heard ++ r.front) r.more ended r.sections (written ++ r.text) r.refused in
      by_keeping q limits (heard ++ piece) over (into sink s₀ s₂) (kept_in k k₀ k₂) fault not (record {
        refused = record {
          front = heard ++ r.front;
          more = r.more;
          whole = whole_behind heard piece r.front r.more r.whole;
          ended = ended;
          is_over = λ e. ((is_over e).0, none_behind r.front r.more (sym (is_over e).1 ∙ r.whole));
          sections = r.sections;
          text = written ++ r.text;
          put = put_put S sink s₀ s₁ s₂ written r.text joins put r.put;
          within = r.within;
          refused = r.refused;
          sound = r.sound;
        };
        kept = behind_on k steps laws k₀ k₁ k₂ s.came s.kept heads q limits heard [] s.stand r.front r.sections (AreKeptBy fault) (kept_by_on k steps laws k₀ k₁ k₂ s.came s.kept fault) kept;
      })

  -- the piece is refused
  pub piece_refused : (fault : FetchFault) → KeptRefused q limits heard piece s.came written (into sink s₁ s₂) (kept_in k k₁ k₂) fault
      → HeardKeeping q limits (heard ++ piece) over (into sink s₀ s₂) (kept_in k k₀ k₂) (Err fault)
  piece_refused fault r = refused_so false (λ is. absurd (let no : ⊥ = cc in no)) fault r.refused r.kept

  -- with it the reply is whole
  pub piece_answers : KeptAll q limits heard piece s.came written (into sink s₁ s₂) (kept_in k k₁ k₂)
      → HeardKeeping q limits (heard ++ piece) over (into sink s₀ s₂) (kept_in k k₀ k₂) (Ok tt)
  piece_answers e = record {
    answer = record {
      front = heard ++ e.fed.front;
      more = e.fed.more;
      whole = whole_behind heard piece e.fed.front e.fed.more e.fed.whole;
      ended = false;
      is_over = λ is. absurd (let no : ⊥ = cc in no);
      sections = e.fed.sections;
      text = written ++ e.fed.text;
      put = put_put S sink s₀ s₁ s₂ written e.fed.text joins put e.fed.put;
      answered = e.fed.answered;
      sound = e.fed.sound;
    };
    kept = kept_of heads q limits (heard ++ e.fed.front) false e.fed.sections (written ++ e.fed.text) e.fed.answered (kept_in k k₀ k₂)
        (behind_on k steps laws k₀ k₁ k₂ s.came s.kept heads q limits heard [] s.stand e.fed.front e.fed.sections AreKept (kept_on k steps laws k₀ k₁ k₂ s.came s.kept) e.kept);
  }

  -- the peer says no more
  pub end_keeps : piece ≡ [] → over ≡ true → (result : Result ⊤ FetchFault) → AreKept [] (kept_in k k₁ k₂) → EndKeeps q limits heard s.came written (into sink s₁ s₂) unkept result
      → HeardKeeping q limits (heard ++ piece) over (into sink s₀ s₂) (kept_in k k₀ k₂) result
  end_keeps none is_over (Ok done) kept e = record {
    answer = record {
      front = heard;
      more = piece;
      whole = refl;
      ended = true;
      is_over = λ _. (is_over, none);
      sections = e.ended.sections;
      text = written ++ e.ended.text;
      put = put_put S sink s₀ s₁ s₂ written e.ended.text joins put e.ended.put;
      answered = e.ended.answered;
      sound = e.ended.sound;
    };
    kept = kept_of heads q limits heard true e.ended.sections (written ++ e.ended.text) e.ended.answered (kept_in k k₀ k₂)
        (subst (λ (l : List ℕ). KeepsBehind q l [] e.ended.sections AreKept (kept_in k k₀ k₂)) (append-nil heard)
        (behind_on k steps laws k₀ k₁ k₂ s.came s.kept heads q limits heard [] s.stand [] e.ended.sections AreKept (kept_on k steps laws k₀ k₁ k₂ s.came s.kept)
        (subst (λ (l : List ℕ). KeepsBehind q l s.came e.ended.sections AreKept (kept_in k k₁ k₂)) (sym (append-nil heard))
        (all_still (kept_in k k₁ k₂) kept q heard s.came e.ended.sections e.kept))));
  }
  end_keeps none is_over (Err fault) kept e =
      let whole : [] ≡ e.refused.front ++ e.refused.more = e.refused.whole in
      refused_so true (λ _. (is_over, none)) fault
      (record {
        front = e.refused.front;
        more = e.refused.more;
        whole = none ∙ whole;
        text = e.refused.text;
        put = e.refused.put;
        sections = e.refused.sections;
        within = e.refused.within;
        refused = e.refused.refused;
        sound = e.refused.sound;
      }) (behind_still (kept_in k k₁ k₂) kept q (heard ++ e.refused.front) s.came e.refused.sections fault e.kept)

-- it goes on
pub piece_keeps : {K : Type 0} (k : KeepMeaning K) (steps : KeepJoins K k) (laws : KeepingJoins) (k₀ k₁ k₂ : K) (q : QueryParts) (limits : LimitNumbers) (heard : List ℕ)
    (s : StandsKeeping q limits heard [] (kept_in k k₀ k₁)) (client : Client) → client.query ≡ q → client.limits ≡ limits → (all written : List ℕ) (out : Output)
    → KeptMore client all s.came written out (kept_in k k₁ k₂) → StandsKeeping q limits all [] (kept_in k k₀ k₂)
piece_keeps k steps laws k₀ k₁ k₂ q limits heard s client same_query same_limits all written out e =
    stands_on k steps laws k₀ k₁ k₂ s.came s.kept q limits all []
    (more_back q client.query limits client.limits same_query same_limits all s.came (kept_in k k₁ k₂) (record { came = e.came; stand = e.stand; kept = e.kept }))

pub done_keeps_all : (told : Progress) (client : Client) (heard piece : List ℕ) (before : List Section) (written : List ℕ) (out : Output) (keeping : Keeping) → told ≡ progresses.Done
    → keeps.FeedKeeps client heard piece before written out keeping (Ok told) → KeptAll client.query client.limits heard piece before written out keeping
done_keeps_all told client heard piece before written out keeping e f = subst (λ (t : Progress). keeps.FeedKeeps client heard piece before written out keeping (Ok t)) e f

-- ---- over a link

pub keeps_none : {S K : Type 0} (sink : SinkMeaning S) (s : S) → sink.wrote s s [] → (k : KeepMeaning K) (u : K) → k.kept u u [] → (result : Result ⊤ FetchFault) → keeps.IsUnasked result
    → KeptNone (into sink s s) (kept_in k u u) result
keeps_none {S} {K} sink s rests k u stays result why = record { unput = put_nothing S sink s rests; kept = none_kept k u stays; why = why }

-- the request was put before
pub asked_keeps : {L : Type 0} (m : LinkMeaning L) (source : SourceMeaning L) (sink : SinkMeaning L) → PutsAreSaid L m sink → (q : QueryParts) (limits : LimitNumbers) (l₀ l₁ l₂ : L) (text : List ℕ)
    → sink.wrote l₀ l₁ text → (out : Output) (keeping : Keeping) (result : Result ⊤ FetchFault) → HeardKeeps q limits (link_step m source l₁ l₂) out keeping result
    → LinkKeeps q limits (link_step m source l₀ l₂) out keeping result
asked_keeps m source sink says q limits l₀ l₁ l₂ text wrote out keeping result h =
    inl (record {
      heard = h.heard;
      is_heard = h.is_heard ∙ ap (λ (told : Option (List ℕ)). grown told h.heard) (says l₀ l₁ text wrote).heard;
      keeps = h.keeps;
    })

-- by a dial
pub called_keeps : (q : QueryParts) (limits : LimitNumbers) (dial : Dialling) (made link : LinkView) → IsNothing made.heard → IsHungUp link dial → (out : Output) (keeping : Keeping)
    (result : Result ⊤ FetchFault) → LinkKeeps q limits (between made link) out keeping result → FetchKeeps q limits dial out keeping result
called_keeps q limits dial made link nothing up out keeping result (inl h) =
    inl (record { heard = h.heard; heard_in = told_in link dial made.heard h.heard nothing h.is_heard up; over = link.over; keeps = h.keeps })
called_keeps q limits dial made link nothing up out keeping result (inr n) = inr n
