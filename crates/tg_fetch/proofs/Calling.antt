-- A client that is fed what is heard over a link.
use Rattle.std.proofs.Common.{◌≡◌, ℕ, Bool, Err, Ok, List, [], ◌++◌, ◌∷◌, Result, false, true, refl, sym, subst, ◌∙◌, ap, append_assoc, append-nil}
use Rattle.std.specs.Prelude.{⊤, None, ◌≢◌}
use Rattle.tg_client.specs.Body.{BodyStands}
use Rattle.tg_faults.specs.Faults.{Rose}
use Rattle.tg_fetch.proofs.HearingOn.{StandsOpen, refused_not, stands_open}
use Rattle.tg_fetch.specs.Calls.{HeardBy, HeardRefused, LinkHeard, RoseAtPeerFault}
use Rattle.tg_fetch.specs.Clients.{EndEnds, FedAll, FedMore, FeedEnds, StandsFor}
use Rattle.tg_fetch.specs.Replies.{IsRefused}
use Rattle.tg_fetch.specs.declared.client.Client.{Client}
use Rattle.tg_fetch.specs.declared.fault.FetchFault.{FetchFault}
use Rattle.tg_fetch.specs.declared.fault.FetchFault.TheVariants as faults
use Rattle.tg_links.specs.Joining.{spoke_hears, spoke_nothing}
use Rattle.tg_links.specs.Links.{EndsAreOver, LinkMeaning, TakesAreHeard}
use Rattle.tg_links.specs.Steps.{LinkQuiet, LinkStep, Spoke, link_step}
use Rattle.tg_model.specs.LimitNumbers.{LimitNumbers}
use Rattle.tg_model.specs.Queries.{QueryParts}
use Rattle.tg_streams.specs.Joining.{SinkJoins, put_nothing, put_put}
use Rattle.tg_streams.specs.Streams.{Ended, InputQuiet, InputRose, Output, OutputQuiet, Put, SinkMeaning, SourceMeaning, Untaken, into, through}
use Rattle.tg_verify.specs.declared.verifier.Progress.{Progress}
use Rattle.tg_verify.specs.declared.verifier.Progress.TheVariants as progresses

-- ---- a refusal isn't of the peer

by_refusal : (q : QueryParts) (limits : LimitNumbers) (heard : List ℕ) (over : Bool) (out : Output) (fault : FetchFault) → fault ≢ faults.PeerFault
    → HeardRefused q limits heard over out fault → HeardBy q limits heard over out (Err fault)
by_refusal q limits heard over out (faults.Refused refusal) other h = h
by_refusal q limits heard over out (faults.Status status) other h = h
by_refusal q limits heard over out faults.BadType other h = h
by_refusal q limits heard over out faults.BadReplyHead other h = h
by_refusal q limits heard over out faults.BadFraming other h = h
by_refusal q limits heard over out (faults.BadCar car) other h = h
by_refusal q limits heard over out faults.PeerFault other h = absurd (other refl)
by_refusal q limits heard over out faults.KeepFault other h = h
by_refusal q limits heard over out faults.OutOfMemory other h = h

quiet_refusal : (link : LinkStep) (fault : FetchFault) → fault ≢ faults.PeerFault → LinkQuiet link → RoseAtPeerFault link (Err fault)
quiet_refusal link (faults.Refused refusal) other h = h
quiet_refusal link (faults.Status status) other h = h
quiet_refusal link faults.BadType other h = h
quiet_refusal link faults.BadReplyHead other h = h
quiet_refusal link faults.BadFraming other h = h
quiet_refusal link (faults.BadCar car) other h = h
quiet_refusal link faults.PeerFault other h = absurd (other refl)
quiet_refusal link faults.KeepFault other h = h
quiet_refusal link faults.OutOfMemory other h = h

-- nothing was refused yet, behind this that was heard, with this text put for it
pub record HasHeard (q : QueryParts) (limits : LimitNumbers) (client : Client) (link : LinkStep) (out : Output) : Type 0 where
  pub heard : List ℕ
  pub written : List ℕ
  pub query : client.query ≡ q
  pub limits_are : client.limits ≡ limits
  pub stands : StandsFor client heard written
  pub spoke : Spoke link heard []
  pub quiet : LinkQuiet link
  pub put : Put written out
  pub put_quiet : OutputQuiet out

-- what is left of a text is none, where all is
pub none_behind : (front more : List ℕ) → [] ≡ front ++ more → more ≡ []
none_behind [] more e = sym e
none_behind (n ∷ front) more e = absurd (let no : ⊥ = cc in no)

-- a piece in two parts, behind others
pub whole_behind : (heard piece front more : List ℕ) → piece ≡ front ++ more → heard ++ piece ≡ (heard ++ front) ++ more
whole_behind heard piece front more e = ap (λ (l : List ℕ). heard ++ l) e ∙ sym (append_assoc heard front more)

module _ {L S : Type 0} (m : LinkMeaning L) (source : SourceMeaning L) (hears : TakesAreHeard L m source) (sink : SinkMeaning S) (joins : SinkJoins S sink) where
  -- nothing was heard
  abbrev pub heard_nothing : (client : Client) (l : L) (s : S) → sink.wrote s s [] → StandsFor client [] []
      → HasHeard client.query client.limits client (link_step m source l l) (into sink s s)
  heard_nothing client l s rests stands = record {
    heard = [];
    written = [];
    query = refl;
    limits_are = refl;
    stands = stands;
    spoke = spoke_nothing m source l;
    quiet = refl;
    put = put_nothing S sink s rests;
    put_quiet = refl;
  }

  -- bytes are taken
  pub spoke_took : (l₀ l₁ l₂ : L) (heard piece : List ℕ) → Spoke (link_step m source l₀ l₁) heard [] → source.took l₁ l₂ piece
      → Spoke (link_step m source l₀ l₂) (heard ++ piece) []
  spoke_took l₀ l₁ l₂ heard piece spoke took = spoke_hears m source l₀ l₁ l₂ heard [] spoke piece (hears l₁ l₂ piece took)

  module _ (q : QueryParts) (limits : LimitNumbers) (l₀ l₁ l₂ : L) (s₀ s₁ : S) (old : Client)
      (h : HasHeard q limits old (link_step m source l₀ l₁) (into sink s₀ s₁)) where
    -- the link failed
    pub heard_fault : BodyStands → Untaken (through source l₁ l₂) → InputRose (through source l₁ l₂)
        → LinkHeard q limits (link_step m source l₀ l₂) (into sink s₀ s₁) (Err faults.PeerFault)
    heard_fault stand untaken rose =
        let o = stands_open stand old h.heard h.written h.stands in
        let by = subst (λ (n : LimitNumbers). StandsOpen q n h.heard h.written) h.limits_are
        (subst (λ (p : QueryParts). StandsOpen p old.limits h.heard h.written) h.query o) in
        record {
          heard = h.heard;
          spoke = subst (λ (l : List ℕ). Spoke (link_step m source l₀ l₂) l []) (append-nil h.heard)
              (spoke_took l₀ l₁ l₂ h.heard [] h.spoke untaken.moved);
          ends = record { sections = by.sections; text = h.written; put = h.put; is_open = by.is_open; sound = by.sound };
          rose = subst (λ (n : ℕ). Rose n (source.faults l₂)) h.quiet rose;
        }

    module _ (s₂ : S) (piece : List ℕ) (took : source.took l₁ l₂ piece) (quiet : InputQuiet (through source l₁ l₂)) where
      abbrev all : Output
      all = into sink s₀ s₂

      abbrev link : LinkStep
      link = link_step m source l₀ l₂

      -- the reply is refused in the piece, or where none came
      refusal : (ended : Bool) → (ended ≡ true → (m.over l₂ ≡ true) × (piece ≡ [])) → (fault : FetchFault)
          → IsRefused q limits h.heard piece ended h.written (into sink s₁ s₂) fault → LinkHeard q limits link all (Err fault)
      refusal ended is_over fault r =
          let not = λ (e : fault ≡ faults.PeerFault). refused_not q limits fault e (h.heard ++ r.front) r.more ended r.sections (h.written ++ r.text) r.refused in
          record {
            heard = h.heard ++ piece;
            spoke = spoke_took l₀ l₁ l₂ h.heard piece h.spoke took;
            ends = by_refusal q limits (h.heard ++ piece) (m.over l₂) all fault not (record {
              front = h.heard ++ r.front;
              more = r.more;
              whole = whole_behind h.heard piece r.front r.more r.whole;
              ended = ended;
              is_over = λ e. ((is_over e).0, none_behind r.front r.more (sym (is_over e).1 ∙ r.whole));
              sections = r.sections;
              text = h.written ++ r.text;
              put = put_put S sink s₀ s₁ s₂ h.written r.text joins h.put r.put;
              within = r.within;
              refused = r.refused;
              sound = r.sound;
            });
            rose = quiet_refusal link fault not (quiet ∙ h.quiet);
          }

      -- the peer says no more
      pub heard_end : EndsAreOver L m source → piece ≡ [] → Ended (through source l₁ l₂) → (result : Result ⊤ FetchFault)
          → EndEnds q limits h.heard h.written (into sink s₁ s₂) result → LinkHeard q limits link all result
      heard_end over none ended (Ok done) e = record {
        heard = h.heard ++ piece;
        spoke = spoke_took l₀ l₁ l₂ h.heard piece h.spoke took;
        ends = record {
          front = h.heard;
          more = piece;
          whole = refl;
          ended = true;
          is_over = λ _. (over l₂ ended.ended, none);
          sections = e.sections;
          text = h.written ++ e.text;
          put = put_put S sink s₀ s₁ s₂ h.written e.text joins h.put e.put;
          answered = e.answered;
          sound = e.sound;
        };
        rose = quiet ∙ h.quiet;
      }
      heard_end over none ended (Err fault) e =
          refusal true (λ _. (over l₂ ended.ended, none)) fault
          (subst (λ (l : List ℕ). IsRefused q limits h.heard l true h.written (into sink s₁ s₂) fault) (sym none) e)

      -- the piece is refused
      pub heard_refused : (new : Client) → new.query ≡ old.query → new.limits ≡ old.limits → (fault : FetchFault)
          → FeedEnds new h.heard piece h.written (into sink s₁ s₂) (Err fault) → LinkHeard q limits link all (Err fault)
      heard_refused new same_query same_limits fault e =
          refusal false (λ is. absurd (let no : ⊥ = cc in no)) fault
          (subst (λ (n : LimitNumbers). IsRefused q n h.heard piece false h.written (into sink s₁ s₂) fault) (same_limits ∙ h.limits_are)
          (subst (λ (p : QueryParts). IsRefused p new.limits h.heard piece false h.written (into sink s₁ s₂) fault) (same_query ∙ h.query) e))

      -- with the piece the reply is whole
      answered : FedAll q limits h.heard piece h.written (into sink s₁ s₂) → LinkHeard q limits link all (Ok tt)
      answered e = record {
        heard = h.heard ++ piece;
        spoke = spoke_took l₀ l₁ l₂ h.heard piece h.spoke took;
        ends = record {
          front = h.heard ++ e.front;
          more = e.more;
          whole = whole_behind h.heard piece e.front e.more e.whole;
          ended = false;
          is_over = λ is. absurd (let no : ⊥ = cc in no);
          sections = e.sections;
          text = h.written ++ e.text;
          put = put_put S sink s₀ s₁ s₂ h.written e.text joins h.put e.put;
          answered = e.answered;
          sound = e.sound;
        };
        rose = quiet ∙ h.quiet;
      }

      pub heard_answer : (new : Client) → new.query ≡ old.query → new.limits ≡ old.limits → (told : Progress)
          → FeedEnds new h.heard piece h.written (into sink s₁ s₂) (Ok told) → told ≡ progresses.Done → LinkHeard q limits link all (Ok tt)
      heard_answer new same_query same_limits progresses.More e done = absurd (let no : ⊥ = cc in no)
      heard_answer new same_query same_limits progresses.Done e done =
          answered
          (subst (λ (n : LimitNumbers). FedAll q n h.heard piece h.written (into sink s₁ s₂)) (same_limits ∙ h.limits_are)
          (subst (λ (p : QueryParts). FedAll p new.limits h.heard piece h.written (into sink s₁ s₂)) (same_query ∙ h.query) e.0))

      -- it goes on
      abbrev goes : (new : Client) → new.query ≡ old.query → new.limits ≡ old.limits → new.refused ≡ None → OutputQuiet (into sink s₁ s₂)
          → FedMore new (h.heard ++ piece) h.written (into sink s₁ s₂) → HasHeard q limits new link all
      goes new same_query same_limits unrefused put_quiet e = record {
        heard = h.heard ++ piece;
        written = h.written ++ e.text;
        query = same_query ∙ h.query;
        limits_are = same_limits ∙ h.limits_are;
        stands = record { unrefused = unrefused; is_open = e.is_open };
        spoke = spoke_took l₀ l₁ l₂ h.heard piece h.spoke took;
        quiet = quiet ∙ h.quiet;
        put = put_put S sink s₀ s₁ s₂ h.written e.text joins h.put e.put;
        put_quiet = put_quiet ∙ h.put_quiet;
      }

      pub heard_more : (new : Client) → new.query ≡ old.query → new.limits ≡ old.limits → new.refused ≡ None → OutputQuiet (into sink s₁ s₂)
          → (told : Progress) → FeedEnds new h.heard piece h.written (into sink s₁ s₂) (Ok told) → told ≢ progresses.Done
          → (more : HasHeard q limits new link all) × (more.heard ≡ h.heard ++ piece)
      heard_more new same_query same_limits unrefused put_quiet progresses.More e more =
          (goes new same_query same_limits unrefused put_quiet e, refl)
      heard_more new same_query same_limits unrefused put_quiet progresses.Done e more = absurd (more refl)
