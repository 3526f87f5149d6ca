-- A session that is fed a piece of what is heard over a link: it goes on, or its last reply closes, or it is broken off.
use Rattle.std.proofs.Common.{◌≡◌, ℕ, ◌≤◌, Bool, Err, Option, true, false, List, [], ◌++◌, refl, sym, subst, ◌∙◌, ap, arith}
use Rattle.tg_gateway.proofs.Looking.{LooksJoin, looks_both, looks_nothing}
use Rattle.tg_gateway.proofs.Serving.{HasHeard, served_closed, served_ended, served_front, served_untaken, served_up_to, quiet_put, rose_put, rose_take, spoke_put, spoke_same, spoke_took, spoke_untaken}
use Rattle.tg_gateway.proofs.Standing.{sent_both, stands_new}
use Rattle.tg_gateway.specs.Links.{LinkEnds, ServedAll, ServedFront, ServedUpTo, served_of}
use Rattle.tg_links.specs.Steps.{LinkQuiet, Spoke, link_step}
use Rattle.tg_gateway.specs.Sessions.{FedOn, FeedEnds, SessionView, new_session, next_of}
use Rattle.tg_gateway.specs.declared.fault.GatewayFault.{GatewayFault}
use Rattle.tg_gateway.specs.declared.fault.GatewayFault.TheVariants as faults
use Rattle.tg_gateway.specs.declared.session.Next.{Next}
use Rattle.tg_gateway.specs.declared.session.Next.TheVariants as nexts
use Rattle.tg_gateway.specs.declared.session.Served.{Served}
use Rattle.tg_links.specs.Joining.{spoke_nothing}
use Rattle.tg_links.specs.Links.{CountsAreOne, EndsAreOver, LinkMeaning, PutsAreSaid, TakesAreHeard}
use Rattle.tg_model.specs.Stores.{BlocksMeaning, Store, looked_in}
use Rattle.tg_reply.specs.SentLaws.{BrokenIsFront, SentJoins, SentStays, SessionsGoOn, StandsForSent}
use Rattle.tg_reply.specs.Sent.{sent_bytes}
use Rattle.tg_reply.specs.Sessions.{SessionState}
use Rattle.tg_reply.specs.Shapes.{SentOver}
use Rattle.tg_streams.specs.Streams.{Ended, InputQuiet, InputRose, SinkMeaning, SourceMeaning, Took, Untaken, into, through}
use Rattle.tg_walk.specs.Walks.{HaveLookedUp}

-- what the next step says of the session: it is closed, or open
closes_of : (closed : Bool) (next : Next) → next ≡ next_of closed → next ≡ nexts.Close → closed ≡ true
closes_of true next is closes = refl
closes_of false next is closes = absurd (let no : ⊥ = cc in no)

opens_of : (closed : Bool) (next : Next) → next ≡ next_of closed → (next ≡ nexts.Close → ⊥) → closed ≡ false
opens_of true next is goes_on = absurd (goes_on is)
opens_of false next is goes_on = refl

module _ {S L : Type 0} (b : BlocksMeaning S) (m : LinkMeaning L) (source : SourceMeaning L) (hears : TakesAreHeard L m source) where
  -- nothing was heard yet
  pub hears_first : (session : SessionView) (most : ℕ) (s : S) (l : L) → session ≡ new_session most → b.looked s s []
      → HasHeard (b.stored s) session.state.most session.state (link_step m source l l) (looked_in b s s)
  hears_first session most s l fresh rests = record {
    heard = [];
    sent = [];
    stands = stands_new (SentOver (b.stored s)) session.state most (b.faults s) (ap (λ v. v.state) fresh);
    open_is = record { unclosed = ap (λ v. v.state.closed) fresh; unrefused = ap (λ v. v.state.refused) fresh };
    most_is = refl;
    spoke = spoke_nothing m source l;
    quiet = refl;
    looked = looks_nothing S b s rests;
    counted = omega arith;
  }

  -- no memory was found for a session
  pub hears_nothing : (served : Served) (s : S) (l : L) → served ≡ served_of (new_session 0).state
      → ServedFront (b.stored s) served (link_step m source l l) (looked_in b s s)
  hears_nothing served s l none =
      let session = (new_session 0).state in
      subst (λ (n : Served). ServedFront (b.stored s) n (link_step m source l l) (looked_in b s s)) (sym none)
      (served_untaken (b.stored s) session (link_step m source l l) (looked_in b s s) [] [] (stands_new (SentOver (b.stored s)) session 0 (b.faults s) refl)
      (record { unclosed = refl; unrefused = refl }) (spoke_nothing m source l))

  -- the peer says no more
  pub hears_end : (told : Option Store) (most : ℕ) (session : SessionState) (s₀ s₁ : S) (l₀ l₁ l₂ : L) (piece : List ℕ) → EndsAreOver L m source
      → HasHeard told most session (link_step m source l₀ l₁) (looked_in b s₀ s₁) → Took piece (through source l₁ l₂) → piece ≡ []
      → InputQuiet (through source l₁ l₂) → Ended (through source l₁ l₂) → ServedAll told (served_of session) (link_step m source l₀ l₂) (looked_in b s₀ s₁)
  hears_end told most session s₀ s₁ l₀ l₁ l₂ piece over h took none quiet ended =
      served_ended told session (link_step m source l₀ l₂) (looked_in b s₀ s₁) h.heard h.sent h.stands h.open_is
      (spoke_untaken m source l₀ l₁ l₂ h.heard (sent_bytes h.sent) hears h.spoke (subst (λ (l : List ℕ). source.took l₁ l₂ l) none took.moved))
      (quiet ∙ h.quiet) (over l₂ ended.ended)

  -- the link failed where a piece was to be taken
  pub hears_fault : (told : Option Store) (most : ℕ) (session : SessionState) (s₀ s₁ : S) (l₀ l₁ l₂ : L)
      → HasHeard told most session (link_step m source l₀ l₁) (looked_in b s₀ s₁) → Untaken (through source l₁ l₂) → InputRose (through source l₁ l₂)
      → LinkEnds told most (link_step m source l₀ l₂) (looked_in b s₀ s₁) (served_of session) (Err faults.LinkFault)
  hears_fault told most session s₀ s₁ l₀ l₁ l₂ h untaken rose = (
    served_untaken told session (link_step m source l₀ l₂) (looked_in b s₀ s₁) h.heard h.sent h.stands h.open_is
        (spoke_untaken m source l₀ l₁ l₂ h.heard (sent_bytes h.sent) hears h.spoke untaken.moved),
    rose_take m source l₀ l₁ l₂ h.quiet rose,
  )

module _ {S L : Type 0} (b : BlocksMeaning S) (m : LinkMeaning L) (source : SourceMeaning L) (sink : SinkMeaning L) (hears : TakesAreHeard L m source)
    (says : PutsAreSaid L m sink) (one : CountsAreOne L source sink) (s₀ s₁ s₂ : S) (l₀ l₁ l₂ l₃ : L) (most : ℕ) (old new : SessionView) (piece : List ℕ)
    (h : HasHeard (b.stored s₀) most old.state (link_step m source l₀ l₁) (looked_in b s₀ s₁)) (took : Took piece (through source l₁ l₂))
    (quiet : InputQuiet (through source l₁ l₂)) where
  -- what was heard with the piece, and said before it
  spoke_before : Spoke (link_step m source l₀ l₂) (h.heard ++ piece) (sent_bytes h.sent)
  spoke_before = spoke_took m source l₀ l₁ l₂ h.heard (sent_bytes h.sent) piece hears h.spoke took.moved

  -- no fault was counted before it is fed
  quiet_before : LinkQuiet (link_step m source l₀ l₂)
  quiet_before = quiet ∙ h.quiet

  -- the session was broken off
  fed_fault : SentJoins → SentStays → SessionsGoOn → BrokenIsFront → (fault : GatewayFault)
      → FeedEnds (b.stored s₀) old new piece (looked_in b s₁ s₂) (into sink l₂ l₃) (Err fault)
      → LinkEnds (b.stored s₀) most (link_step m source l₀ l₃) (looked_in b s₀ s₂) (served_of new.state) (Err fault)
  fed_fault joins stays go_on is_front (faults.Limit number) p =
      let link = link_step m source l₀ l₃ in
      let lookups = looked_in b s₀ s₂ in (
        p.number_is ∙ h.most_is,
        subst (λ (n : ℕ). ServedUpTo (b.stored s₀) (served_of new.state) link lookups n) (sym p.number_is)
            (served_up_to go_on (b.stored s₀) old.state new.state link lookups h.heard piece h.sent p.more (b.faults s₁) h.stands p.passed
            (spoke_put m source sink l₀ l₂ l₃ (h.heard ++ piece) (sent_bytes h.sent) (sent_bytes p.more) says spoke_before p.put.put)
            (quiet_put m source sink l₀ l₂ l₃ one quiet_before p.put.quiet)),
      )
  fed_fault joins stays go_on is_front faults.LinkFault p = (
    served_front joins stays is_front (b.stored s₀) old.state new.state (link_step m source l₀ l₃) (looked_in b s₀ s₂) h.heard piece p.written h.sent p.more p.next
        (b.faults s₁) h.stands p.broke
        (spoke_put m source sink l₀ l₂ l₃ (h.heard ++ piece) (sent_bytes h.sent) p.written says spoke_before p.is_done.0),
    rose_put m source sink l₀ l₂ l₃ one quiet_before p.is_done.1,
  )
  fed_fault joins stays go_on is_front faults.OutOfMemory p = (
    served_front joins stays is_front (b.stored s₀) old.state new.state (link_step m source l₀ l₃) (looked_in b s₀ s₂) h.heard piece p.written h.sent p.more p.next
        (b.faults s₁) h.stands p.broke
        (spoke_put m source sink l₀ l₂ l₃ (h.heard ++ piece) (sent_bytes h.sent) p.written says spoke_before p.is_done.put),
    quiet_put m source sink l₀ l₂ l₃ one quiet_before p.is_done.quiet,
  )

  -- the same over what the store told when the piece was fed
  pub hears_broken : SentJoins → SentStays → SessionsGoOn → BrokenIsFront → (fault : GatewayFault)
      → FeedEnds (b.stored s₁) old new piece (looked_in b s₁ s₂) (into sink l₂ l₃) (Err fault)
      → LinkEnds (b.stored s₀) most (link_step m source l₀ l₃) (looked_in b s₀ s₂) (served_of new.state) (Err fault)
  hears_broken joins stays go_on is_front fault ends =
      fed_fault joins stays go_on is_front fault
      (subst (λ (told : Option Store). FeedEnds told old new piece (looked_in b s₁ s₂) (into sink l₂ l₃) (Err fault)) h.looked.looked.stored ends)

  -- a session that went on, over what was told at the start
  fed_on : (next : Next) → FedOn (b.stored s₁) old new piece (looked_in b s₁ s₂) (into sink l₂ l₃) next
      → FedOn (b.stored s₀) old new piece (looked_in b s₁ s₂) (into sink l₂ l₃) next
  fed_on next p = subst (λ (told : Option Store). FedOn told old new piece (looked_in b s₁ s₂) (into sink l₂ l₃) next) h.looked.looked.stored p

  -- the last reply closes
  pub hears_close : SessionsGoOn → StandsForSent → (next : Next) → FedOn (b.stored s₁) old new piece (looked_in b s₁ s₂) (into sink l₂ l₃) next
      → next ≡ nexts.Close → ServedAll (b.stored s₀) (served_of new.state) (link_step m source l₀ l₃) (looked_in b s₀ s₂)
  hears_close go_on all next ends closes =
      let p = fed_on next ends in
      let told = b.stored s₀ in
      let both = go_on old.state new.state told h.heard piece h.sent p.more (b.faults s₀) (b.faults s₁) (b.faults s₁) (b.faults s₂) h.stands p.went (omega arith) in
      served_closed all told new.state (link_step m source l₀ l₃) (looked_in b s₀ s₂) (h.heard ++ piece) (h.sent ++ p.more) both
      (closes_of new.state.closed next p.next_is closes)
      (spoke_same (link_step m source l₀ l₃) (h.heard ++ piece) _ _ (sym (sent_both h.sent p.more))
      (spoke_put m source sink l₀ l₂ l₃ (h.heard ++ piece) (sent_bytes h.sent) (sent_bytes p.more) says spoke_before p.put.put))
      (quiet_put m source sink l₀ l₂ l₃ one quiet_before p.put.quiet)

  -- the session goes on
  pub hears_more : SessionsGoOn → LooksJoin S b → (next : Next) → FedOn (b.stored s₁) old new piece (looked_in b s₁ s₂) (into sink l₂ l₃) next
      → HaveLookedUp (looked_in b s₁ s₂) → b.faults s₁ ≤ b.faults s₂ → (next ≡ nexts.Close → ⊥)
      → HasHeard (b.stored s₀) most new.state (link_step m source l₀ l₃) (looked_in b s₀ s₂)
  hears_more go_on looks next ends looked counted goes_on =
      let p = fed_on next ends in
      let told = b.stored s₀ in
      record {
        heard = h.heard ++ piece;
        sent = h.sent ++ p.more;
        stands = go_on old.state new.state told h.heard piece h.sent p.more (b.faults s₀) (b.faults s₁) (b.faults s₁) (b.faults s₂) h.stands p.went (omega arith);
        open_is = record { unclosed = opens_of new.state.closed next p.next_is goes_on; unrefused = p.went.unrefused };
        most_is = p.went.numbers.most_is ∙ h.most_is;
        spoke = spoke_same (link_step m source l₀ l₃) (h.heard ++ piece) _ _ (sym (sent_both h.sent p.more))
            (spoke_put m source sink l₀ l₂ l₃ (h.heard ++ piece) (sent_bytes h.sent) (sent_bytes p.more) says spoke_before p.put.put);
        quiet = quiet_put m source sink l₀ l₂ l₃ one quiet_before p.put.quiet;
        looked = looks_both S b s₀ s₁ s₂ looks h.looked looked;
        counted = omega (arith, h.counted, counted);
      }
