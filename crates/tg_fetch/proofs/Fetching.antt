-- A request that is put into a link, and a link that a dial made and took back.
use Rattle.std.proofs.Common.{◌≡◌, ℕ, Err, Ok, List, [], Option, Result, inl, inr, refl, sym, subst, ◌∙◌, ap, arith}
use Rattle.std.specs.Prelude.{None, take, ⊤, ◌⊎◌}
use Rattle.tg_dials.specs.Dials.{DialMeaning, DialRose, IsDialled, IsHungUp, KeepsCalls, KeepsComing, KeepsMissed, at_dial}
use Rattle.tg_faults.specs.Faults.{Rose}
use Rattle.tg_faults.specs.declared.calls.Failed.{Failed}
use Rattle.tg_fetch.specs.Calls.{FetchEnds, LinkCalled, LinkHeard, RoseAtPeerFault}
use Rattle.tg_fetch.specs.declared.fault.FetchFault.{FetchFault}
use Rattle.tg_fetch.specs.declared.fault.FetchFault.TheVariants as faults
use Rattle.tg_links.specs.Joining.{spoke_behind, spoke_nothing, spoke_says}
use Rattle.tg_links.specs.Links.{CountsAreOne, LinkMeaning, PutsAreSaid}
use Rattle.tg_links.specs.Steps.{link_step}
use Rattle.tg_links.specs.Views.{IsFirst, and_call, told_call, view_of}
use Rattle.tg_links.specs.declared.call.Call.{Call}
use Rattle.tg_model.specs.LimitNumbers.{LimitNumbers}
use Rattle.tg_model.specs.Queries.{QueryParts}
use Rattle.tg_query.specs.Requests.{request_text}
use Rattle.tg_streams.specs.Joining.{put_nothing}
use Rattle.tg_streams.specs.Streams.{Output, OutputQuiet, Put, PutFront, SinkMeaning, SourceMeaning, into}

-- ---- over a link

module _ {L : Type 0} (m : LinkMeaning L) (source : SourceMeaning L) (sink : SinkMeaning L) (says : PutsAreSaid L m sink) (one : CountsAreOne L source sink)
    (q : QueryParts) (limits : LimitNumbers) (addr : List ℕ) where
  -- no memory was found
  pub called_not : {S : Type 0} (out : SinkMeaning S) (l : L) (s : S) → out.wrote s s []
      → LinkCalled q limits addr (link_step m source l l) (into out s s) (Err faults.OutOfMemory)
  called_not out l s rests =
      let spoke = spoke_nothing m source l in
      inr (record { count = 0; spoke = spoke; unput = put_nothing _ out s rests; why = (refl, spoke) })

  -- the link failed where the request was put
  pub called_front : {S : Type 0} (out : SinkMeaning S) (l₀ l₁ : L) (s : S) → out.wrote s s [] → PutFront (request_text q addr) (into sink l₀ l₁)
      → LinkCalled q limits addr (link_step m source l₀ l₁) (into out s s) (Err faults.PeerFault)
  called_front out l₀ l₁ s rests front =
      inr (record {
        count = front.count;
        spoke = spoke_says m source l₀ l₀ l₁ [] [] (spoke_nothing m source l₀) (take front.count (request_text q addr))
            (says l₀ l₁ (take front.count (request_text q addr)) front.put.moved);
        unput = put_nothing _ out s rests;
        why = subst (λ (n : ℕ). Rose n (source.faults l₁)) (sym (one l₀)) (subst (λ (n : ℕ). Rose (sink.faults l₀) n) (sym (one l₁)) front.rose);
      })

  module _ (l₀ l₁ l₂ : L) (quiet : OutputQuiet (into sink l₀ l₁)) where
    -- the count stood still
    still : source.faults l₁ ≡ source.faults l₀
    still = one l₁ ∙ quiet ∙ sym (one l₀)

    rose_by : (result : Result ⊤ FetchFault) → RoseAtPeerFault (link_step m source l₁ l₂) result → RoseAtPeerFault (link_step m source l₀ l₂) result
    rose_by (Ok done) h = h ∙ still
    rose_by (Err (faults.Refused refusal)) h = h ∙ still
    rose_by (Err (faults.Status status)) h = h ∙ still
    rose_by (Err faults.BadType) h = h ∙ still
    rose_by (Err faults.BadReplyHead) h = h ∙ still
    rose_by (Err faults.BadFraming) h = h ∙ still
    rose_by (Err (faults.BadCar car)) h = h ∙ still
    rose_by (Err faults.PeerFault) h = subst (λ (n : ℕ). Rose n (source.faults l₂)) still h
    rose_by (Err faults.KeepFault) h = h ∙ still
    rose_by (Err faults.OutOfMemory) h = h ∙ still

    -- the request was put, and this heard
    pub called_whole : (out : Output) (result : Result ⊤ FetchFault) → Put (request_text q addr) (into sink l₀ l₁)
        → LinkHeard q limits (link_step m source l₁ l₂) out result → LinkCalled q limits addr (link_step m source l₀ l₂) out result
    called_whole out result put h =
        inl (record {
          heard = h.heard;
          spoke = spoke_behind m source l₀ l₁ l₂ (request_text q addr) (says l₀ l₁ (request_text q addr) put.moved) h.heard h.spoke;
          ends = h.ends;
          rose = rose_by result h.rose;
        })

-- ---- by a dial

-- the peer couldn't be dialled
pub fetch_missed : {D S : Type 0} (dial : DialMeaning D) (out : SinkMeaning S) (q : QueryParts) (limits : LimitNumbers) (addr : List ℕ) (a b : D) (s : S)
    (fault : Failed) → out.wrote s s [] → dial.dialled a b addr → IsDialled (at_dial dial a b) (Err fault) → KeepsCalls (at_dial dial a b)
    → FetchEnds q limits addr (at_dial dial a b) (into out s s) (Err faults.PeerFault)
fetch_missed dial out q limits addr a b s fault rests to dialled keeps =
    inr (record { dialled = to; result_is = refl; missed = dialled.0; calls = keeps; coming = dialled.2; rose = dialled.1; unput = put_nothing _ out s rests })

module _ {D L : Type 0} (dial : DialMeaning D) (links : LinkMeaning L) (source : SourceMeaning L) (a b c : D) (x y : L)
    (dialled : IsDialled (at_dial dial a b) (Ok (view_of links source x))) (keeps : KeepsCalls (at_dial dial a b))
    (done : IsHungUp (view_of links source y) (at_dial dial b c)) (missed : KeepsMissed (at_dial dial b c)) (stays : KeepsComing (at_dial dial b c)) where
  -- what rose behind the call of `dial` rose
  rose_behind : DialRose (at_dial dial b c) → DialRose (at_dial dial a c)
  rose_behind rose = subst (λ (n : ℕ). Rose n (dial.faults c)) dialled.2 rose

  told_behind : dial.calls c ≡ and_call (dial.calls b) (told_call (view_of links source y))
      → dial.calls c ≡ and_call (dial.calls a) (told_call (view_of links source y))
  told_behind is = is ∙ ap (λ (o : Option (List Call)). and_call o (told_call (view_of links source y))) keeps

  told_before : dial.calls c ≡ and_call (dial.calls a) (told_call (view_of links source y))
      → dial.calls c ≡ and_call (dial.calls b) (told_call (view_of links source y))
  told_before is = is ∙ ap (λ (o : Option (List Call)). and_call o (told_call (view_of links source y))) (sym keeps)

  calls_behind : (dial.calls c ≡ and_call (dial.calls b) (told_call (view_of links source y))) ⊎ ((dial.calls c ≡ None) × DialRose (at_dial dial b c))
      → (dial.calls c ≡ and_call (dial.calls a) (told_call (view_of links source y))) ⊎ ((dial.calls c ≡ None) × DialRose (at_dial dial a c))
  calls_behind (inl is) = inl (told_behind is)
  calls_behind (inr (none, rose)) = inr (none, rose_behind rose)

  pub hung_up : IsHungUp (view_of links source y) (at_dial dial a c)
  hung_up = record {
    calls = calls_behind done.calls;
    failed = λ is. rose_behind (done.failed is);
    quiet = λ unfailed told. done.quiet unfailed (told_before told) ∙ dialled.2;
    counted = let more = done.counted in let still = dialled.2 in omega (arith, more, still);
  }

  pub fetch_called : (q : QueryParts) (limits : LimitNumbers) (addr : List ℕ) (out : Output) (result : Result ⊤ FetchFault)
      → dial.dialled a c addr → LinkCalled q limits addr (link_step links source x y) out result → FetchEnds q limits addr (at_dial dial a c) out result
  fetch_called q limits addr out result to called =
      inl (record {
        dialled = to;
        made = view_of links source x;
        is_new = dialled.0;
        comes = subst (λ (coming : Option (List (List ℕ))). IsFirst (dial.coming a) coming (links.left x)) (sym stays) dialled.3;
        link = view_of links source y;
        hung_up = hung_up;
        missed = missed ∙ dialled.1;
        called = called;
      })
