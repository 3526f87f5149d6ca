-- What two lanes have written that are new and are fed a piece each.
use Rattle.std.proofs.Common.{◌≡◌, ℕ, Err, Ok, Option, Result, Some, List, [], ◌∷◌, append-nil, inl, inr, refl, sym, ap, subst, ◌∙◌, arith, take}
use Rattle.std.specs.Prelude.{replicate, slice_get, slice_set}
use Rattle.tg_gateway.specs.Sessions.{FeedEnds, SessionView, new_session}
use Rattle.tg_gateway.specs.declared.fault.GatewayFault.{GatewayFault}
use Rattle.tg_gateway.specs.declared.fault.GatewayFault.TheVariants as faults
use Rattle.tg_gateway.specs.declared.session.Next.{Next}
use Rattle.tg_lanes.specs.Callers.{AreFedAlone, IsFedAlone}
use Rattle.tg_lanes.specs.History.{Fed, FedStands, LaneStands, LanesStandFor, StandOn, fed_by, was_fed}
use Rattle.tg_lanes.specs.Lanes.{LaneFed, LanesView}
use Rattle.tg_lanes.specs.Laws.{BreaksByItsOwn, LaneWritesReplies, LanesBegin}
use Rattle.tg_model.specs.Stores.{BlocksMeaning, Lookups, Store, looked_in}
use Rattle.tg_reply.specs.Sessions.{IsOpen}
use Rattle.tg_reply.specs.Written.{replies_for}
use Rattle.tg_streams.specs.Streams.{Output, Put}

some_is : {X : Type 0} (x y : X) → Some x ≡ Some y → x ≡ y
some_is x y h = cc

-- as many bytes may be received as before
most_kept : (told : Option Store) (old new : SessionView) (piece : List ℕ) (lookups : Lookups) (out : Output) (result : Result Next GatewayFault)
    → FeedEnds told old new piece lookups out result → new.state.most ≡ old.state.most
most_kept told old new piece lookups out (Ok next) p = p.went.numbers.most_is
most_kept told old new piece lookups out (Err (faults.Limit number)) p = p.passed.numbers.most_is
most_kept told old new piece lookups out (Err faults.LinkFault) p = p.broke.numbers.most_is
most_kept told old new piece lookups out (Err faults.OutOfMemory) p = p.broke.numbers.most_is

-- a new session was fed
module _ (told : Option Store) (most : ℕ) (before behind : SessionView) (piece : List ℕ) (lookups : Lookups) (out : Output) (result : Result Next GatewayFault)
    (fresh : before ≡ new_session most) (ends : IsOpen before.state → FeedEnds told before behind piece lookups out result) where
  fed_most : behind.state.most ≡ most
  fed_most =
      most_kept told before behind piece lookups out result
      (ends (subst (λ (s : SessionView). IsOpen s.state) (sym fresh) (record { unclosed = refl; unrefused = refl })))
      ∙ ap (λ (s : SessionView). s.state.most) fresh

-- what stands for one event is what is sent for its piece
fed_alone : LaneWritesReplies → BreaksByItsOwn → (told : Option Store) (most since now : ℕ) (session : SessionView) (f : Fed) (out : Output) → Put f.written out
    → LaneStands session told since now (f ∷ []) → session.state.most ≡ most → IsFedAlone told most since now session f.piece out
fed_alone writes breaks told most since now session f out put stands most_is = record {
  fed = f;
  piece_is = refl;
  put = put;
  stands = stands;
  most_is = most_is;
  replies = λ store is.
      let over = subst (λ (t : Option Store). LaneStands session t since now (f ∷ [])) is stands in
      elim (breaks store session since now (f ∷ []) over) [
        | inl unbroken ↦
            inl
            (sym (append-nil f.written) ∙ writes store session since now (f ∷ []) over unbroken
            ∙ ap (λ (l : List ℕ). replies_for store (take session.state.most l)) (append-nil f.piece)
            ∙ ap (λ (n : ℕ). replies_for store (take n f.piece)) most_is)
        | inr failed ↦ inr failed
      ];
}

module _ {B : Type 0} (m : BlocksMeaning B) (old mid new : LanesView B) (first second : List ℕ) (s t : Type 0) (out other : Output)
    (one two : Result Next GatewayFault) where
  pub both_fed : LanesBegin → LaneWritesReplies → BreaksByItsOwn → old.sessions ≡ replicate 2 (new_session old.most)
      → LaneFed (m.stored old.blocks) old mid 0 first (looked_in m old.blocks mid.blocks) out s one
      → FedStands (m.stored old.blocks) old.sessions mid.sessions 0 first (looked_in m old.blocks mid.blocks) out one
      → m.stored mid.blocks ≡ m.stored old.blocks
      → LaneFed (m.stored mid.blocks) mid new 1 second (looked_in m mid.blocks new.blocks) other t two
      → FedStands (m.stored mid.blocks) mid.sessions new.sessions 1 second (looked_in m mid.blocks new.blocks) other two
      → AreFedAlone (m.stored old.blocks) old.most (m.faults old.blocks) (m.faults new.blocks) new.sessions first second out other
  both_fed begin writes breaks fresh p on same q beside =
      let told = m.stored old.blocks in
      let since = m.faults old.blocks in
      let now = m.faults new.blocks in
      let n = new_session old.most in
      let f : Fed = fed_by first on.written (looked_in m old.blocks mid.blocks) out in
      let g : Fed = fed_by second beside.written (looked_in m mid.blocks new.blocks) other in
      let mids : mid.sessions ≡ p.behind ∷ n ∷ [] = p.sessions ∙ ap (λ (l : List SessionView). slice_set l 0 p.behind) fresh in
      let ends : new.sessions ≡ p.behind ∷ q.behind ∷ [] = q.sessions ∙ ap (λ (l : List SessionView). slice_set l 1 q.behind) mids in
      let was : p.before ≡ n = some_is p.before n (sym p.was ∙ ap (λ (l : List SessionView). slice_get l 0) fresh) in
      let was_beside : q.before ≡ n = some_is q.before n (sym q.was ∙ ap (λ (l : List SessionView). slice_get l 1) mids) in
      let begun : LanesStandFor old.sessions told since since [] =
      subst (λ (l : List SessionView). LanesStandFor l told since since []) (sym fresh) (begin told 2 old.most since since (omega arith)) in
      let between : LanesStandFor mid.sessions told since (m.faults mid.blocks) (was_fed 0 f ∷ []) = on.stand since [] begun in
      let behind : LanesStandFor new.sessions told since now (was_fed 0 f ∷ was_fed 1 g ∷ []) =
      subst (λ (t : Option Store). StandOn t mid.sessions new.sessions (m.faults mid.blocks) now (was_fed 1 g ∷ [])) same beside.stand since
      (was_fed 0 f ∷ []) between in
      record {
        session = p.behind;
        beside = q.behind;
        sessions_are = ends;
        fed_first = fed_alone writes breaks told old.most since now p.behind f out on.put
            (behind 0 p.behind (ap (λ (l : List SessionView). slice_get l 0) ends))
            (fed_most told old.most p.before p.behind first (looked_in m old.blocks mid.blocks) out one was p.feeds.ends);
        fed_second = fed_alone writes breaks told old.most since now q.behind g other beside.put
            (behind 1 q.behind (ap (λ (l : List SessionView). slice_get l 1) ends))
            (fed_most (m.stored mid.blocks) old.most q.before q.behind second (looked_in m mid.blocks new.blocks) other two was_beside q.feeds.ends);
      }
