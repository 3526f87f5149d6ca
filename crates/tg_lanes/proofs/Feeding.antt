-- A lane's session that is fed over the store with copies is fed over its store.
use Rattle.std.proofs.Common.{◌≡◌, ℕ, Err, Ok, Option, Some, None, Result, true, List, refl, ap, subst}
use Rattle.std.specs.Prelude.{MatchResult, slice_get, slice_set}
use Rattle.tg_gateway.specs.Sessions.{FeedEnds, SessionView}
use Rattle.tg_gateway.specs.declared.fault.GatewayFault.{GatewayFault}
use Rattle.tg_gateway.specs.declared.fault.GatewayFault.TheVariants as faults
use Rattle.tg_gateway.specs.declared.session.Next.{Next}
use Rattle.tg_gateway.specs.declared.session.Next.TheVariants as nexts
use Rattle.tg_lanes.specs.Caches.{CachedState, cached_blocks}
use Rattle.tg_lanes.specs.Lanes.{IsAgreed, LaneFed, LanesView}
use Rattle.tg_model.specs.Stores.{BlocksMeaning, Store, looked_in}
use Rattle.tg_reply.specs.Sessions.{IsOpen}
use Rattle.tg_streams.specs.Streams.{Output}

module _ {B : Type 0} (m : BlocksMeaning B) (a b : CachedState B) where
  -- of the store only its counts are told, which are those of the store below
  ends_below : (told : Option Store) (old new : SessionView) (piece : List ℕ) (out : Output) (result : Result Next GatewayFault)
      → FeedEnds told old new piece (looked_in (cached_blocks m) a b) out result → FeedEnds told old new piece (looked_in m a.blocks b.blocks) out result
  ends_below told old new piece out (Ok next) p = record { more = p.more; went = p.went; put = p.put; next_is = p.next_is }
  ends_below told old new piece out (Err (faults.Limit number)) p = record { number_is = p.number_is; more = p.more; passed = p.passed; put = p.put }
  ends_below told old new piece out (Err faults.LinkFault) p =
      record { more = p.more; next = p.next; written = p.written; broke = p.broke; is_done = p.is_done }
  ends_below told old new piece out (Err faults.OutOfMemory) p =
      record { more = p.more; next = p.next; written = p.written; broke = p.broke; is_done = p.is_done }

  -- the lanes before, and behind it
  abbrev before_it : List SessionView → ℕ → LanesView B
  before_it sessions most = record { sessions = sessions; blocks = a.blocks; most = most; room = a.room }

  abbrev behind_it : List SessionView → ℕ → LanesView B
  behind_it sessions most = record { sessions = sessions; blocks = b.blocks; most = most; room = b.room }

  pub lane_fed : (old : LanesView B) (sessions : List SessionView) (most lane : ℕ) (piece : List ℕ) (before behind : SessionView) (out : Output)
      (same_out : Type 0) (result : Result Next GatewayFault) → before_it sessions most ≡ old → slice_get sessions lane ≡ Some before → IsAgreed before
      → (IsOpen before.state → FeedEnds (m.stored a.blocks) before behind piece (looked_in (cached_blocks m) a b) out result)
      → (before.refused ≡ None → before.state.closed ≡ true → (result ≡ Ok nexts.Close) × (behind ≡ before) × (b ≡ a) × same_out)
      → ((fault : GatewayFault) → before.refused ≡ Some fault → (result ≡ Err fault) × (behind ≡ before) × (b ≡ a) × same_out)
      → MatchResult result (λ _. behind.refused ≡ None) (λ fault. behind.refused ≡ Some fault)
      → LaneFed (m.stored old.blocks) old (behind_it (slice_set sessions lane behind) most) lane piece (looked_in m old.blocks b.blocks) out same_out result
  lane_fed old sessions most lane piece before behind out same_out result is was agreed ends closed again refused =
      subst
      (λ (v : LanesView B). LaneFed (m.stored v.blocks) v (behind_it (slice_set sessions lane behind) most) lane piece (looked_in m v.blocks b.blocks) out
      same_out result)
      is
      (record {
        before = before;
        behind = behind;
        was = was;
        sessions = refl;
        most = refl;
        feeds = record {
          agreed = agreed;
          ends = λ open_is. ends_below (m.stored a.blocks) before behind piece out result (ends open_is);
          closed = λ none shut. let f = closed none shut in (f.0, f.1, (ap (λ (s : CachedState B). s.blocks) f.2, f.3));
          again = λ fault some. let f = again fault some in (f.0, f.1, (ap (λ (s : CachedState B). s.blocks) f.2, f.3));
          refused = refused;
        };
      })
