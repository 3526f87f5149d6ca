-- What was heard on a lane's link and said to it.
use Rattle.std.proofs.Common.{◌≡◌, ℕ, Ok, Err, Result, Bool, Option, None, Some, true, false, List, [], ◌∷◌, ◌++◌, append-nil, ap₂, length, ◌<◌, inl, inr, refl, sym, ap, subst, ◌∙◌}
use Rattle.std.specs.Prelude.{is_some, slice_get, slice_set}
use Rattle.tg_faults.specs.Faults.{Rose}
use Rattle.tg_gateway.specs.Sessions.{FeedEnds, SessionView}
use Rattle.tg_gateway.specs.declared.fault.GatewayFault.{GatewayFault}
use Rattle.tg_gateway.specs.declared.fault.GatewayFault.TheVariants as faults
use Rattle.tg_gateway.specs.declared.session.Next.{Next}
use Rattle.tg_gateway.specs.declared.session.Next.TheVariants as nexts
use Rattle.tg_lanes.specs.Hearing.{HeardOn, LinkFails, fed_over}
use Rattle.tg_lanes.specs.History.{Fed, FedStands, LanesStandFor, Move, StandOn, fed_by, has_ended, was_fed}
use Rattle.tg_lanes.specs.Lanes.{Feeds, LaneFed, LanesView}
use Rattle.tg_lanes.specs.OwnLaws.{got_set}
use Rattle.tg_links.specs.Joining.{spoke_hears, spoke_nothing, spoke_says}
use Rattle.tg_links.specs.Links.{CountsAreOne, LinkMeaning, PutsAreSaid, TakesAreHeard}
use Rattle.tg_links.specs.Steps.{LinkQuiet, LinkStep, Spoke, link_step}
use Rattle.tg_model.specs.Stores.{Lookups, Store}
use Rattle.tg_streams.specs.Streams.{Output, SinkMeaning, SourceMeaning, into}

-- ---- how a link fails to which a session writes

module _ (told : Option Store) (old new : SessionView) (piece : List ℕ) (lookups : Lookups) (out : Output) (link : LinkStep)
    (before : out.faults_old ≡ link.faults_old) (behind : out.faults_new ≡ link.faults_new) where
  still : out.faults_new ≡ out.faults_old → LinkQuiet link
  still quiet = sym behind ∙ quiet ∙ before

  open_fails : (result : Result Next GatewayFault) → FeedEnds told old new piece lookups out result → LinkFails None result link
  open_fails (Ok next) p = still p.put.quiet
  open_fails (Err (faults.Limit number)) p = still p.put.quiet
  open_fails (Err faults.LinkFault) p =
      subst (λ (n : ℕ). Rose n link.faults_new) before (subst (λ (n : ℕ). Rose out.faults_old n) behind p.is_done.1)
  open_fails (Err faults.OutOfMemory) p = still p.is_done.quiet

  link_fails : (same : Type 0) (result : Result Next GatewayFault) → (same → out.faults_new ≡ out.faults_old)
      → Feeds told old new piece lookups out same result → LinkFails old.refused result link
  link_fails same result idle feeds = by old.refused refl
    where
      by_close : (c : Bool) → old.state.closed ≡ c → old.refused ≡ None → LinkFails None result link
      by_close false open_is none =
          open_fails result (feeds.ends (record { unclosed = open_is; unrefused = feeds.agreed ∙ ap is_some none }))
      by_close true shut none =
          let f = feeds.closed none shut in
          subst (λ (r : Result Next GatewayFault). LinkFails None r link) (sym f.0) (still (idle f.2))

      by : (r : Option GatewayFault) → old.refused ≡ r → LinkFails r result link
      by None none = by_close old.state.closed refl none
      by (Some fault) some = still (idle (feeds.again fault some).2)

-- ---- how many bytes may be received

module _ (told : Option Store) (old new : SessionView) (piece : List ℕ) (lookups : Lookups) (out : Output) where
  open_most : (result : Result Next GatewayFault) → FeedEnds told old new piece lookups out result → new.state.most ≡ old.state.most
  open_most (Ok next) p = p.went.numbers.most_is
  open_most (Err (faults.Limit number)) p = p.passed.numbers.most_is
  open_most (Err faults.LinkFault) p = p.broke.numbers.most_is
  open_most (Err faults.OutOfMemory) p = p.broke.numbers.most_is

  -- it stays what it was
  same_most : (same : Type 0) (result : Result Next GatewayFault) → Feeds told old new piece lookups out same result → new.state.most ≡ old.state.most
  same_most same result feeds = by old.refused refl
    where
      by_close : (c : Bool) → old.state.closed ≡ c → old.refused ≡ None → new.state.most ≡ old.state.most
      by_close false open_is none =
          open_most result (feeds.ends (record { unclosed = open_is; unrefused = feeds.agreed ∙ ap is_some none }))
      by_close true shut none = ap (λ (s : SessionView). s.state.most) (feeds.closed none shut).1

      by : (r : Option GatewayFault) → old.refused ≡ r → new.state.most ≡ old.state.most
      by None none = by_close old.state.closed refl none
      by (Some fault) some = ap (λ (s : SessionView). s.state.most) (feeds.again fault some).1

-- ---- what was heard

module _ {B L : Type 0} (m : LinkMeaning L) (source : SourceMeaning L) (hears : TakesAreHeard L m source) (told : Option Store) (old new : LanesView B)
    (lane : ℕ) where
  -- a piece was taken, and what the lane wrote for it was put
  pub heard_piece : (sink : SinkMeaning L) → PutsAreSaid L m sink → CountsAreOne L source sink → (lookups : Lookups) (a b c : L) (piece : List ℕ) (result : Result Next GatewayFault)
      → 0 < length piece → source.took a b piece → source.faults b ≡ source.faults a → LaneFed told old new lane piece lookups (into sink b c) (c ≡ b) result
      → FedStands told old.sessions new.sessions lane piece lookups (into sink b c) result
      → HeardOn told old new lane lookups.faults_old lookups.faults_new (link_step m source a c) result
  heard_piece sink says one_count lookups a b c piece result some took quiet fed on =
      let spoke = spoke_hears m source a a b [] [] (spoke_nothing m source a) piece (hears a b piece took) in
      let one : fed.behind ≡ on.session =
      got_set old.sessions lane fed.behind on.session (ap (λ (l : List SessionView). slice_get l lane) (sym fed.sessions) ∙ on.session_is) in
      let start : sink.faults b ≡ source.faults a = sym (one_count b) ∙ quiet in
      let end : sink.faults c ≡ source.faults c = sym (one_count c) in
      let was : Fed = fed_by piece on.written lookups (into sink b c) in
      let over : Fed = fed_over piece on.written lookups.faults_old lookups.faults_new (link_step m source a c) in
      let is : was ≡ over =
      ap₂
      (λ (x y : ℕ).
      let f : Fed = record {
        piece = piece;
        written = on.written;
        store_before = lookups.faults_old;
        store_now = lookups.faults_new;
        out_before = x;
        out_now = y;
      } in f)
      start end in
      record {
        piece = piece;
        written = on.written;
        spoke = spoke_says m source a b c piece [] spoke on.written (says b c on.written on.put.moved);
        more = was_fed lane over ∷ [];
        heard_as = inl (record {
          more_is = refl;
          some = some;
          was = fed.before;
          was_there = fed.was;
          session = on.session;
          session_is = on.session_is;
          same_most = ap (λ (s : SessionView). s.state.most) (sym one)
              ∙ same_most told fed.before fed.behind piece lookups (into sink b c) ((new.blocks ≡ old.blocks) × (c ≡ b)) result fed.feeds;
          ends_as = on.ends_as;
          link_fails = link_fails told fed.before fed.behind piece lookups (into sink b c) (link_step m source a c) start end
              ((new.blocks ≡ old.blocks) × (c ≡ b)) result (λ p. ap sink.faults p.1) fed.feeds;
          sessions = fed.sessions ∙ ap (slice_set old.sessions lane) one;
          most = fed.most;
        });
        stand = subst (λ (f : Fed). StandOn told old.sessions new.sessions lookups.faults_old lookups.faults_new (was_fed lane f ∷ [])) is on.stand;
      }

  -- the peer says no more
  pub heard_end : (before now : ℕ) (a b c : L) (piece : List ℕ) (result : Result Next GatewayFault) → piece ≡ [] → source.took a b piece
      → source.faults b ≡ source.faults a → c ≡ b → m.over b ≡ true → result ≡ Ok nexts.Close → new ≡ old
      → StandOn told old.sessions new.sessions before now (has_ended lane ∷ []) → HeardOn told old new lane before now (link_step m source a c) result
  heard_end before now a b c piece result none took quiet same over closes kept stand =
      let spoke : Spoke (link_step m source a b) [] [] =
      spoke_hears m source a a b [] [] (spoke_nothing m source a) [] (hears a b [] (subst (λ (l : List ℕ). source.took a b l) none took)) in
      record {
        piece = [];
        written = [];
        spoke = subst (λ (l : L). Spoke (link_step m source a l) [] []) (sym same) spoke;
        more = has_ended lane ∷ [];
        heard_as = inr (inl (record {
          as_was = record { more_is = refl; piece_is = refl; written_is = refl; same = kept };
          closes = closes;
          over = ap m.over same ∙ over;
          quiet = ap source.faults same ∙ quiet;
        }));
        stand = stand;
      }

  -- the link failed
  pub heard_fault : (now : ℕ) (a b : L) (result : Result Next GatewayFault) → source.took a b [] → Rose (source.faults a) (source.faults b)
      → result ≡ Err faults.LinkFault → new ≡ old → HeardOn told old new lane now now (link_step m source a b) result
  heard_fault now a b result took rose fails kept = record {
    piece = [];
    written = [];
    spoke = spoke_hears m source a a b [] [] (spoke_nothing m source a) [] (hears a b [] took);
    more = [];
    heard_as = inr (inr (record {
      as_was = record { more_is = refl; piece_is = refl; written_is = refl; same = kept };
      fails = fails;
      rose = rose;
    }));
    stand = λ since moves stand.
        subst (λ (v : LanesView B). LanesStandFor v.sessions told since now (moves ++ [])) (sym kept)
        (subst (λ (l : List Move). LanesStandFor old.sessions told since now l) (sym (append-nil moves)) stand);
  }
