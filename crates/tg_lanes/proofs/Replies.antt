-- The replies of a lane, the events in which they were sent, and the store's counts.
use Rattle.std.proofs.Common.{◌≡◌, ℕ, zero, suc, ◌<◌, ◌≤◌, Bool, true, false, Option, Some, None, List, [], ◌∷◌, ◌++◌, ◌⊎◌, All, Contains, append-nil, inl, inr, length, refl, sym, ap, subst, ◌∙◌, arith, slice_index_or}
use Rattle.std.proofs.lemmas.List.Elements.{All-append, All-cons, All-head, All-nil, All-tail, All-weaker, Contains-append_right}
use Rattle.tg_faults.specs.Faults.{Rose}
use Rattle.tg_gateway.specs.declared.fault.GatewayFault.{GatewayFault}
use Rattle.tg_gateway.specs.declared.fault.GatewayFault.TheVariants as faults
use Rattle.tg_lanes.specs.History.{AreSentIn, Fed, HasStoreRisen, WritesBy}
use Rattle.tg_lanes.specs.Laws.{BrokenAreSentAsItRose, FailsByTheStore, IsSentAsItRose, RepliesAreInTurn}
use Rattle.tg_model.specs.Stores.{Store}
use Rattle.tg_reply.specs.Sent.{CountsBetween, Sent, SentAll, bad_head, count_if, failed_in, is_broken, last, limit, next, no_more}
use Rattle.tg_reply.specs.SentLaws.{FailedAreCounted}
use Rattle.tg_reply.specs.Sessions.{SessionState}

-- ---- counts in turn

-- the counts of some replies, and of those behind them
counts_join : (since between now : ℕ) (more later : List Sent) → CountsBetween since more between → CountsBetween between later now
    → CountsBetween since (more ++ later) now
counts_join since between now [] [] le h = omega (arith, le, h)
counts_join since between now [] (s ∷ later) le h = (omega (arith, le, h.0), h.1, h.2)
counts_join since between now (s ∷ more) later h k = (h.0, h.1, counts_join s.faults_now between now more later h.2 k)

-- counts behind a number lie behind a smaller one
counts_from : (since first now : ℕ) (sent : List Sent) → since ≤ first → CountsBetween first sent now → CountsBetween since sent now
counts_from since first now [] le h = omega (arith, le, h)
counts_from since first now (s ∷ sent) le h = (omega (arith, le, h.0), h.1, h.2)

pub in_turn : RepliesAreInTurn
in_turn since now [] sent turn none = subst (λ (l : List Sent). CountsBetween since l now) (sym none) turn
in_turn since now (f ∷ own) sent turn h =
    subst (λ (l : List Sent). CountsBetween since l now) (sym h.sent_is)
    (counts_join since f.store_now now h.more h.later (counts_from since f.store_before f.store_now h.more turn.0 h.counts)
    (in_turn f.store_now now own h.later turn.2 h.behind))

-- ---- one reply of what was sent

-- the first was sent for some bytes, and the others for some
record Parted (store : Store) (s : Sent) (more : List Sent) : Type 0 where
  bytes : List ℕ
  rest : List ℕ
  one : SentAll store bytes (s ∷ []) rest
  beside : List ℕ
  behind : List ℕ
  others : SentAll store beside more behind

-- a reply behind which nothing is sent
alone : (store : Store) (bytes : List ℕ) (q s : Sent) (more : List Sent) → SentAll store bytes (q ∷ []) [] → (q ≡ s) × ([] ≡ more) → Parted store s more
alone store bytes q s more h e = record {
  bytes = bytes;
  rest = [];
  one = subst (λ (x : Sent). SentAll store bytes (x ∷ []) []) e.0 h;
  beside = [];
  behind = [];
  others = subst (λ (l : List Sent). SentAll store [] l []) e.1 (no_more []);
}

same_parts : (q s : Sent) (others more : List Sent) → q ∷ others ≡ s ∷ more → (q ≡ s) × (others ≡ more)
same_parts q s others more e = (cc, cc)

parted : (store : Store) (s : Sent) (more : List Sent) (bytes rest : List ℕ) (all : List Sent) → SentAll store bytes all rest → all ≡ s ∷ more
    → Parted store s more
parted store s more bytes rest all (no_more b) e = absurd (cc e)
parted store s more bytes rest all (limit b before h) e = alone store b _ s more (limit b before h) (same_parts _ s [] more e)
parted store s more bytes rest all (bad_head b before h) e = alone store b _ s more (bad_head b before h) (same_parts _ s [] more e)
parted store s more bytes rest all (last b r head q begins f closes) e =
    alone store b q s more (last b r head q begins f closes) (same_parts q s [] more e)
parted store s more bytes rest all (next b r behind head q others begins f open_is h) e =
    let same = same_parts q s others more e in
    record {
      bytes = b;
      rest = r;
      one = subst (λ (x : Sent). SentAll store b (x ∷ []) r) same.0 (next b r r head q [] begins f open_is (no_more r));
      beside = r;
      behind = behind;
      others = subst (λ (l : List Sent). SentAll store r l behind) same.1 h;
    }

-- ---- where one broke off the count rose

-- a reply that broke off did so while the count rose
abbrev RoseIfBroken : Sent → Type 0
RoseIfBroken s = is_broken s.course ≡ true → Rose s.faults_before s.faults_now

rose_one : FailedAreCounted → (store : Store) (bytes rest : List ℕ) (s : Sent) → SentAll store bytes (s ∷ []) rest → s.faults_before ≤ s.faults_now
    → RoseIfBroken s
rose_one counted store bytes rest s h le broke =
    by (counted store bytes rest (s ∷ []) s.faults_before s.faults_now h (omega arith, le, omega arith))
  where
    by : (failed_in (s ∷ []) ≡ 0) ⊎ Rose s.faults_before s.faults_now → Rose s.faults_before s.faults_now
    by (inl none) = absurd (omega (arith, subst (λ (b : Bool). count_if b 0 ≡ 0) broke none))
    by (inr rose) = rose

-- of what was sent, and more of which no counts are known
rose_each : FailedAreCounted → (store : Store) (bytes rest : List ℕ) (since now : ℕ) (sent more : List Sent) → SentAll store bytes (sent ++ more) rest
    → CountsBetween since sent now → All RoseIfBroken sent
rose_each counted store bytes rest since now [] more h counts = All-nil RoseIfBroken
rose_each counted store bytes rest since now (s ∷ sent) more h counts =
    let p = parted store s (sent ++ more) bytes rest (s ∷ (sent ++ more)) h refl in
    All-cons RoseIfBroken s sent (rose_one counted store p.bytes p.rest s p.one counts.1)
    (rose_each counted store p.beside p.behind s.faults_now now sent more p.others counts.2)

-- of what was sent alone
rose_all : FailedAreCounted → (store : Store) (bytes rest : List ℕ) (since now : ℕ) (sent : List Sent) → SentAll store bytes sent rest
    → CountsBetween since sent now → All RoseIfBroken sent
rose_all counted store bytes rest since now sent h counts =
    rose_each counted store bytes rest since now sent [] (subst (λ (l : List Sent). SentAll store bytes l rest) (sym (append-nil sent)) h) counts

-- whatever was refused
rose_by : FailedAreCounted → (store : Store) (refused : Option GatewayFault) (session : SessionState) (since now : ℕ) (own : List Fed) (sent : List Sent)
    → WritesBy refused session (Some store) since now own sent → All RoseIfBroken sent × (session.failed ≡ failed_in sent)
rose_by counted store None session since now own sent h = (
  rose_all counted store h.stands.looked h.stands.rest since now sent h.stands.sent_is h.stands.counts,
  h.stands.numbers.failed_are,
)
rose_by counted store (Some (faults.Limit number)) session since now own sent h = (
  rose_all counted store _ h.up_to.rest since now sent h.up_to.sent_is.sent_is h.up_to.counts,
  h.up_to.numbers.failed_are,
)
rose_by counted store (Some faults.LinkFault) session since now own sent h = (
  rose_each counted store _ h.0.front.rest since now sent h.0.next h.0.front.sent_is h.0.front.counts,
  h.0.front.numbers.failed_are,
)
rose_by counted store (Some faults.OutOfMemory) session since now own sent h = (
  rose_each counted store _ h.front.rest since now sent h.next h.front.sent_is h.front.counts,
  h.front.numbers.failed_are,
)

-- ---- in which event

-- a reply whose counts lie between two numbers
abbrev LiesBetween : ℕ → ℕ → Sent → Type 0
LiesBetween before now s = (before ≤ s.faults_before) × (s.faults_now ≤ now)

counts_up : (before now : ℕ) (sent : List Sent) → CountsBetween before sent now → before ≤ now
counts_up before now [] h = h
counts_up before now (s ∷ more) h = omega (arith, h.0, h.1, counts_up s.faults_now now more h.2)

lies_each : (before now : ℕ) (sent : List Sent) → CountsBetween before sent now → All (LiesBetween before now) sent
lies_each before now [] h = All-nil (LiesBetween before now)
lies_each before now (s ∷ sent) h =
    All-cons (LiesBetween before now) s sent (h.0, counts_up s.faults_now now sent h.2)
    (All-weaker (LiesBetween s.faults_now now) (LiesBetween before now) (λ t w. (omega (arith, h.0, h.1, w.0), w.1)) sent
    (lies_each s.faults_now now sent h.2))

-- a reply that was sent in one of these events
record IsSentInOne (own : List Fed) (s : Sent) : Type 0 where
  event : Fed
  is_own : Contains own event
  lies : LiesBetween event.store_before event.store_now s

sent_each : (own : List Fed) (sent : List Sent) → AreSentIn own sent → All (IsSentInOne own) sent
sent_each [] sent none = subst (All (IsSentInOne [])) (sym none) (All-nil (IsSentInOne []))
sent_each (f ∷ own) sent h =
    subst (All (IsSentInOne (f ∷ own))) (sym h.sent_is)
    (All-append (IsSentInOne (f ∷ own)) h.more h.later
    (All-weaker (LiesBetween f.store_before f.store_now) (IsSentInOne (f ∷ own)) (λ s lies. record { event = f; is_own = (0, omega arith, refl); lies = lies })
    h.more (lies_each f.store_before f.store_now h.more h.counts))
    (All-weaker (IsSentInOne own) (IsSentInOne (f ∷ own))
    (λ s w. record { event = w.event; is_own = Contains-append_right (f ∷ []) own w.event w.is_own; lies = w.lies })
    h.later (sent_each own h.later h.behind)))

-- what rose in a part rose in the whole
rose_within : (before a b now : ℕ) → before ≤ a → b ≤ now → Rose a b → Rose before now
rose_within before a b now le up r = λ fits. omega (arith, le, up, r (omega (arith, up, fits)))

-- ---- the laws

pub broken_rise : FailedAreCounted → BrokenAreSentAsItRose
broken_rise counted store session since now own stands k d lt broke =
    let rose = (rose_by counted store session.refused session.state since now own stands.sent stands.writes).0 k d lt broke in
    let one = sent_each own stands.sent stands.sent_in k d lt in
    let s = slice_index_or stands.sent k d in
    record {
      event = one.event;
      is_own = one.is_own;
      behind = one.lies.0;
      before = one.lies.1;
      rose = rose_within one.event.store_before s.faults_before s.faults_now one.event.store_now one.lies.0 one.lies.1 rose;
    }

-- an event in which the count rose
risen_at : (own : List Fed) (f : Fed) (k : ℕ) → k < length own → slice_index_or own k f ≡ f → Rose f.store_before f.store_now → HasStoreRisen own
risen_at [] f k lt is rose = absurd (let no : ⊥ = omega (arith, lt) in no)
risen_at (g ∷ own) f zero lt is rose = inl (subst (λ (e : Fed). Rose e.store_before e.store_now) (sym is) rose)
risen_at (g ∷ own) f (suc k) lt is rose = inr (risen_at own f k (omega (arith, lt)) is rose)

-- none broke off, or one did
none_failed : (own : List Fed) (sent : List Sent) → All (λ s. is_broken s.course ≡ true → IsSentAsItRose own s) sent
    → (failed_in sent ≡ 0) ⊎ HasStoreRisen own
none_failed own [] h = inl refl
none_failed own (s ∷ sent) h =
    by (is_broken s.course) refl (none_failed own sent (All-tail (λ s. is_broken s.course ≡ true → IsSentAsItRose own s) s sent h))
  where
    by : (b : Bool) → is_broken s.course ≡ b → (failed_in sent ≡ 0) ⊎ HasStoreRisen own → (failed_in (s ∷ sent) ≡ 0) ⊎ HasStoreRisen own
    by true broke below =
        let at = All-head (λ s. is_broken s.course ≡ true → IsSentAsItRose own s) s sent h broke in
        inr (risen_at own at.event at.is_own.0 at.is_own.1 at.is_own.2 at.rose)
    by false whole (inl none) = inl (ap (λ (b : Bool). count_if b (failed_in sent)) whole ∙ none)
    by false whole (inr risen) = inr risen

pub fails_by : FailedAreCounted → FailsByTheStore
fails_by counted store session since now own stands =
    let numbers = (rose_by counted store session.refused session.state since now own stands.sent stands.writes).1 in
    elim (none_failed own stands.sent (broken_rise counted store session since now own stands)) [
      | inl none ↦ inl (numbers ∙ none)
      | inr risen ↦ inr risen
    ]
