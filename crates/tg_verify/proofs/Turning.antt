-- The places whose blocks no section brings: which they are, and what stands once one was opened, or none is next.
use Rattle.std.proofs.Common.{[], ◌⊎◌, ◌≢◌, All, Bool, Contains, Err, List, None, Ok, Option, Some, ap, append-nil, append_assoc, arith}
use Rattle.std.proofs.Common.{false, inl, inr, map, refl, subst, sym, true, ℕ, ◌++◌, ◌<◌, ◌∙◌, ◌∷◌, ◌≡◌, ◌&&◌, ◌||◌, not}
use Rattle.std.proofs.lemmas.List.Elements.{Contains-append_cases, Contains-append_left, Contains-append_right, Contains-push, Contains-push_cases}
use Rattle.std.specs.Prelude.{IfSome}
use Rattle.tg_cid.specs.Cid.{CidParts}
use Rattle.tg_cid.specs.Names.{IsDigestOf, Names}
use Rattle.tg_cid.specs.declared.cid.HashKind.{HashKind}
use Rattle.tg_model.specs.LimitNumbers.{LimitNumbers}
use Rattle.tg_verify.specs.Counting.{AreUnpassed, HasCounted, counts_given}
use Rattle.tg_model.specs.Dag.{Section}
use Rattle.tg_model.specs.Fits.{IfOnce}
use Rattle.tg_model.specs.Queries.{QueryParts}
use Rattle.tg_model.specs.Texts.{Named, listing}
use Rattle.tg_model.specs.Traversal.{ListedEntry, is_asked, is_sent_behind}
use Rattle.tg_model.specs.declared.queries.Scope.{Scope}
use Rattle.tg_model.specs.declared.queries.Scope.TheVariants as scopes
use Rattle.tg_model_laws.specs.SentSections.{is_under, not_among, taken_as, taken_if, unasked_identity}
use Rattle.tg_streams.specs.Joining.{put_nothing}
use Rattle.tg_streams.specs.Streams.{Output, Put, SinkMeaning, into}
use Rattle.tg_traversal.specs.Left.{WantedAt, tasks_left, told_wanted, wanted_tasks}
use Rattle.tg_traversal.specs.declared.position.Wanted.{Wanted}
use Rattle.tg_model_laws.specs.Tasks.{Task, no_directory, no_entry, open_block}
use Rattle.tg_model_laws.specs.Verified.{IsHad, IsKnown, IsKnownIf, IsOwnBlock, Verified, VerifiedLaws, listing_at_end, written_whole}
use Rattle.tg_verify.proofs.Counting.{IsFrom, unasked_unsent}
use Rattle.tg_verify.proofs.Misread.{Computes}
use Rattle.tg_verify.proofs.Leading.{led_now}
use Rattle.tg_verify.proofs.Opened.{Ends, IsAtPlace, IsOpenedUpTo, leads_behind, opens_up_to, placed_ends}
use Rattle.tg_verify.specs.History.{HasGone, HasOn, HasStopped}
use Rattle.tg_verify.specs.Refusals.{HasPlaceCause, IsRefusedBehind}
use Rattle.tg_verify.specs.Reached.{IsReached, stage_of}
use Rattle.tg_verify.specs.State.{OpenerState, VerifierState, listed_lines, listed_of}
use Rattle.tg_verify.specs.Steps.{IsKnownBlock, IsPlacedAt, IsSameOpener, IsToldBehind, PutOrWants, section_with, source_of}
use Rattle.tg_verify.specs.Opening.{IsNamed}
use Rattle.tg_verify.specs.Taken.{IsFrontWritten, IsNowhere, IsOn, IsSentFor, IsUnlisted, IsWrittenAt, Remembers}
use Rattle.tg_verify.specs.Terminals.{IsTerminalAt, LeadsTo}
use Rattle.tg_verify.specs.declared.counts.Source.{Source}
use Rattle.tg_verify.specs.declared.counts.Source.TheVariants as sources
use Rattle.tg_verify.specs.declared.fault.Refusal.{Refusal}
use Rattle.tg_verify.specs.declared.fault.Refusal.TheVariants as refusals
use Rattle.tg_verify.specs.declared.verifier.Progress.TheVariants as progresses

-- ---- the wanted place as it is told

pub record IsToldAt (wanted : Option WantedAt) (cid : CidParts) : Type 0 where
  pub at : WantedAt
  pub is : wanted ≡ Some at
  pub cid_is : at.cid ≡ cid

pub told_at : (wanted : Option WantedAt) (told : Wanted) → told_wanted wanted ≡ Some told → IsToldAt wanted told.cid
told_at None told e = absurd (cc e)
told_at (Some at) told e = record { at = at; is = refl; cid_is = cc }

pub not_told : (wanted : Option WantedAt) → told_wanted wanted ≡ None → wanted ≡ None
not_told None e = refl
not_told (Some at) e = absurd (cc e)

-- ---- sections as they are remembered

abbrev pub pair_of : Section → CidParts × List ℕ
pair_of section = (section.cid, section.block)

one_of : {X : Type 0} (s x : X) (xs : List X) → Contains (s ∷ xs) x → (s ≡ x) ⊎ Contains xs x
one_of s x xs h = elim (Contains-append_cases (s ∷ []) xs x h) [
  | inl a ↦ elim (Contains-push_cases [] s x a) [
    | inl none ↦ absurd (omega (arith, none.1))
    | inr same ↦ inl same
  ]
  | inr b ↦ inr b
]

first_one : {X : Type 0} (s : X) (xs : List X) → Contains (s ∷ xs) s
first_one s xs = Contains-append_left (s ∷ []) xs s (Contains-push [] s)

other_one : {X : Type 0} (s x : X) (xs : List X) → Contains xs x → Contains (s ∷ xs) x
other_one s x xs h = Contains-append_right (s ∷ []) xs x h

pub kept_pair : (sections : List Section) (x : Section) → Contains sections x → Contains (map pair_of sections) (pair_of x)
kept_pair [] x h = absurd (omega (arith, h.1))
kept_pair (s ∷ sections) x h = elim (one_of s x sections h) [
  | inl same ↦ subst (λ (y : Section). Contains (map pair_of (s ∷ sections)) (pair_of y)) same (first_one (pair_of s) (map pair_of sections))
  | inr there ↦ other_one (pair_of s) (pair_of x) (map pair_of sections) (kept_pair sections x there)
]

pub kept_section : (sections : List Section) (cid : CidParts) (block : List ℕ) → Contains (map pair_of sections) (cid, block) → Contains sections (section_with cid block)
kept_section [] cid block h = absurd (omega (arith, h.1))
kept_section (s ∷ sections) cid block h = elim (one_of (pair_of s) (cid, block) (map pair_of sections) h) [
  | inl same ↦
      let is : s ≡ section_with cid block = λ i. record { cid = (same i).0; block = (same i).1 } in
      subst (λ (y : Section). Contains (s ∷ sections) y) is (first_one s sections)
  | inr there ↦ other_one s (section_with cid block) sections (kept_section sections cid block there)
]

-- ---- blocks that are known

-- where a block is known under a CID, no section brings it: it is one of the sections', or the CID's digest
pub record IsKnownHere (q : QueryParts) (sections : List Section) (section : Section) (source : Source) : Type 0 where
  pub had : IsHad sections section
  pub from : IsFrom q sections section source
  pub unsent : is_sent_behind q sections section.cid ≡ false

pub known_if : (q : QueryParts) (sections : List Section) (section : Section) (b : Bool) → is_sent_behind q sections section.cid ≡ b → IsKnownIf b sections section → IsKnown q sections section
known_if q sections section b e h = subst (λ (b : Bool). IsKnownIf b sections section) (sym e) h

remembered_here : (dups : Bool) (q : QueryParts) (seen : List (CidParts × List ℕ)) (sections : List Section) (cid : CidParts) (block : List ℕ) → q.dups ≡ dups → is_asked q cid ≡ true
    → Remembers dups seen sections → Contains seen (cid, block) → IsKnownHere q sections (section_with cid block) sources.Remembered
remembered_here true q seen sections cid block dups asks keeps h =
    let none : Contains [] (cid, block) = subst (λ (s : List (CidParts × List ℕ)). Contains s (cid, block)) keeps h in absurd (omega (arith, none.1))
remembered_here false q seen sections cid block dups asks keeps h =
    let had = kept_section sections cid block (subst (λ (s : List (CidParts × List ℕ)). Contains s (cid, block)) keeps h) in
    let unsent : is_sent_behind q sections cid ≡ false = unsent_by (is_asked q cid) q.dups dups (is_under cid sections (section_with cid block) had refl) in
    record { had = inl had; from = (asks, unsent); unsent = unsent }
  where
    unsent_by : (a d : Bool) → d ≡ false → {known : Bool} → known ≡ true → (a && (d || not known)) ≡ false
    unsent_by true true e f = cc
    unsent_by true false e f = ap not f
    unsent_by false d e f = refl

digest_here : (q : QueryParts) (sections : List Section) (cid : CidParts) (block : List ℕ) → is_asked q cid ≡ false → block ≡ cid.digest
    → IsKnownHere q sections (section_with cid block) sources.Digest
digest_here q sections cid block asks is = record { had = inr (unasked_identity q cid asks, is); from = asks; unsent = unasked_unsent q sections cid asks }

pub known_here : (asks : Bool) (q : QueryParts) (seen : List (CidParts × List ℕ)) (sections : List Section) (cid : CidParts) (block : List ℕ) → is_asked q cid ≡ asks
    → Remembers q.dups seen sections → IsKnownBlock asks seen cid (Some block) → IsKnownHere q sections (section_with cid block) (source_of asks)
known_here true q seen sections cid block asks keeps h = remembered_here q.dups q seen sections cid block refl asks keeps h
known_here false q seen sections cid block asks keeps h = let is : block ≡ cid.digest = cc in digest_here q sections cid block asks is

-- and where none is, a section is to bring it
none_remembered : (dups : Bool) (seen : List (CidParts × List ℕ)) (sections : List Section) (cid : CidParts) → Remembers dups seen sections
    → ((block : List ℕ) → Contains seen (cid, block) → ⊥) → IfOnce dups ((x : Section) → Contains sections x → x.cid ≢ cid)
none_remembered true seen sections cid keeps none = tt
none_remembered false seen sections cid keeps none = λ x h same.
    none x.block (subst (λ (s : List (CidParts × List ℕ)). Contains s (cid, x.block)) (sym keeps)
    (subst (λ (c : CidParts). Contains (map pair_of sections) (c, x.block)) same (kept_pair sections x h)))

pub sent_where_unknown : (asks : Bool) (q : QueryParts) (seen : List (CidParts × List ℕ)) (sections : List Section) (cid : CidParts) → is_asked q cid ≡ asks → Remembers q.dups seen sections
    → IsKnownBlock asks seen cid None → is_sent_behind q sections cid ≡ true
sent_where_unknown true q seen sections cid asks keeps h = not_among q sections cid asks (none_remembered q.dups seen sections cid keeps h)
sent_where_unknown false q seen sections cid asks keeps h = absurd (cc h)

-- such a block is its CID's
own_named : (section : Section) → IsOwnBlock section → Names section.cid section.block
own_named section (identity, is) = subst (λ (hash : HashKind). IsDigestOf hash section.cid.digest section.block) (sym identity) (sym is)

pub is_named : (q : QueryParts) (sections : List Section) (section : Section) (source : Source) → IsKnownHere q sections section source
    → ((x : Section) → Contains sections x → IsNamed x) → All (λ b. b < 256) section.block → IsNamed section
is_named q sections section source h named bytes = elim h.had [
  | inl there ↦ named section there
  | inr own ↦ record { named = own_named section own; are_bytes = bytes }
]

-- ---- what stands behind it

-- what is told of the path stays so
pub on_led : (state : VerifierState) (sections : List Section) (written : List ℕ) → IsOn state sections written → IfSome state.terminal (LeadsTo state.left.query sections)
on_led state sections written h = led_now state.left.query.scope state.left.query sections h.given (tasks_left state.left) state.terminal h.terminal

module _ (v : VerifiedLaws) (computes : Computes) (state : VerifierState) (sections : List Section) (written : List ℕ) (h : IsOn state sections written) where
  -- as an opener sees it
  abbrev opener : OpenerState
  opener = record { left = state.left; limits = state.limits; lines = state.lines; counts = state.counts; terminal = state.terminal }

  -- no place is next: all is written
  left_none : state.left.wanted ≡ None → tasks_left state.left ≡ []
  left_none none = ap (λ (w : Option WantedAt). wanted_tasks w ++ state.left.later) none ∙ h.ends none

  -- the entries whose lines are kept
  abbrev kept : List Named
  kept = listed_of state.left.query.scope h.given.met

  whole_is : written ++ listing kept ≡ written_whole state.left.query h.given
  whole_is =
      ap (λ (t : List ℕ). t ++ listing (listed_of state.left.query.scope h.given.met)) h.text
      ∙ ap (λ (t : List ℕ). h.given.text ++ t) (at_end state.left.query.scope h.given.met)
    where
      at_end : (scope : Scope) (met : List ListedEntry) → listing (listed_of scope met) ≡ listing_at_end scope met
      at_end scopes.Block met = refl
      at_end scopes.Entity met = refl
      at_end scopes.All met = refl

  whole_front : (front rest : List ℕ) → state.left.wanted ≡ None → listing kept ≡ front ++ rest → IsFrontWritten state.left.query sections (written ++ front)
  whole_front front rest none e = record {
    given = h.given;
    tasks = [];
    verified = subst (λ (tasks : List (Task CidParts)). Verified state.left.query sections h.given tasks) (left_none none) h.verified;
    rest = rest;
    text = sym whole_is ∙ ap (λ (t : List ℕ). written ++ t) e ∙ sym (append_assoc written front rest);
  }

  -- all is written but for the listing
  unlisted : state.left.wanted ≡ None → IsUnlisted state.left.query sections (written ++ [])
  unlisted none = record {
    given = h.given;
    verified = subst (λ (tasks : List (Task CidParts)). Verified state.left.query sections h.given tasks) (left_none none) h.verified;
    text = append-nil written ∙ h.text;
  }

  abbrev listed : VerifierState
  listed = record state { lines = [] }

  pub lists_all : (out : Output) → state.left.wanted ≡ None → Put (listing kept) out → HasGone listed sections written out (Ok progresses.Done)
  lists_all out none put = record {
    text = listing kept;
    put = put;
    stands = record {
      given = h.given;
      verified = h.verified;
      reached = h.reached;
      sends = subst (λ (w : Option WantedAt). IsSentFor state.left.query sections w) (sym none) tt;
      keeps = record { named = h.keeps.named; remembers = h.keeps.remembers; count = h.keeps.count };
      counted = record { counted = h.counted.counted; within = h.counted.within };
      writes = subst (λ (w : Option WantedAt). IsWrittenAt listed h.given (written ++ listing kept) w) (sym none) (h.ends none, whole_is);
      terminal = h.terminal;
    };
  }

  pub lists_front : (out : Output) (fault : Refusal) → state.left.wanted ≡ None → PutOrWants (listing kept) out (Err fault)
      → HasGone listed sections written out (Err fault)
  lists_front out refusals.SinkFault none (p, rose) = record { text = p.front; put = p.put; stands = whole_front p.front p.rest none p.whole }
  lists_front out refusals.OutOfMemory none (put, quiet) = record { text = []; put = put; stands = inr (unlisted none) }
  lists_front out (refusals.Extra number) none p = absurd p
  lists_front out (refusals.Limit kind number) none p = absurd p
  lists_front out (refusals.BadDigest cid) none p = absurd p
  lists_front out (refusals.WrongBlock want got) none p = absurd p
  lists_front out (refusals.BadBlock cid fault) none p = absurd p
  lists_front out (refusals.BadSize declared actual) none p = absurd p
  lists_front out (refusals.NotFolder segment) none p = absurd p
  lists_front out (refusals.NotThere segment) none p = absurd p
  lists_front out (refusals.Truncated want number) none p = absurd p

  -- a section is wanted
  pub wants_section : {S : Type 0} (m : SinkMeaning S) (a : S) → m.wrote a a [] → (at : WantedAt) → state.left.wanted ≡ Some at → is_sent_behind state.left.query sections at.cid ≡ true
      → HasGone state sections written (into m a a) (Ok progresses.More)
  wants_section {S} m a rests at wanted sends = record {
    text = [];
    put = put_nothing S m a rests;
    stands = record {
      given = h.given;
      verified = h.verified;
      reached = h.reached;
      sends = subst (λ (w : Option WantedAt). IsSentFor state.left.query sections w) (sym wanted) sends;
      keeps = h.keeps;
      counted = h.counted;
      writes = subst (λ (w : Option WantedAt). IsWrittenAt state h.given (written ++ []) w) (sym wanted) (append-nil written ∙ h.text, h.lines);
      terminal = h.terminal;
    };
  }

  -- ---- a place whose block is known

  module _ (at : WantedAt) (wanted : state.left.wanted ≡ Some at) (section : Section) (source : Source) (same : section.cid ≡ at.cid) (known : IsKnownHere state.left.query sections section source)
      (bytes : All (λ b. b < 256) section.block) where
    verified_at : Verified state.left.query sections h.given (open_block at.want at.cid ∷ state.left.later)
    verified_at = subst (λ (w : Option WantedAt). Verified state.left.query sections h.given (wanted_tasks w ++ state.left.later)) wanted h.verified

    reached_at : IsReached state.left.query state.limits (stage_of sections h.given (open_block at.want at.cid ∷ state.left.later))
    reached_at = subst (λ (w : Option WantedAt). IsReached state.left.query state.limits (stage_of sections h.given (wanted_tasks w ++ state.left.later))) wanted h.reached

    named_here : IsNamed section
    named_here = is_named state.left.query sections section source known h.keeps.named bytes

    at_place : IsAtPlace opener sections h.given at section source
    at_place = record {
      verified = verified_at;
      reached = reached_at;
      is_named = named_here;
      same = same;
      from = known.from;
      known = known_if state.left.query sections section false known.unsent known.had;
      small = λ sends. let both : false ≡ true = sym known.unsent ∙ sends in absurd (cc both);
      counted = h.counted.counted;
      lines = h.lines;
      terminal = subst (λ (w : Option WantedAt). IsTerminalAt state.left.query sections h.given (wanted_tasks w ++ state.left.later) state.terminal) wanted h.terminal;
    }

    same_sections : taken_as state.left.query sections section ≡ sections
    same_sections = ap (λ (b : Bool). taken_if b sections section) known.unsent

    unsent_at : is_sent_behind state.left.query sections at.cid ≡ false
    unsent_at = subst (λ (cid : CidParts). is_sent_behind state.left.query sections cid ≡ false) same known.unsent

    refused_behind : (fault : Refusal) → HasPlaceCause state.left.query state.limits h.given state.left.later at section fault
        → IsRefusedBehind state.left.query state.limits sections written fault
    refused_behind fault cause = record {
      given = h.given;
      at = at;
      later = state.left.later;
      verified = verified_at;
      reached = reached_at;
      text = h.text;
      known = unsent_at;
      section = section;
      same = same;
      had = known.had;
      is_named = named_here;
      cause = cause;
    }

    refuses : (fault : Refusal) → HasPlaceCause state.left.query state.limits h.given state.left.later at section fault → HasStopped state.left.query state.limits sections written fault
    refuses (refusals.NotThere segment) cause = absurd cause
    refuses (refusals.NotFolder segment) cause = absurd cause
    refuses refusals.SinkFault cause = absurd cause
    refuses refusals.OutOfMemory cause = inl (refused_behind refusals.OutOfMemory cause)
    refuses (refusals.Extra number) cause = absurd cause
    refuses (refusals.Limit kind number) cause = refused_behind (refusals.Limit kind number) cause
    refuses (refusals.BadDigest cid) cause = absurd cause
    refuses (refusals.WrongBlock want got) cause = absurd cause
    refuses (refusals.BadBlock cid fault) cause = refused_behind (refusals.BadBlock cid fault) cause
    refuses (refusals.BadSize declared actual) cause = refused_behind (refusals.BadSize declared actual) cause
    refuses (refusals.Truncated want number) cause = absurd cause

    -- memory is wanted before it is opened
    pub wants_memory : {S : Type 0} (m : SinkMeaning S) (a : S) → m.wrote a a [] → HasGone state sections written (into m a a) (Err refusals.OutOfMemory)
    wants_memory {S} m a rests = record {
      text = [];
      put = put_nothing S m a rests;
      stands = inl (subst (λ (text : List ℕ). IsRefusedBehind state.left.query state.limits sections text refusals.OutOfMemory) (sym (append-nil written)) (refused_behind refusals.OutOfMemory tt));
    }

    -- it is refused
    pub place_refused : (out : Output) (new : OpenerState) (fault : Refusal) → IsSameOpener opener new → IsPlacedAt opener at section source out new (Err fault)
        → HasGone (record state { left = new.left; limits = new.limits; lines = new.lines; counts = new.counts; terminal = new.terminal }) sections written out (Err fault)
    place_refused out new fault same_opener placed =
        let q = state.left.query in
        let ends : Ends v computes opener sections h.given at section source at_place (taken_as q sections section) written (λ text fault. HasStopped q state.limits sections text fault) = record {
          no_entry_there = λ segment there. subst (λ (all : List Section). IsNowhere q state.limits all written (no_entry segment)) same_sections there;
          no_directory_there = λ segment there. subst (λ (all : List Section). IsNowhere q state.limits all written (no_directory segment)) same_sections there;
          front = λ text there. subst (λ (all : List Section). IsFrontWritten q all text) same_sections there;
          refused = refuses;
        } in
        let e = placed_ends v computes opener sections h.given at section source at_place written h.text (λ text fault. HasStopped q state.limits sections text fault) ends out new fault placed in
        record {
          text = e.text;
          put = e.put;
          stands = subst (λ (p : QueryParts). HasStopped p new.limits sections (written ++ e.text) fault) (sym same_opener.query)
              (subst (λ (l : LimitNumbers). HasStopped q l sections (written ++ e.text) fault) (sym same_opener.limits) e.is);
        }

    -- it is opened
    pub place_opened : (out : Output) (new : OpenerState) → IsSameOpener opener new → IsPlacedAt opener at section source out new (Ok tt)
        → HasOn (record state { left = new.left; limits = new.limits; lines = new.lines; counts = new.counts; terminal = new.terminal }) sections written out
    place_opened out new same_opener placed =
        let q = state.left.query in
        let o = opens_up_to v computes opener sections h.given at section source at_place placed.said new placed.placed in
        record {
          text = placed.said;
          put = placed.put;
          quiet = placed.quiet;
          on = on_with new (taken_as q sections section) (written ++ placed.said) o same_opener (o.text ∙ ap (λ (t : List ℕ). t ++ placed.said) (sym h.text)) placed.placed.last same_sections;
        }
      where
        on_with : (new : OpenerState) (all : List Section) (text : List ℕ) {said : List ℕ} (o : IsOpenedUpTo opener all h.given said new) → IsSameOpener opener new → o.next.text ≡ text
            → (new.left.wanted ≡ None → new.left.later ≡ []) → all ≡ sections
            → IsOn (record state { left = new.left; limits = new.limits; lines = new.lines; counts = new.counts; terminal = new.terminal }) sections text
        on_with new all text o same_opener text_is last e = record {
          given = o.next;
          verified = subst (λ (p : QueryParts). Verified p sections o.next (tasks_left new.left)) (sym same_opener.query)
              (subst (λ (ss : List Section). Verified state.left.query ss o.next (tasks_left new.left)) e o.verified);
          reached = subst (λ (p : QueryParts). IsReached p new.limits (stage_of sections o.next (tasks_left new.left))) (sym same_opener.query)
              (subst (λ (l : LimitNumbers). IsReached state.left.query l (stage_of sections o.next (tasks_left new.left))) (sym same_opener.limits)
              (subst (λ (ss : List Section). IsReached state.left.query state.limits (stage_of ss o.next (tasks_left new.left))) e o.reached));
          ends = last;
          keeps = record {
            named = h.keeps.named;
            remembers = subst (λ (p : QueryParts). Remembers p.dups state.seen sections) (sym same_opener.query) h.keeps.remembers;
            count = h.keeps.count;
          };
          counted = record {
            counted = subst (λ (p : QueryParts). HasCounted p new.counts o.next) (sym same_opener.query) o.counted;
            within = subst (λ (p : QueryParts). AreUnpassed new.limits (counts_given p o.next)) (sym same_opener.query)
                (subst (λ (l : LimitNumbers). AreUnpassed l (counts_given state.left.query o.next)) (sym same_opener.limits) o.within);
          };
          text = sym text_is;
          lines = subst (λ (p : QueryParts). new.lines ≡ listed_lines p.scope o.next.met) (sym same_opener.query) o.lines;
          terminal = subst (λ (p : QueryParts). IsTerminalAt p sections o.next (tasks_left new.left) new.terminal) (sym same_opener.query)
              (subst (λ (ss : List Section). IsTerminalAt state.left.query ss o.next (tasks_left new.left) new.terminal) e o.terminal);
        }

    -- what the path leads to is told, whether it is opened or not
    pub led_turned : (new : OpenerState) → IsSameOpener opener new → IsToldBehind opener at section new.terminal → IfSome new.terminal (LeadsTo new.left.query sections)
    led_turned new same_opener told =
        subst (λ (p : QueryParts). IfSome new.terminal (LeadsTo p sections)) (sym same_opener.query)
        (subst (λ (ss : List Section). IfSome new.terminal (LeadsTo state.left.query ss)) same_sections
        (leads_behind v computes opener sections h.given at section source at_place new.terminal told))
