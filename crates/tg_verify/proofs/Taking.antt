-- A section that is taken, or refused.
use Rattle.std.proofs.Common.{[], All, Bool, Contains, Err, List, None, Ok, Option, Some, ap, append-nil, arith, false}
use Rattle.std.proofs.Common.{inl, inr, length-append, refl, subst, sym, true, ℕ, ◌++◌, ◌<◌, ◌∙◌, ◌∷◌, ◌≡◌}
use Rattle.std.proofs.lemmas.List.Elements.{Contains-push_cases}
use Rattle.std.proofs.lemmas.List.{map-append}
use Rattle.std.specs.Prelude.{IfSome, Result, ⊤}
use Rattle.tg_cid.specs.Cid.{CidParts}
use Rattle.tg_model.specs.Dag.{Section}
use Rattle.tg_model.specs.LimitNumbers.{LimitNumbers}
use Rattle.tg_model.specs.Queries.{QueryParts}
use Rattle.tg_model.specs.Traversal.{is_sent_behind}
use Rattle.tg_model_laws.specs.SentSections.{new_behind, once, taken_as, taken_if}
use Rattle.tg_streams.specs.Joining.{put_nothing}
use Rattle.tg_streams.specs.Streams.{Output, SinkMeaning, into}
use Rattle.tg_traversal.specs.Left.{WantedAt, tasks_left, wanted_tasks}
use Rattle.tg_model_laws.specs.Stages.{Given}
use Rattle.tg_model_laws.specs.Tasks.{Task, no_directory, no_entry, open_block}
use Rattle.tg_model_laws.specs.Verified.{Verified, VerifiedLaws}
use Rattle.tg_verify.proofs.Going.{going_through}
use Rattle.tg_verify.proofs.Misread.{Computes}
use Rattle.tg_verify.proofs.Leading.{any_led_more, led_now}
use Rattle.tg_verify.proofs.Opened.{Ends, IsAtPlace, IsNothing, IsOpenedUpTo, leads_behind, nothing_put, opens_up_to, placed_ends}
use Rattle.tg_verify.proofs.Turning.{kept_section, known_if, pair_of}
use Rattle.tg_verify.specs.Counting.{AreUnpassed, HasCounted, counts_given}
use Rattle.tg_verify.specs.History.{HasOn, HasTaken, PutsFor, one_more}
use Rattle.tg_verify.specs.Refusals.{HasRefused, HasSectionCause, IsRefusedAt, IsWantedBlock}
use Rattle.tg_verify.specs.Reached.{IsReached, stage_of}
use Rattle.tg_verify.specs.State.{OpenerState, VerifierState, count_of, listed_lines}
use Rattle.tg_verify.specs.Steps.{IsPlacedAt, IsReceivedAt, IsSameOpener, IsToldBehind, section_with}
use Rattle.tg_verify.specs.Opening.{IsNamed}
use Rattle.tg_verify.specs.Taken.{AreNamed, IsFrontWritten, IsGoing, IsNowhere, IsOn, IsSentFor, IsWrittenAt, Remembers}
use Rattle.tg_verify.specs.Terminals.{IsTerminalAt, LeadsTo}
use Rattle.tg_verify.specs.declared.counts.Source.TheVariants as sources
use Rattle.tg_verify.specs.declared.fault.Refusal.{Refusal}
use Rattle.tg_verify.specs.declared.fault.Refusal.TheVariants as refusals
use Rattle.tg_verify.specs.declared.terminal.Terminal.{Terminal}

-- what is said of a section that comes, by whether a block is wanted
pub record HasReceived (state : VerifierState) (section : Section) (result : Result ⊤ Refusal) : Type 0 where
  pub surplus : state.left.wanted ≡ None → result ≡ Err (refusals.Extra state.taken)
  pub received : (at : WantedAt) → state.left.wanted ≡ Some at → IsReceivedAt state.limits at section result

-- where it is the wanted one
pub record IsWantedThere (state : VerifierState) (section : Section) : Type 0 where
  pub at : WantedAt
  pub wanted : state.left.wanted ≡ Some at
  pub block : IsWantedBlock state.limits at section

wanted_by : (state : VerifierState) (section : Section) (wanted : Option WantedAt) → state.left.wanted ≡ wanted → HasReceived state section (Ok tt) → IsWantedThere state section
wanted_by state section None e h = let both = h.surplus e in absurd (cc both)
wanted_by state section (Some at) e h = record { at = at; wanted = e; block = h.received at e }

pub wanted_there : (state : VerifierState) (section : Section) → HasReceived state section (Ok tt) → IsWantedThere state section
wanted_there state section h = wanted_by state section state.left.wanted refl h

-- ---- what is kept of the sections with one more

pub counted_more : (sections : List Section) (section : Section) (before now : ℕ) → before ≡ count_of sections → now ≡ one_more before → now ≡ count_of (sections ++ section ∷ [])
counted_more sections section before now e f = omega (arith, e, f, length-append sections (section ∷ []))

named_more : (sections : List Section) (section : Section) → AreNamed sections → IsNamed section → AreNamed (sections ++ section ∷ [])
named_more sections section named one x h = elim (Contains-push_cases sections section x h) [
  | inl there ↦ named x there
  | inr same ↦ subst (λ (y : Section). IsNamed y) same one
]

remembers_more : (dups : Bool) (q : QueryParts) (seen now : List (CidParts × List ℕ)) (sections : List Section) (section : Section) → q.dups ≡ dups → Remembers dups seen sections
    → is_sent_behind q sections section.cid ≡ true → (dups ≡ true → now ≡ seen)
    → (dups ≡ false → ((other : List ℕ) → Contains seen (section.cid, other) → ⊥) → now ≡ seen ++ (section.cid, section.block) ∷ []) → Remembers dups now (sections ++ section ∷ [])
remembers_more true q seen now sections section dups keeps sends all each = all refl ∙ keeps
remembers_more false q seen now sections section dups keeps sends all each =
    each refl (λ other h. once q.dups _ dups (new_behind q sections section.cid sends) (section_with section.cid other)
    (kept_section sections section.cid other (subst (λ (s : List (CidParts × List ℕ)). Contains s (section.cid, other)) keeps h)) refl)
    ∙ ap (λ (s : List (CidParts × List ℕ)). s ++ (section.cid, section.block) ∷ []) keeps ∙ sym (map-append pair_of sections (section ∷ []))

-- what stands in the verifier behind it
pub record HasKept (old new : VerifierState) (section : Section) : Type 0 where
  pub all : old.left.query.dups ≡ true → new.seen ≡ old.seen
  pub each : old.left.query.dups ≡ false → ((other : List ℕ) → Contains old.seen (section.cid, other) → ⊥) → new.seen ≡ old.seen ++ (section.cid, section.block) ∷ []
  pub taken : new.taken ≡ one_more old.taken

-- ---- it is refused

pub puts_none : (q : QueryParts) (limits : LimitNumbers) (sections : List Section) (written text : List ℕ) (fault : Refusal) → IsNothing fault text → PutsFor q limits sections written (Err fault) text
puts_none q limits sections written text (refusals.Extra number) e = inl e
puts_none q limits sections written text (refusals.Limit kind number) e = inl e
puts_none q limits sections written text (refusals.BadDigest cid) e = inl e
puts_none q limits sections written text (refusals.WrongBlock want got) e = inl e
puts_none q limits sections written text (refusals.BadBlock cid fault) e = inl e
puts_none q limits sections written text (refusals.BadSize declared actual) e = inl e
puts_none q limits sections written text (refusals.NotFolder segment) e = inl e
puts_none q limits sections written text (refusals.NotThere segment) e = inl e
puts_none q limits sections written text refusals.SinkFault e = tt
puts_none q limits sections written text (refusals.Truncated want number) e = inl e
puts_none q limits sections written text refusals.OutOfMemory e = inl e

-- what was told of the path stays so, with one more
pub going_led : (state : VerifierState) (sections more : List Section) (written : List ℕ) → IsGoing state sections written → IfSome state.terminal (LeadsTo state.left.query (sections ++ more))
going_led state sections more written h =
    any_led_more state.left.query sections more (sections ++ more) state.terminal refl
    (led_now state.left.query.scope state.left.query sections h.given (tasks_left state.left) state.terminal h.terminal)

module _ (state : VerifierState) (sections : List Section) (written : List ℕ) (h : IsGoing state sections written) (section : Section) (bytes : All (λ b. b < 256) section.block) where
  -- as an opener sees it
  abbrev opener : OpenerState
  opener = record { left = state.left; limits = state.limits; lines = state.lines; counts = state.counts; terminal = state.terminal }

  module _ (at : WantedAt) (wanted : state.left.wanted ≡ Some at) where
    writes_at : IsWrittenAt state h.given written (Some at)
    writes_at = subst (λ (w : Option WantedAt). IsWrittenAt state h.given written w) wanted h.writes

    verified_at : Verified state.left.query sections h.given (open_block at.want at.cid ∷ state.left.later)
    verified_at = subst (λ (w : Option WantedAt). Verified state.left.query sections h.given (wanted_tasks w ++ state.left.later)) wanted h.verified

    reached_at : IsReached state.left.query state.limits (stage_of sections h.given (open_block at.want at.cid ∷ state.left.later))
    reached_at = subst (λ (w : Option WantedAt). IsReached state.left.query state.limits (stage_of sections h.given (wanted_tasks w ++ state.left.later))) wanted h.reached

    sends_at : is_sent_behind state.left.query sections at.cid ≡ true
    sends_at = subst (λ (w : Option WantedAt). IsSentFor state.left.query sections w) wanted h.sends

    refused_as : (why : Given → List (Task CidParts) → WantedAt → Section → Type 0) → why h.given state.left.later at section
        → IsRefusedAt state.left.query state.limits (sections ++ section ∷ []) written why
    refused_as why cause = record {
      taken = sections;
      section = section;
      received = refl;
      are_bytes = bytes;
      at = at;
      up_to = record { given = h.given; later = state.left.later; verified = verified_at; reached = reached_at; sends = sends_at; text = writes_at.0 };
      cause = cause;
    }

    section_refused : (fault : Refusal) → HasSectionCause state.left.query state.limits h.given state.left.later at section fault
        → HasRefused state.left.query state.limits (sections ++ section ∷ []) written fault
    section_refused (refusals.Limit kind number) cause = inl (refused_as _ cause)
    section_refused (refusals.BadDigest cid) cause = inl (refused_as _ cause)
    section_refused (refusals.WrongBlock want got) cause = inl (refused_as _ cause)
    section_refused (refusals.BadBlock cid fault) cause = inl (refused_as _ cause)
    section_refused (refusals.BadSize declared actual) cause = inl (refused_as _ cause)
    section_refused refusals.OutOfMemory cause = inl (refused_as _ cause)
    section_refused (refusals.Extra number) cause = elim cause [ inl none ↦ absurd none | inr (block, none) ↦ absurd none ]
    section_refused (refusals.NotFolder segment) cause = elim cause [ inl none ↦ absurd none | inr (block, none) ↦ absurd none ]
    section_refused (refusals.NotThere segment) cause = elim cause [ inl none ↦ absurd none | inr (block, none) ↦ absurd none ]
    section_refused refusals.SinkFault cause = elim cause [ inl none ↦ absurd none | inr (block, none) ↦ absurd none ]
    section_refused (refusals.Truncated want number) cause = elim cause [ inl none ↦ absurd none | inr (block, none) ↦ absurd none ]

  pub refused_by : (wanted : Option WantedAt) → state.left.wanted ≡ wanted → (fault : Refusal) → HasReceived state section (Err fault)
      → HasRefused state.left.query state.limits (sections ++ section ∷ []) written fault
  refused_by None e fault r =
      let both = r.surplus e in
      let is_extra : refusals.Extra state.taken ≡ fault = cc in
      subst (λ (f : Refusal). HasRefused state.left.query state.limits (sections ++ section ∷ []) written f) is_extra
      (record { taken = sections; section = section; received = refl; through = going_through state sections written h e; number_is = h.keeps.count })
  refused_by (Some at) e fault r = section_refused at e fault (inl (r.received at e))

  refused_still : {S : Type 0} (m : SinkMeaning S) (a : S) → m.wrote a a [] → (fault : Refusal) → HasRefused state.left.query state.limits (sections ++ section ∷ []) written fault
      → HasTaken state (sections ++ section ∷ []) written (into m a a) (Err fault)
  refused_still {S} m a rests fault refused = record {
    text = [];
    put = put_nothing S m a rests;
    puts = puts_none state.left.query state.limits (sections ++ section ∷ []) written [] fault (nothing_put fault);
    stands = subst (λ (t : List ℕ). HasRefused state.left.query state.limits (sections ++ section ∷ []) t fault) (sym (append-nil written)) refused;
  }

  -- since it isn't the wanted one
  pub receipt_refused : {S : Type 0} (m : SinkMeaning S) (a : S) → m.wrote a a [] → (fault : Refusal) → HasReceived state section (Err fault)
      → HasTaken state (sections ++ section ∷ []) written (into m a a) (Err fault)
  receipt_refused m a rests fault r = refused_still m a rests fault (refused_by state.left.wanted refl fault r)

  -- for want of memory
  pub room_refused : {S : Type 0} (m : SinkMeaning S) (a : S) → m.wrote a a [] → IsWantedThere state section
      → HasTaken state (sections ++ section ∷ []) written (into m a a) (Err refusals.OutOfMemory)
  room_refused m a rests there = refused_still m a rests refusals.OutOfMemory (section_refused there.at there.wanted refusals.OutOfMemory (inr (there.block, tt)))

  -- ---- or it is the wanted one

  module _ (v : VerifiedLaws) (computes : Computes) (there : IsWantedThere state section) where
    sends_it : is_sent_behind state.left.query sections section.cid ≡ true
    sends_it = subst (λ (cid : CidParts). is_sent_behind state.left.query sections cid ≡ true) (sym there.block.same) (sends_at there.at there.wanted)

    named_it : IsNamed section
    named_it = record { named = there.block.block.named; are_bytes = bytes }

    at_place : IsAtPlace opener sections h.given there.at section sources.Section
    at_place = record {
      verified = verified_at there.at there.wanted;
      reached = reached_at there.at there.wanted;
      is_named = named_it;
      same = there.block.same;
      from = sends_it;
      known = known_if state.left.query sections section true sends_it tt;
      small = λ sends. there.block.block.small;
      counted = h.counted.counted;
      lines = (writes_at there.at there.wanted).1;
      terminal = subst (λ (w : Option WantedAt). IsTerminalAt state.left.query sections h.given (wanted_tasks w ++ state.left.later) state.terminal) there.wanted h.terminal;
    }

    all_sections : taken_as state.left.query sections section ≡ sections ++ section ∷ []
    all_sections = ap (λ (b : Bool). taken_if b sections section) sends_it

    pub place_refused : (out : Output) (new : OpenerState) (after : VerifierState) (fault : Refusal) → after.left.query ≡ state.left.query → after.limits ≡ state.limits
        → IsPlacedAt opener there.at section sources.Section out new (Err fault) → HasTaken after (sections ++ section ∷ []) written out (Err fault)
    place_refused out new after fault query limits placed =
        let q = state.left.query in
        let all = sections ++ section ∷ [] in
        let ends : Ends v computes opener sections h.given there.at section sources.Section at_place (taken_as q sections section) written (λ text fault. HasRefused q state.limits all text fault) = record {
          no_entry_there = λ segment nowhere. subst (λ (all : List Section). IsNowhere q state.limits all written (no_entry segment)) all_sections nowhere;
          no_directory_there = λ segment nowhere. subst (λ (all : List Section). IsNowhere q state.limits all written (no_directory segment)) all_sections nowhere;
          front = λ text front. subst (λ (all : List Section). IsFrontWritten q all text) all_sections front;
          refused = λ fault cause. section_refused there.at there.wanted fault (inr (there.block, cause));
        } in
        let e = placed_ends v computes opener sections h.given there.at section sources.Section at_place written (writes_at there.at there.wanted).0 (λ text fault. HasRefused q state.limits all text fault) ends
        out new fault placed in
        record {
          text = e.text;
          put = e.put;
          puts = puts_none after.left.query after.limits all written e.text fault e.nothing;
          stands = subst (λ (p : QueryParts). HasRefused p after.limits all (written ++ e.text) fault) (sym query)
              (subst (λ (l : LimitNumbers). HasRefused q l all (written ++ e.text) fault) (sym limits) e.is);
        }

    pub place_taken : (out : Output) (new : OpenerState) (after : VerifierState) → IsSameOpener opener new → after.left ≡ new.left → after.limits ≡ new.limits → after.lines ≡ new.lines
        → after.counts ≡ new.counts → after.terminal ≡ new.terminal → HasKept state after section → IsPlacedAt opener there.at section sources.Section out new (Ok tt) → HasOn after (sections ++ section ∷ []) written out
    place_taken out new after same_opener left limits lines counts told kept placed =
        let q = state.left.query in
        let o = opens_up_to v computes opener sections h.given there.at section sources.Section at_place placed.said new placed.placed in
        record {
          text = placed.said;
          put = placed.put;
          quiet = placed.quiet;
          on = on_with new after (taken_as q sections section) (written ++ placed.said) o same_opener left limits lines counts told kept
              (o.text ∙ ap (λ (t : List ℕ). t ++ placed.said) (sym (writes_at there.at there.wanted).0)) placed.placed.last all_sections;
        }
      where
        on_with : (new : OpenerState) (after : VerifierState) (all : List Section) (text : List ℕ) {said : List ℕ} (o : IsOpenedUpTo opener all h.given said new) → IsSameOpener opener new
            → after.left ≡ new.left → after.limits ≡ new.limits → after.lines ≡ new.lines → after.counts ≡ new.counts → after.terminal ≡ new.terminal → HasKept state after section → o.next.text ≡ text
            → (new.left.wanted ≡ None → new.left.later ≡ []) → all ≡ sections ++ section ∷ [] → IsOn after (sections ++ section ∷ []) text
        on_with new after all text o same_opener left limits lines counts told kept text_is last e =
            let query : after.left.query ≡ state.left.query = ap (λ l. l.query) left ∙ same_opener.query in
            let limits_are : after.limits ≡ state.limits = limits ∙ same_opener.limits in
            record {
              given = o.next;
              verified = subst (λ (p : QueryParts). Verified p (sections ++ section ∷ []) o.next (tasks_left after.left)) (sym query)
                  (subst (λ (tasks : List (Task CidParts)). Verified state.left.query (sections ++ section ∷ []) o.next tasks) (sym (ap (λ l. tasks_left l) left))
                  (subst (λ (ss : List Section). Verified state.left.query ss o.next (tasks_left new.left)) e o.verified));
              reached = subst (λ (p : QueryParts). IsReached p after.limits (stage_of (sections ++ section ∷ []) o.next (tasks_left after.left))) (sym query)
                  (subst (λ (l : LimitNumbers). IsReached state.left.query l (stage_of (sections ++ section ∷ []) o.next (tasks_left after.left))) (sym limits_are)
                  (subst (λ (tasks : List (Task CidParts)). IsReached state.left.query state.limits (stage_of (sections ++ section ∷ []) o.next tasks)) (sym (ap (λ l. tasks_left l) left))
                  (subst (λ (ss : List Section). IsReached state.left.query state.limits (stage_of ss o.next (tasks_left new.left))) e o.reached)));
              ends = λ none. ap (λ l. l.later) left ∙ last (sym (ap (λ l. l.wanted) left) ∙ none);
              keeps = record {
                named = named_more sections section h.keeps.named named_it;
                remembers = subst (λ (p : QueryParts). Remembers p.dups after.seen (sections ++ section ∷ [])) (sym query)
                    (remembers_more state.left.query.dups state.left.query state.seen after.seen sections section refl h.keeps.remembers sends_it kept.all kept.each);
                count = counted_more sections section state.taken after.taken h.keeps.count kept.taken;
              };
              counted = record {
                counted = subst (λ (p : QueryParts). HasCounted p after.counts o.next) (sym query)
                    (subst (λ counts. HasCounted state.left.query counts o.next) (sym counts) o.counted);
                within = subst (λ (p : QueryParts). AreUnpassed after.limits (counts_given p o.next)) (sym query)
                    (subst (λ (l : LimitNumbers). AreUnpassed l (counts_given state.left.query o.next)) (sym limits_are) o.within);
              };
              text = sym text_is;
              lines = subst (λ (p : QueryParts). after.lines ≡ listed_lines p.scope o.next.met) (sym query) (lines ∙ o.lines);
              terminal = subst (λ (p : QueryParts). IsTerminalAt p (sections ++ section ∷ []) o.next (tasks_left after.left) after.terminal) (sym query)
                  (subst (λ (t : Option Terminal). IsTerminalAt state.left.query (sections ++ section ∷ []) o.next (tasks_left after.left) t) (sym told)
                  (subst (λ (tasks : List (Task CidParts)). IsTerminalAt state.left.query (sections ++ section ∷ []) o.next tasks new.terminal) (sym (ap (λ l. tasks_left l) left))
                  (subst (λ (ss : List Section). IsTerminalAt state.left.query ss o.next (tasks_left new.left) new.terminal) e o.terminal)));
            }

    -- what the path leads to is told, whether it is opened or not
    pub led_taken : (new : OpenerState) → new.left.query ≡ state.left.query → IsToldBehind opener there.at section new.terminal
        → IfSome new.terminal (LeadsTo new.left.query (sections ++ section ∷ []))
    led_taken new query told =
        subst (λ (p : QueryParts). IfSome new.terminal (LeadsTo p (sections ++ section ∷ []))) (sym query)
        (subst (λ (ss : List Section). IfSome new.terminal (LeadsTo state.left.query ss)) all_sections
        (leads_behind v computes opener sections h.given there.at section sources.Section at_place new.terminal told))
