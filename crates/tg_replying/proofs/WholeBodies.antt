-- The body of a reply with a CAR: its header, sections and end, and what is a front of it.
use Rattle.std.proofs.Common.{All, Bool, Err, List, None, Ok, Option, Some, [], ap, append-nil, append_assoc, false}
use Rattle.std.proofs.Common.{inl, inr, map, refl, subst, sym, true, ℕ, ◌++◌, ◌==◌, ◌∙◌, ◌∷◌, ◌≡◌, ◌≢◌}
use Rattle.std.specs.Prelude.{if◌then◌else◌}
use Rattle.std.specs.List.{flat_map}
use Rattle.std.proofs.lemmas.Grind.{flat_map-append}
use Rattle.std.proofs.lemmas.List.{map-append}
use Rattle.std.proofs.lemmas.List.Elements.{All-nil}
use Rattle.tg_answering.specs.WalksSend.{sections_sent}
use Rattle.tg_bytes.specs.Lists.{joined}
use Rattle.tg_model.specs.Dag.{Section}
use Rattle.tg_model.specs.Queries.{QueryParts}
use Rattle.tg_model.specs.Stores.{Lookups, Store}
use Rattle.tg_model.specs.declared.stores.BlocksFault.TheVariants as store_faults
use Rattle.tg_reply.specs.CarBytes.{car_header, chunk_bytes, chunked, last_chunk, section_bytes}
use Rattle.tg_replying.proofs.Giving.{fails_more, gives_fails, gives_gives}
use Rattle.tg_replying.proofs.Sections.{sent_then}
use Rattle.tg_replying.specs.Bodies.{AreAllSent, AreSent, BodyEnds, FailsIn, Gives, Giving, HasCauseFor}
use Rattle.tg_replying.specs.Bodies.{HasEndCause, HasFront, HasSections, IsBodyFor, IsBodyOf, IsFrontOfBody}
use Rattle.tg_replying.specs.Bodies.{IsFrontSent, SectionsEnd, WalkGave, body_of, cut_by, end_bytes, giving_in}
use Rattle.tg_replying.specs.Bodies.{is_cut_sent, is_of_store, part_bytes, sections_bytes}
use Rattle.tg_replying.specs.declared.body.BodyEnd.{BodyEnd}
use Rattle.tg_replying.specs.declared.fault.ReplyFault.{ReplyFault}
use Rattle.tg_replying.specs.declared.fault.ReplyFault.TheVariants as faults
use Rattle.tg_reply.specs.Shapes.{IsGood}
use Rattle.tg_streams.specs.Joining.{SinkJoins}
use Rattle.tg_streams.specs.Streams.{SinkMeaning}
use Rattle.tg_walk.specs.declared.fault.WalkFault.{WalkFault}
use Rattle.tg_walk.specs.declared.fault.WalkFault.TheVariants as walks

-- ---- bytes

framed_is : (plain cut : Bool) (header : List ℕ) (parts : List (List ℕ))
    → (if plain then joined (header ∷ parts) else chunked cut (header ∷ parts))
    ≡ (if plain then header else chunk_bytes header) ++ (flat_map (λ (part : List ℕ). if plain then part else
    chunk_bytes part) parts ++ (if plain then [] else (if cut then [] else last_chunk)))
framed_is true cut header parts = ap (λ (rest : List ℕ). header ++ rest) (sym (append-nil (joined parts)))
framed_is false cut header parts = append_assoc (chunk_bytes header) (flat_map chunk_bytes parts)
    (if cut then [] else last_chunk)

-- the header, the sections and the end
body_is : (minor : ℕ) (q : QueryParts) (cut : Bool) (sections : List Section)
    → body_of minor q cut sections ≡ part_bytes minor (car_header q.root) ++ (sections_bytes minor
    sections ++ end_bytes minor cut)
body_is minor q cut sections = framed_is (minor == 0) cut (car_header q.root) (map section_bytes sections)

sections_both : (minor : ℕ) (sections more : List Section) → sections_bytes minor
    (sections ++ more) ≡ sections_bytes minor sections ++ sections_bytes minor more
sections_both minor sections more =
    ap (flat_map (part_bytes minor)) (map-append section_bytes sections more)
    ∙ flat_map-append (part_bytes minor) (map section_bytes sections) (map section_bytes more)

-- ---- fronts

-- a body that may be sent, whose first sections are these
record HasBody (found : Bool) (q : QueryParts) (told : Option Store) (sections : List Section) : Type 0 where
  cut : Bool
  more : List Section
  are : AreSent told (AreAllSent found q cut) q (sections ++ more)

body_behind : (found : Bool) (q : QueryParts) (told : Option Store) (sections : List Section)
    → AreSent told (IsFrontSent q) q sections → HasBody found q told sections
body_behind found q None sections all = record {
  cut = false;
  more = [];
  are = subst (All (IsGood q))
      (sym (append-nil sections)) all;
}
body_behind found q (Some store) sections front = record {
  cut = is_cut_sent found q store;
  more = front.0;
  are = record { all = front.1; cut_is = refl };
}

-- before the first section there is such a body
some_body : (found : Bool) (q : QueryParts) (told : Option Store) → HasBody found q told []
some_body found q None = record { cut = false; more = []; are = All-nil (IsGood q) }
some_body found q (Some store) = record {
  cut = is_cut_sent found q store;
  more = sections_sent store q;
  are = record { all = refl; cut_is = refl };
}

-- the header and these sections are a front of it
front_of_body : (minor : ℕ) (found : Bool) (q : QueryParts) (told : Option Store) (sections : List Section)
    → HasBody found q told sections
    → IsFrontOfBody minor found q told (part_bytes minor (car_header q.root) ++ sections_bytes minor sections)
front_of_body minor found q told sections h =
    let header = part_bytes minor (car_header q.root) in
    let end = end_bytes minor h.cut in
    record {
      cut = h.cut;
      sections = sections ++ h.more;
      are = h.are;
      rest = sections_bytes minor h.more ++ end;
      whole = body_is minor q h.cut (sections ++ h.more) ∙ ap (λ (bytes : List ℕ). header ++ (bytes ++ end))
          (sections_both minor sections h.more)
          ∙ ap (λ (bytes : List ℕ). header ++ bytes) (append_assoc (sections_bytes minor sections)
          (sections_bytes minor h.more) end)
          ∙ sym (append_assoc header (sections_bytes minor sections) (sections_bytes minor h.more ++ end));
    }

-- nothing is, and the header
pub front_nothing : (minor : ℕ) (found : Bool) (q : QueryParts) (told : Option Store) (done : List ℕ → Type 0)
    → done [] → HasFront minor found q told done
front_nothing minor found q told done d =
    let h = some_body found q told in
    record {
      bytes = [];
      is_front = record {
        cut = h.cut;
        sections = h.more;
        are = h.are;
        rest = body_of minor q
            h.cut h.more;
        whole = refl;
      };
      is_done = d;
    }

pub front_header : (minor : ℕ) (found : Bool) (q : QueryParts) (told : Option Store) (done : List ℕ → Type 0)
    → done (part_bytes minor (car_header q.root) ++ []) → HasFront minor found q told done
front_header minor found q told done d =
    record {
      bytes = part_bytes minor (car_header q.root) ++ [];
      is_front = front_of_body minor found q told []
          (some_body found q told);
      is_done = d;
    }

pub front_sections : (minor : ℕ) (found : Bool) (q : QueryParts) (told : Option Store) (part done : List ℕ → Type 0)
    → ((bytes : List ℕ) → part bytes → done (part_bytes minor (car_header q.root) ++ bytes))
    → HasSections told (IsFrontSent q) q (λ sections. part (sections_bytes minor sections))
    → HasFront minor found q told done
front_sections minor found q told part done both h = record {
  bytes = part_bytes minor (car_header q.root) ++ sections_bytes minor h.sections;
  is_front = front_of_body minor found q told h.sections (body_behind found q told h.sections h.are);
  is_done = both (sections_bytes minor h.sections) h.is_done;
}

-- ---- the end

by_found : (found : Bool) (q : QueryParts) (end : Option WalkFault) (store : Store) (sections : List Section)
    → AreAllSent true q (cut_by true end) store sections × AreAllSent false q (cut_by false end) store sections
    → AreAllSent found q (cut_by found end) store sections
by_found true q end store sections h = h.0
by_found false q end store sections h = h.1

-- of what a walk gave, what the body is of
body_so : (found : Bool) (q : QueryParts) (end : Option WalkFault) (store : Store) (sections : List Section)
    → WalkGave q end store sections
    → IsBodyFor (is_of_store end) found q (cut_by found end) store sections
body_so found q None store sections h = by_found found q None store sections h
body_so found q (Some (walks.BadBlock cid fault)) store sections h = by_found found q
    (Some (walks.BadBlock cid fault)) store sections h
body_so found q (Some (walks.Gone cid)) store sections h = by_found found q (Some (walks.Gone cid)) store sections h
body_so found q (Some walks.TooDeep) store sections h = by_found found q (Some walks.TooDeep) store sections h
body_so found q (Some (walks.Store fault)) store sections h = h
body_so found q (Some (walks.NotThere i)) store sections h = by_found found q (Some (walks.NotThere i)) store sections h
body_so found q (Some (walks.NotFolder i)) store sections h = by_found found q (Some (walks.NotFolder i)) store
    sections h
body_so found q (Some walks.OutOfMemory) store sections h = absurd h

-- where it was a fault of the store, the body is cut
cut_at_store : (found : Bool) (end : Option WalkFault) → is_of_store end ≡ true → cut_by found end ≡ true
cut_at_store found None e = absurd (cc)
cut_at_store found (Some (walks.BadBlock cid fault)) e = refl
cut_at_store found (Some (walks.Gone cid)) e = refl
cut_at_store found (Some walks.TooDeep) e = refl
cut_at_store found (Some (walks.Store fault)) e = refl
cut_at_store found (Some (walks.NotThere i)) e = absurd (cc)
cut_at_store found (Some (walks.NotFolder i)) e = absurd (cc)
cut_at_store found (Some walks.OutOfMemory) e = refl

is_told : Option Store → Type 0
is_told None = ⊥
is_told (Some store) = Unit {0}

told_too : (store : Store) → Some store ≡ None → ⊥
unfolding is_told
told_too store e = subst is_told e tt

-- why it broke off
body_cause : (found : Bool) (told : Option Store) (lookups : Lookups) (end : Option WalkFault)
    → end ≢ Some (walks.Store store_faults.OutOfMemory) → HasEndCause told lookups end
    → HasCauseFor (is_of_store end) told lookups (cut_by found end)
body_cause found told lookups None other h = h
body_cause found told lookups (Some (walks.BadBlock cid fault)) other h = h
body_cause found told lookups (Some (walks.Gone cid)) other h = h
body_cause found told lookups (Some walks.TooDeep) other h = h
body_cause found None lookups (Some (walks.Store (store_faults.Changed want got))) other h = (refl, inr h.1.2)
body_cause found None lookups (Some (walks.Store store_faults.Failed)) other h = (refl, inl h.1)
body_cause found (Some store) lookups (Some (walks.Store (store_faults.Changed want got))) other h = absurd
    (told_too store h.1.0)
body_cause found (Some store) lookups (Some (walks.Store store_faults.Failed)) other h = (refl, h.1)
body_cause found told lookups (Some (walks.Store store_faults.OutOfMemory)) other h = absurd (other refl)
body_cause found told lookups (Some (walks.NotThere i)) other h = h
body_cause found told lookups (Some (walks.NotFolder i)) other h = h
body_cause found told lookups (Some walks.OutOfMemory) other h = h

-- no end where the body is cut
no_end : (plain : Bool) → (if plain then [] else (if true then [] else last_chunk)) ≡ []
no_end true = refl
no_end false = refl

pub body_gave : (minor : ℕ) (found : Bool) (q : QueryParts) (told : Option Store) (lookups : Lookups)
    (giving : Giving) (end : Option WalkFault) (done : BodyEnd) (part : List ℕ → Type 0)
    → done.cut ≡ cut_by found end → done.failed ≡ is_of_store end
    → ((bytes : List ℕ) → part bytes → Gives giving (part_bytes minor
    (car_header q.root) ++ (bytes ++ end_bytes minor done.cut)))
    → end ≢ Some (walks.Store store_faults.OutOfMemory)
    → HasSections told (WalkGave q end) q (λ sections. part (sections_bytes minor sections)) × HasEndCause told
    lookups end
    → BodyEnds minor found q told lookups giving (Ok done)
body_gave minor found q told lookups giving end done part cut failed both other h = (
  record {
    sections = h.0.sections;
    are = sent_then told (WalkGave q end) (IsBodyOf found q done) q h.0.sections h.0.sections
        (λ store e p. subst (λ (broke : Bool). IsBodyFor broke found q done.cut store h.0.sections) (sym failed)
        (subst (λ (cut : Bool). IsBodyFor (is_of_store end) found q cut store h.0.sections) (sym cut)
        (body_so found q end store h.0.sections p)))
        (λ all. all) h.0.are;
    is_done = subst (λ (bytes : List ℕ). Gives giving bytes) (sym (body_is minor q done.cut h.0.sections))
        (both (sections_bytes minor h.0.sections) h.0.is_done);
  },
  subst (λ (broke : Bool). HasCauseFor broke told lookups done.cut) (sym failed)
      (subst (λ (cut : Bool). HasCauseFor (is_of_store end) told lookups cut) (sym cut)
      (body_cause found told lookups end other h.1)),
)

-- or out failed in the end
fails_by : (broke : Bool) (minor : ℕ) (found : Bool) (q : QueryParts) (told : Option Store) (giving : Giving)
    (cut : Bool) (sections : List Section) → (broke ≡ true → cut ≡ true)
    → AreSent told (IsBodyFor broke found q cut) q sections → FailsIn giving (part_bytes minor
    (car_header q.root) ++ (sections_bytes minor sections ++ end_bytes minor cut))
    → HasFront minor found q told (FailsIn giving)
fails_by true minor found q told giving cut sections is_cut are fails =
    let none : end_bytes minor cut ≡ [] = ap (end_bytes minor) (is_cut refl) ∙ no_end (minor == 0) in
    record {
      bytes = part_bytes minor (car_header q.root) ++ sections_bytes minor sections;
      is_front = front_of_body minor found q told sections (body_behind found q told sections are);
      is_done = subst (λ (bytes : List ℕ). FailsIn giving (part_bytes minor (car_header q.root) ++ bytes))
          (ap (λ (end : List ℕ). sections_bytes minor sections ++ end) none
          ∙ append-nil (sections_bytes minor sections)) fails;
    }
fails_by false minor found q told giving cut sections is_cut are fails = record {
  bytes = part_bytes minor (car_header q.root) ++ (sections_bytes minor sections ++ end_bytes minor cut);
  is_front = record {
    cut = cut;
    sections = sections;
    are = are;
    rest = [];
    whole = body_is minor q cut sections ∙ sym (append-nil
        (part_bytes minor (car_header q.root) ++ (sections_bytes minor sections ++ end_bytes minor cut)));
  };
  is_done = fails;
}

pub body_fails : (minor : ℕ) (found : Bool) (q : QueryParts) (told : Option Store) (giving : Giving)
    (end : Option WalkFault) (cut : Bool) (part : List ℕ → Type 0)
    → cut ≡ cut_by found end
    → ((bytes : List ℕ) → part bytes → FailsIn giving (part_bytes minor
    (car_header q.root) ++ (bytes ++ end_bytes minor cut)))
    → HasSections told (WalkGave q end) q (λ sections. part (sections_bytes minor sections))
    → HasFront minor found q told (FailsIn giving)
body_fails minor found q told giving end cut part is both h =
    fails_by (is_of_store end) minor found q told giving cut h.sections (λ e. is ∙ cut_at_store found end e)
    (sent_then told (WalkGave q end) (IsBodyFor (is_of_store end) found q cut) q h.sections h.sections
    (λ store e p. subst (λ (cut : Bool). IsBodyFor (is_of_store end) found q cut store h.sections) (sym is)
    (body_so found q end store h.sections p)) (λ all. all) h.are)
    (both (sections_bytes minor h.sections) h.is_done)

-- ---- parts that are given one after another

-- out failed in the header
pub header_failed : {S : Type 0} (m : SinkMeaning S) (a b : S) (g0 g1 : List ℕ) (minor : ℕ) (found : Bool)
    (q : QueryParts) (told : Option Store) (header : List ℕ) → header ≡ car_header q.root
    → FailsIn (giving_in m g0 g1 a b) (part_bytes minor header) → HasFront minor found q told (FailsIn
    (giving_in m g0 g1 a b))
header_failed m a b g0 g1 minor found q told header is fails =
    front_header minor found q told (FailsIn (giving_in m g0 g1 a b))
    (fails_more m a b g0 g1 (part_bytes minor (car_header q.root)) [] (subst
    (λ (header : List ℕ). FailsIn (giving_in m g0 g1 a b) (part_bytes minor header)) is fails))

header_gave : {S : Type 0} (m : SinkMeaning S) (a b : S) (g0 g1 : List ℕ) (minor : ℕ) (q : QueryParts)
    (header : List ℕ) → header ≡ car_header q.root
    → Gives (giving_in m g0 g1 a b) (part_bytes minor header) → Gives (giving_in m g0 g1 a b) (part_bytes minor
    (car_header q.root))
header_gave m a b g0 g1 minor q header is gave = subst (λ (header : List ℕ). Gives (giving_in m g0 g1 a b)
    (part_bytes minor header)) is gave

-- the header was given, and then the walk wasn't followed to its end
pub sections_failed : {S : Type 0} (m : SinkMeaning S) (a b c : S) (g0 g1 g2 : List ℕ) (minor : ℕ) (found : Bool)
    (q : QueryParts) (told : Option Store) (lookups : Lookups) (header : List ℕ) (error : ReplyFault)
    → SinkJoins S m → header ≡ car_header q.root → Gives (giving_in m g0 g1 a b) (part_bytes minor header)
    → SectionsEnd minor q told lookups (giving_in m g1 g2 b c) (Err error)
    → BodyEnds minor found q told lookups (giving_in m g0 g2 a c) (Err error)
sections_failed m a b c g0 g1 g2 minor found q told lookups header faults.SinkFault joins is gave h =
    front_sections minor found q told (FailsIn (giving_in m g1 g2 b c)) (FailsIn (giving_in m g0 g2 a c))
    (λ bytes d. gives_fails m a b c g0 g1 g2 (part_bytes minor (car_header q.root)) bytes joins
    (header_gave m a b g0 g1 minor q header is gave) d) h
sections_failed m a b c g0 g1 g2 minor found q told lookups header faults.OutOfMemory joins is gave h = (
  front_sections minor found q told (Gives (giving_in m g1 g2 b c)) (Gives (giving_in m g0 g2 a c))
      (λ bytes d. gives_gives m a b c g0 g1 g2 (part_bytes minor (car_header q.root)) bytes joins
      (header_gave m a b g0 g1 minor q header is gave) d) h.0,
  h.1,
)

-- the header and the sections were given, and out failed in the end
pub end_failed : {S : Type 0} (m : SinkMeaning S) (a b c d : S) (g0 g1 g2 g3 : List ℕ) (minor : ℕ) (found : Bool)
    (q : QueryParts) (told : Option Store) (header : List ℕ) (end : Option WalkFault) (cut : Bool)
    → SinkJoins S m → header ≡ car_header q.root → Gives (giving_in m g0 g1 a b) (part_bytes minor header)
    → HasSections told (WalkGave q end) q (λ sections. Gives (giving_in m g1 g2 b c)
    (sections_bytes minor sections)) → cut ≡ cut_by found end
    → FailsIn (giving_in m g2 g3 c d) (end_bytes minor cut) → HasFront minor found q told (FailsIn
    (giving_in m g0 g3 a d))
end_failed m a b c d g0 g1 g2 g3 minor found q told header end cut joins is gave h cut_is fails =
    body_fails minor found q told (giving_in m g0 g3 a d) end cut (Gives (giving_in m g1 g2 b c)) cut_is
    (λ bytes p. gives_fails m a b d g0 g1 g3 (part_bytes minor (car_header q.root)) (bytes ++ end_bytes minor cut)
    joins (header_gave m a b g0 g1 minor q header is gave)
    (gives_fails m b c d g1 g2 g3 bytes (end_bytes minor cut) joins p fails)) h

-- and the end was given
pub parts_gave : {S : Type 0} (m : SinkMeaning S) (a b c d : S) (g0 g1 g2 g3 : List ℕ) (minor : ℕ) (found : Bool)
    (q : QueryParts) (told : Option Store) (lookups : Lookups) (header : List ℕ)
    (end : Option WalkFault) (done : BodyEnd)
    → SinkJoins S m → header ≡ car_header q.root → Gives (giving_in m g0 g1 a b) (part_bytes minor header)
    → SectionsEnd minor q told lookups (giving_in m g1 g2 b c) (Ok end)
    → end ≢ Some (walks.Store store_faults.OutOfMemory)
    → done.cut ≡ cut_by found end → done.failed ≡ is_of_store end
    → Gives (giving_in m g2 g3 c d) (end_bytes minor done.cut) → BodyEnds minor found q told lookups (giving_in m g0
    g3 a d) (Ok done)
parts_gave m a b c d g0 g1 g2 g3 minor found q told lookups header end done joins is gave h other cut failed last =
    body_gave minor found q told lookups (giving_in m g0 g3 a d) end done (Gives (giving_in m g1 g2 b c)) cut failed
    (λ bytes p. gives_gives m a b d g0 g1 g3 (part_bytes minor (car_header q.root))
    (bytes ++ end_bytes minor done.cut) joins (header_gave m a b g0 g1 minor q header is gave)
    (gives_gives m b c d g1 g2 g3 bytes (end_bytes minor done.cut) joins p last)) other h
