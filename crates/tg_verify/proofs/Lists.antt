-- The sections of a list, one by one.
use Rattle.std.proofs.Common.{inl, [], Err, List, None, Ok, Option, Some, ap, drop, get_or, inr, length, map, refl, subst, sym, take, ℕ, ◌+◌, ◌++◌, ◌<◌, ◌∙◌, ◌∷◌, ◌≡◌}
use Rattle.std.proofs.lemmas.List.{map-append, take-append-drop, take_more}
use Rattle.std.specs.Prelude.{MatchResult, Result}
use Rattle.tg_cid.specs.Cid.{CidParts}
use Rattle.tg_traversal.specs.Left.{WantedAt, tasks_left, wanted_tasks}
use Rattle.tg_model.specs.Dag.{Section}
use Rattle.tg_model.specs.LimitNumbers.{LimitNumbers}
use Rattle.tg_model.specs.Queries.{QueryParts}
use Rattle.tg_streams.specs.Joining.{SinkJoins, put_nothing, put_put}
use Rattle.tg_streams.specs.Streams.{Output, OutputQuiet, SinkMeaning, into}
use Rattle.tg_model_laws.specs.Stages.{nothing_given}
use Rattle.tg_model_laws.specs.Tasks.{Task, start}
use Rattle.tg_model_laws.specs.Verified.{VerifiedLaws}
use Rattle.tg_verify.proofs.Going.{going_through, going_up_to}
use Rattle.tg_verify.proofs.Sections.{is_going}
use Rattle.tg_verify.proofs.Turns.{cause_later}
use Rattle.tg_verify.specs.History.{AllEnd, HasPut, HasPutCause, HasWritten, StandsBy, StandsFor, section_of_pair}
use Rattle.tg_verify.specs.Refusals.{HasRefused}
use Rattle.tg_verify.specs.State.{VerifierState, cid_wanted, next_cid}
use Rattle.tg_verify.specs.Steps.{section_with}
use Rattle.tg_verify.specs.Taken.{IsGoing, IsThrough, IsUpTo, IsWritten, IsWrittenAt, most_text}
use Rattle.tg_verify.specs.declared.fault.Refusal.{Refusal}
use Rattle.tg_verify.specs.declared.fault.Refusal.TheVariants as refusals
use Rattle.tg_verify.specs.declared.verifier.Progress.{Progress}

-- the verifier took these sections
pub record AreTaken (q : QueryParts) (limits : LimitNumbers) (state : VerifierState) (sections : List Section) (out : Output) : Type 0 where
  pub query : state.left.query ≡ q
  pub limits_are : state.limits ≡ limits
  pub fresh : state.refused ≡ None
  pub quiet : OutputQuiet out
  pub stands : HasPut out (λ text. IsGoing state sections text)

-- what `section` says
pub record SectionSays (old : VerifierState) (section : Section) (out : Output) (new : VerifierState) (result : Result Progress Refusal) : Type 0 where
  pub query : new.left.query ≡ old.left.query
  pub limits_are : new.limits ≡ old.limits
  pub stands : (sections : List Section) (written : List ℕ) → old.refused ≡ None → StandsFor old sections written → HasWritten new (sections ++ section ∷ []) written out result
  pub cause : old.refused ≡ None → HasPutCause result out
  pub refused : MatchResult result (λ _. new.refused ≡ None) (λ fault. new.refused ≡ Some fault)

stands_going : (state : VerifierState) (sections : List Section) (written : List ℕ) → state.refused ≡ None → IsGoing state sections written → StandsFor state sections written
stands_going state sections written e h = subst (λ (r : Option Refusal). StandsBy r state sections written) (sym e) h

-- ---- a front of the list, and want of memory behind it

going_front_by : (state : VerifierState) (sections : List Section) (written : List ℕ) (h : IsGoing state sections written) (wanted : Option WantedAt) → IsWrittenAt state h.given written wanted
    → most_text state.left.query h.given (wanted_tasks wanted ++ state.left.later) ≡ written
going_front_by state sections written h (Some at) (text, names) = sym text
going_front_by state sections written h None (later, text) =
    ap (λ (tasks : List (Task CidParts)). most_text state.left.query h.given tasks) later ∙ sym text

going_written : (state : VerifierState) (sections : List Section) (written : List ℕ) → IsGoing state sections written → IsWritten state.left.query sections written
going_written state sections written h = record {
  given = h.given;
  tasks = tasks_left state.left;
  verified = h.verified;
  text = sym (going_front_by state sections written h state.left.wanted h.writes);
}

-- before the first
pub wants_at_start : (v : VerifiedLaws) {S : Type 0} (m : SinkMeaning S) (a : S) (q : QueryParts) (limits : LimitNumbers) (all : List Section) → m.wrote a a []
    → AllEnd q limits all (into m a a) (Err refusals.OutOfMemory)
wants_at_start v {S} m a q limits all rests = (
  record {
    text = [];
    put = put_nothing S m a rests;
    is_so = record {
      front = [];
      rest = all;
      whole = refl;
      refused = inr (record { given = nothing_given; tasks = start q q.root; verified = v.start q; text = refl });
    };
  },
  refl,
)

module _ (q : QueryParts) (limits : LimitNumbers) where
  pub wants_behind : (state : VerifierState) (front rest all : List Section) (out : Output) → all ≡ front ++ rest → AreTaken q limits state front out
      → AllEnd q limits all out (Err refusals.OutOfMemory)
  wants_behind state front rest all out whole h =
      let p = h.stands in (
        record {
          text = p.text;
          put = p.put;
          is_so = record { front = front; rest = rest; whole = whole; refused = inr (subst (λ (q : QueryParts). IsWritten q front p.text) h.query (going_written state front p.text p.is_so)) };
        },
        h.quiet,
      )

  -- ---- the end of the list

  ends_by : (state : VerifierState) (all : List Section) (out : Output) (wanted : Option WantedAt) → state.left.wanted ≡ wanted → AreTaken q limits state all out
      → AllEnd q limits all out (Ok (cid_wanted wanted))
  ends_by state all out None e h =
      let p = h.stands in
      (record { text = p.text; put = p.put; is_so = subst (λ (l : LimitNumbers). IsThrough q l all p.text) h.limits_are (subst (λ (q : QueryParts). IsThrough q state.limits all p.text) h.query (going_through state all p.text p.is_so e)) }, h.quiet)
  ends_by state all out (Some at) e h =
      let p = h.stands in
      (record { text = p.text; put = p.put; is_so = (at, refl, subst (λ (l : LimitNumbers). IsUpTo q l all p.text at) h.limits_are (subst (λ (q : QueryParts). IsUpTo q state.limits all p.text at) h.query (going_up_to state all p.text p.is_so at e))) }, h.quiet)

  pub ends_all : (state : VerifierState) (all : List Section) (out : Output) (want : Option CidParts) → want ≡ next_cid state.refused state.left.wanted → AreTaken q limits state all out
      → AllEnd q limits all out (Ok want)
  ends_all state all out want e h =
      let is_next : want ≡ cid_wanted state.left.wanted = e ∙ ap (λ (r : Option Refusal). next_cid r state.left.wanted) h.fresh in
      subst (λ (w : Option CidParts). AllEnd q limits all out (Ok w)) (sym is_next) (ends_by state all out state.left.wanted refl h)

  -- ---- a section

  module _ {S : Type 0} (m : SinkMeaning S) (joins : SinkJoins S m) (a b c : S) (old new : VerifierState) (front : List Section) (section : Section) (h : AreTaken q limits old front (into m a b)) where
    written_more : (result : Result Progress Refusal) → SectionSays old section (into m b c) new result → (p : HasPut (into m a b) (λ text. IsGoing old front text))
        → HasWritten new (front ++ section ∷ []) p.text (into m b c) result
    written_more result says p = says.stands front p.text h.fresh (stands_going old front p.text h.fresh p.is_so)

    pub takes_one : (progress : Progress) → SectionSays old section (into m b c) new (Ok progress) → AreTaken q limits new (front ++ section ∷ []) (into m a c)
    takes_one progress says = record {
      query = says.query ∙ h.query;
      limits_are = says.limits_are ∙ h.limits_are;
      fresh = says.refused;
      quiet = says.cause h.fresh ∙ h.quiet;
      stands =
          let p = h.stands in
          let w = written_more (Ok progress) says p in
          record { text = p.text ++ w.text; put = put_put S m a b c p.text w.text joins p.put w.put; is_so = is_going new (front ++ section ∷ []) (p.text ++ w.text) says.refused w.stands };
    }

    pub stops_at : (fault : Refusal) (rest all : List Section) → all ≡ (front ++ section ∷ []) ++ rest → SectionSays old section (into m b c) new (Err fault)
        → AllEnd q limits all (into m a c) (Err fault)
    stops_at fault rest all whole says =
        let p = h.stands in
        let w = written_more (Err fault) says p in
        let text = p.text ++ w.text in
        let refused : HasRefused new.left.query new.limits (front ++ section ∷ []) text fault =
        subst (λ (r : Option Refusal). StandsBy r new (front ++ section ∷ []) text) says.refused w.stands in (
          record {
            text = text;
            put = put_put S m a b c p.text w.text joins p.put w.put;
            is_so = record {
              front = front ++ section ∷ [];
              rest = rest;
              whole = whole;
              refused = inl (subst (λ (q : QueryParts). HasRefused q limits (front ++ section ∷ []) text fault) (says.query ∙ h.query)
                  (subst (λ (l : LimitNumbers). HasRefused new.left.query l (front ++ section ∷ []) text fault) (says.limits_are ∙ h.limits_are) refused));
            };
          },
          cause_later m a b c (Err fault) h.quiet (says.cause h.fresh),
        )

-- ---- before the first of them

-- what `start` says
pub record StartSays (old : VerifierState) (out : Output) (new : VerifierState) (result : Result Progress Refusal) : Type 0 where
  pub query : new.left.query ≡ old.left.query
  pub limits_are : new.limits ≡ old.limits
  pub stands : HasWritten new [] [] out result
  pub cause : HasPutCause result out
  pub refused : MatchResult result (λ _. new.refused ≡ None) (λ fault. new.refused ≡ Some fault)

pub none_yet : (old new : VerifierState) (out : Output) (progress : Progress) → StartSays old out new (Ok progress) → AreTaken old.left.query old.limits new [] out
none_yet old new out progress says =
    let w = says.stands in
    record {
      query = says.query;
      limits_are = says.limits_are;
      fresh = says.refused;
      quiet = says.cause;
      stands = record { text = w.text; put = w.put; is_so = is_going new [] w.text says.refused w.stands };
    }

pub stops_first : (old new : VerifierState) (out : Output) (fault : Refusal) (all : List Section) → StartSays old out new (Err fault) → AllEnd old.left.query old.limits all out (Err fault)
stops_first old new out fault all says =
    let w = says.stands in
    let refused : HasRefused new.left.query new.limits [] w.text fault = subst (λ (r : Option Refusal). StandsBy r new [] w.text) says.refused w.stands in (
      record {
        text = w.text;
        put = w.put;
        is_so = record {
          front = [];
          rest = all;
          whole = refl;
          refused = inl (subst (λ (q : QueryParts). HasRefused q old.limits [] w.text fault) says.query
              (subst (λ (l : LimitNumbers). HasRefused new.left.query l [] w.text fault) says.limits_are refused));
        };
      },
      says.cause,
    )

-- ---- CIDs and blocks as sections

pub split_at : (i : ℕ) (pairs : List (CidParts × List ℕ)) → map section_of_pair pairs ≡ map section_of_pair (take i pairs) ++ map section_of_pair (drop i pairs)
split_at i pairs = ap (λ (ps : List (CidParts × List ℕ)). map section_of_pair ps) (sym (take-append-drop i pairs)) ∙ map-append section_of_pair (take i pairs) (drop i pairs)

-- with the pair at this place, of which the block is a copy
module _ (pairs items : List (CidParts × List ℕ)) (i : ℕ) (pair : CidParts × List ℕ) (slice block : List ℕ) (same : items ≡ pairs) (less : i < length items) (is : pair ≡ get_or items i pair)
    (slice_is : slice ≡ pair.1) (block_is : block ≡ slice) where
  pub front_more : map section_of_pair (take i pairs) ++ section_with pair.0 block ∷ [] ≡ map section_of_pair (take (i + 1) pairs)
  front_more =
      let here : section_with pair.0 block ≡ section_of_pair (get_or pairs i pair) =
      ap (λ (b : List ℕ). section_with pair.0 b) (block_is ∙ slice_is) ∙ ap section_of_pair (is ∙ ap (λ (ps : List (CidParts × List ℕ)). get_or ps i pair) same) in
      let fits : i < length pairs = subst (λ (ps : List (CidParts × List ℕ)). i < length ps) same less in
      ap (λ (s : Section). map section_of_pair (take i pairs) ++ s ∷ []) here
      ∙ sym (map-append section_of_pair (take i pairs) (get_or pairs i pair ∷ []))
      ∙ ap (λ (ps : List (CidParts × List ℕ)). map section_of_pair ps) (sym (take_more pairs i pair fits))

  pub split_behind : map section_of_pair pairs ≡ (map section_of_pair (take i pairs) ++ section_with pair.0 block ∷ []) ++ map section_of_pair (drop (i + 1) pairs)
  split_behind = split_at (i + 1) pairs ∙ ap (λ (front : List Section). front ++ map section_of_pair (drop (i + 1) pairs)) (sym front_more)
