-- What a body's verifier tells of the query's path.
use Rattle.std.proofs.Common.{◌≡◌, ℕ, List, [], ◌∷◌, ◌++◌, ◌∙◌, drop, take, Option, Some, None, refl, ap, sym, subst, append-nil, append_assoc}
use Rattle.std.proofs.lemmas.List.{take-append-drop}
use Rattle.std.specs.Prelude.{IfSome, ◌≢◌}
use Rattle.tg_car.specs.History.{GoesOn}
use Rattle.tg_car.specs.State.{ReaderState, StandsFor}
use Rattle.tg_car.specs.declared.event.Event.{Event}
use Rattle.tg_car.specs.declared.event.Event.TheVariants as events
use Rattle.tg_car.specs.declared.section.Section.{Section as CarSection}
use Rattle.tg_cid.specs.Cid.{CidParts}
use Rattle.tg_model.specs.Dag.{Section}
use Rattle.tg_model.specs.LimitNumbers.{LimitNumbers}
use Rattle.tg_model.specs.Queries.{QueryParts}
use Rattle.tg_model.specs.declared.queries.Scope.{Scope}
use Rattle.tg_model.specs.declared.queries.Scope.TheVariants as scopes
use Rattle.tg_model_laws.specs.Stages.{Given}
use Rattle.tg_model_laws.specs.Tasks.{Task}
use Rattle.tg_streams.specs.Streams.{Output}
use Rattle.tg_traversal.specs.Left.{WantedAt, tasks_left, wanted_tasks}
use Rattle.tg_verify.specs.Laws.{AnswerLaws}
use Rattle.tg_verify.specs.State.{VerifierState}
use Rattle.tg_verify.specs.Taken.{IsGoing, IsWrittenAt}
use Rattle.tg_verify.specs.Terminals.{AreOnPath, IsTerminalBy, IsTerminalIn, IsTerminalTold, IsToldIn, TerminalsTold}
use Rattle.tg_verify.specs.declared.terminal.Terminal.{Terminal}
use Rattle.tg_client.specs.Body.{IsBody, IsBodyAt, going_on}
use Rattle.tg_client.specs.Received.{HasReceived, out_of_car}
use Rattle.tg_client.specs.ReceivedLaws.{ReceivedLaws}
use Rattle.tg_client.specs.Telling.{BodyTells, IsTerminalHeard}
use Rattle.tg_client.specs.declared.body.CarBody.{CarBody}
use Rattle.tg_client.proofs.Going.{car_behind, is_received}
use Rattle.tg_client.proofs.Stepping.{reads_header, received_then}

-- ---- it is so

told_by : TerminalsTold → (q : QueryParts) (sections : List Section) (given : Given) (tasks : List (Task CidParts)) (t : Option Terminal) → IsTerminalBy q sections given tasks t → IsTerminalTold q sections t
told_by laws q sections given tasks None h = tt
told_by laws q sections given tasks (Some t) h = laws q sections t h

told_in : TerminalsTold → (scope : Scope) (q : QueryParts) (sections : List Section) (given : Given) (tasks : List (Task CidParts)) (t : Option Terminal) → IsTerminalIn scope q sections given tasks t
    → IsTerminalTold q sections t
told_in laws scopes.Block q sections given tasks t none = subst (λ (o : Option Terminal). IsTerminalTold q sections o) (sym none) tt
told_in laws scopes.Entity q sections given tasks t h = told_by laws q sections given tasks t h
told_in laws scopes.All q sections given tasks t h = told_by laws q sections given tasks t h

told_at : TerminalsTold → (body : CarBody) (given : List Event) (sections : List Section) (written : List ℕ) → IsBodyAt body given sections written
    → IsTerminalTold body.verifier.left.query sections body.verifier.terminal
told_at laws body [] sections written (fresh, none) = subst (λ (o : Option Terminal). IsTerminalTold body.verifier.left.query sections o) (sym fresh.terminal) tt
told_at laws body (event ∷ given) sections written going =
    told_in laws body.verifier.left.query.scope body.verifier.left.query sections going.given (tasks_left body.verifier.left) body.verifier.terminal going.terminal

heard_so : TerminalsTold → (body : CarBody) (heard : List ℕ) (sections : List Section) (written : List ℕ) → IsBody body heard sections written
    → IsTerminalHeard body.verifier.left.query body.verifier.limits heard body.verifier.terminal
heard_so laws body heard sections written h = record {
  heard = heard;
  unheard = [];
  whole = sym (append-nil heard);
  sections = sections;
  received = is_received body heard sections written h;
  told = told_at laws body h.given sections written h.at;
}

-- ---- once no block is wanted

all_by : (q : QueryParts) (sections : List Section) (given : Given) (tasks : List (Task CidParts)) (t : Option Terminal) → tasks ≡ [] → IsTerminalBy q sections given tasks t → t ≢ None
all_by q sections given tasks (Some t) none h = λ e. absurd (cc e)
all_by q sections given tasks None none h = λ e. subst (λ (l : List (Task CidParts)). AreOnPath l) none h.1

all_in : (scope : Scope) (q : QueryParts) (sections : List Section) (given : Given) (tasks : List (Task CidParts)) (t : Option Terminal) → tasks ≡ [] → IsTerminalIn scope q sections given tasks t
    → IsToldIn scope t
all_in scopes.Block q sections given tasks t none h = tt
all_in scopes.Entity q sections given tasks t none h = all_by q sections given tasks t none h
all_in scopes.All q sections given tasks t none h = all_by q sections given tasks t none h

all_going : (state : VerifierState) (sections : List Section) (written : List ℕ) → IsGoing state sections written → state.left.wanted ≡ None → IsToldIn state.left.query.scope state.terminal
all_going state sections written h none =
    let writes = subst (λ (w : Option WantedAt). IsWrittenAt state h.given written w) none h.writes in
    let tasks = ap (λ (w : Option WantedAt). wanted_tasks w ++ state.left.later) none ∙ writes.0 in
    all_in state.left.query.scope state.left.query sections h.given _ state.terminal tasks h.terminal

pub body_tells : TerminalsTold → BodyTells
body_tells laws body heard sections written h = record {
  so = heard_so laws body heard sections written h;
  all = λ none. all_going body.verifier sections written (car_behind body heard sections written h none).0 none;
}

-- ---- with more bytes

heard_more : (q : QueryParts) (limits : LimitNumbers) (bytes more : List ℕ) (t : Option Terminal) → IsTerminalHeard q limits bytes t → IsTerminalHeard q limits (bytes ++ more) t
heard_more q limits bytes more t h = record {
  heard = h.heard;
  unheard = h.unheard ++ more;
  whole = ap (λ (l : List ℕ). l ++ more) h.whole ∙ append_assoc h.heard h.unheard more;
  sections = h.sections;
  received = h.received;
  told = h.told;
}

-- of which nothing was taken, or nothing whole
pub heard_still : BodyTells → (body : CarBody) (heard piece : List ℕ) (sections : List Section) (written : List ℕ) → IsBody body heard sections written
    → IsTerminalHeard body.verifier.left.query body.verifier.limits (heard ++ piece) body.verifier.terminal
heard_still laws body heard piece sections written h =
    heard_more body.verifier.left.query body.verifier.limits heard piece body.verifier.terminal (laws body heard sections written h).so

-- of the same query, with the same bytes
pub heard_as : (q r : QueryParts) (limits others : LimitNumbers) (bytes all : List ℕ) (t : Option Terminal) → q ≡ r → limits ≡ others → bytes ≡ all → IsTerminalHeard q limits bytes t
    → IsTerminalHeard r others all t
heard_as q r limits others bytes all t same_query same_limits same h =
    subst (λ (q : QueryParts). IsTerminalHeard q others all t) same_query
    (subst (λ (l : LimitNumbers). IsTerminalHeard q l all t) same_limits (subst (λ (l : List ℕ). IsTerminalHeard q limits l t) same h))

-- what is told stays
pub told_stays : (t : Option Terminal) → IfSome t (λ told. t ≡ Some told)
told_stays None = tt
told_stays (Some t) = refl

pub told_further : (a b c : Option Terminal) → IfSome a (λ t. b ≡ Some t) → IfSome b (λ t. c ≡ Some t) → IfSome a (λ t. c ≡ Some t)
told_further None b c first next = tt
told_further (Some t) b c first next = subst (λ (o : Option Terminal). IfSome o (λ t. c ≡ Some t)) first next

-- ---- with the header, or with a section

module _ (laws : AnswerLaws) (body : CarBody) (heard : List ℕ) (sections : List Section) (written : List ℕ) (h : IsBody body heard sections written) (received : ReceivedLaws) (reader : ReaderState)
    (verifier : VerifierState) (piece : List ℕ) (taken : ℕ) (out : Output) (limit : reader.limit ≡ body.reader.limit) (same_query : verifier.left.query ≡ body.verifier.left.query)
    (same_limits : verifier.limits ≡ body.verifier.limits) where
  heard_then : (all : List Section) → HasReceived body.verifier.limits.block (heard ++ take taken piece) all → IsTerminalTold verifier.left.query all verifier.terminal
      → IsTerminalHeard body.verifier.left.query body.verifier.limits (heard ++ piece) verifier.terminal
  heard_then all whole told = record {
    heard = heard ++ take taken piece;
    unheard = drop taken piece;
    whole = ap (λ (l : List ℕ). heard ++ l) (sym (take-append-drop taken piece)) ∙ sym (append_assoc heard (take taken piece) (drop taken piece));
    sections = all;
    received = whole;
    told = subst (λ (q : QueryParts). IsTerminalTold q all verifier.terminal) same_query told;
  }

  pub heard_header : (header : List ℕ) → StandsFor reader (going_on (heard ++ take taken piece) (h.given ++ events.Header header ∷ [])) → IsTerminalTold verifier.left.query [] verifier.terminal
      → IsTerminalHeard body.verifier.left.query body.verifier.limits (heard ++ piece) verifier.terminal
  heard_header header reads told =
      let here = reads_header laws body heard sections written h received reader verifier piece taken header out reads limit same_query same_limits in
      heard_then [] (record {
        given = events.Header header ∷ [];
        goes_on = subst (λ (n : ℕ). GoesOn n (heard ++ take taken piece) (events.Header header ∷ [])) (limit ∙ h.limit) here.exact.goes_on;
        sections_are = refl;
      }) told

  pub heard_section : (at size : ℕ) (section : CarSection) → StandsFor reader (going_on (heard ++ take taken piece) (h.given ++ events.Section at size section ∷ []))
      → IsTerminalTold verifier.left.query (sections ++ out_of_car section ∷ []) verifier.terminal → IsTerminalHeard body.verifier.left.query body.verifier.limits (heard ++ piece) verifier.terminal
  heard_section at size section reads told =
      heard_then (sections ++ out_of_car section ∷ [])
      (received_then laws body heard sections written h received reader verifier piece taken at size section out reads limit same_query same_limits) told
