-- What is told that the path leads to, by what was heard.
use Rattle.std.proofs.Common.{rules, arith, false, true, ◌≡◌, ℕ, List, [], ◌∷◌, ◌++◌, ◌∙◌, Option, Some, None, Ok, ap, append-nil, append_assoc, inl, inr, refl, subst, sym, take, drop}
use Rattle.std.proofs.lemmas.List.{take-append-drop}
use Rattle.std.specs.Prelude.{IfSome, ◌≢◌}
use Rattle.tg_body.specs.Bodies.{BodyFront}
use Rattle.tg_body.specs.State.{StandsFor}
use Rattle.tg_body.specs.declared.reader.BodyReader.{BodyReader}
use Rattle.tg_car.specs.CarText.{header_map}
use Rattle.tg_car.specs.Fronts.{IsInHeader}
use Rattle.tg_car.specs.History.{GoesOn}
use Rattle.tg_car.specs.declared.event.Event.{Event}
use Rattle.tg_cid.specs.Cid.{CidParts}
use Rattle.tg_client.specs.Body.{BodyStands, HasEnded, IsBody, IsBodyAt}
use Rattle.tg_client.specs.Ends.{IsAccepted, IsWaiting}
use Rattle.tg_client.specs.ReceivedLaws.{ReceivedLaws}
use Rattle.tg_client.specs.Telling.{BodyTells, IsTerminalHeard}
use Rattle.tg_client.specs.declared.body.CarBody.{CarBody}
use Rattle.tg_fetch.proofs.Contents.{front_by}
use Rattle.tg_fetch.proofs.Taking.{no_header}
use Rattle.tg_fetch.specs.Bodies.{IsTaking, IsTakingAnswer}
use Rattle.tg_fetch.specs.HeadsStates.{HeadsState}
use Rattle.tg_fetch.specs.Received.{AreReceived, HasBody, IsOfBody, block, car, carried, none}
use Rattle.tg_fetch.specs.Replies.{IsInContent}
use Rattle.tg_fetch.specs.Telling.{IsTerminalReceived, IsToldBy, Tells, terminal_at, terminal_in, terminal_of}
use Rattle.tg_fetch.specs.declared.client.Client.{Client}
use Rattle.tg_fetch.specs.declared.client.Stage.TheVariants as stages
use Rattle.tg_fetch.specs.declared.client.Stage.{Stage}
use Rattle.tg_fetch.specs.declared.content.Content.{Content}
use Rattle.tg_fetch.specs.declared.fault.FetchFault.{FetchFault}
use Rattle.tg_fetch.specs.declared.sections.Sections.TheVariants as takings
use Rattle.tg_fetch.specs.declared.sections.Sections.{Sections}
use Rattle.tg_heard.specs.FinalHeads.{FinalHead}
use Rattle.tg_heard.specs.FrontLaws.{HeadLaws}
use Rattle.tg_heard.specs.Got.{IsTakenHead}
use Rattle.tg_http.specs.declared.framing.Framing.{Framing}
use Rattle.tg_http.specs.declared.reply.ReplyHead.{ReplyHead}
use Rattle.tg_model.specs.Dag.{Section}
use Rattle.tg_model.specs.LimitNumbers.{LimitNumbers}
use Rattle.tg_model.specs.Queries.{QueryParts}
use Rattle.tg_model.specs.Traversal.{is_sent_behind}
use Rattle.tg_model_laws.specs.Tasks.{Task, open_block}
use Rattle.tg_model_laws.specs.Verified.{AreSettled, VerifiedLaws}
use Rattle.tg_traversal.specs.Left.{WantedAt}
use Rattle.tg_verify.specs.Taken.{IsUpTo}
use Rattle.tg_verify.specs.Terminals.{IsToldIn}
use Rattle.tg_verify.specs.declared.terminal.Terminal.{Terminal}

-- ---- with more bytes behind them

body_more : (heard tail : List ℕ) (q : QueryParts) (head : ReplyHead) (rest : List ℕ) → HasBody heard q head rest → HasBody (heard ++ tail) q head rest
body_more heard tail q head rest b = record {
  front = b.front;
  more = b.more ++ tail;
  whole = ap (λ (l : List ℕ). l ++ tail) b.whole ∙ append_assoc b.front b.more tail;
  final = b.final;
  is_taken = b.is_taken;
}

received_more : (limit : ℕ) (heard tail : List ℕ) (q : QueryParts) (sections : List Section) → AreReceived limit heard q sections → AreReceived limit (heard ++ tail) q sections
received_more limit heard tail q sections (none e) = none e
received_more limit heard tail q sections (car head rest given front behind b come whole r) = car head rest given front behind (body_more heard tail q head rest b) come whole r
received_more limit heard tail q sections (block head rest given b form whole e) = block head rest given (body_more heard tail q head rest b) form whole e
received_more limit heard tail q sections (carried front more ended whole c) =
    carried front (more ++ tail) ended (ap (λ (l : List ℕ). l ++ tail) whole ∙ append_assoc front more tail) c

pub so_more : (q : QueryParts) (limits : LimitNumbers) (heard tail : List ℕ) (t : Option Terminal) → IsTerminalReceived q limits heard t → IsTerminalReceived q limits (heard ++ tail) t
so_more q limits heard tail t i = record { sections = i.sections; received = received_more limits.block heard tail q i.sections i.received; told = i.told }

-- where a front of them was taken
pub so_behind : (q : QueryParts) (limits : LimitNumbers) (heard bytes : List ℕ) (taken : ℕ) (t : Option Terminal) → IsTerminalReceived q limits (heard ++ take taken bytes) t
    → IsTerminalReceived q limits (heard ++ bytes) t
so_behind q limits heard bytes taken t i =
    subst (λ (l : List ℕ). IsTerminalReceived q limits l t)
    (append_assoc heard (take taken bytes) (drop taken bytes) ∙ ap (λ (l : List ℕ). heard ++ l) (take-append-drop taken bytes))
    (so_more q limits (heard ++ take taken bytes) (drop taken bytes) t i)

-- nothing is told
pub so_untold : (q : QueryParts) (limits : LimitNumbers) (heard : List ℕ) (t : Option Terminal) → t ≡ None → IsTerminalReceived q limits heard t
so_untold q limits heard t e =
    subst (λ (o : Option Terminal). IsTerminalReceived q limits heard o) (sym e) (record { sections = []; received = none refl; told = tt })

-- what was told stays
pub told_stays : (t : Option Terminal) → IfSome t (λ told. t ≡ Some told)
told_stays None = tt
told_stays (Some t) = refl

pub told_on : (old mid new : Option Terminal) → IfSome old (λ told. mid ≡ Some told) → IfSome mid (λ told. new ≡ Some told) → IfSome old (λ told. new ≡ Some told)
told_on None mid new a b = tt
told_on (Some t) mid new a b = subst (λ (o : Option Terminal). IfSome o (λ told. new ≡ Some told)) a b

-- ---- a body

pub taken_head : (q : QueryParts) (limits : LimitNumbers) (head : ReplyHead) (sections : Sections) (given written : List ℕ) → IsTaking q limits head sections given written → IsTakenHead q head
taken_head q limits head (takings.Answer body) given written t = inl t.is_head
taken_head q limits head (takings.Absence body) given written t = inr t.0.is_head
taken_head q limits head (takings.Block raw) given written t = inl t.0.is_head

-- what the verifier of a body tells, in a reply
pub so_received : (q : QueryParts) (limits : LimitNumbers) (heard : List ℕ) (head : ReplyHead) (rest given : List ℕ) (t : Option Terminal) → FinalHead heard head rest → IsTakenHead q head
    → IsOfBody head.framing given rest → IsTerminalHeard q limits given t → IsTerminalReceived q limits heard t
so_received q limits heard head rest given t final taken come i = record {
  sections = i.sections;
  received = car head rest given i.heard i.unheard (record { front = heard; more = []; whole = sym (append-nil heard); final = final; is_taken = taken }) come i.whole i.received;
  told = i.told;
}

-- for its query and limits
pub heard_by_its : (q p : QueryParts) (limits most : LimitNumbers) (given : List ℕ) (t : Option Terminal) → p ≡ q → most ≡ limits → IsTerminalHeard p most given t → IsTerminalHeard q limits given t
heard_by_its q p limits most given t same same_limits i =
    subst (λ (n : LimitNumbers). IsTerminalHeard q n given t) same_limits (subst (λ (a : QueryParts). IsTerminalHeard a most given t) same i)

-- of a value that stands
module _ (tells : BodyTells) (q : QueryParts) (limits : LimitNumbers) where
  in_answer : (head : ReplyHead) (body : CarBody) (given written : List ℕ) → IsTakingAnswer q limits head body given written → IsTerminalHeard q limits given body.verifier.terminal
  in_answer head body given written t =
      heard_by_its q body.verifier.left.query limits body.verifier.limits given body.verifier.terminal t.query t.limits_are (tells body given t.sections written t.is_body).so

  module _ (heard : List ℕ) (head : ReplyHead) (rest : List ℕ) (final : FinalHead heard head rest) (given : List ℕ) (come : IsOfBody head.framing given rest) (written : List ℕ) where
    so_taking : (sections : Sections) → IsTaking q limits head sections given written → IsTerminalReceived q limits heard (terminal_in sections)
    so_taking (takings.Answer body) t =
        so_received q limits heard head rest given body.verifier.terminal final (inl t.is_head) come (in_answer head body given written t)
    so_taking (takings.Absence body) t = so_untold q limits heard None refl
    so_taking (takings.Block raw) t = so_untold q limits heard None refl

  pub so_content : (content : Content) (heard written : List ℕ) → IsInContent q limits content heard written → IsTerminalReceived q limits heard (terminal_in content.sections)
  so_content content heard written h =
      so_taking heard h.head h.rest h.final h.given (inl (subst (λ (f : Framing). BodyFront f h.given h.rest) h.framing h.reads.exact.so_far)) written content.sections h.taking

-- a part of it was taken
pub so_part : HeadLaws → (q : QueryParts) (limits : LimitNumbers) (old : Content) (heard written : List ℕ) (h : IsInContent q limits old heard written) (reader : BodyReader) (given front : List ℕ)
    (t : Option Terminal) → reader.framing ≡ old.reader.framing → StandsFor reader (record { fed = h.rest ++ front; given = given; ended = false; stop = None }) → IsTerminalHeard q limits given t
    → IsTerminalReceived q limits (heard ++ front) t
so_part heads q limits old heard written h reader given front t same reads i =
    so_received q limits (heard ++ front) h.head (h.rest ++ front) given t (heads.final_stays heard front h.rest h.head h.final)
    (taken_head q limits h.head old.sections h.given written h.taking) (inl (front_by q limits old heard written h reader given (h.rest ++ front) same reads)) i

-- ---- a body of which nothing came

module _ (body : CarBody) (sections : List Section) (written : List ℕ) where
  untold_at : (given : List Event) → GoesOn body.reader.limit [] given → IsBodyAt body given sections written → body.verifier.terminal ≡ None
  untold_at [] goes at = at.0.terminal
  untold_at (event ∷ given) (inl before) at = let none_given = before.nothing_given in absurd (let no : ⊥ = cc in no)
  untold_at (event ∷ given) (inr (rest, among)) at =
      let r = among.reaches in
      let text = r.header_is in
      absurd (no_header text.size _ _ (r.done ++ rest) (subst (λ (l : List ℕ). [] ≡ l ++ (r.done ++ rest)) text.whole r.whole))

  untold_first : IsBody body [] sections written → body.verifier.terminal ≡ None
  untold_first h = untold_at h.given h.reads.exact.goes_on h.at

pub untold_fresh : (q : QueryParts) (limits : LimitNumbers) (head : ReplyHead) (sections : Sections) (written : List ℕ) → IsTaking q limits head sections [] written → terminal_in sections ≡ None
untold_fresh q limits head (takings.Answer body) written t = untold_first body t.sections written t.is_body
untold_fresh q limits head (takings.Absence body) written t = refl
untold_fresh q limits head (takings.Block raw) written t = refl

-- ---- a CAR of which all came

-- behind sections that are all of the query's no block is wanted
module _ (verified : VerifiedLaws) (received : ReceivedLaws) (q : QueryParts) (limits : LimitNumbers) (heard : List ℕ) (sections : List Section) (text : List ℕ) (a : IsAccepted q limits heard sections text) where
  settled : (at : WantedAt) (later : List (Task CidParts)) → is_sent_behind q sections at.cid ≡ true → AreSettled q sections (open_block at.want at.cid ∷ later)
  settled at later sends w cid more e = let same : at.cid ≡ cid = cc e in subst (λ (c : CidParts). is_sent_behind q sections c ≡ true) same sends

  not_up_to : (written : List ℕ) (at : WantedAt) → IsUpTo q limits sections written at → ⊥
  not_up_to written at h =
      let f = verified.fits q sections a.through.given a.through.verified in
      let e = (verified.fitting_ends q f.s sections _ h.given (open_block at.want at.cid ∷ h.later) (settled at h.later h.sends) f.fits h.verified).0 in
      cc e

  not_waiting : (written : List ℕ) → IsWaiting q limits heard sections written → ⊥
  not_waiting written (inl early) = received.headed limits.block sections heard [] heard a.is_car (sym (append-nil heard)) early.goes_on
  not_waiting written (inr (at, h, header)) = not_up_to written at h

none_by : (wanted : Option WantedAt) → (wanted ≢ None → ⊥) → wanted ≡ None
none_by None some = refl
none_by (Some at) some = absurd (some (λ (e : Some at ≡ None). let no : ⊥ = cc e in no))

pub all_told : (verified : VerifiedLaws) (received : ReceivedLaws) (stands : BodyStands) (tells : BodyTells) (q : QueryParts) (limits : LimitNumbers) (head : ReplyHead) (body : CarBody) (given written : List ℕ)
    (t : IsTakingAnswer q limits head body given written) → HasEnded body.verifier.left.query body.verifier.limits given t.sections written (Ok tt) → IsToldIn q.scope body.verifier.terminal
all_told verified received stands tells q limits head body given written t e =
    let s = stands body given t.sections written t.is_body in
    let none = none_by body.verifier.left.wanted
    (λ some. not_waiting verified received body.verifier.left.query body.verifier.limits given t.sections written e.ends written (s.waits some)) in
    subst (λ (a : QueryParts). IsToldIn a.scope body.verifier.terminal) t.query ((tells body given t.sections written t.is_body).all none)

-- ---- nothing came of a CAR

-- of a header no byte came
before_header : IsInHeader []
before_header = record {
  roots = [];
  more = 17 ∷ header_map [];
  not_whole = omega arith;
  text = record {
    few = omega arith;
    each = search rules;
    size = 17 ∷ [];
    size_is = record {
      front = [];
      last = 17;
      whole = refl;
      are_bytes = search rules;
      goes_on = search rules;
      ends = omega arith;
      shortest = λ some. omega arith;
      at_most = omega arith;
      spells = refl;
    };
    whole = refl;
  };
}

pub untold_heard : (q : QueryParts) (limits : LimitNumbers) (bytes : List ℕ) → IsTerminalHeard q limits bytes None
untold_heard q limits bytes = record {
  heard = [];
  unheard = bytes;
  whole = refl;
  sections = [];
  received = record { given = []; goes_on = inl (record { nothing_given = refl; inside = before_header }); sections_are = refl };
  told = tt;
}

-- ---- a client

pub terminal_heads : (client : Client) (heads : HeadsState) → client.stage ≡ stages.Heads heads → terminal_of client ≡ None
terminal_heads client heads e = ap (λ (s : Stage). terminal_at s client.terminal) e

pub terminal_content : (client : Client) (content : Content) → client.stage ≡ stages.Content content → terminal_of client ≡ terminal_in content.sections
terminal_content client content e = ap (λ (s : Stage). terminal_at s client.terminal) e

pub terminal_done : (client : Client) → client.stage ≡ stages.Done → terminal_of client ≡ client.terminal
terminal_done client e = ap (λ (s : Stage). terminal_at s client.terminal) e

heads_done : (heads : HeadsState) → stages.Heads heads ≡ stages.Done → ⊥
heads_done heads e = cc

content_done : (content : Content) → stages.Content content ≡ stages.Done → ⊥
content_done content e = cc

pub tells_in_heads : (client : Client) (heads : HeadsState) (heard : List ℕ) → client.stage ≡ stages.Heads heads → Tells client heard
tells_in_heads client heads heard e = record {
  so = so_untold client.query client.limits heard (terminal_of client) (terminal_heads client heads e);
  all = λ done. absurd (heads_done heads (sym e ∙ done));
}

pub tells_in_content : (client : Client) (content : Content) (heard : List ℕ) → client.stage ≡ stages.Content content
    → IsTerminalReceived client.query client.limits heard (terminal_in content.sections) → Tells client heard
tells_in_content client content heard e i = record {
  so = subst (λ (t : Option Terminal). IsTerminalReceived client.query client.limits heard t) (sym (terminal_content client content e)) i;
  all = λ done. absurd (content_done content (sym e ∙ done));
}

pub tells_done : (client : Client) (t : Option Terminal) (heard : List ℕ) → client.stage ≡ stages.Done → client.terminal ≡ t
    → IsTerminalReceived client.query client.limits heard t → IsToldBy client.query t → Tells client heard
tells_done client t heard e is i all =
    let same = terminal_done client e ∙ is in
    record {
      so = subst (λ (o : Option Terminal). IsTerminalReceived client.query client.limits heard o) (sym same) i;
      all = λ done. subst (λ (o : Option Terminal). IsToldBy client.query o) (sym same) all;
    }

pub tells_more : (client : Client) (heard tail : List ℕ) → Tells client heard → Tells client (heard ++ tail)
tells_more client heard tail t = record { so = so_more client.query client.limits heard tail (terminal_of client) t.so; all = t.all }

-- of a piece in two parts
pub tells_front : (client : Client) (heard front tail piece : List ℕ) → piece ≡ front ++ tail → Tells client (heard ++ front) → Tells client (heard ++ piece)
tells_front client heard front tail piece e t =
    subst (λ (l : List ℕ). Tells client l) (append_assoc heard front tail ∙ ap (λ (l : List ℕ). heard ++ l) (sym e)) (tells_more client (heard ++ front) tail t)

pub tells_taken : (client : Client) (heard bytes : List ℕ) (taken : ℕ) → Tells client (heard ++ take taken bytes) → Tells client (heard ++ bytes)
tells_taken client heard bytes taken t = tells_front client heard (take taken bytes) (drop taken bytes) bytes (sym (take-append-drop taken bytes)) t

-- behind others
pub tells_behind : (client : Client) (heard bytes front rest : List ℕ) → bytes ≡ front ++ rest → Tells client ((heard ++ front) ++ rest) → Tells client (heard ++ bytes)
tells_behind client heard bytes front rest e t =
    subst (λ (l : List ℕ). Tells client l) (append_assoc heard front rest ∙ ap (λ (l : List ℕ). heard ++ l) (sym e)) t

-- where what is refused is kept
pub tells_so : (client : Client) (refused : Option FetchFault) (heard : List ℕ) → Tells client heard → Tells (record client { refused = refused }) heard
tells_so client refused heard t = record { so = t.so; all = t.all }
