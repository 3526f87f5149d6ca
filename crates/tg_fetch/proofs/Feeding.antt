-- A client that is fed, step by step.
use Rattle.std.proofs.Common.{◌≡◌, ℕ, suc, zero, Bool, true, false, not, nat_eq, min, ◌+◌, ◌-◌, ◌^◌, ◌<◌, ◌≤◌, List, [], ◌++◌, length, take, drop, Option, Some, None, Ok, Err, refl, ap, sym, subst, ◌∙◌, inl, inr, append-nil, append_assoc, length-append, arith}
use Rattle.std.proofs.lemmas.List.{length-take-le, take-append-drop, take_all, take_rest}
use Rattle.std.specs.Prelude.{Result, ◌⊎◌}
use Rattle.tg_body.specs.Bodies.{BodyFront}
use Rattle.tg_client.specs.Body.{BodyStands}
use Rattle.tg_fetch.specs.Bodies.{FrontAndSays, SaysOf}
use Rattle.tg_fetch.specs.Clients.{FedAll, FedMore, FeedEnds, IsAt, IsOpen, IsShortAt, StepEnds}
use Rattle.tg_fetch.specs.Heads.{HeadsGo, HeadsStop, IsInHeads}
use Rattle.tg_fetch.specs.HeadsStates.{HeadsState}
use Rattle.tg_fetch.specs.Replies.{ContentSteps, HasAnswered, HeadStops, IsInContent, IsOpenBefore, IsRefused, IsShortBehind, MovesOn, RefusedBy, at_head, bad_head, cut_head, memory, past}
use Rattle.tg_fetch.specs.declared.client.Client.{Client}
use Rattle.tg_fetch.specs.declared.client.Stage.{Stage}
use Rattle.tg_fetch.specs.declared.client.Stage.TheVariants as stages
use Rattle.tg_fetch.specs.declared.content.Content.{Content}
use Rattle.tg_fetch.specs.declared.content.Move.{Move}
use Rattle.tg_fetch.specs.declared.content.Move.TheVariants as moves
use Rattle.tg_fetch.specs.declared.fault.FetchFault.{FetchFault}
use Rattle.tg_fetch.specs.declared.fault.FetchFault.TheVariants as faults
use Rattle.tg_fetch.proofs.Standing.{taking_is_open}
use Rattle.tg_heard.specs.Carried.{Carries}
use Rattle.tg_heard.specs.FinalHeads.{FinalHead, IsOpenHead}
use Rattle.tg_http.specs.declared.framing.Framing.{Framing}
use Rattle.tg_http.specs.declared.reply.ReplyHead.{ReplyHead}
use Rattle.tg_model.specs.Answer.{answer}
use Rattle.tg_model.specs.Dag.{Dag, Section}
use Rattle.tg_model.specs.Fits.{IsFrontOfAnswer}
use Rattle.tg_model.specs.LimitNumbers.{LimitNumbers}
use Rattle.tg_model.specs.Queries.{QueryParts}
use Rattle.tg_model.specs.declared.limits.LimitKind.TheVariants as kinds
use Rattle.tg_streams.specs.Joining.{SinkJoins, put_nothing, put_put}
use Rattle.tg_streams.specs.Streams.{Output, Put, SinkMeaning, into}
use Rattle.tg_verify.specs.Sound.{ForEachSound, IsItsAnswer, IsItsFront}
use Rattle.tg_verify.specs.Taken.{IsThrough}
use Rattle.tg_verify.specs.declared.fault.Refusal.TheVariants as refusals
use Rattle.tg_verify.specs.declared.verifier.Progress.{Progress}
use Rattle.tg_verify.specs.declared.verifier.Progress.TheVariants as progresses

-- ---- before a body nothing is written

front_of : (all : Option (List ℕ)) → IsFrontOfAnswer [] all
front_of (Some text) = (text, refl)
front_of None = refl

pub front_none : (q : QueryParts) (d : Dag) (sections : List Section) (text : List ℕ) → text ≡ [] → IsItsFront q d sections text
front_none q d sections text none = subst (λ (t : List ℕ). IsItsFront q d sections t) (sym none) (inl (front_of (answer q d)))

abbrev pub refused_none : (q : QueryParts) (limits : LimitNumbers) (heard piece written : List ℕ) (ended : Bool) (out : Output) (fault : FetchFault) (front more : List ℕ) → piece ≡ front ++ more → Put [] out
    → written ≡ [] → length (heard ++ front) ≤ limits.received → RefusedBy q limits (heard ++ front) more ended [] [] fault → ((d : Dag) → SaysOf q d [] fault) → IsRefused q limits heard piece ended written out fault
refused_none q limits heard piece written ended out fault front more whole put none within refused says =
    let same : written ++ [] ≡ [] = append-nil written ∙ none in
    record {
      front = front;
      more = more;
      whole = whole;
      text = [];
      put = put;
      sections = [];
      within = within;
      refused = subst (λ (t : List ℕ). RefusedBy q limits (heard ++ front) more ended [] t fault) (sym same) refused;
      sound = λ d sound root. (front_none q d [] (written ++ []) same, says d);
    }

pub open_head : (heads : HeadsState) (heard : List ℕ) → IsInHeads heads heard → IsOpenHead heard
open_head heads heard h = record { count = heads.interims; behind = heads.came; interims = h.interims; few = h.few; waiting = h.waiting }

pub open_here : (heard : List ℕ) → IsOpenHead heard → IsOpenHead (heard ++ [])
open_here heard h = subst IsOpenHead (sym (append-nil heard)) h

pub in_content : (q : QueryParts) (limits : LimitNumbers) (stage : Stage) (content : Content) (heard written : List ℕ) → stage ≡ stages.Content content → IsAt q limits stage heard written
    → IsInContent q limits content heard written
in_content q limits stage content heard written e h = subst (λ (s : Stage). IsAt q limits s heard written) e h

pub in_heads : (q : QueryParts) (limits : LimitNumbers) (stage : Stage) (heads : HeadsState) (heard written : List ℕ) → stage ≡ stages.Heads heads → IsAt q limits stage heard written
    → IsInHeads heads heard × (written ≡ [])
in_heads q limits stage heads heard written e h = subst (λ (s : Stage). IsAt q limits s heard written) e h

-- the heads are refused
abbrev pub heads_refused : (q : QueryParts) (limits : LimitNumbers) (heard piece written : List ℕ) (out : Output) (fault : FetchFault) → IsOpenHead heard → written ≡ [] → Put [] out
    → length heard + length piece ≤ limits.received → HeadsStop (heard ++ piece) fault → IsRefused q limits heard piece false written out fault
heads_refused q limits heard piece written out faults.BadReplyHead h none put few stop =
    refused_none q limits heard piece written false out faults.BadReplyHead piece [] (sym (append-nil piece)) put none (omega (arith, few, length-append heard piece))
    (bad_head refl stop refl refl) (λ d. tt)
heads_refused q limits heard piece written out faults.OutOfMemory h none put few stop =
    refused_none q limits heard piece written false out faults.OutOfMemory [] piece refl put none (omega (arith, few, ap (λ (l : List ℕ). length l) (append-nil heard)))
    (memory refl (inl (record { is_open = open_here heard h; no_section = refl; no_text = refl }))) (λ d. tt)
heads_refused q limits heard piece written out (faults.Refused refusal) h none put few stop = absurd stop
heads_refused q limits heard piece written out (faults.Status status) h none put few stop = absurd stop
heads_refused q limits heard piece written out faults.BadType h none put few stop = absurd stop
heads_refused q limits heard piece written out faults.BadFraming h none put few stop = absurd stop
heads_refused q limits heard piece written out (faults.BadCar car) h none put few stop = absurd stop
heads_refused q limits heard piece written out faults.PeerFault h none put few stop = absurd stop
heads_refused q limits heard piece written out faults.KeepFault h none put few stop = absurd stop

abbrev pub heads_stop : (client : Client) (heads : HeadsState) (heard piece written : List ℕ) (out : Output) (fault : FetchFault) → client.stage ≡ stages.Heads heads → IsOpen client heard written → Put [] out
    → length heard + length piece ≤ client.limits.received → HeadsStop (heard ++ piece) fault → IsRefused client.query client.limits heard piece false written out fault
heads_stop client heads heard piece written out fault e h put few stop =
    let at = in_heads client.query client.limits client.stage heads heard written e h.at in
    heads_refused client.query client.limits heard piece written out fault (open_head heads heard at.0) at.1 put few stop

abbrev pub heads_cut : (client : Client) (heads : HeadsState) (heard written : List ℕ) (out : Output) → client.stage ≡ stages.Heads heads → IsOpen client heard written → Put [] out
    → IsRefused client.query client.limits heard [] true written out faults.BadReplyHead
heads_cut client heads heard written out e h put =
    let at = in_heads client.query client.limits client.stage heads heard written e h.at in
    refused_none client.query client.limits heard [] written true out faults.BadReplyHead [] [] refl put at.1 (omega (arith, h.within, ap (λ (l : List ℕ). length l) (append-nil heard)))
    (cut_head refl refl refl (open_here heard (open_head heads heard at.0)) refl refl) (λ d. tt)

none_taken : (taken : ℕ) → 0 < taken → taken ≡ 0 → ⊥
none_taken taken some e = omega (arith, some, e)

-- what was taken ends no head that is the final one, or ends it
pub heads_none : (heads : HeadsState) (bytes : List ℕ) (told : Option ReplyHead) → told ≡ None → HeadsGo heads bytes told → IsInHeads heads bytes
heads_none heads bytes told e h = subst (λ (t : Option ReplyHead). HeadsGo heads bytes t) e h

pub heads_some : (heads : HeadsState) (bytes : List ℕ) (told : Option ReplyHead) (head : ReplyHead) → told ≡ Some head → HeadsGo heads bytes told → FinalHead bytes head []
heads_some heads bytes told head e h = subst (λ (t : Option ReplyHead). HeadsGo heads bytes t) e h

-- where none is taken none is there
pub all_or_none : (taken size : ℕ) → (0 < size → 0 < taken) → taken ≡ 0 → taken ≡ size
all_or_none taken zero some e = e
all_or_none taken (suc n) some e = absurd (none_taken taken (some (omega arith)) e)

-- what was taken is no more than came
pub front_few : (heard piece : List ℕ) (taken most : ℕ) → length heard + length piece ≤ most → length (heard ++ take taken piece) ≤ most
front_few heard piece taken most few =
    omega (arith, few, length-append heard (take taken piece), length-append (take taken piece) (drop taken piece), ap (λ (l : List ℕ). length l) (take-append-drop taken piece))

-- the final head is
pub says_nothing : (q : QueryParts) (head : ReplyHead) (fault : FetchFault) → HeadStops q head fault → (d : Dag) → SaysOf q d [] fault
says_nothing q head (faults.Refused refusal) stops d = absurd stops
says_nothing q head (faults.Status status) stops d = tt
says_nothing q head faults.BadType stops d = tt
says_nothing q head faults.BadReplyHead stops d = tt
says_nothing q head faults.BadFraming stops d = tt
says_nothing q head (faults.BadCar car) stops d = tt
says_nothing q head faults.PeerFault stops d = tt
says_nothing q head faults.KeepFault stops d = tt
says_nothing q head faults.OutOfMemory stops d = tt

abbrev pub head_stops : (client : Client) (heads : HeadsState) (heard piece written : List ℕ) (out : Output) (taken : ℕ) (head : ReplyHead) (fault : FetchFault) → client.stage ≡ stages.Heads heads
    → IsOpen client heard written → Put [] out → FinalHead (heard ++ take taken piece) head [] → length heard + length piece ≤ client.limits.received → HeadStops client.query head fault
    → IsRefused client.query client.limits heard piece false written out fault
head_stops client heads heard piece written out taken head fault e h put final few stops =
    let at = in_heads client.query client.limits client.stage heads heard written e h.at in
    refused_none client.query client.limits heard piece written false out fault (take taken piece) (drop taken piece) (sym (take-append-drop taken piece)) put at.1 (front_few heard piece taken client.limits.received few)
    (at_head (record { head = head; final = final; stops = stops }) refl refl) (says_nothing client.query head fault stops)

-- ---- a step goes on

pub length_taken : (heard bytes : List ℕ) (taken : ℕ) → taken ≤ length bytes → length (heard ++ take taken bytes) ≡ length heard + taken
length_taken heard bytes taken within = omega (arith, length-append heard (take taken bytes), length-take-le taken bytes within)

pub goes_on : (client : Client) (heard bytes written text : List ℕ) (out : Output) (taken limit : ℕ) → taken ≤ length bytes → length heard + length bytes ≤ limit → client.limits.received ≡ limit
    → client.heard ≡ length heard + taken → Put text out → IsAt client.query client.limits client.stage (heard ++ take taken bytes) (written ++ text)
    → FedMore client (heard ++ take taken bytes) written out
goes_on client heard bytes written text out taken limit within few same count put at =
    let long = length_taken heard bytes taken within in
    record {
      text = text;
      put = put;
      is_open = record { count = count ∙ sym long; within = omega (arith, long, within, few, same); at = at };
    }

-- the heads go on
pub heads_at : (q : QueryParts) (limits : LimitNumbers) (heads : HeadsState) (heard written : List ℕ) → IsInHeads heads heard → written ≡ [] → IsAt q limits (stages.Heads heads) heard (written ++ [])
heads_at q limits heads heard written h none = (h, append-nil written ∙ none)

-- or the body begins
pub content_at : (q : QueryParts) (limits : LimitNumbers) (content : Content) (head : ReplyHead) (heard written : List ℕ) → FinalHead heard head [] → MovesOn q limits head content → written ≡ []
    → IsAt q limits (stages.Content content) heard (written ++ [])
content_at q limits content head heard written final m none = subst (λ (t : List ℕ). IsInContent q limits content heard t) (sym (append-nil written ∙ none)) (record {
  head = head;
  rest = [];
  final = final;
  framing = m.framing;
  framed = m.framed;
  given = [];
  reads = m.reads;
  taking = m.taking;
})

pub all_taken : (taken : ℕ) (bytes : List ℕ) → taken ≡ length bytes → take taken bytes ≡ bytes
all_taken taken bytes all = take_all taken bytes (omega (arith, all))

-- how it goes on behind heads: all bytes were taken, or some
pub heads_step : (told : Move) (client : Client) (heard bytes written : List ℕ) (out : Output) (taken : ℕ) → (told ≡ moves.Wait → taken ≡ length bytes) → (told ≡ moves.Done → ⊥)
    → FedMore client (heard ++ take taken bytes) written out → StepEnds client heard bytes written out (Ok (taken, told))
heads_step moves.On client heard bytes written out taken wait done fed = fed
heads_step moves.Wait client heard bytes written out taken wait done fed =
    let all = wait refl in
    (all, subst (λ (l : List ℕ). FedMore client (heard ++ l) written out) (all_taken taken bytes all) fed)
heads_step moves.Done client heard bytes written out taken wait done fed = absurd (done refl)

-- or behind bytes of the body
pub content_step : (told : Move) (client : Client) (content : Content) (heard bytes written : List ℕ) (out : Output) (taken limit : ℕ) → client.stage ≡ stages.Content content → taken ≤ length bytes
    → length heard + length bytes ≤ limit → client.limits.received ≡ limit → client.heard ≡ length heard + taken → (told ≡ moves.Wait → taken ≡ length bytes) → (told ≡ moves.Done → ⊥)
    → ContentSteps client.query client.limits content (heard ++ take taken bytes) written out told → StepEnds client heard bytes written out (Ok (taken, told))
content_step moves.On client content heard bytes written out taken limit e within few same count wait done s =
    goes_on client heard bytes written s.text out taken limit within few same count s.put
    (subst (λ (t : Stage). IsAt client.query client.limits t (heard ++ take taken bytes) (written ++ s.text)) (sym e) s.in_content)
content_step moves.Wait client content heard bytes written out taken limit e within few same count wait done s =
    let all = wait refl in (
      all,
      subst (λ (l : List ℕ). FedMore client (heard ++ l) written out) (all_taken taken bytes all)
          (goes_on client heard bytes written s.text out taken limit within few same count s.put
          (subst (λ (t : Stage). IsAt client.query client.limits t (heard ++ take taken bytes) (written ++ s.text)) (sym e) s.in_content)),
    )
content_step moves.Done client content heard bytes written out taken limit e within few same count wait done s = absurd (done refl)

-- nothing was put
pub fed_nothing : (S : Type 0) (m : SinkMeaning S) (a : S) → m.wrote a a [] → (client : Client) (heard written : List ℕ) → IsOpen client heard written
    → FedMore client (heard ++ []) written (into m a a)
fed_nothing S m a rests client heard written h = record {
  text = [];
  put = put_nothing S m a rests;
  is_open = subst (λ (l : List ℕ). IsOpen client l (written ++ [])) (sym (append-nil heard)) (subst (λ (t : List ℕ). IsOpen client heard t) (sym (append-nil written)) h);
}

-- ---- a text was put before

module _ {S : Type 0} (m : SinkMeaning S) (joins : SinkJoins S m) (a b c : S) (written text : List ℕ) (put : Put text (into m a b)) where
  pub more_after : (client : Client) (heard : List ℕ) → FedMore client heard (written ++ text) (into m b c) → FedMore client heard written (into m a c)
  more_after client heard f = record {
    text = text ++ f.text;
    put = put_put S m a b c text f.text joins put f.put;
    is_open = subst (λ (t : List ℕ). IsOpen client heard t) (append_assoc written text f.text) f.is_open;
  }

  abbrev pub answered_after : (q : QueryParts) (limits : LimitNumbers) (heard : List ℕ) → HasAnswered q limits heard false (written ++ text) (into m b c) → HasAnswered q limits heard false written (into m a c)
  answered_after q limits heard h =
      let same : (written ++ text) ++ h.text ≡ written ++ (text ++ h.text) = append_assoc written text h.text in
      record {
        text = text ++ h.text;
        put = put_put S m a b c text h.text joins put h.put;
        sections = h.sections;
        carries = h.carries;
        through = subst (λ (t : List ℕ). IsThrough q limits h.sections t) same h.through;
        sound = subst (λ (t : List ℕ). ForEachSound q (λ d. IsItsAnswer q d h.sections t)) same h.sound;
      }

  abbrev pub refused_after : (q : QueryParts) (limits : LimitNumbers) (heard piece : List ℕ) (fault : FetchFault) → IsRefused q limits heard piece false (written ++ text) (into m b c) fault
      → IsRefused q limits heard piece false written (into m a c) fault
  refused_after q limits heard piece fault r =
      let same : (written ++ text) ++ r.text ≡ written ++ (text ++ r.text) = append_assoc written text r.text in
      record {
        front = r.front;
        more = r.more;
        whole = r.whole;
        text = text ++ r.text;
        put = put_put S m a b c text r.text joins put r.put;
        sections = r.sections;
        within = r.within;
        refused = subst (λ (t : List ℕ). RefusedBy q limits (heard ++ r.front) r.more false r.sections t fault) same r.refused;
        sound = subst (λ (t : List ℕ). ForEachSound q (FrontAndSays q r.sections t fault)) same r.sound;
      }

-- ---- bytes came before

-- the rest of them, of which the others came
pub rest_is : (bytes front rest : List ℕ) (taken : ℕ) → bytes ≡ front ++ rest → bytes ≡ (front ++ take taken rest) ++ take (length rest - taken) (drop taken rest)
rest_is bytes front rest taken e =
    e ∙ (ap (λ (l : List ℕ). front ++ l) (sym (take-append-drop taken rest) ∙ ap (λ (l : List ℕ). take taken rest ++ l) (sym (take_rest rest taken)))
    ∙ sym (append_assoc front (take taken rest) (take (length rest - taken) (drop taken rest))))

pub still_few : (heard bytes front rest : List ℕ) (old new : LimitNumbers) → bytes ≡ front ++ rest → new ≡ old → length heard + length bytes ≤ old.received
    → length (heard ++ front) + length rest ≤ new.received
still_few heard bytes front rest old new e same few =
    subst (λ (l : LimitNumbers). length (heard ++ front) + length rest ≤ l.received) (sym same)
    (omega (arith, length-append heard front, length-append front rest, ap (λ (l : List ℕ). length l) e, few))

abbrev pub refused_behind : (q : QueryParts) (limits : LimitNumbers) (heard bytes front rest written : List ℕ) (out : Output) (fault : FetchFault) → bytes ≡ front ++ rest
    → IsRefused q limits (heard ++ front) rest false written out fault → IsRefused q limits heard bytes false written out fault
refused_behind q limits heard bytes front rest written out fault e r = record {
  front = front ++ r.front;
  more = r.more;
  whole = e ∙ (ap (λ (l : List ℕ). front ++ l) r.whole ∙ sym (append_assoc front r.front r.more));
  text = r.text;
  put = r.put;
  sections = r.sections;
  within = subst (λ (l : List ℕ). length l ≤ limits.received) (append_assoc heard front r.front) r.within;
  refused = subst (λ (l : List ℕ). RefusedBy q limits l r.more false r.sections (written ++ r.text) fault) (append_assoc heard front r.front) r.refused;
  sound = r.sound;
}

abbrev pub answered_all : (q : QueryParts) (limits : LimitNumbers) (heard bytes front rest written : List ℕ) (out : Output) (taken : ℕ) → bytes ≡ front ++ rest
    → length (heard ++ front) + length rest ≤ limits.received → HasAnswered q limits ((heard ++ front) ++ take taken rest) false written out → FedAll q limits heard bytes written out
answered_all q limits heard bytes front rest written out taken e few h =
    let taken_is : rest ≡ take taken rest ++ drop taken rest = sym (take-append-drop taken rest) in
    record {
      front = front ++ take taken rest;
      more = drop taken rest;
      whole = e ∙ (ap (λ (l : List ℕ). front ++ l) taken_is ∙ sym (append_assoc front (take taken rest) (drop taken rest)));
      text = h.text;
      put = h.put;
      sections = h.sections;
      answered = record {
        carries = subst (λ (l : List ℕ). Carries l false q h.sections) (append_assoc heard front (take taken rest)) h.carries;
        through = h.through;
        within = omega (
          arith,
          length-append heard (front ++ take taken rest),
          length-append front (take taken rest),
          length-append heard front,
          length-append (take taken rest) (drop taken rest),
          ap (λ (l : List ℕ). length l) taken_is,
          few,
        );
      };
      sound = h.sound;
    }

-- ---- what a step said, by its move

module _ (client : Client) (heard bytes written : List ℕ) (out : Output) (taken : ℕ) (told : Move) (s : StepEnds client heard bytes written out (Ok (taken, told))) where
  pub on_more : told ≡ moves.On → FedMore client (heard ++ take taken bytes) written out
  on_more e = subst (λ (t : Move). StepEnds client heard bytes written out (Ok (taken, t))) e s

  pub wait_more : told ≡ moves.Wait → FedMore client (heard ++ bytes) written out
  wait_more e = (subst (λ (t : Move). StepEnds client heard bytes written out (Ok (taken, t))) e s).1

  pub done_all : told ≡ moves.Done → HasAnswered client.query client.limits (heard ++ take taken bytes) false written out × (client.stage ≡ stages.Done)
  done_all e = subst (λ (t : Move). StepEnds client heard bytes written out (Ok (taken, t))) e s

-- behind the answer no step goes on
abbrev done_of : Result (ℕ × Move) FetchFault → Move
done_of (Ok told) = told.1
done_of (Err fault) = moves.On

on_done : moves.On ≡ moves.Done → ⊥
on_done e = cc

pub not_done : (taken : ℕ) (told : Move) → told ≡ moves.On → ◌≡◌ {A = Result (ℕ × Move) FetchFault} (Ok (taken, told)) (Ok (0, moves.Done)) → ⊥
not_done taken told on e = on_done (sym on ∙ ap done_of e)

-- ---- a piece of which a front was fed

abbrev pub answered_front : (q : QueryParts) (limits : LimitNumbers) (heard front tail piece written : List ℕ) (out : Output) → piece ≡ front ++ tail → FedAll q limits heard front written out
    → FedAll q limits heard piece written out
answered_front q limits heard front tail piece written out e f = record {
  front = f.front;
  more = f.more ++ tail;
  whole = e ∙ (ap (λ (l : List ℕ). l ++ tail) f.whole ∙ append_assoc f.front f.more tail);
  text = f.text;
  put = f.put;
  sections = f.sections;
  answered = f.answered;
  sound = f.sound;
}

-- what came is open, where a body of stated length isn't whole, and what is written is a front of each sound DAG's answer
pub record OpenReply (q : QueryParts) (limits : LimitNumbers) (heard text : List ℕ) : Type 0 where
  pub sections : List Section
  pub is_open : IsOpenBefore heard sections text ⊎ IsShortBehind q limits heard sections text
  pub front : ForEachSound q (λ d. IsItsFront q d sections text)

abbrev pub at_open : BodyStands → (q : QueryParts) (limits : LimitNumbers) (stage : Stage) (heard written : List ℕ) → IsAt q limits stage heard written → IsShortAt q limits stage heard
    → OpenReply q limits heard written
at_open stands q limits (stages.Heads heads) heard written (h, none) short = record {
  sections = [];
  is_open = inl (record { is_open = open_head heads heard h; no_section = refl; no_text = none });
  front = λ d sound root. front_none q d [] written none;
}
at_open stands q limits (stages.Content content) heard written t short =
    let o = taking_is_open stands q limits t.head content.sections t.given written t.taking in
    record {
      sections = o.sections;
      is_open = inr (record {
        behind = record {
          head = t.head;
          rest = t.rest;
          final = t.final;
          framed = t.framed;
          given = t.given;
          front = subst (λ (f : Framing). BodyFront f t.given t.rest) t.framing t.reads.exact.so_far;
          body = o.body;
        };
        short = λ number stated. short written t number (t.framing ∙ stated);
      });
      front = o.front;
    }
at_open stands q limits stages.Done heard written h short = absurd h

-- as many bytes came as may be received, and a further one
abbrev pub passed : BodyStands → (client : Client) (heard front tail piece written : List ℕ) (out : Output) → piece ≡ front ++ tail → length (heard ++ front) ≡ client.limits.received → 0 < length tail
    → FedMore client (heard ++ front) written out → IsShortAt client.query client.limits client.stage (heard ++ front)
    → IsRefused client.query client.limits heard piece false written out (faults.Refused (refusals.Limit kinds.Received client.limits.received))
passed stands client heard front tail piece written out e full some f short =
    let o = at_open stands client.query client.limits client.stage (heard ++ front) (written ++ f.text) f.is_open.at short in
    record {
      front = front;
      more = tail;
      whole = e;
      text = f.text;
      put = f.put;
      sections = o.sections;
      within = omega (arith, full);
      refused = past refl (record { heard_is = full; some = some; is_open = o.is_open });
      sound = λ d sound root. (o.front d sound root, tt);
    }

-- ---- the count of bytes

-- it is exact, since no more come than may be received
pub counted : (before after heard taken bytes limit : ℕ) → before ≡ heard → after ≡ min (before + taken) (2 ^ 64 - 1) → taken ≤ bytes → heard + bytes ≤ limit → limit < 2 ^ 64 → after ≡ heard + taken
counted before after heard taken bytes limit e f within few most = omega (arith, e, f, within, few, most)

wait_done : moves.Wait ≡ moves.Done → ⊥
wait_done e = cc

-- ---- tests

pub false_true : false ≡ true → ⊥
false_true e = cc

pub not_false : (b : Bool) → false ≡ not b → b ≡ true
not_false true e = refl
not_false false e = absurd (false_true e)

-- a length that isn't zero
pub some_there : (n : ℕ) → false ≡ nat_eq n 0 → 0 < n
some_there zero e = absurd (false_true e)
some_there (suc n) e = omega arith

-- ---- what was fed, by the answer

pub fed_more : (told : Progress) (client : Client) (heard piece written : List ℕ) (out : Output) → (told ≡ progresses.Done → ⊥) → FeedEnds client heard piece written out (Ok told)
    → FedMore client (heard ++ piece) written out
fed_more progresses.More client heard piece written out none f = f
fed_more progresses.Done client heard piece written out none f = absurd (none refl)

pub fed_all : (told : Progress) (client : Client) (heard piece written : List ℕ) (out : Output) → told ≡ progresses.Done → FeedEnds client heard piece written out (Ok told)
    → FedAll client.query client.limits heard piece written out × (client.stage ≡ stages.Done)
fed_all told client heard piece written out e f = subst (λ (t : Progress). FeedEnds client heard piece written out (Ok t)) e f

-- what the step says where the reply is the answer
pub done_step : (told : Move) (client : Client) (q : QueryParts) (limits : LimitNumbers) (content : Content) (heard bytes written : List ℕ) (out : Output) (taken : ℕ) → told ≡ moves.Done
    → client.query ≡ q → client.limits ≡ limits → client.stage ≡ stages.Done → ContentSteps q limits content (heard ++ take taken bytes) written out told → StepEnds client heard bytes written out (Ok (taken, told))
done_step moves.Done client q limits content heard bytes written out taken e same most stage s = (
  subst (λ (asked : QueryParts). HasAnswered asked client.limits (heard ++ take taken bytes) false written out) (sym same)
      (subst (λ (l : LimitNumbers). HasAnswered q l (heard ++ take taken bytes) false written out) (sym most) s),
  stage,
)
done_step moves.On client q limits content heard bytes written out taken e same most stage s = absurd (on_done e)
done_step moves.Wait client q limits content heard bytes written out taken e same most stage s = absurd (wait_done e)

-- where it isn't the answer more is wanted
pub more_told : (told : Progress) → (told ≡ progresses.Done → ⊥) → ◌≡◌ {A = Result Progress FetchFault} (Ok told) (Ok progresses.More)
more_told progresses.More none = refl
more_told progresses.Done none = absurd (none refl)

-- bytes came before
pub short_behind : (client : Client) (heard bytes front rest : List ℕ) → bytes ≡ front ++ rest → IsShortAt client.query client.limits client.stage ((heard ++ front) ++ rest)
    → IsShortAt client.query client.limits client.stage (heard ++ bytes)
short_behind client heard bytes front rest e short =
    subst (λ (l : List ℕ). IsShortAt client.query client.limits client.stage l) (append_assoc heard front rest ∙ ap (λ (l : List ℕ). heard ++ l) (sym e)) short
