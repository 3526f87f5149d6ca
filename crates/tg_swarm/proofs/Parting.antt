-- What a call's client says of an event.
use Rattle.std.proofs.Common.{Err, List, None, Ok, Result, Some, [], ap, append_assoc, false, refl, subst, sym, true, ℕ, ◌++◌, ◌∙◌, ◌≡◌}
use Rattle.std.specs.Borrow.{Bor}
use Rattle.std.specs.Prelude.{MatchResult, ⊤}
use Rattle.tg_fetch.specs.Clients.{EndEnds, FedAll, FedMore, FeedEnds, IsOpen}
use Rattle.tg_fetch.specs.Clients as clients
use Rattle.tg_fetch.specs.declared.client.Client.{Client}
use Rattle.tg_fetch.specs.declared.fault.FetchFault.{FetchFault}
use Rattle.tg_model.specs.LimitNumbers.{LimitNumbers}
use Rattle.tg_model.specs.Queries.{QueryParts}
use Rattle.tg_streams.specs.Memory.{SinkState, mem_sink}
use Rattle.tg_streams.specs.Streams.{into}
use Rattle.tg_swarm.specs.Said.{CallHeard, HeardSo, IsText}
use Rattle.tg_swarm.specs.Swarms.{IsRefusedReply}
use Rattle.tg_swarm.specs.declared.peers.Call.{Call}
use Rattle.tg_swarm.specs.declared.swarm.PeerEvent.TheVariants as events
use Rattle.tg_verify.specs.Sound.{ForEachSound, IsItsAnswer}
use Rattle.tg_verify.specs.declared.verifier.Progress.{Progress}
use Rattle.tg_verify.specs.declared.verifier.Progress.TheVariants as progresses

text_more : (client : Client) (old new : SinkState) (heard : List ℕ) → client.refused ≡ None → FedMore client heard old.content
    (into mem_sink old new)
    → clients.StandsFor client heard new.content
text_more client old new heard unrefused m =
    record { unrefused = unrefused; is_open = subst (λ (t : List ℕ). IsOpen client heard t) (sym m.put.moved.content) m.is_open }

text_all : (q : QueryParts) (limits : LimitNumbers) (old new : SinkState) (heard piece : List ℕ)
    → FedAll q limits heard piece old.content (into mem_sink old new) → IsText q limits (heard ++ piece) new.content
text_all q limits old new heard piece a = record {
  sections = a.sections;
  answered = record {
    front = heard ++ a.front;
    more = a.more;
    whole = ap (λ (x : List ℕ). heard ++ x) a.whole ∙ sym (append_assoc heard a.front a.more);
    ended = false;
    last = λ no. absurd (let f : false ≡ true = no in cc);
    text = old.content ++ a.text;
    answered = a.answered;
  };
  sound = subst (λ (t : List ℕ). ForEachSound q (λ d. IsItsAnswer q d a.sections t)) (sym a.put.moved.content) a.sound;
}

piece_says : (job : ℕ) (client : Client) (old new : SinkState) (heard : List ℕ) (piece : Bor (List ℕ)) (result : Result Progress FetchFault)
    → MatchResult result (λ _. client.refused ≡ None) (λ fault. client.refused ≡ Some fault)
    → FeedEnds client heard piece.now old.content (into mem_sink old new) result
    → HeardSo (record { job = job; client = client; text = new }) heard (events.Piece piece) result
piece_says job client old new heard piece (Ok progresses.More) unrefused e = text_more client old new (heard ++ piece.now) unrefused e
piece_says job client old new heard piece (Ok progresses.Done) unrefused e = text_all client.query client.limits old new heard piece.now e.0
piece_says job client old new heard piece (Err fault) refused e = λ own. (
  record { front = e.front; more = e.more; whole = e.whole; sections = e.sections; text = old.content ++ e.text; refused = e.refused },
  own,
)

-- it is fed a piece
pub piece_heard : (old : Call Client) (client : Client) (text : SinkState) (heard : List ℕ) (piece : Bor (List ℕ))
    (result : Result Progress FetchFault)
    → client.query ≡ old.client.query → client.limits ≡ old.client.limits
    → MatchResult result (λ _. client.refused ≡ None) (λ fault. client.refused ≡ Some fault)
    → ((h w : List ℕ) → clients.StandsFor old.client h w → FeedEnds client h piece.now w (into mem_sink old.text text) result)
    → CallHeard old (record { job = old.job; client = client; text = text }) heard (events.Piece piece) result
piece_heard old client text heard piece result query limits refused ends = record {
  query = query;
  limits = limits;
  says = λ stands. piece_says old.job client old.text text heard piece result refused (ends heard old.text.content stands);
}

-- the link has ended
end_text : (q : QueryParts) (limits : LimitNumbers) (old new : SinkState) (heard : List ℕ)
    → clients.EndedWhole q limits heard old.content (into mem_sink old new) → IsText q limits (heard ++ []) new.content
end_text q limits old new heard e = record {
  sections = e.sections;
  answered = record { front = heard; more = []; whole = refl; ended = true; last = λ yes. refl; text = old.content ++ e.text; answered = e.answered };
  sound = subst (λ (t : List ℕ). ForEachSound q (λ d. IsItsAnswer q d e.sections t)) (sym e.put.moved.content) e.sound;
}

pub end_heard : (old : Call Client) (client : Client) (text : SinkState) (heard : List ℕ) (result : Result ⊤ FetchFault) (done : ⊤)
    → result ≡ Ok done → client.query ≡ old.client.query → client.limits ≡ old.client.limits
    → ((h w : List ℕ) → clients.StandsFor old.client h w → EndEnds old.client.query old.client.limits h w (into mem_sink old.text text) result)
    → CallHeard old (record { job = old.job; client = client; text = text }) heard events.Ended (Ok progresses.Done)
end_heard old client text heard result done is query limits ends = record {
  query = query;
  limits = limits;
  says = λ stands.
      let whole : EndEnds old.client.query old.client.limits heard old.text.content (into mem_sink old.text text) (Ok done) =
      subst (λ (r : Result ⊤ FetchFault). EndEnds old.client.query old.client.limits heard old.text.content (into mem_sink old.text text) r) is
      (ends heard old.text.content stands)
      in
      subst (λ (q : QueryParts). IsText q client.limits (heard ++ []) text.content) (sym query)
      (subst (λ (l : LimitNumbers). IsText old.client.query l (heard ++ []) text.content) (sym limits)
      (end_text old.client.query old.client.limits old.text text heard whole));
}

-- or it is refused then
pub end_refused : (old : Call Client) (client : Client) (text : SinkState) (heard : List ℕ) (result : Result ⊤ FetchFault) (fault : FetchFault)
    → result ≡ Err fault → client.query ≡ old.client.query → client.limits ≡ old.client.limits
    → ((h w : List ℕ) → clients.StandsFor old.client h w → EndEnds old.client.query old.client.limits h w (into mem_sink old.text text) result)
    → CallHeard old (record { job = old.job; client = client; text = text }) heard events.Ended (Err fault)
end_refused old client text heard result fault is query limits ends = record {
  query = query;
  limits = limits;
  says = λ stands own.
      let e : EndEnds old.client.query old.client.limits heard old.text.content (into mem_sink old.text text) (Err fault) =
      subst (λ (r : Result ⊤ FetchFault). EndEnds old.client.query old.client.limits heard old.text.content (into mem_sink old.text text) r) is
      (ends heard old.text.content stands)
      in
      let reply : IsRefusedReply old.client.query old.client.limits heard [] true fault =
      record { front = e.front; more = e.more; whole = e.whole; sections = e.sections; text = old.text.content ++ e.text; refused = e.refused }
      in (
        subst (λ (q : QueryParts). IsRefusedReply q client.limits heard [] true fault) (sym query)
            (subst (λ (l : LimitNumbers). IsRefusedReply old.client.query l heard [] true fault) (sym limits) reply),
        own,
      );
}
