-- What is gathered of a reply is put, or forgotten.
use Rattle.std.proofs.Common.{Err, List, Ok, [], ap, refl, suc, zero, ◌∷◌, subst, take, ℕ, ◌++◌, ◌≡◌}
use Rattle.tg_http.specs.declared.request.RequestHead.{RequestHead}
use Rattle.tg_model.specs.Stores.{Lookups}
use Rattle.tg_reply.specs.Replies.{reply_bytes}
use Rattle.tg_replying.specs.Bodies.{Gives, giving_in}
use Rattle.tg_replying.specs.Replying.{PutQuiet, ReplyEnds, WrittenEnds}
use Rattle.tg_replying.specs.declared.fault.ReplyFault.{ReplyFault}
use Rattle.tg_replying.specs.declared.fault.ReplyFault.TheVariants as faults
use Rattle.tg_replying.specs.declared.reply.Replied.{Replied}
use Rattle.tg_reply.specs.Sent.{Answering}
use Rattle.tg_streams.specs.Gathering.{gave_front_out, gave_part, gave_put}
use Rattle.tg_streams.specs.Joining.{SinkJoins}
use Rattle.tg_streams.specs.Streams.{OutputQuiet, Put, PutFront, SinkMeaning, into}

-- a front of a front
front_of_front : (n count : ℕ) (bytes : List ℕ) → (k : ℕ) × (take n (take count bytes) ≡ take k bytes)
front_of_front zero count bytes = (zero, refl)
front_of_front (suc n) zero bytes = (zero, refl)
front_of_front (suc n) (suc count) [] = (zero, refl)
front_of_front (suc n) (suc count) (b ∷ bytes) =
    let more = front_of_front n count bytes in
    (suc more.0, ap (λ (l : List ℕ). b ∷ l) more.1)

module _ {S : Type 0} (m : SinkMeaning S) (For : Answering) (head : RequestHead) (lookups : Lookups) where
  -- a reply was given, and the rest of it is put
  pub put_whole : (a b c : S) (g0 g1 : List ℕ) (replied : Replied) → SinkJoins S m → g0 ≡ []
      → WrittenEnds For head lookups (giving_in m g0 g1 a b) (Ok replied)
      → Put g1 (into m b c) → OutputQuiet (into m b c) → ReplyEnds For head lookups (into m a c) (Ok replied)
  put_whole a b c g0 g1 replied joins none h put still =
      let gave = subst (λ (g : List ℕ). Gives (giving_in m g g1 a b) (reply_bytes h.sent.reply)) none h.is_done in
      let done = gave_put S m a b c (reply_bytes h.sent.reply) [] g1 joins gave put still in
      record {
        sent = h.sent;
        is_sent = h.is_sent;
        counts = h.counts;
        told = h.told;
        is_done = record { put = done.0; quiet = done.1 };
      }

  -- or out fails in it
  pub put_fails : (a b c : S) (g0 g1 : List ℕ) (replied : Replied) → SinkJoins S m → g0 ≡ []
      → WrittenEnds For head lookups (giving_in m g0 g1 a b) (Ok replied)
      → PutFront g1 (into m b c) → ReplyEnds For head lookups (into m a c) (Err faults.SinkFault)
  put_fails a b c g0 g1 replied joins none h front =
      let gave = subst (λ (g : List ℕ). Gives (giving_in m g g1 a b) (reply_bytes h.sent.reply)) none h.is_done in
      record {
        sent = h.sent;
        is_sent = h.is_sent;
        is_done = gave_front_out S m a b c (reply_bytes h.sent.reply) [] g1 joins gave front;
      }

  -- it wasn't given to its end, and what is gathered is forgotten
  pub put_part : (a b : S) (g0 g1 : List ℕ) (fault : ReplyFault) → g0 ≡ []
      → WrittenEnds For head lookups (giving_in m g0 g1 a b) (Err fault)
      → ReplyEnds For head lookups (into m a b) (Err fault)
  put_part a b g0 g1 faults.SinkFault none h = record {
    sent = h.sent;
    is_sent = h.is_sent;
    is_done = subst (λ (g : List ℕ). PutFront (g ++ reply_bytes h.sent.reply) (into m a b)) none h.is_done;
  }
  put_part a b g0 g1 faults.OutOfMemory none h =
      let bytes : List ℕ = reply_bytes h.sent.reply in
      let count : ℕ = h.is_done.0 in
      let gave = subst (λ (g : List ℕ). Gives (giving_in m g g1 a b) (take count bytes)) none h.is_done.1 in
      let part = gave_part S m a b (take count bytes) [] g1 gave in
      let front = front_of_front part.0 count bytes in
      record {
        sent = h.sent;
        is_sent = h.is_sent;
        is_done = (
          front.0,
          subst (λ (l : List ℕ). PutQuiet (into m a b) l) front.1
              (record { put = part.1; quiet = part.2 }),
        );
      }
