-- The replies to GET read back.
use Rattle.std.proofs.Common.{◌≡◌, ℕ, ◌<◌, ◌≤◌, false, All, List, [], length, refl, sym, ap, subst, ◌∙◌}
use Rattle.std.specs.Prelude.{◌||◌}
use Rattle.std.proofs.lemmas.Bool.{cond-false}
use Rattle.httparse.specs.Grammar.{AllPass, is_value_byte}
use Rattle.tg_body.specs.Bodies.{BodyText}
use Rattle.tg_bytes.specs.Lists.{joined}
use Rattle.tg_cid.specs.Spelling.{CidBytes}
use Rattle.tg_http.specs.declared.framing.Framing.TheVariants.{Chunked, Length, UntilClose}
use Rattle.tg_http.specs.declared.request.RequestHead.{RequestHead}
use Rattle.tg_model.specs.Queries.{QueryParts}
use Rattle.tg_query.specs.Requests.{car_with_dups}
use Rattle.tg_reply.specs.Asked.{is_head}
use Rattle.tg_reply.specs.Bodies.{CarsInParts}
use Rattle.tg_reply.specs.CarBytes.{car_parts}
use Rattle.tg_reply.specs.Heads.{asked_path, car_fields, car_status, head_text, text_of}
use Rattle.tg_reply.specs.Laws.{ReadsBack, number_of}
use Rattle.tg_reply.specs.Readings.{CarReads, RawReads, RefusalsRead, RefusedBytesRead}
use Rattle.tg_reply.specs.Refusals.{ends_connection}
use Rattle.tg_reply.specs.Replies.{asks_close, framed_body, unless_head}
use Rattle.tg_reply.specs.declared.status.Status.TheVariants as statuses
use Rattle.tg_reply.proofs.ChunkTexts.{whole_chunks}
use Rattle.tg_reply.proofs.ReplyHeads.{car_back, raw_back, refusals_back}

-- to a method that isn't HEAD the body goes with the head
sent : (head : RequestHead) (body : List ℕ) → is_head head.method ≡ false → unless_head head body ≡ body
sent head body e = cond-false (is_head head.method) [] body e

in_length : (head : RequestHead) (body : List ℕ) → is_head head.method ≡ false → BodyText (Length (length body)) body (unless_head head body)
in_length head body e = subst (BodyText (Length (length body)) body) (sym (sent head body e)) (refl, refl)

pub refusals_read : RefusalsRead
refusals_read head refusal e = record {
  head = refusals_back refusal (asks_close head || ends_connection refusal);
  body = in_length head (text_of refusal) e;
}

pub refused_bytes_read : RefusedBytesRead
refused_bytes_read refusal = record { head = refusals_back refusal (ends_connection refusal); body = (refl, refl) }

module _ (paths : (q : QueryParts) (name : List ℕ) → CidBytes q.root name → All (λ (name : List ℕ). All (λ (b : ℕ). b < 256) name) q.path → AllPass is_value_byte (asked_path q))
    (cars : CarsInParts) where
  pub raw_reads : RawReads
  raw_reads head q block g small fits = record {
    head = raw_back (asked_path q) (length block) (asks_close head) (paths q g.name g.root g.names) small fits;
    body = in_length head block g.method;
  }

  pub car_reads : CarReads
  car_reads head found q sections g spelled fits =
      let parts = car_parts q.root sections in
      let pass = paths q g.name g.root g.names in
      let back = car_back found q.dups (asked_path q) (asks_close head) pass in
      let car = cars q.root g.name sections g.root spelled in
      let body = sent head (framed_body head.minor false parts) g.method in (
        λ e. record {
          reads = record {
            head =
                subst (λ (m : ℕ). ReadsBack (head_text (car_status found) (car_fields found q.dups (asked_path q) m (asks_close head))) (number_of (car_status found)) (car_with_dups q.dups) Chunked) (sym e)
                (back.0 (subst (λ (m : ℕ). length (head_text (car_status found) (car_fields found q.dups (asked_path q) m (asks_close head))) ≤ 16384) e fits));
            body = subst (BodyText Chunked (joined parts)) (sym (body ∙ ap (λ (m : ℕ). framed_body m false parts) e)) (whole_chunks parts car.parts);
          };
          car = car;
        },
        λ e. record {
          reads = record {
            head =
                subst (λ (m : ℕ). ReadsBack (head_text (car_status found) (car_fields found q.dups (asked_path q) m (asks_close head))) (number_of (car_status found)) (car_with_dups q.dups) UntilClose) (sym e)
                (back.1 (subst (λ (m : ℕ). length (head_text (car_status found) (car_fields found q.dups (asked_path q) m (asks_close head))) ≤ 16384) e fits));
            body = subst (BodyText UntilClose (joined parts)) (sym (body ∙ ap (λ (m : ℕ). framed_body m false parts) e)) refl;
          };
          car = car;
        },
      )
