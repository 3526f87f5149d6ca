-- What is written for bytes can be computed.
use Rattle.std.proofs.Common.{◌≡◌, ℕ, zero, suc, ◌<◌, Bool, true, false, List, length, refl, arith}
use Rattle.tg_http.specs.declared.request.RequestHead.{RequestHead}
use Rattle.tg_model.specs.Stores.{Store}
use Rattle.tg_reply.specs.FirstHead.{First, FirstHeads, IsFirst, begins, first_head, no_head, passes_limit, waits}
use Rattle.tg_reply.specs.Replies.{reply}
use Rattle.tg_reply.specs.Streams as streams
use Rattle.tg_reply.specs.Streams.{BeginsRequest, Replies}
use Rattle.tg_reply.specs.Written.{WritingComputes, replies_up_to, reply_and, written_first}

module _ (store : Store) where
  -- what is written for a request, where it is what is written for the rest
  by_request : (written_rest : List ℕ → List ℕ) (bytes rest : List ℕ) (head : RequestHead) → BeginsRequest bytes head rest → Replies store rest (written_rest rest)
      → Replies store bytes (reply_and (reply store head) (written_rest rest))
  by_request written_rest bytes rest head b below = by_close (reply store head).closes refl
    where
      by_close : (c : Bool) → (reply store head).closes ≡ c → Replies store bytes (reply_and (reply store head) (written_rest rest))
      by_close true e = rw e (streams.closes bytes rest head b e)
      by_close false e = rw e (streams.goes_on bytes rest (written_rest rest) head b e below)

  by_first : (written_rest : List ℕ → List ℕ) (bytes : List ℕ) (first : First) → IsFirst bytes first
      → ((rest : List ℕ) → length rest < length bytes → Replies store rest (written_rest rest))
      → Replies store bytes (written_first store written_rest first)
  by_first written_rest bytes waits h below = streams.waits bytes h
  by_first written_rest bytes passes_limit h below = streams.passes_limit bytes h
  by_first written_rest bytes no_head h below = streams.no_head bytes h
  by_first written_rest bytes (begins head rest) h below = by_request written_rest bytes rest head h.0 (below rest h.1)

  by_size : FirstHeads → (most : ℕ) (bytes : List ℕ) → length bytes < most → Replies store bytes (replies_up_to most store bytes)
  by_size firsts zero bytes small = absurd (omega (arith, small))
  by_size firsts (suc most) bytes small =
      by_first (replies_up_to most store) bytes (first_head bytes) (firsts bytes) (λ rest less. by_size firsts most rest (omega (arith, small, less)))

pub written_for : FirstHeads → WritingComputes
written_for firsts store bytes = by_size store firsts (suc (length bytes)) bytes (omega arith)
