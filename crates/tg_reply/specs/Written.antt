-- The replies of a gateway over a store to a stream of bytes, as a function of the bytes (RFC 9112, sections 2.2 and
-- 9.3).
use Rattle.std.specs.Prelude.{List, [], if◌then◌else◌, length, suc, zero, ℕ, ◌++◌}
use Rattle.tg_model.specs.Stores.{Store}
use Rattle.tg_reply.specs.FirstHead.{First, begins, first_head, no_head, passes_limit, waits}
use Rattle.tg_reply.specs.Replies.{Reply, refused_bytes, reply, reply_bytes}
use Rattle.tg_reply.specs.Streams.{Replies}
use Rattle.tg_reply.specs.declared.refusal.Refusal.TheVariants.{BadHead, HeadLimit}

-- a reply, and behind it what is written for the rest, where the connection stays open
abbrev pub reply_and : Reply → List ℕ → List ℕ
reply_and found more = if found.closes then reply_bytes found else reply_bytes found ++ more

-- what is written for the first head, and behind it what is written for the rest
abbrev pub written_first : Store → (List ℕ → List ℕ) → First → List ℕ
written_first store written_rest waits = []
written_first store written_rest passes_limit = reply_bytes (refused_bytes HeadLimit)
written_first store written_rest no_head = reply_bytes (refused_bytes BadHead)
written_first store written_rest (begins head rest) = reply_and (reply store head) (written_rest rest)

-- the replies to at most so many heads
abbrev pub replies_up_to : ℕ → Store → List ℕ → List ℕ
replies_up_to zero store bytes = []
replies_up_to (suc most) store bytes = written_first store (replies_up_to most store) (first_head bytes)

-- there are no more heads than bytes
abbrev pub replies_for : Store → List ℕ → List ℕ
replies_for store bytes = replies_up_to (suc (length bytes)) store bytes

-- what is written for bytes can be computed
abbrev pub WritingComputes : Type 0
WritingComputes = (store : Store) (bytes : List ℕ) → Replies store bytes (replies_for store bytes)
