-- The heads of a reply as a client hears them: interim heads, and the final one (RFC 9110, section 15.2; RFC 9112, section
-- 2.1).
use Rattle.httparse.specs.Grammar.{ResponseHead as ReplyTree}
use Rattle.std.specs.Prelude.{List, length, suc, zero, ℕ, ◌++◌, ◌<◌, ◌≡◌, ◌≤◌}
use Rattle.tg_http.specs.Heads.{HasHeadCause, IsNoReply, IsReply, IsWaiting, TellsReply}
use Rattle.tg_http.specs.declared.fault.HttpFault.{HttpFault}
use Rattle.tg_http.specs.declared.reply.ReplyHead.{ReplyHead}

-- the bytes begin with the head of a reply, and this follows it
pub record BeginsReply (bytes : List ℕ) (head : ReplyHead) (rest : List ℕ) : Type 0 where
  pub text : List ℕ
  pub tree : ReplyTree
  pub is_reply : IsReply bytes text tree
  pub told : TellsReply tree (length text) head
  pub whole : bytes ≡ text ++ rest

abbrev pub IsInterim : ReplyHead → Type 0
IsInterim head = (100 ≤ head.status) × (head.status < 200)

-- so many interim heads, and this follows them
pub data Interims : ℕ → List ℕ → List ℕ → Type 0 where
  none : (bytes : List ℕ) → Interims zero bytes bytes
  more : (count : ℕ) (bytes rest behind : List ℕ) (head : ReplyHead) → BeginsReply bytes head rest → IsInterim head
      → Interims count rest behind → Interims (suc count) bytes behind

-- at most 16 of them, the final head, and this follows it
pub record FinalHead (bytes : List ℕ) (head : ReplyHead) (rest : List ℕ) : Type 0 where
  pub count : ℕ
  pub behind : List ℕ
  pub interims : Interims count bytes behind
  pub few : count ≤ 16
  pub begins : BeginsReply behind head rest
  pub final : IsInterim head → ⊥

-- no reply begins with these bytes: at the place of a head they hold none, or a seventeenth interim head came
pub data HasBadHead (bytes : List ℕ) : Type 0 where
  no_head : (count : ℕ) (behind : List ℕ) (fault : HttpFault) → Interims count bytes behind → count ≤ 16
      → HasHeadCause IsNoReply behind fault → HasBadHead bytes
  too_many : (behind : List ℕ) → Interims 17 bytes behind → HasBadHead bytes

-- the final head isn't whole in these bytes
pub record IsOpenHead (bytes : List ℕ) : Type 0 where
  pub count : ℕ
  pub behind : List ℕ
  pub interims : Interims count bytes behind
  pub few : count ≤ 16
  pub waiting : IsWaiting behind
