-- The heads of a reply while they come (RFC 9110, section 15.2; RFC 9112, section 2.2).
use Rattle.std.specs.Prelude.{List, None, Option, Some, [], ⊤, ℕ, ◌≤◌}
use Rattle.tg_fetch.specs.HeadsStates.{HeadsState}
use Rattle.tg_fetch.specs.declared.fault.FetchFault.{FetchFault}
use Rattle.tg_fetch.specs.declared.fault.FetchFault.TheVariants as faults
use Rattle.tg_heard.specs.FinalHeads.{FinalHead, HasBadHead, Interims}
use Rattle.tg_http.specs.Heads.{IsWaiting}
use Rattle.tg_http.specs.declared.reply.ReplyHead.{ReplyHead}

-- so many interim heads came, and behind them these bytes, in which no head is whole
pub record IsInHeads (heads : HeadsState) (heard : List ℕ) : Type 0 where
  pub interims : Interims heads.interims heard heads.came
  pub few : heads.interims ≤ 16
  pub waiting : IsWaiting heads.came

-- behind these bytes it goes on, or the final head is whole
abbrev pub HeadsGo : HeadsState → List ℕ → Option ReplyHead → Type 0
HeadsGo heads bytes None = IsInHeads heads bytes
HeadsGo heads bytes (Some head) = FinalHead bytes head []

-- or they are refused
abbrev pub HeadsStop : List ℕ → FetchFault → Type 0
HeadsStop bytes faults.BadReplyHead = HasBadHead bytes
HeadsStop bytes faults.OutOfMemory = ⊤
HeadsStop bytes other = ⊥
