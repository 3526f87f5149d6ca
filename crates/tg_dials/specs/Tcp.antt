-- What a contract sees of a dial over TCP.
use Rattle.std.specs.Prelude.{ℕ, None, ⊤}
use Rattle.tg_dials.specs.Dials.{DialMeaning}

pub record TcpDialState : Type 0 where
  pub missed : ℕ
  pub faults : ℕ

-- it tells neither what the peers will say nor what went through the links that were given back; that it connects to the
-- address it is given is shown by a test alone
abbrev pub tcp_dial : DialMeaning TcpDialState
tcp_dial = record { coming = λ _. None; calls = λ _. None; missed = λ s. s.missed; faults = λ s. s.faults; dialled = λ before now addr. ⊤ }
