-- What a contract sees of a dial in memory.
use Rattle.std.specs.Prelude.{ℕ, ⊤, List, Option, Some, ◌≡◌}
use Rattle.tg_dials.specs.Dials.{DialMeaning}
use Rattle.tg_links.specs.Memory.{LinkState}
use Rattle.tg_links.specs.declared.call.Call.{Call}

pub record DialState : Type 0 where
  pub replies : List (List ℕ)  -- what the peers will say that are dialled
  pub told : Option (List Call)
  pub missed : ℕ
  pub piece : ℕ  -- the most that one take or put of a link moves
  pub fails : List ℕ  -- the numbers of the calls that fail, counted from 0
  pub made : ℕ  -- how many calls were made, those of its links among them
  pub faults : ℕ  -- how many calls failed

-- it tells what the peers will say, and what went through the links that were given back while there was memory for it; to
-- it all addresses are one
abbrev pub mem_dial : DialMeaning DialState
mem_dial = record { coming = λ s. Some s.replies; calls = λ s. s.told; missed = λ s. s.missed; faults = λ s. s.faults; dialled = λ before now addr. ⊤ }

-- a link to a peer that says this: its calls are those behind the dial's, and it moves and fails as the dial says
pub record IsLinkTo (dial : DialState) (reply : List ℕ) (link : LinkState) : Type 0 where
  pub rest : link.rest ≡ reply
  pub calls : link.calls ≡ dial.made
  pub piece : link.piece ≡ dial.piece
  pub fails : link.fails ≡ dial.fails
