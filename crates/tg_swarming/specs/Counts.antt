-- How many links there are: of a dial that tells what its peers will say and what went through the links that were given back, as many are
-- told of more as peers are fewer to come and links fewer open.
use Rattle.std.specs.Prelude.{List, None, Option, Some, length, map, sum, ℕ, ◌+◌, ◌≡◌}
use Rattle.tg_dials.specs.Dials.{DialMeaning, Dialling}
use Rattle.tg_links.specs.declared.call.Call.{Call}

abbrev pub one_if_open : {L : Type 0} → Option L → ℕ
one_if_open (Some link) = 1
one_if_open None = 0

abbrev pub open_count : {L : Type 0} → List (Option L) → ℕ
open_count links = sum (map one_if_open links)

-- the peers to come, the links that are open, and those that were given back, where they are told
abbrev pub count_of : Option (List (List ℕ)) → Option (List Call) → ℕ → Option ℕ
count_of (Some coming) (Some calls) links = Some (links + (length coming + length calls))
count_of (Some coming) None links = None
count_of None calls links = None

-- where they are told then they were before, and were as many
abbrev pub KeepsCount : {D : Type 0} → DialMeaning D → D → ℕ → D → ℕ → Type 0
KeepsCount m a links b later =
    (n : ℕ) → count_of (m.coming b) (m.calls b) later ≡ Some n → count_of (m.coming a) (m.calls a) links ≡ Some n

-- each link that was made was given back
abbrev pub AllBack : Dialling → Type 0
AllBack dial = (n : ℕ) → count_of dial.coming_new dial.calls_new 0 ≡ Some n → count_of dial.coming_old dial.calls_old 0 ≡ Some n
