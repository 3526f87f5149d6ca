-- What a dial means, which makes links to peers, and what its calls do.
use Rattle.std.specs.Prelude.{◌≡◌, ◌⊎◌, ◌≤◌, ℕ, Err, List, None, Ok, Option, Result, false, true}
use Rattle.tg_faults.specs.Faults.{Rose, counted}
use Rattle.tg_faults.specs.declared.calls.Failed.{Failed}
use Rattle.tg_links.specs.Links.{LinkMeaning}
use Rattle.tg_links.specs.Views.{IsFirst, IsNew, LinkView, and_call, is_failed, told_call, view_of}
use Rattle.tg_links.specs.declared.call.Call.{Call}
use Rattle.tg_streams.specs.Streams.{SourceMeaning}

-- what a kind of dial says of its values: what each peer will say that is dialled, told or not; what went through the links
-- that were given back, told or not; how many calls of `dial` failed, a number that stands still at 2 ^ 64 - 1; how many
-- faults there were; and that between two moments the peer at an address was dialled, answered or not
pub record DialMeaning (D : Type 0) : Type 1 where
  pub coming : D → Option (List (List ℕ))
  pub calls : D → Option (List Call)
  pub missed : D → ℕ
  pub faults : D → ℕ
  pub dialled : D → D → List ℕ → Type 0

-- a dial before and after a call, and the addresses whose peers were dialled between
pub record Dialling : Type 1 where
  pub coming_old : Option (List (List ℕ))
  pub coming_new : Option (List (List ℕ))
  pub calls_old : Option (List Call)
  pub calls_new : Option (List Call)
  pub missed_old : ℕ
  pub missed_new : ℕ
  pub faults_old : ℕ
  pub faults_new : ℕ
  pub dialled : List ℕ → Type 0

abbrev pub at_dial : {D : Type 0} → DialMeaning D → D → D → Dialling
at_dial m old new = record {
  coming_old = m.coming old;
  coming_new = m.coming new;
  calls_old = m.calls old;
  calls_new = m.calls new;
  missed_old = m.missed old;
  missed_new = m.missed new;
  faults_old = m.faults old;
  faults_new = m.faults new;
  dialled = m.dialled old new;
}

abbrev pub DialQuiet : Dialling → Type 0
DialQuiet dial = dial.faults_new ≡ dial.faults_old

abbrev pub DialRose : Dialling → Type 0
DialRose dial = Rose dial.faults_old dial.faults_new

abbrev pub KeepsComing : Dialling → Type 0
KeepsComing dial = dial.coming_new ≡ dial.coming_old

abbrev pub KeepsCalls : Dialling → Type 0
KeepsCalls dial = dial.calls_new ≡ dial.calls_old

abbrev pub KeepsMissed : Dialling → Type 0
KeepsMissed dial = dial.missed_new ≡ dial.missed_old

-- ---- dial

-- what a `dial` gives, as the dial sees it
abbrev pub dialled_link : {L : Type 0} → LinkMeaning L → SourceMeaning L → Result L Failed → Result LinkView Failed
dialled_link m source (Ok link) = Ok (view_of m source link)
dialled_link m source (Err fault) = Err fault

-- a link was made, through which nothing went yet, to the next of the peers to come; or none was, these stay, and a fault
-- was counted, as one that is missed
abbrev pub IsDialled : Dialling → Result LinkView Failed → Type 0
IsDialled dial (Ok link) = IsNew link × KeepsMissed dial × DialQuiet dial × IsFirst dial.coming_old dial.coming_new link.left
IsDialled dial (Err fault) = (dial.missed_new ≡ counted dial.missed_old) × DialRose dial × KeepsComing dial

-- ---- done

-- a link was given back: what went through it is told behind the others, or a fault was counted and nothing is told any
-- more; a fault of the link is one of the dial, and no other is counted
pub record IsHungUp (link : LinkView) (dial : Dialling) : Type 0 where
  pub calls : (dial.calls_new ≡ and_call dial.calls_old (told_call link)) ⊎ ((dial.calls_new ≡ None) × DialRose dial)
  pub failed : is_failed link.faults ≡ true → DialRose dial
  pub quiet : is_failed link.faults ≡ false → dial.calls_new ≡ and_call dial.calls_old (told_call link) → DialQuiet dial
  pub counted : dial.faults_old ≤ dial.faults_new
