-- Answers that are a value or the first fault in the order of checks.
use Rattle.std.specs.Prelude.{Bool, Err, Ok, Result, false, true, ◌≡◌, ◌⊎◌}
use Rattle.tg_query.specs.declared.fault.QueryFault.{QueryFault}
use Rattle.tg_query.specs.declared.fault.QueryFault.TheVariants.{OutOfMemory}

-- one reading after another: the first fault is the answer
infixl 10 ◌>>=◌
abbrev pub ◌>>=◌ : {A B : Type 0} → Result A QueryFault → (A → Result B QueryFault) → Result B QueryFault
(Ok x) >>= f = f x
(Err e) >>= f = Err e

-- a fault where the test holds
abbrev pub unless : {A : Type 0} → Bool → QueryFault → Result A QueryFault → Result A QueryFault
unless true fault result = Err fault
unless false fault result = result

-- a result is this one, or memory was wanted
abbrev pub Gives : {A : Type 0} → Result A QueryFault → Result A QueryFault → Type 0
Gives given result = (result ≡ given) ⊎ (result ≡ Err OutOfMemory)
