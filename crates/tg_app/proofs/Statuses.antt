-- The statuses of refusals.
use Rattle.std.proofs.Common.{◌≡◌, ◌⊎◌, List, Option, Some, false, inl, inr, nat_eq, refl, true, ℕ}
use Rattle.std.proofs.lemmas.Bool.{eq-eqb}
use Rattle.tg_commands.specs.Lines.{exit_status, status_of}
use Rattle.tg_commands.specs.declared.fault.CommandFault.{CommandFault}
use Rattle.tg_commands.specs.declared.fault.CommandFault.TheVariants.{NoPeerLeft, OutOfMemory, Usage}

-- it isn't that of a swarm whose peers were all refused, which has the status of one of them
abbrev pub IsOwn : CommandFault → Type 0
IsOwn refusal = (words : List ℕ) (status : ℕ) → refusal ≡ NoPeerLeft words status → ⊥

abbrev pub IsPeersEnd : Option CommandFault → Type 0
IsPeersEnd end = (words : List ℕ) × (status : ℕ) × (end ≡ Some (NoPeerLeft words status))

-- no other has that of a command that is done
pub not_zero : (refusal : CommandFault) → IsOwn refusal → status_of refusal ≡ 0 → ⊥
not_zero (NoPeerLeft words status) own e = own words status refl
not_zero refusal own e = cc

-- of the others one has that of words that are no command, and one that of want of memory
pub two_is : (end : Option CommandFault) → exit_status end ≡ 2 → (end ≡ Some Usage) ⊎ IsPeersEnd end
two_is (Some Usage) e = inl refl
two_is (Some (NoPeerLeft words status)) e = inr (words, status, refl)
two_is end e = cc

pub eight_is : (end : Option CommandFault) → exit_status end ≡ 8 → (end ≡ Some OutOfMemory) ⊎ IsPeersEnd end
eight_is (Some OutOfMemory) e = inl refl
eight_is (Some (NoPeerLeft words status)) e = inr (words, status, refl)
eight_is end e = cc

-- numbers that differ
pub differs : (m n : ℕ) → nat_eq m n ≡ false → m ≡ n → ⊥
differs m n apart e = let same : nat_eq m n ≡ true = eq-eqb m n e in cc
