-- What the answer of a reading says of the kind that is computed.
use Rattle.std.proofs.Common.{◌≡◌, ◌⊎◌, inl, inr, Ok, Err, Result, sym, ◌∙◌}
use Rattle.std.specs.Prelude.{IfErr, IfOk, MatchResult}
use Rattle.tg_model.proofs.ComputedSteps.{one_value}
use Rattle.tg_model.specs.Computed.{Gives}
use Rattle.tg_model.specs.InnerFaults.{IsNoWantOfMemory}
use Rattle.tg_model.specs.declared.fault.BlockFault.{BlockFault}
use Rattle.tg_model.specs.declared.fault.BlockFault.TheVariants as faults
use Rattle.tg_model.specs.declared.kinds.Kind.{Kind}

pub given_found : (result computed : Result Kind BlockFault) (IsKind : Kind → Type 0) → Gives computed result → ((kind : Kind) → computed ≡ Ok kind → IsKind kind)
    → IfOk result IsKind
given_found (Ok kind) computed IsKind (inl same) is = is kind (sym same)
given_found (Ok kind) computed IsKind (inr wanted) is = absurd (cc)
given_found (Err fault) computed IsKind given is = tt

pub given_only : (result computed : Result Kind BlockFault) (kind : Kind) → Gives computed result → computed ≡ Ok kind
    → MatchResult result (λ found. found ≡ kind) (λ e. e ≡ faults.OutOfMemory)
given_only (Ok found) computed kind (inl same) e = one_value found kind (same ∙ e)
given_only (Ok found) computed kind (inr wanted) e = absurd (cc)
given_only (Err fault) computed kind (inl same) e = absurd (cc)
given_only (Err fault) computed kind (inr wanted) e = cc

pub given_inner : (result computed : Result Kind BlockFault) → Gives computed result → ((fault : BlockFault) → computed ≡ Err fault → IsNoWantOfMemory fault)
    → IfErr result (λ fault. (fault ≡ faults.OutOfMemory) ⊎ IsNoWantOfMemory fault)
given_inner (Ok kind) computed given is = tt
given_inner (Err fault) computed (inl same) is = inr (is fault (sym same))
given_inner (Err fault) computed (inr wanted) is = inl (cc)
