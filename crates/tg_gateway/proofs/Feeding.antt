-- A piece of which more may come than may be received, and what a session does with it.
use Rattle.std.proofs.Common.{◌≡◌, ℕ, List, ◌++◌, Err, Option, sym, subst}
use Rattle.tg_gateway.proofs.Looking.{breaks_before}
use Rattle.tg_gateway.specs.Steps.{BreaksOff, TakeEnds}
use Rattle.tg_gateway.specs.declared.fault.GatewayFault.{GatewayFault}
use Rattle.tg_gateway.specs.declared.fault.GatewayFault.TheVariants as faults
use Rattle.tg_model.specs.Stores.{Lookups, Store}
use Rattle.tg_reply.specs.Sessions.{SessionState}
use Rattle.tg_streams.specs.Streams.{Output}

-- ---- a piece of which the front may be received

-- it was broken off in the front
pub front_broken : (told : Option Store) (old new : SessionState) (piece front past : List ℕ) (lookups : Lookups)
    (out : Output) (fault : GatewayFault)
    → piece ≡ front ++ past → BreaksOff told old new front lookups out fault
    → TakeEnds told old new piece lookups out (Err fault)
front_broken told old new piece front past lookups out (faults.Limit number) e h = absurd h
front_broken told old new piece front past lookups out faults.LinkFault e h =
    subst (λ (l : List ℕ). BreaksOff told old new l lookups out faults.LinkFault) (sym e)
    (breaks_before told old new front past lookups out faults.LinkFault h)
front_broken told old new piece front past lookups out faults.OutOfMemory e h =
    subst (λ (l : List ℕ). BreaksOff told old new l lookups out faults.OutOfMemory) (sym e)
    (breaks_before told old new front past lookups out faults.OutOfMemory h)
