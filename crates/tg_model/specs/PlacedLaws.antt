-- What a block that is read in place is read as.
use Rattle.std.proofs.Common.{◌≡◌, ℕ, Ok, Err, Result, List, inl, inr, refl}
use Rattle.tg_model.specs.Placed.{GivesPlaced, StandsForKind}
use Rattle.tg_model.specs.declared.fault.BlockFault.{BlockFault}
use Rattle.tg_model.specs.declared.fault.BlockFault.TheVariants as faults
use Rattle.tg_model.specs.declared.kinds.Kind.{Kind}
use Rattle.tg_model.specs.declared.placed.PlacedKind.{PlacedKind}

-- a kind in place stands for the kind that is computed
pub kind_of : (block : List ℕ) (placed : PlacedKind) (computed : Result Kind BlockFault)
    → GivesPlaced block (Ok placed) computed → (kind : Kind) × (computed ≡ Ok kind) × StandsForKind block placed kind
kind_of block placed (Ok kind) (inl h) = (kind, refl, h)
kind_of block placed (Err fault) (inl h) = absurd h
kind_of block placed computed (inr h) =
    let wrong : ◌≡◌ {A = Result PlacedKind BlockFault} (Ok placed) (Err faults.OutOfMemory) = h.0 in absurd (cc)
