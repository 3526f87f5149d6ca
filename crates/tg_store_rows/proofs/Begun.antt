-- What generic code leaves of a pack in memory.
use Rattle.std.proofs.Common.{◌≡◌, ℕ, List, [], ◌∷◌, ◌++◌, true, Option, Some, None, IfSome}
use Rattle.tg_files.specs.Packs.{written}
use Rattle.tg_files.specs.Packs.PackWrite.{append, attach}

-- a pack that was made fresh holds what was put into it since
pub begun : (old new : Option (List ℕ)) (path head body : List ℕ) → new ≡ written old (attach path true ∷ append head ∷ append body ∷ []) → IfSome old (λ held. new ≡ Some (head ++ body))
begun None new path head body e = tt
begun (Some held) new path head body e = e
