-- What a caller knows of bytes that were taken or put, where they are told.
use Rattle.std.specs.Prelude.{◌≡◌, ℕ, List, ◌++◌, Option, Some, None}
use Rattle.std.specs.Option.{unwrap_or}
use Rattle.std.proofs.Common.{ap, sym}
use Rattle.std.proofs.lemmas.Option.{none-some}
use Rattle.tg_bytes.specs.Told.{after_front, grown}

pub told_front : (bytes front : List ℕ) (left : Option (List ℕ)) → Some bytes ≡ after_front front left
    → (rest : List ℕ) × (bytes ≡ front ++ rest)
told_front bytes front None same = absurd (none-some bytes (sym same))
told_front bytes front (Some rest) same = (rest, ap (λ told. unwrap_or told bytes) same)

pub told_grown : (held bytes now : List ℕ) → Some now ≡ grown (Some held) bytes → now ≡ held ++ bytes
told_grown held bytes now same = ap (λ told. unwrap_or told now) same
