-- What std knows of a reader's and a writer's bytes where they are told, as sources and sinks say it.
use Rattle.std.specs.Prelude.{◌≡◌, ℕ, List, [], Option, Some, None}
use Rattle.std.specs.Io.KnownBytes.{Appends, Consumes, IsAtEnd}
use Rattle.std.proofs.Common.{ap, sym, ◌∙◌, append-nil}
use Rattle.tg_bytes.specs.Told.{after_front, grown, IsNothing}
use Rattle.tg_streams.specs.Known.{IsTold}

pub took : (a b : Option (List ℕ)) (bytes : List ℕ) → IsTold a → IsTold b → Consumes a b bytes → a ≡ after_front bytes b
took None b bytes told now moved = absurd told
took (Some xs) None bytes told now moved = absurd now
took (Some xs) (Some ys) bytes told now moved = ap Some moved

pub ended : (known : Option (List ℕ)) → IsAtEnd known → IsNothing known
ended None end = tt
ended (Some xs) end = end

pub untaken : (a b : Option (List ℕ)) → IsTold a → IsTold b → Consumes a b [] → b ≡ a
untaken None b told now moved = absurd told
untaken (Some xs) None told now moved = absurd now
untaken (Some xs) (Some ys) told now moved = ap Some (sym moved)

pub put : (a b : Option (List ℕ)) (bytes : List ℕ) → IsTold a → IsTold b → Appends a b bytes → b ≡ grown a bytes
put None b bytes told now moved = absurd told
put (Some xs) None bytes told now moved = absurd now
put (Some xs) (Some ys) bytes told now moved = ap Some moved

pub unput : (a b : Option (List ℕ)) → IsTold a → IsTold b → Appends a b [] → b ≡ a
unput None b told now moved = absurd told
unput (Some xs) None told now moved = absurd now
unput (Some xs) (Some ys) told now moved = ap Some (moved ∙ append-nil xs)
