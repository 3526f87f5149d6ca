-- Bytes that end inside a body.
use Rattle.std.proofs.Common.{◌≡◌, ◌≢◌, ℕ, ◌<◌, ◌≤◌, List, length, arith}
use Rattle.std.specs.Prelude.{◌⊎◌}
use Rattle.tg_body.specs.Bodies.{BodyFront}
use Rattle.tg_body.specs.History.{EndsInside}
use Rattle.tg_heard.specs.FrontLaws.{IsShort}
use Rattle.tg_http.specs.declared.framing.Framing.{Framing}
use Rattle.tg_http.specs.declared.framing.Framing.TheVariants as framings

-- the number of a stated length is one
one_number : (n m : ℕ) → framings.Length n ≡ framings.Length m → n ≡ m
one_number n m e = cc

-- bytes that end inside a body are a front of one
pub inside_front : (framing : Framing) (given came : List ℕ) → EndsInside framing given came → BodyFront framing given came
inside_front (framings.Length n) given came i = (i.0, omega (arith, i.1))
inside_front framings.Chunked given came i = i
inside_front framings.UntilClose given came i = absurd i
inside_front framings.Broken given came i = i

-- which isn't whole
pub inside_short : (framing : Framing) (given came : List ℕ) → EndsInside framing given came → IsShort framing came
inside_short (framings.Length n) given came i number e = omega (arith, i.1, one_number n number e)
inside_short framings.Chunked given came i number e = absurd cc
inside_short framings.UntilClose given came i number e = absurd cc
inside_short framings.Broken given came i number e = absurd cc

-- and doesn't go on until the link closes
pub inside_ends : (framing : Framing) (given came : List ℕ) → EndsInside framing given came → framing ≢ framings.UntilClose
inside_ends (framings.Length n) given came i e = absurd cc
inside_ends framings.Chunked given came i e = absurd cc
inside_ends framings.UntilClose given came i e = i
inside_ends framings.Broken given came i e = absurd cc

-- one of two lists is the longer one
pub either_longer : (a b : List ℕ) → (length a ≤ length b) ⊎ (length b < length a)
either_longer a b = grind arith
