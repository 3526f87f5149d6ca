-- What holds of bodies and of what a reader gives of them.
use Rattle.std.specs.Prelude.{◌≡◌, ◌≢◌, ℕ, true, Some, List, ◌++◌}
use Rattle.tg_http.specs.declared.fault.HttpFault.{HttpFault}
use Rattle.tg_http.specs.declared.fault.HttpFault.TheVariants.{OutOfMemory}
use Rattle.tg_http.specs.declared.framing.Framing.{Framing}
use Rattle.tg_http.specs.declared.framing.Framing.TheVariants.{Chunked, UntilClose}
use Rattle.tg_body.specs.Bodies.{ChunkedText, BodyFront, BodyText}
use Rattle.tg_body.specs.History.{History, at_piece, BreaksChunked, IsExact}

-- At the front of bytes stands one whole body at most, where the framing says how a body ends: two of them have the same
-- content, and they are the same bytes.
abbrev pub OneWholeBody : Type 0
OneWholeBody =
    (framing : Framing) (body other bytes text more rest : List ℕ) → framing ≢ UntilClose → BodyText framing body bytes
    → BodyText framing other text → bytes ++ more ≡ text ++ rest → (body ≡ other) × (bytes ≡ text)

-- A body in chunks that was cut holds no whole one: bytes with which it goes on aren't one, and no front of them is.
abbrev pub CutIsNotWhole : Type 0
CutIsNotWhole =
    (body other bytes whole more : List ℕ) → BodyFront Chunked body bytes → BodyText Chunked other whole
    → bytes ≡ whole ++ more → ⊥

pub record BodyLaws : Type 0 where
  -- a reader missed no refusal: no byte that it took is one with which no body goes on
  pub none_missed : (h : History) (front more : List ℕ) → IsExact Chunked h → h.fed ≡ front ++ more
      → BreaksChunked front → ⊥
  -- a reader missed no end: where chunks and their trailer came whole, and no byte more was taken, the end was given
  pub end_given : (h : History) (body : List ℕ) → IsExact Chunked h → ChunkedText body h.fed
      → (h.ended ≡ true) × (h.given ≡ body)
  -- readers that took the same bytes gave the same, however they were cut
  pub one_division : (framing : Framing) (g h : History) → IsExact framing g → IsExact framing h → g.fed ≡ h.fed
      → g.given ≡ h.given
  -- readers that were handed the same bytes in chunks and refused them had given the same, however they were cut and
  -- whatever followed
  pub one_refusal : (g h : History) (p q x y : List ℕ) (e f : HttpFault) → IsExact Chunked g → IsExact Chunked h
      → g.stop ≡ Some (at_piece p e) → h.stop ≡ Some (at_piece q f) → e ≢ OutOfMemory → f ≢ OutOfMemory
      → (g.fed ++ p) ++ x ≡ (h.fed ++ q) ++ y → (e ≡ f) × (g.given ≡ h.given)
  -- one whole body is at the front of bytes
  pub one_whole : OneWholeBody
  -- bytes of a body in chunks that isn't ended hold no whole one
  pub cut_not_whole : CutIsNotWhole
