-- What is behind whole chunks.
use Rattle.std.proofs.Common.{◌≡◌, ℕ, zero, suc, ◌+◌, Bool, false, List, [], ◌∷◌, ◌++◌, length, refl, sym, ap, ◌∙◌, subst, inl, inr, arith, append_assoc}
use Rattle.std.proofs.lemmas.List.{append-nil}
use Rattle.tg_http.specs.declared.framing.Framing.{Framing}
use Rattle.tg_http.specs.declared.framing.Framing.TheVariants as framings
use Rattle.tg_body.specs.declared.stage.Stage.{Stage}
use Rattle.tg_body.specs.declared.stage.Stage.TheVariants as stages
use Rattle.tg_body.specs.Bodies.{SizeLine, ChunkText, ChunksText, BodyFront, ChunkedFront, InChunk}
use Rattle.tg_body.specs.History.{IsSoFar}
use Rattle.tg_body.specs.State.{BehindChunks, Holds, is_done}

pub chunked_front : (body bytes part rest : List ℕ) → BehindChunks body bytes part rest → InChunk part rest → ChunkedFront body bytes
chunked_front body bytes part rest b i = record {
  chunks = b.chunks;
  front = b.front;
  part = part;
  rest = rest;
  chunks_are = b.chunks_are;
  inside = i;
  whole = b.whole;
  body_is = b.body_is;
}

-- what a stage holds is what the bytes are
pub so_far : (framing : Framing) (stage : Stage) (came body bytes : List ℕ) → Holds framing stage came body bytes → IsSoFar framing (is_done stage) body bytes
so_far framing (stages.Length left) came body bytes h =
    subst (λ (f : Framing). BodyFront f body bytes) (sym h.2) (h.1, omega arith)
so_far framing stages.UntilClose came body bytes h = subst (λ (f : Framing). BodyFront f body bytes) (sym h.2) h.1
so_far framing stages.Line came body bytes h =
    subst (λ (f : Framing). BodyFront f body bytes) (sym h.0) (chunked_front body bytes [] came h.1 (inl (refl, h.2)))
so_far framing (stages.Data zero) came body bytes h =
    let number : length h.3 + 0 ≡ length h.3 = omega arith in
    subst (λ (f : Framing). BodyFront f body bytes) (sym h.0)
    (chunked_front body bytes h.3 (h.2 ++ h.3) h.4
    (inr (inr (inl (record { line = h.2; line_is = subst (λ n. SizeLine n h.2) number h.5; some = omega (arith, h.6); whole = inl refl })))))
so_far framing (stages.Data (suc left)) came body bytes h =
    subst (λ (f : Framing). BodyFront f body bytes) (sym h.0)
    (chunked_front body bytes h.3 (h.2 ++ h.3) h.4
    (inr (inl (record { size = length h.3 + suc left; line = h.2; line_is = h.5; inside = omega arith; whole = refl }))))
so_far framing stages.Feed came body bytes h =
    subst (λ (f : Framing). BodyFront f body bytes) (sym h.0)
    (chunked_front body bytes h.3 (h.2 ++ (h.3 ++ 13 ∷ [])) h.4
    (inr (inr (inl (record { line = h.2; line_is = h.5; some = h.6; whole = inr refl })))))
so_far framing (stages.Trailer begun) came body bytes h =
    subst (λ (f : Framing). BodyFront f body bytes) (sym h.0)
    (chunked_front body bytes [] (h.1 ++ came) h.2
    (inr (inr (inr (
      refl,
      record {
        line = h.1;
        block = came;
        line_is = h.3;
        block_is = record { lines = h.4; rest = h.5; lines_are = h.7; no_feed = h.8; whole = h.6; few = h.10 };
        whole = refl;
      },
    )))))
so_far framing stages.Done came body bytes h = h
so_far framing stages.Broken came body bytes h = subst (λ (f : Framing). BodyFront f body bytes) (sym h.0) (h.1, h.2)

-- in chunks that aren't whole, a body goes on with what came
pub held_front : (framing : Framing) (stage : Stage) (came body bytes : List ℕ) → framing ≡ framings.Chunked → is_done stage ≡ false
    → Holds framing stage came body bytes → ChunkedFront body bytes
held_front framing stage came body bytes chunked going h =
    let far : IsSoFar framing (is_done stage) body bytes = so_far framing stage came body bytes h in
    let front : BodyFront framing body bytes = subst (λ (b : Bool). IsSoFar framing b body bytes) going far in
    subst (λ (f : Framing). BodyFront f body bytes) chunked front

pub chunks_more : (chunks : List (List ℕ)) (front chunk bytes : List ℕ) → ChunksText chunks front → ChunkText chunk bytes
    → ChunksText (chunks ++ chunk ∷ []) (front ++ bytes)
chunks_more [] front chunk bytes c t = (bytes, [], ap (λ (s : List ℕ). s ++ bytes) c ∙ sym (append-nil bytes), t, refl)
chunks_more (x ∷ chunks) front chunk bytes c t =
    (c.0, c.1 ++ bytes, ap (λ (s : List ℕ). s ++ bytes) c.2 ∙ append_assoc c.0 c.1 bytes, c.3, chunks_more chunks c.1 chunk bytes c.4 t)

-- one byte more behind what came
pub byte_behind : (front a b : List ℕ) (byte : ℕ) (bytes : List ℕ) → bytes ≡ front ++ (a ++ b) → bytes ++ byte ∷ [] ≡ front ++ (a ++ (b ++ byte ∷ []))
byte_behind front a b byte bytes is =
    ap (λ (s : List ℕ). s ++ byte ∷ []) is ∙ append_assoc front (a ++ b) (byte ∷ []) ∙ ap (λ (s : List ℕ). front ++ s) (append_assoc a b (byte ∷ []))
