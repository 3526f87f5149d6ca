-- What came of a body beside a whole one at the front of the same bytes, and that neither is longer than its text.
use Rattle.std.proofs.Common.{◌≡◌, ◌≢◌, ℕ, ◌<◌, ◌≤◌, true, None, List, [], ◌∷◌, ◌++◌, length, refl, sym, ap, subst, ◌∙◌, inl, inr, append_assoc, arith}
use Rattle.std.specs.Prelude.{◌⊎◌}
use Rattle.std.proofs.lemmas.List.{length-append}
use Rattle.httparse.specs.Ascii.{crlf_bytes}
use Rattle.tg_body.specs.Bodies.{BodyFront, BodyText, ChunkedText, ChunksText, InChunk}
use Rattle.tg_body.specs.History.{BreaksChunked, EndsInside, HasFeedCause, History, IsExact, StopsAtByte}
use Rattle.tg_body.specs.Laws.{BodyLaws}
use Rattle.tg_bytes.specs.Lists.{joined, longer}
use Rattle.tg_heard.proofs.BodiesSoFar.{body_fronts, front_front, one_front, taken}
use Rattle.tg_heard.proofs.Single.{one_body}
use Rattle.tg_heard.specs.FrontLaws.{BodyPieceLaws, IsShort}
use Rattle.tg_http.specs.declared.fault.HttpFault.TheVariants as https
use Rattle.tg_http.specs.declared.framing.Framing.{Framing}
use Rattle.tg_http.specs.declared.framing.Framing.TheVariants as framings

-- ---- no body is longer than its text

-- chunks are no longer than their text
chunks_fit : (chunks : List (List ℕ)) (bytes : List ℕ) → ChunksText chunks bytes → length (joined chunks) ≤ length bytes
chunks_fit [] bytes c = omega arith
chunks_fit (chunk ∷ chunks) bytes c =
    omega (
      arith,
      ap length c.2,
      length-append c.0 c.1,
      ap length c.3.whole,
      length-append c.3.line (chunk ++ crlf_bytes),
      length-append chunk crlf_bytes,
      length-append chunk (joined chunks),
      chunks_fit chunks c.1 c.4,
    )

-- nor is a whole body
body_fits : (framing : Framing) (body bytes : List ℕ) → BodyText framing body bytes → length body ≤ length bytes
body_fits (framings.Length n) body bytes b = omega (arith, ap length b.0)
body_fits framings.Chunked body bytes b =
    omega (arith, chunks_fit b.chunks b.front b.chunks_are, ap length b.body_is, ap length b.whole, length-append b.front (b.line ++ b.trailer))
body_fits framings.UntilClose body bytes b = omega (arith, ap length b)
body_fits framings.Broken body bytes b = absurd b

-- nor are bytes of the chunk at hand
part_fits : (part bytes : List ℕ) → InChunk part bytes → length part ≤ length bytes
part_fits part bytes (inl o) = omega (arith, ap length o.0)
part_fits part bytes (inr (inl d)) = omega (arith, ap length d.whole, length-append d.line part)
part_fits part bytes (inr (inr (inl d))) = by_end d.whole
  where
    by_end : (bytes ≡ d.line ++ part) ⊎ (bytes ≡ d.line ++ (part ++ 13 ∷ [])) → length part ≤ length bytes
    by_end (inl e) = omega (arith, ap length e, length-append d.line part)
    by_end (inr e) = omega (arith, ap length e, length-append d.line (part ++ 13 ∷ []), length-append part (13 ∷ []))
part_fits part bytes (inr (inr (inr t))) = omega (arith, ap length t.0)

-- nor is what came of a body
front_fits : (framing : Framing) (body bytes : List ℕ) → BodyFront framing body bytes → length body ≤ length bytes
front_fits (framings.Length n) body bytes f = omega (arith, ap length f.0)
front_fits framings.Chunked body bytes f =
    omega (
      arith,
      chunks_fit f.chunks f.front f.chunks_are,
      part_fits f.part f.rest f.inside,
      ap length f.body_is,
      length-append (joined f.chunks) f.part,
      ap length f.whole,
      length-append f.front f.rest,
    )
front_fits framings.UntilClose body bytes f = omega (arith, ap length f)
front_fits framings.Broken body bytes f = omega (arith, ap length f.0)

-- ---- beside a whole body

-- one of two lists is the longer one
either_longer : (a b : List ℕ) → (length a ≤ length b) ⊎ (length b < length a)
either_longer a b = grind arith

module _ (laws : BodyLaws) where
  -- ---- it is broken nowhere

  stops_nowhere : (body whole came given unheard more tail : List ℕ) → ChunkedText body whole → (s : StopsAtByte came given unheard)
      → came ++ (unheard ++ more) ≡ whole ++ tail → ⊥
  stops_nowhere body whole came given unheard more tail b s same = by_size (either_longer whole before)
    where
      before : List ℕ
      before = came ++ s.front

      behind : before ++ (s.last ∷ (s.more ++ more)) ≡ whole ++ tail
      behind =
          append_assoc came s.front (s.last ∷ (s.more ++ more))
          ∙ (ap (λ (l : List ℕ). came ++ l) (sym (append_assoc s.front (s.last ∷ s.more) more) ∙ ap (λ (l : List ℕ). l ++ more) (sym s.whole)) ∙ same)

      broken : List ℕ
      broken = before ++ s.last ∷ []

      after : broken ++ (s.more ++ more) ≡ whole ++ tail
      after = append_assoc before (s.last ∷ []) (s.more ++ more) ∙ behind

      all : History
      all = record { fed = whole; given = body; ended = true; stop = None }

      no_close : framings.Chunked ≡ framings.UntilClose → ⊥
      no_close same = cc

      exact : IsExact framings.Chunked all
      exact = record { so_far = (b, no_close); stopped = tt }

      by_size : (length whole ≤ length before) ⊎ (length before < length whole) → ⊥
      by_size (inl long) =
          let l = longer whole before tail (s.last ∷ (s.more ++ more)) (sym behind) long in
          laws.cut_not_whole given body before whole l.middle s.went_on b l.first
      by_size (inr short) =
          let l = longer broken whole (s.more ++ more) tail after (omega (arith, short, length-append before (s.last ∷ []))) in
          laws.none_missed all broken l.middle exact l.first s.breaks

  unbroken : (framing : Framing) (body whole came given unheard more tail : List ℕ) → BodyText framing body whole
      → HasFeedCause framing came given unheard https.BadFraming → came ++ (unheard ++ more) ≡ whole ++ tail → ⊥
  unbroken framing body whole came given unheard more tail b (inl e) same = subst (λ (f : Framing). BodyText f body whole) e b
  unbroken framing body whole came given unheard more tail b (inr (e, s)) same =
      stops_nowhere body whole came given unheard more tail (subst (λ (f : Framing). BodyText f body whole) e b) s same

  -- ---- bytes that hold it end nowhere inside of it

  not_inside : (framing : Framing) (body whole came given tail : List ℕ) → BodyText framing body whole → EndsInside framing given came
      → came ≡ whole ++ tail → ⊥
  not_inside (framings.Length n) body whole came given tail b i same = omega (arith, b.1, i.1, ap length same, length-append whole tail)
  not_inside framings.Chunked body whole came given tail b i same = laws.cut_not_whole given body came whole tail i b same
  not_inside framings.UntilClose body whole came given tail b i same = i
  not_inside framings.Broken body whole came given tail b i same = b

  -- nor do they go on
  not_on : (framing : Framing) (body whole came given tail : List ℕ) → BodyText framing body whole → BodyFront framing given came
      → IsShort framing came → framing ≢ framings.UntilClose → came ≡ whole ++ tail → ⊥
  not_on (framings.Length n) body whole came given tail b f short open_end same =
      omega (arith, b.1, short n refl, ap length same, length-append whole tail)
  not_on framings.Chunked body whole came given tail b f short open_end same = laws.cut_not_whole given body came whole tail f b same
  not_on framings.UntilClose body whole came given tail b f short open_end same = open_end refl
  not_on framings.Broken body whole came given tail b f short open_end same = b

  -- ---- what came is broken nowhere

  not_broken : (framing : Framing) (given came front middle : List ℕ) → BodyFront framing given came → framing ≡ framings.Chunked → came ≡ front ++ middle
      → BreaksChunked front → ⊥
  not_broken framing given came front middle f chunked whole breaks =
      laws.none_missed (taken laws came given) front middle (record { so_far = subst (λ (m : Framing). BodyFront m given came) chunked f; stopped = tt }) whole breaks

-- ---- in the words of the laws

pub body_piece_laws : BodyLaws → BodyPieceLaws
body_piece_laws laws = record {
  one_front = one_front laws;
  grows = front_front laws;
  fronts = body_fronts laws;
  one_body = one_body laws.one_whole;
  unbroken = unbroken laws;
  not_inside = not_inside laws;
  not_on = not_on laws;
  not_broken = not_broken laws;
  body_fits = body_fits;
  front_fits = front_fits;
}
