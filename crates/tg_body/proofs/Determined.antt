-- What a reader gives and refuses is determined by the bytes.
use Rattle.std.proofs.Common.{◌≡◌, ◌≢◌, ℕ, ◌⊎◌, Bool, true, false, Option, Some, List, [], ◌∷◌, ◌++◌, ◌+◌, length, arith, refl, sym, ap, ap₂, ◌∙◌, subst, inl, inr, append_assoc}
use Rattle.tg_http.specs.declared.fault.HttpFault.{HttpFault}
use Rattle.tg_http.specs.declared.fault.HttpFault.TheVariants as faults
use Rattle.tg_http.specs.declared.framing.Framing.{Framing}
use Rattle.tg_http.specs.declared.framing.Framing.TheVariants as framings
use Rattle.tg_body.specs.declared.stage.Stage.{Stage}
use Rattle.tg_body.specs.declared.stage.Stage.TheVariants as stages
use Rattle.tg_http.specs.Laws.{LineLaws}
use Rattle.tg_body.specs.Bodies.{ChunkedText, ChunkedFront, BodyText}
use Rattle.tg_body.specs.History.{History, Stop, at_piece, IsSoFar, IsExact, HasStopped, HasFeedCause, StopsAtByte, BreaksChunked}
use Rattle.tg_body.specs.State.{Holds, HasNothingLeft}
use Rattle.tg_body.proofs.Behind.{held_front}
use Rattle.tg_body.proofs.Divisions.{Place, front_place, text_place, one_body, front_not_text}
use Rattle.tg_body.proofs.Breaks.{break_not_front, break_not_text}

none_so_far : LineLaws → (ended : Bool) (body bytes front more : List ℕ) → IsSoFar framings.Chunked ended body bytes → bytes ≡ front ++ more → BreaksChunked front → ⊥
none_so_far laws true body bytes front more s e b = break_not_text laws body front more b (subst (ChunkedText body) e s.0)
none_so_far laws false body bytes front more s e b = break_not_front laws body front more b (subst (ChunkedFront body) e s)

pub none_missed : LineLaws → (h : History) (front more : List ℕ) → IsExact framings.Chunked h → h.fed ≡ front ++ more → BreaksChunked front → ⊥
none_missed laws h front more x e b = none_so_far laws h.ended h.given h.fed front more x.so_far e b

ended_so_far : LineLaws → (ended : Bool) (given body bytes : List ℕ) → IsSoFar framings.Chunked ended given bytes → ChunkedText body bytes → (ended ≡ true) × (given ≡ body)
ended_so_far laws true given body bytes s t = (refl, one_body laws given body bytes (text_place laws given bytes s.0) (text_place laws body bytes t))
ended_so_far laws false given body bytes s t = absurd (front_not_text laws given body bytes s t)

pub end_given : LineLaws → (h : History) (body : List ℕ) → IsExact framings.Chunked h → ChunkedText body h.fed → (h.ended ≡ true) × (h.given ≡ body)
end_given laws h body x t = ended_so_far laws h.ended h.given body h.fed x.so_far t

chunked_place : LineLaws → (ended : Bool) (body bytes : List ℕ) → IsSoFar framings.Chunked ended body bytes → Place body bytes
chunked_place laws true body bytes s = text_place laws body bytes s.0
chunked_place laws false body bytes s = front_place laws body bytes s

length_given : (number : ℕ) (ended : Bool) (body bytes : List ℕ) → IsSoFar (framings.Length number) ended body bytes → body ≡ bytes
length_given number true body bytes s = s.0.0
length_given number false body bytes s = s.0

close_given : (ended : Bool) (body bytes : List ℕ) → IsSoFar framings.UntilClose ended body bytes → body ≡ bytes
close_given true body bytes s = s.0
close_given false body bytes s = s

broken_given : (ended : Bool) (body bytes : List ℕ) → IsSoFar framings.Broken ended body bytes → body ≡ []
broken_given true body bytes s = absurd s.0
broken_given false body bytes s = s.0

one_so_far : LineLaws → (framing : Framing) (x y : Bool) (b c bytes : List ℕ) → IsSoFar framing x b bytes → IsSoFar framing y c bytes → b ≡ c
one_so_far laws (framings.Length number) x y b c bytes s t = length_given number x b bytes s ∙ sym (length_given number y c bytes t)
one_so_far laws framings.Chunked x y b c bytes s t = one_body laws b c bytes (chunked_place laws x b bytes s) (chunked_place laws y c bytes t)
one_so_far laws framings.UntilClose x y b c bytes s t = close_given x b bytes s ∙ sym (close_given y c bytes t)
one_so_far laws framings.Broken x y b c bytes s t = broken_given x b bytes s ∙ sym (broken_given y c bytes t)

pub one_division : LineLaws → (framing : Framing) (g h : History) → IsExact framing g → IsExact framing h → g.fed ≡ h.fed → g.given ≡ h.given
one_division laws framing g h x y same =
    one_so_far laws framing g.ended h.ended g.given h.given h.fed (subst (λ (b : List ℕ). IsSoFar framing g.ended g.given b) same x.so_far) y.so_far

stop_at : (fault : HttpFault) (fed given piece : List ℕ) → HasFeedCause framings.Chunked fed given piece fault → fault ≢ faults.OutOfMemory
    → (fault ≡ faults.BadFraming) × StopsAtByte fed given piece
stop_at faults.BadFraming fed given piece (inl other) some = absurd (no_broken other)
  where
    no_broken : framings.Chunked ≡ framings.Broken → ⊥
    no_broken e = cc
stop_at faults.BadFraming fed given piece (inr c) some = (refl, c.1)
stop_at faults.OutOfMemory fed given piece c some = absurd (some refl)
stop_at faults.BadHead fed given piece c some = absurd c
stop_at faults.HeadLimit fed given piece c some = absurd c

with_head : (z t : ℕ) (a b : List ℕ) (x y : ℕ) → z ≡ t
    → (a ≡ b) ⊎ (((w : List ℕ) × (b ≡ (a ++ x ∷ []) ++ w)) ⊎ ((w : List ℕ) × (a ≡ (b ++ y ∷ []) ++ w)))
    → (z ∷ a ≡ t ∷ b) ⊎ (((w : List ℕ) × (t ∷ b ≡ ((z ∷ a) ++ x ∷ []) ++ w)) ⊎ ((w : List ℕ) × (z ∷ a ≡ ((t ∷ b) ++ y ∷ []) ++ w)))
with_head z t a b x y h (inl same) = inl (ap₂ (λ (m : ℕ) (s : List ℕ). m ∷ s) h same)
with_head z t a b x y h (inr (inl w)) = inr (inl (w.0, ap₂ (λ (m : ℕ) (s : List ℕ). m ∷ s) (sym h) w.1))
with_head z t a b x y h (inr (inr w)) = inr (inr (w.0, ap₂ (λ (m : ℕ) (s : List ℕ). m ∷ s) h w.1))

-- of two places in the same bytes one is before the other, or they are one
same_place : (a b u v : List ℕ) (x y : ℕ) → a ++ x ∷ u ≡ b ++ y ∷ v
    → (a ≡ b) ⊎ (((w : List ℕ) × (b ≡ (a ++ x ∷ []) ++ w)) ⊎ ((w : List ℕ) × (a ≡ (b ++ y ∷ []) ++ w)))
same_place [] [] u v x y e = inl refl
same_place [] (z ∷ b) u v x y e =
    let head : z ≡ x = cc in
    inr (inl (b, ap (λ n. n ∷ b) head))
same_place (z ∷ a) [] u v x y e =
    let head : z ≡ y = cc in
    inr (inr (a, ap (λ n. n ∷ a) head))
same_place (z ∷ a) (t ∷ b) u v x y e =
    let heads : z ≡ t = cc in
    let tails : a ++ x ∷ u ≡ b ++ y ∷ v = cc in
    with_head z t a b x y heads (same_place a b u v x y tails)

pub one_refusal : LineLaws → (g h : History) (p q x y : List ℕ) (e f : HttpFault) → IsExact framings.Chunked g → IsExact framings.Chunked h
    → g.stop ≡ Some (at_piece p e) → h.stop ≡ Some (at_piece q f) → e ≢ faults.OutOfMemory → f ≢ faults.OutOfMemory
    → (g.fed ++ p) ++ x ≡ (h.fed ++ q) ++ y → (e ≡ f) × (g.given ≡ h.given)
one_refusal laws g h p q x y e f k j stop halt some many same =
    let left = stop_at e g.fed g.given p (subst (λ (r : Option Stop). HasStopped framings.Chunked g r) stop k.stopped).1 some in
    let right = stop_at f h.fed h.given q (subst (λ (r : Option Stop). HasStopped framings.Chunked h r) halt j.stopped).1 many in
    (left.0 ∙ sym right.0, by_stops left.1 right.1)
  where
    -- the bytes, with the one at which a reader stopped between those before it and those behind it
    around : (fed front more piece z : List ℕ) (last : ℕ) → piece ≡ front ++ last ∷ more → (fed ++ piece) ++ z ≡ (fed ++ front) ++ last ∷ (more ++ z)
    around fed front more piece z last is =
        ap (λ (s : List ℕ). (fed ++ s) ++ z) is ∙ ap (λ (s : List ℕ). s ++ z) (sym (append_assoc fed front (last ∷ more)))
        ∙ append_assoc (fed ++ front) (last ∷ more) z

    by_stops : StopsAtByte g.fed g.given p → StopsAtByte h.fed h.given q → g.given ≡ h.given
    by_stops s t = by_place (same_place a b (s.more ++ x) (t.more ++ y) s.last t.last
        (sym (around g.fed s.front s.more p x s.last s.whole) ∙ same ∙ around h.fed t.front t.more q y t.last t.whole))
      where
        a : List ℕ
        a = g.fed ++ s.front

        b : List ℕ
        b = h.fed ++ t.front

        by_place : (a ≡ b) ⊎ (((w : List ℕ) × (b ≡ (a ++ s.last ∷ []) ++ w)) ⊎ ((w : List ℕ) × (a ≡ (b ++ t.last ∷ []) ++ w))) → g.given ≡ h.given
        by_place (inl one) = one_body laws g.given h.given b (front_place laws g.given b (subst (ChunkedFront g.given) one s.went_on)) (front_place laws h.given b t.went_on)
        by_place (inr (inl w)) = absurd (break_not_front laws h.given (a ++ s.last ∷ []) w.0 s.breaks (subst (ChunkedFront h.given) w.1 t.went_on))
        by_place (inr (inr w)) = absurd (break_not_front laws g.given (b ++ t.last ∷ []) w.0 t.breaks (subst (ChunkedFront g.given) w.1 s.went_on))

-- where the body is whole, nothing is to come
pub nothing_left : LineLaws → (framing : Framing) (stage : Stage) (came body bytes : List ℕ) → Holds framing stage came body bytes → BodyText framing body bytes
    → framing ≢ framings.UntilClose → HasNothingLeft stage
nothing_left laws framing (stages.Length left) came body bytes h t other =
    let whole : BodyText (framings.Length (length bytes + left)) body bytes = subst (λ (f : Framing). BodyText f body bytes) h.2 t in
    omega (arith, whole.1)
nothing_left laws framing stages.UntilClose came body bytes h t other = absurd (other h.2)
nothing_left laws framing stages.Line came body bytes h t other =
    front_not_text laws body body bytes (held_front framing stages.Line came body bytes h.0 refl h) (subst (λ (f : Framing). BodyText f body bytes) h.0 t)
nothing_left laws framing (stages.Data left) came body bytes h t other =
    front_not_text laws body body bytes (held_front framing (stages.Data left) came body bytes h.0 refl h) (subst (λ (f : Framing). BodyText f body bytes) h.0 t)
nothing_left laws framing stages.Feed came body bytes h t other =
    front_not_text laws body body bytes (held_front framing stages.Feed came body bytes h.0 refl h) (subst (λ (f : Framing). BodyText f body bytes) h.0 t)
nothing_left laws framing (stages.Trailer begun) came body bytes h t other =
    front_not_text laws body body bytes (held_front framing (stages.Trailer begun) came body bytes h.0 refl h) (subst (λ (f : Framing). BodyText f body bytes) h.0 t)
nothing_left laws framing stages.Done came body bytes h t other = tt
nothing_left laws framing stages.Broken came body bytes h t other = absurd (subst (λ (f : Framing). BodyText f body bytes) h.0 t)
