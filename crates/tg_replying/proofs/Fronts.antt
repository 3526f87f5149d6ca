-- Bytes of which a front is given.
use Rattle.std.proofs.Common.{List, ap, append_assoc, length, subst, sym, take, ℕ, ◌++◌, ◌∙◌, ◌≡◌}
use Rattle.std.proofs.Math.Seq.{take-append_seam}
use Rattle.tg_replying.proofs.Giving.{fails_more}
use Rattle.tg_replying.specs.Bodies.{FailsIn, Gives, Giving, giving_in}
use Rattle.tg_streams.specs.Streams.{SinkMeaning}

-- bytes of which these are a front
pub record Begins (whole front : List ℕ) : Type 0 where
  pub rest : List ℕ
  pub whole_is : whole ≡ front ++ rest

-- out failed in a front of bytes
pub fails_within : {S : Type 0} (m : SinkMeaning S) (a b : S) (g h front whole : List ℕ) → Begins whole front
    → FailsIn (giving_in m g h a b) front → FailsIn (giving_in m g h a b) whole
fails_within m a b g h front whole begins fails =
    subst (λ (bytes : List ℕ). FailsIn (giving_in m g h a b) bytes) (sym begins.whole_is)
    (fails_more m a b g h front begins.rest fails)

-- a front of bytes was given
pub gives_within : (giving : Giving) (front whole : List ℕ) → Begins whole front → Gives giving front
    → (count : ℕ) × Gives giving (take count whole)
gives_within giving front whole begins gives =
    let same : take (length front) whole ≡ front = ap (λ bytes. take (length front) bytes) begins.whole_is
    ∙ take-append_seam front begins.rest in
    (length front, subst (λ (bytes : List ℕ). Gives giving bytes) (sym same) gives)

-- bytes are a front of themselves behind others
pub begins_behind : (before whole front : List ℕ) → Begins whole front → Begins (before ++ whole) (before ++ front)
begins_behind before whole front begins = record {
  rest = begins.rest;
  whole_is = ap (λ bytes. before ++ bytes) begins.whole_is ∙ sym (append_assoc before front begins.rest);
}
