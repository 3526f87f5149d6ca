-- What came so far of a body is determined by the bytes, and it grows with them.
use Rattle.std.proofs.Common.{◌≡◌, ℕ, Bool, true, false, None, List, [], ◌++◌, length, refl, sym, ap, ◌∙◌, subst, inl, inr, arith, append_assoc}
use Rattle.std.proofs.lemmas.List.{append-nil, length-append}
use Rattle.tg_bytes.specs.Lists.{longer, same_front}
use Rattle.tg_body.specs.Bodies.{BodyFront, ChunkedFront, ChunkedText}
use Rattle.tg_body.specs.History.{History}
use Rattle.tg_body.specs.Laws.{BodyLaws}
use Rattle.tg_http.specs.declared.framing.Framing.{Framing}
use Rattle.tg_http.specs.declared.framing.Framing.TheVariants as framings
use Rattle.tg_heard.specs.Got.{HasBodySoFar, HasWholeBody}
use Rattle.tg_heard.specs.GotLaws.{BodyFronts}
use Rattle.tg_heard.proofs.ChunkFronts.{CutBody, Reach, cut_front, cut_text, reach}
use Rattle.tg_heard.proofs.Single.{one_body}

module _ (laws : BodyLaws) where
  -- a reader that took the bytes and was not ended
  abbrev pub taken : List ℕ → List ℕ → History
  taken bytes body = record { fed = bytes; given = body; ended = false; stop = None }

  -- with the same bytes a body goes on as one front, since readers of the same bytes gave the same
  pub one_front : (framing : Framing) (body other bytes : List ℕ) → BodyFront framing body bytes → BodyFront framing other bytes → body ≡ other
  one_front framing body other bytes f g =
      laws.one_division framing (taken bytes body) (taken bytes other) (record { so_far = f; stopped = tt }) (record { so_far = g; stopped = tt }) refl

  -- a whole body of bytes with which a body goes on is all that came
  whole_or_front : (ended : Bool) (framing : Framing) (rest body other : List ℕ) → HasWholeBody ended framing rest body → BodyFront framing other rest → body ≡ other
  whole_or_front ended (framings.Length n) rest body other w f =
      let same = same_front w.front rest w.more [] (omega (arith, w.body_is.1, f.1, ap length w.rest_is, length-append w.front w.more)) (sym w.rest_is ∙ sym (append-nil rest)) in
      w.body_is.0 ∙ same.0 ∙ sym f.0
  whole_or_front ended framings.Chunked rest body other w f = absurd (laws.cut_not_whole other body rest w.front w.more f w.body_is w.rest_is)
  whole_or_front ended framings.UntilClose rest body other w f =
      w.body_is ∙ sym (append-nil w.front) ∙ ap (λ (l : List ℕ). w.front ++ l) (sym (w.closed refl).1) ∙ sym w.rest_is ∙ sym f
  whole_or_front ended framings.Broken rest body other w f = absurd w.body_is

  -- what came of a body is one
  pub one_so_far : (ended : Bool) (framing : Framing) (rest body other : List ℕ) → HasBodySoFar ended framing rest body → HasBodySoFar ended framing rest other → body ≡ other
  one_so_far ended framing rest body other (inl w) (inl v) =
      one_body laws.one_whole framing body other w.front v.front w.more v.more w.body_is v.body_is (sym w.rest_is ∙ v.rest_is) (λ e. ((w.closed e).1, (v.closed e).1))
  one_so_far ended framing rest body other (inl w) (inr f) = whole_or_front ended framing rest body other w f
  one_so_far ended framing rest body other (inr f) (inl v) = sym (whole_or_front ended framing rest other body v f)
  one_so_far ended framing rest body other (inr f) (inr g) = one_front framing body other rest f g

  -- ---- more bytes

  -- a link that had not ended had not ended
  never : false ≡ true → ⊥
  never e = cc

  -- a body that was whole while the link had not ended stays whole whatever comes
  pub stays_whole : (ended : Bool) (framing : Framing) (rest tail body : List ℕ) → HasWholeBody false framing rest body → HasWholeBody ended framing (rest ++ tail) body
  stays_whole ended framing rest tail body w = record {
    front = w.front;
    more = w.more ++ tail;
    rest_is = ap (λ (l : List ℕ). l ++ tail) w.rest_is ∙ append_assoc w.front w.more tail;
    closed = λ e. absurd (never (w.closed e).0);
    body_is = w.body_is;
  }

  -- the other is the body and more
  abbrev Grows : List ℕ → List ℕ → Type 0
  Grows body other = (more : List ℕ) × (other ≡ body ++ more)

  -- a front that was cut is the one that came
  from_cut : (body other bytes : List ℕ) → ChunkedFront body bytes → CutBody bytes other → Grows body other
  from_cut body other bytes f c =
      (c.more, c.other_is ∙ ap (λ (l : List ℕ). l ++ c.more) (one_front framings.Chunked c.body body bytes c.so_far f))

  -- nothing came
  same_grows : (body other : List ℕ) → body ≡ other → Grows body other
  same_grows body other e = ([], sym e ∙ sym (append-nil body))

  -- of a chunked body a front came, and then all of it
  chunked_whole : (rest tail body other front more : List ℕ) → ChunkedFront body rest → ChunkedText other front → rest ++ tail ≡ front ++ more → Grows body other
  chunked_whole rest tail body other front more f t e = by_reach (reach rest tail front more e)
    where
      by_reach : Reach rest tail front more → Grows body other
      by_reach (inl h) = absurd (laws.cut_not_whole body other rest front h.0 f t h.1)
      by_reach (inr h) = from_cut body other rest f (cut_text other rest h.1 h.0 (subst (ChunkedText other) h.2 t))

  -- so in every framing
  front_whole : (ended : Bool) (framing : Framing) (rest tail body other : List ℕ) → BodyFront framing body rest → HasWholeBody ended framing (rest ++ tail) other → Grows body other
  front_whole ended (framings.Length n) rest tail body other f w =
      let l = longer rest w.front tail w.more w.rest_is (omega (arith, f.1, w.body_is.1)) in
      (l.middle, w.body_is.0 ∙ l.first ∙ ap (λ (b : List ℕ). b ++ l.middle) (sym f.0))
  front_whole ended framings.Chunked rest tail body other f w = chunked_whole rest tail body other w.front w.more f w.body_is w.rest_is
  front_whole ended framings.UntilClose rest tail body other f w =
      (tail, whole_or_front ended framings.UntilClose (rest ++ tail) other (rest ++ tail) w refl ∙ ap (λ (b : List ℕ). b ++ tail) (sym f))
  front_whole ended framings.Broken rest tail body other f w = absurd w.body_is

  -- a front came, and then a longer one
  pub front_front : (framing : Framing) (rest tail body other : List ℕ) → BodyFront framing body rest → BodyFront framing other (rest ++ tail) → Grows body other
  front_front (framings.Length n) rest tail body other f g = (tail, g.0 ∙ ap (λ (b : List ℕ). b ++ tail) (sym f.0))
  front_front framings.Chunked rest tail body other f g = from_cut body other rest f (cut_front other rest tail g)
  front_front framings.UntilClose rest tail body other f g = (tail, g ∙ ap (λ (b : List ℕ). b ++ tail) (sym f))
  front_front framings.Broken rest tail body other f g = (other, ap (λ (b : List ℕ). b ++ other) (sym f.0))

  -- what came of a body is a front of what came of it with more bytes
  pub grows : (ended : Bool) (framing : Framing) (rest tail body other : List ℕ) → HasBodySoFar false framing rest body → HasBodySoFar ended framing (rest ++ tail) other → Grows body other
  grows ended framing rest tail body other (inl w) far =
      same_grows body other (one_so_far ended framing (rest ++ tail) body other (inl (stays_whole ended framing rest tail body w)) far)
  grows ended framing rest tail body other (inr f) (inl v) = front_whole ended framing rest tail body other f v
  grows ended framing rest tail body other (inr f) (inr g) = front_front framing rest tail body other f g

  -- what came of a body is a front of the whole one
  pub body_fronts : BodyFronts
  body_fronts framing given body came whole more behind f b e closed =
      front_whole true framing came more given body f (record { front = whole; more = behind; rest_is = e; closed = λ c. (refl, closed c); body_is = b })
