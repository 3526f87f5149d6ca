-- Steps of a reader of a body, one after another.
use Rattle.std.proofs.Common.{◌≡◌, ℕ, zero, suc, ◌+◌, ◌-◌, ◌<◌, ◌≤◌, false, List, [], ◌∷◌, ◌++◌, length, take, drop, refl, sym, ap, ◌∙◌, subst, inl, inr, arith, append_assoc}
use Rattle.std.specs.Prelude.{slice_range}
use Rattle.std.proofs.Math.Seq.{take-add}
use Rattle.std.proofs.lemmas.Bool.{false≢true}
use Rattle.std.proofs.lemmas.List.{append-nil, length-drop, take-append-drop, take_rest}
use Rattle.tg_http.specs.declared.framing.Framing.{Framing}
use Rattle.tg_http.specs.declared.fault.HttpFault.{HttpFault}
use Rattle.tg_http.specs.declared.fault.HttpFault.TheVariants as faults
use Rattle.tg_body.specs.declared.stage.Step.{Step}
use Rattle.tg_body.specs.declared.stage.Step.TheVariants as steps
use Rattle.tg_body.specs.declared.body.Body.TheVariants as bodies
use Rattle.tg_body.specs.declared.reader.BodyReader.{BodyReader}
use Rattle.tg_body.specs.History.{HasFeedCause, BreaksChunked, IsInText}
use Rattle.tg_body.specs.Bodies.{ChunkedFront}
use Rattle.tg_body.specs.State.{Holds, is_done, HasNothingLeft}
use Rattle.tg_body.specs.Steps.{Steps, Stops, Advances}

-- so many bytes of the piece were taken, and none of them is one of the body
pub record Taken (old now : BodyReader) (piece : List ℕ) (at : ℕ) : Type 0 where
  pub within : at ≤ length piece
  pub framing : now.framing ≡ old.framing
  pub refused : now.refused ≡ old.refused
  pub same : at ≡ 0 → now.stage ≡ old.stage
  pub goes_on : 0 < at → is_done old.stage ≡ false
  pub left : 0 < at → HasNothingLeft old.stage → ⊥
  pub holds : (body bytes : List ℕ) → Holds old.framing old.stage old.came body bytes
      → Holds now.framing now.stage now.came body (bytes ++ take at piece)

pub taken_none : (old : BodyReader) (piece : List ℕ) → Taken old old piece 0
taken_none old piece = record {
  within = omega arith;
  framing = refl;
  refused = refl;
  same = λ e. refl;
  goes_on = λ some. absurd (omega (arith, some));
  left = λ some w. omega (arith, some);
  holds = λ body bytes h. subst (λ (b : List ℕ). Holds old.framing old.stage old.came body b) (sym (append-nil bytes)) h;
}

-- was the reader going before the step
open_before : (old now : BodyReader) (piece : List ℕ) (at : ℕ) → Taken old now piece at → is_done now.stage ≡ false → is_done old.stage ≡ false
open_before old now piece zero t going = ap is_done (sym (t.same refl)) ∙ going
open_before old now piece (suc at) t going = t.goes_on (omega arith)

left_before : (old now : BodyReader) (piece : List ℕ) (at : ℕ) → Taken old now piece at → (HasNothingLeft now.stage → ⊥) → HasNothingLeft old.stage → ⊥
left_before old now piece zero t some w = some (subst HasNothingLeft (sym (t.same refl)) w)
left_before old now piece (suc at) t some w = t.left (omega arith) w

held_both : (new : BodyReader) (piece part : List ℕ) (at taken : ℕ) (body bytes : List ℕ)
    → Holds new.framing new.stage new.came (body ++ part) ((bytes ++ take at piece) ++ take taken (drop at piece))
    → Holds new.framing new.stage new.came (body ++ part) (bytes ++ take (at + taken) piece)
held_both new piece part at taken body bytes h =
    subst (λ (b : List ℕ). Holds new.framing new.stage new.came (body ++ part) b)
    (append_assoc bytes (take at piece) (take taken (drop at piece)) ∙ ap (λ (s : List ℕ). bytes ++ s) (sym (take-add at taken piece))) h

pub taken_next : (old now new : BodyReader) (piece : List ℕ) (at taken : ℕ) → Taken old now piece at → Steps now new (drop at piece) taken steps.Next
    → Taken old new piece (at + taken)
taken_next old now new piece at taken t s =
    let rest = length-drop at piece in
    record {
      within = omega (arith, t.within, s.within, rest);
      framing = s.framing ∙ t.framing;
      refused = s.refused ∙ t.refused;
      same = λ none. absurd (omega (arith, none, s.took));
      goes_on = λ some. open_before old now piece at t (s.goes_on refl);
      left = λ some w. left_before old now piece at t (λ v. next_no_end (s.whole v).1) w;
      holds = λ body bytes h.
          subst (λ (b : List ℕ). Holds new.framing new.stage new.came b (bytes ++ take (at + taken) piece)) (append-nil body)
          (held_both new piece [] at taken body bytes (s.holds body (bytes ++ take at piece) (t.holds body bytes h)));
    }
  where
    next_no_end : steps.Next ≡ steps.End → ⊥
    next_no_end e = cc

pub advances_need : (old now new : BodyReader) (piece : List ℕ) (at taken : ℕ) → Taken old now piece at → Steps now new (drop at piece) taken steps.Need
    → Advances old new piece (at + taken) bodies.Need
advances_need old now new piece at taken t s =
    let rest = length-drop at piece in
    let all : at + taken ≡ length piece = omega (arith, t.within, s.took, rest) in
    record {
      within = omega (arith, all);
      moves = λ some. inl (omega (arith, all, some));
      need = λ e. all;
      part = tt;
      framing = s.framing ∙ t.framing;
      refused = s.refused ∙ t.refused;
      done = s.done;
      goes_on = λ e. open_before old now piece at t (s.goes_on refl);
      whole = λ w. absurd (left_before old now piece at t (λ v. need_no_end (s.whole v).1) w);
      holds = λ body bytes h. held_both new piece [] at taken body bytes (s.holds body (bytes ++ take at piece) (t.holds body bytes h));
    }
  where
    need_no_end : steps.Need ≡ steps.End → ⊥
    need_no_end e = cc

pub advances_part : (old now new : BodyReader) (piece : List ℕ) (at taken : ℕ) → Taken old now piece at → Steps now new (drop at piece) taken steps.Part
    → Advances old new piece (at + taken) (bodies.Part at (at + taken))
advances_part old now new piece at taken t s =
    let rest = length-drop at piece in
    let some = s.took in
    let part : take taken (drop at piece) ≡ slice_range piece at (at + taken) = ap (λ n. take n (drop at piece)) (minus at taken) in
    record {
      within = omega (arith, t.within, s.within, rest);
      moves = λ many. inl (omega (arith, some));
      need = λ e. absurd (part_no_need e);
      part = (omega (arith, some), refl);
      framing = s.framing ∙ t.framing;
      refused = s.refused ∙ t.refused;
      done = s.done;
      goes_on = λ e. open_before old now piece at t (s.goes_on refl);
      whole = λ w. absurd (left_before old now piece at t (λ v. part_no_end (s.whole v).1) w);
      holds = λ body bytes h.
          subst (λ (p : List ℕ). Holds new.framing new.stage new.came (body ++ p) (bytes ++ take (at + taken) piece)) part
          (held_both new piece (take taken (drop at piece)) at taken body bytes (s.holds body (bytes ++ take at piece) (t.holds body bytes h)));
    }
  where
    minus : (a b : ℕ) → b ≡ (a + b) - a
    minus a b = omega arith

    part_no_need : {a b : ℕ} → bodies.Part a b ≡ bodies.Need → ⊥
    part_no_need e = cc

    part_no_end : steps.Part ≡ steps.End → ⊥
    part_no_end e = cc

pub advances_end : (old now new : BodyReader) (piece : List ℕ) (at taken : ℕ) → Taken old now piece at → Steps now new (drop at piece) taken steps.End
    → Advances old new piece (at + taken) bodies.End
advances_end old now new piece at taken t s =
    let rest = length-drop at piece in
    record {
      within = omega (arith, t.within, s.within, rest);
      moves = λ many. inr refl;
      need = λ e. absurd (end_no_need e);
      part = tt;
      framing = s.framing ∙ t.framing;
      refused = s.refused ∙ t.refused;
      done = s.done;
      goes_on = λ e. absurd (false≢true (sym e));
      whole = λ w. (by_at at t w, refl);
      holds = λ body bytes h. held_both new piece [] at taken body bytes (s.holds body (bytes ++ take at piece) (t.holds body bytes h));
    }
  where
    end_no_need : bodies.End ≡ bodies.Need → ⊥
    end_no_need e = cc

    by_at : (n : ℕ) → Taken old now piece n → HasNothingLeft old.stage → n + taken ≡ 0
    by_at zero t w = omega (arith, (s.whole (subst HasNothingLeft (sym (t.same refl)) w)).0)
    by_at (suc n) t w = absurd (t.left (omega arith) w)

pub stops_later : (old now new : BodyReader) (piece : List ℕ) (at : ℕ) (fault : HttpFault) → Taken old now piece at → Stops now new (drop at piece) fault
    → Stops old new piece fault
stops_later old now new piece at fault t s = record {
  framing = s.framing ∙ t.framing;
  refused = s.refused ∙ t.refused;
  goes_on = open_before old now piece at t s.goes_on;
  left = left_before old now piece at t s.left;
  cause = λ body bytes h.
      let cause : HasFeedCause now.framing (bytes ++ take at piece) body (drop at piece) fault = s.cause body (bytes ++ take at piece) (t.holds body bytes h) in
      moved fault bytes body (subst (λ (f : Framing). HasFeedCause f (bytes ++ take at piece) body (drop at piece) fault) t.framing cause);
}
  where
    front : List ℕ
    front = take at piece

    piece_is : {rest : List ℕ} → drop at piece ≡ rest → piece ≡ front ++ rest
    piece_is e = sym (take-append-drop at piece) ∙ ap (λ (s : List ℕ). front ++ s) e

    moved : (fault : HttpFault) (bytes body : List ℕ) → HasFeedCause old.framing (bytes ++ front) body (drop at piece) fault
        → HasFeedCause old.framing bytes body piece fault
    moved faults.BadFraming bytes body (inl broken) = inl broken
    moved faults.BadFraming bytes body (inr c) =
        let stop = c.1 in
        inr (
          c.0,
          record {
            front = front ++ stop.front;
            last = stop.last;
            more = stop.more;
            whole = piece_is stop.whole ∙ sym (append_assoc front stop.front (stop.last ∷ stop.more));
            went_on = subst (λ (b : List ℕ). ChunkedFront body b) (append_assoc bytes front stop.front) stop.went_on;
            breaks = subst (λ (b : List ℕ). BreaksChunked (b ++ stop.last ∷ [])) (append_assoc bytes front stop.front) stop.breaks;
          },
        )
    moved faults.OutOfMemory bytes body c =
        let want = c.1 in (
          c.0,
          record {
            front = front ++ want.front;
            more = want.more;
            whole = piece_is want.whole ∙ sym (append_assoc front want.front want.more);
            some = want.some;
            went_on = subst (λ (b : List ℕ). IsInText body b) (append_assoc bytes front want.front) want.went_on;
          },
        )
    moved faults.BadHead bytes body c = absurd c
    moved faults.HeadLimit bytes body c = absurd c

-- a step in the rest of the piece
pub steps_rest : (now new : BodyReader) (piece rest : List ℕ) (at taken : ℕ) (step want : Step) → rest ≡ slice_range piece at (length piece) → step ≡ want
    → Steps now new rest taken step → Steps now new (drop at piece) taken want
steps_rest now new piece rest at taken step want is told s =
    subst (λ (p : List ℕ). Steps now new p taken want) (is ∙ take_rest piece at) (subst (λ (k : Step). Steps now new rest taken k) told s)

pub stops_rest : (now new : BodyReader) (piece rest : List ℕ) (at : ℕ) (fault : HttpFault) → rest ≡ slice_range piece at (length piece)
    → Stops now new rest fault → Stops now new (drop at piece) fault
stops_rest now new piece rest at fault is s = subst (λ (p : List ℕ). Stops now new p fault) (is ∙ take_rest piece at) s
