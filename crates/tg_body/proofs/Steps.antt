-- One step of a reader of a body.
use Rattle.std.proofs.Common.{◌≡◌, ◌≢◌, ℕ, ◌+◌, ◌-◌, ◌<◌, ◌≤◌, ◌⊎◌, min, Some, None, false, List, [], ◌∷◌, ◌++◌, length, take, drop, refl, sym, ap, ap₂, ◌∙◌, subst, inl, inr, arith, append_assoc}
use Rattle.std.specs.Prelude.{slice_get}
use Rattle.std.proofs.lemmas.List.{length-append, length-take-le, append-nil}
use Rattle.std.proofs.lemmas.List.Elements.{All-nil}
use Rattle.tg_body.specs.History.{BreaksChunked, HasFeedCause, WantsMemory}
use Rattle.tg_bytes.specs.Lists.{joined, joined_push}
use Rattle.tg_http.specs.declared.fault.HttpFault.{HttpFault}
use Rattle.tg_http.specs.declared.fault.HttpFault.TheVariants as faults
use Rattle.tg_http.specs.declared.framing.Framing.TheVariants as framings
use Rattle.tg_body.specs.declared.stage.Stage.{Stage}
use Rattle.tg_body.specs.declared.stage.Stage.TheVariants as stages
use Rattle.tg_body.specs.declared.stage.Step.{Step}
use Rattle.tg_body.specs.declared.stage.Step.TheVariants as steps
use Rattle.tg_body.specs.declared.reader.BodyReader.{BodyReader}
use Rattle.tg_body.specs.Bodies.{SizeLine, IsOpenLine, InTrailer}
use Rattle.tg_body.specs.State.{BehindChunks, Holds, is_done, HasNothingLeft}
use Rattle.tg_body.specs.Steps.{Given, TookAll, ends, IsTooLong, Steps, Stops}
use Rattle.tg_body.proofs.Behind.{chunks_more, byte_behind, held_front}

-- so many bytes of the body as a step
abbrev pub IsGiven : ℕ → Step → Type 0
IsGiven taken step = ((taken ≡ 0) × (step ≡ steps.Need)) ⊎ ((0 < taken) × (step ≡ steps.Part))

given_ends : (taken : ℕ) (step : Step) → IsGiven taken step → false ≡ ends step
given_ends taken step (inl none) = sym (ap ends none.1)
given_ends taken step (inr some) = sym (ap ends some.1)

given_took : (taken : ℕ) (step : Step) (piece : List ℕ) → IsGiven taken step → (taken ≡ 0 → length piece ≡ 0) → TookAll step taken piece
given_took taken step piece (inl none) all = subst (λ (s : Step). TookAll s taken piece) (sym none.1) (none.0 ∙ sym (all none.0))
given_took taken step piece (inr some) all = subst (λ (s : Step). TookAll s taken piece) (sym some.1) some.0

given_is : (taken : ℕ) (step : Step) (piece : List ℕ) → IsGiven taken step → Given step (take taken piece) ≡ take taken piece
given_is taken step piece (inl none) = ap (λ (s : Step). Given s (take taken piece)) none.1 ∙ ap (λ n. take n piece) (sym none.0)
given_is taken step piece (inr some) = ap (λ (s : Step). Given s (take taken piece)) some.1

-- ---- at a stage at which bytes are to come

abbrev pub GoesOn : Stage → Type 0
GoesOn stage = (is_done stage ≡ false) × (HasNothingLeft stage → ⊥)

pub steps_at : (old new : BodyReader) (piece : List ℕ) (taken : ℕ) (step : Step) (stage : Stage) → old.stage ≡ stage → GoesOn stage
    → new.framing ≡ old.framing → new.refused ≡ old.refused → taken ≤ length piece → TookAll step taken piece → is_done new.stage ≡ ends step
    → ((body bytes : List ℕ) → Holds old.framing stage old.came body bytes → Holds new.framing new.stage new.came (body ++ Given step (take taken piece)) (bytes ++ take taken piece))
    → Steps old new piece taken step
steps_at old new piece taken step stage at going framing refused within took done holds = record {
  within = within;
  took = took;
  framing = framing;
  refused = refused;
  done = done;
  goes_on = λ e. ap is_done at ∙ going.0;
  whole = λ w. absurd (going.1 (subst HasNothingLeft at w));
  holds = λ body bytes h. holds body bytes (subst (λ (s : Stage). Holds old.framing s old.came body bytes) at h);
}

pub stops_at : (old new : BodyReader) (piece : List ℕ) (fault : HttpFault) (stage : Stage) → old.stage ≡ stage → GoesOn stage
    → new.framing ≡ old.framing → new.refused ≡ old.refused
    → ((body bytes : List ℕ) → Holds old.framing stage old.came body bytes → HasFeedCause old.framing bytes body piece fault)
    → Stops old new piece fault
stops_at old new piece fault stage at going framing refused cause = record {
  framing = framing;
  refused = refused;
  goes_on = ap is_done at ∙ going.0;
  left = λ w. going.1 (subst HasNothingLeft at w);
  cause = λ body bytes h. cause body bytes (subst (λ (s : Stage). Holds old.framing s old.came body bytes) at h);
}

-- the first byte of the piece breaks the body
stops_first : (old : BodyReader) (last : ℕ) (more : List ℕ) (stage : Stage) → old.stage ≡ stage → GoesOn stage
    → ((body bytes : List ℕ) → Holds old.framing stage old.came body bytes → (old.framing ≡ framings.Chunked) × BreaksChunked (bytes ++ last ∷ []))
    → Stops old old (last ∷ more) faults.BadFraming
stops_first old last more stage at going breaks =
    stops_at old old (last ∷ more) faults.BadFraming stage at going refl refl (λ body bytes h.
    let found = breaks body bytes h in
    inr (
      found.0,
      record {
        front = [];
        last = last;
        more = more;
        whole = refl;
        went_on =
            held_front old.framing stage old.came body (bytes ++ []) found.0 going.0
            (subst (λ (s : List ℕ). Holds old.framing stage old.came body s) (sym (append-nil bytes)) h);
        breaks = subst (λ (s : List ℕ). BreaksChunked (s ++ last ∷ [])) (sym (append-nil bytes)) found.1;
      },
    ))

-- memory is wanted for the piece behind what came of a line
pub wants_front : (rest body bytes piece : List ℕ) → 0 < length piece → BehindChunks body bytes [] rest → IsOpenLine rest ⊎ InTrailer rest → WantsMemory bytes body piece
wants_front rest body bytes piece some behind text = record {
  front = [];
  more = piece;
  whole = refl;
  some = some;
  went_on = record {
    chunks = behind.chunks;
    front = behind.front;
    rest = rest;
    chunks_are = behind.chunks_are;
    text = text;
    whole = append-nil bytes ∙ behind.whole;
    body_is = behind.body_is ∙ append-nil (joined behind.chunks);
  };
}

-- a refusal for want of memory, or of a line that is too long
pub refuses : (old new : BodyReader) (piece : List ℕ) (fault : HttpFault) → (0 < length piece → Stops old new piece faults.OutOfMemory)
    → (IsTooLong old.came piece → Stops old new piece faults.BadFraming)
    → ((fault ≡ faults.OutOfMemory) × (0 < length piece)) ⊎ ((fault ≡ faults.BadFraming) × IsTooLong old.came piece) → Stops old new piece fault
refuses old new piece fault wants long (inl memory) = subst (λ (f : HttpFault). Stops old new piece f) (sym memory.0) (wants memory.1)
refuses old new piece fault wants long (inr line) = subst (λ (f : HttpFault). Stops old new piece f) (sym line.0) (long line.1)

-- ---- in a chunk and behind it

-- bytes of a chunk, more of them
pub data_steps : (old : BodyReader) (piece : List ℕ) (left taken : ℕ) (step : Step) → old.stage ≡ stages.Data left → 0 < left
    → taken ≡ min left (length piece) → IsGiven taken step → Steps old (record old { stage = stages.Data (left - taken) }) piece taken step
data_steps old piece left taken step at some is given =
    steps_at old (record old { stage = stages.Data (left - taken) }) piece taken step (stages.Data left) at (refl, λ w. w) refl refl (omega arith)
    (given_took taken step piece given (λ none. omega (arith, none))) (given_ends taken step given) (λ body bytes here.
    let t = take taken piece in
    let line = here.2 in
    let part = here.3 in
    let behind = here.4 in
    let size : length t ≡ taken = length-take-le taken piece (omega arith) in
    let number : length part + left ≡ length (part ++ t) + (left - taken) = omega (arith, length-append part t) in (
      here.0,
      here.1,
      line,
      part ++ t,
      record {
        chunks = behind.chunks;
        front = behind.front;
        chunks_are = behind.chunks_are;
        whole = ap (λ (s : List ℕ). s ++ t) behind.whole ∙ append_assoc behind.front (line ++ part) t
            ∙ ap (λ (s : List ℕ). behind.front ++ s) (append_assoc line part t);
        body_is = ap₂ (λ (a b : List ℕ). a ++ b) behind.body_is (given_is taken step piece given) ∙ append_assoc (joined behind.chunks) part t;
      },
      subst (λ n. SizeLine n line) number here.5,
      omega (arith, here.6, number),
    ))

-- the CR behind a chunk
return_steps : (old : BodyReader) (more : List ℕ) → old.stage ≡ stages.Data 0 → Steps old (record old { stage = stages.Feed }) (13 ∷ more) 1 steps.Next
return_steps old more at =
    steps_at old (record old { stage = stages.Feed }) (13 ∷ more) 1 steps.Next (stages.Data 0) at (refl, λ w. w) refl refl (omega arith) (omega arith) refl (λ body bytes here.
    let behind = here.4 in
    let number : length here.3 + 0 ≡ length here.3 = omega arith in (
      here.0,
      here.1,
      here.2,
      here.3,
      record {
        chunks = behind.chunks;
        front = behind.front;
        chunks_are = behind.chunks_are;
        whole = byte_behind behind.front here.2 here.3 13 bytes behind.whole;
        body_is = append-nil body ∙ behind.body_is;
      },
      subst (λ n. SizeLine n here.2) number here.5,
      omega (arith, here.6),
    ))

-- the LF behind it
feed_steps : (old : BodyReader) (more : List ℕ) → old.stage ≡ stages.Feed → Steps old (record old { stage = stages.Line }) (10 ∷ more) 1 steps.Next
feed_steps old more at =
    steps_at old (record old { stage = stages.Line }) (10 ∷ more) 1 steps.Next stages.Feed at (refl, λ w. w) refl refl (omega arith) (omega arith) refl (λ body bytes here.
    let line = here.2 in
    let chunk = here.3 in
    let behind = here.4 in
    let text : List ℕ = line ++ (chunk ++ 13 ∷ 10 ∷ []) in
    let closed : bytes ++ 10 ∷ [] ≡ behind.front ++ text =
    byte_behind behind.front line (chunk ++ 13 ∷ []) 10 bytes behind.whole
    ∙ ap (λ (s : List ℕ). behind.front ++ (line ++ s)) (append_assoc chunk (13 ∷ []) (10 ∷ [])) in
    let none : old.came ≡ [] = here.1 in (
      here.0,
      record {
        chunks = behind.chunks ++ chunk ∷ [];
        front = behind.front ++ text;
        chunks_are = chunks_more behind.chunks behind.front chunk text behind.chunks_are (record { line = line; line_is = here.5; some = here.6; whole = refl });
        whole = closed ∙ sym (append-nil (behind.front ++ text)) ∙ ap (λ (s : List ℕ). (behind.front ++ text) ++ s) (sym none);
        body_is = append-nil body ∙ behind.body_is ∙ sym (joined_push behind.chunks chunk) ∙ sym (append-nil (joined (behind.chunks ++ chunk ∷ [])));
      },
      subst IsOpenLine (sym none) (record { no_feed = All-nil (λ b. b ≢ 10); few = omega arith }),
    ))

-- a byte behind a chunk that is no CR
return_stops : (old : BodyReader) (last : ℕ) (more : List ℕ) → old.stage ≡ stages.Data 0 → last ≢ 13 → Stops old old (last ∷ more) faults.BadFraming
return_stops old last more at other =
    stops_first old last more (stages.Data 0) at (refl, λ w. w) (λ body bytes here.
    let behind = here.4 in
    let number : length here.3 + 0 ≡ length here.3 = omega arith in (
      here.0,
      record {
        chunks = behind.chunks;
        front = behind.front;
        rest = here.2 ++ (here.3 ++ last ∷ []);
        chunks_are = behind.chunks_are;
        whole = byte_behind behind.front here.2 here.3 last bytes behind.whole;
        breaks = inr (inl (record {
          line = here.2;
          chunk = here.3;
          last = last;
          line_is = subst (λ n. SizeLine n here.2) number here.5;
          some = omega (arith, here.6);
          breaks = inl (refl, other);
        }));
      },
    ))

-- a byte behind its CR that is no LF
feed_stops : (old : BodyReader) (last : ℕ) (more : List ℕ) → old.stage ≡ stages.Feed → last ≢ 10 → Stops old old (last ∷ more) faults.BadFraming
feed_stops old last more at other =
    stops_first old last more stages.Feed at (refl, λ w. w) (λ body bytes here.
    let behind = here.4 in (
      here.0,
      record {
        chunks = behind.chunks;
        front = behind.front;
        rest = here.2 ++ (here.3 ++ 13 ∷ last ∷ []);
        chunks_are = behind.chunks_are;
        whole = byte_behind behind.front here.2 (here.3 ++ 13 ∷ []) last bytes behind.whole
            ∙ ap (λ (s : List ℕ). behind.front ++ (here.2 ++ s)) (append_assoc here.3 (13 ∷ []) (last ∷ []));
        breaks = inr (inl (record {
          line = here.2;
          chunk = here.3;
          last = last;
          line_is = here.5;
          some = here.6;
          breaks = inr (refl, other);
        }));
      },
    ))

-- which byte is to come behind a chunk
abbrev pub IsByteStage : Stage → ℕ → Stage → Type 0
IsByteStage stage byte next =
    ((stage ≡ stages.Data 0) × (byte ≡ 13) × (next ≡ stages.Feed)) ⊎ ((stage ≡ stages.Feed) × (byte ≡ 10) × (next ≡ stages.Line))

-- the first byte of a piece
abbrev pub IsFirst : List ℕ → ℕ → Type 0
IsFirst piece first = Some first ≡ slice_get piece 0

first_of : (piece : List ℕ) (first : ℕ) → IsFirst piece first → piece ≡ first ∷ drop 1 piece
first_of [] first e = absurd (none first e)
  where
    none : (n : ℕ) → Some n ≡ None → ⊥
    none n e = cc
first_of (x ∷ piece) first e = ap (λ n. n ∷ piece) (same x first e)
  where
    same : (x first : ℕ) → Some first ≡ Some x → x ≡ first
    same x first e = cc

pub byte_steps : (old : BodyReader) (piece : List ℕ) (byte first : ℕ) (next : Stage) → IsByteStage old.stage byte next → IsFirst piece first → first ≡ byte
    → Steps old (record old { stage = next }) piece 1 steps.Next
byte_steps old piece byte first next (inl w) is same =
    subst (λ (s : Stage). Steps old (record old { stage = s }) piece 1 steps.Next) (sym w.2)
    (subst (λ (p : List ℕ). Steps old (record old { stage = stages.Feed }) p 1 steps.Next) (ap (λ n. n ∷ drop 1 piece) (sym (same ∙ w.1)) ∙ sym (first_of piece first is))
    (return_steps old (drop 1 piece) w.0))
byte_steps old piece byte first next (inr w) is same =
    subst (λ (s : Stage). Steps old (record old { stage = s }) piece 1 steps.Next) (sym w.2)
    (subst (λ (p : List ℕ). Steps old (record old { stage = stages.Line }) p 1 steps.Next) (ap (λ n. n ∷ drop 1 piece) (sym (same ∙ w.1)) ∙ sym (first_of piece first is))
    (feed_steps old (drop 1 piece) w.0))

pub byte_stops : (old : BodyReader) (piece : List ℕ) (byte first : ℕ) (next : Stage) → IsByteStage old.stage byte next → IsFirst piece first → first ≢ byte
    → Stops old old piece faults.BadFraming
byte_stops old piece byte first next (inl w) is other =
    subst (λ (p : List ℕ). Stops old old p faults.BadFraming) (sym (first_of piece first is)) (return_stops old first (drop 1 piece) w.0 (λ e. other (e ∙ sym w.1)))
byte_stops old piece byte first next (inr w) is other =
    subst (λ (p : List ℕ). Stops old old p faults.BadFraming) (sym (first_of piece first is)) (feed_stops old first (drop 1 piece) w.0 (λ e. other (e ∙ sym w.1)))
