-- One step of a reader in a trailer.
use Rattle.std.proofs.Common.{◌≡◌, ◌≢◌, ℕ, ◌+◌, ◌-◌, ◌<◌, ◌≤◌, ◌⊎◌, min, List, [], ◌∷◌, ◌++◌, length, take, drop, refl, sym, ap, ◌∙◌, subst, inl, inr, arith, append_assoc}
use Rattle.std.specs.Prelude.{All}
use Rattle.std.proofs.lemmas.List.{length-append, length-take-le, append-nil, drop_at, take_all, take_rest, drop_min}
use Rattle.std.proofs.lemmas.List.Elements.{All-nil, All-append, All-push}
use Rattle.httparse.specs.Grammar.{LineEnd, print_end}
use Rattle.tg_bytes.specs.Lists.{joined, joined_push, behind_parts}
use Rattle.tg_http.specs.declared.framing.Framing.{Framing}
use Rattle.tg_http.specs.declared.framing.Framing.TheVariants as framings
use Rattle.tg_http.specs.declared.fault.HttpFault.{HttpFault}
use Rattle.tg_http.specs.declared.fault.HttpFault.TheVariants as faults
use Rattle.tg_body.specs.declared.stage.Stage.{Stage}
use Rattle.tg_body.specs.declared.stage.Stage.TheVariants as stages
use Rattle.tg_body.specs.declared.stage.Step.TheVariants as steps
use Rattle.tg_body.specs.declared.reader.BodyReader.{BodyReader}
use Rattle.tg_http.specs.HeadText.{HasNoFeed, IsLine, IsEmptyLine, IsFullLine}
use Rattle.tg_body.specs.Bodies.{TrailerText, BodyText}
use Rattle.tg_body.specs.History.{BreaksBlock, HasFeedCause}
use Rattle.tg_body.specs.State.{BehindChunks, Holds, is_done}
use Rattle.tg_body.specs.Steps.{Steps, Stops, EndsLine, InsideLine, IsTooLong}
use Rattle.tg_body.proofs.Behind.{held_front}
use Rattle.tg_body.proofs.Steps.{refuses, steps_at, stops_at, wants_front}
use Rattle.tg_body.proofs.LineSteps.{line_more, line_split, line_size, long_split, front_no_feed}

-- more bytes of what is behind the chunks and a line
behind_line : (body bytes line came t : List ℕ) → BehindChunks body bytes [] (line ++ came) → BehindChunks (body ++ []) (bytes ++ t) [] (line ++ (came ++ t))
behind_line body bytes line came t b = record {
  chunks = b.chunks;
  front = b.front;
  chunks_are = b.chunks_are;
  whole = ap (λ (s : List ℕ). s ++ t) b.whole ∙ append_assoc b.front (line ++ came) t ∙ ap (λ (s : List ℕ). b.front ++ s) (append_assoc line came t);
  body_is = append-nil body ∙ b.body_is;
}

-- the line at hand, with more bytes
line_at_hand : (lines : List (List ℕ)) (rest came t : List ℕ) (begun : ℕ) → came ≡ joined lines ++ rest → begun ≡ length (joined lines)
    → drop begun (came ++ t) ≡ rest ++ t
line_at_hand lines rest came t begun is at =
    ap (λ (s : List ℕ). drop begun (s ++ t)) is ∙ ap (drop begun) (append_assoc (joined lines) rest t) ∙ drop_at (joined lines) (rest ++ t) begun (sym at)

-- bytes of a line behind what came of a trailer
trailer_more : (framing : Framing) (came t body bytes after : List ℕ) (begun : ℕ) → HasNoFeed t → length came + length t < 16384
    → {given : List ℕ} → (h : Holds framing (stages.Trailer begun) came given bytes) → BehindChunks body after [] (h.1 ++ (came ++ t))
    → Holds framing (stages.Trailer begun) (came ++ t) body after
trailer_more framing came t body bytes after begun none few h behind = (
  h.0,
  h.1,
  behind,
  h.3,
  h.4,
  h.5 ++ t,
  behind_parts (joined h.4) h.5 t came h.6,
  h.7,
  All-append (λ b. b ≢ 10) h.5 t h.8 none,
  h.9,
  omega (arith, length-append came t),
)

trailer_next_exact : (old : BodyReader) (piece : List ℕ) (size begun : ℕ) → old.stage ≡ stages.Trailer begun → size ≤ length piece → 0 < size
    → IsLine (take size piece) → (IsEmptyLine (drop begun (old.came ++ take size piece)) → ⊥) → length (old.came ++ take size piece) < 16384
    → Steps old (record old { stage = stages.Trailer (length (old.came ++ take size piece)); came = old.came ++ take size piece }) piece size steps.Next
trailer_next_exact old piece size begun at within some l full few =
    let t = take size piece in
    steps_at old (record old { stage = stages.Trailer (length (old.came ++ t)); came = old.came ++ t }) piece size steps.Next (stages.Trailer begun) at (refl, λ w. w) refl refl
    within some refl (λ body bytes here.
    let lines = here.4 in
    let rest = here.5 in
    let hand = line_at_hand lines rest old.came t begun here.6 here.9 in
    let line : IsFullLine (rest ++ t) = record { line_is = line_more rest t here.8 l; not_empty = λ e. full (e.0, hand ∙ e.1) } in
    let came_is : old.came ++ t ≡ joined (lines ++ (rest ++ t) ∷ []) = behind_parts (joined lines) rest t old.came here.6 ∙ sym (joined_push lines (rest ++ t)) in (
      here.0,
      here.1,
      behind_line body bytes here.1 old.came t here.2,
      here.3,
      lines ++ (rest ++ t) ∷ [],
      [],
      came_is ∙ sym (append-nil (joined (lines ++ (rest ++ t) ∷ []))),
      All-push IsFullLine lines (rest ++ t) here.7 line,
      All-nil (λ b. b ≢ 10),
      ap length came_is,
      few,
    ))

trailer_needs_exact : (old : BodyReader) (piece : List ℕ) (begun : ℕ) → old.stage ≡ stages.Trailer begun → HasNoFeed piece → length old.came + length piece < 16384
    → Steps old (record old { came = old.came ++ piece }) piece (length piece) steps.Need
trailer_needs_exact old piece begun at none few =
    steps_at old (record old { came = old.came ++ piece }) piece (length piece) steps.Need (stages.Trailer begun) at (refl, λ w. w) refl refl (omega arith) refl (ap is_done at) (λ body bytes here.
    let t = take (length piece) piece in
    let all : t ≡ piece = take_all (length piece) piece (omega arith) in
    let next : Holds old.framing (stages.Trailer begun) (old.came ++ piece) (body ++ []) (bytes ++ piece) =
    trailer_more old.framing old.came piece (body ++ []) bytes (bytes ++ piece) begun none few here (behind_line body bytes here.1 old.came piece here.2) in
    subst (λ (s : Stage). Holds old.framing s (old.came ++ piece) (body ++ []) (bytes ++ t)) (sym at)
    (subst (λ (s : List ℕ). Holds old.framing (stages.Trailer begun) (old.came ++ piece) (body ++ []) (bytes ++ s)) (sym all) next))

-- the empty line that ends a trailer
trailer_ends_exact : (old : BodyReader) (piece : List ℕ) (size begun : ℕ) → old.stage ≡ stages.Trailer begun → size ≤ length piece
    → IsEmptyLine (drop begun (old.came ++ take size piece)) → length old.came + size ≤ 16384
    → ((lines : List (List ℕ)) (last : LineEnd) → All IsFullLine lines → old.came ++ take size piece ≡ joined lines ++ print_end last
    → length (old.came ++ take size piece) ≤ 16384 → TrailerText (old.came ++ take size piece))
    → Steps old (record old { stage = stages.Done; came = old.came ++ take size piece }) piece size steps.End
trailer_ends_exact old piece size begun at within empty few judged =
    let t = take size piece in
    steps_at old (record old { stage = stages.Done; came = old.came ++ t }) piece size steps.End (stages.Trailer begun) at (refl, λ w. w) refl refl within tt refl (λ body bytes here.
    let behind = behind_line body bytes here.1 old.came t here.2 in
    let hand = line_at_hand here.4 here.5 old.came t begun here.6 here.9 in
    let shape : old.came ++ t ≡ joined here.4 ++ print_end empty.0 =
    behind_parts (joined here.4) here.5 t old.came here.6 ∙ ap (λ (s : List ℕ). joined here.4 ++ s) (sym hand ∙ empty.1) in
    let size_is : length t ≡ size = length-take-le size piece within in
    let text = judged here.4 empty.0 here.7 shape (omega (arith, length-append old.came t)) in (
      subst (λ (f : Framing). BodyText f (body ++ []) (bytes ++ t)) (sym here.0) (record {
        chunks = behind.chunks;
        front = behind.front;
        line = here.1;
        trailer = old.came ++ t;
        chunks_are = behind.chunks_are;
        line_is = here.3;
        trailer_is = text;
        whole = behind.whole;
        body_is = behind.body_is ∙ append-nil (joined behind.chunks);
      }),
      λ same. by_framing (sym here.0 ∙ same),
    ))
  where
    by_framing : framings.Chunked ≡ framings.UntilClose → ⊥
    by_framing same = cc

-- a line of the trailer that isn't the empty one
pub trailer_next : (old : BodyReader) (piece came : List ℕ) (size begun : ℕ) → old.stage ≡ stages.Trailer begun → EndsLine old.came piece size came
    → (IsEmptyLine (drop begun came) → ⊥) → length came < 16384
    → Steps old (record old { stage = stages.Trailer (length came); came = came }) piece size steps.Next
trailer_next old piece came size begun at kept full few =
    subst (λ (s : List ℕ). Steps old (record old { stage = stages.Trailer (length s); came = s }) piece size steps.Next) (sym kept.kept_is)
    (trailer_next_exact old piece size begun at kept.within kept.some kept.line_is
    (subst (λ (s : List ℕ). IsEmptyLine (drop begun s) → ⊥) kept.kept_is full) (subst (λ (s : List ℕ). length s < 16384) kept.kept_is few))

pub trailer_needs : (old : BodyReader) (piece came : List ℕ) (begun : ℕ) → old.stage ≡ stages.Trailer begun → InsideLine old.came piece came
    → Steps old (record old { came = came }) piece (length piece) steps.Need
trailer_needs old piece came begun at kept =
    subst (λ (s : List ℕ). Steps old (record old { came = s }) piece (length piece) steps.Need) (sym kept.kept_is)
    (trailer_needs_exact old piece begun at kept.no_feed kept.fits)

pub trailer_ends : (old : BodyReader) (piece came : List ℕ) (size begun : ℕ) → old.stage ≡ stages.Trailer begun → EndsLine old.came piece size came
    → IsEmptyLine (drop begun came)
    → ((lines : List (List ℕ)) (last : LineEnd) → All IsFullLine lines → came ≡ joined lines ++ print_end last → length came ≤ 16384 → TrailerText came)
    → Steps old (record old { stage = stages.Done; came = came }) piece size steps.End
trailer_ends old piece came size begun at kept empty judged =
    subst (λ (s : List ℕ). Steps old (record old { stage = stages.Done; came = s }) piece size steps.End) (sym kept.kept_is)
    (trailer_ends_exact old piece size begun at kept.within (subst (λ (s : List ℕ). IsEmptyLine (drop begun s)) kept.kept_is empty) kept.fits
    (subst (λ (s : List ℕ). (lines : List (List ℕ)) (last : LineEnd) → All IsFullLine lines → s ≡ joined lines ++ print_end last → length s ≤ 16384 → TrailerText s) kept.kept_is judged))

-- a byte of the piece breaks the trailer
trailer_cause : (old : BodyReader) (piece front more : List ℕ) (last begun : ℕ) → piece ≡ front ++ last ∷ more → HasNoFeed front → length old.came + length front < 16384
    → ((lines : List (List ℕ)) (rest : List ℕ) → old.came ≡ joined lines ++ rest → All IsFullLine lines → HasNoFeed rest → begun ≡ length (joined lines)
    → BreaksBlock lines (rest ++ (front ++ last ∷ [])))
    → (body bytes : List ℕ) → Holds old.framing (stages.Trailer begun) old.came body bytes → HasFeedCause old.framing bytes body piece faults.BadFraming
trailer_cause old piece front more last begun whole none few breaks body bytes here =
    let line = here.1 in
    let behind = here.2 in
    let lines = here.4 in
    let rest = here.5 in
    let text : List ℕ = front ++ last ∷ [] in
    let on : BehindChunks (body ++ []) (bytes ++ front) [] (line ++ (old.came ++ front)) = behind_line body bytes line old.came front behind in
    let block : old.came ++ text ≡ joined lines ++ (rest ++ text) = behind_parts (joined lines) rest text old.came here.6 in
    inr (
      here.0,
      record {
        front = front;
        last = last;
        more = more;
        whole = whole;
        went_on =
            held_front old.framing (stages.Trailer begun) (old.came ++ front) body (bytes ++ front) here.0 refl
            (trailer_more old.framing old.came front body bytes (bytes ++ front) begun none few here
            (subst (λ (b : List ℕ). BehindChunks b (bytes ++ front) [] (line ++ (old.came ++ front))) (append-nil body) on));
        breaks = record {
          chunks = behind.chunks;
          front = behind.front;
          rest = line ++ (old.came ++ text);
          chunks_are = behind.chunks_are;
          whole = append_assoc bytes front (last ∷ []) ∙ ap (λ (s : List ℕ). s ++ text) behind.whole
              ∙ append_assoc behind.front (line ++ old.came) text ∙ ap (λ (s : List ℕ). behind.front ++ s) (append_assoc line old.came text);
          breaks = inr (inr (record {
            line = line;
            lines = lines;
            rest = rest ++ text;
            line_is = here.3;
            lines_are = here.7;
            whole = ap (λ (s : List ℕ). line ++ s) block;
            breaks = breaks lines rest here.6 here.7 here.8 here.9;
          }));
        };
      },
    )

-- a line of the trailer that is too long
trailer_long : (old new : BodyReader) (piece : List ℕ) (begun : ℕ) → old.stage ≡ stages.Trailer begun → new.framing ≡ old.framing → new.refused ≡ old.refused
    → IsTooLong old.came piece → Stops old new piece faults.BadFraming
trailer_long old new piece begun at framing refused long =
    stops_at old new piece faults.BadFraming (stages.Trailer begun) at (refl, λ w. w) framing refused (λ body bytes here.
    let found = long_split old.came piece here.10 long in
    let front = found.0 in
    let text : List ℕ = front ++ found.1 ∷ [] in
    let size : length text ≡ length front + 1 = length-append front (found.1 ∷ []) in
    trailer_cause old piece front (drop (16384 - length old.came) piece) found.1 begun found.2 (front_no_feed front found.1 found.3) (omega (arith, size, found.4))
    (λ lines rest is full none begun_is.
    let block : old.came ++ text ≡ joined lines ++ (rest ++ text) = behind_parts (joined lines) rest text old.came is in
    inr (inl (All-append (λ b. b ≢ 10) rest text none found.3), sym (ap length block) ∙ length-append old.came text ∙ found.4)) body bytes here)

-- a whole line breaks the trailer
trailer_line : (old new : BodyReader) (piece came : List ℕ) (size begun : ℕ) → old.stage ≡ stages.Trailer begun → new.framing ≡ old.framing → new.refused ≡ old.refused
    → EndsLine old.came piece size came
    → ((lines : List (List ℕ)) (line : List ℕ) → came ≡ joined lines ++ line → All IsFullLine lines → IsLine line → drop begun came ≡ line → BreaksBlock lines line)
    → Stops old new piece faults.BadFraming
trailer_line old new piece came size begun at framing refused kept breaks =
    let l = kept.line_is in
    let t = take size piece in
    stops_at old new piece faults.BadFraming (stages.Trailer begun) at (refl, λ w. w) framing refused
    (trailer_cause old piece l.front (drop size piece) 10 begun (line_split piece size l) l.inside (omega (arith, line_size piece size l kept.within, kept.fits))
    (λ lines rest is full none begun_is.
    let hand : drop begun came ≡ rest ++ t = ap (drop begun) kept.kept_is ∙ line_at_hand lines rest old.came t begun is begun_is in
    let block : came ≡ joined lines ++ (rest ++ t) = kept.kept_is ∙ behind_parts (joined lines) rest t old.came is in
    subst (λ (s : List ℕ). BreaksBlock lines (rest ++ s)) l.whole (breaks lines (rest ++ t) block full (line_more rest t none l) hand)))

-- a line that isn't empty, behind which no line can be
pub trailer_full : (old new : BodyReader) (piece came : List ℕ) (size begun : ℕ) → old.stage ≡ stages.Trailer begun → new.framing ≡ old.framing → new.refused ≡ old.refused
    → EndsLine old.came piece size came → (IsEmptyLine (drop begun came) → ⊥) → length came ≡ 16384 → Stops old new piece faults.BadFraming
trailer_full old new piece came size begun at framing refused kept full many =
    trailer_line old new piece came size begun at framing refused kept
    (λ lines line is all line_is hand. inr (inr (record { line_is = line_is; not_empty = λ e. full (subst IsEmptyLine (sym hand) e) }), sym (ap length is) ∙ many))

-- a block with its empty line that is no trailer
pub trailer_bad : (old new : BodyReader) (piece came : List ℕ) (size begun : ℕ) → old.stage ≡ stages.Trailer begun → new.framing ≡ old.framing → new.refused ≡ old.refused
    → EndsLine old.came piece size came → IsEmptyLine (drop begun came)
    → ((lines : List (List ℕ)) (last : LineEnd) → All IsFullLine lines → came ≡ joined lines ++ print_end last → length came ≤ 16384 → TrailerText came → ⊥)
    → Stops old new piece faults.BadFraming
trailer_bad old new piece came size begun at framing refused kept empty never =
    let fits : length came ≤ 16384 =
    omega (arith, ap length kept.kept_is, length-append old.came (take size piece), length-take-le size piece kept.within, kept.fits) in
    trailer_line old new piece came size begun at framing refused kept
    (λ lines line is all line_is hand.
    let line_empty : IsEmptyLine line = subst IsEmptyLine hand empty in
    let shape : came ≡ joined lines ++ print_end line_empty.0 = is ∙ ap (λ (s : List ℕ). joined lines ++ s) line_empty.1 in
    inl (line_empty, subst (λ (s : List ℕ). length s ≤ 16384) is fits, λ text. never lines line_empty.0 all shape fits (subst TrailerText (sym is) text)))

-- no memory for bytes of a trailer
trailer_wants : (old new : BodyReader) (piece : List ℕ) (begun : ℕ) → old.stage ≡ stages.Trailer begun → new.framing ≡ old.framing → new.refused ≡ old.refused
    → 0 < length piece → Stops old new piece faults.OutOfMemory
trailer_wants old new piece begun at framing refused some =
    stops_at old new piece faults.OutOfMemory (stages.Trailer begun) at (refl, λ w. w) framing refused (λ body bytes here. (
      here.0,
      wants_front (here.1 ++ old.came) body bytes piece some here.2 (inr (record {
        line = here.1;
        block = old.came;
        line_is = here.3;
        block_is = record { lines = here.4; rest = here.5; lines_are = here.7; no_feed = here.8; whole = here.6; few = here.10 };
        whole = refl;
      })),
    ))

pub trailer_refuses : (old new : BodyReader) (piece : List ℕ) (fault : HttpFault) (begun : ℕ) → old.stage ≡ stages.Trailer begun → new.framing ≡ old.framing
    → new.refused ≡ old.refused → ((fault ≡ faults.OutOfMemory) × (0 < length piece)) ⊎ ((fault ≡ faults.BadFraming) × IsTooLong old.came piece) → Stops old new piece fault
trailer_refuses old new piece fault begun at framing refused =
    refuses old new piece fault (trailer_wants old new piece begun at framing refused) (trailer_long old new piece begun at framing refused)

-- the line at hand is what came behind so many bytes
pub same_hand : (text : List ℕ) (at begun : ℕ) → at ≡ min begun (length text) → take (length text - at) (drop at text) ≡ drop begun text
same_hand text at begun is = take_rest text at ∙ ap (λ n. drop n text) is ∙ drop_min begun text
