-- One step of a reader in a chunk line.
use Rattle.std.proofs.Common.{◌≡◌, ◌≢◌, ℕ, ◌+◌, ◌-◌, ◌<◌, ◌≤◌, ◌⊎◌, false, List, [], ◌∷◌, ◌++◌, length, take, drop, refl, sym, ap, ◌∙◌, subst, inl, inr, arith, append_assoc, zero-add}
use Rattle.std.proofs.lemmas.List.{length-append, length-take-le, append-nil, take-append-drop, take_at, take_all}
use Rattle.std.proofs.lemmas.List.Elements.{All-nil, All-append, All-take}
use Rattle.tg_body.specs.History.{BreaksLine, HasFeedCause}
use Rattle.tg_http.specs.declared.framing.Framing.{Framing}
use Rattle.tg_http.specs.declared.framing.Framing.TheVariants as framings
use Rattle.tg_http.specs.declared.fault.HttpFault.{HttpFault}
use Rattle.tg_http.specs.declared.fault.HttpFault.TheVariants as faults
use Rattle.tg_body.specs.declared.stage.Stage.{Stage}
use Rattle.tg_body.specs.declared.stage.Stage.TheVariants as stages
use Rattle.tg_body.specs.declared.stage.Step.TheVariants as steps
use Rattle.tg_body.specs.declared.reader.BodyReader.{BodyReader}
use Rattle.tg_http.specs.HeadText.{HasNoFeed, IsLine, IsFullLine}
use Rattle.tg_body.specs.Bodies.{SizeLine}
use Rattle.tg_body.specs.State.{BehindChunks, Holds, is_done}
use Rattle.tg_body.specs.Steps.{Steps, Stops, EndsLine, IsTooLong}
use Rattle.tg_body.proofs.Behind.{held_front}
use Rattle.tg_body.proofs.Steps.{refuses, steps_at, stops_at, wants_front}

-- the stage behind a chunk line of this size
abbrev pub IsBehindLine : ℕ → Stage → Type 0
IsBehindLine stated next = ((stated ≡ 0) × (next ≡ stages.Trailer 0)) ⊎ ((0 < stated) × (next ≡ stages.Data stated))

pub line_more : (came line : List ℕ) → HasNoFeed came → IsLine line → IsLine (came ++ line)
line_more came line none l = record {
  front = came ++ l.front;
  inside = All-append (λ b. b ≢ 10) came l.front none l.inside;
  whole = ap (λ (s : List ℕ). came ++ s) l.whole ∙ sym (append_assoc came l.front (10 ∷ []));
}

-- more bytes of what is behind the chunks
behind_more : (body bytes came t : List ℕ) → BehindChunks body bytes [] came → BehindChunks (body ++ []) (bytes ++ t) [] (came ++ t)
behind_more body bytes came t b = record {
  chunks = b.chunks;
  front = b.front;
  chunks_are = b.chunks_are;
  whole = ap (λ (s : List ℕ). s ++ t) b.whole ∙ append_assoc b.front came t;
  body_is = append-nil body ∙ b.body_is;
}

behind_end : (body bytes line : List ℕ) → BehindChunks body bytes [] line → BehindChunks body bytes [] (line ++ [])
behind_end body bytes line b = record {
  chunks = b.chunks;
  front = b.front;
  chunks_are = b.chunks_are;
  whole = b.whole ∙ ap (λ (s : List ℕ). b.front ++ s) (sym (append-nil line));
  body_is = b.body_is;
}

line_held : (framing : Framing) (body bytes line came : List ℕ) (stated : ℕ) (next : Stage) → framing ≡ framings.Chunked → came ≡ []
    → BehindChunks body bytes [] (line ++ []) → SizeLine stated line → IsBehindLine stated next → Holds framing next came body bytes
line_held framing body bytes line came stated next chunked none b s (inl last) =
    subst (λ (k : Stage). Holds framing k came body bytes) (sym last.1) (
      chunked,
      line,
      subst (λ (t : List ℕ). BehindChunks body bytes [] (line ++ t)) (sym none) b,
      subst (λ n. SizeLine n line) last.0 s,
      [],
      [],
      none,
      All-nil IsFullLine,
      All-nil (λ b. b ≢ 10),
      refl,
      omega (arith, ap length none),
    )
line_held framing body bytes line came stated next chunked none b s (inr some) =
    subst (λ (k : Stage). Holds framing k came body bytes) (sym some.1) (chunked, none, line, [], b, subst (λ n. SizeLine n line) (sym (zero-add stated)) s, omega (arith, some.0))

pub line_steps : (old : BodyReader) (piece came : List ℕ) (size stated : ℕ) (next : Stage) → old.stage ≡ stages.Line → size ≤ length piece → 0 < size
    → IsLine (take size piece) → length old.came + size ≤ 16384
    → (IsLine (old.came ++ take size piece) → length (old.came ++ take size piece) ≤ 16384 → SizeLine stated (old.came ++ take size piece))
    → IsBehindLine stated next → came ≡ [] → Steps old (record old { stage = next; came = came }) piece size steps.Next
line_steps old piece came size stated next at within some l few says behind none =
    steps_at old (record old { stage = next; came = came }) piece size steps.Next stages.Line at (refl, λ w. w) refl refl within some (not_done behind) (λ body bytes here.
    let t = take size piece in
    let size_is : length t ≡ size = length-take-le size piece within in
    let line = line_more old.came t here.2.no_feed l in
    let stated_is = says line (omega (arith, length-append old.came t)) in
    line_held old.framing (body ++ []) (bytes ++ t) (old.came ++ t) came stated next here.0 none
    (behind_end (body ++ []) (bytes ++ t) (old.came ++ t) (behind_more body bytes old.came t here.1)) stated_is behind)
  where
    not_done : IsBehindLine stated next → is_done next ≡ false
    not_done (inl last) = ap is_done last.1
    not_done (inr more) = ap is_done more.1

pub line_needs : (old : BodyReader) (piece came : List ℕ) → old.stage ≡ stages.Line → HasNoFeed piece → length old.came + length piece < 16384
    → came ≡ old.came ++ piece → Steps old (record old { came = came }) piece (length piece) steps.Need
line_needs old piece came at none few is =
    steps_at old (record old { came = came }) piece (length piece) steps.Need stages.Line at (refl, λ w. w) refl refl (omega arith) refl (ap is_done at) (λ body bytes here.
    let t = take (length piece) piece in
    let all : t ≡ piece = take_all (length piece) piece (omega arith) in
    let next : Holds old.framing stages.Line (old.came ++ piece) (body ++ []) (bytes ++ piece) = (
      here.0,
      behind_more body bytes old.came piece here.1,
      record { no_feed = All-append (λ b. b ≢ 10) old.came piece here.2.no_feed none; few = omega (arith, length-append old.came piece) },
    ) in
    subst (λ (s : Stage). Holds old.framing s came (body ++ []) (bytes ++ t)) (sym at)
    (subst (λ (s : List ℕ). Holds old.framing stages.Line s (body ++ []) (bytes ++ t)) (sym is)
    (subst (λ (s : List ℕ). Holds old.framing stages.Line (old.came ++ piece) (body ++ []) (bytes ++ s)) (sym all) next)))

-- a byte of the piece breaks the line: with `line` behind what came it is whole and states no size, or it is too long
line_cause : (old : BodyReader) (piece front more : List ℕ) (last : ℕ) → piece ≡ front ++ last ∷ more → HasNoFeed front → length old.came + length front < 16384
    → (HasNoFeed old.came → BreaksLine (old.came ++ (front ++ last ∷ []))) → (body bytes : List ℕ) → Holds old.framing stages.Line old.came body bytes
    → HasFeedCause old.framing bytes body piece faults.BadFraming
line_cause old piece front more last whole none few breaks body bytes here =
    let behind = here.1 in
    inr (
      here.0,
      record {
        front = front;
        last = last;
        more = more;
        whole = whole;
        went_on = held_front old.framing stages.Line (old.came ++ front) body (bytes ++ front) here.0 refl (
          here.0,
          subst (λ (s : List ℕ). BehindChunks s (bytes ++ front) [] (old.came ++ front)) (append-nil body) (behind_more body bytes old.came front behind),
          record { no_feed = All-append (λ b. b ≢ 10) old.came front here.2.no_feed none; few = omega (arith, length-append old.came front) },
        );
        breaks = record {
          chunks = behind.chunks;
          front = behind.front;
          rest = old.came ++ (front ++ last ∷ []);
          chunks_are = behind.chunks_are;
          whole = append_assoc bytes front (last ∷ []) ∙ ap (λ (s : List ℕ). s ++ (front ++ last ∷ [])) behind.whole
              ∙ append_assoc behind.front old.came (front ++ last ∷ []);
          breaks = inl (breaks here.2.no_feed);
        };
      },
    )

-- a line is bytes without a line feed, and a line feed
pub line_split : (piece : List ℕ) (size : ℕ) (l : IsLine (take size piece)) → piece ≡ l.front ++ 10 ∷ drop size piece
line_split piece size l =
    sym (take-append-drop size piece) ∙ ap (λ (s : List ℕ). s ++ drop size piece) l.whole ∙ append_assoc l.front (10 ∷ []) (drop size piece)

pub line_size : (piece : List ℕ) (size : ℕ) (l : IsLine (take size piece)) → size ≤ length piece → length l.front + 1 ≡ size
line_size piece size l within =
    omega (arith, length-append l.front (10 ∷ []), ap length l.whole, length-take-le size piece within)

-- bytes that aren't nothing have a last one
pub last_of : (t : List ℕ) → 0 < length t → (front : List ℕ) × (last : ℕ) × (t ≡ front ++ last ∷ [])
last_of [] some = absurd (omega (arith, some))
last_of (x ∷ []) some = ([], x, refl)
last_of (x ∷ y ∷ t) some =
    let found = last_of (y ∷ t) (omega arith) in
    (x ∷ found.0, found.1, ap (λ (s : List ℕ). x ∷ s) found.2)

-- the byte with which a line is too long
pub long_split : (came piece : List ℕ) → length came < 16384 → IsTooLong came piece
    → (front : List ℕ) × (last : ℕ) × (piece ≡ front ++ last ∷ drop (16384 - length came) piece) × HasNoFeed (front ++ last ∷ [])
    × (length came + length (front ++ last ∷ []) ≡ 16384)
long_split came piece few long =
    let room = 16384 - length came in
    let t = take room piece in
    let size : length t ≡ room = length-take-le room piece (omega (arith, long.long)) in
    let found = last_of t (omega arith) in (
      found.0,
      found.1,
      sym (take-append-drop room piece) ∙ ap (λ (s : List ℕ). s ++ drop room piece) found.2 ∙ append_assoc found.0 (found.1 ∷ []) (drop room piece),
      subst HasNoFeed found.2 long.no_feed,
      omega (arith, ap length found.2),
    )

pub front_no_feed : (front : List ℕ) (last : ℕ) → HasNoFeed (front ++ last ∷ []) → HasNoFeed front
front_no_feed front last none = subst HasNoFeed (take_at front (last ∷ []) (length front) refl) (All-take (λ b. b ≢ 10) (length front) (front ++ last ∷ []) none)

-- a chunk line that is too long
line_long : (old new : BodyReader) (piece : List ℕ) → old.stage ≡ stages.Line → new.framing ≡ old.framing → new.refused ≡ old.refused
    → IsTooLong old.came piece → Stops old new piece faults.BadFraming
line_long old new piece at framing refused long =
    stops_at old new piece faults.BadFraming stages.Line at (refl, λ w. w) framing refused (λ body bytes here.
    let found = long_split old.came piece here.2.few long in
    let front = found.0 in
    let text : List ℕ = front ++ found.1 ∷ [] in
    let size : length text ≡ length front + 1 = length-append front (found.1 ∷ []) in
    line_cause old piece front (drop (16384 - length old.came) piece) found.1 found.2 (front_no_feed front found.1 found.3) (omega (arith, size, found.4))
    (λ none. inr (All-append (λ b. b ≢ 10) old.came text none found.3, length-append old.came text ∙ found.4)) body bytes here)

-- a chunk line that states no size
pub line_bad : (old new : BodyReader) (piece came : List ℕ) (size : ℕ) → old.stage ≡ stages.Line → new.framing ≡ old.framing → new.refused ≡ old.refused
    → EndsLine old.came piece size came → (IsLine came → length came ≤ 16384 → (stated : ℕ) → SizeLine stated came → ⊥)
    → Stops old new piece faults.BadFraming
line_bad old new piece came size at framing refused kept never =
    let l = kept.line_is in
    let number = line_size piece size l kept.within in
    let bytes_are : came ≡ old.came ++ (l.front ++ 10 ∷ []) = kept.kept_is ∙ ap (λ (s : List ℕ). old.came ++ s) l.whole in
    let fits : length came ≤ 16384 = omega (arith, ap length bytes_are, length-append old.came (l.front ++ 10 ∷ []), length-append l.front (10 ∷ []), number, kept.fits) in
    stops_at old new piece faults.BadFraming stages.Line at (refl, λ w. w) framing refused
    (line_cause old piece l.front (drop size piece) 10 (line_split piece size l) l.inside (omega (arith, number, kept.fits))
    (λ none.
    let line : IsLine came = subst IsLine (sym kept.kept_is) (line_more old.came (take size piece) none l) in
    subst BreaksLine bytes_are (inl (line, fits, never line fits))))

-- no memory for bytes of a chunk line
line_wants : (old new : BodyReader) (piece : List ℕ) → old.stage ≡ stages.Line → new.framing ≡ old.framing → new.refused ≡ old.refused
    → 0 < length piece → Stops old new piece faults.OutOfMemory
line_wants old new piece at framing refused some =
    stops_at old new piece faults.OutOfMemory stages.Line at (refl, λ w. w) framing refused (λ body bytes here.
    (here.0, wants_front old.came body bytes piece some here.1 (inl here.2)))

pub line_refuses : (old new : BodyReader) (piece : List ℕ) (fault : HttpFault) → old.stage ≡ stages.Line → new.framing ≡ old.framing → new.refused ≡ old.refused
    → ((fault ≡ faults.OutOfMemory) × (0 < length piece)) ⊎ ((fault ≡ faults.BadFraming) × IsTooLong old.came piece) → Stops old new piece fault
line_refuses old new piece fault at framing refused = refuses old new piece fault (line_wants old new piece at framing refused) (line_long old new piece at framing refused)

-- a chunk line that states a size
pub line_states : (old : BodyReader) (piece text kept came : List ℕ) (size stated : ℕ) (next : Stage) → old.stage ≡ stages.Line → EndsLine old.came piece size kept
    → text ≡ kept → (IsLine text → length text ≤ 16384 → SizeLine stated text) → IsBehindLine stated next → came ≡ []
    → Steps old (record old { stage = next; came = came }) piece size steps.Next
line_states old piece text kept came size stated next at ends same says behind none =
    line_steps old piece came size stated next at ends.within ends.some ends.line_is ends.fits
    (subst (λ (s : List ℕ). IsLine s → length s ≤ 16384 → SizeLine stated s) (same ∙ ends.kept_is) says) behind none
