-- Two places behind one final head: what is refused there, and what isn't.
use Rattle.std.proofs.Common.{◌≡◌, ◌≢◌, ℕ, ◌<◌, ◌≤◌, Bool, true, false, List, [], ◌∷◌, ◌++◌, length, refl, sym, ap, subst, ◌∙◌, inl, inr, arith}
use Rattle.std.proofs.lemmas.List.{append-nil, length-append}
use Rattle.std.specs.Prelude.{◌⊎◌}
use Rattle.tg_body.specs.Bodies.{BodyFront, BodyText, ChunkedFront}
use Rattle.tg_body.specs.History.{BreaksChunked}
use Rattle.tg_bytes.specs.Lists.{same_front}
use Rattle.tg_cut_laws.proofs.Insides.{either_longer}
use Rattle.tg_cut_laws.proofs.ReplyPlaces.{BreaksAt, EndsAt, FailsAt, IsFar, OpenAt, Place, RefusedBehind, StopsAt, WholeAt}
use Rattle.tg_cut_laws.proofs.ReplyPlaces.{all_received, none_left, one_behind, one_sooner, sooner}
use Rattle.tg_cut_laws.specs.Bodies.{BodyCutLaws, IsAnswerBody, IsDueFault}
use Rattle.tg_cut_laws.specs.Sections.{BeginOne}
use Rattle.tg_fetch.specs.Bodies.{BodyFails, BodyStops}
use Rattle.tg_fetch.specs.Bodies.{IsOpenBody}
use Rattle.tg_fetch.specs.Replies.{HeadStops}
use Rattle.tg_fetch.specs.declared.fault.FetchFault.{FetchFault}
use Rattle.tg_fetch.specs.declared.fault.FetchFault.TheVariants as faults
use Rattle.tg_heard.specs.Carried.{IsAbsenceHead}
use Rattle.tg_heard.specs.Got.{IsTakenHead}
use Rattle.tg_heard.specs.FrontLaws.{BodyPieceLaws, HeadLaws, IsShort}
use Rattle.tg_http.specs.declared.framing.Framing.{Framing}
use Rattle.tg_http.specs.declared.framing.Framing.TheVariants as framings
use Rattle.tg_http.specs.declared.reply.ReplyHead.{ReplyHead}
use Rattle.tg_model.specs.Dag.{Section}
use Rattle.tg_model.specs.LimitNumbers.{LimitNumbers}
use Rattle.tg_model.specs.Queries.{QueryParts}

-- ---- the head

-- a head behind which a body is open is taken
open_taken : (q : QueryParts) (limits : LimitNumbers) (head : ReplyHead) (given : List ℕ) (sections : List Section) (text : List ℕ)
    → IsOpenBody q limits head given sections text → IsTakenHead q head
open_taken q limits head given sections text (IsOpenBody.answer o) = inl o.is_head
open_taken q limits head given sections text (IsOpenBody.absence o) = inr o.is_head
open_taken q limits head given sections text (IsOpenBody.block o) = inl o.is_head

-- so is one behind which it is refused while it comes
stops_taken : (q : QueryParts) (limits : LimitNumbers) (head : ReplyHead) (given : List ℕ) (sections : List Section) (text : List ℕ) (fault : FetchFault)
    → BodyStops q limits head given sections text fault → IsTakenHead q head
stops_taken q limits head given sections text fault (BodyStops.answer s) = inl s.is_head
stops_taken q limits head given sections text fault (BodyStops.absence s) = inr s.is_head
stops_taken q limits head given sections text fault (BodyStops.reaches s) = inr s.is_head
stops_taken q limits head given sections text fault (BodyStops.block s) = inl s.is_head

-- and at its end
fails_taken : (q : QueryParts) (limits : LimitNumbers) (head : ReplyHead) (body : List ℕ) (sections : List Section) (text : List ℕ) (fault : FetchFault)
    → BodyFails q limits head body sections text fault → IsTakenHead q head
fails_taken q limits head body sections text fault (BodyFails.answer s) = inl s.is_head
fails_taken q limits head body sections text fault (BodyFails.absence s) = inr s.is_head
fails_taken q limits head body sections text fault (BodyFails.reaches s) = inr s.is_head
fails_taken q limits head body sections text fault (BodyFails.block s) = inl s.is_head

-- no head has both statuses
two_statuses : (status : ℕ) → status ≡ 200 → status ≡ 404 → ⊥
two_statuses status a b = omega (arith, a, b)

-- where a head is taken no refusal is due for it
pub head_taken : (q : QueryParts) (head : ReplyHead) (fault : FetchFault) → IsDueFault fault → HeadStops q head fault → head.framing ≢ framings.Broken → IsTakenHead q head → ⊥
head_taken q head (faults.Status status) due stops framed (inl a) = stops.1 a.status
head_taken q head (faults.Status status) due stops framed (inr a) = stops.2 a
head_taken q head faults.BadFraming due stops framed taken = framed stops.1
head_taken q head faults.BadType due stops framed (inl a) = stops.2 a.type_is
head_taken q head faults.BadType due stops framed (inr a) = two_statuses head.status stops.0 a.status
head_taken q head faults.OutOfMemory due stops framed taken = due
head_taken q head (faults.Refused refusal) due stops framed taken = stops
head_taken q head faults.BadReplyHead due stops framed taken = stops
head_taken q head (faults.BadCar car) due stops framed taken = stops
head_taken q head faults.PeerFault due stops framed taken = stops
head_taken q head faults.KeepFault due stops framed taken = stops

-- a status of neither is that of no head that is taken
no_status : (q : QueryParts) (head : ReplyHead) → head.status ≢ 200 → (IsAbsenceHead q head → ⊥) → (head.status ≡ 200) ⊎ IsAbsenceHead q head → ⊥
no_status q head other none (inl a) = other a
no_status q head other none (inr a) = none a

-- of two refusals for one head both are the same
pub head_once : (q : QueryParts) (head : ReplyHead) (f g : FetchFault) → IsDueFault f → IsDueFault g → HeadStops q head f → HeadStops q head g → f ≡ g
head_once q head (faults.Status a) (faults.Status b) due also s t = ap faults.Status (s.0 ∙ sym t.0)
head_once q head (faults.Status a) faults.BadFraming due also s t = absurd (no_status q head s.1 s.2 t.0)
head_once q head (faults.Status a) faults.BadType due also s t = absurd (s.1 t.0)
head_once q head (faults.Status a) faults.OutOfMemory due also s t = absurd also
head_once q head (faults.Status a) (faults.Refused refusal) due also s t = absurd t
head_once q head (faults.Status a) faults.BadReplyHead due also s t = absurd t
head_once q head (faults.Status a) (faults.BadCar car) due also s t = absurd t
head_once q head (faults.Status a) faults.PeerFault due also s t = absurd t
head_once q head (faults.Status a) faults.KeepFault due also s t = absurd t
head_once q head faults.BadFraming (faults.Status b) due also s t = absurd (no_status q head t.1 t.2 s.0)
head_once q head faults.BadFraming faults.BadFraming due also s t = refl
head_once q head faults.BadFraming faults.BadType due also s t = absurd (t.1 s.1)
head_once q head faults.BadFraming faults.OutOfMemory due also s t = absurd also
head_once q head faults.BadFraming (faults.Refused refusal) due also s t = absurd t
head_once q head faults.BadFraming faults.BadReplyHead due also s t = absurd t
head_once q head faults.BadFraming (faults.BadCar car) due also s t = absurd t
head_once q head faults.BadFraming faults.PeerFault due also s t = absurd t
head_once q head faults.BadFraming faults.KeepFault due also s t = absurd t
head_once q head faults.BadType (faults.Status b) due also s t = absurd (t.1 s.0)
head_once q head faults.BadType faults.BadFraming due also s t = absurd (s.1 t.1)
head_once q head faults.BadType faults.BadType due also s t = refl
head_once q head faults.BadType faults.OutOfMemory due also s t = absurd also
head_once q head faults.BadType (faults.Refused refusal) due also s t = absurd t
head_once q head faults.BadType faults.BadReplyHead due also s t = absurd t
head_once q head faults.BadType (faults.BadCar car) due also s t = absurd t
head_once q head faults.BadType faults.PeerFault due also s t = absurd t
head_once q head faults.BadType faults.KeepFault due also s t = absurd t
head_once q head faults.OutOfMemory g due also s t = absurd due
head_once q head (faults.Refused refusal) g due also s t = absurd s
head_once q head faults.BadReplyHead g due also s t = absurd s
head_once q head (faults.BadCar car) g due also s t = absurd s
head_once q head faults.PeerFault g due also s t = absurd s
head_once q head faults.KeepFault g due also s t = absurd s

-- ---- two places behind one head

module _ (heads : HeadLaws) (pieces : BodyPieceLaws) (laws : BodyCutLaws) (q : QueryParts) (limits : LimitNumbers) (bytes : List ℕ) (head : ReplyHead) (rest : List ℕ) where
  -- what came of the body may be received
  came_fits : (place : Place limits bytes head rest) → length place.came ≤ limits.received
  came_fits place = omega (arith, heads.rest_fits place.heard place.came head place.final, place.within)

  -- at one place one text is written for what is open
  pub same_open : (x y : List ℕ) (o : OpenAt q limits bytes head rest x) (p : OpenAt q limits bytes head rest y) → length o.place.heard ≤ length p.place.heard
      → length p.place.heard ≤ length o.place.heard → x ≡ y
  same_open x y o p less more =
      let l = sooner limits bytes head rest o.place p.place less in
      let m = sooner limits bytes head rest p.place o.place more in
      let came : o.place.came ≡ p.place.came =
      (same_front o.place.came p.place.came o.place.left p.place.left
      (omega (arith, ap length l.first, length-append o.place.came l.middle, ap length m.first, length-append p.place.came m.middle))
      (one_behind limits bytes head rest o.place p.place)).0 in
      let given : o.given ≡ p.given = pieces.one_front head.framing o.given p.given p.place.came (subst (BodyFront head.framing o.given) came o.front) p.front in
      laws.is_open q limits head p.given o.sections p.sections x y (subst (λ (g : List ℕ). IsOpenBody q limits head g o.sections x) given o.body) p.body

  -- no later place is open where the framing is broken
  pub not_behind : (y : List ℕ) (a : Place limits bytes head rest) (b : BreaksAt limits bytes head rest a) (p : OpenAt q limits bytes head rest y)
      → length a.heard < length p.place.heard → ⊥
  not_behind y a b p less =
      let l = one_sooner limits bytes head rest a p.place b.last b.more b.left_is less in
      pieces.not_broken head.framing p.given p.place.came (a.came ++ b.last ∷ []) l.middle p.front b.chunked l.first b.breaks

  -- nor is what came refused there
  pub not_stopped_behind : (y : List ℕ) (g : FetchFault) (a : Place limits bytes head rest) (b : BreaksAt limits bytes head rest a) (s : StopsAt q limits bytes head rest y g)
      → length a.heard < length s.place.heard → ⊥
  not_stopped_behind y g a b s less =
      let l = one_sooner limits bytes head rest a s.place b.last b.more b.left_is less in
      pieces.not_broken head.framing s.given s.place.came (a.came ++ b.last ∷ []) l.middle s.front b.chunked l.first b.breaks

  -- what is open is refused nowhere before
  pub stops_open : (x y : List ℕ) (f : FetchFault) → IsDueFault f → (s : StopsAt q limits bytes head rest x f) (p : OpenAt q limits bytes head rest y)
      → length s.place.heard ≤ length p.place.heard → ⊥
  stops_open x y f due s p less =
      let l = sooner limits bytes head rest s.place p.place less in
      let more = pieces.grows head.framing s.place.came l.middle s.given p.given s.front (subst (BodyFront head.framing p.given) l.first p.front) in
      let fits : length (s.given ++ more.0) ≤ limits.received =
      omega (arith, ap length more.1, pieces.front_fits head.framing p.given p.place.came p.front, came_fits p.place) in
      laws.stops_open q limits head s.given more.0 s.sections p.sections x y f fits due s.stops (subst (λ (g : List ℕ). IsOpenBody q limits head g p.sections y) more.1 p.body)

  -- two refusals while it comes are one
  stops_sooner : (x y : List ℕ) (f g : FetchFault) → IsDueFault f → IsDueFault g → (s : StopsAt q limits bytes head rest x f) (t : StopsAt q limits bytes head rest y g)
      → length s.place.heard ≤ length t.place.heard → (x ≡ y) × (f ≡ g)
  stops_sooner x y f g due also s t less =
      let l = sooner limits bytes head rest s.place t.place less in
      let more = pieces.grows head.framing s.place.came l.middle s.given t.given s.front (subst (BodyFront head.framing t.given) l.first t.front) in
      let both : BeginOne s.given t.given = record { a_more = more.0; b_more = []; one = sym more.1 ∙ sym (append-nil t.given) } in
      let given_fits : length s.given ≤ limits.received =
      omega (arith, pieces.front_fits head.framing s.given s.place.came s.front, came_fits s.place) in
      let came_few : length t.given ≤ limits.received =
      omega (arith, pieces.front_fits head.framing t.given t.place.came t.front, came_fits t.place) in
      laws.stops q limits head s.given t.given s.sections t.sections x y f g both given_fits came_few due also s.stops t.stops

  -- both are the same the other way round
  both_ways : (x y : List ℕ) (f g : FetchFault) → (y ≡ x) × (g ≡ f) → (x ≡ y) × (f ≡ g)
  both_ways x y f g e = (sym e.0, sym e.1)

  -- whichever came first
  pub stops_once : (x y : List ℕ) (f g : FetchFault) → IsDueFault f → IsDueFault g → StopsAt q limits bytes head rest x f → StopsAt q limits bytes head rest y g
      → (x ≡ y) × (f ≡ g)
  stops_once x y f g due also s t = by_size (either_longer s.place.heard t.place.heard)
    where
      by_size : (length s.place.heard ≤ length t.place.heard) ⊎ (length t.place.heard < length s.place.heard) → (x ≡ y) × (f ≡ g)
      by_size (inl less) = stops_sooner x y f g due also s t less
      by_size (inr more) = both_ways x y f g (stops_sooner y x g f also due t s (omega (arith, more)))

  -- ---- a whole body

  -- it may be received
  pub body_few : (w : WholeAt limits bytes head rest) → length w.body ≤ limits.received
  body_few w = omega (arith, pieces.body_fits head.framing w.body w.place.came w.body_is, came_fits w.place)

  -- its framing isn't broken
  pub whole_framed : WholeAt limits bytes head rest → head.framing ≢ framings.Broken
  whole_framed w e = subst (λ (f : Framing). BodyText f w.body w.place.came) e w.body_is

  -- it is one
  pub one_whole : (w v : WholeAt limits bytes head rest) → w.body ≡ v.body
  one_whole w v =
      pieces.one_body head.framing w.body v.body w.place.came v.place.came w.place.left v.place.left w.body_is v.body_is (one_behind limits bytes head rest w.place v.place)
      (λ e. (w.closed e, v.closed e))

  -- what came of it is its front
  pub stops_front : (x : List ℕ) (f : FetchFault) (s : StopsAt q limits bytes head rest x f) (w : WholeAt limits bytes head rest) → (left : List ℕ) × (w.body ≡ s.given ++ left)
  stops_front x f s w =
      pieces.fronts head.framing s.given w.body s.place.came w.place.came s.place.left w.place.left s.front w.body_is (one_behind limits bytes head rest s.place w.place) w.closed

  -- it doesn't go on behind it
  pub whole_far : (y : List ℕ) (w : WholeAt limits bytes head rest) (p : OpenAt q limits bytes head rest y) → IsFar limits bytes head rest p.place
      → IsShort head.framing p.place.came → head.framing ≢ framings.UntilClose → ⊥
  whole_far y w p far short ends =
      let l = sooner limits bytes head rest w.place p.place (far w.place) in
      pieces.not_on head.framing w.body w.place.came p.place.came p.given l.middle w.body_is p.front short ends l.first

  -- nor is it broken
  pub whole_breaks : (y : List ℕ) (w : WholeAt limits bytes head rest) (p : OpenAt q limits bytes head rest y) → BreaksAt limits bytes head rest p.place → ⊥
  whole_breaks y w p b =
      pieces.unbroken head.framing w.body w.place.came p.place.came p.given (b.last ∷ []) b.more w.place.left w.body_is
      (inr (
        b.chunked,
        record {
          front = [];
          last = b.last;
          more = [];
          whole = refl;
          went_on = subst (ChunkedFront p.given) (sym (append-nil p.place.came)) (subst (λ (f : Framing). BodyFront f p.given p.place.came) b.chunked p.front);
          breaks = subst (λ (l : List ℕ). BreaksChunked (l ++ b.last ∷ [])) (sym (append-nil p.place.came)) b.breaks;
        },
      ))
      (ap (λ (l : List ℕ). p.place.came ++ l) (sym b.left_is) ∙ one_behind limits bytes head rest p.place w.place)

  -- where more bytes are than may be received, it ends by itself
  past_ends : (w : WholeAt limits bytes head rest) (p : Place limits bytes head rest) → length p.heard ≡ limits.received → 0 < length p.left → head.framing ≢ framings.UntilClose
  past_ends w p full some e =
      absurd (omega (
        arith,
        full,
        some,
        ap length (w.closed e),
        w.place.within,
        ap length (sym w.place.whole ∙ p.whole),
        length-append w.place.heard w.place.left,
        length-append p.heard p.left,
      ))

  -- so none of these is behind it
  pub whole_ends : (end : Bool) (y : List ℕ) (g : FetchFault) (w : WholeAt limits bytes head rest) (p : OpenAt q limits bytes head rest y) → EndsAt limits bytes head rest end p.place g → ⊥
  whole_ends end y g w p (EndsAt.breaks is b) = whole_breaks y w p b
  whole_ends end y g w p (EndsAt.cut is over none short ends) = whole_far y w p (none_left limits bytes head rest p.place none) short ends
  whole_ends end y g w p (EndsAt.past is full some short) =
      whole_far y w p (all_received limits bytes head rest p.place full) short (past_ends w p.place full some)

  -- ---- what is open, and ends

  -- it is refused nowhere
  pub stops_ends : (end : Bool) (x y : List ℕ) (f g : FetchFault) → IsDueFault f → (s : StopsAt q limits bytes head rest x f) (p : OpenAt q limits bytes head rest y)
      → EndsAt limits bytes head rest end p.place g → ⊥
  stops_ends end x y f g due s p (EndsAt.breaks is b) = by_size (either_longer s.place.heard p.place.heard)
    where
      by_size : (length s.place.heard ≤ length p.place.heard) ⊎ (length p.place.heard < length s.place.heard) → ⊥
      by_size (inl less) = stops_open x y f due s p less
      by_size (inr more) = not_stopped_behind x f p.place b s more
  stops_ends end x y f g due s p (EndsAt.cut is over none short ends) = stops_open x y f due s p (none_left limits bytes head rest p.place none s.place)
  stops_ends end x y f g due s p (EndsAt.past is full some short) = stops_open x y f due s p (all_received limits bytes head rest p.place full s.place)

  -- nothing is open where all of it was heard, and it is broken before
  pub breaks_far : (x y : List ℕ) (o : OpenAt q limits bytes head rest x) (b : BreaksAt limits bytes head rest o.place) (p : OpenAt q limits bytes head rest y)
      → (length p.place.heard ≡ limits.received) ⊎ (p.place.left ≡ []) → ⊥
  breaks_far x y o b p (inl full) = not_behind y o.place b p (omega (arith, b.few, full))
  breaks_far x y o b p (inr none) =
      not_behind y o.place b p
      (omega (
        arith,
        ap length none,
        ap length b.left_is,
        ap length (sym o.place.whole ∙ p.place.whole),
        length-append o.place.heard o.place.left,
        length-append p.place.heard p.place.left,
      ))

  -- two that break it
  breaks_once : (x y : List ℕ) (o : OpenAt q limits bytes head rest x) (p : OpenAt q limits bytes head rest y) → BreaksAt limits bytes head rest o.place
      → BreaksAt limits bytes head rest p.place → x ≡ y
  breaks_once x y o p b c = by_size (either_longer o.place.heard p.place.heard) (either_longer p.place.heard o.place.heard)
    where
      by_size : (length o.place.heard ≤ length p.place.heard) ⊎ (length p.place.heard < length o.place.heard)
          → (length p.place.heard ≤ length o.place.heard) ⊎ (length o.place.heard < length p.place.heard) → x ≡ y
      by_size (inl less) (inl more) = same_open x y o p less more
      by_size (inl less) (inr later) = absurd (not_behind y o.place b p later)
      by_size (inr later) other = absurd (not_behind x p.place c o later)

  -- no bytes are heard to their end and are more than may be received
  cut_past : (a b : Place limits bytes head rest) → a.left ≡ [] → length b.heard ≡ limits.received → 0 < length b.left → ⊥
  cut_past a b none full some =
      omega (arith, full, some, ap length none, a.within, ap length (sym a.whole ∙ b.whole), length-append a.heard a.left, length-append b.heard b.left)

  -- two of these are one
  pub ends_once : (ended end : Bool) (x y : List ℕ) (f g : FetchFault) (o : OpenAt q limits bytes head rest x) (p : OpenAt q limits bytes head rest y) → EndsAt limits bytes head rest ended o.place f
      → EndsAt limits bytes head rest end p.place g → (x ≡ y) × (f ≡ g)
  ends_once ended end x y f g o p (EndsAt.breaks is b) (EndsAt.breaks also c) = (breaks_once x y o p b c, is ∙ sym also)
  ends_once ended end x y f g o p (EndsAt.breaks is b) (EndsAt.cut also over none short ends) = absurd (breaks_far x y o b p (inr none))
  ends_once ended end x y f g o p (EndsAt.breaks is b) (EndsAt.past also full some short) = absurd (breaks_far x y o b p (inl full))
  ends_once ended end x y f g o p (EndsAt.cut is over none short ends) (EndsAt.breaks also c) = absurd (breaks_far y x p c o (inr none))
  ends_once ended end x y f g o p (EndsAt.cut is over none short ends) (EndsAt.cut also gone no_more few stays) =
      (same_open x y o p (none_left limits bytes head rest p.place no_more o.place) (none_left limits bytes head rest o.place none p.place), is ∙ sym also)
  ends_once ended end x y f g o p (EndsAt.cut is over none short ends) (EndsAt.past also full some few) = absurd (cut_past o.place p.place none full some)
  ends_once ended end x y f g o p (EndsAt.past is full some short) (EndsAt.breaks also c) = absurd (breaks_far y x p c o (inl full))
  ends_once ended end x y f g o p (EndsAt.past is full some short) (EndsAt.cut also over none few ends) = absurd (cut_past p.place o.place none full some)
  ends_once ended end x y f g o p (EndsAt.past is full some short) (EndsAt.past also most more few) =
      (same_open x y o p (all_received limits bytes head rest p.place most o.place) (all_received limits bytes head rest o.place full p.place), is ∙ sym also)

  -- ---- a refusal at its end

  -- is the same as one while it comes
  stops_fails : (x y : List ℕ) (f g : FetchFault) → IsDueFault f → IsDueFault g → StopsAt q limits bytes head rest x f → FailsAt q limits bytes head rest y g → (x ≡ y) × (f ≡ g)
  stops_fails x y f g due also s t =
      let l = stops_front x f s t.whole in
      let fits : length (s.given ++ l.0) ≤ limits.received = omega (arith, ap length l.1, body_few t.whole) in
      laws.stops_fails q limits head s.given l.0 s.sections t.sections x y f g fits due also s.stops (subst (λ (b : List ℕ). BodyFails q limits head b t.sections y g) l.1 t.fails)

  -- and as another at its end
  fails_once : (x y : List ℕ) (f g : FetchFault) → IsDueFault f → IsDueFault g → FailsAt q limits bytes head rest x f → FailsAt q limits bytes head rest y g → (x ≡ y) × (f ≡ g)
  fails_once x y f g due also s t =
      let same = one_whole s.whole t.whole in
      laws.fails q limits head t.whole.body s.sections t.sections x y f g (body_few t.whole) due also
      (subst (λ (b : List ℕ). BodyFails q limits head b s.sections x f) same s.fails) t.fails

  -- ---- the head

  -- no body is open behind a head that is refused
  head_open : (y : List ℕ) (f : FetchFault) → IsDueFault f → HeadStops q head f → OpenAt q limits bytes head rest y → ⊥
  head_open y f due stops p = head_taken q head f due stops p.framed (open_taken q limits head p.given p.sections y p.body)

  -- nor refused while it comes
  head_stops : (y : List ℕ) (f g : FetchFault) → IsDueFault f → HeadStops q head f → StopsAt q limits bytes head rest y g → ⊥
  head_stops y f g due stops s = head_taken q head f due stops s.framed (stops_taken q limits head s.given s.sections y g s.stops)

  -- nor at its end
  head_fails : (y : List ℕ) (f g : FetchFault) → IsDueFault f → HeadStops q head f → FailsAt q limits bytes head rest y g → ⊥
  head_fails y f g due stops t = head_taken q head f due stops (whole_framed t.whole) (fails_taken q limits head t.whole.body t.sections y g t.fails)

  -- ---- all of them

  -- two refusals behind one final head are one
  pub behind_once : (ended end : Bool) (x y : List ℕ) (f g : FetchFault) → IsDueFault f → IsDueFault g → RefusedBehind q limits bytes head rest ended x f → RefusedBehind q limits bytes head rest end y g
      → (x ≡ y) × (f ≡ g)
  behind_once ended end x y f g due also (RefusedBehind.at_head a s e) (RefusedBehind.at_head b t d) = (e ∙ sym d, head_once q head f g due also s t)
  behind_once ended end x y f g due also (RefusedBehind.at_head a s e) (RefusedBehind.in_body t) = absurd (head_stops y f g due s t)
  behind_once ended end x y f g due also (RefusedBehind.at_head a s e) (RefusedBehind.at_end t shut) = absurd (head_fails y f g due s t)
  behind_once ended end x y f g due also (RefusedBehind.at_head a s e) (RefusedBehind.is_open p why) = absurd (head_open y f due s p)
  behind_once ended end x y f g due also (RefusedBehind.in_body s) (RefusedBehind.at_head b t d) = absurd (head_stops x g f also t s)
  behind_once ended end x y f g due also (RefusedBehind.in_body s) (RefusedBehind.in_body t) = stops_once x y f g due also s t
  behind_once ended end x y f g due also (RefusedBehind.in_body s) (RefusedBehind.at_end t shut) = stops_fails x y f g due also s t
  behind_once ended end x y f g due also (RefusedBehind.in_body s) (RefusedBehind.is_open p why) = absurd (stops_ends end x y f g due s p why)
  behind_once ended end x y f g due also (RefusedBehind.at_end s closed) (RefusedBehind.at_head b t d) = absurd (head_fails x g f also t s)
  behind_once ended end x y f g due also (RefusedBehind.at_end s closed) (RefusedBehind.in_body t) = both_ways x y f g (stops_fails y x g f also due t s)
  behind_once ended end x y f g due also (RefusedBehind.at_end s closed) (RefusedBehind.at_end t shut) = fails_once x y f g due also s t
  behind_once ended end x y f g due also (RefusedBehind.at_end s closed) (RefusedBehind.is_open p why) = absurd (whole_ends end y g s.whole p why)
  behind_once ended end x y f g due also (RefusedBehind.is_open o why) (RefusedBehind.at_head b t d) = absurd (head_open x g also t o)
  behind_once ended end x y f g due also (RefusedBehind.is_open o why) (RefusedBehind.in_body t) = absurd (stops_ends ended y x g f also t o why)
  behind_once ended end x y f g due also (RefusedBehind.is_open o why) (RefusedBehind.at_end t shut) = absurd (whole_ends ended x f t.whole o why)
  behind_once ended end x y f g due also (RefusedBehind.is_open o why) (RefusedBehind.is_open p ends) = ends_once ended end x y f g o p why ends

  -- ---- the answer

  -- it is refused by none
  pub behind_answer : (ended : Bool) (x y : List ℕ) (f : FetchFault) (sections : List Section) → IsDueFault f → RefusedBehind q limits bytes head rest ended x f → (w : WholeAt limits bytes head rest)
      → IsAnswerBody q limits head w.body sections y → ⊥
  behind_answer ended x y f sections due (RefusedBehind.at_head a s e) w answer = head_taken q head f due s (whole_framed w) (inl answer.is_head)
  behind_answer ended x y f sections due (RefusedBehind.in_body s) w answer =
      let l = stops_front x f s w in
      let fits : length (s.given ++ l.0) ≤ limits.received = omega (arith, ap length l.1, body_few w) in
      laws.stops_answer q limits head s.given l.0 s.sections sections x y f fits due s.stops (subst (λ (b : List ℕ). IsAnswerBody q limits head b sections y) l.1 answer)
  behind_answer ended x y f sections due (RefusedBehind.at_end s closed) w answer =
      let same = one_whole s.whole w in
      laws.fails_answer q limits head w.body s.sections sections x y f (body_few w) due (subst (λ (b : List ℕ). BodyFails q limits head b s.sections x f) same s.fails) answer
  behind_answer ended x y f sections due (RefusedBehind.is_open o why) w answer = whole_ends ended x f w o why

  -- and is one
  pub answer_once : (x y : List ℕ) (a b : List Section) (w v : WholeAt limits bytes head rest) → IsAnswerBody q limits head w.body a x → IsAnswerBody q limits head v.body b y → x ≡ y
  answer_once x y a b w v answer other =
      laws.answer q limits head v.body a b x y (subst (λ (l : List ℕ). IsAnswerBody q limits head l a x) (one_whole w v) answer) other

  -- ---- where all of it goes on

  -- while the link had not ended
  never : false ≡ true → ⊥
  never e = cc

  -- a whole body is no front of one that goes on
  pub whole_open : (y : List ℕ) (ended : Bool) → ended ≡ false → (w : WholeAt limits bytes head rest) → (head.framing ≡ framings.UntilClose → ended ≡ true)
      → (p : OpenAt q limits bytes head rest y) → p.place.left ≡ [] → IsShort head.framing p.place.came → ⊥
  whole_open y ended on w closed p none short =
      whole_far y w p (none_left limits bytes head rest p.place none) short (λ e. never (sym on ∙ closed e))

  -- no front is refused
  pub behind_open : (ended : Bool) (x y : List ℕ) (f : FetchFault) → ended ≡ false → IsDueFault f → RefusedBehind q limits bytes head rest ended x f
      → (p : OpenAt q limits bytes head rest y) → p.place.left ≡ [] → IsShort head.framing p.place.came → ⊥
  behind_open ended x y f on due (RefusedBehind.at_head a s e) p none short = head_open y f due s p
  behind_open ended x y f on due (RefusedBehind.in_body s) p none short = stops_open x y f due s p (none_left limits bytes head rest p.place none s.place)
  behind_open ended x y f on due (RefusedBehind.at_end s closed) p none short = whole_open y ended on s.whole closed p none short
  behind_open ended x y f on due (RefusedBehind.is_open o (EndsAt.breaks is b)) p none short = breaks_far x y o b p (inr none)
  behind_open ended x y f on due (RefusedBehind.is_open o (EndsAt.cut is over no_more few stays)) p none short = never (sym on ∙ over)
  behind_open ended x y f on due (RefusedBehind.is_open o (EndsAt.past is full some few)) p none short = cut_past p.place o.place none full some

  -- and one text is written for it
  pub open_once : (x y : List ℕ) (o : OpenAt q limits bytes head rest x) (p : OpenAt q limits bytes head rest y) → o.place.left ≡ [] → p.place.left ≡ [] → x ≡ y
  open_once x y o p none no_more =
      same_open x y o p (none_left limits bytes head rest p.place no_more o.place) (none_left limits bytes head rest o.place none p.place)
