-- One step of a body.
use Rattle.std.proofs.Common.{◌≡◌, ℕ, Bool, true, false, inl, inr, ◌+◌, ◌<◌, ◌≤◌, List, [], ◌∷◌, ◌++◌, length, take, drop, Option, Some, None, Ok, Err, refl, ap, sym, subst, ◌∙◌, append-nil, append_assoc, arith}
use Rattle.std.proofs.lemmas.List.{length-append, length-take, length-take-le, take-append-drop, take-take}
use Rattle.tg_bytes.specs.Lists.{All-split_push}
use Rattle.tg_car.specs.History.{ArePlaced, GoesOn, IsAmongSections, StopsAt, given_by, with_feed}
use Rattle.tg_car.specs.State.{Holds, ReaderState, StandsFor}
use Rattle.tg_car.specs.declared.event.Event.{Event}
use Rattle.tg_car.specs.declared.event.Event.TheVariants as events
use Rattle.tg_car.specs.declared.fault.CarFault.{CarFault}
use Rattle.tg_car.specs.declared.section.Section.{Section as CarSection}
use Rattle.tg_cid.specs.Cid.{CidParts}
use Rattle.tg_cid.specs.Names.{Names}
use Rattle.tg_traversal.specs.Left.{WantedAt}
use Rattle.tg_model.specs.Dag.{Section}
use Rattle.tg_model.specs.LimitNumbers.{LimitNumbers}
use Rattle.tg_model.specs.Queries.{QueryParts}
use Rattle.tg_model.specs.declared.limits.LimitKind.TheVariants as kinds
use Rattle.tg_model.specs.Stores.{Keeping, KeepingQuiet, KeepingRose, KeptNothing, KeptSame}
use Rattle.tg_model.specs.declared.stores.KeepFault.{KeepFault}
use Rattle.tg_model.specs.declared.stores.KeepFault.TheVariants as keeps
use Rattle.tg_streams.specs.Streams.{Output, OutputQuiet, Put}
use Rattle.tg_verify.specs.History.{HasPutCause, HasWritten, IsCounted, StandsBy, StandsFor as VerifierStands}
use Rattle.tg_verify.specs.Laws.{AnswerLaws}
use Rattle.tg_verify.specs.Refusals.{HasNameCause, HasRefused, IsNamedBlock}
use Rattle.tg_verify.specs.Sound.{AnswersFor, ForEachSound}
use Rattle.tg_verify.specs.State.{VerifierState, next_cid}
use Rattle.tg_verify.specs.Taken.{IsFresh, IsGoing, IsUpTo}
use Rattle.tg_verify.specs.declared.fault.Refusal.{Refusal}
use Rattle.tg_verify.specs.declared.fault.Refusal.TheVariants as refusals
use Rattle.tg_verify.specs.declared.verifier.Progress.{Progress}
use Rattle.tg_client.specs.Body.{IsBody, IsBodyAt, IsStoppedAt, going_on}
use Rattle.tg_client.specs.Ends.{fault_of_car, fault_of_keep, fault_of_refusal}
use Rattle.tg_client.specs.Keeping.{AreKept, StoppedKeeping, WentOnKeeping}
use Rattle.tg_client.specs.Received.{HasHeader, HasReceived, out_of_car, sections_given}
use Rattle.tg_client.specs.ReceivedLaws.{ReceivedLaws}
use Rattle.tg_client.specs.declared.body.CarBody.{CarBody}
use Rattle.tg_client.specs.declared.fault.ClientFault.TheVariants as faults
use Rattle.tg_client.proofs.Breaking.{FitsOrWants, car_ends, car_says, car_taken, car_wants, named_not_refused, none_refused, refused_first, refused_now, taken_behind, taken_first}
use Rattle.tg_client.proofs.Kept.{car_kept, misnamed_by, none_but_last, none_until_fault, refusal_kept, same_kept, stops_before}
use Rattle.tg_client.proofs.Going.{goes_here, held_front, is_held, is_held_exactly, is_waiting, is_received, is_within, past_header, past_header_then, stopped_here, surplus_of, taken_so_far}

-- ---- whether a block is wanted

pub wants_none : (refused : Option Refusal) (wanted : Option WantedAt) → refused ≡ None → next_cid refused wanted ≡ None → wanted ≡ None
wants_none None None e n = refl
wants_none None (Some at) e n = absurd (cc n)
wants_none (Some fault) wanted e n = absurd (cc e)

pub wants_some : (refused : Option Refusal) (wanted : Option WantedAt) (cid : CidParts) → next_cid refused wanted ≡ Some cid → (at : WantedAt) × (wanted ≡ Some at)
wants_some None None cid s = absurd (cc s)
wants_some None (Some at) cid s = (at, refl)
wants_some (Some fault) wanted cid s = absurd (cc s)

pub some_of : {A : Type 0} → (o : Option A) → (o ≡ None → ⊥) → (a : A) × (o ≡ Some a)
some_of None none = absurd (none refl)
some_of (Some a) none = (a, refl)

pub stands_going : (state : VerifierState) (sections : List Section) (written : List ℕ) → state.refused ≡ None → IsGoing state sections written → VerifierStands state sections written
stands_going state sections written e h = subst (λ (r : Option Refusal). StandsBy r state sections written) (sym e) h

-- the header is given once, before all sections
none_placed : (at : ℕ) (sections : List CarSection) (bytes : List ℕ) (given : List Event) (header : List ℕ) → ArePlaced at sections bytes (given ++ events.Header header ∷ []) → ⊥
none_placed at [] bytes [] header h = absurd (cc h.1)
none_placed at [] bytes (event ∷ given) header h = absurd (cc h.1)
none_placed at (s ∷ sections) bytes [] header h = let e = h.5 in absurd (cc e)
none_placed at (s ∷ sections) bytes (event ∷ given) header h =
    let e = h.5 in
    let same : h.2 ≡ given ++ events.Header header ∷ [] = sym (cc e) in
    none_placed (at + length h.0) sections h.1 given header (subst (λ (l : List Event). ArePlaced (at + length h.0) sections h.1 l) same h.6)

pub none_before : (limit : ℕ) (bytes : List ℕ) (given : List Event) (header : List ℕ) → GoesOn limit bytes (given ++ events.Header header ∷ []) → given ≡ []
none_before limit bytes [] header on = refl
none_before limit bytes (event ∷ given) header (inl b) = absurd (cc b.nothing_given)
none_before limit bytes (event ∷ given) header (inr (rest, a)) =
    let is = a.given_is in
    let same : a.placed ≡ given ++ events.Header header ∷ [] = sym (cc is) in
    absurd (none_placed (length a.reaches.header) a.sections a.reaches.done given header (subst (λ (l : List Event). ArePlaced (length a.reaches.header) a.sections a.reaches.done l) same a.placed_are))

-- before it no byte of a section came
none_came : (in_header : Bool) (reader : ReaderState) (heard : List ℕ) (given : List Event) → Holds in_header reader heard given → given ≡ [] → reader.came ≡ []
none_came true reader heard given holds none = holds.none_came
none_came false reader heard given holds none = let is = holds.among.given_is in absurd (cc (sym none ∙ is))

-- the header is whole where something was given
pub header_whole : (limit : ℕ) (bytes : List ℕ) (given more : List Event) (event : Event) (placed : List Event) → given ≡ event ∷ placed → GoesOn limit bytes (given ++ more) → HasHeader limit bytes
header_whole limit bytes given more event placed is on =
    record { event = event; given = placed ++ more; goes_on = subst (λ (l : List Event). GoesOn limit bytes (l ++ more)) is on }

-- the verifier stays as it is
at_same : (old new : CarBody) (given : List Event) (sections : List Section) (written : List ℕ) → new.verifier ≡ old.verifier → IsBodyAt old given sections written → IsBodyAt new given sections written
at_same old new [] sections written same (fresh, none) = (subst IsFresh (sym same) fresh, none)
at_same old new (event ∷ given) sections written same going = subst (λ (v : VerifierState). IsGoing v sections written) (sym same) going

-- what a reader was fed of the first bytes of a piece
pub reads_on : (reader : ReaderState) (heard piece : List ℕ) (given : List Event) (room taken : ℕ) (event other : Event) → StandsFor reader (with_feed (going_on heard given) (take room piece) (Ok (taken, event)))
    → taken ≤ length (take room piece) → event ≡ other → StandsFor reader (going_on (heard ++ take taken piece) (given ++ given_by other))
reads_on reader heard piece given room taken event other stands within e =
    let below : taken ≤ room = omega (arith, within, length-take room piece) in
    subst (λ (event : Event). StandsFor reader (going_on (heard ++ take taken piece) (given ++ given_by event))) e
    (subst (λ (l : List ℕ). StandsFor reader (going_on (heard ++ l) (given ++ given_by event))) (take-take taken room piece below) stands)

pub within_piece : (piece : List ℕ) (room taken : ℕ) → taken ≤ length (take room piece) → (taken ≤ room) × (taken ≤ length piece)
within_piece piece room taken within = (omega (arith, within, length-take room piece), omega (arith, within, length-take room piece))

module _ (laws : AnswerLaws) (body : CarBody) (heard : List ℕ) (sections : List Section) (written : List ℕ) (h : IsBody body heard sections written) where
  -- ---- before a byte is looked at

  pub past_received : (piece : List ℕ) (out : Output) → body.most ≤ body.heard → 0 < length piece → Put [] out
      → IsStoppedAt body.verifier.left.query body.verifier.limits body.verifier.taken heard piece sections written out (faults.Refused (refusals.Limit kinds.Received body.most))
  past_received piece out full some put =
      let all : length heard ≡ body.most = omega (arith, full, h.within, h.count) in
      stopped_here body.verifier.left.query body.verifier.limits body.verifier.taken heard piece sections written out (faults.Refused (refusals.Limit kinds.Received body.most))
      (is_within body heard sections written h) (is_received body heard sections written h) put
      (record { number_is = h.most; heard_is = all; some = some; held = is_held_exactly laws body heard sections written h })
      (λ d sound root. (held_front laws body.verifier.left.query body.verifier.limits heard sections written (is_held laws body heard sections written h) d sound root, tt)) tt
      (taken_so_far body heard sections written h)

  behind_by : (piece : List ℕ) (out : Output) → body.heard < body.most → body.verifier.left.wanted ≡ None → 0 < length piece → Put [] out
      → (given : List Event) → GoesOn body.reader.limit heard given → sections_given given ≡ sections → IsBodyAt body given sections written
      → IsStoppedAt body.verifier.left.query body.verifier.limits body.verifier.taken heard piece sections written out (faults.Refused (refusals.Extra body.verifier.taken))
  behind_by piece out few none some put [] on are (fresh, nothing) = absurd (fresh.wanted none)
  behind_by piece out few none some put (event ∷ given) on are going =
      let through = laws.going_through body.verifier sections written going none in
      let past = past_header body.reader.limit heard event given on in
      let most : body.most ≡ body.verifier.limits.received = h.most in
      let more : 0 < length (past.0 ++ piece) = omega (arith, some, length-append past.0 piece) in
      stopped_here body.verifier.left.query body.verifier.limits body.verifier.taken heard piece sections written out (faults.Refused (refusals.Extra body.verifier.taken))
      (is_within body heard sections written h) (is_received body heard sections written h) put
      (surplus_of body.verifier.left.query body.verifier.limits body.reader.limit heard piece (event ∷ given) sections written body.verifier.taken past are more
      (omega (arith, few, most, h.count)) through going.keeps.count)
      (λ d sound root. (laws.answer_front body.verifier.left.query d sections written (laws.sound_through body.verifier.left.query body.verifier.limits d sections written sound root through), tt)) tt going.keeps.count

  pub behind_last : (piece : List ℕ) (out : Output) → body.heard < body.most → body.verifier.left.wanted ≡ None → 0 < length piece → Put [] out
      → IsStoppedAt body.verifier.left.query body.verifier.limits body.verifier.taken heard piece sections written out (faults.Refused (refusals.Extra body.verifier.taken))
  behind_last piece out few none some put = behind_by piece out few none some put h.given h.reads.exact.goes_on h.sections_are h.at

  -- ---- the reader refuses

  split_at : (piece front more : List ℕ) (last room : ℕ) → take room piece ≡ front ++ last ∷ more → piece ≡ front ++ last ∷ (more ++ drop room piece)
  split_at piece front more last room e =
      sym (take-append-drop room piece) ∙ (ap (λ (l : List ℕ). l ++ drop room piece) e ∙ append_assoc front (last ∷ more) (drop room piece))

  pub reader_stops : (reader : ReaderState) (piece : List ℕ) (room : ℕ) (out : Output) (keeping : Keeping) (fault : CarFault) (at : WantedAt) → body.heard + room ≤ body.most
      → body.verifier.left.wanted ≡ Some at
      → StandsFor reader (with_feed (going_on heard h.given) (take room piece) (Err fault)) → reader.limit ≡ body.reader.limit → Put [] out → AreKept [] keeping
      → StoppedKeeping body.verifier.left.query body.verifier.limits body.verifier.taken heard piece sections written out keeping (fault_of_car fault)
  reader_stops reader piece room out keeping fault at fits wanted stands limit put none =
      let same : reader.limit ≡ body.verifier.limits.block = limit ∙ h.limit in
      let stop : StopsAt body.verifier.limits.block heard h.given (take room piece) fault = subst (λ (n : ℕ). StopsAt n heard h.given (take room piece) fault) same stands.exact.stopped in
      let waits = is_waiting laws body (heard ++ stop.front) sections written h.given stop.went_on h.sections_are h.at at wanted in
      let rest : List ℕ = stop.more ++ drop room piece in
      let most : body.most ≡ body.verifier.limits.received = h.most in
      let size : length (take room piece) ≡ length (stop.front ++ stop.last ∷ stop.more) = ap length stop.whole in
      let few : length (heard ++ stop.front) < body.verifier.limits.received =
      omega (arith, fits, most, h.count, size, length-append heard stop.front, length-append stop.front (stop.last ∷ stop.more), length-take room piece) in
      record {
        front = stop.front;
        unheard = stop.last ∷ rest;
        whole = split_at piece stop.front stop.more stop.last room stop.whole;
        came = [];
        stopped = subst
            (λ (s : List Section). IsStoppedAt body.verifier.left.query body.verifier.limits body.verifier.taken (heard ++ stop.front) (stop.last ∷ rest) s written out (fault_of_car fault))
            (sym (append-nil sections))
            (stopped_here body.verifier.left.query body.verifier.limits body.verifier.taken (heard ++ stop.front) (stop.last ∷ rest) sections written out (fault_of_car fault)
            (omega (arith, few)) (record { given = h.given; goes_on = stop.went_on; sections_are = h.sections_are }) put
            (car_ends body.verifier.left.query body.verifier.limits (heard ++ stop.front) stop.last rest sections written waits few fault stop.brings)
            (car_says body.verifier.left.query body.verifier.limits (heard ++ stop.front) stop.last rest sections written waits laws fault stop.brings)
            (car_wants body.verifier.left.query body.verifier.limits (heard ++ stop.front) sections fault)
            (car_taken sections body.verifier.taken (taken_so_far body heard sections written h) fault));
        kept = car_kept fault [] keeping none;
      }

  -- ---- it goes on

  given_more : (given : List Event) (event : Event) → sections_given (given ++ given_by event) ≡ sections_given given ++ sections_given (given_by event)
  given_more [] event = refl
  given_more (events.Need ∷ given) event = given_more given event
  given_more (events.Header header ∷ given) event = given_more given event
  given_more (events.Section at size section ∷ given) event = ap (λ (l : List Section). out_of_car section ∷ l) (given_more given event)

  -- with a section, as the verifier takes it
  module _ (received : ReceivedLaws) (reader : ReaderState) (verifier : VerifierState) (piece : List ℕ) (taken at size : ℕ) (section : CarSection) (out : Output)
      (reads : StandsFor reader (going_on (heard ++ take taken piece) (h.given ++ events.Section at size section ∷ []))) (limit : reader.limit ≡ body.reader.limit)
      (same_query : verifier.left.query ≡ body.verifier.left.query) (same_limits : verifier.limits ≡ body.verifier.limits) where
    -- the verifier was started
    pub stands_there : VerifierStands body.verifier sections written
    stands_there =
        let past = past_header_then body.reader.limit reader.limit heard (heard ++ take taken piece) h.given at size section h.reads.exact.goes_on reads.exact.goes_on in
        stands_going body.verifier sections written h.fresh (subst (λ (g : List Event). IsBodyAt body g sections written) past.1.given_is h.at)

    block_limit : reader.limit ≡ verifier.limits.block
    block_limit = limit ∙ (h.limit ∙ ap (λ (l : LimitNumbers). l.block) (sym same_limits))

    sections_then : sections_given (h.given ++ events.Section at size section ∷ []) ≡ sections ++ out_of_car section ∷ []
    sections_then = given_more h.given (events.Section at size section) ∙ ap (λ (l : List Section). l ++ out_of_car section ∷ []) h.sections_are

    -- something was given
    going_on_at : (given : List Event) (text : List ℕ) → sections_given given ≡ sections ++ out_of_car section ∷ [] → IsGoing verifier (sections ++ out_of_car section ∷ []) text
        → (next : CarBody) → next.verifier ≡ verifier → IsBodyAt next given (sections ++ out_of_car section ∷ []) text
    going_on_at [] text are going next same =
        let none : 0 ≡ length (sections ++ out_of_car section ∷ []) = ap length are in absurd (omega (arith, none, length-append sections (out_of_car section ∷ [])))
    going_on_at (event ∷ given) text are going next same = subst (λ (v : VerifierState). IsGoing v (sections ++ out_of_car section ∷ []) text) (sym same) going

    -- what stands whole then
    goes_then : GoesOn body.verifier.limits.block (heard ++ take taken piece) (h.given ++ events.Section at size section ∷ [])
    goes_then = subst (λ (n : ℕ). GoesOn n (heard ++ take taken piece) (h.given ++ events.Section at size section ∷ [])) (limit ∙ h.limit) reads.exact.goes_on

    pub received_then : HasReceived body.verifier.limits.block (heard ++ take taken piece) (sections ++ out_of_car section ∷ [])
    received_then = record {
      given = h.given ++ events.Section at size section ∷ [];
      goes_on = goes_then;
      sections_are = sections_then;
    }

    pub section_taken : (progress : Progress) (count : ℕ) (keeping : Keeping) → AreKept (out_of_car section ∷ []) keeping
        → HasWritten verifier (sections ++ out_of_car section ∷ []) written out (Ok progress) → verifier.refused ≡ None
        → taken ≤ length piece → count ≡ body.heard + taken → count ≤ body.most → reader.came ≡ []
        → WentOnKeeping (record { reader = reader; verifier = verifier; most = body.most; heard = count; refused = body.refused }) (heard ++ take taken piece) sections written out keeping
    section_taken progress count keeping kept w fresh within count_is most at_end = record {
      came = out_of_car section ∷ [];
      received = record {
        given = h.given ++ events.Section at size section ∷ [];
        goes_on = subst (λ (n : ℕ). GoesOn n (heard ++ take taken piece) (h.given ++ events.Section at size section ∷ [])) block_limit reads.exact.goes_on;
        sections_are = sections_then;
      };
      kept = kept;
      text = w.text;
      put = w.put;
      is_body = record {
        given = h.given ++ events.Section at size section ∷ [];
        reads = reads;
        sections_are = sections_then;
        limit = block_limit;
        most = h.most ∙ ap (λ (l : LimitNumbers). l.received) (sym same_limits);
        fresh = fresh;
        unrefused = h.unrefused;
        at = going_on_at (h.given ++ events.Section at size section ∷ []) (written ++ w.text) sections_then
            (subst (λ (r : Option Refusal). StandsBy r verifier (sections ++ out_of_car section ∷ []) (written ++ w.text)) fresh w.stands)
            (record { reader = reader; verifier = verifier; most = body.most; heard = count; refused = body.refused }) refl;
        behind = λ none. at_end;
        count = omega (arith, count_is, h.count, length-append heard (take taken piece), length-take-le taken piece within);
        within = omega (arith, most, count_is, h.count, length-append heard (take taken piece), length-take-le taken piece within);
      };
    }

    module _ (apart : FitsOrWants) (wanted_at : WantedAt) (wanted : body.verifier.left.wanted ≡ Some wanted_at) (bound : taken ≤ length piece) (few : body.heard < body.most)
        (fits : body.heard + taken ≤ body.most) where
      past : (rest : List ℕ) × IsAmongSections body.verifier.limits.block heard h.given rest
      past =
          let on : GoesOn body.verifier.limits.block heard h.given = subst (λ (n : ℕ). GoesOn n heard h.given) h.limit h.reads.exact.goes_on in
          past_header_then body.verifier.limits.block body.verifier.limits.block heard (heard ++ take taken piece) h.given at size section on goes_then

      going : IsGoing body.verifier sections written
      going = subst (λ (g : List Event). IsBodyAt body g sections written) past.1.given_is h.at

      up_to : IsUpTo body.verifier.left.query body.verifier.limits sections written wanted_at
      up_to = laws.going_up_to body.verifier sections written going wanted_at wanted

      within_then : length (heard ++ take taken piece) ≤ body.verifier.limits.received
      within_then =
          let most : body.most ≡ body.verifier.limits.received = h.most in
          omega (arith, fits, most, h.count, length-append heard (take taken piece), length-take-le taken piece bound)

      -- with the section refused
      stopped_at : (now : ℕ) (fault : Refusal) (text : List ℕ) → Put text out → HasRefused body.verifier.left.query body.verifier.limits (sections ++ out_of_car section ∷ []) (written ++ text) fault
          → HasPutCause (Err fault) out
          → ForEachSound body.verifier.left.query (λ d. AnswersFor body.verifier.left.query d (sections ++ out_of_car section ∷ []) (written ++ text) (Err fault))
          → IsCounted body.verifier.taken now (Err fault)
          → IsStoppedAt body.verifier.left.query body.verifier.limits now (heard ++ take taken piece) (drop taken piece) (sections ++ out_of_car section ∷ []) written out (fault_of_refusal fault)
      stopped_at now fault text put refused cause sound counted =
          refused_now laws apart received body.verifier.left.query body.verifier.limits (heard ++ take taken piece) (drop taken piece) sections (out_of_car section)
          received_then written text out put wanted_at up_to within_then
          (header_whole body.verifier.limits.block (heard ++ take taken piece) h.given (events.Section at size section ∷ []) _ _ past.1.given_is goes_then)
          body.verifier.taken now fault refused cause sound
          (taken_behind sections (out_of_car section) body.verifier.taken now (taken_so_far body heard sections written h) fault counted)

      pub section_refused : (keeping : Keeping) (fault : Refusal) → AreKept (out_of_car section ∷ []) keeping → Names section.cid section.block
          → HasWritten verifier (sections ++ out_of_car section ∷ []) written out (Err fault) → verifier.refused ≡ Some fault
          → HasPutCause (Err fault) out → IsCounted body.verifier.taken verifier.taken (Err fault)
          → StoppedKeeping body.verifier.left.query body.verifier.limits verifier.taken heard piece sections written out keeping (fault_of_refusal fault)
      section_refused keeping fault kept named w is cause counted =
          let all : List Section = sections ++ out_of_car section ∷ [] in
          let refused : HasRefused verifier.left.query verifier.limits all (written ++ w.text) fault =
          subst (λ (r : Option Refusal). StandsBy r verifier all (written ++ w.text)) is w.stands in
          let refused_here : HasRefused body.verifier.left.query body.verifier.limits all (written ++ w.text) fault =
          subst (λ (l : LimitNumbers). HasRefused body.verifier.left.query l all (written ++ w.text) fault) same_limits
          (subst (λ (q : QueryParts). HasRefused q verifier.limits all (written ++ w.text) fault) same_query refused) in
          let sound : ForEachSound body.verifier.left.query (λ d. AnswersFor body.verifier.left.query d all (written ++ w.text) (Err fault)) =
          subst (λ (q : QueryParts). ForEachSound q (λ d. AnswersFor q d all (written ++ w.text) (Err fault))) same_query w.sound in
          record {
            front = take taken piece;
            unheard = drop taken piece;
            whole = sym (take-append-drop taken piece);
            came = out_of_car section ∷ [];
            stopped = stopped_at verifier.taken fault w.text w.put refused_here cause sound counted;
            kept = refusal_kept fault (out_of_car section ∷ []) keeping
                (λ cid e. named_not_refused body.verifier.left.query body.verifier.limits sections (out_of_car section) (written ++ w.text) cid
                (subst (λ (f : Refusal). HasRefused body.verifier.left.query body.verifier.limits all (written ++ w.text) f) e refused_here) named) kept;
          }

      -- since its CID doesn't name its block
      pub section_misnamed : (keeping : Keeping) (fault : Refusal) → AreKept [] keeping → HasNameCause body.verifier.limits (out_of_car section) fault
          → HasRefused body.verifier.left.query body.verifier.limits (sections ++ out_of_car section ∷ []) written fault → Put [] out → OutputQuiet out
          → StoppedKeeping body.verifier.left.query body.verifier.limits body.verifier.taken heard piece sections written out keeping (fault_of_refusal fault)
      section_misnamed keeping fault none cause refused put quiet =
          let all : List Section = sections ++ out_of_car section ∷ [] in
          let small : length section.block ≤ body.verifier.limits.block =
          (All-split_push (λ (s : Section). length s.block ≤ body.verifier.limits.block) sections (out_of_car section)
          (received.within body.verifier.limits.block (heard ++ take taken piece) all received_then)).1 in
          let (is, misnamed) = misnamed_by body.verifier.limits (out_of_car section) fault small cause in
          let refused_so : HasRefused body.verifier.left.query body.verifier.limits all written (refusals.BadDigest section.cid) =
          subst (λ (f : Refusal). HasRefused body.verifier.left.query body.verifier.limits all written f) is refused in
          let refused_here : HasRefused body.verifier.left.query body.verifier.limits all (written ++ []) (refusals.BadDigest section.cid) =
          subst (λ (t : List ℕ). HasRefused body.verifier.left.query body.verifier.limits all t (refusals.BadDigest section.cid)) (sym (append-nil written)) refused_so in
          subst (λ (f : Refusal). StoppedKeeping body.verifier.left.query body.verifier.limits body.verifier.taken heard piece sections written out keeping (fault_of_refusal f)) (sym is)
          (record {
            front = take taken piece;
            unheard = drop taken piece;
            whole = sym (take-append-drop taken piece);
            came = out_of_car section ∷ [];
            stopped = stopped_at body.verifier.taken (refusals.BadDigest section.cid) [] put refused_here quiet
                (λ d sound root. laws.sound_refused body.verifier.left.query body.verifier.limits d all (written ++ []) (refusals.BadDigest section.cid) sound root refused_here) refl;
            kept = none_but_last (out_of_car section) keeping none misnamed;
          })

      -- since it isn't kept
      pub section_unkept : (keeping : Keeping) (fault : KeepFault) → IsNamedBlock body.verifier.limits (out_of_car section) → (fault ≡ keeps.Failed → KeepingRose keeping)
          → (fault ≡ keeps.OutOfMemory → KeptSame keeping × KeepingQuiet keeping) → KeptNothing keeping → Put [] out
          → StoppedKeeping body.verifier.left.query body.verifier.limits body.verifier.taken heard piece sections written out keeping (fault_of_keep fault)
      section_unkept keeping keeps.Failed named failed memory nothing put =
          stops_before body.verifier.left.query body.verifier.limits body.verifier.taken heard piece sections written out keeping faults.KeepFault
          (stopped_here body.verifier.left.query body.verifier.limits body.verifier.taken heard piece sections written out faults.KeepFault
          (is_within body heard sections written h) (is_received body heard sections written h) put
          (record {
            at = wanted_at;
            up_to = up_to;
            header = record {
              event = _;
              given = _;
              goes_on = subst (λ (g : List Event). GoesOn body.verifier.limits.block heard g) past.1.given_is (goes_here body heard sections written h);
            };
            front = take taken piece;
            more = drop taken piece;
            unheard_is = sym (take-append-drop taken piece);
            section = out_of_car section;
            received = received_then;
            named = named;
            within = within_then;
          })
          (held_front laws body.verifier.left.query body.verifier.limits heard sections written (is_held laws body heard sections written h)) tt
          (taken_so_far body heard sections written h))
          (none_until_fault keeping nothing (failed refl))
      section_unkept keeping keeps.OutOfMemory named failed memory nothing put =
          stops_before body.verifier.left.query body.verifier.limits body.verifier.taken heard piece sections written out keeping faults.OutOfMemory
          (stopped_here body.verifier.left.query body.verifier.limits body.verifier.taken heard piece sections written out faults.OutOfMemory
          (is_within body heard sections written h) (is_received body heard sections written h) put
          (inr (is_held laws body heard sections written h))
          (held_front laws body.verifier.left.query body.verifier.limits heard sections written (is_held laws body heard sections written h)) tt
          (inl (taken_so_far body heard sections written h)))
          (same_kept keeping (memory refl).0 (memory refl).1)

  -- with the header, as the verifier starts
  module _ (received : ReceivedLaws) (reader : ReaderState) (verifier : VerifierState) (piece : List ℕ) (taken : ℕ) (header : List ℕ) (out : Output)
      (reads : StandsFor reader (going_on (heard ++ take taken piece) (h.given ++ events.Header header ∷ []))) (limit : reader.limit ≡ body.reader.limit)
      (same_query : verifier.left.query ≡ body.verifier.left.query) (same_limits : verifier.limits ≡ body.verifier.limits) where
    pub first : h.given ≡ []
    first = none_before reader.limit (heard ++ take taken piece) h.given header reads.exact.goes_on

    fresh_then : IsFresh body.verifier × (written ≡ [])
    fresh_then = subst (λ (g : List Event). IsBodyAt body g sections written) first h.at

    pub is_fresh : IsFresh body.verifier
    is_fresh = fresh_then.0

    pub reads_header : StandsFor reader (going_on (heard ++ take taken piece) (events.Header header ∷ []))
    reads_header = subst (λ (g : List Event). StandsFor reader (going_on (heard ++ take taken piece) (g ++ events.Header header ∷ []))) first reads

    none_then : [] ≡ sections
    none_then = subst (λ (g : List Event). sections_given g ≡ sections) first h.sections_are

    pub header_taken : (progress : Progress) (count : ℕ) (keeping : Keeping) → AreKept [] keeping → HasWritten verifier [] [] out (Ok progress) → verifier.refused ≡ None
        → taken ≤ length piece → count ≡ body.heard + taken → count ≤ body.most → reader.came ≡ body.reader.came
        → WentOnKeeping (record { reader = reader; verifier = verifier; most = body.most; heard = count; refused = body.refused }) (heard ++ take taken piece) sections written out keeping
    header_taken progress count keeping none w fresh within count_is most at_end =
        subst (λ (s : List Section). WentOnKeeping (record { reader = reader; verifier = verifier; most = body.most; heard = count; refused = body.refused }) (heard ++ take taken piece) s written out keeping)
        none_then (record {
          came = [];
          received = record {
            given = events.Header header ∷ [];
            goes_on = subst (λ (n : ℕ). GoesOn n (heard ++ take taken piece) (events.Header header ∷ [])) (limit ∙ (h.limit ∙ ap (λ (l : LimitNumbers). l.block) (sym same_limits))) reads_header.exact.goes_on;
            sections_are = refl;
          };
          kept = none;
          text = w.text;
          put = w.put;
          is_body = record {
            given = events.Header header ∷ [];
            reads = reads_header;
            sections_are = refl;
            limit = limit ∙ (h.limit ∙ ap (λ (l : LimitNumbers). l.block) (sym same_limits));
            most = h.most ∙ ap (λ (l : LimitNumbers). l.received) (sym same_limits);
            fresh = fresh;
            unrefused = h.unrefused;
            at = subst (λ (t : List ℕ). IsGoing verifier [] (t ++ w.text)) (sym fresh_then.1) (subst (λ (r : Option Refusal). StandsBy r verifier [] w.text) fresh w.stands);
            behind = λ none. at_end ∙ none_came body.reader.in_header body.reader heard h.given (h.reads.holds refl) first;
            count = omega (arith, count_is, h.count, length-append heard (take taken piece), length-take-le taken piece within);
            within = omega (arith, most, count_is, h.count, length-append heard (take taken piece), length-take-le taken piece within);
          };
        })

    pub header_refused : (keeping : Keeping) (fault : Refusal) → AreKept [] keeping → HasWritten verifier [] [] out (Err fault) → verifier.refused ≡ Some fault → HasPutCause (Err fault) out
        → verifier.taken ≡ body.verifier.taken → taken ≤ length piece → body.heard + taken ≤ body.most
        → StoppedKeeping body.verifier.left.query body.verifier.limits verifier.taken heard piece sections written out keeping (fault_of_refusal fault)
    header_refused keeping fault none w is cause stays bound fits =
        let refused : HasRefused verifier.left.query verifier.limits [] w.text fault = subst (λ (r : Option Refusal). StandsBy r verifier [] w.text) is w.stands in
        let refused_here : HasRefused body.verifier.left.query body.verifier.limits [] w.text fault =
        subst (λ (l : LimitNumbers). HasRefused body.verifier.left.query l [] w.text fault) same_limits
        (subst (λ (q : QueryParts). HasRefused q verifier.limits [] w.text fault) same_query refused) in
        let sound : ForEachSound body.verifier.left.query (λ d. AnswersFor body.verifier.left.query d [] w.text (Err fault)) =
        subst (λ (q : QueryParts). ForEachSound q (λ d. AnswersFor q d [] w.text (Err fault))) same_query w.sound in
        let on : GoesOn body.verifier.limits.block (heard ++ take taken piece) (events.Header header ∷ []) =
        subst (λ (n : ℕ). GoesOn n (heard ++ take taken piece) (events.Header header ∷ [])) (limit ∙ h.limit) reads_header.exact.goes_on in
        let most : body.most ≡ body.verifier.limits.received = h.most in
        record {
          front = take taken piece;
          unheard = drop taken piece;
          whole = sym (take-append-drop taken piece);
          came = [];
          stopped = subst
              (λ (s : List Section). IsStoppedAt body.verifier.left.query body.verifier.limits verifier.taken (heard ++ take taken piece) (drop taken piece) s written out (fault_of_refusal fault))
              (none_then ∙ sym (append-nil sections))
              (subst (λ (t : List ℕ). IsStoppedAt body.verifier.left.query body.verifier.limits verifier.taken (heard ++ take taken piece) (drop taken piece) [] t out (fault_of_refusal fault)) (sym fresh_then.1)
              (refused_first received body.verifier.left.query body.verifier.limits (heard ++ take taken piece) (drop taken piece)
              (omega (arith, fits, most, h.count, length-append heard (take taken piece), length-take-le taken piece bound))
              (record { given = events.Header header ∷ []; goes_on = on; sections_are = refl }) (record { event = events.Header header; given = []; goes_on = on }) [] w.text out w.put
              verifier.taken fault refused_here cause sound
              (taken_first body.verifier.left.query body.verifier.limits w.text verifier.taken (stays ∙ fresh_then.0.taken) fault refused_here)));
          kept = refusal_kept fault [] keeping
              (λ cid e. none_refused body.verifier.left.query body.verifier.limits w.text cid
              (subst (λ (f : Refusal). HasRefused body.verifier.left.query body.verifier.limits [] w.text f) e refused_here)) none;
        }

  -- with nothing whole
  pub step_taken : (reader : ReaderState) (piece : List ℕ) (taken count : ℕ) (out : Output) (keeping : Keeping) → AreKept [] keeping
      → StandsFor reader (going_on (heard ++ take taken piece) (h.given ++ [])) → reader.limit ≡ body.reader.limit → Put [] out
      → taken ≤ length piece → count ≡ body.heard + taken → count ≤ body.most → (wanted_at : WantedAt) → body.verifier.left.wanted ≡ Some wanted_at
      → WentOnKeeping (record { reader = reader; verifier = body.verifier; most = body.most; heard = count; refused = body.refused }) (heard ++ take taken piece) sections written out keeping
  step_taken reader piece taken count out keeping none reads limit put within count_is most wanted_at wanted = record {
    came = [];
    received = record {
      given = h.given;
      goes_on = subst (λ (n : ℕ). GoesOn n (heard ++ take taken piece) h.given) (limit ∙ h.limit) (subst (λ (g : List Event). GoesOn reader.limit (heard ++ take taken piece) g) (append-nil h.given) reads.exact.goes_on);
      sections_are = h.sections_are ∙ sym (append-nil sections);
    };
    kept = none;
    text = [];
    put = put;
    is_body = record {
      given = h.given;
      reads = subst (λ (g : List Event). StandsFor reader (going_on (heard ++ take taken piece) g)) (append-nil h.given) reads;
      sections_are = h.sections_are ∙ sym (append-nil sections);
      limit = limit ∙ h.limit;
      most = h.most;
      fresh = h.fresh;
      unrefused = h.unrefused;
      at = at_same body (record { reader = reader; verifier = body.verifier; most = body.most; heard = count; refused = body.refused }) h.given (sections ++ []) (written ++ []) refl
          (subst (λ (s : List Section). IsBodyAt body h.given s (written ++ [])) (sym (append-nil sections))
          (subst (λ (text : List ℕ). IsBodyAt body h.given sections text) (sym (append-nil written)) h.at));
      behind = λ none. absurd (cc (sym none ∙ wanted));
      count = omega (arith, count_is, h.count, length-append heard (take taken piece), length-take-le taken piece within);
      within = omega (arith, most, count_is, h.count, length-append heard (take taken piece), length-take-le taken piece within);
    };
  }
