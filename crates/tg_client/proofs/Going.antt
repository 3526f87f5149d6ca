-- A body that goes on: what it holds, and what that says of each sound DAG.
use Rattle.std.proofs.Common.{◌≡◌, ℕ, Bool, true, false, ◌+◌, ◌<◌, List, [], ◌∷◌, ◌++◌, length, map, Option, Some, None, Err, refl, ap, sym, subst, ◌∙◌, inl, inr, append-nil, append_assoc, arith}
use Rattle.std.proofs.lemmas.List.{length-append}
use Rattle.tg_car.specs.CarText.{SectionsText}
use Rattle.tg_car.specs.History.{GoesOn, IsAmongSections}
use Rattle.tg_car.specs.State.{Holds, ReaderState}
use Rattle.tg_car.specs.declared.event.Event.{Event}
use Rattle.tg_car.specs.declared.event.Event.TheVariants as events
use Rattle.tg_car.specs.declared.section.Section.{Section as CarSection}
use Rattle.tg_traversal.specs.Left.{WantedAt}
use Rattle.tg_model.specs.Answer.{answer}
use Rattle.tg_model.specs.Dag.{Section}
use Rattle.tg_model.specs.Fits.{IsFrontOfAnswer}
use Rattle.tg_model.specs.LimitNumbers.{LimitNumbers}
use Rattle.tg_model.specs.Queries.{QueryParts}
use Rattle.tg_streams.specs.Streams.{Output, Put}
use Rattle.tg_verify.specs.Laws.{AnswerLaws}
use Rattle.tg_verify.specs.Sound.{ForEachSound, IsItsFront}
use Rattle.tg_verify.specs.State.{count_of}
use Rattle.tg_verify.specs.Taken.{IsGoing, IsThrough}
use Rattle.tg_client.specs.Body.{IsAfterWanted, IsBody, IsBodyAt, IsStoppedAt, IsTakenBy, unknown}
use Rattle.tg_client.specs.Ends.{EndsBy, HasSurplus, IsBeforeHeader, IsHeld, IsHeldExactly, IsWaiting, IsWithinReceived, SaysFor}
use Rattle.tg_client.specs.Received.{HasReceived, IsCarOf, in_car, out_of_car, sections_given}
use Rattle.tg_client.specs.declared.body.CarBody.{CarBody}
use Rattle.tg_client.specs.declared.fault.ClientFault.{ClientFault}
use Rattle.tg_client.proofs.Sections.{among_sections}

pub goes_here : (body : CarBody) (heard : List ℕ) (sections : List Section) (written : List ℕ) → (h : IsBody body heard sections written) → GoesOn body.verifier.limits.block heard h.given
goes_here body heard sections written h = subst (λ (limit : ℕ). GoesOn limit heard h.given) h.limit h.reads.exact.goes_on

pub is_received : (body : CarBody) (heard : List ℕ) (sections : List Section) (written : List ℕ) → IsBody body heard sections written
    → HasReceived body.verifier.limits.block heard sections
is_received body heard sections written h = record {
  given = h.given;
  goes_on = goes_here body heard sections written h;
  sections_are = h.sections_are;
}

pub is_within : (body : CarBody) (heard : List ℕ) (sections : List Section) (written : List ℕ) → IsBody body heard sections written → IsWithinReceived body.verifier.limits heard
is_within body heard sections written h =
    let most : body.most ≡ body.verifier.limits.received = h.most in omega (arith, most, h.within)

-- how many sections were taken
taken_at : (body : CarBody) (given : List Event) (sections : List Section) (written : List ℕ) → sections_given given ≡ sections → IsBodyAt body given sections written
    → body.verifier.taken ≡ count_of sections
taken_at body [] sections written are (fresh, none) = omega (arith, fresh.taken, ap length are)
taken_at body (event ∷ given) sections written are going = going.keeps.count

pub taken_so_far : (body : CarBody) (heard : List ℕ) (sections : List Section) (written : List ℕ) → IsBody body heard sections written → body.verifier.taken ≡ count_of sections
taken_so_far body heard sections written h = taken_at body h.given sections written h.sections_are h.at

-- ---- whether a block is wanted

-- before the header is whole
before_header : (body : CarBody) (bytes : List ℕ) (sections : List Section) (written : List ℕ) → GoesOn body.verifier.limits.block bytes [] → [] ≡ sections → written ≡ []
    → IsBeforeHeader body.verifier.limits bytes sections written
before_header body bytes sections written on are none = record { goes_on = on; no_section = sym are; no_text = none }

module _ (laws : AnswerLaws) (body : CarBody) (bytes : List ℕ) (sections : List Section) (written : List ℕ) where
  pub is_waiting : (given : List Event) → GoesOn body.verifier.limits.block bytes given → sections_given given ≡ sections → IsBodyAt body given sections written
      → (at : WantedAt) → body.verifier.left.wanted ≡ Some at → IsWaiting body.verifier.left.query body.verifier.limits bytes sections written
  is_waiting [] on are h at e = inl (before_header body bytes sections written on are h.1)
  is_waiting (event ∷ given) on are h at e = inr (at, laws.going_up_to body.verifier sections written h at e, record { event = event; given = given; goes_on = on })

  held_by : (given : List Event) → GoesOn body.verifier.limits.block bytes given → sections_given given ≡ sections → IsBodyAt body given sections written
      → (wanted : Option WantedAt) → body.verifier.left.wanted ≡ wanted → IsHeld body.verifier.left.query body.verifier.limits bytes sections written
  held_by given on are h (Some at) e = inl (is_waiting given on are h at e)
  held_by [] on are h None e = inl (inl (before_header body bytes sections written on are h.1))
  held_by (event ∷ given) on are h None e = inr (laws.going_through body.verifier sections written h e)

pub is_held : AnswerLaws → (body : CarBody) (heard : List ℕ) (sections : List Section) (written : List ℕ) → IsBody body heard sections written
    → IsHeld body.verifier.left.query body.verifier.limits heard sections written
is_held laws body heard sections written h =
    held_by laws body heard sections written h.given (goes_here body heard sections written h) h.sections_are h.at body.verifier.left.wanted refl

-- ---- of each sound DAG

front_nothing : (text : List ℕ) (answer : Option (List ℕ)) → text ≡ [] → IsFrontOfAnswer text answer
front_nothing text (Some all) e = (all, ap (λ (l : List ℕ). l ++ all) (sym e))
front_nothing text None e = e

pub held_front : AnswerLaws → (q : QueryParts) (limits : LimitNumbers) (heard : List ℕ) (sections : List Section) (written : List ℕ) → IsHeld q limits heard sections written
    → ForEachSound q (λ d. IsItsFront q d sections written)
held_front laws q limits heard sections written (inl (inl before)) d sound root = inl (front_nothing written (answer q d) before.no_text)
held_front laws q limits heard sections written (inl (inr (at, up_to, header))) d sound root = laws.sound_up_to q limits d sections written at sound root up_to
held_front laws q limits heard sections written (inr through) d sound root = laws.answer_front q d sections written (laws.sound_through q limits d sections written sound root through)

-- ---- a refusal with which nothing more is put

pub stopped_here : (q : QueryParts) (limits : LimitNumbers) (taken : ℕ) (heard unheard : List ℕ) (sections : List Section) (written : List ℕ) (out : Output) (fault : ClientFault)
    → IsWithinReceived limits heard → HasReceived limits.block heard sections → Put [] out → EndsBy q limits unknown heard unheard sections written (Err fault)
    → ForEachSound q (λ d. SaysFor q d sections written (Err fault)) → IsAfterWanted q limits heard sections fault → IsTakenBy fault sections taken
    → IsStoppedAt q limits taken heard unheard sections written out fault
stopped_here q limits taken heard unheard sections written out fault within received put ends sound wanted counted = record {
  within = within;
  received = received;
  text = [];
  put = put;
  ends = subst (λ (text : List ℕ). EndsBy q limits unknown heard unheard sections text (Err fault)) (sym (append-nil written)) ends;
  sound = subst (λ (text : List ℕ). ForEachSound q (λ d. SaysFor q d sections text (Err fault))) (sym (append-nil written)) sound;
  wanted = wanted;
  counted = counted;
}

-- ---- bytes behind the last wanted section

pub back_in : (sections : List CarSection) → map in_car (map out_of_car sections) ≡ sections
back_in [] = refl
back_in (s ∷ sections) = ap (λ (l : List CarSection). s ∷ l) (back_in sections)

-- where something was given the header is whole
pub past_header : (limit : ℕ) (heard : List ℕ) (event : Event) (given : List Event) → GoesOn limit heard (event ∷ given)
    → (rest : List ℕ) × IsAmongSections limit heard (event ∷ given) rest
past_header limit heard event given (inl b) = absurd (cc b.nothing_given)
past_header limit heard event given (inr a) = a

-- and where a section is given next
pub past_header_then : (limit other : ℕ) (heard more : List ℕ) (given : List Event) (at size : ℕ) (section : CarSection) → GoesOn limit heard given
    → GoesOn other more (given ++ events.Section at size section ∷ []) → (rest : List ℕ) × IsAmongSections limit heard given rest
past_header_then limit other heard more given at size section (inr a) next = a
past_header_then limit other heard more [] at size section (inl b) (inl c) = absurd (cc c.nothing_given)
past_header_then limit other heard more (e ∷ given) at size section (inl b) next = absurd (cc b.nothing_given)
past_header_then limit other heard more [] at size section (inl b) (inr a) =
    let both : events.Section at size section ∷ [] ≡ events.Header a.1.reaches.header ∷ a.1.placed = a.1.given_is in absurd (cc both)

-- where a reader gave something, these bytes of the next section came
among_by : (in_header : Bool) (reader : ReaderState) (heard : List ℕ) (event : Event) (given : List Event) → Holds in_header reader heard (event ∷ given)
    → IsAmongSections reader.limit heard (event ∷ given) reader.came
among_by true reader heard event given holds = absurd (cc holds.before.nothing_given)
among_by false reader heard event given holds = holds.among

-- none of the next section came
whole_car : (limit : ℕ) (heard rest : List ℕ) (given : List Event) (sections : List Section) → IsAmongSections limit heard given rest → rest ≡ [] → sections_given given ≡ sections → IsCarOf heard sections
whole_car limit heard rest given sections a none are =
    let own = a.reaches in
    let same : map in_car sections ≡ a.sections = ap (map in_car) (sym are ∙ among_sections limit heard given rest a) ∙ back_in a.sections in (
      own.roots,
      record {
        header = own.header;
        rest = own.done;
        whole = own.whole ∙ (ap (λ (l : List ℕ). own.header ++ (own.done ++ l)) none ∙ ap (λ (l : List ℕ). own.header ++ l) (append-nil own.done));
        header_is = own.header_is;
        sections_are = subst (λ (l : List CarSection). SectionsText l own.done) (sym same) own.sections_are;
      },
    )

-- where all sections came, what was heard is their CAR
car_by : (body : CarBody) (heard : List ℕ) (sections : List Section) (written : List ℕ) (given : List Event) → Holds body.reader.in_header body.reader heard given → body.reader.came ≡ []
    → sections_given given ≡ sections → IsBodyAt body given sections written → body.verifier.left.wanted ≡ None → IsGoing body.verifier sections written × IsCarOf heard sections
car_by body heard sections written [] holds came are h none = absurd (h.0.wanted none)
car_by body heard sections written (event ∷ given) holds came are h none =
    (h, whole_car body.reader.limit heard body.reader.came (event ∷ given) sections (among_by body.reader.in_header body.reader heard event given holds) came are)

pub car_behind : (body : CarBody) (heard : List ℕ) (sections : List Section) (written : List ℕ) → IsBody body heard sections written → body.verifier.left.wanted ≡ None
    → IsGoing body.verifier sections written × IsCarOf heard sections
car_behind body heard sections written h none = car_by body heard sections written h.given (h.reads.holds refl) (h.behind none) h.sections_are h.at none

module _ (laws : AnswerLaws) (body : CarBody) (heard : List ℕ) (sections : List Section) (written : List ℕ) (h : IsBody body heard sections written) where
  exactly_by : (wanted : Option WantedAt) → body.verifier.left.wanted ≡ wanted → IsHeldExactly body.verifier.left.query body.verifier.limits heard sections written
  exactly_by (Some at) e = inl (is_waiting laws body heard sections written h.given (goes_here body heard sections written h) h.sections_are h.at at e)
  exactly_by None e =
      let (going, is_car) = car_behind body heard sections written h e in
      inr (laws.going_through body.verifier sections written going e, is_car)

  pub is_held_exactly : IsHeldExactly body.verifier.left.query body.verifier.limits heard sections written
  is_held_exactly = exactly_by body.verifier.left.wanted refl

pub surplus_of : (q : QueryParts) (limits : LimitNumbers) (limit : ℕ) (heard piece : List ℕ) (given : List Event) (sections : List Section) (written : List ℕ) (number : ℕ)
    → (a : (rest : List ℕ) × IsAmongSections limit heard given rest) → sections_given given ≡ sections → 0 < length (a.0 ++ piece) → length heard < limits.received + length a.0
    → IsThrough q limits sections written → number ≡ count_of sections → HasSurplus q limits (heard ++ piece) sections written number
surplus_of q limits limit heard piece given sections written number (rest, a) are some few through number_is =
    let own = a.reaches in
    let size : length heard ≡ length (own.header ++ (own.done ++ rest)) = ap length own.whole in
    let same : map in_car sections ≡ a.sections = ap (map in_car) (sym are ∙ among_sections limit heard given rest a) ∙ back_in a.sections in
    record {
      through = through;
      number_is = number_is;
      car = own.header ++ own.done;
      more = rest ++ piece;
      whole = ap (λ (l : List ℕ). l ++ piece) own.whole
          ∙ (append_assoc own.header (own.done ++ rest) piece
          ∙ (ap (λ (l : List ℕ). own.header ++ l) (append_assoc own.done rest piece) ∙ sym (append_assoc own.header own.done (rest ++ piece))));
      some = some;
      is_car = (
        own.roots,
        record {
          header = own.header;
          rest = own.done;
          whole = refl;
          header_is = own.header_is;
          sections_are = subst (λ (l : List CarSection). SectionsText l own.done) (sym same) own.sections_are;
        },
      );
      within = omega (arith, few, size, length-append own.header (own.done ++ rest), length-append own.done rest, length-append own.header own.done);
    }
