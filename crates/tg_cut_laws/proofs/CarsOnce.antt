-- The bytes of a CAR have one answer, however they are cut.
use Rattle.std.proofs.Common.{◌≡◌, ℕ, ◌<◌, ◌≤◌, List, [], ◌∷◌, ◌++◌, length, Some, refl, ap, sym, subst, ◌∙◌, inl, inr, append-nil, append_assoc, arith}
use Rattle.std.specs.Prelude.{◌⊎◌}
use Rattle.std.proofs.lemmas.List.{append_cancel_left, length-append}
use Rattle.tg_bytes.specs.Lists.{longer, same_front}
use Rattle.tg_car.specs.Faults.{Brings}
use Rattle.tg_car.specs.History.{GoesOn, History, IsExact, at_piece}
use Rattle.tg_car.specs.Laws.{CarLaws}
use Rattle.tg_car.specs.declared.event.Event.{Event}
use Rattle.tg_car.specs.declared.fault.CarFault.{CarFault}
use Rattle.tg_car.specs.declared.fault.CarFault.TheVariants as car_faults
use Rattle.tg_cid.specs.Cid.{CidParts}
use Rattle.tg_client.specs.Ends.{HasSurplus, IsEndedShort, IsHeldExactly, IsPastReceived, IsWaiting, IsWithinReceived, fault_of_car}
use Rattle.tg_client.specs.Received.{HasHeader, HasReceived, IsCarOf}
use Rattle.tg_client.specs.ReceivedLaws.{ReceivedLaws}
use Rattle.tg_client.specs.declared.fault.ClientFault.{ClientFault}
use Rattle.tg_client.specs.declared.fault.ClientFault.TheVariants as faults
use Rattle.tg_cut_laws.specs.Cars.{CarHeldOnce, CarRefusedIsNotHeld, CarRefusedOnce, CarShortOnce, IsDueEnd, IsRefusedIn}
use Rattle.tg_cut_laws.specs.Sections.{BeginOne, SectionLaws}
use Rattle.tg_model.specs.Dag.{Section}
use Rattle.tg_model.specs.LimitNumbers.{LimitNumbers}
use Rattle.tg_model.specs.Queries.{QueryParts}
use Rattle.tg_model.specs.declared.limits.LimitKind.TheVariants as kinds
use Rattle.tg_verify.specs.State.{count_of}
use Rattle.tg_verify.specs.Taken.{IsThrough}
use Rattle.tg_verify.specs.declared.fault.Refusal.{Refusal}
use Rattle.tg_verify.specs.declared.fault.Refusal.TheVariants as refusals
use Rattle.tg_cut_laws.proofs.CarEnds.{IsBroken, IsOfSections, IsRefusedAs, broken, past, refused, refused_as, surplus}
use Rattle.tg_cut_laws.proofs.CarTexts.{compare, missed}

-- a reader that was handed this byte behind these bytes, and refused it
abbrev stopped_at : List ℕ → List Event → ℕ → CarFault → History
stopped_at heard given last car = record { fed = heard; given = given; stop = Some (at_piece (last ∷ []) car) }

module _ (laws : SectionLaws) (cars : CarLaws) (received : ReceivedLaws) (q : QueryParts) (limits : LimitNumbers) where
  -- ---- the sections of two fronts of the same bytes

  begin_one : (heard rest other behind : List ℕ) (a b : List Section) → heard ++ rest ≡ other ++ behind → HasReceived limits.block heard a → HasReceived limits.block other b → BeginOne a b
  begin_one heard rest other behind a b e got also = by (compare heard rest other behind e)
    where
      by : ((z : List ℕ) × (heard ≡ other ++ z)) ⊎ ((y : ℕ) × (z : List ℕ) × (other ≡ heard ++ y ∷ z)) → BeginOne a b
      by (inl (z, e)) =
          let (more, is) = received.front limits.block other z b a also (subst (λ (bytes : List ℕ). HasReceived limits.block bytes a) e got) in
          record { a_more = []; b_more = more; one = append-nil a ∙ is }
      by (inr (y, z, e)) =
          let (more, is) = received.front limits.block heard (y ∷ z) a b got (subst (λ (bytes : List ℕ). HasReceived limits.block bytes b) e also) in
          record { a_more = more; b_more = []; one = sym is ∙ sym (append-nil b) }

  -- ---- what is held of the same bytes

  both : (sections : List Section) → BeginOne sections sections
  both sections = record { a_more = []; b_more = []; one = refl }

  itself : (bytes : List ℕ) → bytes ≡ bytes ++ []
  itself bytes = sym (append-nil bytes)

  held_text : (bytes : List ℕ) (sections : List Section) (x y : List ℕ) → IsHeldExactly q limits bytes sections x → IsHeldExactly q limits bytes sections y → x ≡ y
  held_text bytes sections x y (inl (inl early)) (inl (inl also)) = early.no_text ∙ sym also.no_text
  held_text bytes sections x y (inl (inl early)) (inl (inr (at, up_to, header))) = absurd (received.stays_headed limits.block bytes [] bytes header (itself bytes) early.goes_on)
  held_text bytes sections x y (inl (inl early)) (inr (through, is_car)) = absurd (received.headed limits.block sections bytes [] bytes is_car (itself bytes) early.goes_on)
  held_text bytes sections x y (inl (inr (at, up_to, header))) (inl (inl early)) = absurd (received.stays_headed limits.block bytes [] bytes header (itself bytes) early.goes_on)
  held_text bytes sections x y (inl (inr (at, up_to, header))) (inl (inr (other, also, whole))) = (laws.up_to q limits sections x y at other up_to also).0
  held_text bytes sections x y (inl (inr (at, up_to, header))) (inr (through, is_car)) = absurd (laws.through_up_to q limits sections [] sections y x at (append-nil sections) through up_to)
  held_text bytes sections x y (inr (through, is_car)) (inl (inl early)) = absurd (received.headed limits.block sections bytes [] bytes is_car (itself bytes) early.goes_on)
  held_text bytes sections x y (inr (through, is_car)) (inl (inr (at, up_to, header))) = absurd (laws.through_up_to q limits sections [] sections x y at (append-nil sections) through up_to)
  held_text bytes sections x y (inr (through, is_car)) (inr (also, is)) = (laws.through q limits sections sections x y (both sections) through also).1

  pub held_once : (bytes : List ℕ) (a b : List Section) (x y : List ℕ) → HasReceived limits.block bytes a → HasReceived limits.block bytes b → IsHeldExactly q limits bytes a x → IsHeldExactly q limits bytes b y
      → (a ≡ b) × (x ≡ y)
  held_once bytes a b x y got also h k =
      let same = received.one limits.block bytes a b got also in
      (same, held_text bytes b x y (subst (λ (s : List Section). IsHeldExactly q limits bytes s x) same h) k)

  held_same : (heard other : List ℕ) (a b : List Section) (x y : List ℕ) → heard ≡ other → HasReceived limits.block heard a → HasReceived limits.block other b → IsHeldExactly q limits heard a x
      → IsHeldExactly q limits other b y → (a ≡ b) × (x ≡ y)
  held_same heard other a b x y e got also h k =
      held_once other a b x y (subst (λ (bytes : List ℕ). HasReceived limits.block bytes a) e got) also (subst (λ (bytes : List ℕ). IsHeldExactly q limits bytes a x) e h) k

  -- ---- behind a CAR of all sections

  -- no block is wanted
  waits_behind : (car z heard : List ℕ) (a b : List Section) (x y : List ℕ) → IsCarOf car a → IsThrough q limits a x → heard ≡ car ++ z → HasReceived limits.block heard b
      → IsWaiting q limits heard b y → ⊥
  waits_behind car z heard a b x y is_car through e got (inl early) = received.headed limits.block a car z heard is_car e early.goes_on
  waits_behind car z heard a b x y is_car through e got (inr (at, up_to, header)) =
      let (rest, is) = received.behind limits.block car z a b is_car (subst (λ (bytes : List ℕ). HasReceived limits.block bytes b) e got) in
      laws.through_up_to q limits a rest b x y at (sym is) through up_to

  -- and bytes behind it are held in no way
  held_behind : (car z heard : List ℕ) (a b : List Section) (x y : List ℕ) → IsCarOf car a → IsThrough q limits a x → heard ≡ car ++ z → 0 < length z → HasReceived limits.block heard b
      → IsHeldExactly q limits heard b y → ⊥
  held_behind car z heard a b x y is_car through e some got (inl waits) = waits_behind car z heard a b x y is_car through e got waits
  held_behind car z heard a b x y is_car through e some got (inr (also, is)) =
      let (rest, behind) = received.behind limits.block car z a b is_car (subst (λ (bytes : List ℕ). HasReceived limits.block bytes b) e got) in
      let begins : BeginOne a b = record { a_more = rest; b_more = []; one = sym behind ∙ sym (append-nil b) } in
      let same : a ≡ b = (laws.through q limits a b x y begins through also).0 in
      received.once a heard car z (subst (λ (s : List Section). IsCarOf heard s) (sym same) is) is_car e some

  -- ---- behind a refusal of the sections

  -- where all came it would be that of one section more
  refused_not_through : (a b : List Section) (x y : List ℕ) (fault : ClientFault) (heard : List ℕ) → BeginOne a b → IsOfSections q limits heard a x fault → IsThrough q limits b y → ⊥
  refused_not_through a b x y fault heard begins k through =
      k.other (count_of b) ((laws.refused_through q limits a b x y k.refusal begins k.due k.refused through).0).fault_is

  -- no block is wanted, nor did all come
  refused_behind : (heard z more : List ℕ) (a b : List Section) (x y : List ℕ) (fault : ClientFault) → IsOfSections q limits heard a x fault → more ≡ heard ++ z → HasReceived limits.block heard a
      → HasReceived limits.block more b → IsHeldExactly q limits more b y → ⊥
  refused_behind heard z more a b x y fault k e got also (inl (inl early)) = received.stays_headed limits.block heard z more k.behind.header e early.goes_on
  refused_behind heard z more a b x y fault k e got also (inl (inr (at, up_to, header))) =
      let (rest, is) = received.front limits.block heard z a b got (subst (λ (bytes : List ℕ). HasReceived limits.block bytes b) e also) in
      laws.refused_up_to q limits a rest b x y k.refusal at (sym is) k.due k.refused up_to
  refused_behind heard z more a b x y fault k e got also (inr (through, is_car)) =
      refused_not_through a b x y fault heard (begin_one heard z more [] a b (sym e ∙ itself more) got also) k through

  -- ---- a byte that breaks the CAR

  -- what was received doesn't reach to it
  not_past : (heard u other m : List ℕ) (last : ℕ) (a : List Section) (car : CarFault) → HasReceived limits.block heard a → heard ++ u ≡ other ++ last ∷ m
      → Brings limits.block (other ++ last ∷ []) car → (car ≡ car_faults.OutOfMemory → ⊥) → (z : List ℕ) × (other ≡ heard ++ z)
  not_past heard u other m last a car got e brings no_memory = by (compare other (last ∷ m) heard u (sym e))
    where
      by : ((z : List ℕ) × (other ≡ heard ++ z)) ⊎ ((y : ℕ) × (z : List ℕ) × (heard ≡ other ++ y ∷ z)) → (z : List ℕ) × (other ≡ heard ++ z)
      by (inl on) = on
      by (inr (y, z, is)) =
          let there : other ++ last ∷ m ≡ other ++ (y ∷ (z ++ u)) = sym e ∙ (ap (λ (bytes : List ℕ). bytes ++ u) is ∙ append_assoc other (y ∷ z) u) in
          let behind : last ∷ m ≡ y ∷ (z ++ u) = append_cancel_left other (last ∷ m) (y ∷ (z ++ u)) there in
          let same : y ≡ last = cc behind in
          let here : heard ≡ other ++ last ∷ z = is ∙ ap (λ (byte : ℕ). other ++ byte ∷ z) same in
          absurd (missed cars limits.block other z last a car (subst (λ (bytes : List ℕ). HasReceived limits.block bytes a) here got) no_memory brings)

  -- a reader that refused it is exact
  exact : (heard unheard : List ℕ) (sections : List Section) (text : List ℕ) (fault : ClientFault) → (h : HasReceived limits.block heard sections) → (k : IsBroken q limits heard unheard sections text fault)
      → IsExact limits.block (stopped_at heard h.given k.last k.car)
  exact heard unheard sections text fault h k = record {
    goes_on = h.goes_on;
    stopped = record {
      front = [];
      last = k.last;
      more = [];
      whole = refl;
      went_on = subst (λ (bytes : List ℕ). GoesOn limits.block bytes h.given) (itself heard) h.goes_on;
      brings = subst (λ (bytes : List ℕ). Brings limits.block (bytes ++ k.last ∷ []) k.car) (itself heard) k.brings;
      looked_at = λ memory inside. absurd (k.no_memory memory);
    };
  }

  -- ---- the bytes of a refusal

  module _ (bytes : List ℕ) (sections : List Section) (text : List ℕ) (fault : ClientFault) (r : IsRefusedIn q limits bytes sections text fault) where
    -- where bytes came behind all sections
    surplus_whole : (number : ℕ) → (h : HasSurplus q limits (r.heard ++ r.unheard) sections text number) → bytes ≡ h.car ++ (h.more ++ r.more)
    surplus_whole number h =
        r.whole ∙ (sym (append_assoc r.heard r.unheard r.more) ∙ (ap (λ (l : List ℕ). l ++ r.more) h.whole ∙ append_assoc h.car h.more r.more))

    -- where a byte breaks the CAR
    broken_whole : (k : IsBroken q limits r.heard r.unheard sections text fault) → bytes ≡ r.heard ++ k.last ∷ (k.more ++ r.more)
    broken_whole k = r.whole ∙ ap (λ (u : List ℕ). r.heard ++ (u ++ r.more)) k.unheard_is

    -- there are more than may be received
    too_many : (number : ℕ) → IsPastReceived q limits r.heard r.unheard sections text number → length bytes ≤ limits.received → ⊥
    too_many number p few =
        let full : length r.heard ≡ limits.received = p.heard_is ∙ p.number_is in
        let some : 0 < length r.unheard = p.some in
        let size : length bytes ≡ length (r.heard ++ (r.unheard ++ r.more)) = ap length r.whole in
        absurd (omega (arith, full, some, few, size, length-append r.heard (r.unheard ++ r.more), length-append r.unheard r.more))

  -- ---- two refusals of the same bytes

  module _ (bytes : List ℕ) (a b : List Section) (x y : List ℕ) (f g : ClientFault) (r : IsRefusedIn q limits bytes a x f) (s : IsRefusedIn q limits bytes b y g) where
    fronts : r.heard ++ (r.unheard ++ r.more) ≡ s.heard ++ (s.unheard ++ s.more)
    fronts = sym r.whole ∙ s.whole

    begin : BeginOne a b
    begin = begin_one r.heard (r.unheard ++ r.more) s.heard (s.unheard ++ s.more) a b fronts r.received s.received

    -- ---- in two ways there are none

    surplus_past : (number count : ℕ) → HasSurplus q limits (r.heard ++ r.unheard) a x number → IsPastReceived q limits s.heard s.unheard b y count → ⊥
    surplus_past number count h p =
        let few : length h.car < limits.received = h.within in
        let full : length s.heard ≡ limits.received = p.heard_is ∙ p.number_is in
        let l = longer h.car s.heard (h.more ++ r.more) (s.unheard ++ s.more) (sym (surplus_whole bytes a x f r number h) ∙ s.whole) (omega (arith, few, full)) in
        let size : length s.heard ≡ length (h.car ++ l.middle) = ap length l.first in
        held_behind h.car l.middle s.heard a b x y h.is_car h.through l.first (omega (arith, few, full, size, length-append h.car l.middle)) s.received p.held

    surplus_broken : (number : ℕ) → HasSurplus q limits (r.heard ++ r.unheard) a x number → IsBroken q limits s.heard s.unheard b y g → ⊥
    surplus_broken number h k =
        let whole = received.whole limits.block h.car a h.is_car (laws.small q limits a x h.through) in
        let (z, is) = not_past h.car (h.more ++ r.more) s.heard (k.more ++ s.more) k.last a k.car whole (sym (surplus_whole bytes a x f r number h) ∙ broken_whole bytes b y g s k) k.brings k.no_memory in
        waits_behind h.car z s.heard a b x y h.is_car h.through is s.received k.waits

    surplus_refused : (number : ℕ) → HasSurplus q limits (r.heard ++ r.unheard) a x number → IsOfSections q limits s.heard b y g → ⊥
    surplus_refused number h k =
        refused_not_through b a y x g s.heard (begin_one s.heard (s.unheard ++ s.more) r.heard (r.unheard ++ r.more) b a (sym fronts) s.received r.received) k h.through

    past_broken : (number : ℕ) → IsPastReceived q limits r.heard r.unheard a x number → IsBroken q limits s.heard s.unheard b y g → ⊥
    past_broken number p k =
        let (z, is) = not_past r.heard (r.unheard ++ r.more) s.heard (k.more ++ s.more) k.last a k.car r.received (sym r.whole ∙ broken_whole bytes b y g s k) k.brings k.no_memory in
        let full : length r.heard ≡ limits.received = p.heard_is ∙ p.number_is in
        let few : length s.heard < limits.received = k.within in
        let size : length s.heard ≡ length (r.heard ++ z) = ap length is in
        absurd (omega (arith, full, few, size, length-append r.heard z))

    past_refused : (number : ℕ) → IsPastReceived q limits r.heard r.unheard a x number → IsOfSections q limits s.heard b y g → ⊥
    past_refused number p k =
        let full : length r.heard ≡ limits.received = p.heard_is ∙ p.number_is in
        let few : length s.heard ≤ limits.received = s.within in
        let l = longer s.heard r.heard (s.unheard ++ s.more) (r.unheard ++ r.more) (sym fronts) (omega (arith, full, few)) in
        refused_behind s.heard l.middle r.heard b a y x g k l.first s.received r.received p.held

    refused_broken : IsOfSections q limits r.heard a x f → IsBroken q limits s.heard s.unheard b y g → ⊥
    refused_broken h k =
        let (z, is) = not_past r.heard (r.unheard ++ r.more) s.heard (k.more ++ s.more) k.last a k.car r.received (sym r.whole ∙ broken_whole bytes b y g s k) k.brings k.no_memory in
        refused_behind r.heard z s.heard a b x y f h is r.received s.received (inl k.waits)

    -- ---- and in one way they are the same

    abbrev AreOne : Type 0
    AreOne = (a ≡ b) × (x ≡ y) × (f ≡ g)

    surplus_surplus : (number count : ℕ) → HasSurplus q limits (r.heard ++ r.unheard) a x number → HasSurplus q limits (s.heard ++ s.unheard) b y count
        → f ≡ faults.Refused (refusals.Extra number) → g ≡ faults.Refused (refusals.Extra count) → AreOne
    surplus_surplus number count h k is other =
        let (same, text) = laws.through q limits a b x y begin h.through k.through in
        let counted : number ≡ count = h.number_is ∙ (ap (λ (l : List Section). count_of l) same ∙ sym k.number_is) in
        (same, text, is ∙ (ap (λ (n : ℕ). faults.Refused (refusals.Extra n)) counted ∙ sym other))

    past_past : (number count : ℕ) → IsPastReceived q limits r.heard r.unheard a x number → IsPastReceived q limits s.heard s.unheard b y count
        → f ≡ faults.Refused (refusals.Limit kinds.Received number) → g ≡ faults.Refused (refusals.Limit kinds.Received count) → AreOne
    past_past number count h k is other =
        let numbers : number ≡ count = h.number_is ∙ sym k.number_is in
        let here = same_front r.heard s.heard (r.unheard ++ r.more) (s.unheard ++ s.more) (h.heard_is ∙ (numbers ∙ sym k.heard_is)) fronts in
        let (same, text) = held_same r.heard s.heard a b x y here.0 r.received s.received h.held k.held in
        (same, text, is ∙ (ap (λ (n : ℕ). faults.Refused (refusals.Limit kinds.Received n)) numbers ∙ sym other))

    refused_refused : IsOfSections q limits r.heard a x f → IsOfSections q limits s.heard b y g → AreOne
    refused_refused h k =
        let (same, text, refusal) = laws.refused q limits a b x y h.refusal k.refusal begin h.due k.due h.refused k.refused in
        (same, text, h.fault_is ∙ (ap (λ (fault : Refusal). faults.Refused fault) refusal ∙ sym k.fault_is))

    -- where one's byte breaks the CAR all of the other's bytes were heard
    broken_front : IsBroken q limits s.heard s.unheard b y g → (z : List ℕ) × (s.heard ≡ r.heard ++ z)
    broken_front k = not_past r.heard (r.unheard ++ r.more) s.heard (k.more ++ s.more) k.last a k.car r.received (sym r.whole ∙ broken_whole bytes b y g s k) k.brings k.no_memory

  module _ (bytes : List ℕ) (a b : List Section) (x y : List ℕ) (f g : ClientFault) (r : IsRefusedIn q limits bytes a x f) (s : IsRefusedIn q limits bytes b y g) where
    -- the same bytes were heard
    broken_heard : IsBroken q limits r.heard r.unheard a x f → IsBroken q limits s.heard s.unheard b y g → r.heard ≡ s.heard
    broken_heard h k =
        let (z, is) = broken_front bytes a b x y f g r s k in
        let (w, back) = broken_front bytes b a y x g f s r h in
        let size : length s.heard ≡ length (r.heard ++ z) = ap length is in
        let other : length r.heard ≡ length (s.heard ++ w) = ap length back in
        (same_front r.heard s.heard (r.unheard ++ r.more) (s.unheard ++ s.more) (omega (arith, size, other, length-append r.heard z, length-append s.heard w)) (fronts bytes a b x y f g r s)).0

    -- the byte is the same, and one fault is brought by it
    broken_car : (h : IsBroken q limits r.heard r.unheard a x f) → (k : IsBroken q limits s.heard s.unheard b y g) → h.car ≡ k.car
    broken_car h k =
        let left : bytes ≡ (r.heard ++ h.last ∷ []) ++ (h.more ++ r.more) = broken_whole bytes a x f r h ∙ sym (append_assoc r.heard (h.last ∷ []) (h.more ++ r.more)) in
        let right : bytes ≡ (s.heard ++ k.last ∷ []) ++ (k.more ++ s.more) = broken_whole bytes b y g s k ∙ sym (append_assoc s.heard (k.last ∷ []) (k.more ++ s.more)) in
        (cars.one_refusal limits.block (stopped_at r.heard r.received.given h.last h.car) (stopped_at s.heard s.received.given k.last k.car)
        (h.last ∷ []) (k.last ∷ []) (h.more ++ r.more) (k.more ++ s.more) h.car k.car
        (exact r.heard r.unheard a x f r.received h) (exact s.heard s.unheard b y g s.received k) refl refl h.no_memory k.no_memory (sym left ∙ right)).0

    broken_broken : IsBroken q limits r.heard r.unheard a x f → IsBroken q limits s.heard s.unheard b y g → (a ≡ b) × (x ≡ y) × (f ≡ g)
    broken_broken h k =
        let (same, text) = held_same r.heard s.heard a b x y (broken_heard h k) r.received s.received (inl h.waits) (inl k.waits) in
        (same, text, h.fault_is ∙ (ap fault_of_car (broken_car h k) ∙ sym k.fault_is))

    pub once : IsRefusedAs q limits r.heard r.unheard a x f → IsRefusedAs q limits s.heard s.unheard b y g → (a ≡ b) × (x ≡ y) × (f ≡ g)
    once (surplus number h is) (surplus count k other) = surplus_surplus bytes a b x y f g r s number count h k is other
    once (surplus number h is) (past count k other) = absurd (surplus_past bytes a b x y f g r s number count h k)
    once (surplus number h is) (broken k) = absurd (surplus_broken bytes a b x y f g r s number h k)
    once (surplus number h is) (refused k) = absurd (surplus_refused bytes a b x y f g r s number h k)
    once (past number h is) (surplus count k other) = absurd (surplus_past bytes b a y x g f s r count number k h)
    once (past number h is) (past count k other) = past_past bytes a b x y f g r s number count h k is other
    once (past number h is) (broken k) = absurd (past_broken bytes a b x y f g r s number h k)
    once (past number h is) (refused k) = absurd (past_refused bytes a b x y f g r s number h k)
    once (broken h) (surplus count k other) = absurd (surplus_broken bytes b a y x g f s r count k h)
    once (broken h) (past count k other) = absurd (past_broken bytes b a y x g f s r count k h)
    once (broken h) (broken k) = broken_broken h k
    once (broken h) (refused k) = absurd (refused_broken bytes b a y x g f s r k h)
    once (refused h) (surplus count k other) = absurd (surplus_refused bytes b a y x g f s r count k h)
    once (refused h) (past count k other) = absurd (past_refused bytes b a y x g f s r count k h)
    once (refused h) (broken k) = absurd (refused_broken bytes a b x y f g r s h k)
    once (refused h) (refused k) = refused_refused bytes a b x y f g r s h k

  -- ---- bytes of which nothing is refused

  module _ (bytes : List ℕ) (a b : List Section) (x y : List ℕ) (f : ClientFault) (r : IsRefusedIn q limits bytes a x f) where
    pub not_held : HasReceived limits.block bytes b → IsWithinReceived limits bytes → IsHeldExactly q limits bytes b y → IsRefusedAs q limits r.heard r.unheard a x f → ⊥
    not_held got few held (surplus number h is) =
        let some : 0 < length h.more = h.some in
        held_behind h.car (h.more ++ r.more) bytes a b x y h.is_car h.through (surplus_whole bytes a x f r number h) (omega (arith, some, length-append h.more r.more)) got held
    not_held got few held (past number p is) = too_many bytes a x f r number p few
    not_held got few held (broken k) =
        missed cars limits.block r.heard (k.more ++ r.more) k.last b k.car (subst (λ (l : List ℕ). HasReceived limits.block l b) (broken_whole bytes a x f r k) got) k.no_memory k.brings
    not_held got few held (refused k) = refused_behind r.heard (r.unheard ++ r.more) bytes a b x y f k r.whole r.received got held

    -- ---- where all sections came in a front of the bytes

    -- which a byte breaks only before the header is whole
    through_broken : (heard more : List ℕ) → bytes ≡ heard ++ more → HasReceived limits.block heard b → IsThrough q limits b y → HasHeader limits.block heard
        → IsBroken q limits r.heard r.unheard a x f → ⊥
    through_broken heard more e got through header k =
        let (z, is) = not_past heard more r.heard (k.more ++ r.more) k.last b k.car got (sym e ∙ broken_whole bytes a x f r k) k.brings k.no_memory in
        by z is k.waits
      where
        by : (z : List ℕ) → r.heard ≡ heard ++ z → IsWaiting q limits r.heard a x → ⊥
        by z is (inl early) = received.stays_headed limits.block heard z r.heard header is early.goes_on
        by z is (inr (at, up_to, whole)) =
            let (rest, on) = received.front limits.block heard z b a got (subst (λ (l : List ℕ). HasReceived limits.block l a) is r.received) in
            laws.through_up_to q limits b rest a y x at (sym on) through up_to

    pub is_surplus : (heard more : List ℕ) → bytes ≡ heard ++ more → length bytes ≤ limits.received → HasReceived limits.block heard b → IsThrough q limits b y → HasHeader limits.block heard
        → IsRefusedAs q limits r.heard r.unheard a x f → f ≡ faults.Refused (refusals.Extra (count_of b))
    is_surplus heard more e few got through header (surplus number h is) =
        let begins = begin_one r.heard (r.unheard ++ r.more) heard more a b (sym r.whole ∙ e) r.received got in
        let same : a ≡ b = (laws.through q limits a b x y begins h.through through).0 in
        let counted : number ≡ count_of b = h.number_is ∙ ap (λ (l : List Section). count_of l) same in
        is ∙ ap (λ (n : ℕ). faults.Refused (refusals.Extra n)) counted
    is_surplus heard more e few got through header (past number p is) = absurd (too_many bytes a x f r number p few)
    is_surplus heard more e few got through header (broken k) = absurd (through_broken heard more e got through header k)
    is_surplus heard more e few got through header (refused k) =
        absurd (refused_not_through a b x y f r.heard (begin_one r.heard (r.unheard ++ r.more) heard more a b (sym r.whole ∙ e) r.received got) k through)

  -- ---- where no more bytes come

  short_text : (bytes : List ℕ) (sections : List Section) (x y : List ℕ) (want other : CidParts) (number count : ℕ) → IsEndedShort q limits bytes sections x want number
      → IsEndedShort q limits bytes sections y other count → (x ≡ y) × (want ≡ other) × (number ≡ count)
  short_text bytes sections x y want other number count (inl (early, root, none)) (inl (also, is, nothing)) =
      (early.no_text ∙ sym also.no_text, root ∙ sym is, none ∙ sym nothing)
  short_text bytes sections x y want other number count (inl (early, root, none)) (inr (at, is, cut, header)) =
      absurd (received.stays_headed limits.block bytes [] bytes header (itself bytes) early.goes_on)
  short_text bytes sections x y want other number count (inr (at, is, cut, header)) (inl (early, root, none)) =
      absurd (received.stays_headed limits.block bytes [] bytes header (itself bytes) early.goes_on)
  short_text bytes sections x y want other number count (inr (at, is, cut, header)) (inr (place, also, short, whole)) =
      let (text, same) = laws.up_to q limits sections x y at place cut.up_to short.up_to in
      (text, is ∙ (ap (λ p. p.cid) same ∙ sym also), cut.number_is ∙ sym short.number_is)

  pub short_once : (bytes : List ℕ) (a b : List Section) (x y : List ℕ) (want other : CidParts) (number count : ℕ) → HasReceived limits.block bytes a → HasReceived limits.block bytes b
      → IsEndedShort q limits bytes a x want number → IsEndedShort q limits bytes b y other count → (a ≡ b) × (x ≡ y) × (want ≡ other) × (number ≡ count)
  short_once bytes a b x y want other number count got also h k =
      let same = received.one limits.block bytes a b got also in
      let (text, wants, counted) = short_text bytes b x y want other number count (subst (λ (s : List Section). IsEndedShort q limits bytes s x want number) same h) k in
      (same, text, wants, counted)

  -- not all came, where the header is whole
  short_by : (bytes : List ℕ) (sections : List Section) (x y : List ℕ) (want : CidParts) (number : ℕ) → HasHeader limits.block bytes → IsEndedShort q limits bytes sections x want number
      → IsThrough q limits sections y → ⊥
  short_by bytes sections x y want number header (inl (early, root, none)) through = received.stays_headed limits.block bytes [] bytes header (itself bytes) early.goes_on
  short_by bytes sections x y want number header (inr (at, is, cut, whole)) through = laws.through_up_to q limits sections [] sections y x at (append-nil sections) through cut.up_to

  pub short_not_through : (bytes : List ℕ) (a b : List Section) (x y : List ℕ) (want : CidParts) (number : ℕ) → HasReceived limits.block bytes a → HasReceived limits.block bytes b
      → IsEndedShort q limits bytes a x want number → IsThrough q limits b y → HasHeader limits.block bytes → ⊥
  short_not_through bytes a b x y want number got also short through header =
      let same = received.one limits.block bytes a b got also in
      short_by bytes b x y want number header (subst (λ (s : List Section). IsEndedShort q limits bytes s x want number) same short) through

-- ---- the laws

pub car_refused_once : SectionLaws → CarLaws → ReceivedLaws → CarRefusedOnce
car_refused_once laws cars received q limits bytes a b x y f g due also r s =
    once laws cars received q limits bytes a b x y f g r s (refused_as q limits bytes a x f due r) (refused_as q limits bytes b y g also s)

pub car_refused_not_held : SectionLaws → CarLaws → ReceivedLaws → CarRefusedIsNotHeld
car_refused_not_held laws cars received q limits bytes a b x y f due r got few held =
    not_held laws cars received q limits bytes a b x y f r got few held (refused_as q limits bytes a x f due r)

pub car_held_once : SectionLaws → CarLaws → ReceivedLaws → CarHeldOnce
car_held_once laws cars received q limits bytes a b x y got also h k = held_once laws cars received q limits bytes a b x y got also h k

pub car_short_once : SectionLaws → CarLaws → ReceivedLaws → CarShortOnce
car_short_once laws cars received q limits bytes a b x y want other number count got also h k =
    short_once laws cars received q limits bytes a b x y want other number count got also h k

-- where the header is whole in that front
pub car_refused_is_surplus : SectionLaws → CarLaws → ReceivedLaws → (q : QueryParts) (limits : LimitNumbers) (bytes heard more : List ℕ) (a b : List Section) (x y : List ℕ) (f : ClientFault) → IsDueEnd f
    → IsRefusedIn q limits bytes a x f → bytes ≡ heard ++ more → length bytes ≤ limits.received → HasReceived limits.block heard b → HasHeader limits.block heard → IsThrough q limits b y
    → f ≡ faults.Refused (refusals.Extra (count_of b))
car_refused_is_surplus laws cars received q limits bytes heard more a b x y f due r e few got header through =
    is_surplus laws cars received q limits bytes a b x y f r heard more e few got through header (refused_as q limits bytes a x f due r)

-- where the header is whole
pub car_short_is_not_through : SectionLaws → CarLaws → ReceivedLaws → (q : QueryParts) (limits : LimitNumbers) (bytes : List ℕ) (a b : List Section) (x y : List ℕ) (want : CidParts) (number : ℕ)
    → HasReceived limits.block bytes a → HasReceived limits.block bytes b → HasHeader limits.block bytes → IsEndedShort q limits bytes a x want number → IsThrough q limits b y → ⊥
car_short_is_not_through laws cars received q limits bytes a b x y want number got also header short through =
    short_not_through laws cars received q limits bytes a b x y want number got also short through header
