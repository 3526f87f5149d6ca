-- An input that goes on behind a CAR of sections that fit.
use Rattle.std.proofs.Common.{◌≡◌, ℕ, ◌<◌, ◌≤◌, List, [], ◌∷◌, ◌++◌, length, Some, Ok, Err, refl, ap, sym, subst, ◌∙◌, inl, inr, append-nil, append_assoc, arith}
use Rattle.std.specs.Prelude.{Result, ⊤, ◌⊎◌}
use Rattle.std.proofs.lemmas.List.{append_cancel_left, length-append}
use Rattle.tg_car.specs.Laws.{CarLaws}
use Rattle.tg_cid.specs.Cid.{CidParts}
use Rattle.tg_traversal.specs.Left.{WantedAt}
use Rattle.tg_model_laws.specs.Fronts.{FitsByFronts, ProgressByFronts}
use Rattle.tg_model.specs.Dag.{Dag, Section}
use Rattle.tg_model.specs.Fits.{Fits, IsInProgress}
use Rattle.tg_model.specs.LimitNumbers.{LimitNumbers}
use Rattle.tg_model.specs.PathWalk.{Spot}
use Rattle.tg_model.specs.Queries.{QueryParts}
use Rattle.tg_model.specs.declared.limits.LimitKind.TheVariants as kinds
use Rattle.tg_streams.specs.Streams.{Input, Output}
use Rattle.tg_model_laws.specs.Verified.{VerifiedLaws}
use Rattle.tg_verify.specs.Laws.{AnswerLaws, IsOwnFault, IsWithinLimits}
use Rattle.tg_verify.specs.Refusals.{HasRefused}
use Rattle.tg_verify.specs.State.{count_of}
use Rattle.tg_verify.specs.Taken.{IsThrough, IsUpTo}
use Rattle.tg_verify.specs.declared.fault.Refusal.{Refusal}
use Rattle.tg_verify.specs.declared.fault.Refusal.TheVariants as refusals
use Rattle.tg_client.specs.Body.{IsAfterWanted, IsBehindHeader, IsLastWanted, IsVerified}
use Rattle.tg_client.specs.Ends.{EndsBy, IsEndedShort, IsOwnEnd, IsRefusedElse, IsWaiting}
use Rattle.tg_client.specs.Received.{HasReceived, IsCarOf}
use Rattle.tg_client.specs.ReceivedLaws.{ReceivedLaws}
use Rattle.tg_client.specs.declared.fault.ClientFault.{ClientFault}
use Rattle.tg_client.specs.declared.fault.ClientFault.TheVariants as faults
use Rattle.tg_client.proofs.Accepting.{AreTaken, fitting_done, fitting_through}
use Rattle.tg_client.proofs.Told.{IsLeft, all_heard, car_once, left_of, no_header}

-- ---- fronts of lists

-- of two fronts of a list the one goes on behind the other
compare : (a b c e : List ℕ) → a ++ b ≡ c ++ e → ((z : List ℕ) × (a ≡ c ++ z)) ⊎ ((y : ℕ) × (z : List ℕ) × (c ≡ a ++ y ∷ z))
compare a b [] e same = inl (a, refl)
compare [] b (y ∷ c) e same = inr (y, c, refl)
compare (x ∷ a) b (y ∷ c) e same = on (compare a b c e (cc same))
  where
    first : x ≡ y
    first = cc same

    on : ((z : List ℕ) × (a ≡ c ++ z)) ⊎ ((w : ℕ) × (z : List ℕ) × (c ≡ a ++ w ∷ z)) → ((z : List ℕ) × (x ∷ a ≡ y ∷ (c ++ z))) ⊎ ((w : ℕ) × (z : List ℕ) × (y ∷ c ≡ x ∷ (a ++ w ∷ z)))
    on (inl (z, e)) = inl (z, cc (first, e))
    on (inr (w, z, e)) = inr (w, z, cc (first, e))

before_last : (all rest taken : List Section) (next section : Section) → all ++ next ∷ rest ≡ taken ++ section ∷ [] → (some : List Section) × (taken ≡ all ++ some)
before_last [] rest taken next section e = (taken, refl)
before_last (s ∷ all) rest [] next section e =
    let none : all ++ next ∷ rest ≡ [] = cc e in
    let size : length (all ++ next ∷ rest) ≡ 0 = ap length none in
    absurd (omega (arith, size, length-append all (next ∷ rest)))
before_last (s ∷ all) rest (t ∷ taken) next section e =
    let (some, is) = before_last all rest taken next section (cc e) in
    let first : t ≡ s = cc e in
    (some, cc (first, is))

-- ---- nothing is taken behind sections that fit

module _ (laws : AnswerLaws) (verified : VerifiedLaws) (fronts : FitsByFronts) (progresses : ProgressByFronts) (q : QueryParts) (d : Dag) (all : List Section) (answer : List ℕ)
    (either : (sections : List Section) (a b : Dag) (x : List ℕ) (w : Spot) → Fits a q sections x → IsInProgress b q sections w → ⊥) (fits : Fits d q all answer) where
  pub up_to_behind : {limits : LimitNumbers} → (rest : List Section) (text : List ℕ) (at : WantedAt) → IsUpTo q limits (all ++ rest) text at → ⊥
  up_to_behind {limits} [] text at h = fitting_done verified q d all answer fits text at (subst (λ (l : List Section). IsUpTo q limits l text at) (append-nil all) h)
  up_to_behind {limits} (next ∷ rest) text at h =
      let p = laws.up_to q _ (all ++ next ∷ rest) text at h in
      let f = progresses q p.s all rest next _ p.progress in
      either all d f.partial answer f.spot fits f.progress

  pub through_behind : {limits : LimitNumbers} → (rest : List Section) (next : Section) (text : List ℕ) → IsThrough q limits (all ++ next ∷ rest) text → ⊥
  through_behind rest next text h =
      let p = laws.through q _ (all ++ next ∷ rest) text h in
      let f = fronts q p.s all rest next text p.fits in
      either all d f.partial answer f.spot fits f.progress

  pub last_behind : {limits : LimitNumbers} → (rest : List Section) (next : Section) → IsLastWanted q limits (all ++ next ∷ rest) → ⊥
  last_behind {limits} rest next h =
      let (some, is) = before_last all rest h.taken next h.section h.sections_are in
      up_to_behind some h.text h.at (subst (λ (l : List Section). IsUpTo q limits l h.text h.at) is h.up_to)

  -- ---- by what was heard

  module _ (cars : CarLaws) (received : ReceivedLaws) (limits : LimitNumbers) (within : IsWithinLimits q limits d) (input : Input) (car more : List ℕ) (is_car : IsCarOf car all) (whole : HasReceived limits.block car all)
      (some : 0 < length more) (short : length (car ++ more) ≤ limits.received) (heard unheard : List ℕ) (sections : List Section) (text : List ℕ) (l : IsLeft (car ++ more) heard unheard input)
      (got : HasReceived limits.block heard sections) where
    taken : AreTaken q limits all
    taken front rest text fault e refused = laws.fit_taken q limits d front rest text answer fault (subst (λ (s : List Section). Fits d q s answer) e fits) within refused

    -- the sections go on behind these, or these behind them
    data Order : Type 0 where
      past : (more : List ℕ) (rest : List Section) → heard ≡ car ++ more → sections ≡ all ++ rest → Order
      before : (y : ℕ) (z : List ℕ) (rest : List Section) → car ≡ heard ++ y ∷ z → all ≡ sections ++ rest → Order

    order : Order
    order = by (compare heard (unheard ++ l.left) car more (sym l.whole))
      where
        by : ((z : List ℕ) × (heard ≡ car ++ z)) ⊎ ((y : ℕ) × (z : List ℕ) × (car ≡ heard ++ y ∷ z)) → Order
        by (inl (z, e)) =
            let (rest, is) = received.behind limits.block car z all sections is_car (subst (λ (b : List ℕ). HasReceived limits.block b sections) e got) in past z rest e is
        by (inr (y, z, e)) =
            let (rest, is) = received.front limits.block heard (y ∷ z) sections all got (subst (λ (b : List ℕ). HasReceived limits.block b all) e whole) in before y z rest e is

    -- all was heard
    past_end : heard ≡ car ++ more → (rest : List Section) × (sections ≡ all ++ rest)
    past_end e = received.behind limits.block car more all sections is_car (subst (λ (b : List ℕ). HasReceived limits.block b sections) e got)

    through_over : (rest : List Section) → sections ≡ all ++ rest → IsThrough q limits sections text → sections ≡ all
    through_over [] e h = e ∙ append-nil all
    through_over (next ∷ rest) e h = absurd (through_behind rest next text (subst (λ (s : List Section). IsThrough q limits s text) e h))

    through_under : (rest : List Section) → all ≡ sections ++ rest → IsThrough q limits sections text → sections ≡ all
    through_under [] e h = sym (e ∙ append-nil sections)
    through_under (next ∷ rest) e h = absurd (fitting_through verified q d all answer fits sections rest next text e h)

    through_here : Order → IsThrough q limits sections text → sections ≡ all
    through_here (past z rest is e) h = through_over rest e h
    through_here (before y z rest e is) h = through_under rest is h

    -- behind the CAR no block is wanted, and the header is whole
    waits_over : (z : List ℕ) (rest : List Section) (w : List ℕ) → heard ≡ car ++ z → sections ≡ all ++ rest → IsWaiting q limits heard sections w → ⊥
    waits_over z rest w is e (inl early) = no_header cars limits.block all car z heard is_car is early.goes_on
    waits_over z rest w is e (inr (at, h, header)) = up_to_behind rest w at (subst (λ (s : List Section). IsUpTo q limits s w at) e h)

    short_over : (z : List ℕ) (rest : List Section) (want : CidParts) (number : ℕ) → heard ≡ car ++ z → sections ≡ all ++ rest → IsEndedShort q limits heard sections text want number → ⊥
    short_over z rest want number is e (inl (early, _, _)) = waits_over z rest text is e (inl early)
    short_over z rest want number is e (inr (at, _, cut, header)) = waits_over z rest text is e (inr (at, cut.up_to, header))

    none_over : (rest : List Section) (next : Section) → sections ≡ all ++ next ∷ rest → (sections ≡ []) ⊎ IsLastWanted q limits sections → ⊥
    none_over rest next e (inl none) =
        let size : 0 ≡ length (all ++ next ∷ rest) = ap length (sym none ∙ e) in absurd (omega (arith, size, length-append all (next ∷ rest)))
    none_over rest next e (inr last) = last_behind rest next (subst (λ (s : List Section). IsLastWanted q limits s) e last)

    refused_by : Order → (fault : Refusal) → HasRefused q limits sections text fault → IsBehindHeader q limits heard sections → IsOwnFault fault
    refused_by (before y z rest e is) fault h w = taken sections rest text fault is h
    refused_by (past z [] is e) fault h w = taken sections [] text fault (sym (e ∙ append-nil all) ∙ sym (append-nil sections)) h
    refused_by (past z (next ∷ rest) is e) fault h w = absurd (none_over rest next e w.last)

    refused_here : (fault : Refusal) → HasRefused q limits sections text fault → IsBehindHeader q limits heard sections → IsOwnFault fault
    refused_here = refused_by order

    -- a byte of the CAR breaks none
    next_is : (y : ℕ) (z : List ℕ) (last : ℕ) (after : List ℕ) → car ≡ heard ++ y ∷ z → unheard ≡ last ∷ after → last ≡ y
    next_is y z last after e is =
        let there : heard ++ (unheard ++ l.left) ≡ heard ++ (y ∷ (z ++ more)) = sym l.whole ∙ (ap (λ (b : List ℕ). b ++ more) e ∙ append_assoc heard (y ∷ z) more) in
        let behind : unheard ++ l.left ≡ y ∷ (z ++ more) = append_cancel_left heard (unheard ++ l.left) (y ∷ (z ++ more)) there in
        let both : last ∷ (after ++ l.left) ≡ y ∷ (z ++ more) = sym (ap (λ (u : List ℕ). u ++ l.left) is) ∙ behind in
        cc both

    whole_at : (y : ℕ) (z : List ℕ) (last : ℕ) → car ≡ heard ++ y ∷ z → last ≡ y → HasReceived limits.block (heard ++ last ∷ z) all
    whole_at y z last e is = subst (λ (b : List ℕ). HasReceived limits.block b all) (e ∙ ap (λ (b : ℕ). heard ++ b ∷ z) (sym is)) whole

    pub over : (fault : ClientFault) → EndsBy q limits input heard unheard sections text (Err fault) → IsAfterWanted q limits heard sections fault
        → (fault ≡ faults.Refused (refusals.Extra (count_of all))) ⊎ IsOwnEnd fault
    over (faults.Refused (refusals.Extra number)) h w =
        let same = through_here order h.through in
        let counted : number ≡ count_of all = h.number_is ∙ ap (λ (s : List Section). count_of s) same in
        inl (cc counted)
    over (faults.Refused (refusals.Truncated want number)) (end, short) w =
        let all_is = all_heard (car ++ more) heard unheard input l end.all end.ended in
        let (rest, e) = past_end all_is in absurd (short_over more rest want number all_is e short)
    over (faults.Refused refusals.SinkFault) h w = inr tt
    over (faults.Refused refusals.OutOfMemory) h w = absurd h
    over (faults.Refused (refusals.Limit kinds.Received number)) h w =
        let size : length (car ++ more) ≡ length (heard ++ (unheard ++ l.left)) = ap length l.whole in
        let there : length heard ≡ limits.received = h.heard_is ∙ h.number_is in
        let some_more : 0 < length unheard = h.some in
        absurd (omega (arith, size, there, some_more, short, length-append heard (unheard ++ l.left), length-append unheard l.left))
    over (faults.Refused (refusals.Limit kinds.Block number)) (is, h) w = absurd (passes order)
      where
        passes : Order → ⊥
        passes (past z rest is e) = waits_over z rest text is e h.waits
        passes (before y z rest e is) =
            received.unpassed limits.block heard z h.last h.brings.0 all (whole_at y z h.last e (next_is y z h.last h.more e h.unheard_is)) h.brings.1
    over (faults.Refused (refusals.NotFolder segment)) h w = absurd (refused_here (refusals.NotFolder segment) h w)
    over (faults.Refused (refusals.NotThere segment)) h w = absurd (refused_here (refusals.NotThere segment) h w)
    over (faults.Refused (refusals.BadDigest cid)) h w = absurd (refused_here (refusals.BadDigest cid) h w)
    over (faults.Refused (refusals.WrongBlock want got)) h w = absurd (refused_here (refusals.WrongBlock want got) h w)
    over (faults.Refused (refusals.BadBlock cid fault)) h w = absurd (refused_here (refusals.BadBlock cid fault) h w)
    over (faults.Refused (refusals.BadSize declared actual)) h w = absurd (refused_here (refusals.BadSize declared actual) h w)
    over (faults.Refused (refusals.Limit kinds.Depth number)) h w = absurd (refused_here (refusals.Limit kinds.Depth number) h w)
    over (faults.Refused (refusals.Limit kinds.Entries number)) h w = absurd (refused_here (refusals.Limit kinds.Entries number) h w)
    over (faults.Refused (refusals.Limit kinds.Names number)) h w = absurd (refused_here (refusals.Limit kinds.Names number) h w)
    over (faults.Refused (refusals.Limit kinds.Output number)) h w = absurd (refused_here (refusals.Limit kinds.Output number) h w)
    over (faults.Refused (refusals.Limit kinds.SeenBlocks number)) h w = absurd (refused_here (refusals.Limit kinds.SeenBlocks number) h w)
    over (faults.Refused (refusals.Limit kinds.SeenBytes number)) h w = absurd (refused_here (refusals.Limit kinds.SeenBytes number) h w)
    over (faults.Refused (refusals.Limit kinds.Reused number)) h w = absurd (refused_here (refusals.Limit kinds.Reused number) h w)
    over (faults.BadCar fault) (no_car, h) w = absurd (breaks order)
      where
        breaks : Order → ⊥
        breaks (past z rest is e) = waits_over z rest text is e h.waits
        breaks (before y z rest e is) = received.unbroken limits.block heard z h.last all fault (whole_at y z h.last e (next_is y z h.last h.more e h.unheard_is)) no_car h.brings
    over faults.InputFault h w = inr tt
    over faults.KeepFault h w = inr tt
    over faults.OutOfMemory h w = inr tt

    -- it isn't accepted
    pub not_accepted : heard ≡ car ++ more → IsCarOf heard sections → IsThrough q limits sections text → ⊥
    not_accepted e heard_is through =
        let (rest, is) = past_end e in
        let same = through_over rest is through in
        car_once cars all heard car more (subst (λ (s : List Section). IsCarOf heard s) same heard_is) is_car e some

-- ---- the answer

module _ (laws : AnswerLaws) (verified : VerifiedLaws) (fronts : FitsByFronts) (progresses : ProgressByFronts) (q : QueryParts) (d : Dag) (all : List Section) (answer : List ℕ)
    (either : (sections : List Section) (a b : Dag) (x : List ℕ) (w : Spot) → Fits a q sections x → IsInProgress b q sections w → ⊥) (fits : Fits d q all answer)
    (cars : CarLaws) (received : ReceivedLaws) (limits : LimitNumbers) (within : IsWithinLimits q limits d) (input : Input) (out : Output) (car more : List ℕ) (is_car : IsCarOf car all)
    (whole : HasReceived limits.block car all) (some : 0 < length more) (short : length (car ++ more) ≤ limits.received) (told : input.left_old ≡ Some (car ++ more)) where
  pub goes_over : (result : Result ⊤ ClientFault) → IsVerified q limits input out result → IsRefusedElse (refusals.Extra (count_of all)) result
  goes_over (Ok end) v =
      let h = v.verifies in
      let l = left_of (car ++ more) h.heard h.unheard input told h.took in
      not_accepted laws verified fronts progresses q d all answer either fits cars received limits within input car more is_car whole some short h.heard h.unheard h.sections h.text l h.received
      (all_heard (car ++ more) h.heard h.unheard input l h.ends.0.all h.ends.0.ended) h.ends.1.is_car h.ends.1.through
  goes_over (Err fault) v =
      let h = v.verifies in
      let l = left_of (car ++ more) h.heard h.unheard input told h.took in
      over laws verified fronts progresses q d all answer either fits cars received limits within input car more is_car whole some short h.heard h.unheard h.sections h.text l h.received
      fault h.ends (v.wanted fault refl)
