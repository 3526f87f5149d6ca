-- The CAR of sections that fit, or of those on a path that leads nowhere, while it comes.
use Rattle.std.proofs.Common.{◌≡◌, ℕ, ◌<◌, ◌≤◌, All, List, [], ◌∷◌, ◌++◌, length, Ok, Err, refl, ap, sym, subst, ◌∙◌, inl, inr, append-nil, append_assoc, arith}
use Rattle.std.specs.Prelude.{Result, ⊤}
use Rattle.std.proofs.lemmas.List.{length-append}
use Rattle.tg_car.specs.Laws.{CarLaws}
use Rattle.tg_cid.specs.Cid.{CidParts}
use Rattle.tg_model.specs.Dag.{Dag, Section}
use Rattle.tg_model.specs.Fits.{Fits, IsOpenedFor}
use Rattle.tg_model.specs.LimitNumbers.{LimitNumbers}
use Rattle.tg_model.specs.PathWalk.{stopped}
use Rattle.tg_model.specs.Queries.{QueryParts}
use Rattle.tg_model.specs.Traversal.{block_list, traversal}
use Rattle.tg_model_laws.specs.Tasks.{Miss, open_block, stop_of}
use Rattle.tg_model_laws.specs.Verified.{VerifiedLaws}
use Rattle.tg_traversal.specs.Left.{WantedAt}
use Rattle.tg_verify.specs.Laws.{AnswerLaws, IsMissOf, IsWithinLimits}
use Rattle.tg_verify.specs.Taken.{IsThrough, IsUpTo}
use Rattle.tg_verify.specs.declared.fault.Refusal.TheVariants as refusals
use Rattle.tg_client.specs.Body.{EndsAt, unknown}
use Rattle.tg_client.specs.BodyLaws.{BodyLaws, FittingEnds, FittingGoesOn, IsFrontOfCar, IsMissOrOwnEnd, IsTheAnswer, NowhereEnds, NowhereGoesOn}
use Rattle.tg_client.specs.Ends.{EndsBy, IsEndedShort, IsOwnEnd}
use Rattle.tg_client.specs.Received.{HasReceived, IsCarOf}
use Rattle.tg_client.specs.ReceivedLaws.{ReceivedLaws}
use Rattle.tg_client.specs.declared.fault.ClientFault.{ClientFault}
use Rattle.tg_client.specs.declared.fault.ClientFault.TheVariants as faults
use Rattle.tg_client.proofs.Accepting.{AreTakenBut, ThroughAll, fitting_done, fitting_through, none_settled, only, settled, through_all}
use Rattle.tg_client.proofs.Told.{IsLeft, blocks_small, car_once, no_header}
use Rattle.tg_verify.specs.WantsLaws.{none_next}

-- sections fit with one text
abbrev pub FitOnce : Type 0
FitOnce = (q : QueryParts) (sections : List Section) (a b : Dag) (x y : List ℕ) → Fits a q sections x → Fits b q sections y → (a ≡ b) × (x ≡ y)

-- what is left of the CAR
front_left : (limits : LimitNumbers) (car : List ℕ) (all : List Section) (heard unheard : List ℕ) (sections : List Section)
    → IsFrontOfCar limits car all heard unheard sections → IsLeft car heard unheard unknown
front_left limits car all heard unheard sections f = record { left = f.more; whole = f.whole; ends = λ ended. absurd ended.ended }

-- no more bytes come, and it isn't accepted: a block is wanted, or the header isn't whole
not_ended : (q : QueryParts) (limits : LimitNumbers) (heard : List ℕ) (sections : List Section) (text : List ℕ) (fault : ClientFault)
    → ((want : CidParts) (number : ℕ) → IsEndedShort q limits heard sections text want number → ⊥) → EndsAt q limits heard sections text (Err fault) → ⊥
not_ended q limits heard sections text (faults.Refused (refusals.Truncated want number)) short h = short want number h
not_ended q limits heard sections text (faults.Refused (refusals.Extra number)) short h = h
not_ended q limits heard sections text (faults.Refused (refusals.Limit kind number)) short h = h
not_ended q limits heard sections text (faults.Refused (refusals.BadDigest cid)) short h = h
not_ended q limits heard sections text (faults.Refused (refusals.WrongBlock want got)) short h = h
not_ended q limits heard sections text (faults.Refused (refusals.BadBlock cid fault)) short h = h
not_ended q limits heard sections text (faults.Refused (refusals.BadSize declared actual)) short h = h
not_ended q limits heard sections text (faults.Refused (refusals.NotFolder segment)) short h = h
not_ended q limits heard sections text (faults.Refused (refusals.NotThere segment)) short h = h
not_ended q limits heard sections text (faults.Refused refusals.SinkFault) short h = h
not_ended q limits heard sections text (faults.Refused refusals.OutOfMemory) short h = h
not_ended q limits heard sections text (faults.BadCar car) short h = h
not_ended q limits heard sections text faults.InputFault short h = h
not_ended q limits heard sections text faults.KeepFault short h = h
not_ended q limits heard sections text faults.OutOfMemory short h = h

-- of a CAR that came whole the header is, and a block is wanted only where one is behind all sections
not_short : CarLaws → (q : QueryParts) (limits : LimitNumbers) (car : List ℕ) (all : List Section) (text : List ℕ) → IsCarOf car all
    → ((at : WantedAt) → IsUpTo q limits all text at → ⊥) → (want : CidParts) (number : ℕ) → IsEndedShort q limits car all text want number → ⊥
not_short cars q limits car all text is_car done want number (inl (before, _, _)) = no_header cars limits.block all car [] car is_car (sym (append-nil car)) before.goes_on
not_short cars q limits car all text is_car done want number (inr (at, _, cut, _)) = done at cut.up_to

module _ (cars : CarLaws) (received : ReceivedLaws) (verified : VerifiedLaws) (answers : AnswerLaws) where
  -- ---- sections that fit

  module _ (q : QueryParts) (limits : LimitNumbers) (d : Dag) (all : List Section) (answer car heard unheard : List ℕ) (sections : List Section)
      (fits : Fits d q all answer) (within : IsWithinLimits q limits d) (f : IsFrontOfCar limits car all heard unheard sections) where
    pub fit_whole : HasReceived limits.block car all
    fit_whole =
        received.whole limits.block car all f.is_car (subst (λ (l : List Section). All (λ section. length section.block ≤ limits.block) l) fits.list (blocks_small q limits d within))

    fit_but : AreTakenBut (λ fault. ⊥) q limits all
    fit_but front rest text fault e refused =
        inr (answers.fit_taken q limits d front rest text answer fault (subst (λ (l : List Section). Fits d q l answer) e fits) within refused)

    pub fit_goes_on : (text : List ℕ) (fault : ClientFault) → EndsBy q limits unknown heard unheard sections text (Err fault) → IsOwnEnd fault
    fit_goes_on text fault h =
        let ends : ThroughAll q limits all = fitting_through verified q d all answer fits in
        let l = front_left limits car all heard unheard sections f in
        only received q limits unknown car all fit_whole f.few ends (λ fault. ⊥) fit_but heard unheard sections text l f.received IsOwnEnd (λ fault own. own) (λ fault none. absurd none)
        (λ want number ended short. absurd ended.ended.ended)
        (λ number h.
        let same = through_all received q limits unknown car all fit_whole f.few ends (λ fault. ⊥) fit_but heard unheard sections text l f.received h.through in
        let whole : car ≡ h.car ++ (h.more ++ f.more) =
        f.whole ∙ (sym (append_assoc heard unheard f.more) ∙ (ap (λ (x : List ℕ). x ++ f.more) h.whole ∙ append_assoc h.car h.more f.more)) in
        let some : 0 < length h.more = h.some in
        absurd (car_once cars all car h.car (h.more ++ f.more) f.is_car (subst (λ (s : List Section). IsCarOf h.car s) same h.is_car) whole (omega (arith, some, length-append h.more f.more))))
        fault h

  pub fitting : FittingGoesOn
  fitting q limits d all answer car heard unheard sections text fault fits within f h =
      fit_goes_on q limits d all answer car heard unheard sections fits within f text fault h

  pub fitting_ends : FitOnce → FittingEnds
  fitting_ends once q limits d all answer car sections text result fits within f h = by result h
    where
      same : sections ≡ all
      same = received.one limits.block car sections all f.received (fit_whole q limits d all answer car car [] sections fits within f)

      by : (result : Result ⊤ ClientFault) → EndsAt q limits car sections text result → IsTheAnswer all answer sections text result
      by (Ok done) h =
          let whole = answers.through q limits all text (subst (λ (s : List Section). IsThrough q limits s text) same h.through) in
          let (_, is) = once q all whole.s d text answer whole.fits fits in
          (same, is)
      by (Err fault) h =
          not_ended q limits car sections text fault (λ want number short.
          not_short cars q limits car all text f.is_car (λ at up_to. fitting_done verified q d all answer fits text at up_to) want number
          (subst (λ (s : List Section). IsEndedShort q limits car s text want number) same short)) h

  -- ---- those on a path that leads nowhere

  module _ (q : QueryParts) (d : Dag) (miss : Miss) (right : IsOpenedFor d q) (end : (traversal q d).end ≡ stopped (stop_of miss)) where
    nowhere_by : {limits : LimitNumbers} → ThroughAll q limits (block_list q d)
    nowhere_by front rest section text e h =
        none_next q section (verified.nowhere q d front rest section miss h.given [] (none_settled q front) right e end h.verified)

    nowhere_through : {limits : LimitNumbers} → (text : List ℕ) → IsThrough q limits (block_list q d) text → ⊥
    nowhere_through text h =
        let (_, stops) = verified.nowhere_ends q d (block_list q d) miss h.given [] (none_settled q (block_list q d)) right refl end h.verified in absurd (cc stops)

    nowhere_waits : {limits : LimitNumbers} → (text : List ℕ) (at : WantedAt) → IsUpTo q limits (block_list q d) text at → ⊥
    nowhere_waits text at h =
        let (_, stops) = verified.nowhere_ends q d (block_list q d) miss h.given (open_block at.want at.cid ∷ h.later) (settled q (block_list q d) at h.later h.sends) right refl end h.verified in
        absurd (cc stops)

    own_end : (fault : ClientFault) → IsOwnEnd fault → IsMissOrOwnEnd miss fault
    own_end (faults.Refused fault) own = inr own
    own_end (faults.BadCar car) own = own
    own_end faults.InputFault own = own
    own_end faults.KeepFault own = own
    own_end faults.OutOfMemory own = own

    module _ (limits : LimitNumbers) (within : IsWithinLimits q limits d) (car : List ℕ) where
      nowhere_whole : IsCarOf car (block_list q d) → HasReceived limits.block car (block_list q d)
      nowhere_whole is_car = received.whole limits.block car (block_list q d) is_car (blocks_small q limits d within)

      nowhere_but : AreTakenBut (IsMissOf miss) q limits (block_list q d)
      nowhere_but front rest text fault e refused = answers.nowhere_taken q limits d front rest text miss fault right e end within refused

      pub nowhere_on : (heard unheard : List ℕ) (sections : List Section) (text : List ℕ) (fault : ClientFault) → IsFrontOfCar limits car (block_list q d) heard unheard sections
          → EndsBy q limits unknown heard unheard sections text (Err fault) → IsMissOrOwnEnd miss fault
      nowhere_on heard unheard sections text fault f h =
          let all = block_list q d in
          let whole = nowhere_whole f.is_car in
          let l = front_left limits car all heard unheard sections f in
          only received q limits unknown car all whole f.few nowhere_by (IsMissOf miss) nowhere_but heard unheard sections text l f.received (IsMissOrOwnEnd miss) own_end (λ fault h. inl h)
          (λ want number ended short. absurd ended.ended.ended)
          (λ number h.
          let same = through_all received q limits unknown car all whole f.few nowhere_by (IsMissOf miss) nowhere_but heard unheard sections text l f.received h.through in
          absurd (nowhere_through text (subst (λ (s : List Section). IsThrough q limits s text) same h.through)))
          fault h

      pub nowhere_end : (sections : List Section) (text : List ℕ) (result : Result ⊤ ClientFault) → IsFrontOfCar limits car (block_list q d) car [] sections
          → EndsAt q limits car sections text result → ⊥
      nowhere_end sections text result f h = by result h
        where
          same : sections ≡ block_list q d
          same = received.one limits.block car sections (block_list q d) f.received (nowhere_whole f.is_car)

          by : (result : Result ⊤ ClientFault) → EndsAt q limits car sections text result → ⊥
          by (Ok done) h = nowhere_through text (subst (λ (s : List Section). IsThrough q limits s text) same h.through)
          by (Err fault) h =
              not_ended q limits car sections text fault (λ want number short.
              not_short cars q limits car (block_list q d) text f.is_car (nowhere_waits text) want number
              (subst (λ (s : List Section). IsEndedShort q limits car s text want number) same short)) h

  pub nowhere : NowhereGoesOn
  nowhere q limits d miss car heard unheard sections text fault right end within f h =
      nowhere_on q d miss right end limits within car heard unheard sections text fault f h

  pub nowhere_ends : NowhereEnds
  nowhere_ends q limits d miss car sections text result right end within f h =
      nowhere_end q d miss right end limits within car sections text result f h

  pub body_laws : FitOnce → BodyLaws
  body_laws once = record { fitting = fitting; fitting_ends = fitting_ends once; nowhere = nowhere; nowhere_ends = nowhere_ends }
