-- An input that ends before the header of its CAR is whole.
use Rattle.std.proofs.Common.{◌≡◌, ℕ, ◌<◌, ◌≤◌, List, [], ◌∷◌, ◌++◌, length, Some, Ok, Err, refl, ap, sym, subst, ◌∙◌, inl, inr, append_assoc, arith}
use Rattle.std.specs.Prelude.{Result, ⊤, ◌⊎◌}
use Rattle.std.proofs.lemmas.List.{length-append}
use Rattle.tg_car.specs.History.{GoesOn}
use Rattle.tg_car.specs.Laws.{CarLaws}
use Rattle.tg_model.specs.Dag.{Section}
use Rattle.tg_model.specs.LimitNumbers.{LimitNumbers}
use Rattle.tg_model.specs.Queries.{QueryParts}
use Rattle.tg_model.specs.declared.limits.LimitKind.TheVariants as kinds
use Rattle.tg_streams.specs.Streams.{Input, Output}
use Rattle.tg_verify.specs.declared.fault.Refusal.TheVariants as refusals
use Rattle.tg_client.specs.Body.{IsAfterWanted, IsVerified}
use Rattle.tg_client.specs.Ends.{EndsBy, IsOwnEnd, IsRefusedElse}
use Rattle.tg_client.specs.Received.{HasHeader, HasReceived}
use Rattle.tg_client.specs.ReceivedLaws.{ReceivedLaws}
use Rattle.tg_client.specs.declared.fault.ClientFault.{ClientFault}
use Rattle.tg_client.specs.declared.fault.ClientFault.TheVariants as faults
use Rattle.tg_client.proofs.Told.{IsLeft, header_inside, left_of, no_header}

module _ (cars : CarLaws) (received : ReceivedLaws) (q : QueryParts) (limits : LimitNumbers) (input : Input) (bytes : List ℕ) (on : GoesOn limits.block bytes []) (few : length bytes ≤ limits.received)
    (heard unheard : List ℕ) (sections : List Section) (text : List ℕ) (l : IsLeft bytes heard unheard input) where
  not_whole : HasHeader limits.block heard → ⊥
  not_whole h = header_inside cars limits.block heard (unheard ++ l.left) bytes h l.whole on

  here : HasReceived limits.block bytes []
  here = record { given = []; goes_on = on; sections_are = refl }

  broken_whole : (last : ℕ) (more : List ℕ) → unheard ≡ last ∷ more → HasReceived limits.block (heard ++ last ∷ (more ++ l.left)) []
  broken_whole last more e = subst (λ (b : List ℕ). HasReceived limits.block b []) (l.whole ∙ ap (λ (u : List ℕ). heard ++ (u ++ l.left)) e) here

  pub early : (fault : ClientFault) → EndsBy q limits input heard unheard sections text (Err fault) → IsAfterWanted q limits heard sections fault
      → (fault ≡ faults.Refused (refusals.Truncated q.root 0)) ⊎ IsOwnEnd fault
  early (faults.Refused (refusals.Extra number)) h w =
      let whole : bytes ≡ h.car ++ (h.more ++ l.left) =
      l.whole ∙ (sym (append_assoc heard unheard l.left) ∙ (ap (λ (x : List ℕ). x ++ l.left) h.whole ∙ append_assoc h.car h.more l.left)) in
      absurd (no_header cars limits.block sections h.car (h.more ++ l.left) bytes h.is_car whole on)
  early (faults.Refused (refusals.Truncated want number)) h (inl (root, none)) = inl (cc (root, none))
  early (faults.Refused (refusals.Truncated want number)) h (inr header) = absurd (not_whole header)
  early (faults.Refused refusals.SinkFault) h w = inr tt
  early (faults.Refused refusals.OutOfMemory) h w = absurd h
  early (faults.Refused (refusals.Limit kinds.Received number)) h w =
      let size : length bytes ≡ length (heard ++ (unheard ++ l.left)) = ap length l.whole in
      let full : length heard ≡ limits.received = h.heard_is ∙ h.number_is in
      let some : 0 < length unheard = h.some in
      absurd (omega (arith, full, some, few, size, length-append heard (unheard ++ l.left), length-append unheard l.left))
  early (faults.Refused (refusals.Limit kinds.Block number)) (is, h) w =
      absurd (received.unpassed limits.block heard (h.more ++ l.left) h.last h.brings.0 [] (broken_whole h.last h.more h.unheard_is) h.brings.1)
  early (faults.Refused (refusals.NotFolder segment)) h w = absurd (not_whole w.header)
  early (faults.Refused (refusals.NotThere segment)) h w = absurd (not_whole w.header)
  early (faults.Refused (refusals.BadDigest cid)) h w = absurd (not_whole w.header)
  early (faults.Refused (refusals.WrongBlock want got)) h w = absurd (not_whole w.header)
  early (faults.Refused (refusals.BadBlock cid fault)) h w = absurd (not_whole w.header)
  early (faults.Refused (refusals.BadSize declared actual)) h w = absurd (not_whole w.header)
  early (faults.Refused (refusals.Limit kinds.Depth number)) h w = absurd (not_whole w.header)
  early (faults.Refused (refusals.Limit kinds.Entries number)) h w = absurd (not_whole w.header)
  early (faults.Refused (refusals.Limit kinds.Names number)) h w = absurd (not_whole w.header)
  early (faults.Refused (refusals.Limit kinds.Output number)) h w = absurd (not_whole w.header)
  early (faults.Refused (refusals.Limit kinds.SeenBlocks number)) h w = absurd (not_whole w.header)
  early (faults.Refused (refusals.Limit kinds.SeenBytes number)) h w = absurd (not_whole w.header)
  early (faults.Refused (refusals.Limit kinds.Reused number)) h w = absurd (not_whole w.header)
  early (faults.BadCar car) (no_car, h) w =
      absurd (received.unbroken limits.block heard (h.more ++ l.left) h.last [] car (broken_whole h.last h.more h.unheard_is) no_car h.brings)
  early faults.InputFault h w = inr tt
  early faults.KeepFault h w = inr tt
  early faults.OutOfMemory h w = inr tt

module _ (cars : CarLaws) (received : ReceivedLaws) (q : QueryParts) (limits : LimitNumbers) (input : Input) (out : Output) (bytes : List ℕ) (told : input.left_old ≡ Some bytes)
    (on : GoesOn limits.block bytes []) (few : length bytes ≤ limits.received) where
  pub ends_early : (result : Result ⊤ ClientFault) → IsVerified q limits input out result → IsRefusedElse (refusals.Truncated q.root 0) result
  ends_early (Ok end) v =
      let h = v.verifies in
      let l = left_of bytes h.heard h.unheard input told h.took in
      no_header cars limits.block h.sections h.heard (h.unheard ++ l.left) bytes h.ends.1.is_car l.whole on
  ends_early (Err fault) v =
      let h = v.verifies in
      let l = left_of bytes h.heard h.unheard input told h.took in
      early cars received q limits input bytes on few h.heard h.unheard h.sections h.text l fault h.ends (v.wanted fault refl)
