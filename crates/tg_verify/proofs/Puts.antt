-- Fronts of texts that were put.
use Rattle.std.proofs.Common.{List, Ok, Result, drop, subst, sym, take, ℕ}
use Rattle.std.proofs.lemmas.List.{take-append-drop}
use Rattle.tg_listing.specs.Listings.{HasListingCause, StopsListing}
use Rattle.tg_listing.specs.declared.fault.ListingFault.{ListingFault}
use Rattle.tg_listing.specs.declared.fault.ListingFault.TheVariants as listings
use Rattle.std.specs.Prelude.{Err, ⊤}
use Rattle.tg_streams.specs.Streams.{Output, PutFront}
use Rattle.tg_model.specs.Dag.{Section}
use Rattle.tg_traversal.specs.Left.{WantedAt}
use Rattle.tg_verify.specs.History.{HasPutCause, IsPlaceFault}
use Rattle.tg_verify.specs.State.{OpenerState}
use Rattle.tg_verify.specs.Steps.{IsPlaced, IsPlacedAt, PutEnds, PutFrontOf, PutOrWants, refusal_of_listing}
use Rattle.tg_verify.specs.declared.counts.Source.{Source}
use Rattle.tg_verify.specs.declared.fault.Refusal.{Refusal}

-- where out failed, a front was put
pub front_of : (text : List ℕ) (out : Output) → PutFront text out → PutFrontOf text out
front_of text out p = record { front = take p.count text; rest = drop p.count text; whole = sym (take-append-drop p.count text); put = p.put }

-- what a block says that is opened was put, or out failed in it
pub put_placed : (old new : OpenerState) (at : WantedAt) (section : Section) (source : Source) (said : List ℕ) (out : Output) (result : Result ⊤ Refusal)
    → IsPlaced old at section source said new → PutEnds said out result → IsPlacedAt old at section source out new result
put_placed old new at section source said out (Ok done) placed (put, quiet) = record { said = said; placed = placed; put = put; quiet = quiet }
put_placed old new at section source said out (Err fault) placed (e, front) =
    subst (λ (r : Refusal). IsPlacedAt old at section source out new (Err r)) (sym e) (record { said = said; placed = placed; front = front_of said out front; rose = front.rose })

pub listing_stops : (fault : ListingFault) (text : List ℕ) (out : Output) → StopsListing fault text out → PutOrWants text out (Err (refusal_of_listing fault))
listing_stops listings.SinkFault text out p = (front_of text out p, p.rose)
listing_stops listings.OutOfMemory text out p = p

pub listing_cause : (fault : ListingFault) (out : Output) → HasListingCause fault out → HasPutCause (Err (refusal_of_listing fault)) out
listing_cause listings.SinkFault out h = h
listing_cause listings.OutOfMemory out h = h

pub listing_place : (fault : ListingFault) → IsPlaceFault (refusal_of_listing fault)
listing_place listings.SinkFault = tt
listing_place listings.OutOfMemory = tt
