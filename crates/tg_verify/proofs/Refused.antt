-- What a refusal says of each sound DAG of the query's root.
use Rattle.std.proofs.Common.{◌≡◌, ◌⊎◌, ◌<◌, ◌≤◌, ◌++◌, ◌∷◌, ℕ, All, Bool, List, None, Option, Some, [], false, inl, inr, true, ⊎_elim, map, sym, ap, ◌∙◌, subst, arith}
use Rattle.std.proofs.lemmas.List.Elements.{Contains-append_right}
use Rattle.tg_cid.specs.Cid.{CidParts}
use Rattle.tg_cid.specs.Names.{Names}
use Rattle.tg_traversal.specs.Left.{WantedAt}
use Rattle.tg_model.specs.Answer.{answer}
use Rattle.tg_model.specs.Counts.{counts, greatest}
use Rattle.tg_model.specs.Dag.{Dag, Section, links_of, root_cid}
use Rattle.tg_model.specs.Fits.{CollisionPair, IsFrontOfAnswer}
use Rattle.tg_model.specs.LimitNumbers.{AreWithin, LimitNumbers, number_of}
use Rattle.tg_model.specs.Queries.{QueryParts}
use Rattle.tg_model.specs.Reading.{Reads}
use Rattle.tg_model.specs.Sound.{IsSound}
use Rattle.tg_model.specs.Traversal.{Place, is_sent_behind, traversal}
use Rattle.tg_model.specs.declared.kinds.Kind.{Kind}
use Rattle.tg_model.specs.declared.limits.LimitKind.TheVariants as kinds
use Rattle.tg_model.specs.declared.limits.LimitKind.{LimitKind}
use Rattle.tg_model_laws.specs.SentSections.{taken_as, taken_if}
use Rattle.tg_model_laws.specs.BesideSound.{BesideLaws, IsBeside, IsNext}
use Rattle.tg_model_laws.specs.TakenBlocks.{IsReadAt}
use Rattle.tg_model_laws.specs.Stages.{Given, place_of, up_to_next, with_place}
use Rattle.tg_model_laws.specs.Tasks.{Task, depth_of, no_directory, no_entry, open_block, position_of, tasks_of, text_at}
use Rattle.tg_model_laws.specs.Verified.{IsHad, IsKnown, IsKnownIf, Verified, VerifiedLaws}
use Rattle.tg_verify.proofs.Fronts.{greatest_at, only_one, or_pair_more, pair_more}
use Rattle.tg_verify.proofs.Limits.{is_above, number_within}
use Rattle.tg_verify.proofs.Misread.{Computes, bad_isnt_read, missized_isnt_read}
use Rattle.tg_verify.proofs.Shown.{PeerLaws, answer_front, given_front, no_directory_says, no_entry_says, nowhere_front, through_sound, unlisted_front, up_to_sound, written_front}
use Rattle.tg_verify.specs.Counting.{counts_given}
use Rattle.tg_verify.specs.Opening.{PassesAs, given_with}
use Rattle.tg_verify.specs.Refusals.{HasPlaceCause, HasReceiptCause, HasRefused, HasSectionCause, IsOver, IsRefusedAt, IsRefusedBehind}
use Rattle.tg_verify.specs.Sound.{IsItsFront, SaysOfDag}
use Rattle.tg_verify.specs.declared.fault.Refusal.{Refusal}
use Rattle.tg_verify.specs.declared.fault.Refusal.TheVariants as refusals

module _ (v : VerifiedLaws) (p : PeerLaws) (b : BesideLaws) (computes : Computes) (q : QueryParts) (limits : LimitNumbers) (d : Dag) (sound : IsSound d) (root : root_cid d ≡ q.root)
    (sections : List Section) where
  -- ---- a block of the wanted CID is refused at its place, where pairs of the sections before it, with it, and of it
  -- alone, are pairs of the sections

  module _ (front : List Section) (given : Given) (at : WantedAt) (later : List (Task CidParts)) (section : Section) (bytes : All (λ b. b < 256) section.block)
      (named : Names section.cid section.block) (known : IsKnown q front section) (here : Verified q front given (open_block at.want section.cid ∷ later))
      (of_front : CollisionPair front d → CollisionPair sections d) (of_taken : CollisionPair (taken_as q front section) d → CollisionPair sections d)
      (of_one : CollisionPair (section ∷ []) d → CollisionPair sections d) where
    is_beside : IsBeside q d given (open_block at.want section.cid ∷ later) ⊎ CollisionPair front d
    is_beside = v.beside q d front given (open_block at.want section.cid ∷ later) sound root here

    -- one that isn't read there
    misread : ((kind : Kind) → IsReadAt (position_of at.want) section kind → ⊥) → CollisionPair sections d
    misread bad = of_taken (v.refused q d front given at.want section later sound root known named bad here)

    -- the wanted place is one of the DAG's
    is_deep : (number : ℕ) → number < depth_of at.want → (number < (counts q d).depth) ⊎ CollisionPair sections d
    is_deep number deep =
        ⊎_elim
        (λ beside.
        let next : IsNext q d given at.want section.cid later = b.next q d given at.want section.cid later sound beside in
        let here : depth_of at.want ≤ greatest (map (λ (p : Place). p.depth) (given.places ++ place_of at.want next.section ∷ next.rest)) =
        greatest_at (λ (p : Place). p.depth) given.places next.rest (place_of at.want next.section) in
        let most : greatest (map (λ (p : Place). p.depth) (traversal q d).places) ≡ greatest (map (λ (p : Place). p.depth) (given.places ++ place_of at.want next.section ∷ next.rest)) =
        ap (λ (places : List Place). greatest (map (λ (p : Place). p.depth) places)) next.next in
        let less : number < greatest (map (λ (p : Place). p.depth) (traversal q d).places) = omega (arith, deep, here, most) in
        inl less)
        (λ pair. inr (of_front pair))
        is_beside

    -- what is counted with it is counted of the DAG

    up_to_place : (text : List ℕ) (tasks : List (Task CidParts)) → IsBeside q d (with_place at.want section text given) tasks ⊎ CollisionPair (section ∷ []) d
        → AreWithin (counts q d) (counts_given q (up_to_next tasks (with_place at.want section text given))) ⊎ CollisionPair sections d
    up_to_place text tasks (inl beside) = inl (b.counted q d _ _ (b.up_to_next q d (with_place at.want section text given) tasks beside))
    up_to_place text tasks (inr pair) = inr (of_one pair)

    with_kind : (kind : Option Kind) → PassesAs q limits at section kind → IsBeside q d given (open_block at.want section.cid ∷ later)
        → AreWithin (counts q d) (counts_given q (given_with q given later at section kind)) ⊎ CollisionPair sections d
    with_kind None (shallow, e) beside = up_to_place section.block later (b.alone q d given at.want section later sound e named beside)
    with_kind (Some kind) (block, size) beside =
        let reads : Reads section.cid section.block kind = (computes section.cid section.block kind bytes).0 block.reads in
        up_to_place (text_at q at.want section kind) (tasks_of q at.want section kind (links_of kind) ++ later) (b.opened q d given at.want section kind later sound named reads beside)

    is_over : (limit : LimitKind) (number : ℕ) → IsOver q limits given later at section limit number → (number < number_of limit (counts q d)) ⊎ CollisionPair sections d
    is_over limit number h =
        ⊎_elim
        (λ beside. ⊎_elim
        (λ within.
        let above = is_above limits (counts_given q (given_with q given later at section h.kind)) limit h.over in
        let most = number_within (counts q d) (counts_given q (given_with q given later at section h.kind)) limit within in
        let number_is = h.number_is in
        inl (omega (arith, above, most, number_is)))
        (λ pair. inr pair)
        (with_kind h.kind h.passes beside))
        (λ pair. inr (of_front pair))
        is_beside

    place_says : (fault : Refusal) → HasPlaceCause q limits given later at section fault → SaysOfDag q d sections fault
    place_says (refusals.Extra number) h = absurd h
    place_says (refusals.Limit kinds.Block number) h = absurd h
    place_says (refusals.Limit kinds.Depth number) h = is_deep number h.deep
    place_says (refusals.Limit kinds.Entries number) h = is_over kinds.Entries number h
    place_says (refusals.Limit kinds.Names number) h = is_over kinds.Names number h
    place_says (refusals.Limit kinds.Received number) h = absurd h
    place_says (refusals.Limit kinds.Output number) h = is_over kinds.Output number h
    place_says (refusals.Limit kinds.SeenBlocks number) h = is_over kinds.SeenBlocks number h
    place_says (refusals.Limit kinds.SeenBytes number) h = is_over kinds.SeenBytes number h
    place_says (refusals.Limit kinds.Reused number) h = is_over kinds.Reused number h
    place_says (refusals.BadDigest cid) h = absurd h
    place_says (refusals.WrongBlock want got) h = absurd h
    place_says (refusals.BadBlock cid fault) h = misread (bad_isnt_read computes q limits at section bytes fault h.1)
    place_says (refusals.BadSize declared actual) h = misread (missized_isnt_read computes q limits at section bytes _ h)
    place_says (refusals.NotFolder segment) h = absurd h
    place_says (refusals.NotThere segment) h = absurd h
    place_says refusals.SinkFault h = absurd h
    place_says (refusals.Truncated want number) h = absurd h
    place_says refusals.OutOfMemory h = tt

  -- ---- a section that isn't the wanted one says nothing

  receipt_says : (at : WantedAt) (section : Section) (fault : Refusal) → HasReceiptCause limits at section fault → SaysOfDag q d sections fault
  receipt_says at section (refusals.Extra number) h = absurd h
  receipt_says at section (refusals.Limit kinds.Block number) h = tt
  receipt_says at section (refusals.Limit kinds.Depth number) h = absurd h
  receipt_says at section (refusals.Limit kinds.Entries number) h = absurd h
  receipt_says at section (refusals.Limit kinds.Names number) h = absurd h
  receipt_says at section (refusals.Limit kinds.Received number) h = tt
  receipt_says at section (refusals.Limit kinds.Output number) h = absurd h
  receipt_says at section (refusals.Limit kinds.SeenBlocks number) h = absurd h
  receipt_says at section (refusals.Limit kinds.SeenBytes number) h = absurd h
  receipt_says at section (refusals.Limit kinds.Reused number) h = absurd h
  receipt_says at section (refusals.BadDigest cid) h = tt
  receipt_says at section (refusals.WrongBlock want got) h = tt
  receipt_says at section (refusals.BadBlock cid fault) h = absurd h
  receipt_says at section (refusals.BadSize declared actual) h = absurd h
  receipt_says at section (refusals.NotFolder segment) h = absurd h
  receipt_says at section (refusals.NotThere segment) h = absurd h
  receipt_says at section refusals.SinkFault h = absurd h
  receipt_says at section (refusals.Truncated want number) h = absurd h
  receipt_says at section refusals.OutOfMemory h = absurd h

  -- ---- what is written, and what the refusal says

  module _ (written : List ℕ) where
    -- the last of the sections was refused: what is written was written for those before it

    at_front : (why : Given → List (Task CidParts) → WantedAt → Section → Type 0) → IsRefusedAt q limits sections written why → IsItsFront q d sections written
    at_front why h =
        or_pair_more v.pair_of_some (IsFrontOfAnswer written (answer q d)) h.taken sections (h.section ∷ []) d h.received (up_to_sound v p q d sound root h.taken written h.at h.up_to)

    at_says : (fault : Refusal) → IsRefusedAt q limits sections written (λ given later at section. HasSectionCause q limits given later at section fault) → SaysOfDag q d sections fault
    at_says fault h = by h.cause
      where
        of_all : CollisionPair (h.taken ++ h.section ∷ []) d → CollisionPair sections d
        of_all pair = subst (λ (all : List Section). CollisionPair all d) (sym h.received) pair

        by : HasSectionCause q limits h.up_to.given h.up_to.later h.at h.section fault → SaysOfDag q d sections fault
        by (inl receipt) = receipt_says h.at h.section fault receipt
        by (inr (wanted, place)) =
            let given = h.up_to.given in
            let sends : is_sent_behind q h.taken h.section.cid ≡ true = ap (is_sent_behind q h.taken) wanted.same ∙ h.up_to.sends in
            let known : IsKnown q h.taken h.section = subst (λ (test : Bool). IsKnownIf test h.taken h.section) (sym sends) tt in
            let here : Verified q h.taken given (open_block h.at.want h.section.cid ∷ h.up_to.later) =
            subst (λ (cid : CidParts). Verified q h.taken given (open_block h.at.want cid ∷ h.up_to.later)) (sym wanted.same) h.up_to.verified in
            let taken_is : taken_as q h.taken h.section ≡ h.taken ++ h.section ∷ [] = ap (λ (test : Bool). taken_if test h.taken h.section) sends in
            place_says h.taken given h.at h.up_to.later h.section h.are_bytes wanted.block.named known here
            (pair_more v.pair_of_some h.taken sections (h.section ∷ []) d h.received)
            (λ pair. of_all (subst (λ (all : List Section). CollisionPair all d) taken_is pair))
            (λ pair. of_all (v.pair_of_some (h.section ∷ []) (h.taken ++ h.section ∷ []) d (Contains-append_right h.taken (h.section ∷ [])) pair))
            fault place

    -- a block was refused that no section brings

    behind_front : (fault : Refusal) → IsRefusedBehind q limits sections written fault → IsItsFront q d sections written
    behind_front fault h = subst (λ (out : List ℕ). IsItsFront q d sections out) (sym h.text) (given_front v p q d sound root sections h.given h.at.want h.at.cid h.later h.verified)

    behind_says : (fault : Refusal) → IsRefusedBehind q limits sections written fault → SaysOfDag q d sections fault
    behind_says fault h =
        let unsent : is_sent_behind q sections h.section.cid ≡ false = ap (is_sent_behind q sections) h.same ∙ h.known in
        let known : IsKnown q sections h.section = subst (λ (test : Bool). IsKnownIf test sections h.section) (sym unsent) h.had in
        let here : Verified q sections h.given (open_block h.at.want h.section.cid ∷ h.later) =
        subst (λ (cid : CidParts). Verified q sections h.given (open_block h.at.want cid ∷ h.later)) (sym h.same) h.verified in
        let taken_is : taken_as q sections h.section ≡ sections = ap (λ (test : Bool). taken_if test sections h.section) unsent in
        place_says sections h.given h.at h.later h.section h.is_named.are_bytes h.is_named.named known here
        (λ pair. pair)
        (λ pair. subst (λ (all : List Section). CollisionPair all d) taken_is pair)
        (λ pair. v.pair_had (h.section ∷ []) sections d (λ one held. subst (IsHad sections) (only_one h.section one held) h.had) pair)
        fault h.cause

    either : (fault : Refusal)
        → IsRefusedAt q limits sections written (λ given later at section. HasSectionCause q limits given later at section fault) ⊎ IsRefusedBehind q limits sections written fault
        → IsItsFront q d sections written × SaysOfDag q d sections fault
    either fault (inl h) = (at_front _ h, at_says fault h)
    either fault (inr h) = (behind_front fault h, behind_says fault h)

    pub refused_sound : (fault : Refusal) → HasRefused q limits sections written fault → IsItsFront q d sections written × SaysOfDag q d sections fault
    refused_sound (refusals.Extra number) h = (
      or_pair_more v.pair_of_some (IsFrontOfAnswer written (answer q d)) h.taken sections (h.section ∷ []) d h.received
          (answer_front q d h.taken written (through_sound v p q d sound root h.taken written h.through)),
      tt,
    )
    refused_sound (refusals.Limit kind number) h = either (refusals.Limit kind number) h
    refused_sound (refusals.BadDigest cid) h = either (refusals.BadDigest cid) h
    refused_sound (refusals.WrongBlock want got) h = either (refusals.WrongBlock want got) h
    refused_sound (refusals.BadBlock cid fault) h = either (refusals.BadBlock cid fault) h
    refused_sound (refusals.BadSize declared actual) h = either (refusals.BadSize declared actual) h
    refused_sound (refusals.NotFolder segment) h = (
      nowhere_front v p q d sound root sections written (no_directory segment) h,
      no_directory_says v p q d sound root sections written segment h,
    )
    refused_sound (refusals.NotThere segment) h = (
      nowhere_front v p q d sound root sections written (no_entry segment) h,
      no_entry_says v p q d sound root sections written segment h,
    )
    refused_sound refusals.SinkFault h = (written_front v p q d sound root sections written h, tt)
    refused_sound (refusals.Truncated want number) (at, e, h) = (up_to_sound v p q d sound root sections written at h.up_to, tt)
    refused_sound refusals.OutOfMemory (inl h) = (at_front _ h, tt)
    refused_sound refusals.OutOfMemory (inr (inl h)) = (behind_front refusals.OutOfMemory h, tt)
    refused_sound refusals.OutOfMemory (inr (inr h)) = (unlisted_front v p q d sound root sections written h, tt)
