-- No front of sections that fit, that are in progress, or that are a sound DAG's own, is refused for what it is.
use Rattle.std.proofs.Common.{◌≡◌, ◌⊎◌, ◌<◌, ◌≤◌, ◌++◌, ◌∷◌, ℕ, Bool, true, false, All, List, None, Ok}
use Rattle.std.proofs.Common.{Option, Some, [], inl, inr, length, map, refl, sym, ap, ◌∙◌, append_assoc, subst, arith}
use Rattle.tg_cid.specs.Cid.{CidParts}
use Rattle.tg_cid.specs.Names.{Names}
use Rattle.tg_traversal.specs.Left.{WantedAt}
use Rattle.tg_model.specs.Computed.{read}
use Rattle.tg_model.specs.Counts.{counts, greatest}
use Rattle.tg_model.specs.Dag.{Dag, Section, links_of}
use Rattle.tg_model.specs.LimitNumbers.{AreWithin, LimitNumbers}
use Rattle.tg_model.specs.PathWalk.{TraversalEnd, stopped}
use Rattle.tg_model.specs.Queries.{QueryParts}
use Rattle.tg_model.specs.Traversal.{Place, Traversal, block_list, is_sent_behind, traversal}
use Rattle.tg_model.specs.declared.kinds.Kind.{Kind}
use Rattle.tg_model.specs.declared.limits.LimitKind.TheVariants as kinds
use Rattle.tg_model.specs.declared.limits.LimitKind.{LimitKind}
use Rattle.tg_model_laws.specs.SentSections.{taken_as, taken_if}
use Rattle.tg_model_laws.specs.BesideSound.{BesideLaws, Passes, PassesIf}
use Rattle.tg_model_laws.specs.TakenBlocks.{IsReadAt}
use Rattle.tg_model_laws.specs.Stages.{Given, place_of, up_to_next, with_place}
use Rattle.tg_model_laws.specs.Tasks.{Miss, Task, Want, depth_of, is_read_at, no_directory, no_entry, open_block, position_of, stop_of, tasks_of, tasks_then, text_at}
use Rattle.tg_model_laws.specs.Verified.{AreSettled, IsHad, IsKnown, IsKnownIf, IsOther, Verified, VerifiedLaws, WantsNext}
use Rattle.tg_verify.proofs.Endings.{none_settled, place_settled}
use Rattle.tg_verify.proofs.Fronts.{greatest_at}
use Rattle.tg_verify.proofs.Limits.{not_passed, within_both}
use Rattle.tg_verify.proofs.Misread.{Computes, bad_isnt_read, missized_isnt_read}
use Rattle.tg_verify.specs.Counting.{counts_given}
use Rattle.tg_verify.specs.Laws.{IsMissOf, IsOwnFault, IsWithinLimits}
use Rattle.tg_verify.specs.Opening.{PassesAs, given_with}
use Rattle.tg_verify.specs.Refusals.{HasPlaceCause, HasReceiptCause, HasRefused, HasSectionCause, IsBadBlock, IsMissized, IsOver, IsRefusedAt, IsRefusedBehind}
use Rattle.tg_verify.specs.Taken.{IsNowhere}
use Rattle.tg_verify.specs.WantsLaws.{none_next}
use Rattle.tg_verify.specs.declared.fault.Refusal.{Refusal}
use Rattle.tg_verify.specs.declared.fault.Refusal.TheVariants as refusals

-- ---- a section that passes

is_named : (test : Bool) (w : Want) (section : Section) → PassesIf test w section → Names section.cid section.block
is_named true w section (kind, here) = here.named
is_named false w section named = named

is_read : (test : Bool) (w : Want) (section : Section) → test ≡ true → PassesIf test w section → (kind : Kind) × IsReadAt (position_of w) section kind
is_read true w section e h = h
is_read false w section e h = absurd (cc e)

-- the wanted section, and how it passes
record IsWantedNext (q : QueryParts) (at : WantedAt) (section : Section) : Type 0 where
  pub same : section.cid ≡ at.cid
  pub passes : Passes q at.want section

wants_next : (q : QueryParts) (at : WantedAt) (later : List (Task CidParts)) (section : Section) → WantsNext q (open_block at.want at.cid ∷ later) section → IsWantedNext q at section
wants_next q at later section h =
    let e = h.then_is in
    let want : h.want ≡ at.want = cc in
    record { same = cc; passes = subst (λ (w : Want). Passes q w section) want h.passes }

-- a traversal ends at a segment that leads nowhere, and this is its refusal
pub record IsEndOf (end : TraversalEnd) (fault : Refusal) : Type 0 where
  pub miss : Miss
  pub ends : end ≡ stopped (stop_of miss)
  pub is_miss : IsMissOf miss fault

none_ends : (end : TraversalEnd) (fault : Refusal) → ((miss : Miss) → end ≡ stopped (stop_of miss) → ⊥) → IsEndOf end fault ⊎ IsOwnFault fault → IsOwnFault fault
none_ends end fault on (inl h) = absurd (on h.miss h.ends)
none_ends end fault on (inr own) = own

-- ---- of a checked DAG with the query's root whose counts are within the limits: of its sections the next one passes where
-- a block is sent, and the one that was received where none is

module _ (v : VerifiedLaws) (b : BesideLaws) (computes : Computes) (q : QueryParts) (limits : LimitNumbers) (d : Dag) (other : IsOther q d) (within : IsWithinLimits q limits d)
    (wants : (front rest : List Section) (next : Section) (given : Given) (tasks : List (Task CidParts)) → AreSettled q front tasks → block_list q d ≡ front ++ next ∷ rest
    → Verified q front given tasks → WantsNext q tasks next)
    (again : (front rest : List Section) (known : Section) (given : Given) (w : Want) (tasks : List (Task CidParts)) → is_sent_behind q front known.cid ≡ false → IsHad front known
    → block_list q d ≡ front ++ rest → Verified q front given (open_block w known.cid ∷ tasks) → Passes q w known) where
  -- what was given counts no more than the DAG
  counts_no_more : (front rest : List Section) (given : Given) (tasks : List (Task CidParts)) → block_list q d ≡ front ++ rest → Verified q front given tasks
      → AreWithin limits (counts_given q given)
  counts_no_more front rest given tasks list h =
      let (more, opened) = h.opens d rest other list in
      within_both limits (counts q d) (counts_given q given) within (b.counted q d given tasks (h.beside d more other.checked other.root opened))

  -- ---- a block that passes at its place

  module _ (front rest : List Section) (given : Given) (at : WantedAt) (later : List (Task CidParts)) (section : Section) (bytes : All (λ b. b < 256) section.block)
      (passes : Passes q at.want section) (known : IsKnown q front section) (here : Verified q front given (open_block at.want section.cid ∷ later))
      (list : block_list q d ≡ taken_as q front section ++ rest) where
    -- with it, up to the next place
    is_counted : (text : List ℕ) (tasks : List (Task CidParts)) → Verified q (taken_as q front section) (with_place at.want section text given) tasks
        → AreWithin limits (counts_given q (up_to_next tasks (with_place at.want section text given)))
    is_counted text tasks h =
        let placed = with_place at.want section text given in
        counts_no_more (taken_as q front section) rest (up_to_next tasks placed) (tasks_then tasks) list (v.up_to_next q (taken_as q front section) placed tasks h)

    with_kind : (kind : Option Kind) → PassesAs q limits at section kind → AreWithin limits (counts_given q (given_with q given later at section kind))
    with_kind None (shallow, e) = is_counted section.block later (v.alone q front given at.want section later known e (is_named _ at.want section passes) here)
    with_kind (Some kind) (block, size) =
        let (found, there) = is_read _ at.want section block.is_read passes in
        let found_is : read section.cid section.block ≡ Ok found = (computes section.cid section.block found bytes).1 there.reads in
        let reads = block.reads in
        let same : found ≡ kind = cc in
        is_counted (text_at q at.want section kind) (tasks_of q at.want section kind (links_of kind) ++ later)
        (v.taken q front given at.want section kind later known block.is_read (subst (λ (k : Kind). IsReadAt (position_of at.want) section k) same there) here)

    -- its place is one of the DAG's
    deep_by : (text : List ℕ) (tasks : List (Task CidParts)) → Verified q (taken_as q front section) (with_place at.want section text given) tasks → depth_of at.want ≤ limits.depth
    deep_by text tasks h =
        let here : depth_of at.want ≤ greatest (map (λ (p : Place). p.depth) (given.places ++ place_of at.want section ∷ [])) =
        greatest_at (λ (p : Place). p.depth) given.places [] (place_of at.want section) in
        let most : AreWithin limits (counts_given q (with_place at.want section text given)) =
        counts_no_more (taken_as q front section) rest (with_place at.want section text given) tasks list h in
        let depth : greatest (map (λ (p : Place). p.depth) (given.places ++ place_of at.want section ∷ [])) ≤ limits.depth = most.depth in
        omega (arith, here, depth)

    is_shallow : (test : Bool) → is_read_at q at.want ≡ test → PassesIf test at.want section → depth_of at.want ≤ limits.depth
    is_shallow true e (kind, there) = deep_by _ _ (v.taken q front given at.want section kind later known e there here)
    is_shallow false e named = deep_by _ _ (v.alone q front given at.want section later known e named here)

    -- so it isn't refused there
    not_over : (limit : LimitKind) (number : ℕ) → IsOver q limits given later at section limit number → ⊥
    not_over limit number h = not_passed limits _ limit (with_kind h.kind h.passes) h.over

    not_misread : is_read_at q at.want ≡ true → ((kind : Kind) → IsReadAt (position_of at.want) section kind → ⊥) → ⊥
    not_misread e bad = let (kind, there) = is_read _ at.want section e passes in bad kind there

    no_place_cause : (fault : Refusal) → HasPlaceCause q limits given later at section fault → IsOwnFault fault
    no_place_cause (refusals.Extra number) h = absurd h
    no_place_cause (refusals.Limit kinds.Block number) h = absurd h
    no_place_cause (refusals.Limit kinds.Depth number) h =
        let shallow = is_shallow (is_read_at q at.want) refl passes in
        let deep = h.deep in
        let number_is = h.number_is in
        absurd (omega (arith, shallow, deep, number_is))
    no_place_cause (refusals.Limit kinds.Entries number) h = absurd (not_over kinds.Entries number h)
    no_place_cause (refusals.Limit kinds.Names number) h = absurd (not_over kinds.Names number h)
    no_place_cause (refusals.Limit kinds.Received number) h = absurd h
    no_place_cause (refusals.Limit kinds.Output number) h = absurd (not_over kinds.Output number h)
    no_place_cause (refusals.Limit kinds.SeenBlocks number) h = absurd (not_over kinds.SeenBlocks number h)
    no_place_cause (refusals.Limit kinds.SeenBytes number) h = absurd (not_over kinds.SeenBytes number h)
    no_place_cause (refusals.Limit kinds.Reused number) h = absurd (not_over kinds.Reused number h)
    no_place_cause (refusals.BadDigest cid) h = absurd h
    no_place_cause (refusals.WrongBlock want got) h = absurd h
    no_place_cause (refusals.BadBlock cid fault) h =
        let cause : IsBadBlock q limits at section fault = h.1 in
        not_misread cause.is_read (bad_isnt_read computes q limits at section bytes fault cause)
    no_place_cause (refusals.BadSize declared actual) h =
        let cause : IsMissized q limits at section (record { declared = declared; actual = actual }) = h in
        not_misread cause.block.is_read (missized_isnt_read computes q limits at section bytes _ cause)
    no_place_cause (refusals.NotFolder segment) h = absurd h
    no_place_cause (refusals.NotThere segment) h = absurd h
    no_place_cause refusals.SinkFault h = absurd h
    no_place_cause (refusals.Truncated want number) h = absurd h
    no_place_cause refusals.OutOfMemory h = tt

  -- ---- a section that is the wanted one

  no_receipt_cause : (at : WantedAt) (section : Section) → length section.block ≤ limits.block → IsWantedNext q at section → (fault : Refusal) → HasReceiptCause limits at section fault
      → IsOwnFault fault
  no_receipt_cause at section small next (refusals.Extra number) h = absurd h
  no_receipt_cause at section small next (refusals.Limit kinds.Block number) h =
      let large = h.large in
      let number_is = h.number_is in
      absurd (omega (arith, small, large, number_is))
  no_receipt_cause at section small next (refusals.Limit kinds.Depth number) h = absurd h
  no_receipt_cause at section small next (refusals.Limit kinds.Entries number) h = absurd h
  no_receipt_cause at section small next (refusals.Limit kinds.Names number) h = absurd h
  no_receipt_cause at section small next (refusals.Limit kinds.Received number) h = absurd h
  no_receipt_cause at section small next (refusals.Limit kinds.Output number) h = absurd h
  no_receipt_cause at section small next (refusals.Limit kinds.SeenBlocks number) h = absurd h
  no_receipt_cause at section small next (refusals.Limit kinds.SeenBytes number) h = absurd h
  no_receipt_cause at section small next (refusals.Limit kinds.Reused number) h = absurd h
  no_receipt_cause at section small next (refusals.BadDigest cid) h = h.1.misnamed (is_named _ at.want section next.passes)
  no_receipt_cause at section small next (refusals.WrongBlock want got) h = h.2.other next.same
  no_receipt_cause at section small next (refusals.BadBlock cid fault) h = absurd h
  no_receipt_cause at section small next (refusals.BadSize declared actual) h = absurd h
  no_receipt_cause at section small next (refusals.NotFolder segment) h = absurd h
  no_receipt_cause at section small next (refusals.NotThere segment) h = absurd h
  no_receipt_cause at section small next refusals.SinkFault h = absurd h
  no_receipt_cause at section small next (refusals.Truncated want number) h = absurd h
  no_receipt_cause at section small next refusals.OutOfMemory h = absurd h

  -- ---- of a front of the sections

  module _ (sections rest : List Section) (list : block_list q d ≡ sections ++ rest) (written : List ℕ) where
    -- its last one
    last_of : (taken : List Section) (section : Section) → sections ≡ taken ++ section ∷ [] → block_list q d ≡ taken ++ section ∷ rest
    last_of taken section e = list ∙ ap (λ (some : List Section). some ++ rest) e ∙ append_assoc taken (section ∷ []) rest

    refused_at : (fault : Refusal) → IsRefusedAt q limits sections written (λ given later at section. HasSectionCause q limits given later at section fault) → IsOwnFault fault
    refused_at fault h = by h.cause
      where
        given : Given
        given = h.up_to.given

        tasks : List (Task CidParts)
        tasks = open_block h.at.want h.at.cid ∷ h.up_to.later

        next : IsWantedNext q h.at h.section
        next = wants_next q h.at h.up_to.later h.section
            (wants h.taken rest h.section given tasks (place_settled q h.taken h.at.want h.at.cid h.up_to.later h.up_to.sends) (last_of h.taken h.section h.received) h.up_to.verified)

        sends : is_sent_behind q h.taken h.section.cid ≡ true
        sends = ap (is_sent_behind q h.taken) next.same ∙ h.up_to.sends

        known : IsKnown q h.taken h.section
        known = subst (λ (test : Bool). IsKnownIf test h.taken h.section) (sym sends) tt

        here : Verified q h.taken given (open_block h.at.want h.section.cid ∷ h.up_to.later)
        here = subst (λ (cid : CidParts). Verified q h.taken given (open_block h.at.want cid ∷ h.up_to.later)) (sym next.same) h.up_to.verified

        whole : block_list q d ≡ taken_as q h.taken h.section ++ rest
        whole = list ∙ ap (λ (some : List Section). some ++ rest) (h.received ∙ ap (λ (test : Bool). taken_if test h.taken h.section) (sym sends))

        -- no section is larger than the limit
        small : length h.section.block ≤ limits.block
        small =
            let size = λ (one : Section). length one.block in
            let least : length h.section.block ≤ greatest (map size (h.taken ++ h.section ∷ rest)) = greatest_at size h.taken rest h.section in
            let same : greatest (map size (block_list q d)) ≡ greatest (map size (h.taken ++ h.section ∷ rest)) =
            ap (λ (all : List Section). greatest (map size all)) (last_of h.taken h.section h.received) in
            let most : greatest (map size (block_list q d)) ≤ limits.block = within.block in
            omega (arith, least, same, most)

        by : HasSectionCause q limits given h.up_to.later h.at h.section fault → IsOwnFault fault
        by (inl receipt) = no_receipt_cause h.at h.section small next fault receipt
        by (inr (wanted, place)) = no_place_cause h.taken rest given h.at h.up_to.later h.section h.are_bytes next.passes known here whole fault place

    refused_behind : (fault : Refusal) → IsRefusedBehind q limits sections written fault → IsOwnFault fault
    refused_behind fault h =
        let unsent : is_sent_behind q sections h.section.cid ≡ false = ap (is_sent_behind q sections) h.same ∙ h.known in
        let known : IsKnown q sections h.section = subst (λ (test : Bool). IsKnownIf test sections h.section) (sym unsent) h.had in
        let here : Verified q sections h.given (open_block h.at.want h.section.cid ∷ h.later) =
        subst (λ (cid : CidParts). Verified q sections h.given (open_block h.at.want cid ∷ h.later)) (sym h.same) h.verified in
        let passes : Passes q h.at.want h.section = again sections rest h.section h.given h.at.want h.later unsent h.had list here in
        let whole : block_list q d ≡ taken_as q sections h.section ++ rest =
        list ∙ ap (λ (test : Bool). taken_if test sections h.section ++ rest) (sym unsent) in
        no_place_cause sections rest h.given h.at h.later h.section h.is_named.are_bytes passes known here whole fault h.cause

    -- a segment that leads nowhere is where the traversal ends
    leads : (miss : Miss) → IsNowhere q limits sections written miss → (traversal q d).end ≡ stopped (stop_of miss)
    leads miss h =
        let (more, opened) = h.verified.opens d rest other list in
        ap (λ (t : Traversal). t.end) (b.miss q d h.given miss h.later (h.verified.beside d more other.checked other.root opened))

    either : (fault : Refusal)
        → IsRefusedAt q limits sections written (λ given later at section. HasSectionCause q limits given later at section fault) ⊎ IsRefusedBehind q limits sections written fault
        → IsOwnFault fault
    either fault (inl h) = refused_at fault h
    either fault (inr h) = refused_behind fault h

    -- it is the verifier's own, or the refusal of that segment
    pub is_end_or_own : (fault : Refusal) → HasRefused q limits sections written fault → IsEndOf (traversal q d).end fault ⊎ IsOwnFault fault
    is_end_or_own (refusals.Extra number) h =
        inr (none_next q h.section (wants h.taken rest h.section h.through.given [] (none_settled q h.taken) (last_of h.taken h.section h.received) h.through.verified))
    is_end_or_own (refusals.Limit kind number) h = inr (either (refusals.Limit kind number) h)
    is_end_or_own (refusals.BadDigest cid) h = inr (either (refusals.BadDigest cid) h)
    is_end_or_own (refusals.WrongBlock want got) h = inr (either (refusals.WrongBlock want got) h)
    is_end_or_own (refusals.BadBlock cid fault) h = inr (either (refusals.BadBlock cid fault) h)
    is_end_or_own (refusals.BadSize declared actual) h = inr (either (refusals.BadSize declared actual) h)
    is_end_or_own (refusals.NotFolder segment) h = inl (record { miss = no_directory segment; ends = leads (no_directory segment) h; is_miss = refl })
    is_end_or_own (refusals.NotThere segment) h = inl (record { miss = no_entry segment; ends = leads (no_entry segment) h; is_miss = refl })
    is_end_or_own refusals.SinkFault h = inr tt
    is_end_or_own (refusals.Truncated want number) h = inr tt
    is_end_or_own refusals.OutOfMemory h = inr tt

    -- where the traversal ends at no segment
    pub is_own_fault : ((miss : Miss) → (traversal q d).end ≡ stopped (stop_of miss) → ⊥) → (fault : Refusal) → HasRefused q limits sections written fault → IsOwnFault fault
    is_own_fault on fault h = none_ends (traversal q d).end fault on (is_end_or_own fault h)
