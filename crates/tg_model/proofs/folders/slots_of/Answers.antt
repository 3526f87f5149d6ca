use Rattle.tg_model.specs.declared.fault.BlockFault.TheVariants as faults
use Rattle.std.proofs.Common.{Err, inl, ◌≡◌, ℕ, ◌+◌, ◌<◌, suc, subst, List, [], ◌∷◌, ◌++◌, length, get_or, ap, sym, ◌∙◌, length-append, arith}
use Rattle.tg_cid.specs.Cid.{CidParts}
use Rattle.tg_dagpb.specs.Cursor.{link_of}
use Rattle.tg_dagpb.specs.declared.Link.{Link}
use Rattle.tg_model.proofs.NameLemmas.{slots_bad, slots_behind, slots_more}
use Rattle.tg_model.specs.Computed.{has_digits, slot_at, slots_from}
use Rattle.tg_model.specs.PlacedSteps.{block_cids, block_links}
use Rattle.tg_model.proofs.Ahead.{CidsLeft}
use Rattle.tg_model.specs.declared.kinds.Slot.{Slot}
use Rattle.tg_model.proofs.folders.slots_of.Goals as goal

pub returns-then-not-has_digits : goal.returns-then-not-has_digits
returns-then-not-has_digits c =
    let numbers = c.args.numbers.now in
    let front = c.loop-link.slots in
    let link = link_of c.in-Some.link in
    let left = c.loop-link.invariant in
    let next = c.in-Some.ensures.next left.links left.cids left.ahead in
    let longer : length left.links ≡ suc (length next.more_links) = ap (λ (links : List Link). length links) next.links_are in
    let within : length front < length numbers = omega (arith, left.so_far.0) in
    let digits = ap (λ (slots : List Slot). has_digits (get_or numbers (length slots) 0) link) (sym c.as_slice-index.ensures) ∙ sym c.has_digits.ensures ∙ c.if-not-has_digits.true in
    let bad = slots_bad front numbers left.links next.more_links left.cids next.more_cids link c.in-Some.cid within next.links_are next.cids_are digits in
    inl (sym (left.so_far.1 ∙ bad ∙ ap (λ (slots : List Slot). Err (faults.BadSlot (length slots))) (sym c.as_slice-index.ensures)))

pub loop-link-preserved : goal.loop-link-preserved
loop-link-preserved c =
    let numbers = c.args.numbers.now in
    let front = c.loop-link.slots in
    let link = link_of c.in-Some.link in
    let left = c.loop-link.invariant in
    let next = c.in-Some.ensures.next left.links left.cids left.ahead in
    let longer : length left.links ≡ suc (length next.more_links) = ap (λ (links : List Link). length links) next.links_are in
    let within : length front < length numbers = omega (arith, left.so_far.0) in
    let digits = ap (λ (slots : List Slot). has_digits (get_or numbers (length slots) 0) link) (sym c.as_slice-index.ensures) ∙ sym c.has_digits.ensures ∙ c.if-not-has_digits.false in
    let slot = slot_at (get_or numbers (length front) 0) link c.in-Some.cid in
    let more = slots_more front numbers left.links next.more_links left.cids next.more_cids link c.in-Some.cid within next.links_are next.cids_are digits in
    let slot_is : c.in_ok-slot_at.field-0 ≡ slot_at (get_or numbers (length c.as_slice-index.result.now) 0) link c.in-Some.cid =
    c.in_ok-slot_at.ensures ∙ ap (λ (cid : CidParts). slot_at (get_or numbers (length c.as_slice-index.result.now) 0) link cid) (cc) in
    let joined : front ++ slot ∷ [] ≡ c.push.new.self =
    ap (λ (slots : List Slot). front ++ slot_at (get_or numbers (length slots) 0) link c.in-Some.cid ∷ []) (sym c.as_slice-index.ensures)
    ∙ ap (λ (slot : Slot). front ++ slot ∷ []) (sym slot_is) ∙ sym c.in_ok-push.ensures.ok in
    let grown : length c.push.new.self ≡ length front + 1 = ap (λ (slots : List Slot). length slots) (sym joined) ∙ length-append front (slot ∷ []) in
    subst (λ (at : ℕ). CidsLeft c.args.block.now at (λ links cids. (length numbers ≡ length c.push.new.self + length links)
    × (slots_from 0 numbers (block_links c.args.block.now) (block_cids c.args.block.now) ≡ slots_behind c.push.new.self numbers links cids))) (cc) (record {
      links = next.more_links;
      cids = next.more_cids;
      ahead = next.ahead;
      so_far = (omega (arith, left.so_far.0), left.so_far.1 ∙ more ∙ ap (λ (slots : List Slot). slots_behind slots numbers next.more_links next.more_cids) joined);
    })
