use Rattle.std.proofs.Common.{All, arith, ℕ, ◌<◌}
use Rattle.std.proofs.lemmas.List.Elements.{All-from_get_or}
use Rattle.tg_audit_texts.proofs.SummaryTexts.{raw_spelled}
use Rattle.tg_audit_texts.proofs.summary.raw_cid.Goals as goal
use Rattle.tg_audit_texts.specs.Expected.{raw_cid_of}

pub unreachable-requires : goal.unreachable-requires
unreachable-requires c =
    let digest = c.args.digest.now in
    let are : All (λ (b : ℕ). b < 256) digest = All-from_get_or (λ b. b < 256) digest 0 (λ i l. omega (arith, c.fits-digest i)) in
    let same = c.from_bytes.ensures.only (raw_cid_of digest)
    (raw_spelled digest c.fill_both.new.room c.told-digest are c.computes.ensures.cid c.fill_both.ensures) in
    absurd (cc)

pub returns : goal.returns
returns c =
    let digest = c.args.digest.now in
    let are : All (λ (b : ℕ). b < 256) digest = All-from_get_or (λ b. b < 256) digest 0 (λ i l. omega (arith, c.fits-digest i)) in
    let same = c.from_bytes.ensures.only (raw_cid_of digest)
    (raw_spelled digest c.fill_both.new.room c.told-digest are c.computes.ensures.cid c.fill_both.ensures) in
    cc
