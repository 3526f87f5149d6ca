-- What stands before a block in its section is the same for each block of its size.
use Rattle.std.proofs.Common.{All, List, ap, append_assoc, length, sym, ℕ, ◌++◌, ◌<◌, ◌∙◌, ◌≡◌, arith}
use Rattle.std.proofs.lemmas.List.{append_cancel_right, length-append, length-replicate}
use Rattle.std.proofs.lemmas.List.Elements.{All-replicate}
use Rattle.std.specs.Prelude.{replicate}
use Rattle.tg_cid.specs.Cid.{CidParts}
use Rattle.tg_reply.specs.CarBytes.{cid_bytes, section_bytes}
use Rattle.tg_varint.specs.Computed.{varint}

-- what stands before a block is the length and the CID
front_is : (cid : CidParts) (front zeros : List ℕ) → front ++ zeros ≡ section_bytes (record { cid = cid; block = zeros })
    → front ≡ varint (length (cid_bytes cid ++ zeros)) ++ cid_bytes cid
front_is cid front zeros e =
    let number = varint (length (cid_bytes cid ++ zeros)) in
    append_cancel_right front (number ++ cid_bytes cid) zeros (e ∙ sym (append_assoc number (cid_bytes cid) zeros))

-- so it stands before any block of a size, where it stands before those of bytes, as the zeros
pub front_of_any : (cid : CidParts) (size : ℕ) (front : List ℕ)
    → ((block : List ℕ) → length block ≡ size → All (λ b. b < 256) block → front ++ block ≡ section_bytes (record { cid = cid; block = block }))
    → (block : List ℕ) → length block ≡ size → front ++ block ≡ section_bytes (record { cid = cid; block = block })
front_of_any cid size front told block h =
    let zeros = replicate {A = ℕ} size 0 in
    let count = length-replicate {A = ℕ} size 0 in
    let e = told zeros count (All-replicate (λ (b : ℕ). b < 256) size 0 (omega arith)) in
    let sizes : length (cid_bytes cid ++ zeros) ≡ length (cid_bytes cid ++ block) =
    omega (arith, length-append (cid_bytes cid) zeros, length-append (cid_bytes cid) block, count, h) in
    ap (λ (l : List ℕ). l ++ block) (front_is cid front zeros e)
    ∙ append_assoc (varint (length (cid_bytes cid ++ zeros))) (cid_bytes cid) block
    ∙ ap (λ (n : ℕ). varint n ++ (cid_bytes cid ++ block)) sizes
