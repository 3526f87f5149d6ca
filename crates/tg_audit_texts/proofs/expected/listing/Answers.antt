use Rattle.sha2.specs.Sha256.{sha256}
use Rattle.std.proofs.Common.{List, [], ap, arith, length, ℕ, ◌<◌, ◌∙◌, ◌≡◌}
use Rattle.std.proofs.lemmas.List.{take_all}
use Rattle.std.specs.Prelude.{map}
use Rattle.tg_audit_texts.proofs.NextFiles.{lines_more, named_at}
use Rattle.tg_audit_texts.proofs.expected.listing.Goals as goal
use Rattle.tg_audit_texts.specs.Expected.{named_from, raw_cid_of}
use Rattle.tg_cid.specs.Cid.{CidParts}
use Rattle.tg_draws.specs.Trees.{file_name}
use Rattle.tg_listing.specs.Listings.{line_of}

pub loop-number-preserved : goal.loop-number-preserved
loop-number-preserved c =
    let many = c.args.many.now in
    let i = c.loop-number.number in
    let bytes = c.index-many-number.result in
    let inside : i < length many = omega arith in
    let cid : c.of_block.result ≡ raw_cid_of (sha256 bytes) = c.of_block.ensures.parts ∙ ap (λ (b : List ℕ). raw_cid_of (sha256 b)) c.as_slice.ensures in
    let line : c.in_ok-of.field-0 ≡ line_of (named_at i bytes) =
    c.in_ok-of.ensures
    ∙ ap (λ (name : List ℕ). line_of (record { name = name; cid = c.of_block.result })) c.in_ok-file_name.ensures
    ∙ ap (λ (x : CidParts). line_of (record { name = file_name i; cid = x })) cid in
    c.in_ok-push.ensures.ok ∙ lines_more many i bytes c.loop-number.lines c.in_ok-of.field-0 inside c.index-many-number.is line c.loop-number.invariant

pub returns-in-Ok : goal.returns-in-Ok
returns-in-Ok c =
    let many = c.args.many.now in
    let same : c.loop-number.lines ≡ map line_of (named_from 0 many) =
    c.loop-number.invariant ∙ ap (λ (files : List (List ℕ)). map line_of (named_from 0 files)) (take_all c.loop-number.number many (omega arith)) in
    c.hashed.ensures _ ((c.in-Ok.ensures.put (named_from 0 many) same).moved [] c.new-hashing.ensures)
