use Rattle.std.proofs.Common.{◌≡◌, ◌+◌, ◌-◌, ◌^◌, ◌&&◌, ◌==◌, Bool, false, true, ℕ, lit≤, Ok, Err, Result, length, min, not, sum, eq-eqb, sym, ap, ap₂, ◌∙◌, subst}
use Rattle.std.proofs.lemmas.Bool.{and_left, and_right, ne_eqb}
use Rattle.tg_model.proofs.LinkCids.{cids_count}
use Rattle.tg_model.proofs.PlacedAnswers.{bad_shape, big_total, small_total, file_at, good_shape, huge_sizes, lie_length, other_sizes, stands_fault}
use Rattle.tg_model.specs.Computed.{file_kind}
use Rattle.tg_model.specs.Placed.{StandsForAnswer}
use Rattle.tg_model.specs.PlacedSteps.{block_cids, block_links, data_unix}
use Rattle.tg_model.specs.Reading.{inline_of}
use Rattle.tg_model.specs.declared.fault.BlockFault.{BlockFault}
use Rattle.tg_model.specs.declared.fault.BlockFault.TheVariants as faults
use Rattle.tg_model.specs.declared.kinds.Kind.{Kind}
use Rattle.tg_model.specs.declared.placed.PlacedKind.TheVariants as placed
use Rattle.tg_model.proofs.placed.file_kind.Goals as goal
use Rattle.tg_model.proofs.placed.file_kind.Goals.{else-unix-eq0-via-then-unix-eq0+else-links-ne0, else-unix-eq0-via-else-unix-eq0}

pub returns-then-sizes-links : goal.returns-then-sizes-links
returns-then-sizes-links c =
    let block = c.args.block.now in
    let unix = data_unix block c.args.places in
    let cids : length (block_links block) ≡ length (block_cids block) = cids_count (block_links block) (block_cids block) c.requires.ahead.cids_are in
    let links : length (block_cids block) ≡ c.args.links = sym cids ∙ sym c.requires.links in
    let sizes : length unix.sizes ≡ c.sizes_of-sizes.result.0 = sym c.sizes_of-sizes.ensures.count in
    let other = other_sizes (block_cids block) unix (λ e. c.if-sizes-links.true (sym sizes ∙ e ∙ links)) in
    stands_fault block (faults.BadSizes c.args.links c.sizes_of-sizes.result.0) (file_kind (block_cids block) unix)
    (other ∙ ap₂ (λ (a b : ℕ). Err (faults.BadSizes a b)) links sizes)

pub returns-then-total : goal.returns-then-total
returns-then-total c =
    let block = c.args.block.now in
    let unix = data_unix block c.args.places in
    let cids : length (block_links block) ≡ length (block_cids block) = cids_count (block_links block) (block_cids block) c.requires.ahead.cids_are in
    let many : length unix.sizes ≡ length (block_cids block) = sym c.sizes_of-sizes.ensures.count ∙ c.if-sizes-links.false ∙ c.requires.links ∙ cids in
    let inline = lie_length block c.inline_at-inline.result (inline_of unix) c.inline_at-inline.ensures in
    let total : c.sizes_of-sizes.result.1 ≡ min (length (inline_of unix) + sum unix.sizes) (2 ^ 128 - 1) =
    c.sizes_of-sizes.ensures.total ∙ ap (λ (n : ℕ). min (n + sum unix.sizes) (2 ^ 128 - 1)) inline in
    stands_fault block faults.HugeSizes (file_kind (block_cids block) unix) (huge_sizes (block_cids block) unix many
    (big_total c.sizes_of-sizes.result.1 (length (inline_of unix) + sum unix.sizes) (2 ^ 128 - 1) (2 ^ 63) total c.if-total.true))

pub returns-then-links-ne0 : goal.returns-then-links-ne0
returns-then-links-ne0 c =
    let block = c.args.block.now in
    let unix = data_unix block c.args.places in
    let cids : length (block_links block) ≡ length (block_cids block) = cids_count (block_links block) (block_cids block) c.requires.ahead.cids_are in
    let many : length unix.sizes ≡ length (block_cids block) = sym c.sizes_of-sizes.ensures.count ∙ c.if-sizes-links.false ∙ c.requires.links ∙ cids in
    let inline = lie_length block c.inline_at-inline.result (inline_of unix) c.inline_at-inline.ensures in
    let total : c.sizes_of-sizes.result.1 ≡ min (length (inline_of unix) + sum unix.sizes) (2 ^ 128 - 1) =
    c.sizes_of-sizes.ensures.total ∙ ap (λ (n : ℕ). min (n + sum unix.sizes) (2 ^ 128 - 1)) inline in
    let small = small_total c.sizes_of-sizes.result.1 (length (inline_of unix) + sum unix.sizes) (2 ^ 128 - 1) (2 ^ 63) total c.if-total.false (lit≤ tt) in
    let some : length (block_cids block) == 0 ≡ false = ne_eqb (length (block_cids block)) 0 (λ e. c.if-links-ne0.true (c.requires.links ∙ cids ∙ e)) in
    let raw : unix.kind == 0 ≡ true = eq-eqb unix.kind 0 c.if-unix-eq0.true in
    stands_fault block faults.BadShape (file_kind (block_cids block) unix)
    (bad_shape (block_cids block) unix many small.0 (ap₂ (λ (a b : Bool). a && not b) raw some))

pub returns : goal.returns
returns c =
    let block = c.args.block.now in
    let places = c.args.places in
    let unix = data_unix block places in
    let cids : length (block_links block) ≡ length (block_cids block) = cids_count (block_links block) (block_cids block) c.requires.ahead.cids_are in
    let as_links : length unix.sizes ≡ c.args.links = sym c.sizes_of-sizes.ensures.count ∙ c.if-sizes-links.false in
    let many : length unix.sizes ≡ length (block_cids block) = as_links ∙ c.requires.links ∙ cids in
    let inline = lie_length block c.inline_at-inline.result (inline_of unix) c.inline_at-inline.ensures in
    let total : c.sizes_of-sizes.result.1 ≡ min (length (inline_of unix) + sum unix.sizes) (2 ^ 128 - 1) =
    c.sizes_of-sizes.ensures.total ∙ ap (λ (n : ℕ). min (n + sum unix.sizes) (2 ^ 128 - 1)) inline in
    let small = small_total c.sizes_of-sizes.result.1 (length (inline_of unix) + sum unix.sizes) (2 ^ 128 - 1) (2 ^ 63) total c.if-total.false (lit≤ tt) in
    let shape : (unix.kind == 0 && not (length (block_cids block) == 0)) ≡ false = elim c.else-unix-eq0.branch [
      | else-unix-eq0-via-then-unix-eq0+else-links-ne0 w ↦
          and_right (unix.kind == 0) (not (length (block_cids block) == 0)) (ap not (eq-eqb (length (block_cids block)) 0 (sym cids ∙ sym c.requires.links ∙ w.if-links-ne0.false)))
      | else-unix-eq0-via-else-unix-eq0 w ↦
          and_left (unix.kind == 0) (not (length (block_cids block) == 0)) (ne_eqb unix.kind 0 w.if-unix-eq0.false)
    ] in
    subst (λ (r : Result Kind BlockFault). StandsForAnswer block (Ok (placed.File (record {
      inline = c.inline_at-inline.result;
      filesize = places.unix.filesize;
      total = c.sizes_of-sizes.result.1;
      parts = record { link = 0; payload = places.payload; size = 0 };
      count = c.args.links;
    }))) r) (sym (good_shape (block_cids block) unix many small.0 shape))
    (file_at block places c.inline_at-inline.result c.args.links c.sizes_of-sizes.result.1 c.requires.ahead c.requires.places c.inline_at-inline.ensures c.requires.links as_links small.1)
