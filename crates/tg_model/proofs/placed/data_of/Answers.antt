use Rattle.std.proofs.Common.{◌≡◌, ◌<◌, ◌-◌, ℕ, All, Ok, Err, Option, List, [], sym, ap, ◌∙◌, subst, arith, drop}
use Rattle.std.proofs.lemmas.List.Elements.{All-drop, All-from_get_or, All-take}
use Rattle.std.proofs.lemmas.Result.{err_from_is_err_and}
use Rattle.tg_model.specs.Computed.{unix_or_fault, unix_with_fault}
use Rattle.tg_model.specs.PlacedSteps.{sizes_in, text_sizes}
use Rattle.tg_model.specs.declared.fault.BlockFault.{BlockFault}
use Rattle.tg_pbtable.specs.Place.{AreInside, bytes_of, placed_bytes}
use Rattle.tg_pbtable.specs.declared.table.Place.{Place}
use Rattle.tg_unixfs.specs.Computed.{unix_of}
use Rattle.tg_unixfs.specs.Places.{placed_unix}
use Rattle.tg_unixfs.specs.Starting.{start_sizes}
use Rattle.tg_unixfs.specs.Unix.{UnixText}
use Rattle.tg_model.proofs.placed.data_of.Goals as goal

pub returns-in_err-unix : goal.returns-in_err-unix
returns-in_err-unix c =
    let block = c.args.block.now in
    let place = c.in-Some.payload in
    let text = bytes_of block place in
    let all_bytes : All (λ b. b < 256) block = All-from_get_or (λ b. b < 256) block 0 (λ i l. omega (arith, c.type_inv.block i)) in
    let are_bytes : All (λ b. b < 256) text = All-take (λ b. b < 256) (place.end - place.start) (drop place.start block) (All-drop (λ b. b < 256) place.start block all_bytes) in
    let fault = c.in_err-unix.field-0.0 in
    let told : unix_of text ≡ Err fault = (c.computes.ensures.fault text fault are_bytes).1 c.in_err-unix.ensures.cause in
    let p = err_from_is_err_and c.from_residual.result c.from_residual.ensures.1 in
    rw p.1 (ap (λ (o : Option Place). unix_or_fault (placed_bytes block o)) c.in-Some.is ∙ ap unix_with_fault told
    ∙ ap (λ (fault : BlockFault). Err fault) (sym p.2))

pub returns : goal.returns
returns c =
    let block = c.args.block.now in
    let place = c.in-Some.payload in
    let text = bytes_of block place in
    let all_bytes : All (λ b. b < 256) block = All-from_get_or (λ b. b < 256) block 0 (λ i l. omega (arith, c.type_inv.block i)) in
    let are_bytes : All (λ b. b < 256) text = All-take (λ b. b < 256) (place.end - place.start) (drop place.start block) (All-drop (λ b. b < 256) place.start block all_bytes) in
    let unix = c.in_ok-unix.unix in
    let found = c.in_ok-unix.ensures.found in
    let told = (c.computes.ensures.«data» text (placed_unix text unix found.sizes) are_bytes).1 found.is_text in
    let sizes : text_sizes text ≡ found.sizes = ap sizes_in told in
    let is_text : UnixText (placed_unix text unix (text_sizes text)) text = subst (λ (ns : List ℕ). UnixText (placed_unix text unix ns) text) (sym sizes) found.is_text in (
      c.in-Some.is,
      record {
        computed = told ∙ ap (λ (ns : List ℕ). Ok (placed_unix text unix ns)) (sym sizes);
        places_are = record {
          payload = subst (λ (o : Option Place). AreInside block o) c.in-Some.is c.requires;
          inline = c.in_ok-unix.ensures.inside;
          sizes = record { behind = []; between = start_sizes (placed_unix text unix (text_sizes text)) text is_text };
        };
      },
    )
