use Rattle.std.proofs.Common.{All, arith, List, refl, ℕ, ◌++◌, ◌<◌, take}
use Rattle.std.proofs.lemmas.List.Elements.{All-from_get_or}
use Rattle.std.proofs.lemmas.Result.{err_from_is_err_and}
use Rattle.tg_car.specs.CarText.{SectionText}
use Rattle.tg_export.proofs.Pieces.{block_failed, both_given, head_failed}
use Rattle.tg_store.specs.Packs.{in_car}
use Rattle.tg_model_laws.specs.StoreWalks.{section_of}
use Rattle.tg_export.proofs.car.give_section.Goals as goal

pub returns-in_err-give : goal.returns-in_err-give
returns-in_err-give g c =
    let head : List ℕ = take c.section_head-size.result.1 c.section_head-size.result.0 in
    let are_bytes : All (λ b. b < 256) c.args.block.now = All-from_get_or (λ b. b < 256) c.args.block.now 0 (λ i l. omega (arith, c.type_inv.block i)) in
    let is : SectionText (in_car (section_of c.args.cid c.args.block.now)) (head ++ c.args.block.now) = c.section_head-size.ensures.head c.args.block.now refl are_bytes in
    let p = err_from_is_err_and c.from_residual.result c.from_residual.ensures.1 in
    rw (p.1, p.2) (
      refl,
      head_failed g.S.Sink.sink c.args.out.now c.give.new.sink c.give.new.sink (section_of c.args.cid c.args.block.now) head c.args.block.now is
          c.args.gathering.now c.give.new.self c.in_err-give.ensures.err_front,
      c.in_err-give.ensures.err_nothing,
    )

pub returns-in_err-give-2 : goal.returns-in_err-give-2
returns-in_err-give-2 g c =
    let head : List ℕ = take c.section_head-size.result.1 c.section_head-size.result.0 in
    let are_bytes : All (λ b. b < 256) c.args.block.now = All-from_get_or (λ b. b < 256) c.args.block.now 0 (λ i l. omega (arith, c.type_inv.block i)) in
    let is : SectionText (in_car (section_of c.args.cid c.args.block.now)) (head ++ c.args.block.now) = c.section_head-size.ensures.head c.args.block.now refl are_bytes in
    let p = err_from_is_err_and c.from_residual-in_err-give-2.result c.from_residual-in_err-give-2.ensures.1 in
    rw (p.1, p.2) (
      refl,
      block_failed g.S.Sink.sink c.args.out.now c.give.new.sink c.give-2.new.sink (section_of c.args.cid c.args.block.now) head c.args.block.now is
          c.args.gathering.now c.give.new.self c.give-2.new.self g.met.S.Sink.joins c.in_ok-give.ensures.gave c.in_err-give-2.ensures.err_front,
      c.in_err-give-2.ensures.err_nothing,
    )

pub returns : goal.returns
returns g c =
    let head : List ℕ = take c.section_head-size.result.1 c.section_head-size.result.0 in
    let are_bytes : All (λ b. b < 256) c.args.block.now = All-from_get_or (λ b. b < 256) c.args.block.now 0 (λ i l. omega (arith, c.type_inv.block i)) in
    let is : SectionText (in_car (section_of c.args.cid c.args.block.now)) (head ++ c.args.block.now) = c.section_head-size.ensures.head c.args.block.now refl are_bytes in
    both_given g.S.Sink.sink c.args.out.now c.give.new.sink c.give-2.new.sink (section_of c.args.cid c.args.block.now) head c.args.block.now is
    c.args.gathering.now c.give.new.self c.give-2.new.self g.met.S.Sink.joins c.in_ok-give.ensures.gave c.in_ok-give-2.ensures.gave
