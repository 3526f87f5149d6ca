use Rattle.std.proofs.Common.{◌≡◌, ◌∷◌, ◌∙◌, [], IfOk, IfSome, Option, Some, inr, sym, subst, unwrap_or}
use Rattle.tg_model.specs.Stores.{AreKeptAs, Store}
use Rattle.tg_block_log.proofs.KeptBlocks.{first_found, kept_found}
use Rattle.tg_block_log.proofs.stores.keep_then_get.Given as given
use Rattle.tg_block_log.proofs.stores.keep_then_get.Goals as goal
use Rattle.std.proofs.lemmas.Result.{on_err_weaker, on_ok_weaker}

found : (g : given.Over) (c : goal.After-get g)
    → IfOk c.get.result (λ found. IfSome (g.S.Blocks.blocks.stored c.args.store.now) (λ held. found ≡ Some (unwrap_or (held c.args.cid) c.args.block.now)))
found g c =
    let one = g.met.S.KeptBlocks.one_store in
    let kept : AreKeptAs (g.S.Keep.keeper.stored c.args.store.now) (g.S.Keep.keeper.stored c.keep.new.self) (record { cid = c.args.cid; block = c.args.block.now } ∷ []) = c.in-Ok.ensures.kept.stored in
    kept_found _ _ _ _ _ (rw (one c.args.store.now, one c.keep.new.self) at kept) c.get.ensures.gotten

pub returns-in-Ok-clause-found : goal.returns-in-Ok-clause-found
returns-in-Ok-clause-found g c = found g c

pub returns-in-Ok-clause-first : goal.returns-in-Ok-clause-first
returns-in-Ok-clause-first g c = first_found _ _ _ _ (found g c)

pub returns-in-Ok-clause-kept : goal.returns-in-Ok-clause-kept
returns-in-Ok-clause-kept g c =
    let one = g.met.S.KeptBlocks.one_store in
    let kept = c.in-Ok.ensures.kept in
    on_ok_weaker c.get.result (λ looked. record {
      moved = g.met.S.Keep.joins _ _ _ (record { cid = c.args.cid; block = c.args.block.now } ∷ []) [] kept.moved (g.met.S.KeptBlocks.looks _ _ _ looked.moved);
      stored = subst (λ (told : Option Store). AreKeptAs (g.S.Keep.keeper.stored c.args.store.now) told (record { cid = c.args.cid; block = c.args.block.now } ∷ []))
          (sym (one c.get.new.self ∙ looked.stored ∙ sym (one c.keep.new.self))) kept.stored;
    }) c.get.ensures.looked

pub returns-in-Ok-clause-err_kept : goal.returns-in-Ok-clause-err_kept
returns-in-Ok-clause-err_kept g c =
    on_err_weaker c.get.result (λ looked. inr (g.met.S.Keep.joins _ _ _ (record { cid = c.args.cid; block = c.args.block.now } ∷ []) [] c.in-Ok.ensures.kept.moved (g.met.S.KeptBlocks.looks _ _ _ looked.moved)))
    c.get.ensures.err_looked
