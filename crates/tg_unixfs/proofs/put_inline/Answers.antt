use Rattle.std.proofs.lemmas.Result.{on_ok_weaker}
use Rattle.tg_unixfs.proofs.Encoding.{inline_put}
use Rattle.tg_unixfs.proofs.put_inline.Goals as goal

pub returns-in-Some : goal.returns-in-Some
returns-in-Some c = on_ok_weaker c.put_bytes.result (inline_put c.args.inline.now c.in-Some.inline c.as_slice.result.now _ _ c.in-Some.is c.as_slice.ensures) c.put_bytes.ensures
