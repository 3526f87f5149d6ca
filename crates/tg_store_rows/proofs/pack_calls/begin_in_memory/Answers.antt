use Rattle.std.proofs.lemmas.Result.{on_ok_weaker}
use Rattle.tg_store_rows.proofs.Begun.{begun}
use Rattle.tg_store_rows.proofs.pack_calls.begin_in_memory.Goals as goal

pub returns-clause-content : goal.returns-clause-content
returns-clause-content c = on_ok_weaker c.begin.result (λ did. begun c.args.pack.now.content c.begin.new.pack.content c.args.path.now c.args.head.now c.args.body.now did.content) c.begin.ensures

pub returns-clause-fails : goal.returns-clause-fails
returns-clause-fails c = on_ok_weaker c.begin.result (λ did. did.moved.fails) c.begin.ensures
