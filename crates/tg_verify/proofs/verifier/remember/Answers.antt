use Rattle.std.proofs.Common.{Ok, Err, OnOk}
use Rattle.std.specs.Prelude.{IsOk, Result}
use Rattle.tg_verify.proofs.Remembered.{kept_new}
use Rattle.tg_verify.proofs.verifier.remember.Goals as goal

-- what holds where a call succeeds, where it does
ok_then : {A E P : Type 0} (r : Result A E) → IsOk r → OnOk r P → P
ok_then (Ok a) ok h = h
ok_then (Err e) ok h = cc ok

pub returns-then-not-dups-clause-once : goal.returns-then-not-dups-clause-once
returns-then-not-dups-clause-once c once free =
    kept_new _ c.equality.ensures c.args.cid c.args.seen.now c.insert.new.self.entries c.args.block free
    (ok_then c.insert.result (c.insert.ensures.succeeds (c.requires.room once)) c.insert.ensures.entries)
