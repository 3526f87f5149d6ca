-- the bytes that were read stand in the front of the buffer
use Rattle.std.proofs.Common.{length, ◌-◌, ◌≡◌, ◌+◌, ◌≤◌, take}
use Rattle.tg_bytes.specs.Told.{after_front}
use Rattle.tg_files.specs.Packs.{PackQuiet, SameContent, pack_step, rest_at}
use Rattle.tg_store.proofs.reading.read_up_to.Given as goal

abbrev pub invariant-loop-done : goal.invariant-loop-done
invariant-loop-done g l = record {
  within : l.done ≤ length l.buf;
  same : SameContent (pack_step g.P.Pack.pack l.fn.pack l.pack);
  quiet : PackQuiet (pack_step g.P.Pack.pack l.fn.pack l.pack);
  bytes : rest_at (g.P.Pack.pack.content l.fn.pack) l.fn.offset ≡ after_front (take l.done l.buf) (rest_at (g.P.Pack.pack.content l.fn.pack) (l.fn.offset + l.done));
}

abbrev pub decreases-loop-done : goal.decreases-loop-done
decreases-loop-done g l = length l.initial.buf - l.done
