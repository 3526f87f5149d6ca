use Rattle.std.proofs.Common.{◌++◌, Ok, Err, OnOk, OnErr, sym, ◌∙◌, append-nil}
use Rattle.std.specs.declared.result.Result.{Result}
use Rattle.tg_streams.specs.Joining.{put_put, put_put_front}
use Rattle.tg_streams.proofs.gathering.Gathering.give.Goals as goal

-- what follows from two facts that stand where it went well, stands there
both_ok : {T E P Q R : Type 0} (r : Result T E) → (P → Q → R) → OnOk r P → OnOk r Q → OnOk r R
both_ok (Ok x) f p q = f p q
both_ok (Err e) f p q = tt

-- what follows from a fact that stands on an error, stands on it
on_error : {T E P Q : Type 0} (r : Result T E) → (P → Q) → OnErr r P → OnErr r Q
on_error (Ok x) f p = tt
on_error (Err e) f p = f p

-- the bytes were put behind what was gathered, of which nothing is left
pub returns-clause-gave : goal.returns-clause-gave
returns-clause-gave g c =
    let old = c.args.self.now in
    let bytes = c.args.bytes.now in
    both_ok c.put_all.result (λ put quiet. record {
      front = old ++ bytes;
      put = put_put _ g.S.Sink.sink _ _ _ old bytes g.met.S.Sink.joins c.in_ok-put_out.ensures.put put;
      quiet = quiet ∙ c.in_ok-put_out.ensures.quiet;
      whole = rw (c.put_out.ensures.nothing) (sym (append-nil (old ++ bytes)));
    }) c.put_all.ensures.put c.put_all.ensures.quiet

pub returns-clause-err_front : goal.returns-clause-err_front
returns-clause-err_front g c =
    on_error c.put_all.result (put_put_front _ g.S.Sink.sink _ _ _ c.args.self.now c.args.bytes.now g.met.S.Sink.joins
    c.in_ok-put_out.ensures.put c.in_ok-put_out.ensures.quiet) c.put_all.ensures.err_front
