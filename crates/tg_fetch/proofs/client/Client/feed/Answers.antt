use Rattle.std.proofs.Common.{None, refl}
use Rattle.std.specs.Prelude.{⊤}
use Rattle.tg_fetch.proofs.KeptSections.{never_failed}
use Rattle.tg_model.specs.Stores.{Keeping}
use Rattle.tg_streams.specs.Streams.{into}
use Rattle.tg_verify.specs.declared.verifier.Progress.{Progress}
use Rattle.tg_fetch.proofs.client.Client.feed.Goals as goal

-- nothing is told of what is dropped
abbrev dropped : Keeping
dropped = record { kept = λ sections. ⊤; stored_old = None; stored_new = None; faults_old = 0; faults_new = 0 }

pub returns-clause-cause : goal.returns-clause-cause
returns-clause-cause g c heard written h =
    never_failed Progress (into g.S.Sink.sink c.args.out.now c.feed_keep.new.out) dropped c.feed_keep.result refl refl (c.feed_keep.ensures.cause heard written h)
