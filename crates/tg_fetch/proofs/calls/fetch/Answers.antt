use Rattle.std.proofs.Common.{None, refl}
use Rattle.std.specs.Prelude.{⊤}
use Rattle.tg_fetch.proofs.KeptSections.{never_failed}
use Rattle.tg_model.specs.Stores.{Keeping}
use Rattle.tg_streams.specs.Streams.{into}
use Rattle.tg_fetch.proofs.calls.fetch.Goals as goal

-- nothing is told of what is dropped
abbrev dropped : Keeping
dropped = record { kept = λ sections. ⊤; stored_old = None; stored_new = None; faults_old = 0; faults_new = 0 }

pub returns-clause-cause : goal.returns-clause-cause
returns-clause-cause g c = never_failed ⊤ (into g.S.Sink.sink c.args.out.now c.fetch_keep.new.out) dropped c.fetch_keep.result refl refl c.fetch_keep.ensures.cause
