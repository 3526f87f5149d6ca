-- How far a fetch has come, as it is told while it goes on.
use Rattle.tg_fetch.specs.declared.client.Stage.{Stage}
use Rattle.tg_fetch.specs.declared.client.Stage.TheVariants as stages
use Rattle.tg_fetch.specs.declared.sections.Sections.{Sections}
use Rattle.tg_fetch.specs.declared.sections.Sections.TheVariants as takings
use Rattle.tg_fetch.specs.declared.watch.Told.{Told}
use Rattle.tg_verify.specs.State.{written_count}

-- of an answer's CAR the bytes that were put and the sections that were taken; of an absence nothing is put, and a raw
-- block is verified at its end alone
abbrev pub told_in : Sections → Told
told_in (takings.Answer body) =
    record { bytes = written_count body.verifier.lines body.verifier.counts.output; blocks = body.verifier.taken }
told_in (takings.Absence body) = record { bytes = 0; blocks = body.verifier.taken }
told_in (takings.Block raw) = record { bytes = 0; blocks = 0 }

-- nothing is told before a body, nor behind a whole reply
abbrev pub told_of : Stage → Told
told_of (stages.Content content) = told_in content.sections
told_of (stages.Heads heads) = record { bytes = 0; blocks = 0 }
told_of stages.Done = record { bytes = 0; blocks = 0 }
