use Rattle.tg_store.proofs.Filled.{cause_unfinished, created_stops, created_writes, failed_grows, finished_car, finished_grows, finished_told}
use Rattle.tg_store.proofs.Filled.{kept_grows, kept_unfinished, refused_stops}
use Rattle.tg_store.proofs.laws.filled_packs.Goals as goal

pub returns-clause-unfinished : goal.returns-clause-unfinished
returns-clause-unfinished g c = λ a b sections new kept.
    (kept_grows g.P.Pack.pack g.met.P.Pack.joins a b sections kept, kept_unfinished g.P.Pack.pack c.pack_laws.ensures a b sections new kept)

pub returns-clause-finished : goal.returns-clause-finished
returns-clause-finished g c = λ a b c' sections root new kept finished. (
  finished_grows g.P.Pack.pack g.met.P.Pack.joins a b c' sections root kept finished,
  finished_car g.P.Pack.pack c.pack_laws.ensures a b c' sections root new kept finished,
)

pub returns-clause-told : goal.returns-clause-told
returns-clause-told g c = λ a b c' sections root kept finished.
    finished_told g.P.Pack.pack c.pack_laws.ensures a b c' sections root kept.stored finished

pub returns-clause-failed : goal.returns-clause-failed
returns-clause-failed g c = λ a b c' sections fault new kept failed. (
  failed_grows g.P.Pack.pack g.met.P.Pack.joins a b c' sections fault kept failed,
  cause_unfinished g.P.Pack.pack c.pack_laws.ensures a b c' sections fault new kept failed.cause,
)

pub returns-clause-stopped : goal.returns-clause-stopped
returns-clause-stopped g c = λ pack c' a made grows. created_stops g.P.Pack.pack g.met.P.Pack.joins pack c' a made grows

pub returns-clause-written : goal.returns-clause-written
returns-clause-written g c = λ pack c' a root made grows. created_writes g.P.Pack.pack g.met.P.Pack.joins pack c' a root made grows

pub returns-clause-refused : goal.returns-clause-refused
returns-clause-refused g c = λ pack refused h. refused_stops g.P.Pack.pack g.met.P.Pack.joins pack refused h
