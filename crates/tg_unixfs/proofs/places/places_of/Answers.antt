use Rattle.std.proofs.Common.{◌≡◌, ◌<◌, ℕ, None, List, [], ◌∷◌, ◌++◌, Err, refl, sym, ap, ◌∙◌, subst, arith}
use Rattle.std.proofs.lemmas.Result.{err_from_is_err_and}
use Rattle.tg_pbtable.specs.declared.table.Order.TheVariants.{Ascending}
use Rattle.tg_pbtable.specs.Message.{Message}
use Rattle.tg_pbtable.specs.Values.{numbers_at, bytes_at}
use Rattle.tg_pbtable.specs.Place.{placed_bytes}
use Rattle.tg_unixfs.specs.declared.TheConstants.{DATA}
use Rattle.tg_unixfs.specs.declared.Unix.{Unix}
use Rattle.tg_unixfs.specs.declared.UnixFault.{UnixFault}
use Rattle.tg_unixfs.specs.Reading.{Gathers, nothing}
use Rattle.tg_unixfs.specs.Places.{placed_unix}
use Rattle.tg_unixfs.specs.Starting.{start_sizes}
use Rattle.tg_unixfs.proofs.Gathering.{gathers_more, gathered_parts}
use Rattle.tg_unixfs.proofs.Parts.{data_table}
use Rattle.tg_unixfs.proofs.Same.{one_data}
use Rattle.tg_unixfs.proofs.Placing.{unfit_there, unfit_cause, unfit_given, unix_has_none, carried_cause, carried_given}
use Rattle.tg_unixfs.proofs.Timing.{last_wire, times_there, bad_time_in, bad_time_cause, bad_time_given}
use Rattle.tg_unixfs.proofs.places.places_of.Goals as goal

pub loop-field-init : goal.loop-field-init
loop-field-init c = record {
  fields = [];
  read = c.new-cursor.ensures.read DATA.now Ascending c.args.bytes.now refl;
  gathers = record { kind = refl; inline = refl; filesize = refl; sizes = refl; hash = refl; fanout = refl };
  inside = tt;
  time_is = refl;
  time_inside = tt;
  time_among = tt;
}

pub with_time-time-requires : goal.with_time-time-requires
with_time-time-requires c =
    let h = rw c.in-Some.is at (c.in_ok-field.ensures.next c.loop-field.invariant.fields c.loop-field.invariant.read) in
    last_wire DATA.now c.loop-field.invariant.fields c.in-Some.field h.0.begins.ruled

pub loop-field-smaller : goal.loop-field-smaller
loop-field-smaller c =
    let h = rw c.in-Some.is at (c.in_ok-field.ensures.next c.loop-field.invariant.fields c.loop-field.invariant.read) in
    let up : c.loop-field.cursor.at < c.next.new.self.at = h.2 in
    omega (arith, c.in_ok-field.ensures.inside)

pub loop-field-preserved : goal.loop-field-preserved
loop-field-preserved c =
    let laws = c.table_laws.ensures in
    let fs = c.loop-field.invariant.fields in
    let text = c.args.bytes.now in
    let f = c.in-Some.field in
    let old = placed_unix text c.loop-field.places (numbers_at 4 fs) in
    let more = numbers_at 4 fs ++ numbers_at 4 (f ∷ []) in
    let new = c.with_part-places.result in
    let h = rw c.in-Some.is at (c.in_ok-field.ensures.next fs c.loop-field.invariant.read) in
    let gathers : Gathers text (fs ++ f ∷ []) nothing (placed_unix text new more) =
    gathers_more laws text fs f nothing old (placed_unix text new more) c.loop-field.invariant.gathers (c.with_part-places.ensures.gathers text (numbers_at 4 fs)) in
    record {
      fields = fs ++ f ∷ [];
      read = h.0;
      gathers = subst (λ (sizes : List ℕ). Gathers text (fs ++ f ∷ []) nothing (placed_unix text new sizes)) (sym (laws.values.numbers_append 4 fs (f ∷ []))) gathers;
      inside = c.with_part-places.ensures.inside text h.1 c.loop-field.invariant.inside;
      time_is = laws.last_bytes.later_more None (placed_bytes text c.loop-field.time) (placed_bytes text c.with_time-time.result) (bytes_at text 8 fs) (bytes_at text 8 (f ∷ [])) (bytes_at text 8 (fs ++ f ∷ []))
          (laws.values.bytes_append text 8 fs (f ∷ [])) c.loop-field.invariant.time_is (c.with_time-time.ensures.bytes text);
      time_inside = c.with_time-time.ensures.inside text h.1 c.loop-field.invariant.time_inside;
      time_among = c.with_time-time.ensures.among fs c.loop-field.invariant.time_among;
    }

pub returns-in_err-field-clause-only : goal.returns-in_err-field-clause-only
returns-in_err-field-clause-only c = λ unix text.
    let h = c.in_err-field.ensures.next c.loop-field.invariant.fields c.loop-field.invariant.read in
    absurd (c.table_laws.ensures.messages.no_cause DATA.now Ascending c.args.bytes.now text.fields c.in_err-field.field-0.0 (data_table c.table_laws.ensures) text.message h)

pub returns-in_err-field-clause-cause : goal.returns-in_err-field-clause-cause
returns-in_err-field-clause-cause c =
    let p = err_from_is_err_and c.from_residual.result c.from_residual.ensures.1 in
    let h = c.in_err-field.ensures.next c.loop-field.invariant.fields c.loop-field.invariant.read in
    rw (p.1, p.2) (carried_cause c.args.bytes.now c.in_err-field.field-0.0 h)

pub returns-in_err-field-clause-given : goal.returns-in_err-field-clause-given
returns-in_err-field-clause-given c = λ fault cause.
    let p = err_from_is_err_and c.from_residual.result c.from_residual.ensures.1 in
    let h = c.in_err-field.ensures.next c.loop-field.invariant.fields c.loop-field.invariant.read in
    rw (p.1, p.2) (ap (λ (x : UnixFault). Err x) (carried_given c.table_laws.ensures c.args.bytes.now c.in_err-field.field-0.0 fault h cause))

pub returns-in_err-check_time-clause-only : goal.returns-in_err-check_time-clause-only
returns-in_err-check_time-clause-only c = λ unix text.
    let fs = c.loop-field.invariant.fields in
    let fault = c.in_err-check_time.field-0.0 in
    let message : Message DATA.now Ascending c.args.bytes.now fs = rw c.in_default.is at (c.in_ok-field.ensures.next fs c.loop-field.invariant.read) in
    let bad = bad_time_in c.args.bytes.now fs c.loop-field.time fault message c.loop-field.invariant.time_among c.in_err-check_time.ensures in
    absurd (unix_has_none c.table_laws.ensures c.args.bytes.now unix fault text (bad_time_cause c.args.bytes.now fault bad))

pub returns-in_err-check_time-clause-cause : goal.returns-in_err-check_time-clause-cause
returns-in_err-check_time-clause-cause c =
    let p = err_from_is_err_and c.from_residual-in_err-check_time.result c.from_residual-in_err-check_time.ensures.1 in
    let fs = c.loop-field.invariant.fields in
    let fault = c.in_err-check_time.field-0.0 in
    let message : Message DATA.now Ascending c.args.bytes.now fs = rw c.in_default.is at (c.in_ok-field.ensures.next fs c.loop-field.invariant.read) in
    let bad = bad_time_in c.args.bytes.now fs c.loop-field.time fault message c.loop-field.invariant.time_among c.in_err-check_time.ensures in
    rw (p.1, p.2) (bad_time_cause c.args.bytes.now fault bad)

pub returns-in_err-check_time-clause-given : goal.returns-in_err-check_time-clause-given
returns-in_err-check_time-clause-given c = λ other cause.
    let p = err_from_is_err_and c.from_residual-in_err-check_time.result c.from_residual-in_err-check_time.ensures.1 in
    let fs = c.loop-field.invariant.fields in
    let fault = c.in_err-check_time.field-0.0 in
    let message : Message DATA.now Ascending c.args.bytes.now fs = rw c.in_default.is at (c.in_ok-field.ensures.next fs c.loop-field.invariant.read) in
    let bad = bad_time_in c.args.bytes.now fs c.loop-field.time fault message c.loop-field.invariant.time_among c.in_err-check_time.ensures in
    rw (p.1, p.2) (ap (λ (x : UnixFault). Err x) (bad.is ∙ bad_time_given c.table_laws.ensures c.args.bytes.now bad.moved other bad.has cause))

pub returns-in_err-check-clause-only : goal.returns-in_err-check-clause-only
returns-in_err-check-clause-only c = λ unix text.
    let laws = c.table_laws.ensures in
    let fs = c.loop-field.invariant.fields in
    let fault = c.in_err-check.field-0.0 in
    let message : Message DATA.now Ascending c.args.bytes.now fs = rw c.in_default.is at (c.in_ok-field.ensures.next fs c.loop-field.invariant.read) in
    let time = times_there laws c.args.bytes.now fs c.loop-field.time message c.loop-field.invariant.time_is c.in_ok-check_time.ensures in
    let unfit = unfit_there laws c.args.bytes.now fs c.loop-field.places fault message time c.loop-field.invariant.gathers c.in_err-check.ensures in
    absurd (unix_has_none laws c.args.bytes.now unix fault text (unfit_cause c.args.bytes.now fault unfit))

pub returns-in_err-check-clause-cause : goal.returns-in_err-check-clause-cause
returns-in_err-check-clause-cause c =
    let p = err_from_is_err_and c.from_residual-in_err-check.result c.from_residual-in_err-check.ensures.1 in
    let fs = c.loop-field.invariant.fields in
    let fault = c.in_err-check.field-0.0 in
    let message : Message DATA.now Ascending c.args.bytes.now fs = rw c.in_default.is at (c.in_ok-field.ensures.next fs c.loop-field.invariant.read) in
    let time = times_there c.table_laws.ensures c.args.bytes.now fs c.loop-field.time message c.loop-field.invariant.time_is c.in_ok-check_time.ensures in
    let unfit = unfit_there c.table_laws.ensures c.args.bytes.now fs c.loop-field.places fault message time c.loop-field.invariant.gathers c.in_err-check.ensures in
    rw (p.1, p.2) (unfit_cause c.args.bytes.now fault unfit)

pub returns-in_err-check-clause-given : goal.returns-in_err-check-clause-given
returns-in_err-check-clause-given c = λ other cause.
    let p = err_from_is_err_and c.from_residual-in_err-check.result c.from_residual-in_err-check.ensures.1 in
    let laws = c.table_laws.ensures in
    let fs = c.loop-field.invariant.fields in
    let fault = c.in_err-check.field-0.0 in
    let message : Message DATA.now Ascending c.args.bytes.now fs = rw c.in_default.is at (c.in_ok-field.ensures.next fs c.loop-field.invariant.read) in
    let time = times_there laws c.args.bytes.now fs c.loop-field.time message c.loop-field.invariant.time_is c.in_ok-check_time.ensures in
    let unfit = unfit_there laws c.args.bytes.now fs c.loop-field.places fault message time c.loop-field.invariant.gathers c.in_err-check.ensures in
    rw (p.1, p.2) (ap (λ (x : UnixFault). Err x) (unfit_given laws c.args.bytes.now fault other unfit cause))

pub returns-clause-found : goal.returns-clause-found
returns-clause-found c =
    let fs = c.loop-field.invariant.fields in
    let sizes = numbers_at 4 fs in
    let message : Message DATA.now Ascending c.args.bytes.now fs = rw c.in_default.is at (c.in_ok-field.ensures.next fs c.loop-field.invariant.read) in
    let time = times_there c.table_laws.ensures c.args.bytes.now fs c.loop-field.time message c.loop-field.invariant.time_is c.in_ok-check_time.ensures in
    let parts = gathered_parts c.table_laws.ensures c.args.bytes.now fs (placed_unix c.args.bytes.now c.loop-field.places sizes) message c.loop-field.invariant.gathers in
    record {
      sizes = sizes;
      is_text = record { fields = fs; message = message; parts = parts; time = time; is_unix = c.in_ok-check.ensures c.args.bytes.now sizes };
    }

pub returns-clause-cursor : goal.returns-clause-cursor
returns-clause-cursor c =
    let h = returns-clause-found c in
    ([], h.sizes, start_sizes (placed_unix c.args.bytes.now c.loop-field.places h.sizes) c.args.bytes.now h.is_text)

pub returns-clause-only : goal.returns-clause-only
returns-clause-only c = λ unix text.
    let h = returns-clause-found c in
    let u = placed_unix c.args.bytes.now c.loop-field.places h.sizes in
    let same : unix ≡ u = one_data c.table_laws.ensures c.args.bytes.now text.fields h.is_text.fields unix u text.message h.is_text.message text.parts h.is_text.parts in
    same ∙ ap (λ (sizes : List ℕ). placed_unix c.args.bytes.now c.loop-field.places sizes) (sym (ap (λ (x : Unix). x.sizes) same))

pub returns-clause-given : goal.returns-clause-given
returns-clause-given c = λ fault cause.
    let h = returns-clause-found c in
    absurd (unix_has_none c.table_laws.ensures c.args.bytes.now (placed_unix c.args.bytes.now c.loop-field.places h.sizes) fault h.is_text cause)
