use Rattle.std.proofs.Common.{◌≡◌, ◌-◌, ◌<◌, ℕ, List, [], ◌∷◌, ◌++◌, Some, take, drop, refl, ap, arith}
use Rattle.std.specs.Prelude.{slice_range}
use Rattle.std.proofs.lemmas.Result.{err_from_is_err_and}
use Rattle.tg_pbtable.specs.declared.table.Order.TheVariants.{Ascending}
use Rattle.tg_pbtable.specs.Message.{Message}
use Rattle.tg_dagpb.specs.declared.TheConstants.{LINK}
use Rattle.tg_dagpb.specs.Cursor.{placed_link}
use Rattle.tg_dagpb.specs.Reading.{no_link}
use Rattle.tg_dagpb.proofs.Gathering.{link_more, gathered_link}
use Rattle.tg_dagpb.proofs.reading.link_in.Goals as goal

no_bytes : (start : ℕ) (text : List ℕ) → slice_range text start start ≡ []
no_bytes start text = let none : start - start ≡ 0 = omega arith in ap (λ (n : ℕ). take n (drop start text)) none

pub loop-field-init : goal.loop-field-init
loop-field-init c = record {
  fields = [];
  read = c.new-cursor.ensures.read LINK.now Ascending (slice_range c.args.bytes.now c.args.start c.args.end) refl;
  gathers = record { hash = ap (λ (t : List ℕ). Some t) (no_bytes c.args.start c.args.bytes.now); name = refl; tsize = refl };
  inside = record { hash = (omega arith, omega arith); name = tt };
}

pub returns-in_err-field : goal.returns-in_err-field
returns-in_err-field c =
    let p = err_from_is_err_and c.from_residual.result c.from_residual.ensures.1 in
    rw (p.1, p.2) (c.in_err-field.ensures.next c.loop-field.invariant.fields c.loop-field.invariant.read)

pub with_part-places-requires-clause-lies : goal.with_part-places-requires-clause-lies
with_part-places-requires-clause-lies c =
    let h = rw c.in-Some.is at (c.in_ok-field.ensures.next c.loop-field.invariant.fields c.loop-field.invariant.read) in
    h.1

pub loop-field-smaller : goal.loop-field-smaller
loop-field-smaller c =
    let h = rw c.in-Some.is at (c.in_ok-field.ensures.next c.loop-field.invariant.fields c.loop-field.invariant.read) in
    let up : c.loop-field.cursor.at < c.next.new.self.at = h.2 in
    omega (arith, c.in_ok-field.ensures.inside)

pub loop-field-preserved : goal.loop-field-preserved
loop-field-preserved c =
    let fs = c.loop-field.invariant.fields in
    let text = c.args.bytes.now in
    let h = rw c.in-Some.is at (c.in_ok-field.ensures.next fs c.loop-field.invariant.read) in
    record {
      fields = fs ++ c.in-Some.field ∷ [];
      read = h.0;
      gathers = link_more c.table_laws.ensures (slice_range text c.args.start c.args.end) fs c.in-Some.field no_link (placed_link text c.loop-field.places) (placed_link text c.with_part-places.result) c.loop-field.invariant.gathers c.with_part-places.ensures.gathers;
      inside = c.with_part-places.ensures.inside c.loop-field.invariant.inside;
    }

pub returns : goal.returns
returns c =
    let fs = c.loop-field.invariant.fields in
    let text = slice_range c.args.bytes.now c.args.start c.args.end in
    let message : Message LINK.now Ascending text fs = rw c.in_default.is at (c.in_ok-field.ensures.next fs c.loop-field.invariant.read) in
    record {
      is_text = gathered_link c.table_laws.ensures text fs (placed_link c.args.bytes.now c.loop-field.places) message c.loop-field.invariant.gathers;
      inside = c.loop-field.invariant.inside;
    }
