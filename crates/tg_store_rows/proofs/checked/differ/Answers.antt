use Rattle.std.proofs.Common.{◌≡◌, ◌<◌, ℕ, List, false, length, get_or, ap, sym, ◌∙◌, subst, ⊎_elim, arith}
use Rattle.std.specs.List.{IsDistinct}
use Rattle.std.specs.Prelude.{bytes_eq, map}
use Rattle.std.proofs.Math.Nat.{eq-or-lt_of_le}
use Rattle.std.proofs.lemmas.List.{get_or-map, get_or-take, get_or_default, length-map, length-take}
use Rattle.std.proofs.lemmas.Map.Keys.{IsDistinct-from_apart}
use Rattle.tg_hamt.specs.Order.{no_entry}
use Rattle.tg_store_rows.proofs.checked.differ.Goals as goal
use Rattle.tg_model.specs.declared.kinds.NewEntry.{NewEntry}

distinct : (es : List NewEntry) → ((j k : ℕ) (d : NewEntry) → j < k → k < length es → bytes_eq (get_or es j d).name (get_or es k d).name ≡ false)
    → IsDistinct bytes_eq (map (λ (e : NewEntry). e.name) es)
distinct es h = IsDistinct-from_apart bytes_eq (map (λ (e : NewEntry). e.name) es) (λ i j d lt inside.
    let count = length-map es (λ (e : NewEntry). e.name) in
    rw (get_or-map (λ (e : NewEntry). e.name) es i no_entry d (omega (arith, count, inside, lt)), get_or-map (λ (e : NewEntry). e.name) es j no_entry d (omega (arith, count, inside))) (h i j no_entry lt (omega (arith, count, inside))))

pub loop-i-preserved : goal.loop-i-preserved
loop-i-preserved c = λ j k d lt below.
    let es = c.args.entries.now in
    let i = c.loop-i.i in
    ⊎_elim
    (λ (same : k ≡ i).
    let no = c.has_name.ensures j d c.if-has_name.false (omega (arith, length-take i es)) in
    subst (λ (n : ℕ). bytes_eq (get_or es j d).name (get_or es n d).name ≡ false) (sym same)
    (ap (λ (x : NewEntry). bytes_eq (get_or es j d).name x.name) (get_or_default es i d c.index-entries-i.result (omega arith))
    ∙ ap (λ (x : NewEntry). bytes_eq x.name (get_or es i c.index-entries-i.result).name) (sym (get_or-take i es j d (omega arith))) ∙ no))
    (λ (less : k < i). c.loop-i.invariant j k d lt less)
    (eq-or-lt_of_le {n = k} {m = i} (omega arith))

pub returns : goal.returns
returns c = λ yes. distinct c.args.entries.now (λ j k d lt inside. c.loop-i.invariant j k d lt (omega arith))
