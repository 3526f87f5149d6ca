-- What a caller shows of its own table and fields.
use Rattle.std.proofs.Common.{◌≡◌, ℕ, zero, suc, ◌<◌, ◌≤◌, true, List, [], ◌∷◌, ◌++◌, length, get_or, map, refl, sym, ap, ◌∙◌, append_assoc, subst, arith}
use Rattle.std.specs.Prelude.{All, nat_lt, ◌&&◌}
use Rattle.std.proofs.lemmas.Bool.{and_parts}
use Rattle.std.proofs.lemmas.Bool.Decides.{Decides-ltb}
use Rattle.std.proofs.lemmas.List.{length-append}
use Rattle.std.proofs.lemmas.List.Elements.{All-nil, All-cons}
use Rattle.tg_pbtable.specs.declared.table.Rule.{Rule}
use Rattle.tg_pbtable.specs.declared.table.Field.{Field}
use Rattle.tg_pbtable.specs.declared.table.Wire.{Wire}
use Rattle.tg_pbtable.specs.declared.table.Wire.TheVariants.{Varint, Bytes, Fixed32}
use Rattle.tg_pbtable.specs.declared.table.Value.{Value}
use Rattle.tg_pbtable.specs.declared.table.Value.TheVariants.{Number, Place}
use Rattle.tg_pbtable.specs.Message.{IsTable, Spelled, ValueSpelling}
use Rattle.tg_pbtable.specs.Emitted.{LiesIn}
use Rattle.tg_pbtable.specs.Laws.{rises_from}
use Rattle.tg_pbtable.proofs.Spellings.{moved}

-- ---- places

pub value_inside : (before front rest : List ℕ) (number : ℕ) (w : Wire) (v : Value) → ValueSpelling (length before) number w v front → LiesIn (before ++ (front ++ rest)) v
value_inside before front rest number w (Number n) p = tt
value_inside before front rest number Varint (Place start end) p = absurd p
value_inside before front rest number Fixed32 (Place start end) p = absurd p
value_inside before front rest number Bytes (Place start end) p = (
  omega (arith, p.end_is),
  omega (arith, p.start_is, p.end_is, ap length p.whole, length-append before (front ++ rest), length-append front rest, length-append p.key (p.size ++ p.content), length-append p.size p.content),
)

inside : (fs : List Field) (before mid : List ℕ) → Spelled (length before) fs mid → All (λ (f : Field). LiesIn (before ++ mid) f.value) fs
inside [] before mid p = All-nil (λ (f : Field). LiesIn (before ++ mid) f.value)
inside (f ∷ fs) before mid p =
    let whole : before ++ mid ≡ before ++ (p.0 ++ p.1) = ap (λ (t : List ℕ). before ++ t) p.2 in
    All-cons (λ (x : Field). LiesIn (before ++ mid) x.value) f fs
    (subst (λ (t : List ℕ). LiesIn t f.value) (sym whole) (value_inside before p.0 p.1 f.number f.wire f.value p.3))
    (subst (λ (t : List ℕ). All (λ (x : Field). LiesIn t x.value) fs) (append_assoc before p.0 p.1 ∙ sym whole) (inside fs (before ++ p.0) p.1 (moved (length before) before p.0 p.1 fs refl p.4)))

pub places_inside : (text : List ℕ) (fs : List Field) → Spelled 0 fs text → All (λ (f : Field). LiesIn text f.value) fs
places_inside text fs p = inside fs [] text p

-- ---- a table whose numbers rise

parts : (low : ℕ) (r : Rule) (rs : List Rule) → rises_from low (r ∷ rs) ≡ true → (low < r.number) × (r.number < 536870912) × (rises_from r.number rs ≡ true)
parts low r rs e =
    let first = and_parts (nat_lt low r.number) (nat_lt r.number 536870912 && rises_from r.number rs) e in
    let second = and_parts (nat_lt r.number 536870912) (rises_from r.number rs) first.1 in
    ((Decides-ltb low r.number).0 first.0, (Decides-ltb r.number 536870912).0 second.0, second.1)

all_above : (low bound : ℕ) (rs : List Rule) → bound ≤ low → rises_from low rs ≡ true → All (λ (r : Rule). bound < r.number) rs
all_above low bound [] l e = All-nil (λ (r : Rule). bound < r.number)
all_above low bound (r ∷ rs) l e =
    let p = parts low r rs e in
    let above : low < r.number = p.0 in
    All-cons (λ (x : Rule). bound < x.number) r rs (omega arith) (all_above r.number bound rs (omega arith) p.2)

all_below : (low : ℕ) (rs : List Rule) → rises_from low rs ≡ true → All (λ (r : Rule). r.number < 536870912) rs
all_below low [] e = All-nil (λ (r : Rule). r.number < 536870912)
all_below low (r ∷ rs) e = let p = parts low r rs e in All-cons (λ (x : Rule). x.number < 536870912) r rs p.1 (all_below r.number rs p.2)

number_above : (low : ℕ) (rs : List Rule) (k : ℕ) → rises_from low rs ≡ true → k < length rs → low < get_or (map (λ (r : Rule). r.number) rs) k 0
number_above low [] k e l = absurd (omega arith)
number_above low (r ∷ rs) zero e l = (parts low r rs e).0
number_above low (r ∷ rs) (suc k) e l =
    let p = parts low r rs e in
    let above : low < r.number = p.0 in
    let more : r.number < get_or (map (λ (x : Rule). x.number) rs) k 0 = number_above r.number rs k p.2 (omega arith) in
    omega arith

apart : (low : ℕ) (rs : List Rule) (i j : ℕ) → rises_from low rs ≡ true → i < j → j < length rs → get_or (map (λ (r : Rule). r.number) rs) i 0 < get_or (map (λ (r : Rule). r.number) rs) j 0
apart low [] i j e ij jl = absurd (omega arith)
apart low (r ∷ rs) i zero e ij jl = absurd (omega arith)
apart low (r ∷ rs) zero (suc j) e ij jl = number_above r.number rs j (parts low r rs e).2 (omega arith)
apart low (r ∷ rs) (suc i) (suc j) e ij jl = apart r.number rs i j (parts low r rs e).2 (omega arith) (omega arith)

pub table_of : (rules : List Rule) → rises_from 0 rules ≡ true → IsTable rules
table_of rules e = record {
  low = λ k d l. let h : 0 < (get_or rules k d).number = all_above 0 0 rules (omega arith) e k d l in omega arith;
  high = all_below 0 rules e;
  differ = λ i j ij jl same. let h : get_or (map (λ (r : Rule). r.number) rules) i 0 < get_or (map (λ (r : Rule). r.number) rules) j 0 = apart 0 rules i j e ij jl in omega arith;
}
