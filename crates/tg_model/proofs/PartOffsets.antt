-- Where the parts of a file begin.
use Rattle.std.proofs.Common.{◌≡◌, ◌≤◌, ◌<◌, ℕ, ◌+◌, List, [], ◌∷◌, ◌++◌, length, map, sum, take, get_or, true, false, refl, sym, ap, ◌∙◌, arith, subst}
use Rattle.std.proofs.lemmas.List.{take_more}
use Rattle.std.proofs.lemmas.List.Sums.{sum-map, sum_by_more_le, sum_by-append}
use Rattle.std.proofs.lemmas.Option.{slice_get_read}
use Rattle.std.specs.Prelude.{sum_by, slice_get, Some}
use Rattle.tg_model.specs.Traversal.{is_met}
use Rattle.tg_model.specs.Window.{Meets, offset_of}
use Rattle.tg_model.specs.declared.kinds.Part.{Part}

-- the part behind one begins where that one ends
pub next_offset : (inline : ℕ) (parts : List Part) (i : ℕ) (part : Part) → part ≡ get_or parts i part → i < length parts
    → offset_of inline parts i + part.size ≡ offset_of inline parts (i + 1)
next_offset inline parts i part is within =
    let more : take (i + 1) parts ≡ take i parts ++ part ∷ [] = take_more parts i part within ∙ ap (λ (p : Part). take i parts ++ p ∷ []) (sym is) in
    let whole : sum (map (λ (p : Part). p.size) (take (i + 1) parts)) ≡ sum_by (λ (p : Part). p.size) (take i parts ++ part ∷ []) =
    sum-map (λ (p : Part). p.size) (take (i + 1) parts) ∙ ap (sum_by (λ (p : Part). p.size)) more in
    omega (arith, whole, sum_by-append (λ (p : Part). p.size) (take i parts) (part ∷ []), sum-map (λ (p : Part). p.size) (take i parts))

-- no part goes past the total
pub offset_within : (inline : ℕ) (parts : List Part) (i : ℕ) (part : Part) → part ≡ get_or parts i part → i < length parts
    → offset_of inline parts i + part.size ≤ inline + sum (map (λ p. p.size) parts)
offset_within inline parts i part is within =
    omega (arith, sum_by_more_le (λ (p : Part). p.size) parts i part within, ap (λ (p : Part). p.size) is, sum-map (λ (p : Part). p.size) (take i parts), sum-map (λ (p : Part). p.size) parts)

-- a part is met where its test holds
pub part_met : (inline : ℕ) (parts : List Part) (low high i : ℕ) (part : Part) → part ≡ get_or parts i part → i < length parts
    → is_met low high (offset_of inline parts i) part.size ≡ true → Meets inline parts low high i
part_met inline parts low high i part is within met = record { part = part; here = slice_get_read parts (length parts) i part refl within is; met = met }

-- and isn't where it fails
pub part_unmet : (inline : ℕ) (parts : List Part) (low high i : ℕ) (part : Part) → part ≡ get_or parts i part → i < length parts
    → is_met low high (offset_of inline parts i) part.size ≡ false → Meets inline parts low high i → ⊥
part_unmet inline parts low high i part is within unmet met =
    let here : slice_get parts i ≡ Some part = slice_get_read parts (length parts) i part refl within is in
    let there : slice_get parts i ≡ Some met.part = met.here in
    let same : met.part ≡ part = cc in
    let held : is_met low high (offset_of inline parts i) part.size ≡ true = subst (λ (p : Part). is_met low high (offset_of inline parts i) p.size ≡ true) same met.met in
    cc
