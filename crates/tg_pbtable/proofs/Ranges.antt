-- The bytes at a place of a part of a text, as bytes of the whole text.
use Rattle.std.proofs.Common.{◌≡◌, ℕ, ◌+◌, ◌-◌, ◌≤◌, List, length, take, drop, sym, ap, ap₂, ◌∙◌, arith}
use Rattle.std.specs.Prelude.{slice_range}
use Rattle.std.proofs.lemmas.List.{length-drop, length-take-le, drop-drop, drop-take, take-take}

pub range_in : (text : List ℕ) (start end from to : ℕ) → start ≤ end → end ≤ length text → from ≤ to → to ≤ length (slice_range text start end)
    → slice_range text (start + from) (start + to) ≡ slice_range (slice_range text start end) from to
range_in text start end from to l m k n =
    let size : length (take (end - start) (drop start text)) ≡ end - start = length-take-le (end - start) (drop start text) (omega (arith, length-drop start text)) in
    let parts : end - start ≡ from + ((end - start) - from) = omega arith in
    let inner : drop from (take (end - start) (drop start text)) ≡ take ((end - start) - from) (drop from (drop start text)) =
    ap (λ (i : ℕ). drop from (take i (drop start text))) parts ∙ drop-take from ((end - start) - from) (drop start text) in
    let there : drop (start + from) text ≡ drop from (drop start text) = sym (drop-drop from start text) in
    let amount : (start + to) - (start + from) ≡ to - from = omega arith in
    ap₂ (λ (i : ℕ) (t : List ℕ). take i t) amount there
    ∙ sym (take-take (to - from) ((end - start) - from) (drop from (drop start text)) (omega arith))
    ∙ ap (take (to - from)) (sym inner)
