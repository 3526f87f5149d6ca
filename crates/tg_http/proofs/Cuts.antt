-- One line more of bytes in which a head text is looked for.
use Rattle.std.proofs.Common.{◌≡◌, ℕ, zero, suc, ◌+◌, ◌-◌, ◌≤◌, min, List, ◌++◌, length, take, drop, refl, sym, ap, ◌∙◌, subst, arith, add-one}
use Rattle.std.proofs.lemmas.List.{take-append-drop, take_rest, take-take, take_at, length-append, length-drop, length-take}
use Rattle.tg_http.specs.HeadText.{IsFullLine, HeadText, BeginsHead}
use Rattle.tg_http.proofs.Heads.{Tail, start_taken, field_taken}

pub size_fits : (bytes : List ℕ) (at size : ℕ) → at ≤ length bytes → size ≤ length (take (length bytes - at) (drop at bytes)) → at + size ≤ length bytes
size_fits bytes at size fits s =
    omega (arith, length-drop at bytes, (rw (take_rest bytes at) at s))

-- a line that isn't empty, with any number of them before it
pub full_takes : (lines : ℕ) (line more rest after : List ℕ) (count : ℕ) → IsFullLine line → Tail lines more count → more ++ rest ≡ line ++ after
    → (left : List ℕ) × Tail (lines + 1) left count × (more ≡ line ++ left)
full_takes zero line more rest after count l t same = start_taken line more rest after count l t same
full_takes (suc done) line more rest after count l t same = rw add-one (field_taken line more rest after done count l t same)

-- a head text in the front of the bytes is one of the bytes
pub front_begins : (bytes : List ℕ) (n m count : ℕ) → m ≡ min (length bytes) 16384 → n ≤ length (take m bytes) → HeadText (take n (take m bytes)) count
    → BeginsHead bytes (take n bytes) count
front_begins bytes n m count front fits t =
    let size : n ≤ m = omega (arith, length-take m bytes) in
    record {
      text_is = subst (λ (s : List ℕ). HeadText s count) (take-take n m bytes size) t;
      rest = drop n bytes;
      whole = sym (take-append-drop n bytes);
      fits = omega (arith, length-take n bytes);
    }

-- a head text at the front of the bytes is one of their front
pub begins_front : (bytes text : List ℕ) (m count : ℕ) → m ≡ min (length bytes) 16384 → BeginsHead bytes text count
    → (after : List ℕ) × (take m bytes ≡ text ++ after)
begins_front bytes text m count front b =
    let size : length text ≤ m = omega (arith, length-append text b.rest, ap length b.whole, b.fits) in
    let begun : take (length text) (take m bytes) ≡ text =
    take-take (length text) m bytes size ∙ ap (take (length text)) b.whole ∙ take_at text b.rest (length text) refl in
    (drop (length text) (take m bytes), sym (take-append-drop (length text) (take m bytes)) ∙ ap (λ (s : List ℕ). s ++ drop (length text) (take m bytes)) begun)
