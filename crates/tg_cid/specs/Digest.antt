-- A digest in the front of a room of 128 bytes, of which the others are zero.
use Rattle.std.specs.Prelude.{◌≡◌, ℕ, ◌-◌, ◌≤◌, List, ◌++◌, length, take, drop, replicate}
use Rattle.std.proofs.Common.{sym, ap, ◌∙◌, subst, take-append-drop}
use Rattle.std.proofs.lemmas.List.{length-take-le}

pub size_again : (size : ℕ) (room : List ℕ) → size ≤ 128 → length room ≡ 128 → length (take size room) ≡ size
size_again size room h e = length-take-le size room (subst (λ (n : ℕ). size ≤ n) (sym e) h)

pub room_again : (size : ℕ) (room : List ℕ) → size ≤ 128 → length room ≡ 128 → drop size room ≡ replicate (128 - size) 0
    → take size room ++ replicate (128 - length (take size room)) 0 ≡ room
room_again size room h e zeros =
    ap (λ n. take size room ++ replicate (128 - n) 0) (size_again size room h e)
    ∙ ap (λ rest. take size room ++ rest) (sym zeros) ∙ take-append-drop size room
