-- Bytes that move in pieces, over lists alone.
use Rattle.std.proofs.Common.{arith, suc, get_or, drop-cons, ◌∷◌, min, ◌≡◌, ℕ, ◌+◌, ◌-◌, ◌<◌, ◌≤◌, List, [], ◌++◌, length, take, drop, Ok, Err, OnErr, sym, ap, ◌∙◌, length-append, append_assoc, take-append-drop}
use Rattle.std.proofs.Math.Seq.{take-add, take-append_seam, drop-drop}
use Rattle.std.proofs.Math.ListN.{drop_of_length-le}
use Rattle.std.proofs.Math.Nat.{min-eq_left}
use Rattle.std.proofs.lemmas.Grind.{flat_map-append}
use Rattle.std.proofs.lemmas.List.{take_rest, length-take, length-drop}
use Rattle.std.specs.declared.result.Result.{Result}
use Rattle.std.specs.List.{flat_map}

-- the front up to `at` and the first n bytes after it are the front up to at + n
pub take_on : (at n : ℕ) (xs : List ℕ) → take at xs ++ take n (take (length xs - at) (drop at xs)) ≡ take (at + n) xs
take_on at n xs = rw take_rest (sym (take-add at n xs))

-- a fact that stands anyway stands on an error
pub on_err : {T E P : Type 0} (r : Result T E) → P → OnErr r P
on_err (Ok x) p = tt
on_err (Err e) p = p

-- What was copied into the front of a buffer, and what then stands behind it in the source, are what stood there.
pub took_front : (copied buf bytes : List ℕ) (at n : ℕ) → copied ≡ take n (drop at bytes) → n ≤ length (drop at bytes)
    → drop at bytes ≡ take n (copied ++ drop n buf) ++ drop (at + n) bytes
took_front copied buf bytes at n e h =
    let size : length copied ≡ n = ap length e ∙ length-take n (drop at bytes) ∙ min-eq_left h in
    let front : take n (copied ++ drop n buf) ≡ copied = ap (λ k. take k (copied ++ drop n buf)) (sym size) ∙ take-append_seam copied (drop n buf) in
    sym (ap (λ xs. xs ++ drop (at + n) bytes) (front ∙ e) ∙ ap (λ xs. take n (drop at bytes) ++ xs) (sym (drop-drop n at bytes)) ∙ take-append-drop n (drop at bytes))

-- A take of no bytes into a buffer with room, by pieces of at least one byte, leaves nothing.
pub took_none : (piece at n : ℕ) (copied buf bytes : List ℕ) → 0 < piece → 0 < length (copied ++ drop n buf) → copied ≡ take n (drop at bytes)
    → n ≡ min (min piece (length buf)) (length (drop at bytes)) → n ≡ 0 → drop (at + n) bytes ≡ []
took_none piece at n copied buf bytes p room e amount none =
    let whole = length-append copied (drop n buf) in
    let rest = length-drop n buf in
    let size = ap length e ∙ length-take n (drop at bytes) in
    let left = length-drop at bytes in
    drop_of_length-le bytes (omega arith)

-- the pieces before the i-th, the i-th, and those behind it
pub pieces_split : {P : Type 0} (f : P → List ℕ) (pieces : List P) (i : ℕ) (d : P) → i < length pieces
    → flat_map f pieces ≡ (flat_map f (take i pieces) ++ f (get_or pieces i d)) ++ flat_map f (drop (suc i) pieces)
pieces_split f pieces i d h =
    ap (flat_map f) (sym (take-append-drop i pieces) ∙ ap (λ rest. take i pieces ++ rest) (drop-cons pieces i d h))
    ∙ flat_map-append f (take i pieces) (get_or pieces i d ∷ drop (suc i) pieces)
    ∙ sym (append_assoc (flat_map f (take i pieces)) (f (get_or pieces i d)) (flat_map f (drop (suc i) pieces)))
