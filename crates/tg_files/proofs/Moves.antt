-- Bytes read at an offset, and paths that grow by a name.
use Rattle.std.proofs.Common.{arith, inl, inr, suc, get_or, drop-cons, add-one, ◌∷◌, min, ◌≡◌, ℕ, ◌+◌, ◌-◌, ◌<◌, List, [], ◌++◌, length, take, drop, Some, sym, ap, ◌∙◌, length-append, append_assoc, take-append-drop}
use Rattle.std.proofs.Math.Seq.{take-append_seam, drop-drop}
use Rattle.std.proofs.Math.ListN.{drop_of_length-le}
use Rattle.std.proofs.Math.Nat.{min-eq_left}
use Rattle.std.proofs.lemmas.Bool.{cases_lt}
use Rattle.std.proofs.lemmas.List.{take_rest, length-take, length-drop}
use Rattle.tg_files.specs.Folders.{path_below}
use Rattle.tg_files.specs.Packs.{ReadAt}

-- an offset past the end is one at the end
pub drop_to_end : (a b : ℕ) (xs : List ℕ) → a ≡ min (length xs) b → drop a xs ≡ drop b xs
drop_to_end a b xs e = elim (cases_lt (length xs) b) [
  | inl past ↦ drop_of_length-le xs (omega arith) ∙ sym (drop_of_length-le xs (omega arith))
  | inr within ↦ let same : a ≡ b = omega arith in ap (λ n. drop n xs) same
]

-- What was copied from an offset into the front of a buffer is what stands there.
pub read_copied : (copied buf content : List ℕ) (offset at n : ℕ) → copied ≡ take n (take (length content - at) (drop at content)) → at ≡ min (length content) offset
    → n ≡ min (length buf) (length (take (length content - at) (drop at content))) → ReadAt (Some content) offset n (copied ++ drop n buf)
read_copied copied buf content offset at n e from amount =
    let whole : take (length content - at) (drop at content) ≡ drop at content = take_rest content at in
    let amount_left : n ≡ min (length buf) (length (drop at content)) = rw whole at amount in
    let left = length-drop at content in
    let same : drop at content ≡ drop offset content = drop_to_end at offset content from in
    let behind : drop (at + n) content ≡ drop (offset + n) content = drop_to_end (at + n) (offset + n) content (omega arith) in
    let from_there : copied ≡ take n (drop at content) = e ∙ ap (take n) whole in
    let size : length copied ≡ n = ap length from_there ∙ length-take n (drop at content) ∙ min-eq_left (omega arith) in
    let front : take n (copied ++ drop n buf) ≡ copied = ap (λ k. take k (copied ++ drop n buf)) (sym size) ∙ take-append_seam copied (drop n buf) in
    let read : take n (drop at content) ≡ take n (copied ++ drop n buf) = sym (front ∙ from_there) in
    let piece : drop at content ≡ take n (copied ++ drop n buf) ++ drop (at + n) content =
    sym (take-append-drop n (drop at content)) ∙ ap (λ xs. xs ++ drop n (drop at content)) read ∙ ap (λ xs. take n (copied ++ drop n buf) ++ xs) (drop-drop n at content) in
    let room = length-append copied (drop n buf) in
    let rest = length-drop n buf in
    record {
      within = omega arith;
      bytes = ap (λ xs. Some xs) (sym same ∙ piece ∙ ap (λ xs. take n (copied ++ drop n buf) ++ xs) behind);
      end = λ none has_room. drop_of_length-le content (omega arith);
      past = λ nothing. let none : drop offset content ≡ [] = cc in let sizes = ap length none in let rest_size = length-drop offset content in omega arith;
    }

-- a path that stands for one more name
pub path_on : (root path : List ℕ) (names : List (List ℕ)) (i : ℕ) (name : List ℕ) → i < length names → name ≡ get_or names i name → path_below root names ≡ path_below path (drop i names)
    → path_below root names ≡ path_below ((path ++ 47 ∷ []) ++ name) (drop (i + 1) names)
path_on root path names i name h at so =
    let here : drop i names ≡ name ∷ drop (i + 1) names = rw add-one (drop-cons names i name h ∙ ap (λ n. n ∷ drop (suc i) names) (sym at)) in
    so ∙ ap (path_below path) here ∙ ap (λ p. path_below p (drop (i + 1) names)) (sym (append_assoc path (47 ∷ []) name))
