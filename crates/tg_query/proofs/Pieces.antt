-- The pieces of a query, one after another.
use Rattle.std.proofs.Common.{◌≡◌, Bor, ◌++◌, ℕ, ◌+◌, ◌<◌, ◌≤◌, List, [], ◌∷◌, Result, Ok, Err, get_or, inl, inr, length, drop, sym, ap, ◌∙◌}
use Rattle.std.proofs.lemmas.List.{drop_all, drop_more, length_push}
use Rattle.tg_query.specs.Answers.{Gives, ◌>>=◌}
use Rattle.tg_query.specs.declared.fault.QueryFault.{QueryFault}
use Rattle.tg_query.specs.Targets.{with_piece, with_pieces}
use Rattle.tg_query.specs.declared.targets.Asked.{Asked}

piece_here : (pieces : List (List ℕ)) (n : ℕ) (piece : List ℕ) (asked : Asked) → (n < length pieces) × (piece ≡ get_or pieces n piece)
    → with_pieces asked (drop n pieces) ≡ (with_piece asked piece >>= λ more. with_pieces more (drop (n + 1) pieces))
piece_here pieces n piece asked h =
    ap (with_pieces asked) (drop_more pieces n piece h.0 ∙ ap (λ (p : List ℕ). p ∷ drop (n + 1) pieces) (sym h.1))

pub piece_taken : (pieces : List (List ℕ)) (n : ℕ) (piece : List ℕ) (asked more : Asked) → (n < length pieces) × (piece ≡ get_or pieces n piece)
    → Gives (with_piece asked piece) (Ok more) → with_pieces asked (drop n pieces) ≡ with_pieces more (drop (n + 1) pieces)
piece_taken pieces n piece asked more h (inl e) = piece_here pieces n piece asked h ∙ ap (λ r. r >>= λ more. with_pieces more (drop (n + 1) pieces)) (sym e)
piece_taken pieces n piece asked more h (inr e) = absurd cc

pub piece_refused : (pieces : List (List ℕ)) (n : ℕ) (piece : List ℕ) (asked : Asked) (fault : QueryFault) (all : Result Asked QueryFault)
    → (n < length pieces) × (piece ≡ get_or pieces n piece) → all ≡ with_pieces asked (drop n pieces) → Gives (with_piece asked piece) (Err fault) → Gives all (Err fault)
piece_refused pieces n piece asked fault all h is (inl e) =
    inl (sym (is ∙ piece_here pieces n piece asked h ∙ ap (λ r. r >>= λ more. with_pieces more (drop (n + 1) pieces)) (sym e)))
piece_refused pieces n piece asked fault all h is (inr e) = inr e

pub pieces_end : (pieces : List (List ℕ)) (n : ℕ) (asked : Asked) (all : Result Asked QueryFault) → length pieces ≤ n → all ≡ with_pieces asked (drop n pieces)
    → Gives all (Ok asked)
pieces_end pieces n asked all past is = inl (sym (is ∙ ap (with_pieces asked) (drop_all n pieces past)))

pub one_more : (pieces : List (List ℕ)) (asked : Asked) (seen : List (Bor (List ℕ))) (x : Bor (List ℕ))
    → with_pieces asked (drop (length seen + 1) pieces) ≡ with_pieces asked (drop (length (seen ++ x ∷ [])) pieces)
one_more pieces asked seen x = ap (λ (n : ℕ). with_pieces asked (drop n pieces)) (sym (length_push seen x))
