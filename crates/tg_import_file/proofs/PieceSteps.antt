-- Pieces of a file one after another.
use Rattle.std.proofs.Common.{◌≡◌, ◌-◌, ℕ, List, [], ◌++◌, length, take, drop, refl, sym, ap, ◌∙◌, subst, arith, append_assoc}
use Rattle.std.proofs.lemmas.List.{append-nil, length-append, length-drop, take-append-drop, take_all}
use Rattle.tg_filedag.specs.Chunks.{ChunkerState}
use Rattle.tg_filedag.specs.State.{BalancedState}
use Rattle.tg_filedag.specs.Trees.{AreOfFileParts}
use Rattle.tg_node_writing.specs.KeepingSteps.{Joins, stops_behind}
use Rattle.tg_import_file.proofs.Taken.{takes_nothing, takes_on}
use Rattle.tg_import_file.specs.Taking.{MayTake, Stops, TakesPiece}
use Rattle.tg_model_laws.specs.Stores.{KeepingJoins}
use Rattle.tg_model.specs.Stores.{KeepMeaning, kept_in}
use Rattle.tg_model.specs.declared.stores.KeepFault.{KeepFault}

-- of a piece all but the rest was taken
pub record Taking {S : Type 0} (m : KeepMeaning S) (before now : S) (c : ChunkerState) (b : BalancedState) (c' : ChunkerState) (b' : BalancedState) (piece rest : List ℕ) : Type 0 where
  pub front : List ℕ
  pub split : front ++ rest ≡ piece
  pub takes : TakesPiece c b c' b' front (kept_in m before now)
  pub size : c'.size ≡ c.size
  pub width : b'.width ≡ b.width

pub taking_begins : {S : Type 0} → (m : KeepMeaning S) → ((s : S) → m.kept s s []) → (s : S) (c : ChunkerState) (b : BalancedState) (piece : List ℕ)
    → Taking m s s c b c b piece piece
taking_begins m rests s c b piece = record { front = []; split = refl; takes = takes_nothing m rests s c b; size = refl; width = refl }

-- the rest may be taken
pub may_go_on : {S : Type 0} → (m : KeepMeaning S) (x y : S) (c d : ChunkerState) (b b' : BalancedState) (piece rest : List ℕ)
    → Taking m x y c b d b' piece rest → MayTake c b (length piece) → MayTake d b' (length rest)
may_go_on m x y c d b b' piece rest t may =
    let next = t.takes may.bytes may.kept may.taken in
    let few = may.few in
    let split : length (t.front ++ rest) ≡ length piece = ap length t.split in
    let whole = length-append t.front rest in
    let more = length-append may.bytes t.front in
    record { bytes = may.bytes ++ t.front; kept = may.kept ++ next.0; taken = next.2; few = omega arith }

taking_next : {S : Type 0} → (m : KeepMeaning S) → Joins m → KeepingJoins → (x y z : S) (c d e : ChunkerState) (b b' b'' : BalancedState) (piece rest : List ℕ) (n : ℕ)
    → Taking m x y c b d b' piece rest → TakesPiece d b' e b'' (take n rest) (kept_in m y z) → e.size ≡ d.size → b''.width ≡ b'.width
    → Taking m x z c b e b'' piece (drop n rest)
taking_next m joins stores x y z c d e b b' b'' piece rest n t takes size width = record {
  front = t.front ++ take n rest;
  split = append_assoc t.front (take n rest) (drop n rest) ∙ ap (λ (u : List ℕ). t.front ++ u) (take-append-drop n rest) ∙ t.split;
  takes = takes_on m joins stores x y z c d e b b' b'' t.front (take n rest) t.takes takes;
  size = size ∙ t.size;
  width = width ∙ t.width;
}

pub taking_cut : {S : Type 0} → (m : KeepMeaning S) → Joins m → KeepingJoins → (x y z : S) (c d e : ChunkerState) (b b' b'' : BalancedState) (piece rest : List ℕ) (n : ℕ)
    → Taking m x y c b d b' piece rest → TakesPiece d b' e b'' (take n rest) (kept_in m y z) → e.size ≡ d.size → b''.width ≡ b'.width
    → Taking m x z c b e b'' piece (take (length rest - n) (drop n rest))
taking_cut m joins stores x y z c d e b b' b'' piece rest n t takes size width =
    let long = length-drop n rest in
    subst (Taking m x z c b e b'' piece) (sym (take_all (length rest - n) (drop n rest) (omega arith)))
    (taking_next m joins stores x y z c d e b b' b'' piece rest n t takes size width)

pub taking_ends : {S : Type 0} → (m : KeepMeaning S) (x y : S) (c d : ChunkerState) (b b' : BalancedState) (piece rest : List ℕ)
    → Taking m x y c b d b' piece rest → rest ≡ [] → TakesPiece c b d b' piece (kept_in m x y)
taking_ends m x y c d b b' piece rest t none =
    let all : t.front ≡ piece = sym (append-nil t.front) ∙ ap (λ (u : List ℕ). t.front ++ u) (sym none) ∙ t.split in
    subst (λ (u : List ℕ). TakesPiece c b d b' u (kept_in m x y)) all t.takes

-- a fault behind what was kept
pub stops_on : {S : Type 0} → (m : KeepMeaning S) → Joins m → KeepingJoins → (x y z : S) (c d : ChunkerState) (b e : BalancedState) (front : List ℕ) (fault : KeepFault)
    → TakesPiece c b d e front (kept_in m x y) → Stops d e fault (kept_in m y z) → Stops c b fault (kept_in m x z)
stops_on m joins stores x y z c d b e front fault takes stop bytes kept h =
    let first = takes bytes kept h in
    let next = stop (bytes ++ front) (kept ++ first.0) first.2 in (
      first.0 ++ next.0,
      stops_behind m joins stores x y z first.0 next.0 fault first.1 next.1,
      subst AreOfFileParts (append_assoc kept first.0 next.0) next.2,
    )
