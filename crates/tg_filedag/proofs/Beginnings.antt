-- A value without a chunk.
use Rattle.std.proofs.Common.{◌≡◌, ◌+◌, ◌≤◌, ℕ, List, Option, None, [], ◌∷◌, ◌++◌, length, refl, sym, ap, ◌∙◌, subst, arith, length-append}
use Rattle.tg_bytes.specs.Lists.{joined, joined_push}
use Rattle.tg_node_writing.specs.Keeping.{Keeps}
use Rattle.tg_filedag.specs.Linking.{HasRoom, TakesLeaf}
use Rattle.tg_filedag.specs.State.{BalancedState, HasNoFullLevel, IsGrowing, StandsFor}
use Rattle.tg_filedag.specs.declared.subtree.Subtree.{Subtree}
use Rattle.tg_model.specs.Dag.{Section, no_child}
use Rattle.tg_model.specs.Stores.{Keeping}
use Rattle.tg_model.specs.declared.stores.KeepFault.{KeepFault}

nothing_grows : (width : ℕ) → 2 ≤ width → width ≤ 4096 → IsGrowing width [] [] []
nothing_grows width low high = record {
  trees = no_child;
  stand = tt;
  chunks_are = refl;
  kept_are = refl;
  falls = λ i j le lt. absurd (omega arith);
  few = λ i j e lt. absurd (omega arith);
  low = low;
  high = high;
  few_chunks = omega arith;
  few_bytes = omega arith;
}

abbrev pub begun : ℕ → Option KeepFault → List Subtree → BalancedState
begun width refused subtrees = record { width = width; leaves = 0; bytes = 0; refused = refused; subtrees = subtrees }

pub nothing_stands : (width : ℕ) (refused : Option KeepFault) (subtrees : List Subtree) → 2 ≤ width → width ≤ 4096 → refused ≡ None → subtrees ≡ []
    → StandsFor (begun width refused subtrees) [] []
nothing_stands width refused subtrees low high none e =
    let forest : IsGrowing width subtrees [] [] = subst (λ (t : List Subtree). IsGrowing width t [] []) (sym e) (nothing_grows width low high) in
    let levels : HasNoFullLevel width subtrees = subst (HasNoFullLevel width) (sym e) (λ i j e lt. absurd (omega arith)) in
    record { forest = forest; levels = levels; leaves_are = refl; bytes_are = refl; unrefused = none }

-- there is room for a leaf more
pub record HasLeafRoom (state : BalancedState) (chunk : List ℕ) : Type 0 where
  pub bytes : state.bytes + length chunk ≤ 1099511627776
  pub leaves : state.leaves + 1 ≤ 1099511627776

-- seen from inside
pub inside_room : (view state : BalancedState) (chunk : List ℕ) → view ≡ state → state.bytes + length chunk ≤ 1099511627776 → state.leaves + 1 ≤ 1099511627776
    → HasLeafRoom view chunk
inside_room view state chunk e bytes leaves = subst (λ (s : BalancedState). HasLeafRoom s chunk) (sym e) (record { bytes = bytes; leaves = leaves })

pub leaf_room : (state : BalancedState) (chunk : List ℕ) (chunks : List (List ℕ)) (kept : List Section) → StandsFor state chunks kept → HasLeafRoom state chunk
    → HasRoom chunks chunk
leaf_room state chunk chunks kept h room =
    let leaves = room.leaves in
    let bytes = room.bytes in
    let leaves_are = h.leaves_are in
    let bytes_are = h.bytes_are in
    (omega arith, omega arith)

-- a leaf more
pub leaf_stands : (state : BalancedState) (new : List Subtree) (chunk : List ℕ) (keeping : Keeping) → TakesLeaf state.width state.subtrees new chunk keeping
    → HasLeafRoom state chunk → (chunks : List (List ℕ)) (kept : List Section) → StandsFor state chunks kept
    → (sections : List Section) × Keeps sections keeping
    × StandsFor (record { width = state.width; leaves = state.leaves + 1; bytes = state.bytes + length chunk; refused = state.refused; subtrees = new })
    (chunks ++ chunk ∷ []) (kept ++ sections)
leaf_stands state new chunk keeping takes room chunks kept h =
    let leaves_are = h.leaves_are in
    let bytes_are = h.bytes_are in
    let step = takes chunks kept h.forest (leaf_room state chunk chunks kept h room) in
    let more = length-append chunks (chunk ∷ []) in
    let more_bytes : length (joined (chunks ++ chunk ∷ [])) ≡ length (joined chunks) + length chunk =
    ap length (joined_push chunks chunk) ∙ length-append (joined chunks) chunk in (
      step.0,
      step.1,
      record {
        forest = step.2;
        levels = step.3;
        leaves_are = omega arith;
        bytes_are = omega arith;
        unrefused = h.unrefused;
      },
    )
