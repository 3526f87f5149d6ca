-- Children one behind another, and the subtrees that stand for them.
use Rattle.std.proofs.Common.{◌≡◌, ◌<◌, ℕ, zero, suc, List, [], ◌∷◌, ◌++◌, length, take, drop, refl, sym, ap, ◌∙◌, arith, append_assoc}
use Rattle.std.specs.Prelude.{⊤}
use Rattle.tg_filedag.specs.Trees.{AreTrees, IsSubtree, bottom_up, bottom_up_of_children}
use Rattle.tg_filedag.specs.declared.subtree.Subtree.{Subtree}
use Rattle.tg_model.specs.Dag.{Children, Dag, Section, no_child, with_child}
use Rattle.tg_model.specs.ImportLayout.{leaves, leaves_of_children}

-- children one behind another
abbrev pub behind : Children → Children → Children
behind no_child more = more
behind (with_child d children) more = with_child d (behind children more)

pub leaves_behind : (a b : Children) → leaves_of_children (behind a b) ≡ leaves_of_children a ++ leaves_of_children b
leaves_behind no_child b = refl
leaves_behind (with_child d a) b = ap (λ (t : List (List ℕ)). leaves d ++ t) (leaves_behind a b) ∙ sym (append_assoc (leaves d) (leaves_of_children a) (leaves_of_children b))

pub sections_behind : (a b : Children) → bottom_up_of_children (behind a b) ≡ bottom_up_of_children a ++ bottom_up_of_children b
sections_behind no_child b = refl
sections_behind (with_child d a) b =
    ap (λ (t : List Section). bottom_up d ++ t) (sections_behind a b) ∙ sym (append_assoc (bottom_up d) (bottom_up_of_children a) (bottom_up_of_children b))

-- full trees, by cases without regard to the last
abbrev pub AreSubtrees : ℕ → List Subtree → Children → Type 0
AreSubtrees width [] no_child = ⊤
AreSubtrees width (s ∷ ss) (with_child d ds) = IsSubtree width s d × AreSubtrees width ss ds
AreSubtrees width [] (with_child d ds) = ⊥
AreSubtrees width (s ∷ ss) no_child = ⊥

pub all_trees : (width : ℕ) (ss : List Subtree) (ds : Children) → AreTrees (IsSubtree width) width ss ds → AreSubtrees width ss ds
all_trees width [] no_child h = tt
all_trees width [] (with_child d ds) h = absurd h
all_trees width (s ∷ []) no_child h = absurd h
all_trees width (s ∷ []) (with_child d no_child) h = (h, tt)
all_trees width (s ∷ []) (with_child d (with_child e ds)) h = absurd h
all_trees width (s ∷ t ∷ ss) no_child h = absurd h
all_trees width (s ∷ t ∷ ss) (with_child d ds) h = (h.0, all_trees width (t ∷ ss) ds h.1)

-- full trees, and one more behind them as the relation says
pub trees_push : (Last : Subtree → Dag → Type 0) (width : ℕ) (ss : List Subtree) (ds : Children) (s : Subtree) (d : Dag) → AreSubtrees width ss ds → Last s d
    → AreTrees Last width (ss ++ s ∷ []) (behind ds (with_child d no_child))
trees_push Last width [] no_child s d h l = l
trees_push Last width [] (with_child e ds) s d h l = absurd h
trees_push Last width (t ∷ ss) no_child s d h l = absurd h
trees_push Last width (t ∷ []) (with_child e no_child) s d h l = (h.0, l)
trees_push Last width (t ∷ []) (with_child e (with_child f ds)) s d h l = absurd h.1
trees_push Last width (t ∷ u ∷ ss) (with_child e ds) s d h l = (h.0, trees_push Last width (u ∷ ss) ds s d h.1 l)

-- full trees whose last is as the relation says
pub trees_from : (Last : Subtree → Dag → Type 0) (width : ℕ) → ((s : Subtree) (d : Dag) → IsSubtree width s d → Last s d) → (ss : List Subtree) (ds : Children)
    → AreSubtrees width ss ds → AreTrees Last width ss ds
trees_from Last width last [] no_child h = tt
trees_from Last width last [] (with_child d ds) h = absurd h
trees_from Last width last (s ∷ ss) no_child h = absurd h
trees_from Last width last (s ∷ []) (with_child d no_child) h = last s d h.0
trees_from Last width last (s ∷ []) (with_child d (with_child e ds)) h = absurd h.1
trees_from Last width last (s ∷ t ∷ ss) (with_child d ds) h = (h.0, trees_from Last width last (t ∷ ss) ds h.1)

-- the trees before a place are full, and those from it on are as before
pub record Split (Last : Subtree → Dag → Type 0) (width : ℕ) (ss : List Subtree) (ds : Children) (start : ℕ) : Type 0 where
  pub front : Children
  pub back : Children
  pub whole : ds ≡ behind front back
  pub fronts : AreSubtrees width (take start ss) front
  pub backs : AreTrees Last width (drop start ss) back

pub split : (Last : Subtree → Dag → Type 0) (width : ℕ) (ss : List Subtree) (ds : Children) (start : ℕ) → start < length ss → AreTrees Last width ss ds
    → Split Last width ss ds start
split Last width ss ds zero lt h = record { front = no_child; back = ds; whole = refl; fronts = tt; backs = h }
split Last width [] ds (suc start) lt h = absurd (omega arith)
split Last width (s ∷ []) ds (suc start) lt h = absurd (omega arith)
split Last width (s ∷ t ∷ ss) no_child (suc start) lt h = absurd h
split Last width (s ∷ t ∷ ss) (with_child d ds) (suc start) lt h =
    let rest = split Last width (t ∷ ss) ds start (omega arith) h.1 in
    record {
      front = with_child d rest.front;
      back = rest.back;
      whole = ap (λ (x : Children). with_child d x) rest.whole;
      fronts = (h.0, rest.fronts);
      backs = rest.backs;
    }
