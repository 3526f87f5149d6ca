-- The blocks of a file stand behind those to which they link.
use Rattle.std.proofs.Common.{◌≡◌, ⊎_elim, ℕ, List, [], ◌∷◌, ◌++◌, sym, ap, ◌∙◌, subst}
use Rattle.std.specs.Prelude.{All, Contains}
use Rattle.std.proofs.lemmas.List.{append-nil}
use Rattle.std.proofs.lemmas.List.Elements.{All-cons, All-nil, All-weaker, Contains-append_left, Contains-append_right, Contains-push}
use Rattle.tg_cid.specs.Cid.{CidParts}
use Rattle.tg_filedag.proofs.Forests.{AreSubtrees, all_trees}
use Rattle.tg_filedag.specs.State.{BalancedState, IsClosing, IsFrontFor, KeptInOrder, StandsFor}
use Rattle.tg_filedag.specs.Trees.{AreFileParts, AreOfFileParts, AreTrees, IsLastSubtree, bottom_up, bottom_up_of_children}
use Rattle.tg_filedag.specs.declared.subtree.Subtree.{Subtree}
use Rattle.tg_model.specs.Dag.{AreWhole, Children, Dag, IsWhole, Section, bare, links_of, no_child, node, root_cid, root_cids, unopened, with_child}
use Rattle.tg_model.specs.Reading.{Reads}
use Rattle.tg_model.specs.Sound.{AreCheckedAt, IsCheckedAt, Position, part, positions}
use Rattle.tg_model.specs.declared.kinds.Kind.{Kind}
use Rattle.tg_node_writing.specs.BlockOrder.{AreBehindLinks, LinksInto, cids_of}
use Rattle.tg_node_writing.specs.BlockOrderLaws.{behind_apart, behind_known, behind_nothing, behind_one, cid_among, cids_joined}

abbrev pub OneKind : Type 0
OneKind = (cid : CidParts) (block : List ℕ) (a b : Kind) → Reads cid block a → Reads cid block b → a ≡ b

-- ---- the roots are among the blocks

root_kept : (d : Dag) → IsWhole d → Contains (cids_of (bottom_up d)) (root_cid d)
root_kept (unopened cid) whole = absurd whole
root_kept (bare section fault) whole = absurd whole
root_kept (node section kind children) whole =
    cid_among (bottom_up_of_children children ++ section ∷ []) section (Contains-push (bottom_up_of_children children) section)

roots_kept : (children : Children) → AreWhole children → All (Contains (cids_of (bottom_up_of_children children))) (root_cids children)
roots_kept no_child whole = All-nil (Contains [])
roots_kept (with_child d children) whole =
    let here = cids_of (bottom_up d) in
    let rest = cids_of (bottom_up_of_children children) in
    subst (λ (l : List CidParts). All (Contains l) (root_cid d ∷ root_cids children)) (sym (cids_joined (bottom_up d) (bottom_up_of_children children)))
    (All-cons (Contains (here ++ rest)) (root_cid d) (root_cids children) (Contains-append_left here rest (root_cid d) (root_kept d whole.0))
    (All-weaker (Contains rest) (Contains (here ++ rest)) (λ cid has. Contains-append_right here rest cid has) (root_cids children) (roots_kept children whole.1)))

-- ---- the blocks of a DAG

mutual
  dag_order : OneKind → (position : Position) (d : Dag) → IsWhole d → IsCheckedAt position d → AreBehindLinks [] (bottom_up d)
  dag_order one position (unopened cid) whole checked = absurd whole
  dag_order one position (bare section fault) whole checked = absurd whole
  dag_order one position (node section kind children) whole checked =
      let known = cids_of (bottom_up_of_children children) in
      let links : LinksInto known section = λ other reads.
      subst (λ (l : List CidParts). All (Contains known) l) (checked.0.links ∙ ap links_of (one section.cid section.block kind other checked.0.reads reads))
      (roots_kept children whole) in
      behind_known known (bottom_up_of_children children) (section ∷ []) (λ cid has. has)
      (children_order one (positions position kind) children whole checked.1) (behind_one known section links)

  children_order : OneKind → (all : List Position) (children : Children) → AreWhole children → AreCheckedAt all children → AreBehindLinks [] (bottom_up_of_children children)
  children_order one all no_child whole checked = behind_nothing []
  children_order one [] (with_child d children) whole checked = absurd checked
  children_order one (position ∷ all) (with_child d children) whole checked =
      behind_apart (bottom_up d) (bottom_up_of_children children) (dag_order one position d whole.0 checked.0) (children_order one all children whole.1 checked.1)

parts_order : OneKind → (children : Children) → AreFileParts children → AreBehindLinks [] (bottom_up_of_children children)
parts_order one no_child parts = behind_nothing []
parts_order one (with_child d children) parts =
    behind_apart (bottom_up d) (bottom_up_of_children children) (dag_order one (part _) d parts.0.whole parts.0.checked) (parts_order one children parts.1)

-- ---- the parts for which subtrees stand

subtree_parts : (width : ℕ) (ss : List Subtree) (ds : Children) → AreSubtrees width ss ds → AreFileParts ds
subtree_parts width [] no_child h = tt
subtree_parts width [] (with_child d ds) h = absurd h
subtree_parts width (s ∷ ss) no_child h = absurd h
subtree_parts width (s ∷ ss) (with_child d ds) h = (h.0.is_part, subtree_parts width ss ds h.1)

closing_parts : (width : ℕ) (ss : List Subtree) (ds : Children) → AreTrees (IsLastSubtree width) width ss ds → AreFileParts ds
closing_parts width [] no_child h = tt
closing_parts width [] (with_child d ds) h = absurd h
closing_parts width (s ∷ []) no_child h = absurd h
closing_parts width (s ∷ []) (with_child d no_child) h = (h.is_part, tt)
closing_parts width (s ∷ []) (with_child d (with_child e ds)) h = absurd h
closing_parts width (s ∷ t ∷ ss) no_child h = absurd h
closing_parts width (s ∷ t ∷ ss) (with_child d ds) h = (h.0.is_part, closing_parts width (t ∷ ss) ds h.1)

of_parts : OneKind → (parts : Children) (sections : List Section) → AreFileParts parts → bottom_up_of_children parts ≡ sections → AreOfFileParts sections
of_parts one parts sections each are =
    record { parts = parts; each = each; are = are; order = subst (AreBehindLinks []) are (parts_order one parts each) }

standing : OneKind → (state : BalancedState) (chunks : List (List ℕ)) (kept : List Section) → StandsFor state chunks kept → AreOfFileParts kept
standing one state chunks kept h =
    of_parts one h.forest.trees kept (subtree_parts state.width state.subtrees h.forest.trees (all_trees state.width state.subtrees h.forest.trees h.forest.stand)) h.forest.kept_are

fronts : OneKind → (state : BalancedState) (chunks more : List (List ℕ)) (kept sections : List Section) → StandsFor state chunks kept
    → IsFrontFor state.width more kept sections → AreOfFileParts (kept ++ sections)
fronts one state chunks more kept sections h front =
    ⊎_elim
    (λ (none : sections ≡ []). subst AreOfFileParts (sym (ap (λ (l : List Section). kept ++ l) none ∙ append-nil kept)) (standing one state chunks kept h))
    (λ (some : (subtrees : List Subtree) × IsClosing state.width subtrees more (kept ++ sections)).
    of_parts one some.1.trees (kept ++ sections) (closing_parts state.width some.0 some.1.trees some.1.stand) some.1.kept_are)
    front

pub kept_in_order : OneKind → KeptInOrder
kept_in_order one = record { whole = λ d sound. dag_order one _ d sound.whole sound.checked; stands = standing one; front = fronts one }
