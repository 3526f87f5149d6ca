-- Two partial DAGs that opened just the same, all or up to an unopened place, and have the same root and the same blocks, are
-- equal.
use Rattle.std.proofs.Common.{◌≡◌, ◌≢◌, ◌+◌, ℕ, Option, Some, None, List, [], ◌∷◌, ◌++◌, refl, sym, ap, ap₂, ◌∙◌, subst, append_assoc}
use Rattle.tg_cid.specs.Cid.{CidParts}
use Rattle.tg_model_laws.proofs.AskedPlaces.{Asked, Behind, ChildOpens, ChildrenOpen, Opens, along, asked_of_children, position_asked}
use Rattle.tg_model_laws.proofs.CountedPlaces.{just_asked}
use Rattle.tg_model_laws.specs.Openings.{IsAtPlace}
use Rattle.tg_model.specs.Dag.{Dag, Children, Section, bare, blocks, blocks_of_children, with_child, links_of, no_child, node, root_cid, root_cids, unopened}
use Rattle.tg_model.specs.Fits.{IsOpenedFor}
use Rattle.tg_model.specs.PathWalk.{Spot, TraversalEnd, gone, spot_at, stopped, whole}
use Rattle.tg_model.specs.Queries.{QueryParts}
use Rattle.tg_model.specs.Reading.{Reads}
use Rattle.tg_model.specs.Sound.{AreCheckedAt, IsBareBlock, IsCheckedAt, Position, positions, top}
use Rattle.tg_model.specs.Traversal.{opened_list, traversal}
use Rattle.tg_model.specs.declared.fault.BlockFault.{BlockFault}
use Rattle.tg_model.specs.declared.kinds.Kind.{Kind}

-- a block has at most one kind under a CID
abbrev pub OneKind : Type 0
OneKind = (cid : CidParts) (block : List ℕ) (a b : Kind) → Reads cid block a → Reads cid block b → a ≡ b

-- the first sections of equal lists are equal, and the others too
first_same : {A : Type 0} (x y : A) (xs ys : List A) → x ∷ xs ≡ y ∷ ys → (x ≡ y) × (xs ≡ ys)
first_same x y xs ys e = (cc, cc)

-- two lists that are empty together are empty
both_empty : {A : Type 0} (xs ys : List A) → xs ++ ys ≡ [] → (xs ≡ []) × (ys ≡ [])
both_empty [] ys e = (refl, e)
both_empty (x ∷ xs) ys e = absurd (cc)

-- what is behind two empty lists is equal
behind_empty : (xs ys more others : List Section) → xs ≡ [] → ys ≡ [] → xs ++ more ≡ ys ++ others → more ≡ others
behind_empty xs ys more others h g e =
    ap (λ (sections : List Section). sections ++ more) (sym h) ∙ e ∙ ap (λ (sections : List Section). sections ++ others) g

-- a checked block that isn't read on has no fault
no_fault : (section : Section) (fault : Option BlockFault) → IsBareBlock section fault → fault ≡ None
no_fault section None h = refl
no_fault section (Some fault) h = absurd h

-- DAGs of which nothing is opened, with one CID, are equal
unopened_same : (a b : Dag) → blocks a ≡ [] → blocks b ≡ [] → root_cid a ≡ root_cid b → a ≡ b
unopened_same (unopened cid) (unopened other) h g e = ap unopened e
unopened_same (unopened cid) (bare section fault) h g e = absurd (cc)
unopened_same (unopened cid) (node section kind children) h g e = absurd (cc)
unopened_same (bare section fault) b h g e = absurd (cc)
unopened_same (node section kind children) b h g e = absurd (cc)

-- and so are children
unopened_children_same : (a b : Children) → blocks_of_children a ≡ [] → blocks_of_children b ≡ [] → root_cids a ≡ root_cids b → a ≡ b
unopened_children_same no_child no_child h g e = refl
unopened_children_same no_child (with_child d children) h g e = absurd (cc)
unopened_children_same (with_child d children) no_child h g e = absurd (cc)
unopened_children_same (with_child d children) (with_child d_b children_b) h g e =
    let (here, later) = both_empty (blocks d) (blocks_of_children children) h in
    let (here_b, later_b) = both_empty (blocks d_b) (blocks_of_children children_b) g in
    let (root, roots) = first_same (root_cid d) (root_cid d_b) (root_cids children) (root_cids children_b) e in
    ap₂ with_child (unopened_same d d_b here here_b root) (unopened_children_same children children_b later later_b roots)

-- nothing is behind what ended at a place
abbrev EndsList : TraversalEnd → List Section → Type 0
EndsList end more = end ≢ whole → more ≡ []

-- behind an unopened place there is no block
none_behind : (end : TraversalEnd) (spot : Spot) (section : Section) (more others : List Section) → end ≡ stopped (gone spot) → EndsList end more → more ≡ section ∷ others → ⊥
none_behind end spot section more others h ends e =
    let none : more ≡ [] = ends (λ (came : end ≡ whole). cc) in
    cc

-- nothing is behind a child that ended at a place
ends_child : (first end : TraversalEnd) (P : TraversalEnd → Type 0) (children : Children) (more : List Section) → Behind first end P (blocks_of_children children ≡ []) → EndsList end more
    → EndsList first (blocks_of_children children ++ more)
ends_child whole end P children more h ends = λ ended. absurd (ended refl)
ends_child other end P children more h ends = λ ended. ap₂ (λ (xs ys : List Section). xs ++ ys) h.1 (ends (λ came. ended (sym h.0 ∙ came)))

-- two children of which the same is asked, or nothing; `more` and `others` are the sections behind their blocks
same_child : (asked : Option Asked) (depth : ℕ) (a b : Dag) (m n : TraversalEnd) (more others : List Section) → root_cid a ≡ root_cid b
    → ChildOpens asked (λ asked. Opens asked depth a) a m → ChildOpens asked (λ asked. Opens asked depth b) b n → blocks a ++ more ≡ blocks b ++ others
    → ((asked : Asked) → Opens asked depth a m → Opens asked depth b n → (a ≡ b) × (m ≡ n) × (more ≡ others)) → (a ≡ b) × (m ≡ n) × (more ≡ others)
same_child None depth a b m n more others root h g e inside =
    (unopened_same a b h.1 g.1 root, h.0 ∙ sym g.0, behind_empty (blocks a) (blocks b) more others h.1 g.1 e)
same_child (Some asked) depth a b m n more others root h g e inside = inside asked h g

-- the children behind two that ended alike
same_behind : (first m n : TraversalEnd) (a b : Children) (more others : List Section) (P Q : TraversalEnd → Type 0) → Behind first m P (blocks_of_children a ≡ [])
    → Behind first n Q (blocks_of_children b ≡ []) → root_cids a ≡ root_cids b → blocks_of_children a ++ more ≡ blocks_of_children b ++ others
    → (P m → Q n → (a ≡ b) × (m ≡ n) × (more ≡ others)) → (a ≡ b) × (m ≡ n) × (more ≡ others)
same_behind whole m n a b more others P Q h g roots e later = later h g
same_behind other m n a b more others P Q h g roots e later =
    (unopened_children_same a b h.1 g.1 roots, h.0 ∙ sym g.0, behind_empty (blocks_of_children a) (blocks_of_children b) more others h.1 g.1 e)

mutual
  -- two DAGs that opened just the same, where each one's blocks begin one list of sections, and end it at an unopened place
  same_dag : OneKind → (asked : Asked) (depth : ℕ) (p r : Position) (a b : Dag) (m n : TraversalEnd) (more others : List Section) → Opens asked depth a m → Opens asked depth b n
      → IsCheckedAt p a → IsCheckedAt r b → root_cid a ≡ root_cid b → EndsList m more → EndsList n others → blocks a ++ more ≡ blocks b ++ others
      → (a ≡ b) × (m ≡ n) × (more ≡ others)
  same_dag law asked depth p r (unopened cid) (unopened cid_b) m n more others h g k l root ends ends_b e = (ap unopened root, h ∙ ap (λ (cid : CidParts). stopped (gone (spot_at cid depth (position_asked asked)))) root ∙ sym g, e)
  same_dag law asked depth p r (unopened cid) (bare section fault) m n more others h g k l root ends ends_b e =
      absurd (none_behind m _ section more others h ends e)
  same_dag law asked depth p r (unopened cid) (node section kind children) m n more others h g k l root ends ends_b e =
      absurd (none_behind m _ section more (blocks_of_children children ++ others) h ends e)
  same_dag law asked depth p r (bare section fault) (unopened cid) m n more others h g k l root ends ends_b e =
      absurd (none_behind n _ section others more g ends_b (sym e))
  same_dag law asked depth p r (bare section fault) (bare section_b fault_b) m n more others h g k l root ends ends_b e =
      let (same, rest) = first_same section section_b more others e in
      (ap₂ bare same (no_fault section fault k ∙ sym (no_fault section_b fault_b l)), h.0 ∙ sym g.0, rest)
  same_dag law asked depth p r (bare section fault) (node section_b kind_b children_b) m n more others h g k l root ends ends_b e = absurd (cc (h.1, g.0))
  same_dag law asked depth p r (node section kind children) (unopened cid) m n more others h g k l root ends ends_b e =
      absurd (none_behind n _ section others (blocks_of_children children ++ more) g ends_b (sym e))
  same_dag law asked depth p r (node section kind children) (bare section_b fault_b) m n more others h g k l root ends ends_b e = absurd (cc (h.0, g.1))
  same_dag law asked depth p r (node section kind children) (node section_b kind_b children_b) m n more others h g k l root ends ends_b e =
      let (same, rest) = first_same section section_b (blocks_of_children children ++ more) (blocks_of_children children_b ++ others) e in
      let kinds : kind ≡ kind_b =
      law section_b.cid section_b.block kind kind_b (subst (λ (s : Section). Reads s.cid s.block kind) same k.0.reads) l.0.reads in
      let todo : asked_of_children asked section_b kind_b ≡ asked_of_children asked section kind = ap₂ (asked_of_children asked) (sym same) (sym kinds) in
      let opens : ChildrenOpen (asked_of_children asked section kind) (depth + 1) children_b n = subst (λ (todo : List (Option Asked)). ChildrenOpen todo (depth + 1) children_b n) todo g.1 in
      let (same_children, ends_same, behind) = same_children law (asked_of_children asked section kind) (depth + 1) (positions p kind) (positions r kind_b) children children_b m n more others h.1 opens
      k.1 l.1 (k.0.links ∙ ap links_of kinds ∙ sym l.0.links) ends ends_b rest in
      (ap₂ (λ (s : Section) (c : Kind). node s c children) same kinds ∙ ap (node section_b kind_b) same_children, ends_same, behind)

  -- and two lists of children
  same_children : OneKind → (todo : List (Option Asked)) (depth : ℕ) (ps rs : List Position) (a b : Children) (m n : TraversalEnd) (more others : List Section) → ChildrenOpen todo depth a m
      → ChildrenOpen todo depth b n → AreCheckedAt ps a → AreCheckedAt rs b → root_cids a ≡ root_cids b → EndsList m more → EndsList n others
      → blocks_of_children a ++ more ≡ blocks_of_children b ++ others → (a ≡ b) × (m ≡ n) × (more ≡ others)
  same_children law todo depth ps rs no_child no_child m n more others h g k l roots ends ends_b e = (refl, h ∙ sym g, e)
  same_children law todo depth ps rs no_child (with_child d children) m n more others h g k l roots ends ends_b e = absurd (cc)
  same_children law todo depth ps rs (with_child d children) no_child m n more others h g k l roots ends ends_b e = absurd (cc)
  same_children law [] depth ps rs (with_child d children) (with_child d_b children_b) m n more others h g k l roots ends ends_b e = (
    unopened_children_same (with_child d children) (with_child d_b children_b) h.1 g.1 roots,
    h.0 ∙ sym g.0,
    behind_empty (blocks_of_children (with_child d children)) (blocks_of_children (with_child d_b children_b)) more others h.1 g.1 e,
  )
  same_children law (asked ∷ todo) depth [] rs (with_child d children) (with_child d_b children_b) m n more others h g k l roots ends ends_b e = absurd k
  same_children law (asked ∷ todo) depth (p ∷ ps) [] (with_child d children) (with_child d_b children_b) m n more others h g k l roots ends ends_b e = absurd l
  same_children law (asked ∷ todo) depth (p ∷ ps) (r ∷ rs) (with_child d children) (with_child d_b children_b) m n more others h g k l roots ends ends_b e =
      let (root, later) = first_same (root_cid d) (root_cid d_b) (root_cids children) (root_cids children_b) roots in
      let joined : blocks d ++ (blocks_of_children children ++ more) ≡ blocks d_b ++ (blocks_of_children children_b ++ others) =
      sym (append_assoc (blocks d) (blocks_of_children children) more) ∙ e ∙ append_assoc (blocks d_b) (blocks_of_children children_b) others in
      let (same, ends_same, rest) = same_child asked depth d d_b h.0 g.0 (blocks_of_children children ++ more) (blocks_of_children children_b ++ others) root h.1 g.1 joined
      (λ asked opens opens_b. same_dag law asked depth p r d d_b h.0 g.0 (blocks_of_children children ++ more) (blocks_of_children children_b ++ others) opens opens_b k.0 l.0 root
      (ends_child h.0 m (ChildrenOpen todo depth children) children more h.2 ends) (ends_child g.0 n (ChildrenOpen todo depth children_b) children_b others g.2 ends_b) joined) in
      let behind_b : Behind h.0 n (ChildrenOpen todo depth children_b) (blocks_of_children children_b ≡ []) =
      subst (λ (first : TraversalEnd). Behind first n (ChildrenOpen todo depth children_b) (blocks_of_children children_b ≡ [])) (sym ends_same) g.2 in
      let (same_later, ends_later, behind) = same_behind h.0 m n children children_b more others (ChildrenOpen todo depth children) (ChildrenOpen todo depth children_b) h.2 behind_b later rest
      (λ opens opens_b. same_children law todo depth ps rs children children_b m n more others opens opens_b k.1 l.1 later ends ends_b rest) in
      (ap₂ with_child same same_later, ends_later, behind)

-- what is opened for a query is determined by its list, and so is where the traversal ends
pub one_opened : OneKind → (q : QueryParts) (a b : Dag) → IsOpenedFor a q → IsOpenedFor b q → opened_list q a ≡ opened_list q b
    → IsAtPlace (traversal q a).end → IsAtPlace (traversal q b).end → (a ≡ b) × ((traversal q a).end ≡ (traversal q b).end)
one_opened law q a b h g list at at_b =
    let lists : blocks a ++ [] ≡ blocks b ++ [] = ap (λ (xs : List Section). xs ++ []) (h.opened ∙ list ∙ sym g.opened) in
    let (same, ends, behind) = same_dag law (along q.scope q.span top q.path) 1 top top a b (traversal q a).end (traversal q b).end [] [] (just_asked q a h at)
    (just_asked q b g at_b) h.checked g.checked (h.root ∙ sym g.root) (λ ended. refl) (λ ended. refl) lists in
    (same, ends)
