-- A partial DAG is a DAG of the same root with some places unopened, or two different blocks have one CID.
use Rattle.std.proofs.Common.{◌≡◌, ◌≢◌, ◌⊎◌, ℕ, Bool, true, false, Some, None, List, [], ◌∷◌, ◌++◌, Contains, Decides, inl, inr, ⊎_elim, refl, sym, ap, ap₂, ◌∙◌, subst, subst₂, true≢false, arith}
use Rattle.std.proofs.lemmas.List.Elements.{Contains-append_left, Contains-append_right}
use Rattle.std.proofs.lemmas.Slice.Eq.{bytes_eq-Decides}
use Rattle.std.specs.Prelude.{bytes_eq}
use Rattle.sha2.specs.Sha256.{sha256}
use Rattle.tg_cid.specs.Cid.{CidParts}
use Rattle.tg_cid.specs.Names.{IsDigestOf, Names}
use Rattle.tg_cid.specs.declared.cid.HashKind.{HashKind}
use Rattle.tg_cid.specs.declared.cid.HashKind.TheVariants as hashes
use Rattle.tg_model.specs.Dag.{AreWhole, Dag, IsWhole, Children, Section, bare, blocks, blocks_of_children, with_child, links_of, no_child, node, root_cid, root_cids, unopened}
use Rattle.tg_model_laws.specs.PartialDags.{ChildrenOpenedFrom, OpenedFrom, alone, each, none, opened, same_bare, unseen}
use Rattle.tg_model.specs.Reading.{Reads}
use Rattle.tg_model.specs.Sound.{AreCheckedAt, IsCheckedAt, Position, positions}
use Rattle.tg_model.specs.declared.kinds.Kind.{Kind}

-- ---- the relation

-- both have one root
pub same_root : (s d : Dag) → OpenedFrom s d → root_cid s ≡ root_cid d
same_root _ _ (unseen cid d e) = e
same_root _ _ (alone section kind children) = refl
same_root _ _ (same_bare section fault) = refl
same_root _ _ (opened section kind children others h) = refl

-- and so have children
same_roots : (children others : Children) → ChildrenOpenedFrom children others → root_cids children ≡ root_cids others
same_roots _ _ none = refl
same_roots _ _ (each s d children others h g) = ap₂ (λ (cid : CidParts) (cids : List CidParts). cid ∷ cids) (same_root s d h) (same_roots children others g)

mutual
  -- what is opened from a checked DAG is checked
  pub opened_checked : (position : Position) (s d : Dag) → OpenedFrom s d → IsCheckedAt position d → IsCheckedAt position s
  opened_checked position _ _ (unseen cid d e) h = tt
  opened_checked position _ _ (alone section kind children) h = h.0.named
  opened_checked position _ _ (same_bare section fault) h = h
  opened_checked position _ _ (opened section kind children others g) h =
      let node = h.0 in (
        record { named = node.named; reads = node.reads; links = same_roots children others g ∙ node.links; stands = node.stands; of_size = node.of_size; tells_size = node.tells_size },
        children_checked (positions position kind) children others g h.1,
      )

  -- and so are its children
  children_checked : (places : List Position) (children others : Children) → ChildrenOpenedFrom children others → AreCheckedAt places others → AreCheckedAt places children
  children_checked places _ _ none h = tt
  children_checked [] _ _ (each s d children others g f) h = absurd h
  children_checked (place ∷ places) _ _ (each s d children others g f) h = (opened_checked place s d g h.0, children_checked places children others f h.1)

-- ---- blocks of one CID

-- two sections have one CID, with sha2-256, and different blocks with one SHA-256
pub record Clash (a b : Section) : Type 0 where
  pub same_cid : a.cid ≡ b.cid
  pub kind : a.cid.hash ≡ hashes.Sha256
  pub differ : a.block ≢ b.block
  pub same_hash : sha256 a.block ≡ sha256 b.block

-- a section of one list and one of another
abbrev pub Collision : List Section → List Section → Type 0
Collision received held = (a : Section) × (b : Section) × Contains received a × Contains held b × Clash a b

-- different blocks that a CID names have one SHA-256, which its digest is
pub one_hash : (hash : HashKind) (digest a b : List ℕ) → IsDigestOf hash digest a → IsDigestOf hash digest b → a ≢ b → (hash ≡ hashes.Sha256) × (sha256 a ≡ sha256 b)
one_hash hashes.Sha256 digest a b p q differ = (refl, sym p ∙ q)
one_hash hashes.Identity digest a b p q differ = absurd (differ (sym p ∙ q))

-- sections of one CID are equal, or they collide
pub compared : (a b : Section) (test : Bool) → Decides test (a.block ≡ b.block) → a.cid ≡ b.cid → Names a.cid a.block → Names b.cid b.block → (a ≡ b) ⊎ Clash a b
compared a b true decides e p q = inl (ap₂ (λ (cid : CidParts) (block : List ℕ). let section : Section = record { cid = cid; block = block } in section) e (decides.0 refl))
compared a b false decides e p q =
    let differ : a.block ≢ b.block = λ same. true≢false (sym (decides.1 same)) in
    let one = one_hash b.cid.hash b.cid.digest a.block b.block (subst (λ (cid : CidParts). Names cid a.block) e p) q differ in
    inr (record { same_cid = e; kind = ap (λ (cid : CidParts). cid.hash) e ∙ one.0; differ = differ; same_hash = one.1 })

-- the first of some sections is one of them
pub first_one : (a : Section) (sections : List Section) → Contains (a ∷ sections) a
first_one a sections = (0, omega arith, refl)

-- roots of one CID are equal, or they collide
roots_compared : (a b : Section) (received held : List Section) → a.cid ≡ b.cid → Names a.cid a.block → Names b.cid b.block → (a ≡ b) ⊎ Collision (a ∷ received) (b ∷ held)
roots_compared a b received held e p q =
    ⊎_elim (λ same. inl same) (λ clash. inr (a, b, first_one a received, first_one b held, clash)) (compared a b (bytes_eq a.block b.block) (bytes_eq-Decides a.block b.block) e p q)

-- a collision among some sections is one among more
among_more : (received held more more_held : List Section) → Collision received held → ((x : Section) → Contains received x → Contains more x)
    → ((x : Section) → Contains held x → Contains more_held x) → Collision more more_held
among_more received held more more_held (a, b, in_a, in_b, clash) in_more in_held = (a, b, in_more a in_a, in_held b in_b, clash)

-- behind other sections
more_before : (before received before_held held : List Section) → Collision received held → Collision (before ++ received) (before_held ++ held)
more_before before received before_held held c =
    among_more received held (before ++ received) (before_held ++ held) c (Contains-append_right before received) (Contains-append_right before_held held)

-- before other sections
more_behind : (received behind held behind_held : List Section) → Collision received held → Collision (received ++ behind) (held ++ behind_held)
more_behind received behind held behind_held c =
    among_more received held (received ++ behind) (held ++ behind_held) c (Contains-append_left received behind) (Contains-append_left held behind_held)

-- ---- a checked partial DAG and a sound one

-- a block has one kind under a CID
abbrev pub OneKind : Type 0
OneKind = (cid : CidParts) (block : List ℕ) (a b : Kind) → Reads cid block a → Reads cid block b → a ≡ b

-- what is opened, or else a collision among the blocks
abbrev OrCollision : Type 0 → List Section → List Section → Type 0
OrCollision P received held = P ⊎ Collision received held

module _ (one_kind : OneKind) where
  mutual
    -- a checked partial DAG is opened from a sound DAG with the same root, or blocks collide
    pub opened_or_collision : (position : Position) (s d : Dag) → IsWhole d → IsCheckedAt position s → IsCheckedAt position d → root_cid s ≡ root_cid d
        → OrCollision (OpenedFrom s d) (blocks s) (blocks d)
    opened_or_collision position (unopened cid) d w p h e = inl (unseen cid d e)
    opened_or_collision position (bare section None) (node other kind children) w p h e =
        elim (roots_compared section other [] (blocks_of_children children) e p h.0.named) [
          | inl same ↦ inl (subst (λ (s : Section). OpenedFrom (bare section None) (node s kind children)) same (alone section kind children))
          | inr c ↦ inr c
        ]
    opened_or_collision position (bare section (Some fault)) d w p h e = absurd p
    opened_or_collision position (node section kind children) (node other other_kind others) w p h e =
        elim (roots_compared section other (blocks_of_children children) (blocks_of_children others) e p.0.named h.0.named) [
          | inl same ↦
              let k = one_kind other.cid other.block kind other_kind (subst (λ (s : Section). Reads s.cid s.block kind) same p.0.reads) h.0.reads in
              elim (children_or_collision (positions position other_kind) children others w (subst (λ (t : Kind). AreCheckedAt (positions position t) children) k p.1) h.1
              (p.0.links ∙ ap links_of k ∙ sym h.0.links)) [
                | inl g ↦ inl (subst₂ (λ (s : Section) (t : Kind). OpenedFrom (node section kind children) (node s t others)) same k (opened section kind children others g))
                | inr c ↦ inr (more_before (section ∷ []) (blocks_of_children children) (other ∷ []) (blocks_of_children others) c)
              ]
          | inr c ↦ inr c
        ]
    opened_or_collision position _ (unopened cid) w p h e = absurd w
    opened_or_collision position _ (bare section fault) w p h e = absurd w

    -- and so are children
    children_or_collision : (places : List Position) (children others : Children) → AreWhole others → AreCheckedAt places children → AreCheckedAt places others → root_cids children ≡ root_cids others
        → OrCollision (ChildrenOpenedFrom children others) (blocks_of_children children) (blocks_of_children others)
    children_or_collision places no_child no_child w p h e = inl none
    children_or_collision [] (with_child s children) others w p h e = absurd p
    children_or_collision (place ∷ places) (with_child s children) (with_child d others) w p h e =
        elim (opened_or_collision place s d w.0 p.0 h.0 (cc)) [
          | inl f ↦ elim (children_or_collision places children others w.1 p.1 h.1 (cc)) [
            | inl g ↦ inl (each s d children others f g)
            | inr c ↦ inr (more_before (blocks s) (blocks_of_children children) (blocks d) (blocks_of_children others) c)
          ]
          | inr c ↦ inr (more_behind (blocks s) (blocks_of_children children) (blocks d) (blocks_of_children others) c)
        ]
    children_or_collision places _ _ w p h e = absurd (cc)
