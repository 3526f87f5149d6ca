-- Each opened block of a checked DAG is one that its CID names, and an identity CID names one block.
use Rattle.std.proofs.Common.{◌≡◌, ℕ, Option, Some, None, List, [], ◌∷◌, Contains, inl, inr, sym, subst, arith}
use Rattle.std.proofs.lemmas.List.Elements.{Contains-append_cases, Contains-push_cases}
use Rattle.tg_cid.specs.Cid.{CidParts}
use Rattle.tg_cid.specs.Names.{IsDigestOf, Names}
use Rattle.tg_cid.specs.declared.cid.HashKind.{HashKind}
use Rattle.tg_cid.specs.declared.cid.HashKind.TheVariants.{Identity}
use Rattle.tg_model.specs.Dag.{Children, Dag, Section, bare, blocks, blocks_of_children, no_child, node, unopened, with_child}
use Rattle.tg_model.specs.Sound.{AreCheckedAt, IsBareBlock, IsCheckedAt, Position, positions}
use Rattle.tg_model.specs.declared.fault.BlockFault.{BlockFault}

-- what is told of a block that isn't read on
bare_named : (section : Section) (fault : Option BlockFault) → IsBareBlock section fault → Names section.cid section.block
bare_named section None h = h
bare_named section (Some fault) h = absurd h

mutual
  -- each opened block is named
  pub checked_named : (position : Position) (d : Dag) → IsCheckedAt position d → (x : Section) → Contains (blocks d) x → Names x.cid x.block
  checked_named position (unopened cid) h x held = absurd (omega (arith, held.1))
  checked_named position (bare section fault) h x held = elim (Contains-push_cases [] section x held) [
    | inl none ↦ absurd (omega (arith, none.1))
    | inr same ↦ subst (λ (y : Section). Names y.cid y.block) same (bare_named section fault h)
  ]
  checked_named position (node section kind children) h x held = elim (Contains-append_cases (section ∷ []) (blocks_of_children children) x held) [
    | inl here ↦ elim (Contains-push_cases [] section x here) [
      | inl none ↦ absurd (omega (arith, none.1))
      | inr same ↦ subst (λ (y : Section). Names y.cid y.block) same h.0.named
    ]
    | inr below ↦ children_named (positions position kind) children h.1 x below
  ]

  children_named : (places : List Position) (children : Children) → AreCheckedAt places children → (x : Section) → Contains (blocks_of_children children) x → Names x.cid x.block
  children_named places no_child h x held = absurd (omega (arith, held.1))
  children_named [] (with_child d children) h x held = absurd h
  children_named (place ∷ places) (with_child d children) h x held = elim (Contains-append_cases (blocks d) (blocks_of_children children) x held) [
    | inl here ↦ checked_named place d h.0 x here
    | inr behind ↦ children_named places children h.1 x behind
  ]

-- the block of an identity CID is its digest
pub identity_block : (cid : CidParts) (block : List ℕ) → cid.hash ≡ Identity → Names cid block → block ≡ cid.digest
identity_block cid block e named = sym (subst (λ (hash : HashKind). IsDigestOf hash cid.digest block) e named)
