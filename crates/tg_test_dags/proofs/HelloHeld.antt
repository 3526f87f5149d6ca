-- The worked example's blocks have five digests, so that none takes another's place in a store.
use Rattle.std.proofs.Common.{All, List, Option, Some, [], ap, arith, inl, inr, refl, sym, ℕ, ◌∙◌, ◌∷◌, ◌≡◌}
use Rattle.std.proofs.lemmas.List.Elements.{All-cons, All-contains, All-nil}
use Rattle.std.specs.Prelude.{None, bytes_eq, if◌then◌else◌}
use Rattle.tg_cid.specs.Cid.{CidParts}
use Rattle.tg_mirror_laws.specs.Mirrored.{CollisionWithin, HoldsHashed, HoldsNothing, MirroredHolds, ServesAs, ServesHashed}
use Rattle.tg_model.specs.Dag.{Section}
use Rattle.tg_model.specs.Sound.{IsSound}
use Rattle.tg_model.specs.Stores.{AddsEach, IsStore, Store}
use Rattle.tg_model.specs.declared.queries.Scope.TheVariants as scopes
use Rattle.tg_oracle.specs.HelloWorld.{all_sections, d, f, l1, l2, l3, query_for, whole_dag}

-- what holds of each of the five holds of all
each_of : (P : Section → Type 0) → P d → P f → P l1 → P l2 → P l3 → All P all_sections
each_of P a b c e g =
    All-cons P d (f ∷ l1 ∷ l2 ∷ l3 ∷ []) a
    (All-cons P f (l1 ∷ l2 ∷ l3 ∷ []) b (All-cons P l1 (l2 ∷ l3 ∷ []) c (All-cons P l2 (l3 ∷ []) e (All-cons P l3 [] g (All-nil P)))))

-- the block of the first section with this digest
abbrev block_with : List Section → List ℕ → Option (List ℕ)
block_with [] digest = None
block_with (section ∷ sections) digest = if bytes_eq section.cid.digest digest then Some section.block else block_with sections digest

abbrev IsFirst : Section → Type 0
IsFirst section = block_with all_sections section.cid.digest ≡ Some section.block

some_one : (a b : List ℕ) → Some a ≡ Some b → a ≡ b
some_one a b e = cc

no_collision : CollisionWithin whole_dag → ⊥
no_collision c =
    let first : All IsFirst all_sections = each_of IsFirst refl refl refl refl refl in
    let one = All-contains IsFirst all_sections c.one first c.is_one in
    let other = All-contains IsFirst all_sections c.other first c.is_other in
    let digests : c.one.cid.digest ≡ c.other.cid.digest = ap (λ (cid : CidParts). cid.digest) c.same_form in
    c.differ (some_one c.one.block c.other.block (sym one ∙ ap (block_with all_sections) digests ∙ other))

module _ (holds : MirroredHolds) (sound : IsSound whole_dag) (old new : Store) (is : IsStore old) (nothing : HoldsNothing old) (adds : AddsEach old new all_sections) where
  hashed : HoldsHashed new whole_dag
  hashed =
      elim (holds old new whole_dag (query_for [] scopes.All None) (record { path = refl; scope = refl }) sound is nothing adds) [
        | inl held ↦ held
        | inr collide ↦ absurd (no_collision collide)
      ]

  pub hello_held : All (λ section. new section.cid ≡ Some section.block) all_sections
  hello_held =
      let held : HoldsHashed new whole_dag = hashed in
      each_of (λ (section : Section). new section.cid ≡ Some section.block) (held d (0, omega arith, refl) refl) (held f (1, omega arith, refl) refl) (held l1 (2, omega arith, refl) refl) (held l2 (3, omega arith, refl) refl) (held l3 (4, omega arith, refl) refl)

  pub hello_serves : ServesHashed → ServesAs new whole_dag
  hello_serves serves = serves new whole_dag sound hashed
