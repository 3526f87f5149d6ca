-- What stores hold that sections were kept in.
use Rattle.std.proofs.Common.{◌≡◌, ◌≢◌, ◌⊎◌, ◌≤◌, ◌++◌, ◌∷◌, ℕ, Bool, true, false, List, [], All, Contains, Decides, Option, Some, None, inl, inr, length, refl, sym, ap, ◌∙◌, subst, true≢false}
use Rattle.std.specs.Prelude.{bytes_eq, unwrap_or}
use Rattle.std.proofs.lemmas.List.Elements.{All-cons, All-contains, All-nil, All-weaker, Contains-append_right}
use Rattle.std.proofs.lemmas.Slice.Eq.{bytes_eq-Decides}
use Rattle.tg_cid.specs.Cid.{CidParts}
use Rattle.tg_cid.specs.Names.{Names}
use Rattle.tg_model.specs.SameForm.{named_too, v1_or_not}
use Rattle.tg_cid.specs.Limits.{max_block_len}
use Rattle.tg_model_laws.proofs.OpenedDags.{first_one, one_hash}
use Rattle.tg_model_laws.specs.Stores.{IsBlockOfOne, IsNamed, KeptCollision, MayKeep}
use Rattle.tg_model.specs.Dag.{Section}
use Rattle.tg_model.specs.Stores.{Adds, AddsEach, AreKeptAs, IsStore, Store, as_v1}

-- ---- one section

-- CIDs that differ in their version alone have the same block
abbrev AreTwins : Store → Type 0
AreTwins store = (cid : CidParts) → store cid ≡ store (as_v1 cid)

twins_alike : (store : Store) (a b : CidParts) → AreTwins store → as_v1 a ≡ as_v1 b → store a ≡ store b
twins_alike store a b twins e = twins a ∙ ap store e ∙ sym (twins b)

twins_with : (old new : Store) (cid : CidParts) (block : List ℕ) → AreTwins old → Adds old new cid block → AreTwins new
twins_with old new cid block twins adds other =
    elim (v1_or_not other cid) [
      | inl same ↦ adds.here other same ∙ sym (adds.here (as_v1 other) same)
      | inr differs ↦ adds.others other differs ∙ twins other ∙ sym (adds.others (as_v1 other) differs)
    ]

-- what was stored under a CID stays there
one_stays : (old new : Store) (cid other : CidParts) (block found : List ℕ) → AreTwins old → Adds old new cid block → old other ≡ Some found → new other ≡ Some found
one_stays old new cid other block found twins adds e =
    elim (v1_or_not other cid) [
      | inl same ↦
          let there : old cid ≡ Some found = sym (twins_alike old other cid twins same) ∙ e in
          adds.here other same ∙ ap (λ (o : Option (List ℕ)). Some (unwrap_or o block)) there
      | inr differs ↦ adds.others other differs ∙ e
    ]

-- what is found under a CID of the section's form was stored there, or is the section's block
found_or_block : (stored : Option (List ℕ)) (block found : List ℕ) → Some (unwrap_or stored block) ≡ Some found → (stored ≡ Some found) ⊎ (block ≡ found)
found_or_block None block found e = inr (cc)
found_or_block (Some held) block found e = inl (e)

-- what is found was stored, or is the section's
from_either : (old new : Store) (cid other : CidParts) (block found : List ℕ) → AreTwins old → Adds old new cid block → new other ≡ Some found
    → (old other ≡ Some found) ⊎ ((as_v1 other ≡ as_v1 cid) × (block ≡ found))
from_either old new cid other block found twins adds e =
    elim (v1_or_not other cid) [
      | inl same ↦ elim (found_or_block (old cid) block found (sym (adds.here other same) ∙ e)) [
        | inl held ↦ inl (twins_alike old other cid twins same ∙ held)
        | inr mine ↦ inr (same, mine)
      ]
      | inr differs ↦ inl (sym (adds.others other differs) ∙ e)
    ]

-- ---- sections one after another

twins_each : (old new : Store) (sections : List Section) → AreTwins old → AddsEach old new sections → AreTwins new
twins_each old new [] twins adds = subst AreTwins (sym adds) twins
twins_each old new (section ∷ sections) twins adds =
    twins_each adds.0 new sections (twins_with old adds.0 section.cid section.block twins adds.1) adds.2

stays_along : (old new : Store) (sections : List Section) (cid : CidParts) (block : List ℕ) → AreTwins old → AddsEach old new sections → old cid ≡ Some block → new cid ≡ Some block
stays_along old new [] cid block twins adds e = ap (λ (store : Store). store cid) adds ∙ e
stays_along old new (section ∷ sections) cid block twins adds e =
    stays_along adds.0 new sections cid block (twins_with old adds.0 section.cid section.block twins adds.1) adds.2
    (one_stays old adds.0 section.cid cid section.block block twins adds.1 e)

pub stays_each : (old new : Store) (sections : List Section) (cid : CidParts) (block : List ℕ) → IsStore old → AddsEach old new sections → old cid ≡ Some block → new cid ≡ Some block
stays_each old new sections cid block is adds e = stays_along old new sections cid block is.twins adds e

-- what is found was stored, or is the block of a section that was kept
with_more : (section : Section) (sections : List Section) (cid : CidParts) (block : List ℕ) → IsBlockOfOne sections cid block → IsBlockOfOne (section ∷ sections) cid block
with_more section sections cid block one = record {
  source = one.source;
  is_one = Contains-append_right (section ∷ []) sections one.source one.is_one;
  same_form = one.same_form;
  block_is = one.block_is;
}

only_along : (old new : Store) (sections : List Section) (cid : CidParts) (block : List ℕ) → AreTwins old → AddsEach old new sections → new cid ≡ Some block
    → (old cid ≡ Some block) ⊎ IsBlockOfOne sections cid block
only_along old new [] cid block twins adds e = inl (ap (λ (store : Store). store cid) (sym adds) ∙ e)
only_along old new (section ∷ sections) cid block twins adds e =
    elim (only_along adds.0 new sections cid block (twins_with old adds.0 section.cid section.block twins adds.1) adds.2 e) [
      | inl there ↦ elim (from_either old adds.0 section.cid cid section.block block twins adds.1 there) [
        | inl held ↦ inl held
        | inr mine ↦ inr (record { source = section; is_one = first_one section sections; same_form = sym mine.0; block_is = mine.1 })
      ]
      | inr one ↦ inr (with_more section sections cid block one)
    ]

pub only_each : (old new : Store) (sections : List Section) (cid : CidParts) (block : List ℕ) → IsStore old → AddsEach old new sections → new cid ≡ Some block
    → (old cid ≡ Some block) ⊎ IsBlockOfOne sections cid block
only_each old new sections cid block is adds e = only_along old new sections cid block is.twins adds e

-- some block is stored under the section's CID
abbrev IsFound : Store → Section → Type 0
IsFound store section = (block : List ℕ) × (store section.cid ≡ Some block)

found_each : (old new : Store) (sections : List Section) → AreTwins old → AddsEach old new sections → All (IsFound new) sections
found_each old new [] twins adds = All-nil (IsFound new)
found_each old new (section ∷ sections) twins adds =
    let between : AreTwins adds.0 = twins_with old adds.0 section.cid section.block twins adds.1 in
    let block : List ℕ = unwrap_or (old section.cid) section.block in
    All-cons (IsFound new) section sections (block, stays_along adds.0 new sections section.cid block between adds.2 (adds.1.here section.cid refl)) (found_each adds.0 new sections between adds.2)

-- a section is stored
abbrev IsKept : Store → Section → Type 0
IsKept store section = store section.cid ≡ Some section.block

-- each of some sections is, or the other thing holds
all_or : (P : Section → Type 0) (Q : Type 0) (sections : List Section) → ((x : Section) → Contains sections x → P x ⊎ Q) → All P sections ⊎ Q
all_or P Q [] each = inl (All-nil P)
all_or P Q (section ∷ sections) each =
    elim (each section (first_one section sections)) [
      | inl here ↦ elim (all_or P Q sections (λ x within. each x (Contains-append_right (section ∷ []) sections x within))) [
        | inl later ↦ inl (All-cons P section sections here later)
        | inr other ↦ inr other
      ]
      | inr other ↦ inr other
    ]

module _ (old new : Store) (sections : List Section) (is : IsStore old) (adds : AddsEach old new sections) where
  -- what stands in the store is named
  named_by : All IsNamed sections → (cid : CidParts) (block : List ℕ) → new cid ≡ Some block → Names cid block
  named_by named cid block e =
      elim (only_each old new sections cid block is adds e) [
        | inl held ↦ is.named cid block held
        | inr one ↦
            let mine : Names one.source.cid one.source.block = All-contains IsNamed sections one.source named one.is_one in
            subst (λ (block : List ℕ). Names cid block) one.block_is (named_too cid one.source.cid one.source.block (sym one.same_form) mine)
      ]

  -- and small
  small_by : All MayKeep sections → (cid : CidParts) (block : List ℕ) → new cid ≡ Some block → length block ≤ max_block_len
  small_by may cid block e =
      elim (only_each old new sections cid block is adds e) [
        | inl held ↦ is.small cid block held
        | inr one ↦ subst (λ (block : List ℕ). length block ≤ max_block_len) one.block_is (All-contains MayKeep sections one.source may one.is_one).small
      ]

  -- what stands under the CID of a section that was kept, and the section's block
  stored_or_collide : (section : Section) (stored : List ℕ) (test : Bool) → All IsNamed sections → Contains sections section → new section.cid ≡ Some stored
      → Decides test (section.block ≡ stored) → IsKept new section ⊎ KeptCollision old new sections
  stored_or_collide section stored true named within e decides = inl (e ∙ ap (λ (block : List ℕ). Some block) (sym (decides.0 refl)))
  stored_or_collide section stored false named within e decides =
      let differ : section.block ≢ stored = λ same. true≢false (sym (decides.1 same)) in
      let mine : Names section.cid section.block = All-contains IsNamed sections section named within in
      let clash = one_hash section.cid.hash section.cid.digest section.block stored mine (named_by named section.cid stored e) differ in
      inr (record {
        kept = section;
        stored = stored;
        is_kept = within;
        is_stored = e;
        from = only_each old new sections section.cid stored is adds e;
        kind = clash.0;
        differ = differ;
        same_hash = clash.1;
      })

  held_or_collide : All IsNamed sections → (section : Section) → Contains sections section → IsKept new section ⊎ KeptCollision old new sections
  held_or_collide named section within =
      let found : IsFound new section = All-contains (IsFound new) sections section (found_each old new sections is.twins adds) within in
      stored_or_collide section found.0 (bytes_eq section.block found.0) named within found.1 (bytes_eq-Decides section.block found.0)

pub holds_each : (old new : Store) (sections : List Section) → IsStore old → All IsNamed sections → AddsEach old new sections
    → All (λ section. new section.cid ≡ Some section.block) sections ⊎ KeptCollision old new sections
holds_each old new sections is named adds = all_or (IsKept new) (KeptCollision old new sections) sections (held_or_collide old new sections is adds named)

names_each : (sections : List Section) → All MayKeep sections → All IsNamed sections
names_each sections may = All-weaker MayKeep IsNamed (λ section one. one.named) sections may

pub store_each : (old new : Store) (sections : List Section) → IsStore old → All MayKeep sections → AddsEach old new sections → IsStore new
store_each old new sections is may adds = record {
  twins = twins_each old new sections is.twins adds;
  named = named_by old new sections is adds (names_each sections may);
  small = small_by old new sections is adds may;
}

-- one after another
adds_joins : (a b c : Store) (u v : List Section) → AddsEach a b u → AddsEach b c v → AddsEach a c (u ++ v)
adds_joins a b c [] v h g = subst (λ (store : Store). AddsEach store c v) h g
adds_joins a b c (section ∷ u) v h g = (h.0, h.1, adds_joins h.0 b c u v h.2 g)

untold_joins : (b c : Option Store) (v : List Section) → b ≡ None → AreKeptAs b c v → c ≡ None
untold_joins None c v h g = g
untold_joins (Some b) c v h g = absurd (cc h)

pub kept_joins : (a b c : Option Store) (u v : List Section) → AreKeptAs a b u → AreKeptAs b c v → AreKeptAs a c (u ++ v)
kept_joins None b c u v h g = untold_joins b c v h g
kept_joins (Some a) None c u v h g = absurd h
kept_joins (Some a) (Some b) None u v h g = absurd g
kept_joins (Some a) (Some b) (Some c) u v h g = adds_joins a b c u v h g
