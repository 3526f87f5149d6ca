-- A store in which all of a sound DAG was kept.
use Rattle.sha2.specs.Sha256.{sha256}
use Rattle.std.proofs.Common.{All, Bool, Contains, Decides, IfSome, List, None, Option, Some, [], ap, false, inl, inr, refl, subst, sym, true, true≢false, ℕ, ◌++◌, ◌<◌, ◌∙◌, ◌∷◌, ◌≡◌, ◌⊎◌}
use Rattle.std.specs.Prelude.{bytes_eq, not, ◌&&◌, ◌||◌}
use Rattle.std.proofs.lemmas.List.Elements.{All-cons, All-contains, All-nil, Contains-append_left, Contains-append_right, Contains-push}
use Rattle.std.proofs.lemmas.Slice.Eq.{bytes_eq-Decides}
use Rattle.tg_cid.specs.Cid.{CidParts}
use Rattle.tg_cid.specs.Names.{IsDigestOf, Names}
use Rattle.tg_cid.specs.declared.cid.HashKind.{HashKind}
use Rattle.tg_cid.specs.declared.cid.HashKind.TheVariants.{Identity, Sha256}
use Rattle.tg_mirror_laws.proofs.Digests.{identity_bytes}
use Rattle.tg_mirror_laws.specs.Mirrored.{AsksAll, CollisionWithin, HoldsByHashes, HoldsHashed, HoldsNothing, MirroredHolds, MirroredReplies, MirroredTold, ServesAs, ServesHashed}
use Rattle.tg_mirror_laws.specs.SameReplies.{SameReplies, SameViews}
use Rattle.tg_model.specs.Answer.{answer}
use Rattle.tg_model.specs.Dag.{Dag, IsWhole, Section, bare, blocks, node, root_cid, unopened}
use Rattle.tg_model.specs.Fits.{CollisionPair, Fits}
use Rattle.tg_model.specs.PathWalk.{PathWalk, path_walk, terminal}
use Rattle.tg_model.specs.Queries.{QueryParts}
use Rattle.tg_model.specs.Sound.{IsSound, top}
use Rattle.tg_model.specs.StoreView.{block_at, block_by}
use Rattle.tg_model.specs.Stores.{AddsEach, IsStore, Store, as_v1}
use Rattle.tg_model.specs.Traversal.{block_list, has_cid, is_asked, is_sent_behind, opened_list, sent}
use Rattle.tg_model.specs.declared.queries.Scope.TheVariants as scopes
use Rattle.tg_model_laws.specs.NamedBlocks.{checked_named}
use Rattle.tg_model_laws.specs.SentSections.{hashed_asked, held_asked, is_under, known_behind, sent_all, sent_behind, sent_held}
use Rattle.tg_model_laws.specs.Stores.{Holds, IsNamed, KeepingHolds, KeptCollision}

-- ---- what is sent of all of a DAG

-- that each terminal's traversal under scope all sends its blocks behind those of the path
abbrev pub SendsAll : Type 0
SendsAll = (q : QueryParts) (d t : Dag) → IsSound d → (path_walk q.path d).end ≡ terminal t → q.scope ≡ scopes.All
    → opened_list q d ≡ (path_walk q.path d).sections ++ blocks t

-- without a path the walk stays at the root
at_root : (d : Dag) → IsWhole d → path_walk [] d ≡ (let walk : PathWalk = record { sections = []; end = terminal d } in walk)
at_root (unopened cid) whole = absurd whole
at_root (bare section fault) whole = absurd whole
at_root (node section kind children) whole = refl

all_opened : SendsAll → (q : QueryParts) (d : Dag) → AsksAll q → IsSound d → opened_list q d ≡ blocks d
all_opened everything q d asks sound =
    let walk = ap (λ (path : List (List ℕ)). path_walk path d) asks.path ∙ at_root d sound.whole in
    everything q d d sound (ap (λ (w : PathWalk). w.end) walk) asks.scope ∙ ap (λ (w : PathWalk). w.sections ++ blocks d) walk

all_sent : SendsAll → (q : QueryParts) (d : Dag) → AsksAll q → IsSound d → block_list q d ≡ sent q (blocks d)
all_sent everything q d asks sound = ap (λ (sections : List Section). sent q sections) (all_opened everything q d asks sound)

-- under the CID of each section that is asked for one is sent
sent_under : (q : QueryParts) (sections : List Section) (x : Section) → x.cid.hash ≡ Sha256 → Contains sections x
    → (y : Section) × Contains (sent q sections) y × (y.cid ≡ x.cid)
sent_under q sections x hashed within = by q.dups refl
  where
    asks : is_asked q x.cid ≡ true
    asks = hashed_asked q x.cid hashed

    by : (dups : Bool) → q.dups ≡ dups → (y : Section) × Contains (sent q sections) y × (y.cid ≡ x.cid)
    by true e = (x, subst (λ (all : List Section). Contains all x) (sym (sent_all q sections e)) (held_asked q sections x asks within), refl)
    by false e =
        let none : is_sent_behind q sections x.cid ≡ false =
        ap (λ (b : Bool). b && (q.dups || not (has_cid x.cid sections))) asks ∙ ap (λ (b : Bool). b || not (has_cid x.cid sections)) e
        ∙ ap not (is_under x.cid sections x within refl) in
        elim (known_behind q (sent q sections) x.cid (sent_behind q sections x.cid ∙ none)) [
          | inl unasked ↦ let both : false ≡ true = sym unasked ∙ asks in absurd (cc both)
          | inr known ↦ known.1
        ]

-- ---- it was kept

first_one : (a : Section) (sections : List Section) → Contains (a ∷ sections) a
first_one a sections = Contains-append_left (a ∷ []) sections a (Contains-push [] a)

pub all_by_each : (P : Section → Type 0) (sections : List Section) → ((x : Section) → Contains sections x → P x) → All P sections
all_by_each P [] each = All-nil P
all_by_each P (section ∷ sections) each =
    All-cons P section sections (each section (first_one section sections)) (all_by_each P sections (λ x within. each x (Contains-append_right (section ∷ []) sections x within)))

-- each of some sections is, or the other thing holds
all_or : (P : Section → Type 0) (Q : Type 0) (sections : List Section) → ((x : Section) → Contains sections x → P x ⊎ Q) → All P sections ⊎ Q
all_or P Q [] each = inl (All-nil P)
all_or P Q (section ∷ sections) each =
    elim (each section (first_one section sections)) [
      | inl here ↦ elim (all_or P Q sections (λ x within. each x (Contains-append_right (section ∷ []) sections x within))) [
        | inl later ↦ inl (All-cons P section sections here later)
        | inr other ↦ inr other
      ]
      | inr other ↦ inr other
    ]

-- a CID with sha2-256 names blocks of one hash
hash_of : (cid : CidParts) (block : List ℕ) → cid.hash ≡ Sha256 → Names cid block → cid.digest ≡ sha256 block
hash_of cid block e named = subst (λ (hash : HashKind). IsDigestOf hash cid.digest block) e named

module _ (d : Dag) (sound : IsSound d) where
  -- sections of the DAG whose CIDs differ in their version alone have equal blocks, or they collide
  twins_or_collide : (a b : Section) (test : Bool) → Decides test (a.block ≡ b.block) → Contains (blocks d) a → Contains (blocks d) b → as_v1 a.cid ≡ as_v1 b.cid → a.cid.hash ≡ Sha256
      → (a.block ≡ b.block) ⊎ CollisionWithin d
  twins_or_collide a b true decides is_a is_b form kind = inl (decides.0 refl)
  twins_or_collide a b false decides is_a is_b form kind =
      let digests : a.cid.digest ≡ b.cid.digest = ap (λ (cid : CidParts). cid.digest) form in
      let hashes : a.cid.hash ≡ b.cid.hash = ap (λ (cid : CidParts). cid.hash) form in
      inr (record {
        one = a;
        other = b;
        is_one = is_a;
        is_other = is_b;
        same_form = form;
        kind = kind;
        differ = λ same. true≢false (sym (decides.1 same));
        same_hash =
            sym (hash_of a.cid a.block kind (checked_named top d sound.checked a is_a)) ∙ digests
            ∙ hash_of b.cid b.block (sym hashes ∙ kind) (checked_named top d sound.checked b is_b);
      })

  -- the block of a section with sha2-256 is stored
  abbrev IsHeldIn : Store → Section → Type 0
  IsHeldIn store section = section.cid.hash ≡ Sha256 → store section.cid ≡ Some section.block

  -- by one that is stored under its CID
  held_by : (new : Store) (x y : Section) → Contains (blocks d) x → Contains (blocks d) y → y.cid ≡ x.cid → new y.cid ≡ Some y.block → x.cid.hash ≡ Sha256
      → (new x.cid ≡ Some x.block) ⊎ CollisionWithin d
  held_by new x y is_x is_y same stored hashed =
      elim (twins_or_collide y x (bytes_eq y.block x.block) (bytes_eq-Decides y.block x.block) is_y is_x (ap as_v1 same) (ap (λ (cid : CidParts). cid.hash) same ∙ hashed)) [
        | inl blocks ↦ inl (ap new (sym same) ∙ stored ∙ ap (λ (block : List ℕ). Some block) blocks)
        | inr collide ↦ inr collide
      ]

  module _ (old new : Store) (q : QueryParts) where
    abbrev all_sections : List Section
    all_sections = sent q (blocks d)

    held_or_collide : All (λ section. new section.cid ≡ Some section.block) all_sections → (x : Section) → Contains (blocks d) x → IsHeldIn new x ⊎ CollisionWithin d
    held_or_collide stored x within = by x.cid.hash refl
      where
        by : (hash : HashKind) → x.cid.hash ≡ hash → IsHeldIn new x ⊎ CollisionWithin d
        by Identity e = inl (λ hashed. absurd (cc (e, hashed)))
        by Sha256 e =
            let there = sent_under q (blocks d) x e within in
            elim (
            held_by new x there.0 within (sent_held q (blocks d) there.0 there.1) there.2
            (All-contains (λ (section : Section). new section.cid ≡ Some section.block) all_sections there.0 stored there.1) e
            ) [
              | inl held ↦ inl (λ hashed. held)
              | inr collide ↦ inr collide
            ]

    -- a collision of what was kept is one of the DAG
    of_kept : HoldsNothing old → KeptCollision old new all_sections → CollisionWithin d
    of_kept nothing c =
        elim c.from [
          | inl held ↦ absurd (cc (nothing c.kept.cid c.kind, held))
          | inr one ↦ record {
            one = c.kept;
            other = one.source;
            is_one = sent_held q (blocks d) c.kept c.is_kept;
            is_other = sent_held q (blocks d) one.source one.is_one;
            same_form = sym one.same_form;
            kind = c.kind;
            differ = λ same. c.differ (same ∙ one.block_is);
            same_hash = c.same_hash ∙ ap sha256 (sym one.block_is);
          }
        ]

    kept_all : KeepingHolds → IsStore old → HoldsNothing old → AddsEach old new all_sections → HoldsHashed new d ⊎ CollisionWithin d
    kept_all keeping is nothing adds =
        let named : All IsNamed all_sections =
        all_by_each IsNamed all_sections (λ x within. checked_named top d sound.checked x (sent_held q (blocks d) x within)) in
        elim (keeping old new all_sections is named adds) [
          | inl stored ↦ elim (all_or (IsHeldIn new) (CollisionWithin d) (blocks d) (held_or_collide stored)) [
            | inl all ↦ inl (λ x within. All-contains (IsHeldIn new) (blocks d) x all within)
            | inr collide ↦ inr collide
          ]
          | inr c ↦ inr (of_kept nothing c)
        ]

pub mirrored_holds : SendsAll → KeepingHolds → MirroredHolds
mirrored_holds everything keeping old new d q asks sound is nothing adds =
    kept_all d sound old new q keeping is nothing (subst (λ (sections : List Section). AddsEach old new sections) (all_sent everything q d asks sound) adds)

-- ---- and so the store holds the DAG

hashed_block : (hash : HashKind) (digest : List ℕ) (stored : Option (List ℕ)) (block : List ℕ) → hash ≡ Sha256 → stored ≡ Some block → block_by hash digest stored ≡ Some block
hashed_block Sha256 digest stored block e held = held
hashed_block Identity digest stored block e held = absurd (cc e)

own_block : (hash : HashKind) (digest : List ℕ) (stored : Option (List ℕ)) (block : List ℕ) → hash ≡ Identity → IsDigestOf hash digest block → block_by hash digest stored ≡ Some block
own_block Sha256 digest stored block e named = absurd (cc e)
own_block Identity digest stored block e named = ap (λ (b : List ℕ). Some b) named

module _ (store : Store) (d : Dag) (sound : IsSound d) (holds : HoldsHashed store d) where
  led_to : (section : Section) → Contains (blocks d) section → block_at store section.cid ≡ Some section.block
  led_to section within = by section.cid.hash refl
    where
      by : (hash : HashKind) → section.cid.hash ≡ hash → block_at store section.cid ≡ Some section.block
      by Sha256 e = hashed_block section.cid.hash section.cid.digest (store section.cid) section.block e (holds section within e)
      by Identity e = own_block section.cid.hash section.cid.digest (store section.cid) section.block e (checked_named top d sound.checked section within)

  -- its blocks are bytes where another store holds it
  held_too : (other : Store) → Holds other d → Holds store d
  held_too other held = record { blocks_are = led_to; bytes = held.bytes }

  serves : SameViews → SameReplies → ServesAs store d
  serves views replies = record {
    holds = holds;
    views = λ other held. views store other d sound (held_too other held) held;
    replies = λ other head q held asks root. replies store other d head q sound (held_too other held) held asks root;
  }

pub serves_hashed : SameViews → SameReplies → ServesHashed
serves_hashed views replies store d sound holds = serves store d sound holds views replies

pub holds_by_hashes : HoldsByHashes
holds_by_hashes store d sound root holds bytes = record { blocks_are = led_to store d sound holds; bytes = λ section within. by section within section.cid.hash refl }
  where
    by : (section : Section) → Contains (blocks d) section → (hash : HashKind) → section.cid.hash ≡ hash → All (λ b. b < 256) section.block
    by section within Sha256 e = bytes section within e
    by section within Identity e = identity_bytes top d sound.whole sound.checked root section within e

-- ---- against every peer

-- sections that fit are those of the sound DAG with the query's root
abbrev pub AcceptedOnly : Type 0
AcceptedOnly = (q : QueryParts) (d s : Dag) (sections : List Section) (out : List ℕ) → IsSound d → root_cid d ≡ q.root → Fits s q sections out
    → ((sections ≡ block_list q d) × (answer q d ≡ Some out)) ⊎ CollisionPair sections d

pub mirrored_replies : AcceptedOnly → MirroredHolds → ServesHashed → MirroredReplies
mirrored_replies accepted holds serves old new s d q sections text asks fits is nothing adds sound root =
    elim (accepted q d s sections text sound root fits) [
      | inl own ↦ elim (holds old new d q asks sound is nothing (subst (λ (all : List Section). AddsEach old new all) own.0 adds)) [
        | inl held ↦ inl (serves new d sound held)
        | inr collide ↦ inr (inr collide)
      ]
      | inr pair ↦ inr (inl pair)
    ]

pub mirrored_told : MirroredReplies → MirroredTold
mirrored_told replies None new s d q sections text asks fits is nothing kept sound root = inl (subst (λ (now : Option Store). IfSome now (λ store. ServesAs store d)) (sym kept) tt)
mirrored_told replies (Some old) None s d q sections text asks fits is nothing kept sound root = absurd kept
mirrored_told replies (Some old) (Some new) s d q sections text asks fits is nothing kept sound root =
    replies old new s d q sections text asks fits is nothing kept sound root
