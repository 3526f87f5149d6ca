-- What is attached of a pack with a folder's DAG holds its blocks, or two different ones have one SHA-256.
use Rattle.sha2.specs.Sha256.{sha256}
use Rattle.std.proofs.Common.{All, Bool, Contains, List, Option, Some, [], ap, ap₂, false, inl, inr, refl, subst, sym, true, ℕ, ◌++◌, ◌∙◌, ◌∷◌, ◌≡◌, ◌⊎◌}
use Rattle.std.specs.List.{list_any}
use Rattle.std.specs.Prelude.{bytes_eq, cond, map, ◌≢◌}
use Rattle.std.proofs.lemmas.List.Elements.{All-cons, All-contains, All-contains_itself, All-nil, All-append}
use Rattle.std.proofs.lemmas.List.{append_cancel_left}
use Rattle.std.proofs.lemmas.Slice.Eq.{bytes_eq-Decides}
use Rattle.tg_audit.proofs.Members.{first_one, none_in, one_of, other_one}
use Rattle.tg_audit.specs.Holding.{AttachedHolds, CollidesOrNot, HoldsSpelled}
use Rattle.tg_audit.specs.Packing.{HoldsImported}
use Rattle.tg_car.specs.CarText.{SectionText, SectionsText}
use Rattle.tg_car.specs.Laws.{CarLaws}
use Rattle.tg_car.specs.declared.section.Section.{Section as CarSection}
use Rattle.tg_cid.specs.Cid.{CidParts}
use Rattle.tg_cid.specs.CodeLaws.{same_cid, same_cid_decides}
use Rattle.tg_cid.specs.Names.{IsDigestOf, Names}
use Rattle.tg_cid.specs.declared.cid.HashKind.{HashKind}
use Rattle.tg_cid.specs.declared.cid.HashKind.TheVariants.{Identity, Sha256}
use Rattle.tg_heard.specs.Exchanges.{HasOneBlockEach}
use Rattle.tg_model.specs.Dag.{Children, Dag, Section, bare, blocks, blocks_of_children, no_child, node, unopened, with_child}
use Rattle.tg_model.specs.ImportLayout.{HasPlainCid}
use Rattle.tg_model.specs.Sound.{AreCheckedAt, IsCheckedAt, Position, positions, top}
use Rattle.tg_model.specs.Dag.{AreWhole, IsWhole}
use Rattle.tg_model.specs.StoreView.{block_by}
use Rattle.tg_model.specs.Stores.{Store, as_v1}
use Rattle.tg_reply.specs.Bodies.{IsSpelled}
use Rattle.tg_store.specs.Attaching.{IsAttached, IsSmall, first_under}
use Rattle.tg_store.specs.Entries.{first_of_each, held_if, is_held, new_beside}
use Rattle.tg_store.specs.KeyLaws.{same_key_is, same_key_self}
use Rattle.tg_store.specs.Keys.{found_by, has_key, key_of, same_key}
use Rattle.tg_store.specs.Packs.{in_car}
use Rattle.tg_store.specs.declared.key.Key.{Key}
use Rattle.tg_tree.specs.declared.tree.Tree.{Tree}

-- ---- the sections of one text

-- nothing is no section
no_section : (s : CarSection) (text : List ℕ) → SectionText s text → text ≡ [] → ⊥
no_section s text t e = no_front (t.size_is.front) t.size_is.last t.size (t.name ++ s.block) t.size_is.whole (sym t.whole ∙ e)
  where
    no_front : (front : List ℕ) (last : ℕ) (size rest : List ℕ) → size ≡ front ++ last ∷ [] → size ++ rest ≡ [] → ⊥
    no_front [] last [] rest e f = absurd (cc e)
    no_front (x ∷ front) last [] rest e f = absurd (cc e)
    no_front front last (y ∷ size) rest e f = absurd (cc f)

first_none : (a b : List ℕ) → a ++ b ≡ [] → a ≡ []
first_none [] b e = refl
first_none (x ∷ a) b e = absurd (cc e)

same_sections : CarLaws → (ss ts : List CarSection) (u v : List ℕ) → SectionsText ss u → SectionsText ts v → u ≡ v → ss ≡ ts
same_sections laws [] [] u v h k e = refl
same_sections laws [] (t ∷ ts) u v h k e = absurd (no_section t k.0 k.3 (first_none k.0 k.1 (sym k.2 ∙ (sym e ∙ h))))
same_sections laws (s ∷ ss) [] u v h k e = absurd (no_section s h.0 h.3 (first_none h.0 h.1 (sym h.2 ∙ (e ∙ k))))
same_sections laws (s ∷ ss) (t ∷ ts) u v h k e =
    let both : h.0 ++ h.1 ≡ k.0 ++ k.1 = sym h.2 ∙ (e ∙ k.2) in
    let one = laws.one_section s t h.0 k.0 h.1 k.1 h.3 k.3 both in
    let rests : h.1 ≡ k.1 = append_cancel_left k.0 h.1 k.1 (ap (λ (l : List ℕ). l ++ h.1) (sym one.0) ∙ both) in
    ap₂ (λ (x : CarSection) (l : List CarSection). x ∷ l) one.1 (same_sections laws ss ts h.1 k.1 h.4 k.4 rests)

-- each of them has a text
texts_of : (ss : List CarSection) (u : List ℕ) → SectionsText ss u → All (λ s. (text : List ℕ) × SectionText s text) ss
texts_of [] u h = All-nil (λ s. (text : List ℕ) × SectionText s text)
texts_of (s ∷ ss) u h =
    All-cons (λ s. (text : List ℕ) × SectionText s text) s ss (h.0, h.3) (texts_of ss h.1 h.4)

-- ---- the first section under a CID

held_test : (hash : HashKind) (test : Bool) → held_if hash test ≡ true → hash ≡ Sha256 → test ≡ true
held_test Sha256 test h e = h
held_test Identity test h e = absurd (cc e)

free_hash : (hash : HashKind) (test : Bool) → held_if hash test ≡ false → hash ≡ Sha256
free_hash Sha256 test h = refl
free_hash Identity test h = absurd (cc h)

any_push : {A : Type 0} (test : A → Bool) (l : List A) (x : A) → list_any test l ≡ false → test x ≡ false → list_any test (l ++ x ∷ []) ≡ false
any_push test [] x none e = rw e refl
any_push test (y ∷ l) x none e = by (test y) refl (λ f. any_push test l x f e)
  where
    by : (b : Bool) → test y ≡ b → (list_any test l ≡ false → list_any test (l ++ x ∷ []) ≡ false) → list_any test ((y ∷ l) ++ x ∷ []) ≡ false
    by true is on = absurd (let no : true ≡ false = sym (rw is refl) ∙ none in cc no)
    by false is on = rw is (on (sym (rw is refl) ∙ none))

-- ---- the first section under a key

-- a section of these is found under the key, and has it
pub record IsFirst (key : Key) (sections : List Section) (cars : List CarSection) : Type 0 where
  pub section : Section
  pub among : Contains sections section
  pub in_text : Contains cars (in_car section)
  pub found : first_under key cars ≡ Some section.block
  pub hash : section.cid.hash ≡ Sha256
  pub same : key ≡ key_of section.cid

under_test : (hash : HashKind) (test : Bool) → hash ≡ Sha256 → has_key hash test ≡ test
under_test Sha256 test e = refl
under_test Identity test e = absurd (cc e)

-- the sections as they stand in the CAR, by whether the first is passed over
abbrev cars_if : List Key → Section → List Section → Bool → List CarSection
cars_if keys s sections held = map in_car (cond held (new_beside keys sections) (s ∷ new_beside (keys ++ key_of s.cid ∷ []) sections))

-- what holds of the sections behind one that is added
abbrev BehindKey : List Key → Section → List Section → Section → Type 0
BehindKey keys s sections x = Contains sections x → list_any (same_key (key_of x.cid)) (keys ++ key_of s.cid ∷ []) ≡ false
    → IsFirst (key_of x.cid) sections (map in_car (new_beside (keys ++ key_of s.cid ∷ []) sections))

first_of : (keys : List Key) (sections : List Section) (x : Section) → Contains sections x → x.cid.hash ≡ Sha256
    → list_any (same_key (key_of x.cid)) keys ≡ false → IsFirst (key_of x.cid) sections (map in_car (new_beside keys sections))
first_of keys [] x h sha free = absurd (none_in x h)
first_of keys (s ∷ sections) x h sha free =
    by_held (is_held keys s.cid) refl (λ c. first_of keys sections x c sha free) (λ c f. first_of (keys ++ key_of s.cid ∷ []) sections x c sha f)
  where
    -- what is found behind one that isn't added
    past : IsFirst (key_of x.cid) sections (map in_car (new_beside keys sections)) → IsFirst (key_of x.cid) (s ∷ sections) (map in_car (new_beside keys sections))
    past f = record { section = f.section; among = other_one s f.section sections f.among; in_text = f.in_text; found = f.found; hash = f.hash; same = f.same }

    held_before : is_held keys s.cid ≡ true → s ≡ x → ⊥
    held_before held same =
        let any : list_any (same_key (key_of s.cid)) keys ≡ true =
        held_test s.cid.hash (list_any (same_key (key_of s.cid)) keys) held (ap (λ (y : Section). y.cid.hash) same ∙ sha) in
        let no : true ≡ false = sym any ∙ (ap (λ (y : Section). list_any (same_key (key_of y.cid)) keys) same ∙ free) in
        cc no

    by_key : BehindKey keys s sections x → s.cid.hash ≡ Sha256 → (b : Bool) → same_key (key_of x.cid) (key_of s.cid) ≡ b → IsFirst (key_of x.cid) (s ∷ sections) (cars_if keys s sections false)
    by_key on own true same = record {
      section = s;
      among = first_one s sections;
      in_text = first_one (in_car s) (map in_car (new_beside (keys ++ key_of s.cid ∷ []) sections));
      found = ap (λ (b : Bool). cond b (Some s.block) (first_under (key_of x.cid) (map in_car (new_beside (keys ++ key_of s.cid ∷ []) sections))))
          (under_test s.cid.hash (same_key (key_of x.cid) (key_of s.cid)) own ∙ same);
      hash = own;
      same = same_key_is (key_of x.cid) (key_of s.cid) same;
    }
    by_key on own false apart =
        let elsewhere : Contains sections x = elim (one_of s x sections h) [
          | inl e ↦ absurd (let no : false ≡ true = sym apart ∙ (ap (λ (y : Section). same_key (key_of x.cid) (key_of y.cid)) e ∙ same_key_self (key_of x.cid)) in cc no)
          | inr b ↦ b
        ] in
        let f = on elsewhere (any_push (same_key (key_of x.cid)) keys (key_of s.cid) free apart) in
        record {
          section = f.section;
          among = other_one s f.section sections f.among;
          in_text = other_one (in_car s) (in_car f.section) (map in_car (new_beside (keys ++ key_of s.cid ∷ []) sections)) f.in_text;
          found = ap (λ (b : Bool). cond b (Some s.block) (first_under (key_of x.cid) (map in_car (new_beside (keys ++ key_of s.cid ∷ []) sections))))
              (under_test s.cid.hash (same_key (key_of x.cid) (key_of s.cid)) own ∙ apart) ∙ f.found;
          hash = f.hash;
          same = f.same;
        }

    by_held : (held : Bool) → is_held keys s.cid ≡ held → (Contains sections x → IsFirst (key_of x.cid) sections (map in_car (new_beside keys sections))) → BehindKey keys s sections x
        → IsFirst (key_of x.cid) (s ∷ sections) (cars_if keys s sections held)
    by_held true held skip on = elim (one_of s x sections h) [
      | inl e ↦ absurd (held_before held e)
      | inr b ↦ past (skip b)
    ]
    by_held false own skip on = by_key on (free_hash s.cid.hash (list_any (same_key (key_of s.cid)) keys) own) (same_key (key_of x.cid) (key_of s.cid)) refl

-- ---- what is attached

-- CIDv1s with sha2-256 and one key are one
same_plain : (a b : CidParts) → a.version ≡ 1 → b.version ≡ 1 → a.hash ≡ Sha256 → b.hash ≡ Sha256 → key_of a ≡ key_of b → a ≡ b
same_plain a b va vb ha hb k =
    λ i. record { version = (va ∙ sym vb) i; codec = (k i).codec; hash = (ha ∙ sym hb) i; digest = (k i).digest }

found_sha : (hash : HashKind) (digest : List ℕ) (found : Option (List ℕ)) → hash ≡ Sha256 → found_by hash digest found ≡ found
found_sha Sha256 digest found e = refl
found_sha Identity digest found e = absurd (cc e)

block_sha : (hash : HashKind) (digest : List ℕ) (found : Option (List ℕ)) → hash ≡ Sha256 → block_by hash digest found ≡ found
block_sha Sha256 digest found e = refl
block_sha Identity digest found e = absurd (cc e)

module _ (laws : CarLaws) (tree : Tree) (d : Dag) (content : List ℕ) (store : Store) (held : HoldsImported tree d content) (attached : IsAttached content store)
    (one : HasOneBlockEach d) where
  abbrev cars : List CarSection
  cars = map in_car (first_of_each held.sections)

  sections_are : attached.sections ≡ cars
  sections_are =
      let head = laws.one_header attached.roots ((0 ∷ held.car.name) ∷ []) attached.text.header held.car.text.header attached.text.rest held.car.text.rest
      attached.text.header_is held.car.text.header_is (sym attached.text.whole ∙ held.car.text.whole) in
      let rests : attached.text.rest ≡ held.car.text.rest =
      append_cancel_left held.car.text.header attached.text.rest held.car.text.rest
      (ap (λ (l : List ℕ). l ++ attached.text.rest) (sym head.0) ∙ (sym attached.text.whole ∙ held.car.text.whole)) in
      same_sections laws attached.sections cars attached.text.rest held.car.text.rest attached.text.sections_are held.car.text.sections_are rests

  -- the first section under the CID of a block is that block
  first_is : (x : Section) → Contains (blocks d) x → (y : Section) × (y ≡ x) × Contains cars (in_car y) × (first_under (key_of x.cid) cars ≡ Some y.block)
  first_is x h =
      let plain = All-contains HasPlainCid (blocks d) x held.imported.plain h in
      let f = first_of [] held.sections x ((held.all x).0 h) plain.1 refl in
      let other : Contains (blocks d) f.section = (held.all f.section).1 f.among in
      let plain_other = All-contains HasPlainCid (blocks d) f.section held.imported.plain other in
      let cid : f.section.cid ≡ x.cid = same_plain f.section.cid x.cid plain_other.0 plain.0 plain_other.1 plain.1 (sym f.same) in
      let block : f.section.block ≡ x.block = one f.section x other h (ap as_v1 cid) in
      (f.section, (λ i. record { cid = cid i; block = block i }), f.in_text, f.found)

  stored_is : (x : Section) → Contains (blocks d) x → store x.cid ≡ Some x.block
  stored_is x h =
      let plain = All-contains HasPlainCid (blocks d) x held.imported.plain h in
      let (y, same, among, found) = first_is x h in
      attached.stored x.cid
      ∙ found_sha x.cid.hash x.cid.digest (first_under (key_of x.cid) attached.sections) plain.1
      ∙ ap (first_under (key_of x.cid)) sections_are ∙ found ∙ ap (λ (z : Section). Some z.block) same

  spelled_is : (x : Section) → Contains (blocks d) x → IsSpelled x
  spelled_is x h =
      let (y, same, among, found) = first_is x h in
      let text = All-contains (λ s. (text : List ℕ) × SectionText s text) cars (in_car y) (texts_of cars held.car.text.rest held.car.text.sections_are) among in
      let small = All-contains IsSmall attached.sections (in_car y) attached.small (subst (λ (l : List CarSection). Contains l (in_car y)) (sym sections_are) among) in
      subst IsSpelled same (record { name = text.1.name; name_is = text.1.name_is; are_bytes = text.1.are_bytes; small = small })

  holds_spelled : HoldsSpelled store d
  holds_spelled = record {
    holds = record {
      blocks_are = λ x h. block_sha x.cid.hash x.cid.digest (store x.cid) (All-contains HasPlainCid (blocks d) x held.imported.plain h).1 ∙ stored_is x h;
      bytes = λ x h. (spelled_is x h).are_bytes;
    };
    spelled = λ k other less. spelled_is _ (All-contains_itself (blocks d) k other less);
  }

pub attached_holds : CarLaws → AttachedHolds
attached_holds laws tree d content store held attached one = holds_spelled laws tree d content store held attached one

-- ---- two different blocks under one CID

-- the blocks of a sound DAG are named by their CIDs
mutual
  pub named_each : (position : Position) (d : Dag) → IsWhole d → IsCheckedAt position d → All (λ (x : Section). Names x.cid x.block) (blocks d)
  named_each position (unopened cid) whole checked = absurd whole
  named_each position (bare section fault) whole checked = absurd whole
  named_each position (node section kind children) whole checked =
      All-cons (λ (x : Section). Names x.cid x.block) section (blocks_of_children children) checked.0.named (children_named (positions position kind) children whole checked.1)

  children_named : (places : List Position) (children : Children) → AreWhole children → AreCheckedAt places children
      → All (λ (x : Section). Names x.cid x.block) (blocks_of_children children)
  children_named places no_child whole checked = All-nil (λ (x : Section). Names x.cid x.block)
  children_named [] (with_child d children) whole checked = absurd checked
  children_named (position ∷ places) (with_child d children) whole checked =
      All-append (λ (x : Section). Names x.cid x.block) (blocks d) (blocks_of_children children) (named_each position d whole.0 checked.0) (children_named places children whole.1 checked.1)

-- of sections, two different blocks under one CID, or none
pub record HasTwo (sections : List Section) : Type 0 where
  pub one : Section
  pub other : Section
  pub is_one : Contains sections one
  pub is_other : Contains sections other
  pub same_cid : one.cid ≡ other.cid
  pub differ : one.block ≢ other.block

abbrev OneEach : List Section → Type 0
OneEach sections = (a b : Section) → Contains sections a → Contains sections b → a.cid ≡ b.cid → a.block ≡ b.block

-- one beside others
beside_one : (s : Section) (sections : List Section) → ((x : Section) × Contains sections x × (s.cid ≡ x.cid) × (s.block ≢ x.block))
    ⊎ ((x : Section) → Contains sections x → s.cid ≡ x.cid → s.block ≡ x.block)
beside_one s [] = inr (λ x h e. absurd (none_in x h))
beside_one s (y ∷ sections) = by_cid (same_cid s.cid y.cid) refl (beside_one s sections)
  where
    behind : ((s.cid ≡ y.cid) → s.block ≡ y.block) → ((x : Section) × Contains sections x × (s.cid ≡ x.cid) × (s.block ≢ x.block))
        ⊎ ((x : Section) → Contains sections x → s.cid ≡ x.cid → s.block ≡ x.block)
        → ((x : Section) × Contains (y ∷ sections) x × (s.cid ≡ x.cid) × (s.block ≢ x.block))
        ⊎ ((x : Section) → Contains (y ∷ sections) x → s.cid ≡ x.cid → s.block ≡ x.block)
    behind here (inl (x, h, e, differ)) = inl (x, other_one y x sections h, e, differ)
    behind here (inr each) = inr (λ x h e. elim (one_of y x sections h) [
      | inl same ↦ here (e ∙ sym (ap (λ (z : Section). z.cid) same)) ∙ ap (λ (z : Section). z.block) same
      | inr b ↦ each x b e
    ])

    by_block : (b : Bool) → bytes_eq s.block y.block ≡ b → s.cid ≡ y.cid → ((x : Section) × Contains sections x × (s.cid ≡ x.cid) × (s.block ≢ x.block))
        ⊎ ((x : Section) → Contains sections x → s.cid ≡ x.cid → s.block ≡ x.block)
        → ((x : Section) × Contains (y ∷ sections) x × (s.cid ≡ x.cid) × (s.block ≢ x.block))
        ⊎ ((x : Section) → Contains (y ∷ sections) x → s.cid ≡ x.cid → s.block ≡ x.block)
    by_block true is e rest = behind (λ c. (bytes_eq-Decides s.block y.block).0 is) rest
    by_block false is e rest =
        inl (y, first_one y sections, e, λ same. (let no : false ≡ true = sym is ∙ (bytes_eq-Decides s.block y.block).1 same in cc no))

    by_cid : (b : Bool) → same_cid s.cid y.cid ≡ b → ((x : Section) × Contains sections x × (s.cid ≡ x.cid) × (s.block ≢ x.block))
        ⊎ ((x : Section) → Contains sections x → s.cid ≡ x.cid → s.block ≡ x.block)
        → ((x : Section) × Contains (y ∷ sections) x × (s.cid ≡ x.cid) × (s.block ≢ x.block))
        ⊎ ((x : Section) → Contains (y ∷ sections) x → s.cid ≡ x.cid → s.block ≡ x.block)
    by_cid true is rest = by_block (bytes_eq s.block y.block) refl ((same_cid_decides s.cid y.cid).0 is) rest
    by_cid false is rest = behind (λ e. absurd (let no : false ≡ true = sym is ∙ (same_cid_decides s.cid y.cid).1 e in cc no)) rest

two_or_one : (sections : List Section) → HasTwo sections ⊎ OneEach sections
two_or_one [] = inr (λ a b in_a in_b e. absurd (none_in a in_a))
two_or_one (s ∷ sections) = by (beside_one s sections) (two_or_one sections)
  where
    by : ((x : Section) × Contains sections x × (s.cid ≡ x.cid) × (s.block ≢ x.block)) ⊎ ((x : Section) → Contains sections x → s.cid ≡ x.cid → s.block ≡ x.block)
        → HasTwo sections ⊎ OneEach sections → HasTwo (s ∷ sections) ⊎ OneEach (s ∷ sections)
    by (inl (x, h, e, differ)) rest =
        inl (record { one = s; other = x; is_one = first_one s sections; is_other = other_one s x sections h; same_cid = e; differ = differ })
    by (inr each) (inl two) = inl (record {
      one = two.one;
      other = two.other;
      is_one = other_one s two.one sections two.is_one;
      is_other = other_one s two.other sections two.is_other;
      same_cid = two.same_cid;
      differ = two.differ;
    })
    by (inr each) (inr one) = inr (λ a b in_a in_b e. elim (one_of s a sections in_a) [
      | inl is_a ↦ elim (one_of s b sections in_b) [
        | inl is_b ↦ sym (ap (λ (x : Section). x.block) is_a) ∙ ap (λ (x : Section). x.block) is_b
        | inr behind ↦ sym (ap (λ (x : Section). x.block) is_a) ∙ each b behind (ap (λ (x : Section). x.cid) is_a ∙ e)
      ]
      | inr before ↦ elim (one_of s b sections in_b) [
        | inl is_b ↦ sym (each a before (ap (λ (x : Section). x.cid) is_b ∙ sym e)) ∙ ap (λ (x : Section). x.block) is_b
        | inr behind ↦ one a b before behind e
      ]
    ])

digest_is : (hash : HashKind) (digest block : List ℕ) → hash ≡ Sha256 → IsDigestOf hash digest block → digest ≡ sha256 block
digest_is Sha256 digest block e h = h
digest_is Identity digest block e h = absurd (cc e)

pub collides_or_not : CollidesOrNot
collides_or_not d sound plain = elim (two_or_one (blocks d)) [
  | inl two ↦ inl (record {
    one = two.one;
    other = two.other;
    is_one = two.is_one;
    is_other = two.is_other;
    same_cid = two.same_cid;
    differ = two.differ;
    same_hash = sym (digest_at two.one two.is_one) ∙ (ap (λ (c : CidParts). c.digest) two.same_cid ∙ digest_at two.other two.is_other);
  })
  | inr each ↦ inr (λ a b in_a in_b e. each a b in_a in_b (as_one a b in_a in_b e))
]
  where
    digest_at : (x : Section) → Contains (blocks d) x → x.cid.digest ≡ sha256 x.block
    digest_at x h =
        digest_is x.cid.hash x.cid.digest x.block (All-contains HasPlainCid (blocks d) x plain h).1
        (All-contains (λ (y : Section). Names y.cid y.block) (blocks d) x (named_each top d sound.whole sound.checked) h)

    as_one : (a b : Section) → Contains (blocks d) a → Contains (blocks d) b → as_v1 a.cid ≡ as_v1 b.cid → a.cid ≡ b.cid
    as_one a b in_a in_b e =
        let va : a.cid.version ≡ 1 = (All-contains HasPlainCid (blocks d) a plain in_a).0 in
        let vb : b.cid.version ≡ 1 = (All-contains HasPlainCid (blocks d) b plain in_b).0 in
        λ i. record { version = (va ∙ sym vb) i; codec = (e i).codec; hash = (e i).hash; digest = (e i).digest }
