-- What is stored by entries is a store, to which an entry under a new key adds its block.
use Rattle.std.specs.Prelude.{◌≡◌, ◌≢◌, ◌≤◌, ◌+◌, ◌⊎◌, ℕ, Bool, true, false, cond, ◌&&◌, nat_le, nat_lt, bytes_eq, List, []}
use Rattle.std.specs.Prelude.{◌∷◌, ◌++◌, length, map, Option, Some, None, option_and_then, is_some, unwrap_or, refl}
use Rattle.std.specs.List.{list_any}
use Rattle.std.specs.Map.{keys_of, lookup}
use Rattle.std.proofs.Common.{inl, inr, ap, ap₂, sym, subst, ◌∙◌, arith}
use Rattle.std.proofs.lemmas.Bool.{and_parts, and_from, cond-true}
use Rattle.std.proofs.lemmas.Grind.{common_steps}
use Rattle.std.proofs.lemmas.List.{append-nil, append_assoc, map-append}
use Rattle.std.proofs.lemmas.Map.Made.{is_some-lookup}
use Rattle.std.proofs.lemmas.Option.{cond_some}
use Rattle.std.proofs.lemmas.Slice.Eq.{bytes_eq-Decides}
use Rattle.sha2.specs.Sha256.{sha256}
use Rattle.tg_cid.specs.Cid.{CidParts}
use Rattle.tg_cid.specs.Limits.{max_block_len, max_digest_len}
use Rattle.tg_cid.specs.Names.{IsDigestOf, Names}
use Rattle.tg_cid.specs.declared.cid.HashKind.{HashKind}
use Rattle.tg_cid.specs.declared.cid.HashKind.TheVariants.{Sha256, Identity}
use Rattle.tg_model.specs.Dag.{Section}
use Rattle.tg_model.specs.Stores.{Adds, IsStore, as_v1}
use Rattle.tg_store.specs.declared.key.Key.{Key}
use Rattle.tg_store.specs.Entries.{HoldsMore, IsGood, checked, entry_of, held_if, is_held, new_beside, section_keys, store_of}
use Rattle.tg_store.specs.KeyLaws.{same_key_is, same_key_self}
use Rattle.tg_store.specs.Keys.{found_by, key_of, of_hash, own_digest, same_key}

-- ---- parts

-- a number below the one above a limit
below : (n m : ℕ) → nat_lt n (m + 1) ≡ true → n ≤ m
below n m h = grind (arith, common_steps)

pub small_test : (n m : ℕ) → n ≤ m → nat_lt n (m + 1) ≡ true
small_test n m h = grind (arith, common_steps)

-- a number up to a limit
below_most : (n m : ℕ) → nat_le n m ≡ true → n ≤ m
below_most n m h = grind (arith, common_steps)

most_test : (n m : ℕ) → n ≤ m → nat_le n m ≡ true
most_test n m h = grind (arith, common_steps)

-- a checked block
pub checked_is : (key : Key) (block found : List ℕ) → checked key block ≡ Some found
    → (block ≡ found) × IsGood key found
checked_is key block found h =
    let p = cond_some (bytes_eq key.digest (sha256 block) && nat_lt (length block) (max_block_len + 1)) block found h in
    let tests = and_parts _ _ p.0 in
    let good : IsGood key block = record { named = (bytes_eq-Decides key.digest (sha256 block)).0 tests.0; small = below (length block) max_block_len tests.1 } in
    (p.1, subst (IsGood key) p.1 good)

-- a good block passes
pub good_checked : (key : Key) (block : List ℕ) → IsGood key block → checked key block ≡ Some block
good_checked key block good =
    cond-true (bytes_eq key.digest (sha256 block) && nat_lt (length block) (max_block_len + 1)) (Some block) None
    (and_from _ _ ((bytes_eq-Decides key.digest (sha256 block)).1 good.named) (small_test (length block) max_block_len good.small))

-- that of a CID with sha2-256
pub of_hash_some : {A : Type 0} (hash : HashKind) (o : Option A) (x : A) → of_hash hash o ≡ Some x
    → (hash ≡ Sha256) × (o ≡ Some x)
of_hash_some Sha256 o x h = (refl, h)
of_hash_some Identity o x h = cc

pub of_hash_none : {A : Type 0} (hash : HashKind) (x : A) → of_hash hash (Some x) ≡ None → hash ≡ Identity
of_hash_none Sha256 x h = cc
of_hash_none Identity x h = refl

-- such a CID leads to what is found under its key
pub found_by_same : (hash : HashKind) (digest : List ℕ) (o : Option (List ℕ)) → hash ≡ Sha256 → found_by hash digest o ≡ o
found_by_same Sha256 digest o h = refl
found_by_same Identity digest o h = cc

-- an identity CID leads to its digest, which isn't long
pub own_digest_is : (digest block : List ℕ) → own_digest digest ≡ Some block
    → (digest ≡ block) × (length block ≤ max_digest_len)
own_digest_is digest block h =
    let p = cond_some (nat_le (length digest) max_digest_len) digest block h in
    (p.1, subst (λ (l : List ℕ). length l ≤ max_digest_len) p.1 (below_most (length digest) max_digest_len p.0))

pub own_digest_same : (digest : List ℕ) → length digest ≤ max_digest_len → own_digest digest ≡ Some digest
own_digest_same digest most =
    cond-true (nat_le (length digest) max_digest_len) (Some digest) None (most_test (length digest) max_digest_len most)

-- a block that a CID with sha2-256 names has the key's digest
pub named_good : (cid : CidParts) (block : List ℕ) → cid.hash ≡ Sha256 → Names cid block → length block ≤ max_block_len
    → IsGood (key_of cid) block
named_good cid block sha n small = record { named = subst (λ (hash : HashKind). IsDigestOf hash cid.digest block) sha n; small = small }

-- and the other way round
pub good_named : (cid : CidParts) (block : List ℕ) → cid.hash ≡ Sha256 → IsGood (key_of cid) block → Names cid block
good_named cid block e good = subst (λ (hash : HashKind). IsDigestOf hash cid.digest block) (sym e) good.named

-- what a found value leads to
and_then_some : {A B : Type 0} (f : A → Option B) (o : Option A) (y : B) → option_and_then f o ≡ Some y
    → (x : A) × (o ≡ Some x) × (f x ≡ Some y)
and_then_some f None y h = cc
and_then_some f (Some x) y h = (x, refl, h)

-- ---- look-ups

-- a further entry is found where nothing stands before it
pub lookup_push : {V : Type 0} (test : Key → Bool) (entries : List (Key × V)) (key : Key) (v : V)
    → lookup test entries ≡ None
    → lookup test (entries ++ (key, v) ∷ []) ≡ cond (test key) (Some v) None
lookup_push test [] key v h = refl
lookup_push {V} test (e ∷ entries) key v h = by (test e.0) h (lookup_push test entries key v)
  where
    by : (b : Bool) → cond b (Some e.1) (lookup test entries) ≡ None
        → (lookup test entries ≡ None → lookup test (entries ++ (key, v) ∷ []) ≡ cond (test key) (Some v) None)
        → cond b (Some e.1) (lookup test (entries ++ (key, v) ∷ [])) ≡ cond (test key) (Some v) None
    by true h behind = cc
    by false h behind = behind h

-- and what is found before it stays
pub lookup_kept : {V : Type 0} (test : Key → Bool) (entries : List (Key × V)) (key : Key) (v w : V)
    → lookup test entries ≡ Some w
    → lookup test (entries ++ (key, v) ∷ []) ≡ Some w
lookup_kept test [] key v w h = cc
lookup_kept {V} test (e ∷ entries) key v w h = by (test e.0) h (lookup_kept test entries key v w)
  where
    by : (b : Bool) → cond b (Some e.1) (lookup test entries) ≡ Some w
        → (lookup test entries ≡ Some w → lookup test (entries ++ (key, v) ∷ []) ≡ Some w)
        → cond b (Some e.1) (lookup test (entries ++ (key, v) ∷ [])) ≡ Some w
    by true h behind = h
    by false h behind = behind h

-- another key finds what it found
pub lookup_other : {V : Type 0} (test : Key → Bool) (entries : List (Key × V)) (key : Key) (v : V) → test key ≡ false
    → lookup test (entries ++ (key, v) ∷ []) ≡ lookup test entries
lookup_other test [] key v h = ap (λ (b : Bool). cond b (Some v) None) h
lookup_other {V} test (e ∷ entries) key v h = ap (λ o. cond (test e.0) (Some e.1) o) (lookup_other test entries key v h)

-- what is found with a further entry was found before, or is it
pub lookup_pushed : {V : Type 0} (test : Key → Bool) (entries : List (Key × V)) (key : Key) (v w : V)
    → lookup test (entries ++ (key, v) ∷ []) ≡ Some w
    → (lookup test entries ≡ Some w) ⊎ ((lookup test entries ≡ None) × (test key ≡ true) × (w ≡ v))
lookup_pushed {V} test entries key v w h = by (lookup test entries) refl
  where
    last : (b : Bool) → cond b (Some v) None ≡ Some w → (b ≡ true) × (w ≡ v)
    last b e = let p = cond_some b v w e in (p.0, sym p.1)

    by : (o : Option V) → lookup test entries ≡ o
        → (lookup test entries ≡ Some w) ⊎ ((lookup test entries ≡ None) × (test key ≡ true) × (w ≡ v))
    by None e = let p = last (test key) (sym (lookup_push test entries key v e) ∙ h) in inr (e, p.0, p.1)
    by (Some x) e = inl (e ∙ sym (lookup_kept test entries key v x e) ∙ h)

-- ---- what is stored

module _ {V : Type 0} (block_of : V → List ℕ) where
  -- a stored block is named by its CID and no larger than a block may be
  pub stored_named : (entries : List (Key × V)) (cid : CidParts) (block : List ℕ)
      → store_of block_of entries cid ≡ Some block → Names cid block × (length block ≤ max_block_len)
  stored_named entries cid block h = by cid.hash h
    where
      found : Option (List ℕ)
      found = option_and_then (λ (v : V). checked (key_of cid) (block_of v)) (lookup (same_key (key_of cid)) entries)

      by : (hash : HashKind) → found_by hash cid.digest found ≡ Some block
          → IsDigestOf hash cid.digest block × (length block ≤ max_block_len)
      by Sha256 h =
          let q = and_then_some (λ (v : V). checked (key_of cid) (block_of v)) (lookup (same_key (key_of cid)) entries) block h in
          let good : IsGood (key_of cid) block = (checked_is (key_of cid) (block_of q.0) block q.2).1 in
          (good.named, good.small)
      by Identity h = let own = own_digest_is cid.digest block h in (own.0, omega (arith, own.1))

  pub is_store : (entries : List (Key × V)) → IsStore (store_of block_of entries)
  is_store entries = record {
    twins = λ cid. refl;
    named = λ cid block h. (stored_named entries cid block h).0;
    small = λ cid block h. (stored_named entries cid block h).1;
  }

  -- under a key with a good block
  pub stored_at : (entries : List (Key × V)) (cid : CidParts) (v : V) → cid.hash ≡ Sha256
      → lookup (same_key (key_of cid)) entries ≡ Some v → IsGood (key_of cid) (block_of v)
      → store_of block_of entries cid ≡ Some (block_of v)
  stored_at entries cid v sha found good =
      found_by_same cid.hash cid.digest _ sha ∙ ap (option_and_then (λ (v : V). checked (key_of cid) (block_of v))) found ∙ good_checked (key_of cid) (block_of v) good

  -- under a key that has no entry
  pub stored_none : (entries : List (Key × V)) (cid : CidParts) → cid.hash ≡ Sha256
      → lookup (same_key (key_of cid)) entries ≡ None → store_of block_of entries cid ≡ None
  stored_none entries cid sha none =
      found_by_same cid.hash cid.digest _ sha ∙ ap (option_and_then (λ (v : V). checked (key_of cid) (block_of v))) none

  -- under an identity CID that names the block
  pub stored_own : (entries : List (Key × V)) (cid : CidParts) (block : List ℕ) → cid.hash ≡ Identity → Names cid block
      → length cid.digest ≤ max_digest_len → store_of block_of entries cid ≡ Some block
  stored_own entries cid block own names most =
      let same : cid.digest ≡ block = subst (λ (hash : HashKind). IsDigestOf hash cid.digest block) own names in
      ap (λ (hash : HashKind). found_by hash cid.digest (option_and_then (λ (v : V). checked (key_of cid) (block_of v)) (lookup (same_key (key_of cid)) entries))) own
      ∙ own_digest_same cid.digest most ∙ ap Some same

  -- what is stored already isn't added
  pub adds_nothing : (entries : List (Key × V)) (cid : CidParts) (block : List ℕ) (v : V) → cid.hash ≡ Sha256
      → lookup (same_key (key_of cid)) entries ≡ Some v → IsGood (key_of cid) (block_of v) → Adds (store_of block_of entries) (store_of block_of entries) cid block
  adds_nothing entries cid block v sha found good =
      let here : store_of block_of entries cid ≡ Some (block_of v) = stored_at entries cid v sha found good in
      record {
        here = λ other same. ap (λ (c : CidParts). store_of block_of entries c) same ∙ here ∙ sym (ap (λ o. Some (unwrap_or o block)) here);
        others = λ other apart. refl;
      }

  -- of an identity CID the block is stored already
  pub adds_own : (entries : List (Key × V)) (cid : CidParts) (block : List ℕ) → cid.hash ≡ Identity → Names cid block
      → length cid.digest ≤ max_digest_len → Adds (store_of block_of entries) (store_of block_of entries) cid block
  adds_own entries cid block own names most =
      let here : store_of block_of entries cid ≡ Some block = stored_own entries cid block own names most in
      record {
        here = λ other same. ap (λ (c : CidParts). store_of block_of entries c) same ∙ here ∙ sym (ap (λ o. Some (unwrap_or o block)) here);
        others = λ other apart. refl;
      }

  -- an entry under a new key is added
  pub adds_entry : (entries : List (Key × V)) (cid : CidParts) (v : V) → cid.hash ≡ Sha256
      → lookup (same_key (key_of cid)) entries ≡ None → IsGood (key_of cid) (block_of v)
      → Adds (store_of block_of entries) (store_of block_of (entries ++ (key_of cid, v) ∷ [])) cid (block_of v)
  adds_entry entries cid v sha none good =
      let all : List (Key × V) = entries ++ (key_of cid, v) ∷ [] in
      let found : lookup (same_key (key_of cid)) all ≡ Some v =
      lookup_push (same_key (key_of cid)) entries (key_of cid) v none ∙ ap (λ (b : Bool). cond b (Some v) None) (same_key_self (key_of cid)) in
      record {
        here = λ other same.
            ap (λ (c : CidParts). store_of block_of all c) same ∙ stored_at all cid v sha found good
            ∙ sym (ap (λ o. Some (unwrap_or o (block_of v))) (stored_none entries cid sha none));
        others = λ other apart. elsewhere other.hash other refl apart;
      }
    where
      differ : (other : CidParts) → other.hash ≡ Sha256 → as_v1 other ≢ as_v1 cid → (b : Bool)
          → same_key (key_of other) (key_of cid) ≡ b → b ≡ false
      differ other e apart true h =
          let same : key_of other ≡ key_of cid = same_key_is (key_of other) (key_of cid) h in
          absurd (apart (λ i. record { version = 1; codec = (same i).codec; hash = (e ∙ sym sha) i; digest = (same i).digest }))
      differ other e apart false h = refl

      elsewhere : (hash : HashKind) (other : CidParts) → other.hash ≡ hash → as_v1 other ≢ as_v1 cid
          → store_of block_of (entries ++ (key_of cid, v) ∷ []) other ≡ store_of block_of entries other
      elsewhere Sha256 other e apart =
          ap (λ o. found_by other.hash other.digest (option_and_then (λ (v : V). checked (key_of other) (block_of v)) o))
          (lookup_other (same_key (key_of other)) entries (key_of cid) v (differ other e apart (same_key (key_of other) (key_of cid)) refl))
      elsewhere Identity other e apart =
          ap (λ (hash : HashKind). found_by hash other.digest (option_and_then (λ (v : V). checked (key_of other) (block_of v)) (lookup (same_key (key_of other)) (entries ++ (key_of cid, v) ∷ [])))) e
          ∙ sym (ap (λ (hash : HashKind). found_by hash other.digest (option_and_then (λ (v : V). checked (key_of other) (block_of v)) (lookup (same_key (key_of other)) entries))) e)

-- ---- which sections are kept

-- keys are appended one after another
keys_join : (keys : List Key) (key : Key) (more : List Key) → (keys ++ key ∷ []) ++ more ≡ keys ++ key ∷ more
keys_join keys key more = append_assoc keys (key ∷ []) more

-- of sections and further ones
pub new_beside-append : (keys : List Key) (u v : List Section)
    → new_beside keys (u ++ v) ≡ new_beside keys u ++ new_beside (keys ++ section_keys (new_beside keys u)) v
new_beside-append keys [] v = ap (λ (keys : List Key). new_beside keys v) (sym (append-nil keys))
new_beside-append keys (section ∷ u) v =
    by (is_held keys section.cid) (new_beside-append keys u v) (new_beside-append (keys ++ key_of section.cid ∷ []) u v)
  where
    again : List Key
    again = keys ++ key_of section.cid ∷ []

    by : (b : Bool)
        → new_beside keys (u ++ v) ≡ new_beside keys u ++ new_beside (keys ++ section_keys (new_beside keys u)) v
        → new_beside again (u ++ v) ≡ new_beside again u ++ new_beside (again ++ section_keys (new_beside again u)) v
        → cond b (new_beside keys (u ++ v)) (section ∷ new_beside again (u ++ v))
        ≡ cond b (new_beside keys u) (section ∷ new_beside again u) ++ new_beside (keys ++ section_keys (cond b (new_beside keys u) (section ∷ new_beside again u))) v
    by true known new = known
    by false known new =
        ap (λ (s : List Section). section ∷ s) (new
        ∙ ap (λ (ks : List Key). new_beside again u ++ new_beside ks v) (keys_join keys (key_of section.cid) (section_keys (new_beside again u))))

-- what isn't added
held_true : (hash : HashKind) (test : Bool) → test ≡ true → held_if hash test ≡ true
held_true Sha256 test e = e
held_true Identity test e = refl

-- a section that is added has a key, under which nothing stands
pub not_held : (keys : List Key) (cid : CidParts) → is_held keys cid ≡ false
    → (cid.hash ≡ Sha256) × (list_any (same_key (key_of cid)) keys ≡ false)
not_held keys cid h = by cid.hash h
  where
    by : (hash : HashKind) → held_if hash (list_any (same_key (key_of cid)) keys) ≡ false
        → (hash ≡ Sha256) × (list_any (same_key (key_of cid)) keys ≡ false)
    by Sha256 h = (refl, h)
    by Identity h = cc

-- of one section
pub none_new : {V : Type 0} (entries : List (Key × V)) (section : Section) (v : V)
    → lookup (same_key (key_of section.cid)) entries ≡ Some v → new_beside (keys_of entries) (section ∷ []) ≡ []
none_new entries section v found =
    ap (λ (b : Bool). cond b [] (section ∷ []))
    (held_true section.cid.hash (list_any (same_key (key_of section.cid)) (keys_of entries)) (sym (is_some-lookup (same_key (key_of section.cid)) entries) ∙ ap is_some found))

pub none_own : (keys : List Key) (section : Section) → section.cid.hash ≡ Identity → new_beside keys (section ∷ []) ≡ []
none_own keys section own =
    ap (λ (hash : HashKind). cond (held_if hash (list_any (same_key (key_of section.cid)) keys)) [] (section ∷ [])) own

pub one_new : {V : Type 0} (entries : List (Key × V)) (section : Section) → section.cid.hash ≡ Sha256
    → lookup (same_key (key_of section.cid)) entries ≡ None → new_beside (keys_of entries) (section ∷ []) ≡ section ∷ []
one_new entries section sha none =
    ap (λ (hash : HashKind). cond (held_if hash (list_any (same_key (key_of section.cid)) (keys_of entries))) [] (section ∷ [])) sha
    ∙ ap (λ (b : Bool). cond b [] (section ∷ [])) (sym (is_some-lookup (same_key (key_of section.cid)) entries) ∙ ap is_some none)

-- ---- blocks in memory

entry_keys : (sections : List Section) → keys_of (map entry_of sections) ≡ section_keys sections
entry_keys [] = refl
entry_keys (section ∷ sections) = ap (λ (ks : List Key). key_of section.cid ∷ ks) (entry_keys sections)

pub holds_rests : (entries : List (Key × List ℕ)) → HoldsMore entries entries []
holds_rests entries = sym (append-nil entries)

pub holds_joins : (a b c : List (Key × List ℕ)) (u v : List Section) → HoldsMore a b u → HoldsMore b c v
    → HoldsMore a c (u ++ v)
holds_joins a b c u v p q =
    let front : List Section = new_beside (keys_of a) u in
    let keys : keys_of b ≡ keys_of a ++ section_keys front =
    ap keys_of p ∙ map-append (λ (e : Key × List ℕ). e.0) a (map entry_of front) ∙ ap (λ (ks : List Key). keys_of a ++ ks) (entry_keys front) in
    q ∙ ap₂ (λ (held : List (Key × List ℕ)) (ks : List Key). held ++ map entry_of (new_beside ks v)) p keys
    ∙ append_assoc a (map entry_of front) (map entry_of (new_beside (keys_of a ++ section_keys front) v))
    ∙ ap (λ (more : List (Key × List ℕ)). a ++ more) (sym (map-append entry_of front (new_beside (keys_of a ++ section_keys front) v)))
    ∙ ap (λ (s : List Section). a ++ map entry_of s) (sym (new_beside-append (keys_of a) u v))
