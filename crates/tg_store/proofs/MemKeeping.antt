-- A block kept in memory.
use Rattle.std.proofs.Common.{◌≡◌, ◌≤◌, ◌⊎◌, ℕ, true, false, List, [], ◌∷◌, ◌++◌, length, map, Option, Some, None, is_some, refl, ap, ap₂, sym, subst, ◌∙◌, inl, inr, Result, Ok, Err, OnOk, IsOk}
use Rattle.std.specs.Map.{lookup}
use Rattle.std.proofs.lemmas.List.{append-nil}
use Rattle.tg_cid.specs.Cid.{CidParts}
use Rattle.tg_cid.specs.Limits.{max_block_len}
use Rattle.tg_cid.specs.Names.{Names}
use Rattle.tg_cid.specs.declared.cid.HashKind.TheVariants.{Sha256, Identity}
use Rattle.tg_model.specs.Dag.{Section}
use Rattle.tg_model.specs.Stores.{AreKeptAs}
use Rattle.tg_store.specs.declared.key.Key.{Key}
use Rattle.tg_store.specs.Entries.{AreGood, HoldsMore, IsGood, entry_of, store_of}
use Rattle.tg_store.specs.EntryLaws.{adds_entry, adds_nothing, lookup_pushed, named_good, none_new, of_hash_none, of_hash_some, one_new}
use Rattle.tg_store.specs.KeyLaws.{same_key_is}
use Rattle.tg_store.specs.Keys.{key_of, of_hash, same_key}

-- a call that went well
pub at_ok : {T E P : Type 0} (r : Result T E) → IsOk r → OnOk r P → P
at_ok (Ok x) is h = h
at_ok (Err e) is h = cc

-- something, or nothing
pub is_some_found : {A : Type 0} (o : Option A) → is_some o ≡ true → (x : A) × (o ≡ Some x)
is_some_found None e = cc
is_some_found (Some x) e = (x, refl)

pub is_none_found : {A : Type 0} (o : Option A) → is_some o ≡ false → o ≡ None
is_none_found None e = refl
is_none_found (Some x) e = cc

-- the key of a CID that has one
pub key_is : (cid : CidParts) (key : Key) → of_hash cid.hash (Some (key_of cid)) ≡ Some key → key_of cid ≡ key
key_is cid key e = let p = (of_hash_some cid.hash (Some (key_of cid)) key e).1 in cc

pub has_sha256 : (cid : CidParts) (key : Key) → of_hash cid.hash (Some (key_of cid)) ≡ Some key → cid.hash ≡ Sha256
has_sha256 cid key e = (of_hash_some cid.hash (Some (key_of cid)) key e).0

-- one that has none is an identity CID
pub has_identity : (cid : CidParts) → of_hash cid.hash (Some (key_of cid)) ≡ None → cid.hash ≡ Identity
has_identity cid e = of_hash_none cid.hash (key_of cid) e

-- the block was there
pub again : (held : List (Key × List ℕ)) (cid : CidParts) (block there : List ℕ) → cid.hash ≡ Sha256 → lookup (same_key (key_of cid)) held ≡ Some there → AreGood (λ block. block) held
    → HoldsMore held held (record { cid = cid; block = block } ∷ [])
    × AreKeptAs (Some (store_of (λ block. block) held)) (Some (store_of (λ block. block) held)) (record { cid = cid; block = block } ∷ [])
again held cid block there sha found good = (
  sym (append-nil held) ∙ ap (λ (s : List Section). held ++ map entry_of s) (sym (none_new held (record { cid = cid; block = block }) there found)),
  (store_of (λ block. block) held, adds_nothing (λ block. block) held cid block there sha found (good (key_of cid) there found), refl),
)

-- the block is new
pub added : (held : List (Key × List ℕ)) (cid : CidParts) (block : List ℕ) → cid.hash ≡ Sha256 → lookup (same_key (key_of cid)) held ≡ None → Names cid block → length block ≤ max_block_len
    → HoldsMore held (held ++ (key_of cid, block) ∷ []) (record { cid = cid; block = block } ∷ [])
    × AreKeptAs (Some (store_of (λ block. block) held)) (Some (store_of (λ block. block) (held ++ (key_of cid, block) ∷ []))) (record { cid = cid; block = block } ∷ [])
added held cid block sha none names small = (
  ap (λ (s : List Section). held ++ map entry_of s) (sym (one_new held (record { cid = cid; block = block }) sha none)),
  (
    store_of (λ block. block) (held ++ (key_of cid, block) ∷ []),
    adds_entry (λ block. block) held cid block sha none (named_good cid block sha names small),
    refl,
  ),
)

pub good_more : (held : List (Key × List ℕ)) (cid : CidParts) (block : List ℕ) → cid.hash ≡ Sha256 → Names cid block → length block ≤ max_block_len → AreGood (λ block. block) held
    → AreGood (λ block. block) (held ++ (key_of cid, block) ∷ [])
good_more held cid block sha names small good = λ key v found. by key v (lookup_pushed (same_key key) held (key_of cid) block v found)
  where
    by : (key : Key) (v : List ℕ) → (lookup (same_key key) held ≡ Some v) ⊎ ((lookup (same_key key) held ≡ None) × (same_key key (key_of cid) ≡ true) × (v ≡ block)) → IsGood key v
    by key v (inl found) = good key v found
    by key v (inr new) =
        subst (IsGood key) (sym new.2) (subst (λ (k : Key). IsGood k block) (sym (same_key_is key (key_of cid) new.1)) (named_good cid block sha names small))

-- the entries once a block was inserted
pub inserted : (held before after : List (Key × List ℕ)) (cid : CidParts) (key : Key) (copy block : List ℕ) → before ≡ held → key_of cid ≡ key → copy ≡ block
    → after ≡ before ++ (key, copy) ∷ [] → after ≡ held ++ (key_of cid, block) ∷ []
inserted held before after cid key copy block e f g h =
    h ∙ (ap (λ (l : List (Key × List ℕ)). l ++ (key, copy) ∷ []) e ∙ ap₂ (λ (k : Key) (b : List ℕ). held ++ (k, b) ∷ []) (sym f) g)
