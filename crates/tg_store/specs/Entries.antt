-- What is stored, by entries of keys, and which sections are kept.
use Rattle.std.specs.Prelude.{◌≡◌, ◌≤◌, ◌+◌, ℕ, Bool, true, cond, ◌&&◌, nat_lt, bytes_eq, List, [], ◌∷◌, ◌++◌, length, map, Option}
use Rattle.std.specs.Prelude.{Some, None, option_and_then}
use Rattle.std.specs.List.{list_any}
use Rattle.std.specs.Map.{keys_of, lookup}
use Rattle.sha2.specs.Sha256.{sha256}
use Rattle.tg_cid.specs.Cid.{CidParts}
use Rattle.tg_cid.specs.Limits.{max_block_len}
use Rattle.tg_cid.specs.declared.cid.HashKind.{HashKind}
use Rattle.tg_cid.specs.declared.cid.HashKind.TheVariants.{Sha256, Identity}
use Rattle.tg_model.specs.Dag.{Section}
use Rattle.tg_model.specs.Stores.{Store}
use Rattle.tg_store.specs.declared.key.Key.{Key}
use Rattle.tg_store.specs.Keys.{found_by, key_of, same_key}

-- the block, where it has the key's digest and is no larger than a block may be
abbrev pub checked : Key → List ℕ → Option (List ℕ)
checked key block =
    cond (bytes_eq key.digest (sha256 block) && nat_lt (length block) (max_block_len + 1)) (Some block) None

-- the block has the key's digest and is no larger than a block may be
pub record IsGood (key : Key) (block : List ℕ) : Type 0 where
  pub named : key.digest ≡ sha256 block
  pub small : length block ≤ max_block_len

module _ {V : Type 0} (block_of : V → List ℕ) where
  -- what is stored under each CID: of an identity CID its digest, and else what stands in the first entry under its key
  abbrev pub store_of : List (Key × V) → Store
  store_of entries cid =
      found_by cid.hash cid.digest (option_and_then (λ v. checked (key_of cid) (block_of v)) (lookup (same_key (key_of cid)) entries))

  -- what is found under a key is its block
  abbrev pub AreGood : List (Key × V) → Type 0
  AreGood entries = (key : Key) (v : V) → lookup (same_key key) entries ≡ Some v → IsGood key (block_of v)

-- a section of the CID isn't added: one stands under its key, or its hash is identity, so its block is its digest
abbrev pub held_if : HashKind → Bool → Bool
held_if Sha256 test = test
held_if Identity test = true

abbrev pub is_held : List Key → CidParts → Bool
is_held keys cid = held_if cid.hash (list_any (same_key (key_of cid)) keys)

-- the sections that are added behind keys: those under whose keys nothing stands, the first under each
abbrev pub new_beside : List Key → List Section → List Section
new_beside keys [] = []
new_beside keys (section ∷ sections) =
    cond (is_held keys section.cid)
    (new_beside keys sections)
    (section ∷ new_beside (keys ++ key_of section.cid ∷ []) sections)

-- the first section under each CID with sha2-256, by its version 1 form
abbrev pub first_of_each : List Section → List Section
first_of_each sections = new_beside [] sections

-- the keys of sections
abbrev pub section_keys : List Section → List Key
section_keys sections = map (λ (section : Section). key_of section.cid) sections

-- a section's block under its key
abbrev pub entry_of : Section → Key × List ℕ
entry_of section = (key_of section.cid, section.block)

-- behind the blocks that were held stand those of the sections, the first under each CID with sha2-256 that had none
abbrev pub HoldsMore : List (Key × List ℕ) → List (Key × List ℕ) → List Section → Type 0
HoldsMore old new sections = new ≡ old ++ map entry_of (new_beside (keys_of old) sections)
