-- A section kept in a pack.
use Rattle.std.proofs.Common.{◌≡◌, ◌≤◌, ◌<◌, ◌+◌, ◌-◌, ◌^◌, ◌⊎◌, ℕ, Bool, true, List, [], ◌∷◌, ◌++◌, length, take, drop, Option, Some, None, option_and_then, Result, Ok, Err, MatchResult, refl, ap, ap₂, sym, subst, ◌∙◌, inl, inr, arith}
use Rattle.std.specs.Map.{keys_of, lookup}
use Rattle.std.proofs.lemmas.List.{append-nil, append_assoc, length-append, length-drop, take_all, drop_at, take-append-le, drop-append-le}
use Rattle.std.proofs.lemmas.List.Elements.{All-nil}
use Rattle.tg_bytes.specs.Told.{grown}
use Rattle.tg_car.specs.CarText.{SectionText}
use Rattle.tg_cid.specs.Cid.{CidParts}
use Rattle.tg_cid.specs.Limits.{max_block_len, max_digest_len}
use Rattle.tg_cid.specs.Names.{Names}
use Rattle.tg_cid.specs.declared.cid.HashKind.TheVariants.{Sha256, Identity}
use Rattle.tg_files.specs.Packs.{PackMeaning, PackWrite, pack_step}
use Rattle.tg_model.specs.Dag.{Section}
use Rattle.tg_model.specs.Stores.{Adds, AreKeptAs, IsLeftAs, Store}
use Rattle.tg_model.specs.declared.stores.KeepFault.{KeepFault}
use Rattle.tg_model.specs.declared.stores.KeepFault.TheVariants as faults
use Rattle.tg_store.specs.declared.key.Key.{Key}
use Rattle.tg_store.specs.declared.place.Place.{Place}
use Rattle.tg_store.specs.Entries.{IsGood, checked, new_beside, store_of}
use Rattle.tg_store.specs.EntryLaws.{adds_entry, adds_nothing, adds_own, lookup_pushed, named_good, one_new}
use Rattle.tg_store.specs.KeyLaws.{same_key_is}
use Rattle.tg_store.specs.Keys.{found_by, key_of, same_key}
use Rattle.tg_store.specs.Packs.{PackStoreState, AreSmall, ArePlacedAt, GrewBy, HasGrown, HasKept, IsGrowth, IsIndexed, IsIndexedIn, block_at, entry_before, in_car, stored_in}
use Rattle.tg_store.specs.PackLaws.{did_nothing, grew_nothing}
use Rattle.tg_store.specs.PackWrites.{AddsSection, IsLeftOut, LeavesOut}

-- the block of a section whose text was added
pub block_behind : (content head block : List ℕ) (offset : ℕ) → offset ≡ length content + length head
    → block_at (content ++ (head ++ block)) (record { offset = offset; size = length block }) ≡ block
block_behind content head block offset e =
    let whole : content ++ (head ++ block) ≡ (content ++ head) ++ block = sym (append_assoc content head block) in
    let size : length (content ++ head) ≡ offset = length-append content head ∙ sym e in
    ap (λ (l : List ℕ). take (length block) (drop offset l)) whole
    ∙ (ap (take (length block)) (drop_at (content ++ head) block offset size) ∙ take_all (length block) block (omega arith))

-- a block that was there stays
pub block_before : (content more : List ℕ) (place : Place) → place.offset + place.size ≤ length content → block_at (content ++ more) place ≡ block_at content place
block_before content more place within =
    ap (take place.size) (drop-append-le place.offset content more (omega arith))
    ∙ take-append-le place.size (drop place.offset content) more (omega (arith, length-drop place.offset content))

good_same : (key : Key) (a b : List ℕ) → a ≡ b → IsGood key a → IsGood key b
good_same key a b e good = subst (IsGood key) e good

module _ (content head block : List ℕ) (fresh : Bool) (places : List (Key × Place)) (end : ℕ) (key : Key) (indexed : IsIndexed content fresh places end)
    (none : lookup (same_key key) places ≡ None) (good : IsGood key block) where
  abbrev pub place : Place
  place = record { offset = end + length head; size = length block }

  sizes : length (content ++ (head ++ block)) ≡ length content + (length head + length block)
  sizes = length-append content (head ++ block) ∙ ap (λ n. length content + n) (length-append head block)

  pub indexed_more : (behind : ℕ) → behind ≡ (end + length head) + length block → IsIndexed (content ++ (head ++ block)) fresh (places ++ (key, place) ∷ []) behind
  indexed_more behind e = record {
    end_is = let here : end ≡ length content = indexed.end_is in omega (arith, sizes);
    within = λ k p found. within k p (lookup_pushed (same_key k) places key place p found);
    good = λ k p found. each k p (lookup_pushed (same_key k) places key place p found);
    one_root = λ is. let root = indexed.one_root is in record {
      root = root.root;
      header = root.header;
      rest = root.rest ++ (head ++ block);
      whole = ap (λ (l : List ℕ). l ++ (head ++ block)) root.whole ∙ append_assoc root.header root.rest (head ++ block);
      text = root.text;
      size = root.size;
    };
    behind = λ is k p found. header is k p (lookup_pushed (same_key k) places key place p found);
  }
    where
      header : fresh ≡ true → (k : Key) (p : Place) → (lookup (same_key k) places ≡ Some p) ⊎ ((lookup (same_key k) places ≡ None) × (same_key k key ≡ true) × (p ≡ place)) → 59 ≤ p.offset
      header is k p (inl found) = indexed.behind is k p found
      header is k p (inr new) =
          let root = indexed.one_root is in
          let sizes : length content ≡ length root.header + length root.rest = ap length root.whole ∙ length-append root.header root.rest in
          let size : length root.header ≡ 59 = root.size in
          let here : end ≡ length content = indexed.end_is in
          let offset : p.offset ≡ end + length head = ap (λ (q : Place). q.offset) new.2 in
          omega arith

      within : (k : Key) (p : Place) → (lookup (same_key k) places ≡ Some p) ⊎ ((lookup (same_key k) places ≡ None) × (same_key k key ≡ true) × (p ≡ place))
          → p.offset + p.size ≤ length (content ++ (head ++ block))
      within k p (inl found) = let old : p.offset + p.size ≤ length content = indexed.within k p found in omega (arith, sizes)
      within k p (inr new) =
          let here : end ≡ length content = indexed.end_is in
          let offset : p.offset ≡ end + length head = ap (λ (q : Place). q.offset) new.2 in
          let size : p.size ≡ length block = ap (λ (q : Place). q.size) new.2 in
          omega (arith, sizes)

      each : (k : Key) (p : Place) → (lookup (same_key k) places ≡ Some p) ⊎ ((lookup (same_key k) places ≡ None) × (same_key k key ≡ true) × (p ≡ place))
          → IsGood k (block_at (content ++ (head ++ block)) p)
      each k p (inl found) =
          good_same k (block_at content p) (block_at (content ++ (head ++ block)) p) (sym (block_before content (head ++ block) p (indexed.within k p found))) (indexed.good k p found)
      each k p (inr new) =
          let same : block ≡ block_at (content ++ (head ++ block)) p =
          sym (block_behind content head block (end + length head) (ap (λ n. n + length head) indexed.end_is))
          ∙ ap (block_at (content ++ (head ++ block))) (sym new.2) in
          subst (λ (q : Key). IsGood q (block_at (content ++ (head ++ block)) p)) (sym (same_key_is k key new.1)) (good_same key block _ same good)

-- what is told is indexed once a section was added
pub indexed_in : (old new : Option (List ℕ)) (head block : List ℕ) (fresh : Bool) (before after : List (Key × Place)) (end behind : ℕ) (key : Key)
    → new ≡ grown old (head ++ block) → after ≡ before ++ (key, record { offset = end + length head; size = length block }) ∷ []
    → behind ≡ (end + length head) + length block → lookup (same_key key) before ≡ None → IsGood key block
    → IsIndexedIn old fresh before end → IsIndexedIn new fresh after behind
indexed_in None None head block fresh before after end behind key e f g none good h = tt
indexed_in None (Some x) head block fresh before after end behind key e f g none good h = cc
indexed_in (Some c) None head block fresh before after end behind key e f g none good h = tt
indexed_in (Some c) (Some x) head block fresh before after end behind key e f g none good h =
    let content : x ≡ c ++ (head ++ block) = cc in
    subst (λ (l : List ℕ). IsIndexed l fresh after behind) (sym content)
    (subst (λ (l : List (Key × Place)). IsIndexed (c ++ (head ++ block)) fresh l behind) (sym f) (indexed_more c head block fresh before end key h none good behind g))

pub small_more : (before after : List (Key × Place)) (key : Key) (place : Place) → after ≡ before ++ (key, place) ∷ [] → place.offset + place.size < 2 ^ 64
    → place.size ≤ max_block_len → AreSmall before → AreSmall after
small_more before after key place e fits few small = λ k p found.
    by k p (lookup_pushed (same_key k) before key place p (ap (lookup (same_key k)) (sym e) ∙ found))
  where
    by : (k : Key) (p : Place) → (lookup (same_key k) before ≡ Some p) ⊎ ((lookup (same_key k) before ≡ None) × (same_key k key ≡ true) × (p ≡ place))
        → (p.offset + p.size < 2 ^ 64) × (p.size ≤ max_block_len)
    by k p (inl found) = small k p found
    by k p (inr new) = subst (λ (q : Place). (q.offset + q.size < 2 ^ 64) × (q.size ≤ max_block_len)) (sym new.2) (fits, few)

-- ---- what is told once a section was added

-- what is stored in longer bytes under the places that were there
same_store : (content more : List ℕ) (places : List (Key × Place)) → ((key : Key) (place : Place) → lookup (same_key key) places ≡ Some place → place.offset + place.size ≤ length content)
    → (cid : CidParts) → store_of (block_at (content ++ more)) places cid ≡ store_of (block_at content) places cid
same_store content more places within cid = ap (found_by cid.hash cid.digest) (by (lookup (same_key (key_of cid)) places) (within (key_of cid)))
  where
    by : (o : Option Place) → ((place : Place) → o ≡ Some place → place.offset + place.size ≤ length content)
        → option_and_then (λ (p : Place). checked (key_of cid) (block_at (content ++ more) p)) o
        ≡ option_and_then (λ (p : Place). checked (key_of cid) (block_at content p)) o
    by None h = refl
    by (Some p) h = ap (checked (key_of cid)) (block_before content more p (h p refl))

adds_told : (content head block : List ℕ) (fresh : Bool) (places : List (Key × Place)) (end : ℕ) (cid : CidParts) → cid.hash ≡ Sha256 → Names cid block → length block ≤ max_block_len
    → lookup (same_key (key_of cid)) places ≡ None → IsIndexed content fresh places end
    → Adds (store_of (block_at content) places)
    (store_of (block_at (content ++ (head ++ block))) (places ++ (key_of cid, record { offset = end + length head; size = length block }) ∷ [])) cid block
adds_told content head block fresh places end cid sha names few none indexed =
    let place : Place = record { offset = end + length head; size = length block } in
    let now : List ℕ = content ++ (head ++ block) in
    let after : List (Key × Place) = places ++ (key_of cid, place) ∷ [] in
    let same : block_at now place ≡ block = block_behind content head block (end + length head) (ap (λ n. n + length head) indexed.end_is) in
    let good : IsGood (key_of cid) (block_at now place) = good_same (key_of cid) block (block_at now place) (sym same) (named_good cid block sha names few) in
    let added : Adds (store_of (block_at now) places) (store_of (block_at now) after) cid (block_at now place) =
    adds_entry (block_at now) places cid place sha none good in
    let stores : store_of (block_at now) places ≡ store_of (block_at content) places = λ i cid. same_store content (head ++ block) places indexed.within cid i in
    subst (λ (s : Store). Adds s (store_of (block_at now) after) cid block) stores
    (subst (λ (l : List ℕ). Adds (store_of (block_at now) places) (store_of (block_at now) after) cid l) same added)

pub adds_stored : (old new : Option (List ℕ)) (head block : List ℕ) (fresh : Bool) (before after : List (Key × Place)) (end : ℕ) (cid : CidParts)
    → new ≡ grown old (head ++ block) → after ≡ before ++ (key_of cid, record { offset = end + length head; size = length block }) ∷ []
    → cid.hash ≡ Sha256 → Names cid block → length block ≤ max_block_len → lookup (same_key (key_of cid)) before ≡ None → IsIndexedIn old fresh before end
    → AreKeptAs (stored_in old before) (stored_in new after) (record { cid = cid; block = block } ∷ [])
adds_stored None None head block fresh before after end cid e f sha names few none h = refl
adds_stored None (Some x) head block fresh before after end cid e f sha names few none h = cc
adds_stored (Some c) None head block fresh before after end cid e f sha names few none h = cc
adds_stored (Some c) (Some x) head block fresh before after end cid e f sha names few none h =
    let content : x ≡ c ++ (head ++ block) = cc in
    let entry : List (Key × Place) = before ++ (key_of cid, record { offset = end + length head; size = length block }) ∷ [] in
    let now : store_of (block_at (c ++ (head ++ block))) entry ≡ store_of (block_at x) after =
    ap₂ (λ (l : List ℕ) (p : List (Key × Place)). store_of (block_at l) p) (sym content) (sym f) in (
      store_of (block_at x) after,
      subst (λ (s : Store). Adds (store_of (block_at c) before) s cid block) now (adds_told c head block fresh before end cid sha names few none h),
      refl,
    )

-- the text and the place of a section that was added
pub adds_grown : (old new : Option (List ℕ)) (head block : List ℕ) (fresh : Bool) (before after : List (Key × Place)) (end : ℕ) (section : Section)
    → section.block ≡ block → section.cid.hash ≡ Sha256 → new ≡ grown old (head ++ block) → after ≡ before ++ (key_of section.cid, record { offset = end + length head; size = length block }) ∷ []
    → SectionText (in_car section) (head ++ block) → lookup (same_key (key_of section.cid)) before ≡ None → IsIndexedIn old fresh before end
    → GrewBy old new before after (section ∷ [])
adds_grown old None head block fresh before after end section b sha e f text none h = tt
adds_grown None (Some x) head block fresh before after end section b sha e f text none h = cc
adds_grown (Some c) (Some x) head block fresh before after end section b sha e f text none h =
    let content : x ≡ c ++ (head ++ block) = cc in
    let front : List ℕ = head ++ block in
    let here : end ≡ length c = h.end_is in
    let blocks : length section.block ≡ length block = ap length b in
    let offset : end + length head ≡ (length c + length front) - length section.block = omega (arith, length-append head block) in
    let entry : (key_of section.cid, (let p : Place = record { offset = end + length head; size = length block } in p)) ∷ []
    ≡ entry_before (length c + length front) section ∷ [] =
    ap₂ (λ (o s : ℕ). (key_of section.cid, (let p : Place = record { offset = o; size = s } in p)) ∷ []) offset (sym blocks) in
    record {
      texts = front;
      places = entry_before (length c + length front) section ∷ [];
      content = content;
      entries = f ∙ ap (λ (l : List (Key × Place)). before ++ l) entry;
      placed = subst (λ (s : List Section). ArePlacedAt (length c) s front (entry_before (length c + length front) section ∷ [])) (sym (one_new before section sha none))
          (front, [], [], sym (append-nil front), text, refl, (refl, refl));
    }

-- ---- what the step is

module _ {P : Type 0} (m : PackMeaning P) (old new : PackStoreState P) where
  pub kept_one : (section : Section) → AddsSection (pack_step m old.pack new.pack) old.places new.places old.end new.end (key_of section.cid) section
      → section.cid.hash ≡ Sha256 → new.fresh ≡ old.fresh → lookup (same_key (key_of section.cid)) old.places ≡ None → IsIndexedIn (m.content old.pack) old.fresh old.places old.end
      → HasKept m old new (section ∷ [])
  kept_one section a sha fresh none indexed = record {
    writes = a.appended.writes;
    did = a.appended.did;
    growth = a.appended.growth;
    fresh = fresh;
    grew = adds_grown (m.content old.pack) (m.content new.pack) a.head section.block old.fresh old.places new.places old.end section refl sha a.appended.told a.places a.text none indexed;
  }

  -- a section that wasn't added
  pub kept_none : (fault : KeepFault) → LeavesOut (pack_step m old.pack new.pack) old.places new.places old.end new.end fault → new.fresh ≡ old.fresh → HasKept m old new []
  kept_none fault left fresh = by fault left.cause
    where
      by : (fault : KeepFault) → IsLeftOut (pack_step m old.pack new.pack) fault → HasKept m old new []
      by faults.Failed cause = record {
        writes = cause.0.writes;
        did = cause.0.did;
        growth = cause.0.growth;
        fresh = fresh;
        grew = subst (λ (o : Option (List ℕ)). GrewBy (m.content old.pack) o old.places new.places []) (sym cause.0.untold) tt;
      }
      by faults.OutOfMemory cause = record {
        writes = [];
        did = cause.0;
        growth = All-nil IsGrowth;
        fresh = fresh;
        grew = grew_nothing (m.content old.pack) (m.content new.pack) old.places new.places cause.0.content left.places;
      }

  pub same_stored : m.content new.pack ≡ m.content old.pack → new.places ≡ old.places
      → stored_in (m.content new.pack) new.places ≡ stored_in (m.content old.pack) old.places
  same_stored e f = ap₂ stored_in e f

  pub left_as : (fault : KeepFault) → LeavesOut (pack_step m old.pack new.pack) old.places new.places old.end new.end fault
      → IsLeftAs (stored_in (m.content old.pack) old.places) (stored_in (m.content new.pack) new.places)
  left_as fault left = by fault left.cause
    where
      by : (fault : KeepFault) → IsLeftOut (pack_step m old.pack new.pack) fault → IsLeftAs (stored_in (m.content old.pack) old.places) (stored_in (m.content new.pack) new.places)
      by faults.Failed cause = inr (ap (λ (o : Option (List ℕ)). stored_in o new.places) cause.0.untold)
      by faults.OutOfMemory cause = inl (same_stored cause.0.content left.places)

  -- what is told stays indexed
  pub indexed_still : (fault : KeepFault) → LeavesOut (pack_step m old.pack new.pack) old.places new.places old.end new.end fault
      → IsIndexedIn (m.content old.pack) old.fresh old.places old.end → IsIndexedIn (m.content new.pack) old.fresh new.places new.end
  indexed_still fault left indexed = by fault left.cause
    where
      by : (fault : KeepFault) → IsLeftOut (pack_step m old.pack new.pack) fault → IsIndexedIn (m.content new.pack) old.fresh new.places new.end
      by faults.Failed cause = subst (λ (o : Option (List ℕ)). IsIndexedIn o old.fresh new.places new.end) (sym cause.0.untold) tt
      by faults.OutOfMemory cause =
          subst (λ (o : Option (List ℕ)). IsIndexedIn o old.fresh new.places new.end) (sym cause.0.content)
          (subst (λ (l : List (Key × Place)). IsIndexedIn (m.content old.pack) old.fresh l new.end) (sym left.places)
          (subst (λ (n : ℕ). IsIndexedIn (m.content old.pack) old.fresh old.places n) (sym left.end) indexed))

-- ---- a section that is stored

pub kept_again : (told : Option (List ℕ)) (places : List (Key × Place)) (section : Section) → new_beside (keys_of places) (section ∷ []) ≡ []
    → GrewBy told told places places (section ∷ [])
kept_again None places section none = tt
kept_again (Some content) places section none =
    subst (λ (s : List Section). HasGrown content content places places s) (sym none)
    (record { texts = []; places = []; content = sym (append-nil content); entries = sym (append-nil places); placed = (refl, refl) })

pub stored_again : (told : Option (List ℕ)) (fresh : Bool) (places : List (Key × Place)) (end : ℕ) (cid : CidParts) (block : List ℕ) (place : Place)
    → cid.hash ≡ Sha256 → lookup (same_key (key_of cid)) places ≡ Some place → IsIndexedIn told fresh places end
    → AreKeptAs (stored_in told places) (stored_in told places) (record { cid = cid; block = block } ∷ [])
stored_again None fresh places end cid block there sha found h = refl
stored_again (Some content) fresh places end cid block there sha found h = (
  store_of (block_at content) places,
  adds_nothing (block_at content) places cid block there sha found (h.good (key_of cid) there found),
  refl,
)

-- the block of an identity CID is stored too
pub stored_own_block : (told : Option (List ℕ)) (places : List (Key × Place)) (cid : CidParts) (block : List ℕ)
    → cid.hash ≡ Identity → Names cid block → length cid.digest ≤ max_digest_len
    → AreKeptAs (stored_in told places) (stored_in told places) (record { cid = cid; block = block } ∷ [])
stored_own_block None places cid block own names most = refl
stored_own_block (Some content) places cid block own names most =
    (store_of (block_at content) places, adds_own (block_at content) places cid block own names most, refl)

-- no places are small
pub none_small : (places : List (Key × Place)) → places ≡ [] → AreSmall places
none_small places e = λ key place found.
    let nothing : lookup (same_key key) places ≡ None = ap (lookup (same_key key)) e in
    cc (found, nothing)

-- what follows either way
pub either_way : {T E : Type 0} (r : Result T E) (P : T → Type 0) (Q : E → Type 0) (G : Type 0) → MatchResult r P Q → ((x : T) → P x → G) → ((e : E) → Q e → G) → G
either_way (Ok x) P Q G h f g = f x h
either_way (Err e) P Q G h f g = g e h

-- a section that isn't new is kept already
pub kept_same : {P : Type 0} (m : PackMeaning P) (rests : (p : P) → m.did p p []) (joins : (a b c : P) (u v : List PackWrite) → m.did a b u → m.did b c v → m.did a c (u ++ v))
    → (s : PackStoreState P) (section : Section) → new_beside (keys_of s.places) (section ∷ []) ≡ [] → HasKept m s s (section ∷ [])
kept_same m rests joins s section none = record {
  writes = [];
  did = did_nothing m rests joins s.pack;
  growth = All-nil IsGrowth;
  fresh = refl;
  grew = kept_again (m.content s.pack) s.places section none;
}

-- a whole step of `keep`, by what was done to the pack and the places
module _ {P : Type 0} (m : PackMeaning P) (old new : PackStoreState P) (cid : CidParts) (block : List ℕ) (sha : cid.hash ≡ Sha256) (names : Names cid block) (few : length block ≤ max_block_len)
    (none : lookup (same_key (key_of cid)) old.places ≡ None) (indexed : IsIndexedIn (m.content old.pack) old.fresh old.places old.end) (small : AreSmall old.places)
    (fresh : new.fresh ≡ old.fresh) where
  pub added_fields : AddsSection (pack_step m old.pack new.pack) old.places new.places old.end new.end (key_of cid) (record { cid = cid; block = block })
      → AreSmall new.places × IsIndexedIn (m.content new.pack) old.fresh new.places new.end
  added_fields a =
      let place : Place = record { offset = old.end + length a.head; size = length block } in
      let end : new.end ≡ (old.end + length a.head) + length block = a.end in
      let fits : new.end < 2 ^ 64 = a.fits in (
        small_more old.places new.places (key_of cid) place a.places (omega arith) few small,
        indexed_in (m.content old.pack) (m.content new.pack) a.head block old.fresh old.places new.places old.end new.end (key_of cid) a.appended.told a.places a.end none
            (named_good cid block sha names few) indexed,
      )

  pub added_kept : AddsSection (pack_step m old.pack new.pack) old.places new.places old.end new.end (key_of cid) (record { cid = cid; block = block })
      → HasKept m old new (record { cid = cid; block = block } ∷ [])
      × AreKeptAs (stored_in (m.content old.pack) old.places) (stored_in (m.content new.pack) new.places) (record { cid = cid; block = block } ∷ [])
  added_kept a = (
    kept_one m old new (record { cid = cid; block = block }) a sha fresh none indexed,
    adds_stored (m.content old.pack) (m.content new.pack) a.head block old.fresh old.places new.places old.end cid a.appended.told a.places sha names few none indexed,
  )

  pub left_fields : (fault : KeepFault) → LeavesOut (pack_step m old.pack new.pack) old.places new.places old.end new.end fault
      → AreSmall new.places × IsIndexedIn (m.content new.pack) old.fresh new.places new.end
  left_fields fault left = (subst AreSmall (sym left.places) small, indexed_still m old new fault left indexed)
