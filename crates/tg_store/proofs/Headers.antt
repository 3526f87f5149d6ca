-- The headers of packs.
use Rattle.std.proofs.Common.{◌≡◌, ◌≤◌, ◌<◌, ◌+◌, ◌-◌, ℕ, Bool, true, codes, List, [], ◌∷◌, ◌++◌, length, take, drop, replicate, All, Option, Some, None, refl, ap, sym, subst, ◌∙◌, inl, inr, arith}
use Rattle.std.specs.List.{flat_map}
use Rattle.std.proofs.lemmas.List.{append-nil, length-append, length-drop, drop-drop, drop_at}
use Rattle.std.proofs.lemmas.List.Elements.{All-cons, All-nil, All-replicate}
use Rattle.tg_bytes.specs.Overwriting.{over}
use Rattle.tg_varint.specs.Laws.{SpellingLaws}
use Rattle.tg_varint.specs.Varint.{VarintSpelling}
use Rattle.tg_cid.specs.Cid.{CidParts}
use Rattle.tg_cid.specs.Spelling.{CidBytes, Varints, codec_code}
use Rattle.tg_cid.specs.declared.cid.Codec.{Codec}
use Rattle.tg_cid.specs.declared.cid.HashKind.{HashKind}
use Rattle.tg_cid.specs.declared.cid.HashKind.TheVariants.{Sha256, Identity}
use Rattle.tg_car.specs.CarText.{HeaderText, IsRoot, header_map, root_text, string_head}
use Rattle.tg_car.specs.Laws.{CarLaws}
use Rattle.tg_files.specs.Packs.{Reaches, written}
use Rattle.tg_files.specs.Packs.PackWrite.{append, overwrite}
use Rattle.tg_bytes.specs.Told.{IsNothing}
use Rattle.tg_cid.specs.CodeLaws.{codec_below}
use Rattle.tg_varint.specs.GroupLaws.{one_long}
use Rattle.tg_store.specs.declared.key.Key.{Key}
use Rattle.tg_store.specs.declared.place.Place.{Place}
use Rattle.tg_store.specs.Attaching.{unfinished_header}
use Rattle.tg_store.specs.Entries.{IsGood}
use Rattle.tg_store.specs.Finishing.{HasRoot}
use Rattle.tg_store.specs.Packs.{IsIndexed, IsIndexedIn, block_at, unfinished_root}

-- ---- the header of a pack that isn't finished

zeros : All (λ b. b < 256) (replicate 32 0)
zeros = All-replicate (λ (b : ℕ). b < 256) 32 0 (omega arith)

small_root : All (λ b. b < 256) unfinished_root
small_root =
    All-cons (λ (b : ℕ). b < 256) 0 (1 ∷ 0x55 ∷ 0x12 ∷ 0x20 ∷ replicate 32 0) (omega arith)
    (All-cons (λ (b : ℕ). b < 256) 1 (0x55 ∷ 0x12 ∷ 0x20 ∷ replicate 32 0) (omega arith)
    (All-cons (λ (b : ℕ). b < 256) 0x55 (0x12 ∷ 0x20 ∷ replicate 32 0) (omega arith)
    (All-cons (λ (b : ℕ). b < 256) 0x12 (0x20 ∷ replicate 32 0) (omega arith)
    (All-cons (λ (b : ℕ). b < 256) 0x20 (replicate 32 0) (omega arith) zeros))))

is_root : IsRoot unfinished_root
is_root = record { rest = 1 ∷ 0x55 ∷ 0x12 ∷ 0x20 ∷ replicate 32 0; begins = refl; low = omega arith; high = omega arith; are_bytes = small_root }

pub unfinished_text : SpellingLaws → HeaderText (unfinished_root ∷ []) unfinished_header
unfinished_text laws = record {
  few = omega arith;
  each = All-cons IsRoot unfinished_root [] is_root (All-nil IsRoot);
  size = 0x3a ∷ [];
  size_is = laws.one_byte 58 (omega arith);
  whole = refl;
}

-- ---- how many bytes a header has

four_bytes : (codec : Codec) (head : List ℕ) → Varints (1 ∷ codec_code codec ∷ 0x12 ∷ 32 ∷ []) head → length head ≡ 4
four_bytes codec head v =
    let a = one_long 1 v.0 (omega arith) v.3 in
    let b = one_long (codec_code codec) v.4.0 (codec_below codec) v.4.3 in
    let c = one_long 0x12 v.4.4.0 (omega arith) v.4.4.3 in
    let d = one_long 32 v.4.4.4.0 (omega arith) v.4.4.4.3 in
    let none : length v.4.4.4.1 ≡ 0 = ap length v.4.4.4.4 in
    let first : length head ≡ length v.0 + length v.1 = ap length v.2 ∙ length-append v.0 v.1 in
    let second : length v.1 ≡ length v.4.0 + length v.4.1 = ap length v.4.2 ∙ length-append v.4.0 v.4.1 in
    let third : length v.4.1 ≡ length v.4.4.0 + length v.4.4.1 = ap length v.4.4.2 ∙ length-append v.4.4.0 v.4.4.1 in
    let fourth : length v.4.4.1 ≡ length v.4.4.4.0 + length v.4.4.4.1 = ap length v.4.4.4.2 ∙ length-append v.4.4.4.0 v.4.4.4.1 in
    omega arith

-- a CIDv1 with sha2-256 has 36 bytes
cid_size : (codec : Codec) (hash : HashKind) (digest name : List ℕ) → hash ≡ Sha256
    → CidBytes (record { version = 1; codec = codec; hash = hash; digest = digest }) name → length name ≡ 36
cid_size codec Identity digest name e h = cc e
cid_size codec Sha256 digest name e (inl zero) = absurd (omega (arith, zero.version))
cid_size codec Sha256 digest name e (inr one) =
    let size : length digest ≡ 32 = one.size in
    let head = four_bytes codec one.head (subst (λ (n : ℕ). Varints (1 ∷ codec_code codec ∷ 0x12 ∷ n ∷ []) one.head) size one.numbers) in
    let whole : length name ≡ length one.head + length digest = ap length one.whole ∙ length-append one.head digest in
    omega arith

-- the end of the map
abbrev back : List ℕ
back = 0x67 ∷ (codes "version" ++ 1 ∷ [])

map_size : (root : List ℕ) → length root ≡ 37 → length (header_map (root ∷ [])) ≡ 58
map_size root e =
    let head : string_head (length root) ≡ 0x58 ∷ 37 ∷ [] = ap string_head e in
    let text : length (root_text root) ≡ 41 =
    ap (λ (l : List ℕ). length (0xd8 ∷ 0x2a ∷ (l ++ root))) head ∙ omega arith in
    let texts : length (flat_map root_text (root ∷ [])) ≡ 41 = ap length (append-nil (root_text root)) ∙ text in
    let whole : length (flat_map root_text (root ∷ []) ++ back) ≡ 50 = length-append (flat_map root_text (root ∷ [])) back ∙ omega arith in
    omega arith

pub header_size : (root : CidParts) (name header : List ℕ) → root.hash ≡ Sha256 → CidBytes (record root { version = 1 }) name
    → HeaderText ((0 ∷ name) ∷ []) header → length header ≡ 59
header_size root name header sha spelled text =
    let size : length name ≡ 36 = cid_size root.codec root.hash root.digest name sha spelled in
    let map : length (header_map ((0 ∷ name) ∷ [])) ≡ 58 = map_size (0 ∷ name) (omega arith) in
    let one : length text.size ≡ 1 = one_long 58 text.size (omega arith) (subst (λ (n : ℕ). VarintSpelling n text.size) map text.size_is) in
    let whole : length header ≡ length text.size + length (header_map ((0 ∷ name) ∷ [])) = ap length text.whole ∙ length-append text.size (header_map ((0 ∷ name) ∷ [])) in
    omega arith

-- ---- a store that was created

created_content : (old new : Option (List ℕ)) (header : List ℕ) → IsNothing old → new ≡ written old (append header ∷ []) → (content : List ℕ) → new ≡ Some content → content ≡ header
created_content None new header nothing e content f = cc (e, f)
created_content (Some held) new header nothing e content f =
    let whole : Some content ≡ Some (held ++ header) = sym f ∙ e in
    let same : content ≡ held ++ header = cc in
    same ∙ ap (λ (l : List ℕ). l ++ header) nothing

pub created_header : SpellingLaws → (old new : Option (List ℕ)) → IsNothing old → new ≡ written old (append unfinished_header ∷ []) → (content : List ℕ) → new ≡ Some content
    → HeaderText (unfinished_root ∷ []) content
created_header laws old new nothing e content f =
    subst (HeaderText (unfinished_root ∷ [])) (sym (created_content old new unfinished_header nothing e content f)) (unfinished_text laws)

new_indexed : SpellingLaws → (places : List (Key × Place)) → places ≡ [] → IsIndexed unfinished_header true places 59
new_indexed laws places none = subst (λ (l : List (Key × Place)). IsIndexed unfinished_header true l 59) (sym none) (record {
  end_is = refl;
  within = λ key place found. cc found;
  good = λ key place found. cc found;
  one_root = λ is. record {
    root = unfinished_root;
    header = unfinished_header;
    rest = [];
    whole = sym (append-nil unfinished_header);
    text = unfinished_text laws;
    size = refl;
  };
  behind = λ is key place found. cc found;
})

pub created_indexed : SpellingLaws → (old new : Option (List ℕ)) (places : List (Key × Place)) → IsNothing old → new ≡ written old (append unfinished_header ∷ []) → places ≡ []
    → IsIndexedIn new true places 59
created_indexed laws old None places nothing e none = tt
created_indexed laws old (Some content) places nothing e none =
    subst (λ (l : List ℕ). IsIndexed l true places 59) (sym (created_content old (Some content) unfinished_header nothing e content refl)) (new_indexed laws places none)

-- ---- a root that is written

-- the blocks stay where they were
block_stays : (old header : List ℕ) (place : Place) → length header ≡ 59 → 59 ≤ length old → 59 ≤ place.offset → block_at (header ++ drop 59 old) place ≡ block_at old place
block_stays old header place size long behind =
    let split : place.offset ≡ 59 + (place.offset - 59) = omega arith in
    let new : drop place.offset (header ++ drop 59 old) ≡ drop (place.offset - 59) (drop 59 old) =
    ap (λ n. drop n (header ++ drop 59 old)) split
    ∙ (sym (drop-drop (place.offset - 59) 59 (header ++ drop 59 old)) ∙ ap (drop (place.offset - 59)) (drop_at header (drop 59 old) 59 size)) in
    let was : drop (place.offset - 59) (drop 59 old) ≡ drop place.offset old = drop-drop (place.offset - 59) 59 old ∙ ap (λ n. drop n old) (sym split) in
    ap (take place.size) (new ∙ was)

pub written_over : (old header : List ℕ) → length header ≡ 59 → over old 0 header ≡ header ++ drop 59 old
written_over old header size =
    let from : 0 + length header ≡ 59 = omega arith in
    ap (λ n. header ++ drop n old) from

finished_indexed : (old header root : List ℕ) (places : List (Key × Place)) (end : ℕ) → length header ≡ 59 → HeaderText (root ∷ []) header → IsIndexed old true places end
    → IsIndexed (header ++ drop 59 old) true places end
finished_indexed old header root places end size text indexed =
    let one = indexed.one_root refl in
    let sizes : length old ≡ length one.header + length one.rest = ap length one.whole ∙ length-append one.header one.rest in
    let front : length one.header ≡ 59 = one.size in
    let same : length (header ++ drop 59 old) ≡ length old = length-append header (drop 59 old) ∙ omega (arith, length-drop 59 old) in
    record {
      end_is = indexed.end_is ∙ sym same;
      within = λ key place found. let old_end = indexed.within key place found in omega arith;
      good = λ key place found.
          subst (IsGood key) (sym (block_stays old header place size (omega arith) (indexed.behind refl key place found))) (indexed.good key place found);
      one_root = λ is. record { root = root; header = header; rest = drop 59 old; whole = refl; text = text; size = size };
      behind = indexed.behind;
    }

pub finished_in : (old new : Option (List ℕ)) (header root : List ℕ) (fresh : Bool) (places : List (Key × Place)) (end : ℕ) → length header ≡ 59 → HeaderText (root ∷ []) header
    → fresh ≡ true → new ≡ written old (overwrite 0 header ∷ []) → IsIndexedIn old fresh places end → IsIndexedIn new fresh places end
finished_in old None header root fresh places end size text is e indexed = tt
finished_in None (Some x) header root fresh places end size text is e indexed = cc e
finished_in (Some c) (Some x) header root fresh places end size text is e indexed =
    let over_it : x ≡ over c 0 header = cc e in
    let now : x ≡ header ++ drop 59 c = over_it ∙ written_over c header size in
    subst (λ (b : Bool). IsIndexed x b places end) (sym is)
    (subst (λ (l : List ℕ). IsIndexed l true places end) (sym now)
    (finished_indexed c header root places end size text (subst (λ (b : Bool). IsIndexed c b places end) is indexed)))

-- a CAR with one root has this one then
pub root_written : CarLaws → (old new : Option (List ℕ)) (header root : List ℕ) (fresh : Bool) (places : List (Key × Place)) (end : ℕ) → length header ≡ 59 → HeaderText (root ∷ []) header
    → fresh ≡ true → new ≡ written old (overwrite 0 header ∷ []) → IsIndexedIn old fresh places end → HasRoot old new root
root_written laws old None header root fresh places end size text is e indexed = tt
root_written laws None (Some x) header root fresh places end size text is e indexed = cc e
root_written laws (Some c) (Some x) header root fresh places end size text is e indexed = λ before sections car.
    let over_it : x ≡ over c 0 header = cc e in
    let now : x ≡ header ++ drop 59 c = over_it ∙ written_over c header size in
    let one = indexed.one_root is in
    let headers = laws.one_header (before ∷ []) (one.root ∷ []) car.header one.header car.rest one.rest car.header_is one.text (sym car.whole ∙ one.whole) in
    let front : length car.header ≡ 59 = ap length headers.0 ∙ one.size in
    let rest : drop 59 c ≡ car.rest = ap (drop 59) car.whole ∙ drop_at car.header car.rest 59 front in
    record {
      header = header;
      rest = car.rest;
      whole = now ∙ ap (λ (l : List ℕ). header ++ l) rest;
      header_is = text;
      sections_are = car.sections_are;
    }

-- the header is there
pub header_there : (content : Option (List ℕ)) (fresh : Bool) (places : List (Key × Place)) (end size : ℕ) → fresh ≡ true → size ≡ 59 → IsIndexedIn content fresh places end
    → Reaches content (0 + size)
header_there None fresh places end size is e indexed = tt
header_there (Some c) fresh places end size is e indexed =
    let one = indexed.one_root is in
    let sizes : length c ≡ length one.header + length one.rest = ap length one.whole ∙ length-append one.header one.rest in
    let front : length one.header ≡ 59 = one.size in
    omega arith
