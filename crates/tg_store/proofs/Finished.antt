-- A pack that was created, filled and finished, and what is attached of it.
use Rattle.std.proofs.Common.{◌≡◌, ◌≢◌, ◌≤◌, ◌<◌, ◌+◌, ◌-◌, ℕ, Bool, true, false, ◌||◌, cond, List, [], ◌∷◌, ◌++◌, length, map, take, drop, replicate, All, Option, Some, None, option_map, option_and_then, refl, ap, ap₂, sym, subst, ◌∙◌, inr, arith}
use Rattle.std.specs.List.{list_any}
use Rattle.std.specs.Map.{keys_of, lookup}
use Rattle.std.proofs.lemmas.List.{append_assoc, length-append, drop_at, take_at}
use Rattle.std.proofs.lemmas.List.Elements.{All-cons, All-head, All-nil, All-replicate, All-tail}
use Rattle.tg_bytes.specs.Overwriting.{over}
use Rattle.tg_varint.specs.Laws.{SpellingLaws}
use Rattle.tg_cid.specs.Cid.{CidParts}
use Rattle.tg_cid.specs.Limits.{max_block_len}
use Rattle.tg_cid.specs.Spelling.{CidBytes}
use Rattle.tg_cid.specs.declared.cid.HashKind.TheVariants.{Sha256}
use Rattle.tg_car.specs.CarText.{HeaderText, SectionText}
use Rattle.tg_car.specs.Laws.{CarLaws}
use Rattle.tg_car.specs.declared.section.Section.{Section as CarSection}
use Rattle.tg_files.specs.Packs.{PackMeaning, written}
use Rattle.tg_files.specs.Packs.PackWrite.{overwrite}
use Rattle.tg_model.specs.Dag.{Section}
use Rattle.tg_model.specs.Stores.{AddsEach, AreKeptAs, Store, as_v1}
use Rattle.tg_bytes.specs.Lists.{neither}
use Rattle.tg_store.specs.declared.key.Key.{Key}
use Rattle.tg_store.specs.declared.place.Place.{Place}
use Rattle.tg_store.specs.Attaching.{IsAttached, IsNamed, IsSmall, first_block, first_under, unfinished_header}
use Rattle.tg_store.specs.Entries.{checked, first_of_each, is_held, new_beside, store_of}
use Rattle.tg_store.specs.EntryLaws.{checked_is, found_by_same, good_checked, good_named, named_good, not_held}
use Rattle.tg_store.specs.Finishing.{IsFinished, IsNew, unfinished_cid}
use Rattle.tg_store.specs.KeyLaws.{not_under, same_key_self, under_is, under_sha256}
use Rattle.tg_store.specs.Keys.{found_by, is_under, key_of, same_key}
use Rattle.tg_store.specs.Packs.{ArePlacedAt, GrewBy, HasKept, PackStoreState, block_at, entry_before, in_car, stored_in, unfinished_root}
use Rattle.tg_store.proofs.Causes.{some_section}
use Rattle.tg_store.proofs.Courses.{Begins, compare, left_goes_on, right_goes_on, same, same_header}
use Rattle.tg_store.proofs.Growing.{placed_sections}
use Rattle.tg_store.proofs.Headers.{header_size, unfinished_text, written_over}
use Rattle.tg_store.proofs.Stopping.{CidsOnce}

-- ---- what was kept is stored

-- what is stored stays stored
stays : (old new : Store) (sections : List Section) (cid : CidParts) → AddsEach old new sections → (old cid ≡ None → ⊥) → new cid ≡ None → ⊥
stays old new [] cid h some none = some (sym (ap (λ (s : Store). s cid) h) ∙ none)
stays old new (section ∷ sections) cid h some none = stays h.0 new sections cid h.2 between none
  where
    between : h.0 cid ≡ None → ⊥
    between nothing =
        let apart : as_v1 cid ≢ as_v1 section.cid = λ twin. cc (sym (h.1.here cid twin) ∙ nothing) in
        some (sym (h.1.others cid apart) ∙ nothing)

each_stored : (old new : Store) (sections : List Section) → AddsEach old new sections → All (λ section. new section.cid ≡ None → ⊥) sections
each_stored old new [] h = All-nil (λ (section : Section). new section.cid ≡ None → ⊥)
each_stored old new (section ∷ sections) h =
    let here : h.0 section.cid ≡ None → ⊥ = λ none. cc (sym (h.1.here section.cid refl) ∙ none) in
    All-cons (λ (section : Section). new section.cid ≡ None → ⊥) section sections (stays h.0 new sections section.cid h.2 here) (each_stored h.0 new sections h.2)

-- ---- the first section under each CID

-- what holds of all sections holds of those
new_all : (Q : Section → Type 0) (keys : List Key) (sections : List Section) → All Q sections → All Q (new_beside keys sections)
new_all Q keys [] all = All-nil Q
new_all Q keys (section ∷ sections) all =
    by (is_held keys section.cid) (new_all Q keys sections rest) (new_all Q (keys ++ key_of section.cid ∷ []) sections rest)
  where
    rest : All Q sections
    rest = All-tail Q section sections all

    by : (b : Bool) → All Q (new_beside keys sections) → All Q (new_beside (keys ++ key_of section.cid ∷ []) sections)
        → All Q (cond b (new_beside keys sections) (section ∷ new_beside (keys ++ key_of section.cid ∷ []) sections))
    by true known new = known
    by false known new = All-cons Q section (new_beside (keys ++ key_of section.cid ∷ []) sections) (All-head Q section sections all) new

-- and each of those has a key
abbrev pub HasSha256 : Section → Type 0
HasSha256 section = section.cid.hash ≡ Sha256

new_sha256 : (keys : List Key) (sections : List Section) → All HasSha256 (new_beside keys sections)
new_sha256 keys [] = All-nil HasSha256
new_sha256 keys (section ∷ sections) =
    by (is_held keys section.cid) refl (new_sha256 keys sections) (new_sha256 (keys ++ key_of section.cid ∷ []) sections)
  where
    by : (b : Bool) → is_held keys section.cid ≡ b → All HasSha256 (new_beside keys sections)
        → All HasSha256 (new_beside (keys ++ key_of section.cid ∷ []) sections)
        → All HasSha256 (cond b (new_beside keys sections) (section ∷ new_beside (keys ++ key_of section.cid ∷ []) sections))
    by true e known new = known
    by false e known new =
        All-cons HasSha256 section (new_beside (keys ++ key_of section.cid ∷ []) sections) (not_held keys section.cid e).0 new

-- of a key behind others
apart_from : (test : Key → Bool) (keys : List Key) (key : Key) → list_any test (keys ++ key ∷ []) ≡ false → (list_any test keys ≡ false) × (test key ≡ false)
apart_from test [] key h = (refl, (neither (test key) false h).0)
apart_from test (k ∷ keys) key h =
    let parts = neither (test k) (list_any test (keys ++ key ∷ [])) h in
    let rest = apart_from test keys key parts.1 in
    (ap₂ (λ (b c : Bool). b || c) parts.0 rest.0, rest.1)

-- its hash is sha2-256, and it is found under its key, which is none of these
pub record IsFirst (keys : List Key) (sections : List Section) (section : Section) : Type 0 where
  pub has_sha256 : HasSha256 section
  pub found : first_under (key_of section.cid) (map in_car sections) ≡ Some section.block
  pub apart : list_any (same_key (key_of section.cid)) keys ≡ false

-- a section before them has another key
first_behind : (keys : List Key) (first : Section) (sections all : List Section) → All (IsFirst (keys ++ key_of first.cid ∷ []) sections) all
    → All (IsFirst keys (first ∷ sections)) all
first_behind keys first sections [] h = All-nil (IsFirst keys (first ∷ sections))
first_behind keys first sections (section ∷ all) h =
    let P : Section → Type 0 = IsFirst (keys ++ key_of first.cid ∷ []) sections in
    let here : IsFirst (keys ++ key_of first.cid ∷ []) sections section = All-head P section all h in
    let parts = apart_from (same_key (key_of section.cid)) keys (key_of first.cid) here.apart in
    All-cons (IsFirst keys (first ∷ sections)) section all
    (record {
      has_sha256 = here.has_sha256;
      found = ap (λ (b : Bool). cond b (Some first.block) (first_under (key_of section.cid) (map in_car sections))) (not_under (key_of section.cid) first.cid parts.1)
          ∙ here.found;
      apart = parts.0;
    })
    (first_behind keys first sections all (All-tail P section all h))

pub are_first : (keys : List Key) (sections : List Section) → All (IsFirst keys (new_beside keys sections)) (new_beside keys sections)
are_first keys [] = All-nil (IsFirst keys [])
are_first keys (section ∷ sections) =
    by (is_held keys section.cid) refl (are_first keys sections) (are_first (keys ++ key_of section.cid ∷ []) sections)
  where
    more : List Section
    more = new_beside (keys ++ key_of section.cid ∷ []) sections

    by : (b : Bool) → is_held keys section.cid ≡ b → All (IsFirst keys (new_beside keys sections)) (new_beside keys sections)
        → All (IsFirst (keys ++ key_of section.cid ∷ []) more) more
        → All (IsFirst keys (cond b (new_beside keys sections) (section ∷ more))) (cond b (new_beside keys sections) (section ∷ more))
    by true e known new = known
    by false e known new =
        let not = not_held keys section.cid e in
        let here : IsFirst keys (section ∷ more) section = record {
          has_sha256 = not.0;
          found = ap (λ (b : Bool). cond b (Some section.block) (first_under (key_of section.cid) (map in_car more)))
              (under_sha256 (key_of section.cid) section.cid not.0 ∙ same_key_self (key_of section.cid));
          apart = not.1;
        } in
        All-cons (IsFirst keys (section ∷ more)) section more here (first_behind keys section more more new)

-- ---- what stands at the places

-- the block of a section at the place behind its head
block_placed : (content pre text more : List ℕ) (section : Section) → content ≡ pre ++ (text ++ more) → SectionText (in_car section) text
    → block_at content (entry_before (length pre + length text) section).1 ≡ section.block
block_placed content pre text more section whole text_is =
    let head : List ℕ = text_is.size ++ text_is.name in
    let parts : text ≡ head ++ section.block = text_is.whole ∙ sym (append_assoc text_is.size text_is.name section.block) in
    let sizes : length text ≡ length head + length section.block = ap length parts ∙ length-append head section.block in
    let offset : (length pre + length text) - length section.block ≡ length pre + length head = omega arith in
    let front : length (pre ++ head) ≡ length pre + length head = length-append pre head in
    let divided : content ≡ (pre ++ head) ++ (section.block ++ more) =
    whole ∙ (ap (λ (l : List ℕ). pre ++ (l ++ more)) parts ∙ (ap (λ (l : List ℕ). pre ++ l) (append_assoc head section.block more) ∙ sym (append_assoc pre head (section.block ++ more)))) in
    ap₂ (λ (n : ℕ) (l : List ℕ). take (length section.block) (drop n l)) offset divided
    ∙ (ap (take (length section.block)) (drop_at (pre ++ head) (section.block ++ more) (length pre + length head) front)
    ∙ take_at section.block more (length section.block) refl)

-- the blocks at the places are those of the first sections
placed_under : (content pre : List ℕ) (sections : List Section) (bytes : List ℕ) (places : List (Key × Place)) → content ≡ pre ++ bytes → All HasSha256 sections
    → ArePlacedAt (length pre) sections bytes places → (key : Key) → option_map (block_at content) (lookup (same_key key) places) ≡ first_under key (map in_car sections)
placed_under content pre [] bytes places whole have h key = ap (λ (l : List (Key × Place)). option_map (block_at content) (lookup (same_key key) l)) h.1
placed_under content pre (section ∷ sections) bytes places whole have h key =
    let again : content ≡ (pre ++ h.0) ++ h.1 = whole ∙ (ap (λ (l : List ℕ). pre ++ l) h.3 ∙ sym (append_assoc pre h.0 h.1)) in
    let at : length (pre ++ h.0) ≡ length pre + length h.0 = length-append pre h.0 in
    ap (λ (l : List (Key × Place)). option_map (block_at content) (lookup (same_key key) l)) h.5
    ∙ by (same_key key (key_of section.cid)) (placed_under content (pre ++ h.0) sections h.1 h.2 again (All-tail HasSha256 section sections have) (subst (λ (n : ℕ). ArePlacedAt n sections h.1 h.2) (sym at) h.6) key)
    ∙ ap (λ (b : Bool). cond b (Some section.block) (first_under key (map in_car sections))) (sym (under_sha256 key section.cid (All-head HasSha256 section sections have)))
  where
    place : Place
    place = (entry_before (length pre + length h.0) section).1

    block : block_at content place ≡ section.block
    block = block_placed content pre h.0 h.1 section (whole ∙ ap (λ (l : List ℕ). pre ++ l) h.3) h.4

    by : (b : Bool) → option_map (block_at content) (lookup (same_key key) h.2) ≡ first_under key (map in_car sections)
        → option_map (block_at content) (cond b (Some place) (lookup (same_key key) h.2)) ≡ cond b (Some section.block) (first_under key (map in_car sections))
    by true rest = ap Some block
    by false rest = rest

-- so what is stored are the first sections, as far as they are good
stored_first : (content : List ℕ) (places : List (Key × Place)) (sections : List CarSection)
    → ((key : Key) → option_map (block_at content) (lookup (same_key key) places) ≡ first_under key sections) → (cid : CidParts)
    → store_of (block_at content) places cid ≡ found_by cid.hash cid.digest (option_and_then (checked (key_of cid)) (first_under (key_of cid) sections))
stored_first content places sections h cid =
    ap (found_by cid.hash cid.digest) (by (lookup (same_key (key_of cid)) places) ∙ ap (option_and_then (checked (key_of cid))) (h (key_of cid)))
  where
    by : (o : Option Place) → option_and_then (λ (p : Place). checked (key_of cid) (block_at content p)) o
        ≡ option_and_then (checked (key_of cid)) (option_map (block_at content) o)
    by None = refl
    by (Some p) = refl

-- ---- they are good

module _ (store : Store) (sections : List CarSection)
    (stored : (cid : CidParts) → store cid ≡ found_by cid.hash cid.digest (option_and_then (checked (key_of cid)) (first_under (key_of cid) sections))) where
  stored_fine : (section : Section) → HasSha256 section → first_under (key_of section.cid) sections ≡ Some section.block → (store section.cid ≡ None → ⊥)
      → IsNamed (in_car section) × IsSmall (in_car section)
  stored_fine section sha found some = by (store section.cid) refl
    where
      is : store section.cid ≡ checked (key_of section.cid) section.block
      is = stored section.cid ∙ found_by_same section.cid.hash section.cid.digest _ sha ∙ ap (option_and_then (checked (key_of section.cid))) found

      by : (o : Option (List ℕ)) → store section.cid ≡ o → IsNamed (in_car section) × IsSmall (in_car section)
      by None e = absurd (some e)
      by (Some block) e =
          let q = checked_is (key_of section.cid) section.block block (sym is ∙ e) in
          let named = good_named section.cid block sha q.1 in
          let small : length block ≤ max_block_len = q.1.small in (
            subst (λ (l : List ℕ). IsNamed (record { cid = section.cid; block = l })) (sym q.0) named,
            subst (λ (l : List ℕ). length l ≤ max_block_len) (sym q.0) small,
          )

  all_fine : (keys : List Key) (firsts some : List Section) → sections ≡ map in_car firsts → All (IsFirst keys firsts) some → All (λ section. store section.cid ≡ None → ⊥) some
      → All IsNamed (map in_car some) × All IsSmall (map in_car some)
  all_fine keys firsts [] e first h = (All-nil IsNamed, All-nil IsSmall)
  all_fine keys firsts (section ∷ some) e first h =
      let P : Section → Type 0 = λ section. store section.cid ≡ None → ⊥ in
      let here : IsFirst keys firsts section = All-head (IsFirst keys firsts) section some first in
      let fine = stored_fine section here.has_sha256 (ap (first_under (key_of section.cid)) e ∙ here.found) (All-head P section some h) in
      let rest = all_fine keys firsts some e (All-tail (IsFirst keys firsts) section some first) (All-tail P section some h) in
      (All-cons IsNamed (in_car section) (map in_car some) fine.0 rest.0, All-cons IsSmall (in_car section) (map in_car some) fine.1 rest.1)

-- of good sections each is stored
under_checked : (key : Key) (sections : List CarSection) → All IsNamed sections → All IsSmall sections
    → option_and_then (checked key) (first_under key sections) ≡ first_under key sections
under_checked key [] named small = refl
under_checked key (section ∷ sections) named small =
    by (is_under key section.cid) refl (under_checked key sections (All-tail IsNamed section sections named) (All-tail IsSmall section sections small))
  where
    good : (section.cid.hash ≡ Sha256) × (key ≡ key_of section.cid) → checked key section.block ≡ Some section.block
    good has = ap (λ (k : Key). checked k section.block) has.1
        ∙ good_checked (key_of section.cid) section.block (named_good section.cid section.block has.0 (All-head IsNamed section sections named) (All-head IsSmall section sections small))

    by : (b : Bool) → is_under key section.cid ≡ b → option_and_then (checked key) (first_under key sections) ≡ first_under key sections
        → option_and_then (checked key) (cond b (Some section.block) (first_under key sections)) ≡ cond b (Some section.block) (first_under key sections)
    by true test rest = good (under_is key section.cid test)
    by false test rest = rest

-- ---- the root

unfinished_spelled : SpellingLaws → CidBytes unfinished_cid (1 ∷ 0x55 ∷ 0x12 ∷ 0x20 ∷ replicate 32 0)
unfinished_spelled laws = inr (record {
  version = refl;
  size = refl;
  are_bytes = All-replicate (λ (b : ℕ). b < 256) 32 0 (omega arith);
  head = 1 ∷ 0x55 ∷ 0x12 ∷ 0x20 ∷ [];
  numbers = (
    1 ∷ [],
    0x55 ∷ 0x12 ∷ 0x20 ∷ [],
    refl,
    laws.one_byte 1 (omega arith),
    (
      0x55 ∷ [],
      0x12 ∷ 0x20 ∷ [],
      refl,
      laws.one_byte 0x55 (omega arith),
      (0x12 ∷ [], 0x20 ∷ [], refl, laws.one_byte 0x12 (omega arith), (0x20 ∷ [], [], refl, laws.one_byte 0x20 (omega arith), refl)),
    ),
  );
  whole = refl;
})

-- another root than the one of packs that aren't finished
other_roots : SpellingLaws → CidsOnce → (root : CidParts) (name : List ℕ) → CidBytes root name → root ≢ unfinished_cid → (0 ∷ name) ∷ [] ≢ unfinished_root ∷ []
other_roots laws cids root name spelled other e =
    let unfinished : List ℕ = 1 ∷ 0x55 ∷ 0x12 ∷ 0x20 ∷ replicate 32 0 in
    let roots : 0 ∷ name ≡ unfinished_root = cc e in
    let names : name ≡ unfinished = cc roots in
    other (cids root unfinished_cid name unfinished [] [] spelled (unfinished_spelled laws) (ap (λ (l : List ℕ). l ++ []) names)).1

-- ---- a store that was created and filled

-- a header of 59 bytes, and then the texts of these sections, each with a key, of which these are the places
record Filled (content : List ℕ) (places : List (Key × Place)) (sections : List Section) : Type 0 where
  pub header : List ℕ
  pub texts : List ℕ
  pub whole : content ≡ header ++ texts
  pub size : length header ≡ 59
  pub placed : ArePlacedAt 59 sections texts places
  pub have_sha256 : All HasSha256 sections

filled : CarLaws → SpellingLaws → (old : Option (List ℕ)) (new : List ℕ) (before after : List (Key × Place)) (sections : List Section) → before ≡ []
    → ((content : List ℕ) → old ≡ Some content → HeaderText (unfinished_root ∷ []) content) → GrewBy old (Some new) before after sections
    → Filled new after (first_of_each sections)
filled laws spellings None new before after sections none header grew = absurd grew
filled laws spellings (Some old) new before after sections none header grew =
    let size : length old ≡ 59 = ap length (laws.header_text (unfinished_root ∷ []) old unfinished_header (header old refl) (unfinished_text spellings)) in
    let firsts : new_beside (keys_of before) sections ≡ first_of_each sections = ap (λ (l : List (Key × Place)). new_beside (keys_of l) sections) none in
    let places : after ≡ grew.places = grew.entries ∙ ap (λ (l : List (Key × Place)). l ++ grew.places) none in
    let placed : ArePlacedAt 59 (first_of_each sections) grew.texts grew.places =
    subst (λ (n : ℕ). ArePlacedAt n (first_of_each sections) grew.texts grew.places) size
    (subst (λ (s : List Section). ArePlacedAt (length old) s grew.texts grew.places) firsts grew.placed) in
    record {
      header = old;
      texts = grew.texts;
      whole = grew.content;
      size = size;
      placed = subst (ArePlacedAt 59 (first_of_each sections) grew.texts) (sym places) placed;
      have_sha256 = new_sha256 [] sections;
    }

-- what is found at the places
filled_under : (content : List ℕ) (places : List (Key × Place)) (sections : List Section) → Filled content places sections → (key : Key)
    → option_map (block_at content) (lookup (same_key key) places) ≡ first_under key (map in_car sections)
filled_under content places sections f key =
    placed_under content f.header sections f.texts places f.whole f.have_sha256 (subst (λ (n : ℕ). ArePlacedAt n sections f.texts places) (sym f.size) f.placed) key

filled_fine : (content : List ℕ) (places : List (Key × Place)) (old : Store) (sections : List Section) → Filled content places (first_of_each sections)
    → AddsEach old (store_of (block_at content) places) sections
    → All IsNamed (map in_car (first_of_each sections)) × All IsSmall (map in_car (first_of_each sections))
filled_fine content places old sections f added =
    let store : Store = store_of (block_at content) places in
    let firsts : List Section = first_of_each sections in
    let some : All (λ (section : Section). store section.cid ≡ None → ⊥) firsts = new_all (λ (section : Section). store section.cid ≡ None → ⊥) [] sections (each_stored old store sections added) in
    all_fine store (map in_car firsts) (stored_first content places (map in_car firsts) (filled_under content places firsts f)) [] firsts firsts refl (are_first [] sections) some

-- once a header with another root is written over the one that was there, the content is attached
written_attached : (content new header root : List ℕ) (places : List (Key × Place)) (sections : List Section) → Filled content places sections
    → All IsNamed (map in_car sections) → All IsSmall (map in_car sections) → HeaderText (root ∷ []) header → length header ≡ 59 → root ∷ [] ≢ unfinished_root ∷ []
    → new ≡ over content 0 header → IsAttached new (store_of (block_at new) places)
written_attached content new header root places sections f named small text size other e =
    let rest : drop 59 content ≡ f.texts = ap (drop 59) f.whole ∙ drop_at f.header f.texts 59 f.size in
    let whole : new ≡ header ++ f.texts = e ∙ (written_over content header size ∙ ap (λ (l : List ℕ). header ++ l) rest) in
    let now : Filled new places sections = record { header = header; texts = f.texts; whole = whole; size = size; placed = f.placed; have_sha256 = f.have_sha256 } in
    record {
      roots = root ∷ [];
      sections = map in_car sections;
      text = record { header = header; rest = f.texts; whole = whole; header_is = text; sections_are = placed_sections 59 sections f.texts places f.placed };
      finished = other;
      named = named;
      small = small;
      stored = λ cid. stored_first new places (map in_car sections) (filled_under new places sections now) cid
          ∙ ap (found_by cid.hash cid.digest) (under_checked (key_of cid) (map in_car sections) named small);
    }

-- ---- a pack that was finished

pub finished_attached : CarLaws → SpellingLaws → CidsOnce → {P : Type 0} (m : PackMeaning P) (a b c : PackStoreState P) (sections : List Section) (root : CidParts) (content : List ℕ)
    → IsNew m a → HasKept m a b sections → AreKeptAs (stored_in (m.content a.pack) a.places) (stored_in (m.content b.pack) b.places) sections
    → IsFinished m b c root → root.version ≡ 1 → root.hash ≡ Sha256 → root ≢ unfinished_cid → m.content c.pack ≡ Some content → IsAttached content (store_of (block_at content) c.places)
finished_attached laws spellings cids {P} m a b c sections root content new kept stored finished version sha other told =
    subst (λ (l : List (Key × Place)). IsAttached content (store_of (block_at content) l)) (sym finished.places)
    (by (m.content a.pack) (m.content b.pack) new.header kept.grew stored (sym told ∙ finished.did.content))
  where
    one : (let cid : CidParts = record root { version = 1 } in cid) ≡ root
    one = λ i. record { version = (sym version) i; codec = root.codec; hash = root.hash; digest = root.digest }

    size : length finished.header ≡ 59
    size = header_size root finished.name finished.header sha
        (subst (λ (r : CidParts). CidBytes r finished.name) (sym one) finished.spelled) finished.text

    by : (old between : Option (List ℕ)) → ((held : List ℕ) → old ≡ Some held → HeaderText (unfinished_root ∷ []) held) → GrewBy old between a.places b.places sections
        → AreKeptAs (stored_in old a.places) (stored_in between b.places) sections → Some content ≡ written between (overwrite 0 finished.header ∷ [])
        → IsAttached content (store_of (block_at content) b.places)
    by old None header grew kept_as e = cc e
    by None (Some held) header grew kept_as e = absurd grew
    by (Some before) (Some held) header grew kept_as e =
        let f = filled laws spellings (Some before) held a.places b.places sections new.places header grew in
        let fine = filled_fine held b.places (store_of (block_at before) a.places) sections f kept_as in
        let now : content ≡ over held 0 finished.header = cc e in
        written_attached held content finished.header (0 ∷ finished.name) b.places (first_of_each sections) f fine.0 fine.1 finished.text size
        (other_roots spellings cids root finished.name finished.spelled other) now

-- ---- what is attached of one content

pub attached_once : CarLaws → SpellingLaws → CidsOnce → (content : List ℕ) (s t : Store) (cid : CidParts) → IsAttached content s → IsAttached content t → s cid ≡ t cid
attached_once laws spellings cids content s t cid a b =
    let head = same_header laws a.roots b.roots a.text.header b.text.header a.text.rest b.text.rest a.text.header_is b.text.header_is (sym a.text.whole ∙ b.text.whole) in
    let all : a.text.rest ++ [] ≡ b.text.rest ++ [] = ap (λ (l : List ℕ). l ++ []) head.rests in
    elim (compare laws IsSmall a.sections b.sections a.text.rest b.text.rest [] [] a.text.sections_are b.text.sections_are a.small b.small all) [
      | same sections rests ↦ a.stored cid ∙ (ap (λ (l : List CarSection). first_block l cid) sections ∙ sym (b.stored cid))
      | left_goes_on g ↦ absurd (nothing_begun g)
      | right_goes_on g ↦ absurd (nothing_begun g)
    ]
  where
    nothing_begun : Begins IsSmall [] 0 → ⊥
    nothing_begun g =
        let some : 0 < length g.text = some_section laws spellings cids g.section g.text g.text_is in
        let none : 0 ≡ length g.text + length g.more = ap length g.whole ∙ length-append g.text g.more in
        omega arith
