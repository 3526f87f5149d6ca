-- What a pack serves in which the sections of an accepted reply were kept, and which was finished.
use Rattle.std.proofs.Common.{All, ap, ap₂, append_assoc, arith, cond, drop, drop_at, length, length-append, map, option_and_then, option_map, refl, subst, sym, take, take_at, true, false, inl, inr, Bool, IfSome, List, None, Option, Some, [], ℕ, ◌++◌, ◌+◌, ◌-◌, ◌<◌, ◌∙◌, ◌∷◌, ◌≡◌, ◌⊎◌}
use Rattle.std.specs.Map.{keys_of, lookup}
use Rattle.std.proofs.lemmas.List.{append_cancel_left}
use Rattle.std.proofs.lemmas.List.Elements.{All-cons, All-head, All-nil, All-tail}
use Rattle.tg_car.specs.CarText.{CarText, SectionText, SectionsText}
use Rattle.tg_car.specs.Laws.{CarLaws}
use Rattle.tg_car.specs.declared.section.Section.{Section as CarSection}
use Rattle.tg_cid.specs.Cid.{CidParts}
use Rattle.tg_cid.specs.declared.cid.HashKind.TheVariants.{Sha256}
use Rattle.tg_mirror.specs.Mirrors.{ServesContent, mirror_query}
use Rattle.tg_mirror_laws.specs.Mirrored.{CollisionWithin, HoldsHashed, HoldsNothing, MirroredTold, ServesAs, ServesHashed}
use Rattle.tg_model.specs.Dag.{Dag, Section, root_cid}
use Rattle.tg_model.specs.Fits.{CollisionPair}
use Rattle.tg_model.specs.LimitNumbers.{LimitNumbers}
use Rattle.tg_model.specs.Sound.{IsSound}
use Rattle.tg_model.specs.Stores.{AreKeptAs, Store}
use Rattle.tg_store.specs.Attaching.{IsAttached, first_under}
use Rattle.tg_store.specs.Entries.{checked, first_of_each, is_held, new_beside, store_of}
use Rattle.tg_store.specs.EntryLaws.{checked_is, found_by_same, not_held, stored_none}
use Rattle.tg_store.specs.Filling.{IsCarOfRoot}
use Rattle.tg_store.specs.KeyLaws.{under_sha256}
use Rattle.tg_store.specs.Keys.{key_of, same_key}
use Rattle.tg_store.specs.PackLaws.{told_store}
use Rattle.tg_store.specs.Packs.{ArePlacedAt, GrewBy, block_at, entry_before, in_car, stored_in}
use Rattle.tg_store.specs.declared.key.Key.{Key}
use Rattle.tg_store.specs.declared.place.Place.{Place}
use Rattle.tg_varint.specs.GroupLaws.{not_empty}
use Rattle.tg_verify.specs.Laws.{ThroughFits}
use Rattle.tg_verify.specs.Taken.{IsThrough}

-- ---- the first section under each CID has sha2-256

abbrev HasSha256 : Section → Type 0
HasSha256 section = section.cid.hash ≡ Sha256

new_sha256 : (keys : List Key) (sections : List Section) → All HasSha256 (new_beside keys sections)
new_sha256 keys [] = All-nil HasSha256
new_sha256 keys (section ∷ sections) =
    by (is_held keys section.cid) refl (new_sha256 keys sections) (new_sha256 (keys ++ key_of section.cid ∷ []) sections)
  where
    more : List Section
    more = new_beside (keys ++ key_of section.cid ∷ []) sections

    by : (b : Bool) → is_held keys section.cid ≡ b → All HasSha256 (new_beside keys sections) → All HasSha256 more
        → All HasSha256 (cond b (new_beside keys sections) (section ∷ more))
    by true e known new = known
    by false e known new = All-cons HasSha256 section more (not_held keys section.cid e).0 new

-- ---- what stands at the places

-- the block of a section at the place behind its head
block_placed : (content pre text more : List ℕ) (section : Section) → content ≡ pre ++ (text ++ more) → SectionText (in_car section) text
    → block_at content (entry_before (length pre + length text) section).1 ≡ section.block
block_placed content pre text more section whole text_is =
    let head : List ℕ = text_is.size ++ text_is.name in
    let parts : text ≡ head ++ section.block = text_is.whole ∙ sym (append_assoc text_is.size text_is.name section.block) in
    let sizes : length text ≡ length head + length section.block = ap length parts ∙ length-append head section.block in
    let offset : (length pre + length text) - length section.block ≡ length pre + length head = omega arith in
    let front : length (pre ++ head) ≡ length pre + length head = length-append pre head in
    let divided : content ≡ (pre ++ head) ++ (section.block ++ more) =
    whole ∙ (ap (λ (l : List ℕ). pre ++ (l ++ more)) parts ∙ (ap (λ (l : List ℕ). pre ++ l) (append_assoc head section.block more) ∙ sym (append_assoc pre head (section.block ++ more)))) in
    ap₂ (λ (n : ℕ) (l : List ℕ). take (length section.block) (drop n l)) offset divided
    ∙ (ap (take (length section.block)) (drop_at (pre ++ head) (section.block ++ more) (length pre + length head) front)
    ∙ take_at section.block more (length section.block) refl)

-- the blocks at the places are those of the first sections
placed_under : (content pre : List ℕ) (sections : List Section) (bytes : List ℕ) (places : List (Key × Place)) → content ≡ pre ++ bytes → All HasSha256 sections
    → ArePlacedAt (length pre) sections bytes places → (key : Key) → option_map (block_at content) (lookup (same_key key) places) ≡ first_under key (map in_car sections)
placed_under content pre [] bytes places whole have h key = ap (λ (l : List (Key × Place)). option_map (block_at content) (lookup (same_key key) l)) h.1
placed_under content pre (section ∷ sections) bytes places whole have h key =
    let again : content ≡ (pre ++ h.0) ++ h.1 = whole ∙ (ap (λ (l : List ℕ). pre ++ l) h.3 ∙ sym (append_assoc pre h.0 h.1)) in
    let at : length (pre ++ h.0) ≡ length pre + length h.0 = length-append pre h.0 in
    ap (λ (l : List (Key × Place)). option_map (block_at content) (lookup (same_key key) l)) h.5
    ∙ by (same_key key (key_of section.cid)) (placed_under content (pre ++ h.0) sections h.1 h.2 again (All-tail HasSha256 section sections have) (subst (λ (n : ℕ). ArePlacedAt n sections h.1 h.2) (sym at) h.6) key)
    ∙ ap (λ (b : Bool). cond b (Some section.block) (first_under key (map in_car sections))) (sym (under_sha256 key section.cid (All-head HasSha256 section sections have)))
  where
    place : Place
    place = (entry_before (length pre + length h.0) section).1

    block : block_at content place ≡ section.block
    block = block_placed content pre h.0 h.1 section (whole ∙ ap (λ (l : List ℕ). pre ++ l) h.3) h.4

    by : (b : Bool) → option_map (block_at content) (lookup (same_key key) h.2) ≡ first_under key (map in_car sections)
        → option_map (block_at content) (cond b (Some place) (lookup (same_key key) h.2)) ≡ cond b (Some section.block) (first_under key (map in_car sections))
    by true rest = ap Some block
    by false rest = rest

-- so it is of sections that were kept where nothing lay
grew_under : (old : Option (List ℕ)) (new : List ℕ) (before after : List (Key × Place)) (sections : List Section) → before ≡ [] → GrewBy old (Some new) before after sections
    → (key : Key) → option_map (block_at new) (lookup (same_key key) after) ≡ first_under key (map in_car (first_of_each sections))
grew_under None new before after sections none grew key = absurd grew
grew_under (Some old) new before after sections none grew key =
    let firsts : new_beside (keys_of before) sections ≡ first_of_each sections = ap (λ (l : List (Key × Place)). new_beside (keys_of l) sections) none in
    let places : after ≡ grew.places = grew.entries ∙ ap (λ (l : List (Key × Place)). l ++ grew.places) none in
    let placed : ArePlacedAt (length old) (first_of_each sections) grew.texts grew.places =
    subst (λ (s : List Section). ArePlacedAt (length old) s grew.texts grew.places) firsts grew.placed in
    ap (λ (l : List (Key × Place)). option_map (block_at new) (lookup (same_key key) l)) places
    ∙ placed_under new old (first_of_each sections) grew.texts grew.places grew.content (new_sha256 [] sections) placed key

-- what is stored stands there
stored_under : (content : List ℕ) (places : List (Key × Place)) (cid : CidParts) (block : List ℕ) (found : Option (List ℕ)) → cid.hash ≡ Sha256
    → option_map (block_at content) (lookup (same_key (key_of cid)) places) ≡ found → store_of (block_at content) places cid ≡ Some block → found ≡ Some block
stored_under content places cid block found sha e h =
    by (lookup (same_key (key_of cid)) places) e (sym (found_by_same cid.hash cid.digest _ sha) ∙ h)
  where
    by : (o : Option Place) → option_map (block_at content) o ≡ found → option_and_then (λ (p : Place). checked (key_of cid) (block_at content p)) o ≡ Some block → found ≡ Some block
    by None e h = absurd (cc h)
    by (Some p) e h = sym e ∙ ap Some (checked_is (key_of cid) (block_at content p) block h).0

-- ---- a CAR is of one list of sections

some_section : (section : CarSection) (bytes : List ℕ) → SectionText section bytes → 0 < length bytes
some_section section bytes t =
    omega (arith, not_empty _ t.size t.size_is, ap length t.whole, length-append t.size (t.name ++ section.block))

one_sections : CarLaws → (s t : List CarSection) (bytes : List ℕ) → SectionsText s bytes → SectionsText t bytes → s ≡ t
one_sections laws [] [] bytes h k = refl
one_sections laws [] (b ∷ t) bytes h k = absurd (omega (arith, some_section b k.0 k.3, ap length k.2, length-append k.0 k.1, ap length h))
one_sections laws (a ∷ s) [] bytes h k = absurd (omega (arith, some_section a h.0 h.3, ap length h.2, length-append h.0 h.1, ap length k))
one_sections laws (a ∷ s) (b ∷ t) bytes h k =
    let one = laws.one_section a b h.0 k.0 h.1 k.1 h.3 k.3 (sym h.2 ∙ k.2) in
    let rest = append_cancel_left k.0 h.1 k.1 (ap (λ (l : List ℕ). l ++ h.1) (sym one.0) ∙ sym h.2 ∙ k.2) in
    ap₂ (λ (x : CarSection) (l : List CarSection). x ∷ l) one.1 (one_sections laws s t k.1 (subst (SectionsText s) rest h.4) k.4)

one_car : CarLaws → (r q : List (List ℕ)) (s t : List CarSection) (bytes : List ℕ) → CarText r s bytes → CarText q t bytes → s ≡ t
one_car laws r q s t bytes h k =
    let one = laws.one_header r q h.header k.header h.rest k.rest h.header_is k.header_is (sym h.whole ∙ k.whole) in
    let rest = append_cancel_left k.header h.rest k.rest (ap (λ (l : List ℕ). l ++ h.rest) (sym one.0) ∙ sym h.whole ∙ k.whole) in
    one_sections laws s t k.rest (subst (SectionsText s) rest h.sections_are) k.sections_are

-- ---- what is attached of the finished pack

-- it holds what was kept
attached_holds : CarLaws → (root : CidParts) (old : Option (List ℕ)) (held content : List ℕ) (before after : List (Key × Place)) (sections : List Section) (d : Dag) (store : Store) → before ≡ []
    → GrewBy old (Some held) before after sections → IsCarOfRoot root sections content → HoldsHashed (store_of (block_at held) after) d → IsAttached content store → HoldsHashed store d
attached_holds laws root old held content before after sections d store none grew car holds attached section within sha =
    let same : attached.sections ≡ map in_car (first_of_each sections) = one_car laws attached.roots ((0 ∷ car.name) ∷ []) attached.sections (map in_car (first_of_each sections)) content attached.text car.text in
    let found : first_under (key_of section.cid) (map in_car (first_of_each sections)) ≡ Some section.block =
    stored_under held after section.cid section.block (first_under (key_of section.cid) (map in_car (first_of_each sections))) sha (grew_under old held before after sections none grew (key_of section.cid)) (holds section within sha) in
    attached.stored section.cid ∙ found_by_same section.cid.hash section.cid.digest (first_under (key_of section.cid) attached.sections) sha
    ∙ (ap (λ (l : List CarSection). first_under (key_of section.cid) l) same ∙ found)

-- so it serves
attached_serves : CarLaws → ServesHashed → (root : CidParts) (old between new : Option (List ℕ)) (before after : List (Key × Place)) (sections : List Section) (d : Dag) → IsSound d → before ≡ []
    → GrewBy old between before after sections → (between ≡ None → new ≡ None) → IfSome new (IsCarOfRoot root sections)
    → IfSome (stored_in between after) (λ store. ServesAs store d) → IfSome new (ServesContent d)
attached_serves laws serves root old between None before after sections d sound none grew gone car held = tt
attached_serves laws serves root old None (Some content) before after sections d sound none grew gone car held = absurd (cc (gone refl))
attached_serves laws serves root old (Some bytes) (Some content) before after sections d sound none grew gone car held = λ store attached.
    serves store d sound (attached_holds laws root old bytes content before after sections d store none grew car held.holds attached)

-- ---- before anything was kept

nothing_held : (told : Option (List ℕ)) (places : List (Key × Place)) → places ≡ [] → IfSome (stored_in told places) HoldsNothing
nothing_held None places none = tt
nothing_held (Some content) places none = λ cid sha.
    stored_none (block_at content) places cid sha (ap (λ (l : List (Key × Place)). lookup (same_key (key_of cid)) l) none)

-- ---- a reply that was accepted

pub served : CarLaws → ServesHashed → MirroredTold → ThroughFits → (root : CidParts) (limits : LimitNumbers) (old between new : Option (List ℕ)) (before after : List (Key × Place)) (sections : List Section)
    (text : List ℕ) → IsThrough (mirror_query root) limits sections text → before ≡ [] → GrewBy old between before after sections
    → AreKeptAs (stored_in old before) (stored_in between after) sections → (between ≡ None → new ≡ None) → IfSome new (IsCarOfRoot root sections)
    → (d : Dag) → IsSound d → root_cid d ≡ root → IfSome new (ServesContent d) ⊎ (CollisionPair sections d ⊎ CollisionWithin d)
served laws serves mirrored fits root limits old between new before after sections text through none grew kept gone car d sound is_root =
    let fit = fits (mirror_query root) limits sections text through in
    elim (
    mirrored (stored_in old before) (stored_in between after) fit.s d (mirror_query root) sections text (record { path = refl; scope = refl }) fit.fits (told_store old before)
    (nothing_held old before none) kept sound is_root
    ) [
      | inl held ↦ inl (attached_serves laws serves root old between new before after sections d sound none grew gone car held)
      | inr collide ↦ inr collide
    ]
