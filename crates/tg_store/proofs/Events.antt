-- What a reader of a pack gave, and where its blocks lie.
use Rattle.std.proofs.Common.{◌≡◌, ◌≤◌, ◌<◌, ◌+◌, ◌-◌, ◌^◌, ℕ, Bool, true, false, cond, List, [], ◌∷◌, ◌++◌, length, take, drop, All, Option, Some, None, option_and_then, refl, ap, ap₂, sym, subst, ◌∙◌, arith}
use Rattle.std.specs.Map.{lookup}
use Rattle.std.proofs.lemmas.List.{append_assoc, length-append, take_at, drop_at}
use Rattle.std.proofs.lemmas.List.Elements.{All-head, All-tail, All-nil, All-cons, All-append}
use Rattle.tg_car.specs.CarText.{SectionText, SectionsText}
use Rattle.tg_car.specs.Faults.{shown}
use Rattle.tg_car.specs.History.{ArePlaced}
use Rattle.tg_car.specs.declared.event.Event.{Event}
use Rattle.tg_car.specs.declared.event.Event.TheVariants as events
use Rattle.tg_car.specs.declared.section.Section.{Section}
use Rattle.tg_cid.specs.Limits.{max_block_len}
use Rattle.tg_cid.specs.declared.cid.HashKind.TheVariants.{Sha256}
use Rattle.tg_store.specs.declared.key.Key.{Key}
use Rattle.tg_store.specs.declared.place.Place.{Place}
use Rattle.tg_store.specs.Attaching.{IsGoodEvent, IsNamed, IsSmall, Noted, first_place, first_under, or_else, place_of}
use Rattle.tg_store.specs.Entries.{IsGood, checked}
use Rattle.tg_store.specs.EntryLaws.{good_checked, named_good}
use Rattle.tg_store.specs.KeyLaws.{under_is}
use Rattle.tg_store.specs.Keys.{is_under, key_of, same_key}
use Rattle.tg_store.specs.Packs.{block_at}

-- ---- places that are noted

pub first_place-append : (key : Key) (given more : List Event) → first_place key (given ++ more) ≡ or_else (first_place key given) (first_place key more)
first_place-append key [] more = refl
first_place-append key (events.Need ∷ given) more = first_place-append key given more
first_place-append key (events.Header header ∷ given) more = first_place-append key given more
first_place-append key (events.Section at size section ∷ given) more =
    ap (λ (o : Option Place). cond (is_under key section.cid) (Some (place_of at size section)) o) (first_place-append key given more)
    ∙ by (is_under key section.cid) (place_of at size section) (first_place key given) (first_place key more)
  where
    by : (b : Bool) (p : Place) (o r : Option Place) → cond b (Some p) (or_else o r) ≡ or_else (cond b (Some p) o) r
    by true p o r = refl
    by false p o r = refl

pub noted_more : (given more : List Event) (before between after : List (Key × Place)) → Noted given before between → Noted more between after → Noted (given ++ more) before after
noted_more given more before between after h k = record {
  good = All-append IsGoodEvent given more h.good k.good;
  found = λ key. k.found key
      ∙ (ap (λ (o : Option Place). or_else o (first_place key more)) (h.found key)
      ∙ (by (lookup (same_key key) before) (first_place key given) (first_place key more)
      ∙ ap (or_else (lookup (same_key key) before)) (sym (first_place-append key given more))));
}
  where
    by : (a b c : Option Place) → or_else (or_else a b) c ≡ or_else a (or_else b c)
    by None b c = refl
    by (Some x) b c = refl

-- ---- sections that were given

-- sections that were given, each with a property of its event
pub placed_named : (at : ℕ) (sections : List Section) (bytes : List ℕ) (given : List Event) → ArePlaced at sections bytes given → All IsGoodEvent given → All IsNamed sections
placed_named at [] bytes given h good = All-nil IsNamed
placed_named at (s ∷ sections) bytes given h good =
    let front = h.0 in
    let all : All IsGoodEvent (events.Section (shown at) (length front) s ∷ h.2) = subst (All IsGoodEvent) h.5 good in
    All-cons IsNamed s sections (All-head IsGoodEvent (events.Section (shown at) (length front) s) h.2 all)
    (placed_named (at + length front) sections h.1 h.2 h.6 (All-tail IsGoodEvent (events.Section (shown at) (length front) s) h.2 all))

pub placed_text : (at : ℕ) (sections : List Section) (bytes : List ℕ) (given : List Event) → ArePlaced at sections bytes given → SectionsText sections bytes
placed_text at [] bytes given h = h.0
placed_text at (s ∷ sections) bytes given h = (h.0, h.1, h.3, h.4, placed_text (at + length h.0) sections h.1 h.2 h.6)

-- events determine the sections
pub placed_once : (at behind : ℕ) (ss ts : List Section) (u v : List ℕ) (given : List Event) → ArePlaced at ss u given → ArePlaced behind ts v given → ss ≡ ts
placed_once at behind [] [] u v given h k = refl
placed_once at behind [] (t ∷ ts) u v given h k = cc (h.1, k.5)
placed_once at behind (s ∷ ss) [] u v given h k = cc (h.5, k.1)
placed_once at behind (s ∷ ss) (t ∷ ts) u v given h k =
    let both : events.Section (shown at) (length h.0) s ∷ h.2 ≡ events.Section (shown behind) (length k.0) t ∷ k.2 = sym h.5 ∙ k.5 in
    let first : s ≡ t = cc in
    let rest : k.2 ≡ h.2 = cc in
    ap₂ (λ (x : Section) (l : List Section). x ∷ l) first
    (placed_once (at + length h.0) (behind + length k.0) ss ts h.1 k.1 h.2 h.6 (subst (λ (l : List Event). ArePlaced (behind + length k.0) ts k.1 l) rest k.6))

-- ---- what is found at the places

-- a place that is found is no larger than a block may be, and has an end
pub placed_small : (at : ℕ) (sections : List Section) (bytes : List ℕ) (given : List Event) → ArePlaced at sections bytes given → All IsSmall sections
    → (key : Key) (place : Place) → first_place key given ≡ Some place → (place.offset + place.size < 2 ^ 64) × (place.size ≤ max_block_len)
placed_small at [] bytes given h small key place found =
    let nothing : first_place key given ≡ None = ap (first_place key) h.1 in
    cc (found, nothing)
placed_small at (s ∷ sections) bytes given h small key place found =
    by (is_under key s.cid) (ap (first_place key) (sym h.5) ∙ found) (placed_small (at + length h.0) sections h.1 h.2 h.6 (All-tail IsSmall s sections small) key place)
  where
    fits : (p : Place) → p ≡ place_of (shown at) (length h.0) s → (p.offset + p.size < 2 ^ 64) × (p.size ≤ max_block_len)
    fits p e =
        let few : length s.block ≤ max_block_len = All-head IsSmall s sections small in
        let offset : p.offset ≡ shown (shown at + length h.0) - length s.block = ap (λ (q : Place). q.offset) e in
        let size : p.size ≡ length s.block = ap (λ (q : Place). q.size) e in
        (omega arith, omega arith)

    by : (b : Bool) → cond b (Some (place_of (shown at) (length h.0) s)) (first_place key h.2) ≡ Some place
        → (first_place key h.2 ≡ Some place → (place.offset + place.size < 2 ^ 64) × (place.size ≤ max_block_len))
        → (place.offset + place.size < 2 ^ 64) × (place.size ≤ max_block_len)
    by true e rest = fits place (cc)
    by false e rest = rest e

-- the block at the place of a section
pub block_there : (content pre text more : List ℕ) (s : Section) → content ≡ pre ++ (text ++ more) → SectionText s text → length content < 2 ^ 64
    → block_at content (place_of (shown (length pre)) (length text) s) ≡ s.block
block_there content pre text more s whole text_is fits =
    let head : List ℕ = text_is.size ++ text_is.name in
    let parts : text ≡ head ++ s.block = text_is.whole ∙ sym (append_assoc text_is.size text_is.name s.block) in
    let sizes : length text ≡ length head + length s.block = ap length parts ∙ length-append head s.block in
    let all : length content ≡ length pre + (length text + length more) =
    ap length whole ∙ (length-append pre (text ++ more) ∙ ap (λ n. length pre + n) (length-append text more)) in
    let offset : shown (shown (length pre) + length text) - length s.block ≡ length pre + length head = omega arith in
    let front : length (pre ++ head) ≡ length pre + length head = length-append pre head in
    let divided : content ≡ (pre ++ head) ++ (s.block ++ more) =
    whole ∙ (ap (λ (l : List ℕ). pre ++ (l ++ more)) parts ∙ (ap (λ (l : List ℕ). pre ++ l) (append_assoc head s.block more) ∙ sym (append_assoc pre head (s.block ++ more)))) in
    ap₂ (λ (n : ℕ) (l : List ℕ). take (length s.block) (drop n l)) offset divided
    ∙ (ap (take (length s.block)) (drop_at (pre ++ head) (s.block ++ more) (length pre + length head) front)
    ∙ take_at s.block more (length s.block) refl)

-- each place that is found is that of a good block
pub placed_good : (content pre : List ℕ) (sections : List Section) (bytes : List ℕ) (given : List Event) → content ≡ pre ++ bytes → length content < 2 ^ 64
    → ArePlaced (length pre) sections bytes given → All IsSmall sections → All IsNamed sections
    → (key : Key) (place : Place) → first_place key given ≡ Some place → (place.offset + place.size ≤ length content) × IsGood key (block_at content place)
placed_good content pre [] bytes given whole fits h small named key place found =
    let nothing : first_place key given ≡ None = ap (first_place key) h.1 in
    cc (found, nothing)
placed_good content pre (s ∷ sections) bytes given whole fits h small named key place found =
    let again : content ≡ (pre ++ h.0) ++ h.1 = whole ∙ (ap (λ (l : List ℕ). pre ++ l) h.3 ∙ sym (append_assoc pre h.0 h.1)) in
    let at : length (pre ++ h.0) ≡ length pre + length h.0 = length-append pre h.0 in
    by (is_under key s.cid) refl (ap (first_place key) (sym h.5) ∙ found)
    (placed_good content (pre ++ h.0) sections h.1 h.2 again fits (subst (λ (n : ℕ). ArePlaced n sections h.1 h.2) (sym at) h.6) (All-tail IsSmall s sections small) (All-tail IsNamed s sections named) key place)
  where
    divided : content ≡ pre ++ (h.0 ++ h.1)
    divided = whole ∙ ap (λ (l : List ℕ). pre ++ l) h.3

    ends : (p : Place) → p ≡ place_of (shown (length pre)) (length h.0) s → p.offset + p.size ≤ length content
    ends p e =
        let text = h.4 in
        let head : List ℕ = text.size ++ text.name in
        let sizes : length h.0 ≡ length head + length s.block =
        ap length (text.whole ∙ sym (append_assoc text.size text.name s.block)) ∙ length-append head s.block in
        let all : length content ≡ length pre + (length h.0 + length h.1) =
        ap length divided ∙ (length-append pre (h.0 ++ h.1) ∙ ap (λ n. length pre + n) (length-append h.0 h.1)) in
        let offset : p.offset ≡ shown (shown (length pre) + length h.0) - length s.block = ap (λ (q : Place). q.offset) e in
        let size : p.size ≡ length s.block = ap (λ (q : Place). q.size) e in
        omega arith

    good : (p : Place) → p ≡ place_of (shown (length pre)) (length h.0) s → (s.cid.hash ≡ Sha256) × (key ≡ key_of s.cid) → IsGood key (block_at content p)
    good p e has =
        let there : s.block ≡ block_at content p = sym (block_there content pre h.0 h.1 s divided h.4 fits) ∙ ap (block_at content) (sym e) in
        subst (IsGood key) there
        (subst (λ (k : Key). IsGood k s.block) (sym has.1) (named_good s.cid s.block has.0 (All-head IsNamed s sections named) (All-head IsSmall s sections small)))

    by : (b : Bool) → is_under key s.cid ≡ b → cond b (Some (place_of (shown (length pre)) (length h.0) s)) (first_place key h.2) ≡ Some place
        → (first_place key h.2 ≡ Some place → (place.offset + place.size ≤ length content) × IsGood key (block_at content place))
        → (place.offset + place.size ≤ length content) × IsGood key (block_at content place)
    by true test e rest = let same : place ≡ place_of (shown (length pre)) (length h.0) s = cc in (ends place same, good place same (under_is key s.cid test))
    by false test e rest = rest e

-- the blocks at the places are those of the first sections
pub placed_first : (content pre : List ℕ) (sections : List Section) (bytes : List ℕ) (given : List Event) → content ≡ pre ++ bytes → length content < 2 ^ 64
    → ArePlaced (length pre) sections bytes given → All IsSmall sections → All IsNamed sections
    → (key : Key) → option_and_then (λ (p : Place). checked key (block_at content p)) (first_place key given) ≡ first_under key sections
placed_first content pre [] bytes given whole fits h small named key = ap (λ (l : List Event). option_and_then (λ (p : Place). checked key (block_at content p)) (first_place key l)) h.1
placed_first content pre (s ∷ sections) bytes given whole fits h small named key =
    let again : content ≡ (pre ++ h.0) ++ h.1 = whole ∙ (ap (λ (l : List ℕ). pre ++ l) h.3 ∙ sym (append_assoc pre h.0 h.1)) in
    let at : length (pre ++ h.0) ≡ length pre + length h.0 = length-append pre h.0 in
    ap (λ (l : List Event). option_and_then (λ (p : Place). checked key (block_at content p)) (first_place key l)) h.5
    ∙ by (is_under key s.cid) refl
    (placed_first content (pre ++ h.0) sections h.1 h.2 again fits (subst (λ (n : ℕ). ArePlaced n sections h.1 h.2) (sym at) h.6) (All-tail IsSmall s sections small) (All-tail IsNamed s sections named) key)
  where
    block : checked key (block_at content (place_of (shown (length pre)) (length h.0) s)) ≡ checked key s.block
    block = ap (checked key) (block_there content pre h.0 h.1 s (whole ∙ ap (λ (l : List ℕ). pre ++ l) h.3) h.4 fits)

    good : (s.cid.hash ≡ Sha256) × (key ≡ key_of s.cid) → checked key s.block ≡ Some s.block
    good has = good_checked key s.block
        (subst (λ (k : Key). IsGood k s.block) (sym has.1) (named_good s.cid s.block has.0 (All-head IsNamed s sections named) (All-head IsSmall s sections small)))

    by : (b : Bool) → is_under key s.cid ≡ b → option_and_then (λ (p : Place). checked key (block_at content p)) (first_place key h.2) ≡ first_under key sections
        → option_and_then (λ (p : Place). checked key (block_at content p)) (cond b (Some (place_of (shown (length pre)) (length h.0) s)) (first_place key h.2))
        ≡ cond b (Some s.block) (first_under key sections)
    by true test rest = block ∙ good (under_is key s.cid test)
    by false test rest = rest
