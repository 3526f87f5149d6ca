-- How many blocks a pack holds in which the sections of a reply were kept, and how many bytes.
use Rattle.std.proofs.Common.{arith, ap, cond, length, length-append, map, subst, sym, true, false, Bool, List, None, Option, Some, [], ℕ, ◌++◌, ◌+◌, ◌-◌, ◌≤◌, ◌∙◌, ◌∷◌, ◌≡◌}
use Rattle.std.specs.List.{sum_by}
use Rattle.std.specs.Map.{keys_of}
use Rattle.std.proofs.lemmas.List.Sums.{sum_by-cons}
use Rattle.tg_car.specs.CarText.{SectionsText}
use Rattle.tg_fetch.specs.Replies.{IsAnswered}
use Rattle.tg_heard.specs.FrontLaws.{BodyPieceLaws, HeadLaws}
use Rattle.tg_model.specs.Dag.{Section}
use Rattle.tg_model.specs.LimitNumbers.{LimitNumbers}
use Rattle.tg_model.specs.Queries.{QueryParts}
use Rattle.tg_model.specs.declared.queries.Form.TheVariants as forms
use Rattle.tg_model.specs.declared.queries.Form.{Form}
use Rattle.tg_heard.specs.Carried.{BodyCarries}
use Rattle.tg_store.specs.Entries.{first_of_each, is_held, new_beside}
use Rattle.tg_store.specs.Keys.{key_of}
use Rattle.tg_store.specs.Packs.{ArePlacedAt, GrewBy, bytes_at, in_car}
use Rattle.tg_store.specs.declared.key.Key.{Key}
use Rattle.tg_store.specs.declared.place.Place.{Place}

-- the bytes of the blocks
abbrev pub block_bytes : List Section → ℕ
block_bytes sections = sum_by (λ (section : Section). length section.block) sections

bytes_cons : (section : Section) (sections : List Section) → block_bytes (section ∷ sections) ≡ length section.block + block_bytes sections
bytes_cons section sections = sum_by-cons (λ (s : Section). length s.block) section sections

-- ---- what lies at the places

placed_count : (at : ℕ) (sections : List Section) (bytes : List ℕ) (places : List (Key × Place)) → ArePlacedAt at sections bytes places → length places ≡ length sections
placed_count at [] bytes places h = ap length h.1
placed_count at (section ∷ sections) bytes places h =
    let rest : length h.2 ≡ length sections = placed_count (at + length h.0) sections h.1 h.2 h.6 in
    ap length h.5 ∙ omega arith

placed_bytes : (at : ℕ) (sections : List Section) (bytes : List ℕ) (places : List (Key × Place)) → ArePlacedAt at sections bytes places → bytes_at places ≡ block_bytes sections
placed_bytes at [] bytes places h = ap bytes_at h.1
placed_bytes at (section ∷ sections) bytes places h =
    let rest : bytes_at h.2 ≡ block_bytes sections = placed_bytes (at + length h.0) sections h.1 h.2 h.6 in
    ap bytes_at h.5 ∙ sum_by-cons (λ (entry : Key × Place). entry.1.size) (key_of section.cid, record { offset = (at + length h.0) - length section.block; size = length section.block }) h.2
    ∙ ap (λ (n : ℕ). length section.block + n) rest ∙ sym (bytes_cons section sections)

-- where none lay before, the places are those of the first sections under each CID
pub grew_counts : (old : Option (List ℕ)) (new : List ℕ) (before after : List (Key × Place)) (sections : List Section) → before ≡ [] → GrewBy old (Some new) before after sections
    → (length after ≡ length (first_of_each sections)) × (bytes_at after ≡ block_bytes (first_of_each sections))
grew_counts None new before after sections none grew = absurd grew
grew_counts (Some old) new before after sections none grew =
    let firsts : new_beside (keys_of before) sections ≡ first_of_each sections = ap (λ (l : List (Key × Place)). new_beside (keys_of l) sections) none in
    let places : after ≡ grew.places = grew.entries ∙ ap (λ (l : List (Key × Place)). l ++ grew.places) none in
    let placed : ArePlacedAt (length old) (first_of_each sections) grew.texts grew.places =
    subst (λ (s : List Section). ArePlacedAt (length old) s grew.texts grew.places) firsts grew.placed in (
      ap length places ∙ placed_count (length old) (first_of_each sections) grew.texts grew.places placed,
      ap bytes_at places ∙ placed_bytes (length old) (first_of_each sections) grew.texts grew.places placed,
    )

-- ---- the blocks of a reply are no more bytes than the reply

first_fewer : (keys : List Key) (sections : List Section) → block_bytes (new_beside keys sections) ≤ block_bytes sections
first_fewer keys [] = omega arith
first_fewer keys (section ∷ sections) = by (is_held keys section.cid) (first_fewer keys sections) (first_fewer (keys ++ key_of section.cid ∷ []) sections)
  where
    all : block_bytes (section ∷ sections) ≡ length section.block + block_bytes sections
    all = bytes_cons section sections

    more : List Section
    more = new_beside (keys ++ key_of section.cid ∷ []) sections

    by : (b : Bool) → block_bytes (new_beside keys sections) ≤ block_bytes sections → block_bytes more ≤ block_bytes sections
        → block_bytes (cond b (new_beside keys sections) (section ∷ more)) ≤ block_bytes (section ∷ sections)
    by true known new = omega (arith, all, known)
    by false known new = omega (arith, all, bytes_cons section more, new)

text_bytes : (sections : List Section) (bytes : List ℕ) → SectionsText (map in_car sections) bytes → block_bytes sections ≤ length bytes
text_bytes [] bytes h = omega arith
text_bytes (section ∷ sections) bytes h =
    omega (
      arith,
      bytes_cons section sections,
      text_bytes sections h.1 h.4,
      ap length h.2,
      length-append h.0 h.1,
      ap length h.3.whole,
      length-append h.3.size (h.3.name ++ section.block),
      length-append h.3.name section.block,
    )

carried_bytes : (form : Form) (q : QueryParts) (body : List ℕ) (sections : List Section) → form ≡ forms.Car → BodyCarries form q body sections → block_bytes sections ≤ length body
carried_bytes forms.Raw q body sections e h = absurd (cc e)
carried_bytes forms.Car q body sections e h =
    omega (arith, text_bytes sections h.1.rest h.1.sections_are, ap length h.1.whole, length-append h.1.header h.1.rest)

pub answered_bytes : HeadLaws → BodyPieceLaws → (q : QueryParts) (limits : LimitNumbers) (heard : List ℕ) (ended : Bool) (sections : List Section) (text : List ℕ) → q.form ≡ forms.Car
    → IsAnswered q limits heard ended sections text → block_bytes (first_of_each sections) ≤ limits.received
answered_bytes heads bodies q limits heard ended sections text car answered =
    let c = answered.carries in
    omega (
      arith,
      first_fewer [] sections,
      carried_bytes q.form q c.body sections car c.carries,
      bodies.body_fits c.head.framing c.body c.rest c.body_is,
      heads.rest_fits c.front c.rest c.head c.final,
      ap length c.heard_is,
      length-append c.front c.more,
      answered.within,
    )
