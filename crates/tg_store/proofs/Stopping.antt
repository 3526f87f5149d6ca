-- Why a pack is refused while it is read.
use Rattle.std.proofs.Common.{◌≡◌, ◌≢◌, ◌≤◌, ◌<◌, ◌+◌, ℕ, List, [], ◌∷◌, ◌++◌, length, All, refl, ap, sym, subst, ◌∙◌, inl, inr, arith}
use Rattle.std.proofs.lemmas.Grind.{common_steps}
use Rattle.std.proofs.lemmas.List.{append-nil, append_assoc, append_cancel_left, length-append, same_from_push}
use Rattle.std.proofs.lemmas.List.Elements.{All-head, All-tail}
use Rattle.tg_varint.specs.Laws.{SpellingLaws}
use Rattle.tg_varint.specs.Varint.{VarintSpelling}
use Rattle.tg_cid.specs.Cid.{CidParts}
use Rattle.tg_cid.specs.Limits.{max_block_len}
use Rattle.tg_cid.specs.Spelling.{CidBytes}
use Rattle.tg_car.specs.CarText.{HeaderText, SectionText}
use Rattle.tg_car.specs.Faults.{Brings, BreaksSection, HasEndCause, PassesLimit, shown}
use Rattle.tg_car.specs.Fronts.{IsInHeader, IsInSection, IsWithin, Reaches}
use Rattle.tg_car.specs.History.{ArePlaced, GoesOn, IsAmongSections, StopsAt}
use Rattle.tg_car.specs.Laws.{CarLaws}
use Rattle.tg_car.specs.declared.event.Event.{Event}
use Rattle.tg_car.specs.declared.event.Event.TheVariants as events
use Rattle.tg_car.specs.declared.fault.CarFault.{CarFault}
use Rattle.tg_car.specs.declared.fault.CarFault.TheVariants as car_faults
use Rattle.tg_car.specs.declared.section.Section.{Section}
use Rattle.tg_car.specs.LawLemmas.{none_in_header, none_in_section}
use Rattle.tg_bytes.specs.Lists.{longer, All-split_push}
use Rattle.tg_store.specs.Attaching.{AboveLimit, HasPackCause, HasStopCause, HasUnfinishedHeader, IsGoodEvent, IsNamed, IsSmall, IsSound, NoSection, WrongDigest, pack_fault, unfinished_header}
use Rattle.tg_store.specs.Packs.{unfinished_root}
use Rattle.tg_store.proofs.Courses.{compare, left_goes_on, right_goes_on, same, same_header, same_reach}
use Rattle.tg_store.proofs.Events.{placed_named, placed_text}

-- CIDs of which none begins another
abbrev pub CidsOnce : Type 0
CidsOnce = (a b : CidParts) (u v x y : List ℕ) → CidBytes a u → CidBytes b v → u ++ x ≡ v ++ y → (u ≡ v) × (a ≡ b)

-- the header of a pack that isn't finished is that of its root
abbrev pub IsUnfinishedHeader : Type 0
IsUnfinishedHeader = HeaderText (unfinished_root ∷ []) unfinished_header

-- a section that begins with a length and a CID has the block that they declare
module _ (spellings : SpellingLaws) (cids : CidsOnce) where
  pub declared_block : (s : Section) (cid : CidParts) (number : ℕ) (size name text more rest : List ℕ) → VarintSpelling (length name + number) size
      → CidBytes cid name → SectionText s text → text ++ more ≡ (size ++ name) ++ rest → number ≡ length s.block
  declared_block s cid number size name text more rest spelled cid_is t e =
      let left : text ++ more ≡ t.size ++ (t.name ++ (s.block ++ more)) =
      ap (λ (l : List ℕ). l ++ more) t.whole ∙ (append_assoc t.size (t.name ++ s.block) more ∙ ap (λ (l : List ℕ). t.size ++ l) (append_assoc t.name s.block more)) in
      let right : (size ++ name) ++ rest ≡ size ++ (name ++ rest) = append_assoc size name rest in
      let both : t.size ++ (t.name ++ (s.block ++ more)) ≡ size ++ (name ++ rest) = sym left ∙ (e ∙ right) in
      let sizes = spellings.no_front (length t.name + length s.block) (length name + number) t.size size (t.name ++ (s.block ++ more)) (name ++ rest) t.size_is spelled both in
      let behind : t.name ++ (s.block ++ more) ≡ name ++ rest =
      append_cancel_left size (t.name ++ (s.block ++ more)) (name ++ rest) (ap (λ (l : List ℕ). l ++ (t.name ++ (s.block ++ more))) (sym sizes.0) ∙ both) in
      let names = cids s.cid cid t.name name (s.block ++ more) rest t.name_is cid_is behind in
      let long : length t.name ≡ length name = ap length names.0 in
      let sum : length t.name + length s.block ≡ length name + number = sizes.1 in
      omega arith

-- the last of the sections that were given
pub record LastPlaced (at : ℕ) (sections : List Section) (bytes : List ℕ) (front : List Event) (offset size : ℕ) (section : Section) : Type 0 where
  pub before : List Section
  pub done : List ℕ
  pub text : List ℕ
  pub sections_are : sections ≡ before ++ section ∷ []
  pub whole : bytes ≡ done ++ text
  pub text_is : SectionText section text
  pub placed : ArePlaced at before done front
  pub offset_is : offset ≡ shown (at + length done)

module _ (laws : CarLaws) (unfinished : IsUnfinishedHeader) where
  -- another header has other roots
  pub finished_roots : (roots : List (List ℕ)) (header : List ℕ) → HeaderText roots header → header ≢ unfinished_header → roots ≢ unfinished_root ∷ []
  finished_roots roots header text other e =
      other (laws.header_text (unfinished_root ∷ []) header unfinished_header (subst (λ (r : List (List ℕ)). HeaderText r header) e text) unfinished)

  -- what was reached is sound
  among_sound : (bytes : List ℕ) (given : List Event) (rest : List ℕ) → (a : IsAmongSections max_block_len bytes given rest) → All IsGoodEvent given → IsSound a.reaches.roots a.sections
  among_sound bytes given rest a good =
      let all : All IsGoodEvent (events.Header a.reaches.header ∷ a.placed) = subst (All IsGoodEvent) a.given_is good in
      record {
        finished = finished_roots a.reaches.roots a.reaches.header a.reaches.header_is (All-head IsGoodEvent (events.Header a.reaches.header) a.placed all);
        named = placed_named (length a.reaches.header) a.sections a.reaches.done a.placed a.placed_are (All-tail IsGoodEvent (events.Header a.reaches.header) a.placed all);
      }

  sound_same : (roots other : List (List ℕ)) (ss ts : List Section) → roots ≡ other → ss ≡ ts → IsSound other ts → IsSound roots ss
  sound_same roots other ss ts e f sound =
      subst (λ (r : List (List ℕ)). IsSound r ss) (sym e) (subst (IsSound other) (sym f) sound)

  -- bytes that reach a section aren't inside the header
  no_header_there : (bytes : List ℕ) (ss : List Section) (r : List ℕ) → Reaches max_block_len bytes ss r → IsInHeader bytes → ⊥
  no_header_there bytes ss r reached inside = none_in_header laws reached.roots reached.header (reached.done ++ r) bytes reached.header_is (sym reached.whole) inside

  pub sound_at : (bytes : List ℕ) (given : List Event) (ss : List Section) (r : List ℕ) → GoesOn max_block_len bytes given → All IsGoodEvent given
      → (reached : Reaches max_block_len bytes ss r) → IsInSection r → IsSound reached.roots ss
  sound_at bytes given ss r (inl before) good reached inside = absurd (no_header_there bytes ss r reached before.inside)
  sound_at bytes given ss r (inr (rest, a)) good reached inside =
      let one = same_reach laws bytes ss a.sections r rest reached a.reaches inside a.inside in
      sound_same reached.roots a.reaches.roots ss a.sections one.roots_are one.sections_are (among_sound bytes given rest a good)

  -- ---- the section at hand is broken

  pub no_section : (bytes more : List ℕ) (given : List Event) (last at place : ℕ) → GoesOn max_block_len bytes given → All IsGoodEvent given → at ≡ shown place
      → BreaksSection max_block_len (bytes ++ last ∷ []) place → NoSection (bytes ++ last ∷ more) at
  no_section bytes more given last at place goes good e broken =
      let before : broken.before ≡ bytes = (same_from_push broken.before bytes broken.last last (sym broken.whole)).0 in
      record {
        front = bytes ++ last ∷ [];
        more = more;
        whole = sym (append_assoc bytes (last ∷ []) more);
        place = place;
        at_is = e;
        broken = broken;
        sound = sound_at broken.before given broken.sections broken.rest (subst (λ (l : List ℕ). GoesOn max_block_len l given) (sym before) goes) good broken.reaches broken.went_on;
      }

  -- ---- or it passes the limit

  module _ (spellings : SpellingLaws) (cids : CidsOnce) where
    -- sound sections are those before a block above the limit
    limit_sound : (bytes : List ℕ) (given : List Event) (last : ℕ) (rest : List ℕ) → (a : IsAmongSections max_block_len bytes given rest) → All IsGoodEvent given
        → (place : ℕ) → (p : PassesLimit max_block_len (bytes ++ last ∷ []) place) → 0 < length (p.size ++ p.name) → IsSound p.reaches.roots p.sections
    limit_sound bytes given last rest a good place p some =
        let here : bytes ++ last ∷ [] ≡ a.reaches.header ++ (a.reaches.done ++ (rest ++ last ∷ [])) =
        ap (λ (l : List ℕ). l ++ last ∷ []) a.reaches.whole
        ∙ (append_assoc a.reaches.header (a.reaches.done ++ rest) (last ∷ []) ∙ ap (λ (l : List ℕ). a.reaches.header ++ l) (append_assoc a.reaches.done rest (last ∷ []))) in
        let head = same_header laws p.reaches.roots a.reaches.roots p.reaches.header a.reaches.header (p.reaches.done ++ (p.size ++ p.name)) (a.reaches.done ++ (rest ++ last ∷ []))
        p.reaches.header_is a.reaches.header_is (sym p.reaches.whole ∙ here) in
        elim (compare laws IsSmall p.sections a.sections p.reaches.done a.reaches.done (p.size ++ p.name) (rest ++ last ∷ []) p.reaches.sections_are a.reaches.sections_are
        p.reaches.within a.reaches.within head.rests) [
          | same sections rests ↦ sound_same p.reaches.roots a.reaches.roots p.sections a.sections head.roots_are sections (among_sound bytes given rest a good)
          | left_goes_on g ↦
              let number : p.number ≡ length g.section.block =
              declared_block spellings cids g.section p.cid p.number p.size p.name g.text g.more [] p.size_is p.name_is g.text_is (sym g.whole ∙ sym (append-nil (p.size ++ p.name))) in
              let few : length g.section.block ≤ max_block_len = g.holds in
              let above : max_block_len < p.number = p.above in
              absurd (omega arith)
          | right_goes_on g ↦
              let left : length (p.size ++ p.name) ≤ length g.more = g.left in
              let sizes : length rest + 1 ≡ length g.text + length g.more =
              sym (length-append rest (last ∷ [])) ∙ (ap length g.whole ∙ length-append g.text g.more) in
              let l = longer g.text rest g.more (last ∷ []) (sym g.whole) (omega arith) in
              absurd (none_in_section laws g.section g.text l.middle rest g.text_is (sym l.first) a.inside)
        ]

    some_name : (cid : CidParts) (size name : List ℕ) (number : ℕ) → VarintSpelling number size → 0 < length (size ++ name)
    some_name cid size name number v =
        let whole : length size ≡ length v.front + 1 = ap length v.whole ∙ length-append v.front (v.last ∷ []) in
        omega (arith, length-append size name)

    pub above_limit : (bytes more : List ℕ) (given : List Event) (last at place : ℕ) → GoesOn max_block_len bytes given → All IsGoodEvent given → at ≡ shown place
        → PassesLimit max_block_len (bytes ++ last ∷ []) place → AboveLimit (bytes ++ last ∷ more) at
    above_limit bytes more given last at place goes good e p =
        let some : 0 < length (p.size ++ p.name) = some_name p.cid p.size p.name (length p.name + p.number) p.size_is in
        record {
          front = bytes ++ last ∷ [];
          more = more;
          whole = sym (append_assoc bytes (last ∷ []) more);
          place = place;
          at_is = e;
          passes = p;
          sound = sound goes some;
        }
      where
        sound : GoesOn max_block_len bytes given → 0 < length (p.size ++ p.name) → IsSound p.reaches.roots p.sections
        sound (inr (rest, a)) some = limit_sound bytes given last rest a good place p some
        sound (inl before) some =
            let size : 0 < length (p.size ++ p.name) = some in
            let whole : p.reaches.header ++ (p.reaches.done ++ (p.size ++ p.name)) ≡ bytes ++ last ∷ [] = sym p.reaches.whole in
            let sizes : length bytes + 1 ≡ length p.reaches.header + (length p.reaches.done + length (p.size ++ p.name)) =
            sym (length-append bytes (last ∷ [])) ∙ (ap length p.reaches.whole
            ∙ (length-append p.reaches.header (p.reaches.done ++ (p.size ++ p.name)) ∙ ap (λ n. length p.reaches.header + n) (length-append p.reaches.done (p.size ++ p.name)))) in
            let l = longer p.reaches.header bytes (p.reaches.done ++ (p.size ++ p.name)) (last ∷ []) whole (omega arith) in
            absurd (none_in_header laws p.reaches.roots p.reaches.header l.middle bytes p.reaches.header_is (sym l.first) before.inside)

    -- ---- a refusal of the reader

    pub stop_cause : (bytes : List ℕ) (given : List Event) (piece : List ℕ) (fault : CarFault) → StopsAt max_block_len bytes given piece fault → All IsGoodEvent given
        → HasStopCause (bytes ++ piece) (pack_fault fault)
    stop_cause bytes given piece fault stops good =
        let went : List ℕ = bytes ++ stops.front in
        let whole : bytes ++ piece ≡ went ++ stops.last ∷ stops.more =
        ap (λ (l : List ℕ). bytes ++ l) stops.whole ∙ sym (append_assoc bytes stops.front (stops.last ∷ stops.more)) in
        subst (λ (l : List ℕ). HasStopCause l (pack_fault fault)) (sym whole) (by fault stops.brings)
      where
        by : (fault : CarFault) → Brings max_block_len ((bytes ++ stops.front) ++ stops.last ∷ []) fault
            → HasStopCause ((bytes ++ stops.front) ++ stops.last ∷ stops.more) (pack_fault fault)
        by (car_faults.BadHeader at) brings = inl (record {
          front = (bytes ++ stops.front) ++ stops.last ∷ [];
          more = stops.more;
          whole = sym (append_assoc (bytes ++ stops.front) (stops.last ∷ []) stops.more);
          at_is = brings.0;
          broken = brings.1;
        })
        by (car_faults.BadSection at) brings = inr (no_section (bytes ++ stops.front) stops.more given stops.last at brings.0 stops.went_on good brings.1 brings.2)
        by (car_faults.BlockLimit at number) brings = above_limit (bytes ++ stops.front) stops.more given stops.last at brings.1 stops.went_on good brings.2 brings.3
        by (car_faults.Torn at) brings = absurd brings
        by car_faults.OutOfMemory brings = tt

  -- ---- the end

  pub end_cause : (bytes : List ℕ) (given : List Event) (fault : CarFault) → GoesOn max_block_len bytes given → All IsGoodEvent given → HasEndCause max_block_len bytes fault
      → HasPackCause bytes (pack_fault fault)
  end_cause bytes given (car_faults.Torn at) goes good (inl header) = inl header
  end_cause bytes given (car_faults.Torn at) (inl before) good (inr (place, e, ends)) =
      absurd (no_header_there bytes ends.sections ends.rest ends.reaches before.inside)
  end_cause bytes given (car_faults.Torn at) (inr (rest, a)) good (inr (place, e, ends)) =
      let one = same_reach laws bytes ends.sections a.sections ends.rest rest ends.reaches a.reaches ends.inside a.inside in
      inr (record {
        place = place;
        at_is = e;
        ends = ends;
        within = subst (IsWithin max_block_len) (sym one.rests) a.within;
        sound = sound_same ends.reaches.roots a.reaches.roots ends.sections a.sections one.roots_are one.sections_are (among_sound bytes given rest a good);
      })
  end_cause bytes given (car_faults.BadHeader at) goes good h = absurd h
  end_cause bytes given (car_faults.BadSection at) goes good h = absurd h
  end_cause bytes given (car_faults.BlockLimit at number) goes good h = absurd h
  end_cause bytes given car_faults.OutOfMemory goes good h = absurd h

  -- ---- an event that isn't good

  -- no header comes among sections
  no_header_among : (at : ℕ) (sections : List Section) (bytes : List ℕ) (front : List Event) (header : List ℕ) → ArePlaced at sections bytes (front ++ events.Header header ∷ []) → ⊥
  no_header_among at [] bytes [] header h = cc h.1
  no_header_among at [] bytes (x ∷ front) header h = cc h.1
  no_header_among at (s ∷ sections) bytes [] header h = cc h.5
  no_header_among at (s ∷ sections) bytes (x ∷ front) header h =
      let rest : h.2 ≡ front ++ events.Header header ∷ [] = cc (h.5) in
      no_header_among (at + length h.0) sections h.1 front header (subst (ArePlaced (at + length h.0) sections h.1) rest h.6)

  -- a header that is given is the one that stands at the front
  pub header_given : (front : List Event) (header other : List ℕ) (at : ℕ) (sections : List Section) (bytes : List ℕ) (placed : List Event)
      → front ++ events.Header header ∷ [] ≡ events.Header other ∷ placed → ArePlaced at sections bytes placed → header ≡ other
  header_given [] header other at sections bytes placed e h = cc e
  header_given (x ∷ front) header other at sections bytes placed e h =
      let rest : placed ≡ front ++ events.Header header ∷ [] = cc e in
      absurd (no_header_among at sections bytes front header (subst (ArePlaced at sections bytes) rest h))

  nothing_given : (front : List Event) (x : Event) → front ++ x ∷ [] ≡ [] → ⊥
  nothing_given [] x e = cc e
  nothing_given (y ∷ front) x e = cc e

  pub unfinished_cause : (bytes more : List ℕ) (front : List Event) (header : List ℕ) → GoesOn max_block_len bytes (front ++ events.Header header ∷ []) → header ≡ unfinished_header
      → HasUnfinishedHeader (bytes ++ more)
  unfinished_cause bytes more front header (inl before) e = absurd (nothing_given front (events.Header header) before.nothing_given)
  unfinished_cause bytes more front header (inr (rest, a)) e =
      let same : header ≡ a.reaches.header = header_given front header a.reaches.header (length a.reaches.header) a.sections a.reaches.done a.placed a.given_is a.placed_are in
      record {
        header = unfinished_header;
        rest = (a.reaches.done ++ rest) ++ more;
        whole = ap (λ (l : List ℕ). l ++ more) (a.reaches.whole ∙ ap (λ (l : List ℕ). l ++ (a.reaches.done ++ rest)) (sym same ∙ e))
            ∙ append_assoc unfinished_header (a.reaches.done ++ rest) more;
        text = unfinished;
      }

  last_placed : (at : ℕ) (sections : List Section) (bytes : List ℕ) (front : List Event) (offset size : ℕ) (section : Section)
      → ArePlaced at sections bytes (front ++ events.Section offset size section ∷ []) → LastPlaced at sections bytes front offset size section
  last_placed at [] bytes [] offset size section h = cc h.1
  last_placed at [] bytes (x ∷ front) offset size section h = cc h.1
  last_placed at (s ∷ []) bytes [] offset size section h =
      let same : section ≡ s = cc h.5 in
      let offsets : offset ≡ shown at = cc h.5 in
      let none : h.1 ≡ [] = h.6.0 in
      record {
        before = [];
        done = [];
        text = h.0;
        sections_are = ap (λ (x : Section). x ∷ []) (sym same);
        whole = h.3 ∙ (ap (λ (l : List ℕ). h.0 ++ l) none ∙ append-nil h.0);
        text_is = subst (λ (x : Section). SectionText x h.0) (sym same) h.4;
        placed = (refl, refl);
        offset_is = offsets ∙ ap shown (omega arith);
      }
  last_placed at (s ∷ t ∷ sections) bytes [] offset size section h =
      let rest : h.2 ≡ [] = cc h.5 in
      cc (rest, h.6.5)
  last_placed at (s ∷ sections) bytes (x ∷ front) offset size section h =
      let rest : h.2 ≡ front ++ events.Section offset size section ∷ [] = cc h.5 in
      let first : x ≡ events.Section (shown at) (length h.0) s = cc h.5 in
      let behind = last_placed (at + length h.0) sections h.1 front offset size section (subst (ArePlaced (at + length h.0) sections h.1) rest h.6) in
      record {
        before = s ∷ behind.before;
        done = h.0 ++ behind.done;
        text = behind.text;
        sections_are = ap (λ (l : List Section). s ∷ l) behind.sections_are;
        whole = h.3 ∙ (ap (λ (l : List ℕ). h.0 ++ l) behind.whole ∙ sym (append_assoc h.0 behind.done behind.text));
        text_is = behind.text_is;
        placed = (h.0, behind.done, front, refl, h.4, ap (λ (e : Event). e ∷ front) first, behind.placed);
        offset_is = behind.offset_is ∙ ap shown (omega (arith, length-append h.0 behind.done));
      }

  -- and why it isn't good
  pub wrong_cause : (bytes more : List ℕ) (front : List Event) (at size : ℕ) (section : Section) → GoesOn max_block_len bytes (front ++ events.Section at size section ∷ [])
      → All IsGoodEvent front → (IsNamed section → ⊥) → WrongDigest (bytes ++ more) at
  wrong_cause bytes more front at size section (inl before) good wrong = absurd (nothing_given front (events.Section at size section) before.nothing_given)
  wrong_cause bytes more [] at size section (inr (rest, a)) good wrong = cc a.given_is
  wrong_cause bytes more (x ∷ front) at size section (inr (rest, a)) good wrong =
      let header : List ℕ = a.reaches.header in
      let first : x ≡ events.Header header = cc a.given_is in
      let behind : a.placed ≡ front ++ events.Section at size section ∷ [] = cc a.given_is in
      let last = last_placed (length header) a.sections a.reaches.done front at size section (subst (ArePlaced (length header) a.sections a.reaches.done) behind a.placed_are) in
      let headed : IsGoodEvent (events.Header header) = subst IsGoodEvent first (All-head IsGoodEvent x front good) in
      let small : All IsSmall (last.before ++ section ∷ []) = subst (All IsSmall) last.sections_are a.reaches.within in
      let reached : Reaches max_block_len (header ++ last.done) last.before [] = record {
        roots = a.reaches.roots;
        header = header;
        done = last.done;
        whole = ap (λ (l : List ℕ). header ++ l) (sym (append-nil last.done));
        header_is = a.reaches.header_is;
        sections_are = placed_text (length header) last.before last.done front last.placed;
        within = (All-split_push IsSmall last.before section small).0;
      } in
      record {
        front = header ++ last.done;
        text = last.text;
        more = rest ++ more;
        sections = last.before;
        section = section;
        whole = ap (λ (l : List ℕ). l ++ more) (a.reaches.whole ∙ ap (λ (l : List ℕ). header ++ (l ++ rest)) last.whole) ∙ grind (arith, common_steps);
        at_is = last.offset_is ∙ ap shown (sym (length-append header last.done));
        reaches = reached;
        sound = record {
          finished = finished_roots a.reaches.roots header a.reaches.header_is headed;
          named = placed_named (length header) last.before last.done front last.placed (All-tail IsGoodEvent x front good);
        };
        text_is = last.text_is;
        small = (All-split_push IsSmall last.before section small).1;
        wrong = wrong;
      }
