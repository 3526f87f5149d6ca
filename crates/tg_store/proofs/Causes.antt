-- No two causes of a refusal hold of one content, and none of a pack that is attached.
use Rattle.std.proofs.Common.{◌≡◌, ◌≤◌, ◌<◌, ◌+◌, ◌-◌, ℕ, List, [], ◌∷◌, ◌++◌, length, replicate, All, Option, Some, None, refl, ap, ap₂, sym, subst, ◌∙◌, inl, inr, arith}
use Rattle.std.proofs.lemmas.Bool.{cases_lt}
use Rattle.std.proofs.lemmas.List.{append-nil, append_assoc, length-append, length-replicate}
use Rattle.std.proofs.lemmas.List.Elements.{All-head, All-tail, All-nil, All-cons, All-replicate}
use Rattle.tg_varint.specs.Laws.{SpellingLaws}
use Rattle.tg_varint.specs.Varint.{VarintSpelling}
use Rattle.tg_cid.specs.Cid.{CidParts}
use Rattle.tg_cid.specs.Limits.{max_block_len}
use Rattle.tg_cid.specs.Spelling.{CidBytes}
use Rattle.tg_car.specs.CarText.{HeaderText, SectionText, SectionsText}
use Rattle.tg_car.specs.Faults.{BreaksHeader, shown}
use Rattle.tg_car.specs.Fronts.{IsInHeader, IsInSection, IsWithin, Reaches}
use Rattle.tg_car.specs.Laws.{CarLaws}
use Rattle.tg_car.specs.declared.section.Section.{Section}
use Rattle.tg_model.specs.Stores.{Store}
use Rattle.tg_car.specs.LawLemmas.{none_in_header, none_in_section}
use Rattle.tg_bytes.specs.Lists.{longer}
use Rattle.tg_varint.specs.GroupLaws.{not_empty}
use Rattle.tg_store.specs.declared.fault.PackFault.{PackFault}
use Rattle.tg_store.specs.declared.fault.PackFault.TheVariants as faults
use Rattle.tg_store.specs.Attaching.{AboveLimit, EndsInside, HasPackCause, HasUnfinishedHeader, IsAttached, IsNamed, IsSmall, IsSound, NoSection, WrongDigest}
use Rattle.tg_store.specs.Packs.{unfinished_root}
use Rattle.tg_store.proofs.Courses.{Begins, compare, left_goes_on, one_text, right_goes_on, same, same_header, sections_join}
use Rattle.tg_store.proofs.Stopping.{CidsOnce, declared_block}

-- ---- how a content ends behind sections that are good

-- what stands behind the good sections: nothing, a section with another digest, no section, one above the limit, or a part of one
pub data Kind : Type 0 where
  whole : Kind
  wrong : Kind
  broken : Kind
  above : Kind
  inside : Kind

-- a section's CID names its block, which is no larger than a block may be
abbrev pub IsFine : Section → Type 0
IsFine section = IsSmall section × IsNamed section

abbrev pub IsWrong : Section → Type 0
IsWrong section = IsSmall section × (IsNamed section → ⊥)

-- no section begins so
pub record IsBroken (bytes : List ℕ) : Type 0 where
  pub before : List ℕ
  pub last : ℕ
  pub more : List ℕ
  pub whole_is : bytes ≡ before ++ last ∷ more
  pub went_on : IsInSection before
  pub within : IsWithin max_block_len before
  pub none : (section : Section) (behind : List ℕ) → SectionText section ((before ++ last ∷ []) ++ behind) → ⊥

-- a section begins so whose block is above the limit
pub record IsAbove (bytes : List ℕ) : Type 0 where
  pub cid : CidParts
  pub size : List ℕ
  pub name : List ℕ
  pub number : ℕ
  pub more : List ℕ
  pub whole_is : bytes ≡ (size ++ name) ++ more
  pub size_is : VarintSpelling (length name + number) size
  pub name_is : CidBytes cid name
  pub high : max_block_len < number

abbrev pub Ends : List ℕ → Kind → Type 0
Ends bytes whole = bytes ≡ []
Ends bytes wrong = Begins IsWrong bytes 0
Ends bytes broken = IsBroken bytes
Ends bytes above = IsAbove bytes
Ends bytes inside = IsInSection bytes × (0 < length bytes) × IsWithin max_block_len bytes

module _ (laws : CarLaws) (spellings : SpellingLaws) (cids : CidsOnce) where
  pub some_section : (section : Section) (text : List ℕ) → SectionText section text → 0 < length text
  some_section section text t =
      let some : 0 < length t.size = not_empty (length t.name + length section.block) t.size t.size_is in
      let parts : length text ≡ length t.size + length (t.name ++ section.block) = ap length t.whole ∙ length-append t.size (t.name ++ section.block) in
      omega arith

  -- a small section that begins the bytes
  module _ (bytes : List ℕ) (section : Section) (text more : List ℕ) (text_is : SectionText section text) (e : bytes ≡ text ++ more) where
    not_whole : bytes ≡ [] → ⊥
    not_whole none =
        let some : 0 < length text = some_section section text text_is in
        let size : length bytes ≡ length text + length more = ap length e ∙ length-append text more in
        let nothing : length bytes ≡ 0 = ap length none in
        omega arith

    not_broken : IsBroken bytes → ⊥
    not_broken b =
        let front : List ℕ = b.before ++ b.last ∷ [] in
        let divided : front ++ b.more ≡ text ++ more = append_assoc b.before (b.last ∷ []) b.more ∙ (sym b.whole_is ∙ e) in
        elim (cases_lt (length text) (length front)) [
          | inl less ↦
              let sizes : length front ≡ length b.before + 1 = length-append b.before (b.last ∷ []) in
              let again : text ++ more ≡ b.before ++ (b.last ∷ b.more) = sym e ∙ b.whole_is in
              let l = longer text b.before more (b.last ∷ b.more) again (omega arith) in
              none_in_section laws section text l.middle b.before text_is (sym l.first) b.went_on
          | inr most ↦
              let l = longer front text b.more more divided most in
              b.none section l.middle (subst (SectionText section) l.first text_is)
        ]

    not_above : IsSmall section → IsAbove bytes → ⊥
    not_above small a =
        let few : length section.block ≤ max_block_len = small in
        let number : a.number ≡ length section.block =
        declared_block spellings cids section a.cid a.number a.size a.name text more a.more a.size_is a.name_is text_is (sym e ∙ a.whole_is) in
        let high : max_block_len < a.number = a.high in
        omega arith

    not_inside : IsInSection bytes → ⊥
    not_inside within = none_in_section laws section text more bytes text_is (sym e) within

  -- ---- no two ends

  broken_above : (bytes : List ℕ) → IsBroken bytes → IsAbove bytes → ⊥
  broken_above bytes b a =
      let front : List ℕ = b.before ++ b.last ∷ [] in
      let head : List ℕ = a.size ++ a.name in
      let divided : front ++ b.more ≡ head ++ a.more = append_assoc b.before (b.last ∷ []) b.more ∙ (sym b.whole_is ∙ a.whole_is) in
      elim (cases_lt (length head) (length front)) [
        | inl less ↦
            let sizes : length front ≡ length b.before + 1 = length-append b.before (b.last ∷ []) in
            let again : head ++ a.more ≡ b.before ++ (b.last ∷ b.more) = sym a.whole_is ∙ b.whole_is in
            let l = longer head b.before a.more (b.last ∷ b.more) again (omega arith) in
            let most : a.number ≤ max_block_len =
            b.within a.number (record { cid = a.cid; size = a.size; name = a.name; begun = l.middle; whole = l.first ∙ append_assoc a.size a.name l.middle; size_is = a.size_is; name_is = a.name_is }) in
            let high : max_block_len < a.number = a.high in
            omega arith
        | inr most ↦
            let l = longer front head b.more a.more divided most in
            let block : List ℕ = replicate a.number 0 in
            let count : length block ≡ a.number = length-replicate a.number 0 in
            let section : Section = record { cid = a.cid; block = block } in
            let text : SectionText section (head ++ block) = record {
              size = a.size;
              name = a.name;
              size_is = subst (λ (n : ℕ). VarintSpelling (length a.name + n) a.size) (sym count) a.size_is;
              name_is = a.name_is;
              are_bytes = All-replicate (λ (b : ℕ). b < 256) a.number 0 (omega arith);
              whole = append_assoc a.size a.name block;
            } in
            b.none section (l.middle ++ block) (subst (SectionText section) (ap (λ (l : List ℕ). l ++ block) l.first ∙ append_assoc front l.middle block) text)
      ]

  broken_inside : (bytes : List ℕ) → IsBroken bytes → IsInSection bytes → ⊥
  broken_inside bytes b within =
      let front : List ℕ = b.before ++ b.last ∷ [] in
      let whole_is : bytes ++ within.more ≡ front ++ (b.more ++ within.more) =
      ap (λ (l : List ℕ). l ++ within.more) (b.whole_is ∙ sym (append_assoc b.before (b.last ∷ []) b.more)) ∙ append_assoc front b.more within.more in
      b.none within.section (b.more ++ within.more) (subst (SectionText within.section) whole_is within.text)

  above_inside : (bytes : List ℕ) → IsAbove bytes → IsWithin max_block_len bytes → ⊥
  above_inside bytes a within =
      let most : a.number ≤ max_block_len =
      within a.number (record { cid = a.cid; size = a.size; name = a.name; begun = a.more; whole = a.whole_is ∙ append_assoc a.size a.name a.more; size_is = a.size_is; name_is = a.name_is }) in
      let high : max_block_len < a.number = a.high in
      omega arith

  whole_broken : (bytes : List ℕ) → bytes ≡ [] → IsBroken bytes → ⊥
  whole_broken bytes none b =
      let nothing : length bytes ≡ 0 = ap length none in
      let some : length bytes ≡ length b.before + length (b.last ∷ b.more) = ap length b.whole_is ∙ length-append b.before (b.last ∷ b.more) in
      omega arith

  whole_above : (bytes : List ℕ) → bytes ≡ [] → IsAbove bytes → ⊥
  whole_above bytes none a =
      let nothing : length bytes ≡ 0 = ap length none in
      let some : 0 < length a.size = not_empty (length a.name + a.number) a.size a.size_is in
      let parts : length bytes ≡ length (a.size ++ a.name) + length a.more = ap length a.whole_is ∙ length-append (a.size ++ a.name) a.more in
      omega (arith, length-append a.size a.name)

  one_end : (bytes : List ℕ) (k l : Kind) → Ends bytes k → Ends bytes l → k ≡ l
  one_end bytes whole whole h g = refl
  one_end bytes whole wrong h g = absurd (not_whole bytes g.section g.text g.more g.text_is g.whole h)
  one_end bytes whole broken h g = absurd (whole_broken bytes h g)
  one_end bytes whole above h g = absurd (whole_above bytes h g)
  one_end bytes whole inside h g = let nothing : length bytes ≡ 0 = ap length h in absurd (omega (arith, g.1))
  one_end bytes wrong whole h g = absurd (not_whole bytes h.section h.text h.more h.text_is h.whole g)
  one_end bytes wrong wrong h g = refl
  one_end bytes wrong broken h g = absurd (not_broken bytes h.section h.text h.more h.text_is h.whole g)
  one_end bytes wrong above h g = absurd (not_above bytes h.section h.text h.more h.text_is h.whole h.holds.0 g)
  one_end bytes wrong inside h g = absurd (not_inside bytes h.section h.text h.more h.text_is h.whole g.0)
  one_end bytes broken whole h g = absurd (whole_broken bytes g h)
  one_end bytes broken wrong h g = absurd (not_broken bytes g.section g.text g.more g.text_is g.whole h)
  one_end bytes broken broken h g = refl
  one_end bytes broken above h g = absurd (broken_above bytes h g)
  one_end bytes broken inside h g = absurd (broken_inside bytes h g.0)
  one_end bytes above whole h g = absurd (whole_above bytes g h)
  one_end bytes above wrong h g = absurd (not_above bytes g.section g.text g.more g.text_is g.whole g.holds.0 h)
  one_end bytes above broken h g = absurd (broken_above bytes g h)
  one_end bytes above above h g = refl
  one_end bytes above inside h g = absurd (above_inside bytes h g.2)
  one_end bytes inside whole h g = let nothing : length bytes ≡ 0 = ap length g in absurd (omega (arith, h.1))
  one_end bytes inside wrong h g = absurd (not_inside bytes g.section g.text g.more g.text_is g.whole h.0)
  one_end bytes inside broken h g = absurd (broken_inside bytes g h.0)
  one_end bytes inside above h g = absurd (above_inside bytes g h.2)
  one_end bytes inside inside h g = refl

  -- a good section that begins the bytes ends nothing
  no_end : (bytes : List ℕ) (k : Kind) (least : ℕ) → Ends bytes k → Begins IsFine bytes least → ⊥
  no_end bytes whole least h g = not_whole bytes g.section g.text g.more g.text_is g.whole h
  no_end bytes wrong least h g =
      let one = laws.one_section g.section h.section g.text h.text g.more h.more g.text_is h.text_is (sym g.whole ∙ h.whole) in
      h.holds.1 (subst IsNamed one.1 g.holds.1)
  no_end bytes broken least h g = not_broken bytes g.section g.text g.more g.text_is g.whole h
  no_end bytes above least h g = not_above bytes g.section g.text g.more g.text_is g.whole g.holds.0 h
  no_end bytes inside least h g = not_inside bytes g.section g.text g.more g.text_is g.whole h.0

-- ---- contents

-- a header and sections that are good, and what is behind them
pub record Course (content : List ℕ) : Type 0 where
  pub roots : List (List ℕ)
  pub header : List ℕ
  pub sections : List Section
  pub done : List ℕ
  pub rest : List ℕ
  pub whole_is : content ≡ header ++ (done ++ rest)
  pub header_is : HeaderText roots header
  pub sections_are : SectionsText sections done
  pub small : All IsSmall sections
  pub sound : IsSound roots sections

-- a content of which a front reaches these sections, with what is behind them
abbrev course_of : (content : List ℕ) {front : List ℕ} {sections : List Section} {left : List ℕ} (rest : List ℕ) → (r : Reaches max_block_len front sections left)
    → IsSound r.roots sections → content ≡ r.header ++ (r.done ++ rest) → Course content
course_of content {sections = sections} rest r sound parts = record {
  roots = r.roots;
  header = r.header;
  sections = sections;
  done = r.done;
  rest = rest;
  whole_is = parts;
  header_is = r.header_is;
  sections_are = r.sections_are;
  small = r.within;
  sound = sound;
}

-- how a content ends: in the header, or with so many bytes behind good sections
pub data Outcome : Type 0 where
  bad_header : Outcome
  in_header : Outcome
  unfinished : Outcome
  ends : ℕ → Kind → Outcome

-- the header breaks in a front of the content
pub record HeaderBreaks (content : List ℕ) : Type 0 where
  pub front : List ℕ
  pub more : List ℕ
  pub whole_is : content ≡ front ++ more
  pub breaks : BreaksHeader front

abbrev pub HasOutcome : List ℕ → Outcome → Type 0
HasOutcome content bad_header = HeaderBreaks content
HasOutcome content in_header = IsInHeader content
HasOutcome content unfinished = HasUnfinishedHeader content
HasOutcome content (ends left kind) = (course : Course content) × (length course.rest ≡ left) × Ends course.rest kind

abbrev pub fault_at : ℕ → Kind → Option PackFault
fault_at place whole = None
fault_at place wrong = Some (faults.BadDigest (shown place))
fault_at place broken = Some (faults.NotCar (shown place))
fault_at place above = Some (faults.BlockLimit (shown place))
fault_at place inside = Some (faults.Truncated (shown place))

abbrev pub fault_of : ℕ → Outcome → Option PackFault
fault_of size bad_header = Some (faults.NotCar 0)
fault_of size in_header = Some (faults.Truncated 0)
fault_of size unfinished = Some faults.Unfinished
fault_of size (ends left kind) = fault_at (size - left) kind

fine : (sections : List Section) → All IsSmall sections → All IsNamed sections → All IsFine sections
fine [] small named = All-nil IsFine
fine (s ∷ sections) small named =
    All-cons IsFine s sections (All-head IsSmall s sections small, All-head IsNamed s sections named) (fine sections (All-tail IsSmall s sections small) (All-tail IsNamed s sections named))

module _ (laws : CarLaws) (spellings : SpellingLaws) (cids : CidsOnce) where
  -- a whole header doesn't break
  no_break : (content : List ℕ) (roots : List (List ℕ)) (header rest : List ℕ) → HeaderText roots header → content ≡ header ++ rest → HeaderBreaks content → ⊥
  no_break content roots header rest text e b =
      let before : List ℕ = b.breaks.before in
      let last : ℕ = b.breaks.last in
      let divided : header ++ rest ≡ b.front ++ b.more = sym e ∙ b.whole_is in
      let sizes : length b.front ≡ length before + 1 = ap length b.breaks.whole ∙ length-append before (last ∷ []) in
      elim (cases_lt (length header) (length b.front)) [
        | inl less ↦
            let again : header ++ rest ≡ before ++ (last ∷ b.more) =
            divided ∙ (ap (λ (l : List ℕ). l ++ b.more) b.breaks.whole ∙ append_assoc before (last ∷ []) b.more) in
            let l = longer header before rest (last ∷ b.more) again (omega arith) in
            none_in_header laws roots header l.middle before text (sym l.first) b.breaks.went_on
        | inr most ↦
            let l = longer b.front header b.more rest (sym divided) most in
            b.breaks.hopeless (roots, [], l.middle, record { header = header; rest = []; whole = sym l.first ∙ sym (append-nil header); header_is = text; sections_are = refl })
      ]

  inside_breaks : (content : List ℕ) → IsInHeader content → HeaderBreaks content → ⊥
  inside_breaks content within b =
      let whole_is : b.front ++ (b.more ++ within.more) ≡ content ++ within.more =
      sym (ap (λ (l : List ℕ). l ++ within.more) b.whole_is ∙ append_assoc b.front b.more within.more) in
      b.breaks.hopeless (
        within.roots,
        [],
        b.more ++ within.more,
        record {
          header = content ++ within.more;
          rest = [];
          whole = whole_is ∙ sym (append-nil (content ++ within.more));
          header_is = within.text;
          sections_are = refl;
        },
      )

  not_in_header : (content : List ℕ) (roots : List (List ℕ)) (header rest : List ℕ) → HeaderText roots header → content ≡ header ++ rest → IsInHeader content → ⊥
  not_in_header content roots header rest text e within = none_in_header laws roots header rest content text (sym e) within

  finished_course : (content : List ℕ) → HasUnfinishedHeader content → Course content → ⊥
  finished_course content u c =
      let head = same_header laws c.roots (unfinished_root ∷ []) c.header u.header (c.done ++ c.rest) u.rest c.header_is u.text (sym c.whole_is ∙ u.whole) in
      c.sound.finished head.roots_are

  one_course : (content : List ℕ) (left right : ℕ) (k l : Kind) → (a b : Course content) → length a.rest ≡ left → length b.rest ≡ right → Ends a.rest k → Ends b.rest l → ends left k ≡ ends right l
  one_course content left right k l a b m n h g =
      let head = same_header laws a.roots b.roots a.header b.header (a.done ++ a.rest) (b.done ++ b.rest) a.header_is b.header_is (sym a.whole_is ∙ b.whole_is) in
      elim (compare laws IsFine a.sections b.sections a.done b.done a.rest b.rest a.sections_are b.sections_are (fine a.sections a.small a.sound.named) (fine b.sections b.small b.sound.named) head.rests) [
        | same sections rests ↦
            let kinds : k ≡ l = one_end laws spellings cids b.rest k l (subst (λ (r : List ℕ). Ends r k) rests h) g in
            ap₂ ends (sym m ∙ (ap length rests ∙ n)) kinds
        | left_goes_on more ↦ absurd (no_end laws spellings cids a.rest k (length b.rest) h more)
        | right_goes_on more ↦ absurd (no_end laws spellings cids b.rest l (length a.rest) g more)
      ]

  pub one_outcome : (content : List ℕ) (o p : Outcome) → HasOutcome content o → HasOutcome content p → o ≡ p
  one_outcome content bad_header bad_header h g = refl
  one_outcome content bad_header in_header h g = absurd (inside_breaks content g h)
  one_outcome content bad_header unfinished h g = absurd (no_break content (unfinished_root ∷ []) g.header g.rest g.text g.whole h)
  one_outcome content bad_header (ends left kind) h g = absurd (no_break content g.0.roots g.0.header (g.0.done ++ g.0.rest) g.0.header_is g.0.whole_is h)
  one_outcome content in_header bad_header h g = absurd (inside_breaks content h g)
  one_outcome content in_header in_header h g = refl
  one_outcome content in_header unfinished h g = absurd (not_in_header content (unfinished_root ∷ []) g.header g.rest g.text g.whole h)
  one_outcome content in_header (ends left kind) h g = absurd (not_in_header content g.0.roots g.0.header (g.0.done ++ g.0.rest) g.0.header_is g.0.whole_is h)
  one_outcome content unfinished bad_header h g = absurd (no_break content (unfinished_root ∷ []) h.header h.rest h.text h.whole g)
  one_outcome content unfinished in_header h g = absurd (not_in_header content (unfinished_root ∷ []) h.header h.rest h.text h.whole g)
  one_outcome content unfinished unfinished h g = refl
  one_outcome content unfinished (ends left kind) h g = absurd (finished_course content h g.0)
  one_outcome content (ends left kind) bad_header h g = absurd (no_break content h.0.roots h.0.header (h.0.done ++ h.0.rest) h.0.header_is h.0.whole_is g)
  one_outcome content (ends left kind) in_header h g = absurd (not_in_header content h.0.roots h.0.header (h.0.done ++ h.0.rest) h.0.header_is h.0.whole_is g)
  one_outcome content (ends left kind) unfinished h g = absurd (finished_course content g h.0)
  one_outcome content (ends left kind) (ends right other) h g = one_course content left right kind other h.0 g.0 h.1 g.1 h.2 g.2

  -- ---- causes as outcomes

  abbrev pub Shows : List ℕ → PackFault → Type 0
  Shows content fault = (o : Outcome) × HasOutcome content o × (fault_of (length content) o ≡ Some fault)

  shows_broken : (content : List ℕ) (at : ℕ) → NoSection content at → Shows content (faults.NotCar at)
  shows_broken content at n =
      let b = n.broken in
      let r = b.reaches in
      let front_is : n.front ≡ r.header ++ (r.done ++ (b.rest ++ b.last ∷ [])) =
      b.whole ∙ (ap (λ (l : List ℕ). l ++ b.last ∷ []) r.whole ∙ (append_assoc r.header (r.done ++ b.rest) (b.last ∷ []) ∙ ap (λ (l : List ℕ). r.header ++ l) (append_assoc r.done b.rest (b.last ∷ [])))) in
      let rest : List ℕ = b.rest ++ b.last ∷ n.more in
      let whole_is : content ≡ r.header ++ (r.done ++ rest) =
      n.whole ∙ (ap (λ (l : List ℕ). l ++ n.more) (b.whole ∙ ap (λ (l : List ℕ). l ++ b.last ∷ []) r.whole)
      ∙ (append_assoc (r.header ++ (r.done ++ b.rest)) (b.last ∷ []) n.more
      ∙ (append_assoc r.header (r.done ++ b.rest) (b.last ∷ n.more) ∙ ap (λ (l : List ℕ). r.header ++ l) (append_assoc r.done b.rest (b.last ∷ n.more))))) in
      let course : Course content = course_of content rest r n.sound whole_is in
      let none : (section : Section) (behind : List ℕ) → SectionText section ((b.rest ++ b.last ∷ []) ++ behind) → ⊥ = λ section behind text.
      b.hopeless (
        r.roots,
        b.sections ++ section ∷ [],
        behind,
        record {
          header = r.header;
          rest = r.done ++ ((b.rest ++ b.last ∷ []) ++ behind);
          whole = ap (λ (l : List ℕ). l ++ behind) front_is
              ∙ (append_assoc r.header (r.done ++ (b.rest ++ b.last ∷ [])) behind ∙ ap (λ (l : List ℕ). r.header ++ l) (append_assoc r.done (b.rest ++ b.last ∷ []) behind));
          header_is = r.header_is;
          sections_are = sections_join b.sections (section ∷ []) r.done ((b.rest ++ b.last ∷ []) ++ behind) r.sections_are (one_text section ((b.rest ++ b.last ∷ []) ++ behind) text);
        },
      ) in
      let size : length content ≡ length n.front + length n.more = ap length n.whole ∙ length-append n.front n.more in
      let front : length n.front ≡ length b.before + 1 = ap length b.whole ∙ length-append b.before (b.last ∷ []) in
      let left : length rest ≡ length b.rest + (length n.more + 1) = length-append b.rest (b.last ∷ n.more) ∙ omega arith in
      let place_is : n.place ≡ length b.before - length b.rest = b.at_is in
      let place : length content - length rest ≡ n.place = omega arith in (
        ends (length rest) broken,
        (course, refl, record { before = b.rest; last = b.last; more = n.more; whole_is = refl; went_on = b.went_on; within = b.within; none = none }),
        ap (λ k. Some (faults.NotCar (shown k))) place ∙ ap (λ k. Some (faults.NotCar k)) (sym n.at_is),
      )

  shows_above : (content : List ℕ) (at : ℕ) → AboveLimit content at → Shows content (faults.BlockLimit at)
  shows_above content at n =
      let p = n.passes in
      let r = p.reaches in
      let head : List ℕ = p.size ++ p.name in
      let rest : List ℕ = head ++ n.more in
      let whole_is : content ≡ r.header ++ (r.done ++ rest) =
      n.whole ∙ (ap (λ (l : List ℕ). l ++ n.more) r.whole ∙ (append_assoc r.header (r.done ++ head) n.more ∙ ap (λ (l : List ℕ). r.header ++ l) (append_assoc r.done head n.more))) in
      let course : Course content = course_of content rest r n.sound whole_is in
      let size : length content ≡ length n.front + length n.more = ap length n.whole ∙ length-append n.front n.more in
      let left : length rest ≡ length head + length n.more = length-append head n.more in
      let place_is : n.place ≡ length n.front - length head = p.at_is in
      let place : length content - length rest ≡ n.place = omega arith in (
        ends (length rest) above,
        (course, refl, record { cid = p.cid; size = p.size; name = p.name; number = p.number; more = n.more; whole_is = refl; size_is = p.size_is; name_is = p.name_is; high = p.above }),
        ap (λ k. Some (faults.BlockLimit (shown k))) place ∙ ap (λ k. Some (faults.BlockLimit k)) (sym n.at_is),
      )

  shows_wrong : (content : List ℕ) (at : ℕ) → WrongDigest content at → Shows content (faults.BadDigest at)
  shows_wrong content at n =
      let r = n.reaches in
      let rest : List ℕ = n.text ++ n.more in
      let front_is : n.front ≡ r.header ++ r.done = r.whole ∙ ap (λ (l : List ℕ). r.header ++ l) (append-nil r.done) in
      let course : Course content = course_of content rest r n.sound (n.whole ∙ (ap (λ (l : List ℕ). l ++ rest) front_is ∙ append_assoc r.header r.done rest)) in
      let size : length content ≡ length n.front + length rest = ap length n.whole ∙ length-append n.front rest in
      let place : length content - length rest ≡ length n.front = omega arith in (
        ends (length rest) wrong,
        (course, refl, record { section = n.section; text = n.text; more = n.more; whole = refl; text_is = n.text_is; holds = (n.small, n.wrong); left = omega arith }),
        ap (λ k. Some (faults.BadDigest (shown k))) place ∙ ap (λ k. Some (faults.BadDigest k)) (sym n.at_is),
      )

  shows_inside : (content : List ℕ) (at : ℕ) → EndsInside content at → Shows content (faults.Truncated at)
  shows_inside content at n =
      let e = n.ends in
      let r = e.reaches in
      let course : Course content = course_of content e.rest r n.sound r.whole in
      let place : length content - length e.rest ≡ n.place = sym e.at_is in (
        ends (length e.rest) inside,
        (course, refl, (e.inside, e.begun, n.within)),
        ap (λ k. Some (faults.Truncated (shown k))) place ∙ ap (λ k. Some (faults.Truncated k)) (sym n.at_is),
      )

  pub shows : (content : List ℕ) (fault : PackFault) → HasPackCause content fault → Shows content fault
  shows content (faults.NotCar at) (inl n) =
      (bad_header, record { front = n.front; more = n.more; whole_is = n.whole; breaks = n.broken }, ap (λ k. Some (faults.NotCar k)) (sym n.at_is))
  shows content (faults.NotCar at) (inr n) = shows_broken content at n
  shows content (faults.BadDigest at) h = shows_wrong content at h
  shows content faults.Unfinished h = (unfinished, h, refl)
  shows content (faults.Truncated at) (inl n) = (in_header, n.1, ap (λ k. Some (faults.Truncated k)) (sym n.0))
  shows content (faults.Truncated at) (inr n) = shows_inside content at n
  shows content faults.Failed h = absurd h
  shows content (faults.BlockLimit at) h = shows_above content at h
  shows content faults.OutOfMemory h = absurd h

  -- no two causes hold of one content
  pub one_cause : (content : List ℕ) (f g : PackFault) → HasPackCause content f → HasPackCause content g → f ≡ g
  one_cause content f g h k =
      let a = shows content f h in
      let b = shows content g k in
      let both : a.0 ≡ b.0 = one_outcome content a.0 b.0 a.1 b.1 in
      let some : Some f ≡ Some g = sym a.2 ∙ (ap (fault_of (length content)) both ∙ b.2) in
      cc some

  -- and none of a pack that is attached
  pub no_cause : (content : List ℕ) (store : Store) (fault : PackFault) → IsAttached content store → HasPackCause content fault → ⊥
  no_cause content store fault a h =
      let b = shows content fault h in
      let t = a.text in
      let course : Course content = record {
        roots = a.roots;
        header = t.header;
        sections = a.sections;
        done = t.rest;
        rest = [];
        whole_is = t.whole ∙ ap (λ (l : List ℕ). t.header ++ l) (sym (append-nil t.rest));
        header_is = t.header_is;
        sections_are = t.sections_are;
        small = a.small;
        sound = record { finished = a.finished; named = a.named };
      } in
      let whole_one : HasOutcome content (ends 0 whole) = (course, refl, refl) in
      let both : ends 0 whole ≡ b.0 = one_outcome content (ends 0 whole) b.0 whole_one b.1 in
      let some : None ≡ Some fault = ap (fault_of (length content)) both ∙ b.2 in
      cc some
