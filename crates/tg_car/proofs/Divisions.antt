-- What bytes that a reader took are, and that they are so in one way.
use Rattle.std.proofs.Common.{◌≡◌, ℕ, ◌<◌, ◌≤◌, List, [], ◌∷◌, ◌++◌, length, All, refl, ap, ap₂, sym, ◌∙◌, subst, inl, inr, arith}
use Rattle.std.proofs.lemmas.Bool.{cases_lt}
use Rattle.std.proofs.lemmas.List.{append_assoc, append-nil, append_cancel_left, length-append, length_push}
use Rattle.std.proofs.lemmas.List.Elements.{All-head}
use Rattle.tg_bytes.specs.Lists.{longer, All-split}
use Rattle.tg_car.specs.TextLaws.{TextLaws}
use Rattle.tg_cid.specs.Cid.{CidParts}
use Rattle.tg_car.specs.declared.section.Section.{Section}
use Rattle.tg_car.specs.declared.fault.CarFault.{CarFault}
use Rattle.tg_car.specs.declared.fault.CarFault.TheVariants as faults
use Rattle.tg_car.specs.CarText.{HeaderText, SectionsText, CarText}
use Rattle.tg_car.specs.Fronts.{IsCarFront, IsInHeader, IsInSection, IsWithin, Reaches}
use Rattle.tg_car.specs.declared.event.Event.{Event}
use Rattle.tg_car.specs.declared.event.Event.TheVariants as events
use Rattle.tg_car.specs.Faults.{Brings, PassesLimit, HasCarCause}
use Rattle.tg_car.specs.Heads.{HeadText, IsInHead, IsNoHead}
use Rattle.tg_car.specs.History.{History, IsBeforeSections, IsAmongSections, ArePlaced, GoesOn, IsExact}
use Rattle.tg_car.proofs.Heads.{one_head, no_head_behind}
use Rattle.tg_car.proofs.OneText.{one_header}
use Rattle.tg_car.proofs.Openings.{nothing_in_head}
use Rattle.tg_car.proofs.Parts.{head_inside}
use Rattle.tg_car.proofs.Sections.{section_head, section_whole, Onward, onward, none_inside, push_section, same_placed}

pub same_header : TextLaws → (a b : List (List ℕ)) (u v x y : List ℕ) → HeaderText a u → HeaderText b v → u ++ x ≡ v ++ y → (u ≡ v) × (a ≡ b)
same_header laws = one_header laws.varints.no_front

-- no whole header stands at the front of bytes inside a header
pub none_in_header : TextLaws → (roots : List (List ℕ)) (u x r : List ℕ) → HeaderText roots u → u ++ x ≡ r → IsInHeader r → ⊥
none_in_header laws roots u x r text e inside =
    let whole : u ++ (x ++ inside.more) ≡ (r ++ inside.more) ++ [] =
    sym (append_assoc u x inside.more) ∙ (ap (λ (l : List ℕ). l ++ inside.more) e ∙ sym (append-nil (r ++ inside.more))) in
    let same = same_header laws roots inside.roots u (r ++ inside.more) (x ++ inside.more) [] text inside.text whole in
    let lengths : length u ≡ length (r ++ inside.more) = ap length same.0 in
    let parts : length (u ++ x) ≡ length r = ap length e in
    let some : 0 < length inside.more = inside.not_whole in
    omega (arith, length-append u x, length-append r inside.more)

-- where a header goes on and none does with one more byte, no CAR does
pub no_car_in_header : TextLaws → (a : List ℕ) (b : ℕ) → IsInHeader a → ((roots : List (List ℕ)) (rest : List ℕ) → HeaderText roots (a ++ b ∷ rest) → ⊥)
    → IsCarFront (a ++ b ∷ []) → ⊥
no_car_in_header laws a b inside none front =
    let car = front.3 in
    let more = front.2 in
    let whole : car.header ++ car.rest ≡ a ++ b ∷ more = sym car.whole ∙ append_assoc a (b ∷ []) more in
    elim (cases_lt (length a) (length car.header)) [
      | inl past ↦
          let long : (a ++ b ∷ []) ++ more ≡ a ++ b ∷ more = append_assoc a (b ∷ []) more in
          let l = longer (a ++ b ∷ []) car.header more car.rest (sym (whole ∙ sym long)) (omega (arith, length_push a b)) in
          none front.0 l.middle (subst (HeaderText front.0) (l.first ∙ append_assoc a (b ∷ []) l.middle) car.header_is)
      | inr less ↦
          let l = longer car.header a car.rest (b ∷ more) whole less in
          none_in_header laws front.0 car.header l.middle a car.header_is (sym l.first) inside
    ]

nothing_inside : TextLaws → IsInSection []
nothing_inside laws = head_inside [] (nothing_in_head laws [] refl)

-- the sections of two readings, of which the one goes on to bytes inside a section
pub going_on : TextLaws → (limit : ℕ) (roots : List (List ℕ)) (header d r : List ℕ) (ss ts : List Section) (front more q : List ℕ)
    → HeaderText roots header → SectionsText ss d → IsInSection r → (reached : Reaches limit front ts q)
    → header ++ (d ++ r) ≡ front ++ more → Onward ss ts d reached.done (q ++ more) r
going_on laws limit roots header d r ss ts front more q text sections inside reached e =
    let whole : front ++ more ≡ reached.header ++ (reached.done ++ (q ++ more)) =
    ap (λ (l : List ℕ). l ++ more) reached.whole
    ∙ (append_assoc reached.header (reached.done ++ q) more ∙ ap (λ (l : List ℕ). reached.header ++ l) (append_assoc reached.done q more)) in
    let both : header ++ (d ++ r) ≡ reached.header ++ (reached.done ++ (q ++ more)) = e ∙ whole in
    let headers = same_header laws roots reached.roots header reached.header (d ++ r) (reached.done ++ (q ++ more)) text reached.header_is both in
    let rests : d ++ r ≡ reached.done ++ (q ++ more) =
    append_cancel_left reached.header (d ++ r) (reached.done ++ (q ++ more)) (ap (λ (l : List ℕ). l ++ (d ++ r)) (sym headers.0) ∙ both) in
    onward laws ts ss d reached.done (q ++ more) r reached.sections_are sections inside rests

no_section_so : TextLaws → (us : List Section) (head : List ℕ) (b : ℕ) (more middle : List ℕ) → IsInHead head → IsNoHead (head ++ b ∷ [])
    → SectionsText us middle → head ++ b ∷ more ≡ middle → ⊥
no_section_so laws [] head b more middle inside none text e =
    let lengths : length (head ++ b ∷ more) ≡ length middle = ap length e in
    let nothing : length middle ≡ 0 = ap length text in
    omega (arith, length-append head (b ∷ more))
no_section_so laws (s ∷ us) head b more middle inside none text e =
    let t = text.3 in
    let u = t.size ++ t.name in
    let whole : u ++ (s.block ++ text.1) ≡ head ++ b ∷ more =
    sym (append_assoc u s.block text.1) ∙ (ap (λ (l : List ℕ). l ++ text.1) (sym (section_whole s text.0 t)) ∙ (sym text.2 ∙ sym e)) in
    no_head_behind laws head b s.cid (length s.block) u (s.block ++ text.1) more inside none (section_head s text.0 t) whole

-- where a section's length and CID go on and none do with one more byte, no CAR does
pub no_car_in_section : TextLaws → (limit : ℕ) (bytes : List ℕ) (ts : List Section) (head : List ℕ) (b : ℕ) → Reaches limit bytes ts head → IsInHead head
    → IsNoHead (head ++ b ∷ []) → IsCarFront (bytes ++ b ∷ []) → ⊥
no_car_in_section laws limit bytes ts head b reached inside none front =
    let car = front.3 in
    let more = front.2 in
    let whole : car.header ++ (car.rest ++ []) ≡ bytes ++ b ∷ more =
    ap (λ (l : List ℕ). car.header ++ l) (append-nil car.rest) ∙ (sym car.whole ∙ append_assoc bytes (b ∷ []) more) in
    let on = going_on laws limit front.0 car.header car.rest [] front.1 ts bytes (b ∷ more) head car.header_is car.sections_are (nothing_inside laws) reached whole in
    no_section_so laws on.sections head b more on.middle inside none on.text (on.rest ∙ append-nil on.middle)

-- bytes inside a section begin a CAR
pub section_front : (limit : ℕ) (bytes : List ℕ) (ss : List Section) (r : List ℕ) → Reaches limit bytes ss r → IsInSection r → IsCarFront bytes
section_front limit bytes ss r reached inside =
    let text = push_section ss inside.section reached.done (r ++ inside.more) reached.sections_are inside.text in (
      reached.roots,
      ss ++ inside.section ∷ [],
      inside.more,
      record {
        header = reached.header;
        rest = reached.done ++ (r ++ inside.more);
        whole = ap (λ (l : List ℕ). l ++ inside.more) reached.whole
            ∙ (append_assoc reached.header (reached.done ++ r) inside.more
            ∙ ap (λ (l : List ℕ). reached.header ++ l) (append_assoc reached.done r inside.more));
        header_is = reached.header_is;
        sections_are = text;
      },
    )

pub header_front : (bytes : List ℕ) → IsInHeader bytes → IsCarFront bytes
header_front bytes inside = (
  inside.roots,
  [],
  inside.more,
  record {
    header = bytes ++ inside.more;
    rest = [];
    whole = sym (append-nil (bytes ++ inside.more));
    header_is = inside.text;
    sections_are = refl;
  },
)

shorter_front : (front more bytes : List ℕ) → bytes ≡ front ++ more → IsCarFront bytes → IsCarFront front
shorter_front front more bytes e f =
    (f.0, f.1, more ++ f.2, subst (CarText f.0 f.1) (ap (λ (l : List ℕ). l ++ f.2) e ∙ append_assoc front more f.2) f.3)

goes_front : (limit : ℕ) (fed : List ℕ) (given : List Event) → GoesOn limit fed given → IsCarFront fed
goes_front limit fed given (inl b) = header_front fed b.inside
goes_front limit fed given (inr a) = section_front limit fed a.1.sections a.0 a.1.reaches a.1.inside

-- no section of these passes the limit
none_above : TextLaws → (limit : ℕ) (us : List Section) (c : CidParts) (number : ℕ) (head more middle r : List ℕ) → HeadText c number head → limit < number
    → SectionsText us middle → All (λ s. length s.block ≤ limit) us → IsWithin limit r → head ++ more ≡ middle ++ r → ⊥
none_above laws limit [] c number head more middle r h above text all within e =
    let whole : r ≡ h.size ++ (h.name ++ more) =
    ap (λ (l : List ℕ). l ++ r) (sym text) ∙ (sym e ∙ (ap (λ (l : List ℕ). l ++ more) h.whole ∙ append_assoc h.size h.name more)) in
    let most : number ≤ limit =
    within number (record { cid = c; size = h.size; name = h.name; begun = more; whole = whole; size_is = h.size_is; name_is = h.name_is }) in
    omega arith
none_above laws limit (s ∷ us) c number head more middle r h above text all within e =
    let t = text.3 in
    let u = t.size ++ t.name in
    let whole : head ++ more ≡ u ++ (s.block ++ (text.1 ++ r)) =
    e ∙ (ap (λ (l : List ℕ). l ++ r) text.2 ∙ (append_assoc text.0 text.1 r
    ∙ (ap (λ (l : List ℕ). l ++ (text.1 ++ r)) (section_whole s text.0 t) ∙ append_assoc u s.block (text.1 ++ r)))) in
    let same = one_head laws c s.cid number (length s.block) head u more (s.block ++ (text.1 ++ r)) h (section_head s text.0 t) whole in
    let numbers : number ≡ length s.block = same.numbers in
    let most : length s.block ≤ limit = All-head (λ (x : Section). length x.block ≤ limit) s us all in
    omega arith

limit_kept : TextLaws → (limit : ℕ) (fed : List ℕ) (given : List Event) (front more : List ℕ) (at : ℕ) → GoesOn limit fed given → fed ≡ front ++ more
    → PassesLimit limit front at → ⊥
limit_kept laws limit fed given front more at (inl b) e p =
    let reached = p.reaches in
    let whole : reached.header ++ ((reached.done ++ (p.size ++ p.name)) ++ more) ≡ fed =
    sym (append_assoc reached.header (reached.done ++ (p.size ++ p.name)) more) ∙ (ap (λ (l : List ℕ). l ++ more) (sym reached.whole) ∙ sym e) in
    none_in_header laws reached.roots reached.header ((reached.done ++ (p.size ++ p.name)) ++ more) fed reached.header_is whole b.inside
limit_kept laws limit fed given front more at (inr a) e p =
    let r = a.0 in
    let own = a.1.reaches in
    let on = going_on laws limit own.roots own.header own.done r a.1.sections p.sections front more (p.size ++ p.name) own.header_is own.sections_are a.1.inside p.reaches (sym own.whole ∙ e) in
    let text : HeadText p.cid p.number (p.size ++ p.name) = record { size = p.size; name = p.name; whole = refl; size_is = p.size_is; name_is = p.name_is } in
    let within : All (λ s. length s.block ≤ limit) on.sections =
    (All-split (λ (s : Section). length s.block ≤ limit) p.sections on.sections
    (subst (λ (ss : List Section). All (λ s. length s.block ≤ limit) ss) on.sections_are own.within)).1 in
    none_above laws limit on.sections p.cid p.number (p.size ++ p.name) more on.middle r text p.above on.text within a.1.within on.rest

-- bytes that go on have no front that brings a fault
pub missed : TextLaws → (limit : ℕ) (fed : List ℕ) (given : List Event) (front more : List ℕ) (fault : CarFault) → GoesOn limit fed given
    → (fault ≡ faults.OutOfMemory → ⊥) → fed ≡ front ++ more → Brings limit front fault → ⊥
missed laws limit fed given front more (faults.BadHeader at) g o e c = c.1.hopeless (shorter_front front more fed e (goes_front limit fed given g))
missed laws limit fed given front more (faults.BadSection at) g o e c = c.2.hopeless (shorter_front front more fed e (goes_front limit fed given g))
missed laws limit fed given front more (faults.BlockLimit at number) g o e c = limit_kept laws limit fed given front more c.1 g e c.3
missed laws limit fed given front more (faults.Torn at) g o e c = c
missed laws limit fed given front more faults.OutOfMemory g o e c = o refl

pub none_missed : TextLaws → (limit : ℕ) (h : History) (fault : CarFault) → IsExact limit h → HasCarCause limit h.fed fault → ⊥
none_missed laws limit h fault exact c = missed laws limit h.fed h.given c.1 c.2 fault exact.goes_on c.0 c.3 c.4

pub nothing_left : TextLaws → (us : List Section) (middle r q : List ℕ) → SectionsText us middle → IsInSection q → q ≡ middle ++ r → us ≡ []
nothing_left laws [] middle r q text inside e = refl
nothing_left laws (s ∷ us) middle r q text inside e =
    absurd (none_inside laws s text.0 (text.1 ++ r) q text.3
    (sym (append_assoc text.0 text.1 r) ∙ (ap (λ (l : List ℕ). l ++ r) (sym text.2) ∙ sym e)) inside)

apart : TextLaws → (limit : ℕ) (fed : List ℕ) (given other : List Event) (r : List ℕ) → IsBeforeSections fed given → IsAmongSections limit fed other r → ⊥
apart laws limit fed given other r b a =
    none_in_header laws a.reaches.roots a.reaches.header (a.reaches.done ++ r) fed a.reaches.header_is (sym a.reaches.whole) b.inside

pub same_given : TextLaws → (limit : ℕ) (fed : List ℕ) (given other : List Event) → GoesOn limit fed given → GoesOn limit fed other → given ≡ other
same_given laws limit fed given other (inl a) (inl b) = a.nothing_given ∙ sym b.nothing_given
same_given laws limit fed given other (inl a) (inr b) = absurd (apart laws limit fed given other b.0 a b.1)
same_given laws limit fed given other (inr a) (inl b) = absurd (apart laws limit fed other given a.0 b a.1)
same_given laws limit fed given other (inr a) (inr b) =
    let own = a.1.reaches in
    let its = b.1.reaches in
    let both : own.header ++ (own.done ++ a.0) ≡ its.header ++ (its.done ++ b.0) = sym own.whole ∙ its.whole in
    let headers = same_header laws own.roots its.roots own.header its.header (own.done ++ a.0) (its.done ++ b.0) own.header_is its.header_is both in
    let rests : own.done ++ a.0 ≡ its.done ++ b.0 =
    append_cancel_left its.header (own.done ++ a.0) (its.done ++ b.0) (ap (λ (l : List ℕ). l ++ (own.done ++ a.0)) (sym headers.0) ∙ both) in
    let on = onward laws b.1.sections a.1.sections own.done its.done b.0 a.0 its.sections_are own.sections_are a.1.inside rests in
    let none : on.sections ≡ [] = nothing_left laws on.sections on.middle a.0 b.0 on.text b.1.inside on.rest in
    let sections : a.1.sections ≡ b.1.sections =
    on.sections_are ∙ (ap (λ (l : List Section). b.1.sections ++ l) none ∙ append-nil b.1.sections) in
    let theirs : ArePlaced (length own.header) a.1.sections its.done b.1.placed =
    subst (λ (ss : List Section). ArePlaced (length own.header) ss its.done b.1.placed) (sym sections)
    (subst (λ (l : List ℕ). ArePlaced (length l) b.1.sections its.done b.1.placed) (sym headers.0) b.1.placed_are) in
    let placed : a.1.placed ≡ b.1.placed =
    same_placed laws (length own.header) a.1.sections own.done its.done a.0 b.0 a.1.placed b.1.placed a.1.placed_are theirs rests in
    a.1.given_is ∙ (ap₂ (λ (l : List ℕ) (m : List Event). events.Header l ∷ m) headers.0 placed ∙ sym b.1.given_is)

pub one_division : TextLaws → (limit : ℕ) (g h : History) → IsExact limit g → IsExact limit h → g.fed ≡ h.fed → g.given ≡ h.given
one_division laws limit g h a b e =
    same_given laws limit h.fed g.given h.given (subst (λ (l : List ℕ). GoesOn limit l g.given) e a.goes_on) b.goes_on
